-- Worked requests, as bytes.
use Rattle.std.specs.Prelude.{◌≡◌, refl, ⊤, ℕ, ℤ, pos, List, [], ◌∷◌, map, true, false, Some, None, unwrap_or, codes}
use Rattle.serde_json.proofs.OnLiterals.{serde_json_on_literals}
use Rattle.std.specs.Str.{is_utf8, chars}
use Rattle.std.specs.Fmt.{digits}
use Rattle.base64.specs.Rfc4648.{encode_symbols}
use Rattle.base64.specs.Decode.{groups_error, groups_bytes, scan_steps}
use Rattle.kv_model.specs.World.{World, opening}
use Rattle.kv_model.specs.Requests.{request_of, range_query, put_request, delete_request, compare_request, txn_request}
use Rattle.kv_model.specs.Requests.{watch_request, watch_create, grant_request, time_to_live_request, decoded}
use Rattle.kv_model.specs.declared.ids.Ids.{Ids}
use Rattle.kv_model.specs.Answers.{Response, bytes_text, header, key_value_text, range_text, put_text, delete_text}
use Rattle.kv_model.specs.Answers.{txn_text, short_header, response, responses, header_alone, result_text, lease_text}
use Rattle.kv_model.specs.Answers.{reply_text, fault_text, created_text, tombstone_text, event_text, events_text}
use Rattle.kv_model.specs.Answers.{cancelled_text, response_to, message_text}
use Rattle.kv_model.specs.Wire.{WireEvent, WireTold, wire_step, reply_to}
use Rattle.kv_model.specs.SampleRuns.{Event, Told, told_by}
use Rattle.kv_model.specs.Samples.{a, one, two, put_event, delete_event, watch_event, compact_event}
use Rattle.kv_model.specs.OnLiterals.{model_on_literals}

abbrev pub ones : Ids
ones = record { cluster = 1; member = 1 }

-- an `unfolding` line that names this opens the definitions of requests and answers
unfoldable pub wire_on_literals : ⊤
unfolding request_of range_query put_request delete_request compare_request txn_request watch_request watch_create grant_request time_to_live_request decoded bytes_text header key_value_text range_text put_text delete_text txn_text short_header response responses header_alone result_text lease_text reply_text fault_text created_text tombstone_text event_text events_text cancelled_text
wire_on_literals = tt

-- what is answered to requests in turn
abbrev pub posts : World → List (List ℕ × List ℕ) → List Response
posts w [] = []
posts w (r ∷ rs) = (reply_to ones w r.0 r.1).0 ∷ posts (reply_to ones w r.0 r.1).1 rs

abbrev pub ok : List ℕ → Response
ok body = record { status = 200; body = body }

pub put_and_range : posts opening ((codes "/v3/kv/put", codes "{\"key\":\"Zm9v\",\"value\":\"YmFy\"}") ∷ (codes "/v3/kv/range", codes "{\"key\":\"Zm9v\"}") ∷ [])
    ≡ ok (codes "{\"header\":{\"cluster_id\":\"1\",\"member_id\":\"1\",\"raft_term\":\"1\",\"revision\":\"2\"}}") ∷ ok (codes "{\"count\":\"1\",\"header\":{\"cluster_id\":\"1\",\"member_id\":\"1\",\"raft_term\":\"1\",\"revision\":\"2\"},\"kvs\":[{\"create_revision\":\"2\",\"key\":\"Zm9v\",\"mod_revision\":\"2\",\"value\":\"YmFy\",\"version\":\"1\"}]}") ∷ []
unfolding model_on_literals wire_on_literals serde_json_on_literals is_utf8 chars digits encode_symbols groups_error groups_bytes scan_steps
put_and_range = refl

pub range_of_nothing : posts opening ((codes "/v3/kv/range", codes "{\"key\":\"Zm9v\"}") ∷ [])
    ≡ ok (codes "{\"header\":{\"cluster_id\":\"1\",\"member_id\":\"1\",\"raft_term\":\"1\",\"revision\":\"1\"}}") ∷ []
unfolding model_on_literals wire_on_literals serde_json_on_literals is_utf8 chars digits encode_symbols groups_error groups_bytes scan_steps
range_of_nothing = refl

pub no_key : posts opening ((codes "/v3/kv/put", codes "{\"value\":\"YmFy\"}") ∷ (codes "/v3/kv/put", codes "{\"key\":\"Zm9v\",\"value\":\"YmFy\"}") ∷ [])
    ≡ record { status = 400; body = codes "{\"code\":3,\"error\":\"etcdserver: key is not provided\",\"message\":\"etcdserver: key is not provided\"}" } ∷ ok (codes "{\"header\":{\"cluster_id\":\"1\",\"member_id\":\"1\",\"raft_term\":\"1\",\"revision\":\"2\"}}") ∷ []
unfolding model_on_literals wire_on_literals serde_json_on_literals is_utf8 chars digits encode_symbols groups_error groups_bytes scan_steps
no_key = refl

pub camel_case : posts opening ((codes "/v3/kv/put", codes "{\"key\":\"Zm9v\",\"value\":\"YmFy\"}") ∷ (codes "/v3/kv/range", codes "{\"key\":\"Zm9v\",\"rangeEnd\":null,\"other\":[1]}") ∷ [])
    ≡ ok (codes "{\"header\":{\"cluster_id\":\"1\",\"member_id\":\"1\",\"raft_term\":\"1\",\"revision\":\"2\"}}") ∷ ok (codes "{\"count\":\"1\",\"header\":{\"cluster_id\":\"1\",\"member_id\":\"1\",\"raft_term\":\"1\",\"revision\":\"2\"},\"kvs\":[{\"create_revision\":\"2\",\"key\":\"Zm9v\",\"mod_revision\":\"2\",\"value\":\"YmFy\",\"version\":\"1\"}]}") ∷ []
unfolding model_on_literals wire_on_literals serde_json_on_literals is_utf8 chars digits encode_symbols groups_error groups_bytes scan_steps
camel_case = refl

pub alphabets : posts opening ((codes "/v3/kv/put", codes "{\"key\":\"/+8=\"}") ∷ (codes "/v3/kv/range", codes "{\"key\":\"_-8\",\"limit\":\"10\"}") ∷ (codes "/v3/kv/range", codes "{\"key\":\"_-8\",\"limit\":10}") ∷ (codes "/v3/kv/range", codes "{\"key\":\"Zm9\"}") ∷ (codes "/v3/kv/range", codes "{\"key\":\"Zm9v\"") ∷ (codes "/v3/kv/range", codes "{\"key\":\"Zm9v\",\"limit\":1.5}") ∷ [])
    ≡ ok (codes "{\"header\":{\"cluster_id\":\"1\",\"member_id\":\"1\",\"raft_term\":\"1\",\"revision\":\"2\"}}") ∷ ok (codes "{\"count\":\"1\",\"header\":{\"cluster_id\":\"1\",\"member_id\":\"1\",\"raft_term\":\"1\",\"revision\":\"2\"},\"kvs\":[{\"create_revision\":\"2\",\"key\":\"/+8=\",\"mod_revision\":\"2\",\"version\":\"1\"}]}") ∷ ok (codes "{\"count\":\"1\",\"header\":{\"cluster_id\":\"1\",\"member_id\":\"1\",\"raft_term\":\"1\",\"revision\":\"2\"},\"kvs\":[{\"create_revision\":\"2\",\"key\":\"/+8=\",\"mod_revision\":\"2\",\"version\":\"1\"}]}") ∷ record { status = 400; body = codes "{\"code\":3,\"error\":\"gateway: bad base64 in key\",\"message\":\"gateway: bad base64 in key\"}" } ∷ record { status = 400; body = codes "{\"code\":3,\"error\":\"gateway: body is not a JSON object\",\"message\":\"gateway: body is not a JSON object\"}" } ∷ record { status = 400; body = codes "{\"code\":3,\"error\":\"gateway: bad field limit\",\"message\":\"gateway: bad field limit\"}" } ∷ []
unfolding model_on_literals wire_on_literals serde_json_on_literals is_utf8 chars digits encode_symbols groups_error groups_bytes scan_steps
alphabets = refl

pub within_a_transaction : posts opening ((codes "/v3/kv/txn", codes "{\"success\":[{\"request_put\":{\"key\":\"eA==\",\"value\":\"MQ==\"}},{\"request_range\":{\"key\":\"AA==\",\"range_end\":\"AA==\"}},{\"request_put\":{\"key\":\"eQ==\",\"value\":\"Mg==\"}},{\"request_range\":{\"key\":\"AA==\",\"range_end\":\"AA==\"}}]}") ∷ [])
    ≡ ok (codes "{\"header\":{\"cluster_id\":\"1\",\"member_id\":\"1\",\"raft_term\":\"1\",\"revision\":\"2\"},\"responses\":[{\"response_put\":{\"header\":{\"revision\":\"2\"}}},{\"response_range\":{\"count\":\"1\",\"header\":{\"revision\":\"2\"},\"kvs\":[{\"create_revision\":\"2\",\"key\":\"eA==\",\"mod_revision\":\"2\",\"value\":\"MQ==\",\"version\":\"1\"}]}},{\"response_put\":{\"header\":{\"revision\":\"2\"}}},{\"response_range\":{\"count\":\"2\",\"header\":{\"revision\":\"2\"},\"kvs\":[{\"create_revision\":\"2\",\"key\":\"eA==\",\"mod_revision\":\"2\",\"value\":\"MQ==\",\"version\":\"1\"},{\"create_revision\":\"2\",\"key\":\"eQ==\",\"mod_revision\":\"2\",\"value\":\"Mg==\",\"version\":\"1\"}]}}],\"succeeded\":true}") ∷ []
unfolding model_on_literals wire_on_literals serde_json_on_literals is_utf8 chars digits encode_symbols groups_error groups_bytes scan_steps
within_a_transaction = refl

pub nested : posts opening ((codes "/v3/kv/txn", codes "{\"success\":[{\"request_put\":{\"key\":\"eA==\"}},{\"request_txn\":{\"compare\":[{\"key\":\"eA==\",\"target\":\"VERSION\",\"result\":\"EQUAL\",\"version\":\"0\"}],\"success\":[{\"request_put\":{\"key\":\"eQ==\",\"value\":\"MQ==\"}}],\"failure\":[{\"request_put\":{\"key\":\"eQ==\",\"value\":\"Mg==\"}}]}}]}")
    ∷ (codes "/v3/kv/txn", codes "{\"success\":[{\"request_put\":{\"key\":\"eA==\"}},{\"request_txn\":{\"compare\":[{\"key\":\"eA==\",\"target\":\"VERSION\",\"result\":\"EQUAL\",\"version\":\"0\"}],\"success\":[{\"request_put\":{\"key\":\"eA==\",\"value\":\"MQ==\"}}],\"failure\":[{\"request_put\":{\"key\":\"eA==\",\"value\":\"Mg==\"}}]}}]}") ∷ [])
    ≡ ok (codes "{\"header\":{\"cluster_id\":\"1\",\"member_id\":\"1\",\"raft_term\":\"1\",\"revision\":\"2\"},\"responses\":[{\"response_put\":{\"header\":{\"revision\":\"2\"}}},{\"response_txn\":{\"header\":{\"revision\":\"2\"},\"responses\":[{\"response_put\":{\"header\":{\"revision\":\"2\"}}}],\"succeeded\":true}}],\"succeeded\":true}")
    ∷ record { status = 400; body = codes "{\"code\":3,\"error\":\"etcdserver: duplicate key given in txn request\",\"message\":\"etcdserver: duplicate key given in txn request\"}" } ∷ []
unfolding model_on_literals wire_on_literals serde_json_on_literals is_utf8 chars digits encode_symbols groups_error groups_bytes scan_steps
nested = refl

pub nine_deep : posts opening ((codes "/v3/kv/txn", codes "{\"success\":[{\"request_txn\":{\"success\":[{\"request_txn\":{\"success\":[{\"request_txn\":{\"success\":[{\"request_txn\":{\"success\":[{\"request_txn\":{\"success\":[{\"request_txn\":{\"success\":[{\"request_txn\":{\"success\":[{\"request_txn\":{\"success\":[]}}]}}]}}]}}]}}]}}]}}]}}]}") ∷ [])
    ≡ record { status = 400; body = codes "{\"code\":3,\"error\":\"etcdserver: too many operations in txn request\",\"message\":\"etcdserver: too many operations in txn request\"}" } ∷ []
unfolding model_on_literals wire_on_literals serde_json_on_literals is_utf8 chars digits encode_symbols groups_error groups_bytes scan_steps
nine_deep = refl

pub no_such_path : posts opening ((codes "/v3/nothing", codes "{}") ∷ (codes "/v3/kv/put", codes "{\"key\":\"YQ==\",\"ignore_value\":true}") ∷ [])
    ≡ record { status = 404; body = codes "{\"code\":5,\"error\":\"gateway: no such path\",\"message\":\"gateway: no such path\"}" } ∷ record { status = 400; body = codes "{\"code\":3,\"error\":\"etcdserver: key not found\",\"message\":\"etcdserver: key not found\"}" } ∷ []
unfolding model_on_literals wire_on_literals serde_json_on_literals is_utf8 chars digits encode_symbols groups_error groups_bytes scan_steps
no_such_path = refl

pub ranges_of_three : posts opening ((codes "/v3/kv/put", codes "{\"key\":\"YQ==\",\"value\":\"MQ==\"}")
    ∷ (codes "/v3/kv/put", codes "{\"key\":\"Yg==\",\"value\":\"MQ==\"}")
    ∷ (codes "/v3/kv/put", codes "{\"key\":\"Yw==\",\"value\":\"MQ==\"}")
    ∷ (codes "/v3/kv/put", codes "{\"key\":\"Yg==\",\"value\":\"Mg==\"}")
    ∷ (codes "/v3/kv/range", codes "{\"key\":\"AA==\",\"range_end\":\"AA==\",\"limit\":\"1\"}")
    ∷ (codes "/v3/kv/range", codes "{\"key\":\"AA==\",\"range_end\":\"AA==\",\"sort_order\":\"DESCEND\",\"sort_target\":\"VERSION\",\"keys_only\":true}")
    ∷ (codes "/v3/kv/range", codes "{\"key\":\"Yg==\",\"range_end\":\"YQ==\"}") ∷ [])
    ≡ ok (codes "{\"header\":{\"cluster_id\":\"1\",\"member_id\":\"1\",\"raft_term\":\"1\",\"revision\":\"2\"}}")
    ∷ ok (codes "{\"header\":{\"cluster_id\":\"1\",\"member_id\":\"1\",\"raft_term\":\"1\",\"revision\":\"3\"}}")
    ∷ ok (codes "{\"header\":{\"cluster_id\":\"1\",\"member_id\":\"1\",\"raft_term\":\"1\",\"revision\":\"4\"}}")
    ∷ ok (codes "{\"header\":{\"cluster_id\":\"1\",\"member_id\":\"1\",\"raft_term\":\"1\",\"revision\":\"5\"}}")
    ∷ ok (codes "{\"count\":\"3\",\"header\":{\"cluster_id\":\"1\",\"member_id\":\"1\",\"raft_term\":\"1\",\"revision\":\"5\"},\"kvs\":[{\"create_revision\":\"2\",\"key\":\"YQ==\",\"mod_revision\":\"2\",\"value\":\"MQ==\",\"version\":\"1\"}],\"more\":true}")
    ∷ ok (codes "{\"count\":\"3\",\"header\":{\"cluster_id\":\"1\",\"member_id\":\"1\",\"raft_term\":\"1\",\"revision\":\"5\"},\"kvs\":[{\"create_revision\":\"3\",\"key\":\"Yg==\",\"mod_revision\":\"5\",\"version\":\"2\"},{\"create_revision\":\"2\",\"key\":\"YQ==\",\"mod_revision\":\"2\",\"version\":\"1\"},{\"create_revision\":\"4\",\"key\":\"Yw==\",\"mod_revision\":\"4\",\"version\":\"1\"}]}")
    ∷ ok (codes "{\"header\":{\"cluster_id\":\"1\",\"member_id\":\"1\",\"raft_term\":\"1\",\"revision\":\"5\"}}") ∷ []
unfolding model_on_literals wire_on_literals serde_json_on_literals is_utf8 chars digits encode_symbols groups_error groups_bytes scan_steps
ranges_of_three = refl

pub old_revisions : posts opening ((codes "/v3/kv/put", codes "{\"key\":\"YQ==\",\"value\":\"MQ==\"}")
    ∷ (codes "/v3/kv/deleterange", codes "{\"key\":\"YQ==\"}")
    ∷ (codes "/v3/kv/put", codes "{\"key\":\"YQ==\",\"value\":\"Mg==\"}")
    ∷ (codes "/v3/kv/range", codes "{\"key\":\"YQ==\",\"revision\":\"2\"}")
    ∷ (codes "/v3/kv/range", codes "{\"key\":\"YQ==\",\"revision\":\"3\"}")
    ∷ (codes "/v3/kv/range", codes "{\"key\":\"YQ==\",\"revision\":\"4\"}")
    ∷ (codes "/v3/kv/range", codes "{\"key\":\"YQ==\",\"revision\":\"5\"}") ∷ [])
    ≡ ok (codes "{\"header\":{\"cluster_id\":\"1\",\"member_id\":\"1\",\"raft_term\":\"1\",\"revision\":\"2\"}}")
    ∷ ok (codes "{\"deleted\":\"1\",\"header\":{\"cluster_id\":\"1\",\"member_id\":\"1\",\"raft_term\":\"1\",\"revision\":\"3\"}}")
    ∷ ok (codes "{\"header\":{\"cluster_id\":\"1\",\"member_id\":\"1\",\"raft_term\":\"1\",\"revision\":\"4\"}}")
    ∷ ok (codes "{\"count\":\"1\",\"header\":{\"cluster_id\":\"1\",\"member_id\":\"1\",\"raft_term\":\"1\",\"revision\":\"4\"},\"kvs\":[{\"create_revision\":\"2\",\"key\":\"YQ==\",\"mod_revision\":\"2\",\"value\":\"MQ==\",\"version\":\"1\"}]}")
    ∷ ok (codes "{\"header\":{\"cluster_id\":\"1\",\"member_id\":\"1\",\"raft_term\":\"1\",\"revision\":\"4\"}}")
    ∷ ok (codes "{\"count\":\"1\",\"header\":{\"cluster_id\":\"1\",\"member_id\":\"1\",\"raft_term\":\"1\",\"revision\":\"4\"},\"kvs\":[{\"create_revision\":\"4\",\"key\":\"YQ==\",\"mod_revision\":\"4\",\"value\":\"Mg==\",\"version\":\"1\"}]}")
    ∷ record { status = 400; body = codes "{\"code\":11,\"error\":\"etcdserver: mvcc: required revision is a future revision\",\"message\":\"etcdserver: mvcc: required revision is a future revision\"}" } ∷ []
unfolding model_on_literals wire_on_literals serde_json_on_literals is_utf8 chars digits encode_symbols groups_error groups_bytes scan_steps
old_revisions = refl

-- ---- runs with moments and expiries

pub data Wired : Type 0 where
  post : List ℕ → List ℕ → Wired
  moment : ℕ → Wired
  expire : Wired

pub data Said : Type 0 where
  reply : Response → Said
  quiet : Said

abbrev pub wired : World → Wired → Said × World
wired w (Wired.post path body) = (Said.reply (reply_to ones w path body).0, (reply_to ones w path body).1)
wired w (Wired.moment m) = (Said.quiet, (wire_step ones w (WireEvent.moment m)).1)
wired w Wired.expire = (Said.quiet, (wire_step ones w WireEvent.expire).1)

abbrev pub run_wired : World → List Wired → List Said
run_wired w [] = []
run_wired w (e ∷ es) = (wired w e).0 ∷ run_wired (wired w e).1 es

pub a_lease : run_wired opening (Wired.moment 1000
    ∷ Wired.post (codes "/v3/lease/grant") (codes "{\"TTL\":\"10\",\"ID\":\"7\"}")
    ∷ Wired.post (codes "/v3/kv/put") (codes "{\"key\":\"YQ==\",\"value\":\"MQ==\",\"lease\":\"7\"}")
    ∷ Wired.post (codes "/v3/kv/put") (codes "{\"key\":\"Yg==\",\"value\":\"MQ==\",\"lease\":\"7\"}")
    ∷ Wired.post (codes "/v3/kv/put") (codes "{\"key\":\"Yg==\",\"value\":\"MQ==\"}")
    ∷ Wired.post (codes "/v3/kv/put") (codes "{\"key\":\"Yw==\",\"value\":\"MQ==\",\"lease\":\"7\"}")
    ∷ Wired.post (codes "/v3/lease/timetolive") (codes "{\"ID\":\"7\",\"keys\":true}")
    ∷ Wired.moment 11000
    ∷ Wired.expire
    ∷ Wired.post (codes "/v3/lease/keepalive") (codes "{\"ID\":\"7\"}")
    ∷ Wired.post (codes "/v3/lease/timetolive") (codes "{\"ID\":\"7\"}")
    ∷ Wired.post (codes "/v3/lease/revoke") (codes "{\"ID\":\"7\"}") ∷ [])
    ≡ Said.quiet
    ∷ Said.reply (record { status = 200; body = codes "{\"ID\":\"7\",\"TTL\":\"10\",\"header\":{\"cluster_id\":\"1\",\"member_id\":\"1\",\"raft_term\":\"1\",\"revision\":\"1\"}}" })
    ∷ Said.reply (record { status = 200; body = codes "{\"header\":{\"cluster_id\":\"1\",\"member_id\":\"1\",\"raft_term\":\"1\",\"revision\":\"2\"}}" })
    ∷ Said.reply (record { status = 200; body = codes "{\"header\":{\"cluster_id\":\"1\",\"member_id\":\"1\",\"raft_term\":\"1\",\"revision\":\"3\"}}" })
    ∷ Said.reply (record { status = 200; body = codes "{\"header\":{\"cluster_id\":\"1\",\"member_id\":\"1\",\"raft_term\":\"1\",\"revision\":\"4\"}}" })
    ∷ Said.reply (record { status = 200; body = codes "{\"header\":{\"cluster_id\":\"1\",\"member_id\":\"1\",\"raft_term\":\"1\",\"revision\":\"5\"}}" })
    ∷ Said.reply (record { status = 200; body = codes "{\"ID\":\"7\",\"TTL\":\"10\",\"grantedTTL\":\"10\",\"header\":{\"cluster_id\":\"1\",\"member_id\":\"1\",\"raft_term\":\"1\",\"revision\":\"5\"},\"keys\":[\"YQ==\",\"Yw==\"]}" })
    ∷ Said.quiet
    ∷ Said.quiet
    ∷ Said.reply (record { status = 200; body = codes "{\"result\":{\"ID\":\"7\",\"header\":{\"cluster_id\":\"1\",\"member_id\":\"1\",\"raft_term\":\"1\",\"revision\":\"6\"}}}" })
    ∷ Said.reply (record { status = 200; body = codes "{\"ID\":\"7\",\"TTL\":\"-1\",\"header\":{\"cluster_id\":\"1\",\"member_id\":\"1\",\"raft_term\":\"1\",\"revision\":\"6\"}}" })
    ∷ Said.reply (record { status = 404; body = codes "{\"code\":5,\"error\":\"etcdserver: requested lease not found\",\"message\":\"etcdserver: requested lease not found\"}" }) ∷ []
unfolding model_on_literals wire_on_literals serde_json_on_literals is_utf8 chars digits encode_symbols groups_error groups_bytes scan_steps
a_lease = refl

-- ---- runs with watches

-- what is told of events in turn
abbrev pub wires : World → List WireEvent → List WireTold
wires w [] = []
wires w (e ∷ es) = (wire_step ones w e).0 ∷ wires (wire_step ones w e).1 es

-- a watch of deletes with previous values is told once and closed once; one from a revision that is still to come waits for it
pub two_watches : wires opening (WireEvent.post (codes "/v3/kv/put") (codes "{\"key\":\"YQ==\",\"value\":\"MQ==\"}")
    ∷ WireEvent.post (codes "/v3/kv/deleterange") (codes "{\"key\":\"YQ==\"}")
    ∷ WireEvent.post (codes "/v3/kv/put") (codes "{\"key\":\"YQ==\",\"value\":\"Mg==\"}")
    ∷ WireEvent.post (codes "/v3/watch") (codes "{\"create_request\":{\"key\":\"YQ==\",\"start_revision\":\"2\",\"filters\":[\"NOPUT\"],\"prev_kv\":true,\"watch_id\":\"5\"}}")
    ∷ WireEvent.deliver 1
    ∷ WireEvent.deliver 1
    ∷ WireEvent.close 1
    ∷ WireEvent.close 1
    ∷ WireEvent.deliver 1
    ∷ WireEvent.post (codes "/v3/watch") (codes "{\"create_request\":{\"key\":\"YQ==\",\"start_revision\":\"6\"}}")
    ∷ WireEvent.post (codes "/v3/kv/put") (codes "{\"key\":\"YQ==\",\"value\":\"MQ==\"}")
    ∷ WireEvent.deliver 2
    ∷ WireEvent.post (codes "/v3/kv/put") (codes "{\"key\":\"YQ==\",\"value\":\"Mg==\"}")
    ∷ WireEvent.deliver 2 ∷ [])
    ≡ WireTold.reply (ok (codes "{\"header\":{\"cluster_id\":\"1\",\"member_id\":\"1\",\"raft_term\":\"1\",\"revision\":\"2\"}}")) (Some 2) None
    ∷ WireTold.reply (ok (codes "{\"deleted\":\"1\",\"header\":{\"cluster_id\":\"1\",\"member_id\":\"1\",\"raft_term\":\"1\",\"revision\":\"3\"}}")) (Some 3) None
    ∷ WireTold.reply (ok (codes "{\"header\":{\"cluster_id\":\"1\",\"member_id\":\"1\",\"raft_term\":\"1\",\"revision\":\"4\"}}")) (Some 4) None
    ∷ WireTold.reply (ok (codes "{\"result\":{\"created\":true,\"header\":{\"cluster_id\":\"1\",\"member_id\":\"1\",\"raft_term\":\"1\",\"revision\":\"4\"},\"watch_id\":\"5\"}}")) None (Some 1)
    ∷ WireTold.message (codes "{\"result\":{\"events\":[{\"kv\":{\"key\":\"YQ==\",\"mod_revision\":\"3\"},\"prev_kv\":{\"create_revision\":\"2\",\"key\":\"YQ==\",\"mod_revision\":\"2\",\"value\":\"MQ==\",\"version\":\"1\"},\"type\":\"DELETE\"}],\"header\":{\"cluster_id\":\"1\",\"member_id\":\"1\",\"raft_term\":\"1\",\"revision\":\"4\"},\"watch_id\":\"5\"}}")
    ∷ WireTold.nothing
    ∷ WireTold.closed true
    ∷ WireTold.closed false
    ∷ WireTold.no_watch
    ∷ WireTold.reply (ok (codes "{\"result\":{\"created\":true,\"header\":{\"cluster_id\":\"1\",\"member_id\":\"1\",\"raft_term\":\"1\",\"revision\":\"4\"}}}")) None (Some 2)
    ∷ WireTold.reply (ok (codes "{\"header\":{\"cluster_id\":\"1\",\"member_id\":\"1\",\"raft_term\":\"1\",\"revision\":\"5\"}}")) (Some 5) None
    ∷ WireTold.nothing
    ∷ WireTold.reply (ok (codes "{\"header\":{\"cluster_id\":\"1\",\"member_id\":\"1\",\"raft_term\":\"1\",\"revision\":\"6\"}}")) (Some 6) None
    ∷ WireTold.message (codes "{\"result\":{\"events\":[{\"kv\":{\"create_revision\":\"4\",\"key\":\"YQ==\",\"mod_revision\":\"6\",\"value\":\"Mg==\",\"version\":\"3\"}}],\"header\":{\"cluster_id\":\"1\",\"member_id\":\"1\",\"raft_term\":\"1\",\"revision\":\"6\"}}}") ∷ []
unfolding model_on_literals wire_on_literals serde_json_on_literals is_utf8 chars digits encode_symbols groups_error groups_bytes scan_steps
two_watches = refl

-- ---- compactions and watches: a compaction has no path yet, so these are the texts of what is told of plain events

-- what is written of an answer, or of a delivery to a watch that its client gave this number
abbrev pub text_of : ℤ → Told → List ℕ
text_of id (Told.answer r) = (response_to ones r).body
text_of id (Told.delivery d now) = unwrap_or (message_text ones now id d) []
text_of id _ = []

-- a watch is created and told; a compaction that it does not miss lets it stand
pub a_watch : map (text_of (pos 0)) (told_by opening (put_event a one ∷ watch_event a (pos 2) false ∷ Event.deliver 1
    ∷ Event.deliver 1 ∷ compact_event (pos 2) ∷ Event.deliver 1 ∷ put_event a two ∷ Event.deliver 1 ∷ []))
    ≡ codes "{\"header\":{\"cluster_id\":\"1\",\"member_id\":\"1\",\"raft_term\":\"1\",\"revision\":\"2\"}}"
    ∷ codes "{\"result\":{\"created\":true,\"header\":{\"cluster_id\":\"1\",\"member_id\":\"1\",\"raft_term\":\"1\",\"revision\":\"2\"}}}"
    ∷ codes "{\"result\":{\"events\":[{\"kv\":{\"create_revision\":\"2\",\"key\":\"YQ==\",\"mod_revision\":\"2\",\"value\":\"MQ==\",\"version\":\"1\"}}],\"header\":{\"cluster_id\":\"1\",\"member_id\":\"1\",\"raft_term\":\"1\",\"revision\":\"2\"}}}"
    ∷ []
    ∷ codes "{\"header\":{\"cluster_id\":\"1\",\"member_id\":\"1\",\"raft_term\":\"1\",\"revision\":\"2\"}}"
    ∷ []
    ∷ codes "{\"header\":{\"cluster_id\":\"1\",\"member_id\":\"1\",\"raft_term\":\"1\",\"revision\":\"3\"}}"
    ∷ codes "{\"result\":{\"events\":[{\"kv\":{\"create_revision\":\"2\",\"key\":\"YQ==\",\"mod_revision\":\"3\",\"value\":\"Mg==\",\"version\":\"2\"}}],\"header\":{\"cluster_id\":\"1\",\"member_id\":\"1\",\"raft_term\":\"1\",\"revision\":\"3\"}}}" ∷ []
unfolding model_on_literals wire_on_literals serde_json_on_literals is_utf8 chars digits encode_symbols groups_error groups_bytes scan_steps
a_watch = refl

-- a delete at the compaction is told with its previous value; a watch from below the compaction is cancelled
pub a_watch_behind : map (text_of (pos 5)) (told_by opening (put_event a one ∷ delete_event a ∷ compact_event (pos 3)
    ∷ watch_event a (pos 3) true ∷ Event.deliver 1 ∷ watch_event a (pos 2) false ∷ Event.deliver 2 ∷ []))
    ≡ codes "{\"header\":{\"cluster_id\":\"1\",\"member_id\":\"1\",\"raft_term\":\"1\",\"revision\":\"2\"}}"
    ∷ codes "{\"deleted\":\"1\",\"header\":{\"cluster_id\":\"1\",\"member_id\":\"1\",\"raft_term\":\"1\",\"revision\":\"3\"}}"
    ∷ codes "{\"header\":{\"cluster_id\":\"1\",\"member_id\":\"1\",\"raft_term\":\"1\",\"revision\":\"3\"}}"
    ∷ codes "{\"result\":{\"created\":true,\"header\":{\"cluster_id\":\"1\",\"member_id\":\"1\",\"raft_term\":\"1\",\"revision\":\"3\"}}}"
    ∷ codes "{\"result\":{\"events\":[{\"kv\":{\"key\":\"YQ==\",\"mod_revision\":\"3\"},\"prev_kv\":{\"create_revision\":\"2\",\"key\":\"YQ==\",\"mod_revision\":\"2\",\"value\":\"MQ==\",\"version\":\"1\"},\"type\":\"DELETE\"}],\"header\":{\"cluster_id\":\"1\",\"member_id\":\"1\",\"raft_term\":\"1\",\"revision\":\"3\"},\"watch_id\":\"5\"}}"
    ∷ codes "{\"result\":{\"created\":true,\"header\":{\"cluster_id\":\"1\",\"member_id\":\"1\",\"raft_term\":\"1\",\"revision\":\"3\"}}}"
    ∷ codes "{\"result\":{\"canceled\":true,\"compact_revision\":\"3\",\"header\":{\"cluster_id\":\"1\",\"member_id\":\"1\",\"raft_term\":\"1\",\"revision\":\"3\"},\"watch_id\":\"5\"}}" ∷ []
unfolding model_on_literals wire_on_literals serde_json_on_literals is_utf8 chars digits encode_symbols groups_error groups_bytes scan_steps
a_watch_behind = refl

-- an event with its previous value, and the refusal of what is compacted
pub a_previous_value : map (text_of (pos 0)) (told_by opening (put_event a one ∷ put_event a two
    ∷ watch_event a (pos 3) true ∷ Event.deliver 1 ∷ compact_event (pos 3) ∷ compact_event (pos 3) ∷ []))
    ≡ codes "{\"header\":{\"cluster_id\":\"1\",\"member_id\":\"1\",\"raft_term\":\"1\",\"revision\":\"2\"}}"
    ∷ codes "{\"header\":{\"cluster_id\":\"1\",\"member_id\":\"1\",\"raft_term\":\"1\",\"revision\":\"3\"}}"
    ∷ codes "{\"result\":{\"created\":true,\"header\":{\"cluster_id\":\"1\",\"member_id\":\"1\",\"raft_term\":\"1\",\"revision\":\"3\"}}}"
    ∷ codes "{\"result\":{\"events\":[{\"kv\":{\"create_revision\":\"2\",\"key\":\"YQ==\",\"mod_revision\":\"3\",\"value\":\"Mg==\",\"version\":\"2\"},\"prev_kv\":{\"create_revision\":\"2\",\"key\":\"YQ==\",\"mod_revision\":\"2\",\"value\":\"MQ==\",\"version\":\"1\"}}],\"header\":{\"cluster_id\":\"1\",\"member_id\":\"1\",\"raft_term\":\"1\",\"revision\":\"3\"}}}"
    ∷ codes "{\"header\":{\"cluster_id\":\"1\",\"member_id\":\"1\",\"raft_term\":\"1\",\"revision\":\"3\"}}"
    ∷ codes "{\"code\":11,\"error\":\"etcdserver: mvcc: required revision has been compacted\",\"message\":\"etcdserver: mvcc: required revision has been compacted\"}" ∷ []
unfolding model_on_literals wire_on_literals serde_json_on_literals is_utf8 chars digits encode_symbols groups_error groups_bytes scan_steps
a_previous_value = refl
