use Rattle.std.proofs.Common.{Bor, ℕ, List, map}
use Rattle.std.specs.Int.{w64}
use Rattle.std.proofs.lemmas.Int.{to_z-of_z}
use Rattle.kv_model.specs.Told.{Reply}
use Rattle.kv_model.specs.Answers.{header, reply_text}
use Rattle.gateway_text.specs.Views.{seconds_view, time_left_data}
use Rattle.gateway_text.proofs.Objects.{written}
use Rattle.gateway_text.proofs.leases.time_left_text.Goals as goal

pub returns : goal.returns
unfolding reply_text time_left_data
returns c =
    let made = rw (to_z-of_z w64 c.args.id c.ranges.id) at c.in_ok-write_time_left.ensures in
    written _ _ _ (reply_text (header c.args.ids.now c.args.revision) c.args.revision
    (Reply.time_to_live c.args.id (seconds_view c.args.seconds) c.args.granted (map (λ (k : Bor (List ℕ)). k.now) c.args.keys.now)))
    c.into_bytes.ensures made c.in_ok-out.ensures
