-- Worked rows of trimming as runs. From a world on, whose changes and Compact are commands, steps by the rule tell what the
-- rows of trimming say (`SampleTrims`), and keep what a run has to keep.
use Rattle.std.proofs.Common.{◌≡◌, ◌⊎◌, inl, inr, ℕ, zero, suc, ◌+◌, ◌<◌, ◌≤◌, List, [], ◌∷◌, ◌++◌, true}
use Rattle.std.proofs.Common.{None, Some, refl, sym, ap, subst, arith}
use Rattle.std.specs.Prelude.{nat_lt, nat_le, ◌^◌, pos, codes, ⊤}
use Rattle.std.proofs.lemmas.Bool.{ltb-true, leb-true}
use Rattle.std.proofs.lemmas.List.{append-nil}
use Rattle.std.specs.List.{AllByRecursion}
use Rattle.std.specs.Str.{is_utf8, chars}
use Rattle.std.specs.Fmt.{digits}
use Rattle.base64.specs.Rfc4648.{encode_symbols}
use Rattle.base64.specs.Decode.{groups_error, groups_bytes, scan_steps}
use Rattle.serde_json.proofs.OnLiterals.{serde_json_on_literals}
use Rattle.kv_model.specs.declared.version.Rev.{Rev}
use Rattle.kv_model.specs.History.{Mutation, Action, put, delete}
use Rattle.store_laws.specs.Sound.{IsBefore, IsChange, IsHistory}
use Rattle.kv_model.specs.World.{World, opening, revision, versions}
use Rattle.kv_model.specs.SampleRuns.{Event, step, world_after}
use Rattle.store_laws.specs.Trimming.{oldest_place}
use Rattle.kv_model.specs.Follows.{Outcome, FollowsFrom}
use Rattle.kv_model.specs.Wire.{WireEvent, WireTold, WireOutcome, wire_step, is_free, takes_memory, MayLose}
use Rattle.kv_model.specs.Headline.{Keeping, Keeps}
use Rattle.kv_model.specs.Headline.{IsRun, KeepsWell}
use Rattle.kv_model.specs.OnLiterals.{model_on_literals}
use Rattle.kv_model.specs.Samples.{a, one, two, rev_at, put_version}
use Rattle.store_laws.specs.SampleTrims.{trimming_on_literals, put_delete_compact, put_delete, put_again, first_changes}
use Rattle.store_laws.specs.SampleTrims.{later_changes, range_need, watch_need, prev_need}
use Rattle.kv_model.specs.Texts.{ones, ok, wire_on_literals}
use Rattle.kv_model.specs.Certificates.{Claim}
use Rattle.store_laws.specs.TrimmingLaws.{keeping}
use Rattle.store_laws.specs.ByRule.{Trimming, not_begun, moved_on, rule_keeps, by_rule, AddsBatch, Compacts, AreMoves}
use Rattle.store_laws.proofs.PlaceLaws.{each-map}
use Rattle.store_laws.proofs.RevOrder.{rev_lt-mains}
use Rattle.store_laws.proofs.StepLaws.{part-self}
use Rattle.store_laws.proofs.BetweenSteps.{starts_over}
use Rattle.store_laws.proofs.RuleRuns.{Going, GoesOnTo, moves, step_going, keeps_on, follows_on, rule-run}

-- ---- a run from a world on

-- the outcomes follow, and each event keeps what it has to, where trimming has come so far
pub record RunsOn (w : World) (s : Trimming) (es : List WireEvent) (os : List WireOutcome) : Type 0 where
  pub follows : FollowsFrom (wire_step ones) is_free takes_memory MayLose w es os
  pub keeps : KeepsWell ones w (keeping s.versions s.place w.compacted) es os

-- so do the outcomes by the rule
runs-on : (w : World) (s : Trimming) (es : List WireEvent) (os : List WireOutcome) → Going w s → AreMoves ones w es
    → by_rule ones w s es ≡ os → RunsOn w s es os
runs-on w s es os g m told = subst (RunsOn w s es) told (record { follows = follows_on ones es w s; keeps = keeps_on ones es w s g m })

-- ---- moves

-- the change of one key is the next revision
abbrev next_change : World → List ℕ → Action → Mutation
next_change w k action = record { rev = rev_at (revision w + 1); key = k; action = action }

adds-one : (w u : World) (n : ℕ) (ns : List ℕ) (action : Action) → nat_lt 0 (revision w) ≡ true
    → u.mutations ≡ w.mutations ++ next_change w (n ∷ ns) action ∷ [] → u.compacted ≡ w.compacted
    → AddsBatch w u ⊎ Compacts w u
adds-one w u n ns action first grown same = inl (record {
  changes = next_change w (n ∷ ns) action ∷ [];
  batch = record { history = (change, tt, tt); at = (refl, tt) };
  mutations = grown;
  compacted = same;
})
  where
    change : IsChange (next_change w (n ∷ ns) action)
    change = let behind : 0 < revision w = ltb-true 0 (revision w) first in
        record { behind = omega (arith, behind); number = omega arith; has_key = λ e. cc }

compacts-to : (w u : World) → nat_lt w.compacted u.compacted ≡ true → nat_le u.compacted (revision w) ≡ true
    → nat_lt u.compacted (2 ^ 63) ≡ true → u.mutations ≡ w.mutations → AddsBatch w u ⊎ Compacts w u
compacts-to w u up past fits same = inr (record {
  up = ltb-true w.compacted u.compacted up;
  past = leb-true u.compacted (revision w) past;
  fits = ltb-true u.compacted (2 ^ 63) fits;
  mutations = same;
})

stays : (w : World) → AddsBatch w w ⊎ Compacts w w
stays w = inl (record {
  changes = [];
  batch = record { history = tt; at = tt };
  mutations = sym (append-nil w.mutations);
  compacted = refl;
})

-- so many trimming steps
abbrev pub steps : ℕ → List WireEvent
steps zero = []
steps (suc n) = WireEvent.trim ∷ steps n

step-moves : (w : World) (n : ℕ) → AreMoves ones w (steps n)
step-moves w zero = tt
step-moves w (suc n) = (refl, stays w, step-moves w n)

-- ---- where a row begins

-- one change after another, each of a key of one byte, from the revision after this one on
abbrev changes_from : ℕ → List (ℕ × Action) → List Mutation
changes_from r [] = []
changes_from r (c ∷ cs) = record { rev = rev_at (r + 1); key = c.0 ∷ []; action = c.1 } ∷ changes_from (r + 1) cs

history-from : (cs : List (ℕ × Action)) (r : ℕ) → 1 ≤ r → IsHistory (changes_from r cs)
    × AllByRecursion (λ n. r < n.rev.main) (changes_from r cs)
history-from [] r h = (tt, tt)
history-from (c ∷ cs) r h =
    let m : Mutation = record { rev = rev_at (r + 1); key = c.0 ∷ []; action = c.1 } in
    let rest = history-from cs (r + 1) (omega arith) in
    let change : IsChange m = record { behind = omega (arith, h); number = omega arith; has_key = λ e. cc } in
    let before : (n : Mutation) → r + 1 < n.rev.main → IsBefore m n =
    λ n later. (rev_lt-mains m.rev n.rev later, λ same. absurd (omega (arith, later, same))) in (
      (change, each-map (λ n. r + 1 < n.rev.main) (IsBefore m) before (changes_from (r + 1) cs) rest.1, rest.0),
      (
        omega arith,
        each-map (λ n. r + 1 < n.rev.main) (λ n. r < n.rev.main) (λ n later. omega (arith, later))
            (changes_from (r + 1) cs) rest.1,
      ),
    )

-- where trimming is after the last Compact: every version is kept, and the oldest is to be visited first
abbrev pub begun : World → Trimming
begun w = record { versions = versions w; place = oldest_place }

goes-fresh : (w : World) (cs : List (ℕ × Action)) → w.mutations ≡ changes_from 1 cs → nat_le w.compacted (revision w) ≡ true
    → nat_lt w.compacted (2 ^ 63) ≡ true → Going w (begun w)
goes-fresh w cs is past fits = record {
  history = subst IsHistory (sym is) (history-from cs 1 (omega arith)).0;
  floor = leb-true w.compacted (revision w) past;
  fits = ltb-true w.compacted (2 ^ 63) fits;
  good = record { part = part-self (versions w); answers = λ q a. refl };
  up_to = (starts_over (versions w) w.compacted).up_to;
}

-- where trimming is after these events, none of which is a step of it
abbrev pub moved_by : World → Trimming → List Event → Trimming
moved_by w s [] = s
moved_by w s (e ∷ es) = moved_by (step w e).1 (moved_on w (step w e).1 s) es

-- each of them adds the changes of one revision, or compacts
abbrev AreChanges : World → List Event → Type 0
AreChanges w [] = ⊤
AreChanges w (e ∷ es) = (AddsBatch w (step w e).1 ⊎ Compacts w (step w e).1) × AreChanges (step w e).1 es

goes-through : (es : List Event) (w : World) (s : Trimming) → Going w s → AreChanges w es → Going (world_after w es) (moved_by w s es)
goes-through [] w s g m = g
goes-through (e ∷ es) w s g m =
    let on : GoesOnTo w (step w e).1 s = moves w (step w e).1 s g m.0 in
    goes-through es (step w e).1 (moved_on w (step w e).1 s) on.going m.1

-- what steps leave
abbrev pub stepped : ℕ → World → Trimming → Trimming
stepped zero w s = s
stepped (suc n) w s = stepped n w (rule_keeps ones w WireEvent.trim s)

goes-stepped : (n : ℕ) (w : World) (s : Trimming) → Going w s → Going w (stepped n w s)
goes-stepped zero w s g = g
goes-stepped (suc n) w s g = goes-stepped n w (rule_keeps ones w WireEvent.trim s) (step_going w s _ refl g)

-- ---- what steps tell

abbrev pub removed_at : ℕ → WireOutcome
removed_at main = Outcome.said (WireTold.removed (rev_at main))

abbrev pub kept_at : ℕ → WireOutcome
kept_at main = Outcome.said (WireTold.kept (rev_at main))

abbrev pub done_with : ℕ → List Claim → WireOutcome
done_with n claims = Outcome.said (WireTold.done n (Some claims))

-- ---- a put and its tombstone go, oldest first, and the last put stays

abbrev pub at_4 : World
at_4 = world_after opening put_delete_compact

going_at_4 : Going at_4 (begun at_4)
unfolding model_on_literals
going_at_4 = goes-fresh at_4 ((97, put one (pos 0)) ∷ (97, delete) ∷ (98, put one (pos 0)) ∷ []) refl refl refl

pub both_go : RunsOn at_4 (begun at_4) (steps 5)
    (removed_at 2 ∷ removed_at 3 ∷ kept_at 4 ∷ done_with 1 (range_need 4 4 ∷ []) ∷ done_with 1 (range_need 4 4 ∷ []) ∷ [])
unfolding model_on_literals trimming_on_literals
both_go = runs-on at_4 (begun at_4) (steps 5) _ going_at_4 (step-moves at_4 5) refl

-- another answer to the first of these steps is none of a run: the next version is named, it goes, and it is not done yet
abbrev FirstKeeps : WireOutcome → Type 0
FirstKeeps o = (l : Keeping) × Keeps ones at_4 (keeping (begun at_4).versions (begun at_4).place 4) WireEvent.trim o l

pub not_another : FirstKeeps (removed_at 3) → ⊥
unfolding model_on_literals trimming_on_literals
not_another h = let same : 3 ≡ 2 = ap (λ (p : Rev). p.main) h.1.0 in omega (arith, same)

pub not_kept : FirstKeeps (kept_at 2) → ⊥
unfolding model_on_literals trimming_on_literals
not_kept h = both_go.keeps.1.1.1 h.1.1

pub not_done : FirstKeeps (done_with 3 []) → ⊥
unfolding model_on_literals trimming_on_literals
not_done h = h.1

-- ---- a tombstone at the compaction itself stays, and the put before it

abbrev pub at_3 : World
at_3 = world_after opening put_delete

going_at_3 : Going at_3 (begun at_3)
unfolding model_on_literals
going_at_3 = goes-fresh at_3 ((97, put one (pos 0)) ∷ (97, delete) ∷ []) refl refl refl

pub tombstone_stays : RunsOn at_3 (begun at_3) (steps 3)
    (kept_at 2 ∷ kept_at 3 ∷ done_with 2 (prev_need 2 3 ∷ watch_need 3 3 ∷ []) ∷ [])
unfolding model_on_literals trimming_on_literals
tombstone_stays = runs-on at_3 (begun at_3) (steps 3) _ going_at_3 (step-moves at_3 3) refl

-- ---- of a put at the compaction a tombstone before it is no previous value

abbrev pub at_put_again : World
at_put_again = world_after opening put_again

going_at_put_again : Going at_put_again (begun at_put_again)
unfolding model_on_literals
going_at_put_again = goes-fresh at_put_again ((97, put one (pos 0)) ∷ (97, delete) ∷ (97, put two (pos 0)) ∷ []) refl refl refl

pub last_put_stays : RunsOn at_put_again (begun at_put_again) (steps 4)
    (removed_at 2 ∷ removed_at 3 ∷ kept_at 4 ∷ done_with 1 (range_need 4 4 ∷ []) ∷ [])
unfolding model_on_literals trimming_on_literals
last_put_stays = runs-on at_put_again (begun at_put_again) (steps 4) _ going_at_put_again (step-moves at_put_again 4) refl

-- ---- a second Compact begins with the oldest version again

abbrev pub at_first : World
at_first = world_after opening first_changes

going_at_first : Going at_first (begun at_first)
unfolding model_on_literals
going_at_first = goes-fresh at_first ((97, put one (pos 0)) ∷ (97, put two (pos 0)) ∷ (98, put one (pos 0)) ∷ (97, put one (pos 0)) ∷ []) refl refl refl

pub half_way : RunsOn at_first (begun at_first) (steps 2) (removed_at 2 ∷ kept_at 3 ∷ [])
unfolding model_on_literals trimming_on_literals
half_way = runs-on at_first (begun at_first) (steps 2) _ going_at_first (step-moves at_first 2) refl

abbrev half_trimmed : Trimming
half_trimmed = stepped 2 at_first (begun at_first)

-- after those two steps, the later changes and the second Compact
abbrev pub at_second : World
at_second = world_after at_first later_changes

abbrev pub begun_at_second : Trimming
begun_at_second = moved_by at_first half_trimmed later_changes

going_at_second : Going at_second begun_at_second
unfolding model_on_literals
going_at_second = goes-through later_changes at_first half_trimmed (goes-stepped 2 at_first (begun at_first) going_at_first) (
  adds-one _ _ 98 [] delete refl refl refl,
  (
    adds-one _ _ 97 [] (put two (pos 0)) refl refl refl,
    (
      adds-one _ _ 98 [] (put two (pos 0)) refl refl refl,
      (
        adds-one _ _ 99 [] (put one (pos 0)) refl refl refl,
        (compacts-to _ _ refl refl refl refl, tt),
      ),
    ),
  ),
)

abbrev last_claims : List Claim
last_claims = range_need 7 9 ∷ range_need 8 9 ∷ range_need 9 9 ∷ []

pub from_the_oldest : RunsOn at_second begun_at_second (steps 9) (removed_at 3 ∷ removed_at 4 ∷ removed_at 5 ∷ removed_at 6
    ∷ kept_at 7 ∷ kept_at 8 ∷ kept_at 9 ∷ done_with 3 last_claims ∷ done_with 3 last_claims ∷ [])
unfolding model_on_literals trimming_on_literals
from_the_oldest = runs-on at_second begun_at_second (steps 9) _ going_at_second (step-moves at_second 9) refl

-- ---- a request between the steps: what it puts is above the compaction, and no step visits it

abbrev pub put_a : List ℕ → WireEvent
put_a value = WireEvent.post (codes "/v3/kv/put") (codes "{\"key\":\"YQ==\",\"value\":\"" ++ value ++ codes "\"}")

-- the header alone, at the new revision
abbrev pub raised_to : ℕ → List ℕ → WireOutcome
raised_to r text = Outcome.said (WireTold.reply (ok (codes "{\"header\":{\"cluster_id\":\"1\",\"member_id\":\"1\",\"raft_term\":\"1\","
    ++ codes "\"revision\":\"" ++ text ++ codes "\"}}")) (Some r) None)

abbrev pub put_between : List WireEvent
put_between = WireEvent.trim ∷ put_a (codes "MQ==") ∷ steps 3

put_moves : AreMoves ones at_4 put_between
unfolding model_on_literals wire_on_literals serde_json_on_literals is_utf8 chars digits encode_symbols groups_error groups_bytes scan_steps
put_moves = (refl, stays at_4, (refl, adds-one _ _ 97 [] (put one (pos 0)) refl refl refl, step-moves _ 3))

pub goes_on_between : RunsOn at_4 (begun at_4) put_between (removed_at 2 ∷ raised_to 5 (codes "5") ∷ removed_at 3 ∷ kept_at 4
    ∷ done_with 2 (range_need 4 4 ∷ range_need 5 5 ∷ []) ∷ [])
unfolding model_on_literals trimming_on_literals wire_on_literals serde_json_on_literals is_utf8 chars digits encode_symbols groups_error groups_bytes scan_steps
goes_on_between = runs-on at_4 (begun at_4) put_between _ going_at_4 put_moves refl

-- ---- a whole run: without a Compact nothing is visited, and each version has its need

abbrev pub put_twice : List WireEvent
put_twice = put_a (codes "MQ==") ∷ WireEvent.trim ∷ WireEvent.certify ∷ put_a (codes "Mg==") ∷ WireEvent.trim ∷ []

abbrev put_twice_told : List WireOutcome
put_twice_told = raised_to 2 (codes "2") ∷ done_with 1 (range_need 2 2 ∷ [])
    ∷ Outcome.said (WireTold.certified (record { floor = 0; revision = 2; versions = put_version 2 a 2 1 one ∷ [] }) (range_need 2 2 ∷ []))
    ∷ raised_to 3 (codes "3") ∷ done_with 2 (range_need 2 2 ∷ range_need 3 3 ∷ []) ∷ []

put_twice_moves : AreMoves ones opening put_twice
unfolding model_on_literals wire_on_literals serde_json_on_literals is_utf8 chars digits encode_symbols groups_error groups_bytes scan_steps
put_twice_moves = (
  refl,
  adds-one _ _ 97 [] (put one (pos 0)) refl refl refl,
  (
    refl,
    stays _,
    (
      refl,
      stays _,
      (
        refl,
        adds-one _ _ 97 [] (put two (pos 0)) refl refl refl,
        (refl, stays _, tt),
      ),
    ),
  ),
)

put_twice_tells : by_rule ones opening not_begun put_twice ≡ put_twice_told
unfolding model_on_literals trimming_on_literals wire_on_literals serde_json_on_literals is_utf8 chars digits encode_symbols groups_error groups_bytes scan_steps
put_twice_tells = refl

pub put_twice_is_run : IsRun ones put_twice put_twice_told
put_twice_is_run = subst (IsRun ones put_twice) put_twice_tells (rule-run ones put_twice put_twice_moves)
