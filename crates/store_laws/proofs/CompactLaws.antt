-- A Compact asks for less, so a good part stays good behind it.
use Rattle.std.proofs.Common.{◌≡◌, ◌≤◌, ◌<◌, ℕ, ◌-◌, ℤ, List, [], ◌∷◌, Bool, true, false, ◌&&◌, ◌||◌, cond, Option, None, Some, Ok, map, filter}
use Rattle.std.proofs.Common.{refl, sym, ◌∙◌, ap, arith}
use Rattle.std.specs.Prelude.{pos, negsuc, nat_lt, nat_le, ◌==◌}
use Rattle.std.specs.List.{AllByRecursion}
use Rattle.std.proofs.lemmas.Bool.{ltb-false}
use Rattle.std.proofs.lemmas.Bool.Decides.{nat_tests}
use Rattle.kv_model.specs.declared.version.Version.{Version}
use Rattle.kv_model.specs.declared.call.Watched.{Watched}
use Rattle.kv_model.specs.declared.refusal.Refusal.TheVariants.{Compacted, Future}
use Rattle.kv_model.specs.History.{Mutation, KeyValue, now, dress, value_at, end_of}
use Rattle.store_laws.specs.Sound.{IsHistory}
use Rattle.kv_model.specs.Ranges.{refuse_if}
use Rattle.kv_model.specs.Watches.{WatchEvent, event_of, events_of, before_is_kept}
use Rattle.kv_model.specs.Calls.{Call}
use Rattle.kv_model.specs.Told.{Reply}
use Rattle.kv_model.specs.World.{World, revision}
use Rattle.kv_model.specs.Questions.{Question, IsQuestion, IsKept, Answered, answered, IsGood}
use Rattle.kv_model.specs.Step.{refused_or, compact_refusal, at_least_zero, compact_in, made_in}
use Rattle.store_laws.specs.Stands.{Store, StandsFor}
use Rattle.store_laws.specs.Stores.{with_floor}
use Rattle.store_laws.proofs.Compacting.{same_ranges}
use Rattle.store_laws.proofs.PlaceLaws.{each-map}
use Rattle.store_laws.proofs.GoodLaws.{not-refused, good-value_at}
use Rattle.store_laws.proofs.BatchLaws.{is_told, good-events}

-- ---- events that are the same with more before them are the same with less

-- what was before an event is told no more often behind a later Compact
kept-before : (c d r : ℕ) → c ≤ d → before_is_kept d r ≡ true → before_is_kept c r ≡ true
kept-before c d r h e = grind (arith, nat_tests)

pub versions-told : (vs : List Version) (c : ℕ) (w : Watched) (xs : List Version)
    → map (λ (e : WatchEvent). e.version) (map (event_of vs c w) xs) ≡ xs
versions-told vs c w [] = refl
versions-told vs c w (x ∷ xs) = ap (λ ys. x ∷ ys) (versions-told vs c w xs)

pub map-pointwise : {X Y : Type 0} (f g : X → Y) (xs : List X) → map f xs ≡ map g xs → AllByRecursion (λ x. f x ≡ g x) xs
map-pointwise f g [] e = tt
map-pointwise f g (x ∷ xs) e = (heads _ _ _ _ e, map-pointwise f g xs (tails _ _ _ _ e))
  where
    heads : {Z : Type 0} (a b : Z) (ys bs : List Z) → a ∷ ys ≡ b ∷ bs → a ≡ b
    heads a b ys bs e = cc

    tails : {Z : Type 0} (a b : Z) (ys bs : List Z) → a ∷ ys ≡ b ∷ bs → ys ≡ bs
    tails a b ys bs e = cc

pub map-same : {X Y : Type 0} (f g : X → Y) (xs : List X) → AllByRecursion (λ x. f x ≡ g x) xs → map f xs ≡ map g xs
map-same f g [] h = refl
map-same f g (x ∷ xs) h = λ i. h.0 i ∷ map-same f g xs h.1 i

event-later : (vs ws : List Version) (c d : ℕ) (w : Watched) (v : Version) → c ≤ d → event_of vs c w v ≡ event_of ws c w v
    → event_of vs d w v ≡ event_of ws d w v
event-later vs ws c d w v h e = ap (λ (o : Option KeyValue). record { version = v; before = o }) (by (before_is_kept d v.rev.main) refl
    w.prev_kv (ap (λ (x : WatchEvent). x.before) e))
  where
    a : Option KeyValue
    a = value_at vs (end_of (v.rev.main - 1)) v.key

    b : Option KeyValue
    b = value_at ws (end_of (v.rev.main - 1)) v.key

    known : (t : Bool) → t ≡ true → (p : Bool) → cond (t && p) a None ≡ cond (t && p) b None → cond p a None ≡ cond p b None
    known true f p g = g
    known false f p g = cc

    by : (t : Bool) → before_is_kept d v.rev.main ≡ t → (p : Bool) → cond (before_is_kept c v.rev.main && p) a None
        ≡ cond (before_is_kept c v.rev.main && p) b None → cond (t && p) a None ≡ cond (t && p) b None
    by false f p g = refl
    by true f p g = known (before_is_kept c v.rev.main) (kept-before c d v.rev.main h f) p g

events-later : (vs ws : List Version) (c d r : ℕ) (w : Watched) → c ≤ d → events_of vs c r w ≡ events_of ws c r w → events_of vs d r w
    ≡ events_of ws d r w
events-later vs ws c d r w h e =
    let fs : List Version = filter (is_told r w) vs in
    let gs : List Version = filter (is_told r w) ws in
    let same : fs ≡ gs = sym (versions-told vs c w fs) ∙ ap (map (λ (x : WatchEvent). x.version)) e ∙ versions-told ws c w gs in
    let each : map (event_of vs c w) gs ≡ map (event_of ws c w) gs = ap (map (event_of vs c w)) (sym same) ∙ e in
    ap (map (event_of vs d w)) same ∙ map-same (event_of vs d w) (event_of ws d w) gs
    (each-map (λ v. event_of vs c w v ≡ event_of ws c w v) (λ v. event_of vs d w v
    ≡ event_of ws d w v) (λ v f. event-later vs ws c d w v h f) gs (map-pointwise (event_of vs c w) (event_of ws c w) gs each))

-- ---- a later floor

pub good-compacts : (vs : List Version) (ms : List Mutation) (c d : ℕ) → IsGood vs ms c → IsHistory ms → c ≤ d → IsGood vs ms d
good-compacts vs ms c d g h l = record { part = g.part; answers = answers }
  where
    kept : (r : ℕ) → IsKept d (now ms) r → IsKept c (now ms) r
    kept r k = record { first = k.first; kept = omega (arith, k.kept); past = k.past }

    answers : (q : Question) → IsQuestion d (now ms) q → answered vs d (now ms) q ≡ answered (dress ms) d (now ms) q
    answers (Question.range q) a = ap Answered.range (same_ranges vs (dress ms) d (now ms) a.revision (end_of (now ms)) q a.kept.first a.is
        (λ k. good-value_at vs ms c a.revision k g h (kept a.revision a.kept)))
    answers (Question.watch w r) a = ap Answered.watch (events-later vs (dress ms) c d r w l (good-events vs ms c r w g (kept r a)))

-- the store goes on standing for the world behind a Compact
pub compact_stands : (s : Store) (w : World) → StandsFor s w → (c : ℕ) → s.compacted ≤ c → c ≤ s.revision
    → StandsFor (with_floor s c) (record w { compacted = c })
compact_stands s w h c l m =
    let least : w.compacted ≤ c = omega (arith, h.compacted) in
    let most : c ≤ revision w = omega (arith, h.revision_is) in
    record {
      sound = record { history = h.sound.history; floor = most };
      good = good-compacts s.versions w.mutations w.compacted c h.good h.sound.history least;
      revision_is = h.revision_is;
      compacted = refl;
      leases = h.leases;
      clock = h.clock;
      made = h.made;
      watches = h.watches;
    }

pub compact_told : (s : Store) (w : World) → StandsFor s w → (r : ℤ) (physical : Bool)
    → made_in w (Call.compact r physical) ≡ refused_or (compact_refusal s.compacted s.revision r) (Ok (
      Reply.compact,
      record w { compacted = at_least_zero r },
    ))
unfolding compact_in
compact_told s w h r physical = sym (λ i. refused_or (compact_refusal (h.compacted i) (h.revision_is i) r) (Ok (
  Reply.compact,
  record w { compacted = at_least_zero r },
)))

-- what is not refused is above the last Compact and not above the revision
pub compact_within : (c n : ℕ) (r : ℤ) → compact_refusal c n r ≡ None → (c < at_least_zero r) × (at_least_zero r ≤ n)
compact_within c n (negsuc m) e = cc
compact_within c n (pos r) e = by (r == 0 || nat_le r c) refl e
  where
    by : (b : Bool) → (r == 0 || nat_le r c) ≡ b → cond b (Some (Compacted c)) (refuse_if (nat_lt n r) (Future n)) ≡ None → (c < r)
        × (r ≤ n)
    by true f g = cc
    by false f g =
        let past : nat_lt n r ≡ false = not-refused (nat_lt n r) (Future n) g in
        (above (r == 0) f, ltb-false n r past)
      where
        above : (t : Bool) → (t || nat_le r c) ≡ false → c < r
        above true f = cc
        above false f = grind (arith, nat_tests)
