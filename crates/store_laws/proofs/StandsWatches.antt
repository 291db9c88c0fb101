-- A watch that is made: what it has still to be told of is found in the versions that are kept.
use Rattle.std.proofs.Common.{◌≡◌, ◌≤◌, ℕ, suc, ◌+◌, ℤ, List, [], ◌∷◌, ◌++◌, length, map, filter, Bool, true, false, ◌&&◌, cond, refl, sym}
use Rattle.std.proofs.Common.{◌∙◌, ap, inl, inr, arith}
use Rattle.std.specs.Prelude.{nat_lt, nat_le, ◌||◌, MatchBool, ⊤, Ok}
use Rattle.std.specs.List.{AllByRecursion}
use Rattle.std.proofs.lemmas.Bool.{eq-eqb, ltb-false, and_parts}
use Rattle.std.proofs.lemmas.Bool.Decides.{nat_tests}
use Rattle.kv_model.specs.declared.version.Version.{Version}
use Rattle.kv_model.specs.declared.call.Watched.{Watched}
use Rattle.kv_model.specs.declared.refusal.Refusal.TheVariants.{TooManyWatches}
use Rattle.kv_model.specs.Lists.{IsPart, IsIn, nothing, keep, leave}
use Rattle.kv_model.specs.Ranges.{refuse_if}
use Rattle.kv_model.specs.Calls.{Call}
use Rattle.kv_model.specs.Told.{Reply}
use Rattle.kv_model.specs.History.{Mutation, now, dress}
use Rattle.store_laws.specs.Sound.{IsChange, IsHistory}
use Rattle.kv_model.specs.Watches.{WatchEvent, matches, event_of, before_is_kept}
use Rattle.kv_model.specs.Questions.{IsGood}
use Rattle.kv_model.specs.World.{World, Watch, revision, versions}
use Rattle.kv_model.specs.Watches.{undelivered}
use Rattle.kv_model.specs.Step.{last_main, made_in, most_watches, refused_or, start_of, watch_in, watched_range}
use Rattle.store_laws.specs.Stands.{Store, Tracked, TracksNext, Tracks, TracksAll, StandsFor, first_main_of, ahead_of}
use Rattle.store_laws.specs.Stores.{refusal_of_watch, watch_made, tracked_made, with_watch}
use Rattle.store_laws.proofs.PlaceLaws.{each-map, each-dressed, each-change, above-one}
use Rattle.store_laws.proofs.BatchLaws.{is_told, good-events, dressed-mains}
use Rattle.store_laws.proofs.CompactLaws.{versions-told}
use Rattle.store_laws.proofs.LeastLaws.{each-in, filter-in, event-alike}
use Rattle.store_laws.proofs.PassingLaws.{each-of}

-- ---- what a part keeps of the elements that pass a test

part-fewer : {X : Type 0} {xs ys : List X} (p : X → Bool) → IsPart xs ys → length (filter p xs) ≤ length (filter p ys)
part-fewer p nothing = omega arith
part-fewer {X} p (keep {x = x} {xs = xs} {ys = ys} k) = by (p x) (part-fewer p k)
  where
    by : (b : Bool) → length (filter p xs) ≤ length (filter p ys) → length (cond b (x ∷ filter p xs) (filter p xs)) ≤ length (cond b (x
        ∷ filter p ys) (filter p ys))
    by true l = omega arith
    by false l = l
part-fewer {X} p (leave {y = y} {xs = xs} {ys = ys} k) = by (p y) (part-fewer p k)
  where
    by : (b : Bool) → length (filter p xs) ≤ length (filter p ys) → length (filter p xs) ≤ length (cond b (y ∷ filter p ys) (filter p ys))
    by true l = omega arith
    by false l = l

-- an element that passes the test passes another, by which the part has as many
abbrev pub IsCounted : {X : Type 0} → List X → List X → X → Type 0
IsCounted {X} xs ys y = (p : X → Bool) × (p y ≡ true) × (length (filter p xs) ≡ length (filter p ys))

abbrev pub AreCounted : {X : Type 0} → List X → List X → (X → Bool) → List X → Type 0
AreCounted xs ys test zs = AllByRecursion (λ z. test z ≡ true → IsCounted xs ys z) zs

counted-tail : {X : Type 0} (x : X) (xs ys : List X) (test : X → Bool) (zs : List X) → AreCounted (x ∷ xs) (x ∷ ys) test zs
    → AreCounted xs ys test zs
counted-tail x xs ys test [] h = tt
counted-tail {X} x xs ys test (z ∷ zs) h = ((λ t. less (h.0 t)), counted-tail x xs ys test zs h.1)
  where
    less : IsCounted (x ∷ xs) (x ∷ ys) z → IsCounted xs ys z
    less c = (c.0, c.1, by (c.0 x) c.2)
      where
        by : (b : Bool) → length (cond b (x ∷ filter c.0 xs) (filter c.0 xs)) ≡ length (cond b (x ∷ filter c.0 ys) (filter c.0 ys))
            → length (filter c.0 xs) ≡ length (filter c.0 ys)
        by true e = omega arith
        by false e = e

counted-left : {X : Type 0} (y : X) (xs ys : List X) (test : X → Bool) (zs : List X) → IsPart xs ys → AreCounted xs (y ∷ ys) test zs
    → AreCounted xs ys test zs
counted-left y xs ys test [] k h = tt
counted-left {X} y xs ys test (z ∷ zs) k h = ((λ t. less (h.0 t)), counted-left y xs ys test zs k h.1)
  where
    less : IsCounted xs (y ∷ ys) z → IsCounted xs ys z
    less c = (c.0, c.1, by (c.0 y) c.2)
      where
        by : (b : Bool) → length (filter c.0 xs) ≡ length (cond b (y ∷ filter c.0 ys) (filter c.0 ys)) → length (filter c.0 xs)
            ≡ length (filter c.0 ys)
        by true e = absurd (omega (arith, part-fewer c.0 k))
        by false e = e

not-left : {X : Type 0} (y : X) (xs ys : List X) (test : X → Bool) → IsPart xs ys → (test y ≡ true → IsCounted xs (y ∷ ys) y) → test y
    ≡ false
not-left {X} y xs ys test k h = by (test y) refl
  where
    fewer : IsCounted xs (y ∷ ys) y → ⊥
    fewer c = let e : length (filter c.0 xs) ≡ suc (length (filter c.0 ys)) = c.2
        ∙ ap (λ b. length (cond b (y ∷ filter c.0 ys) (filter c.0 ys))) c.1 in omega (arith, part-fewer c.0 k)

    by : (b : Bool) → test y ≡ b → b ≡ false
    by true e = absurd (fewer (h e))
    by false e = refl

part-keeps : {X : Type 0} (test : X → Bool) {xs ys : List X} → IsPart xs ys → AreCounted xs ys test ys → filter test xs ≡ filter test ys
part-keeps test nothing h = refl
part-keeps test (keep {x = x} {xs = xs} {ys = ys} k) h = ap (λ zs. cond (test x) (x
    ∷ zs) zs) (part-keeps test k (counted-tail x xs ys test ys h.1))
part-keeps test (leave {y = y} {xs = xs} {ys = ys} k) h =
    part-keeps test k (counted-left y xs ys test ys k h.1)
    ∙ sym (ap (λ b. cond b (y ∷ filter test ys) (filter test ys)) (not-left y xs ys test k h.0))

-- ---- what a watch has still to be told of

dressed-above : (ms : List Mutation) → IsHistory ms → AllByRecursion (λ v. 1 ≤ v.rev.main) (dress ms)
dressed-above ms h = each-dressed (λ p k. 1 ≤ p.main) ms (each-map IsChange (λ m. 1 ≤ m.rev.main) above-one ms (each-change ms h))

-- behind the floor a good part has all that the whole history has
pub good-undelivered : (vs : List Version) (ms : List Mutation) (c : ℕ) (w : Watch) → IsGood vs ms c → IsHistory ms → c ≤ w.next
    → undelivered vs w ≡ undelivered (dress ms) w
good-undelivered vs ms c w g h l = part-keeps test g.part (go (dress ms) (dressed-mains ms h) (dressed-above ms h))
  where
    test : Version → Bool
    test v = nat_le w.next v.rev.main && matches w.watched v

    counted : (v : Version) → v.rev.main ≤ now ms → 1 ≤ v.rev.main → test v ≡ true → IsCounted vs (dress ms) v
    counted v most one t =
        let parts : (nat_le w.next v.rev.main ≡ true) × (matches w.watched v ≡ true) = and_parts _ _ t in
        let from : w.next ≤ v.rev.main = grind (arith, nat_tests) in
        let r : ℕ = v.rev.main in
        let same : filter (is_told r w.watched) vs ≡ filter (is_told r w.watched) (dress ms)
        = sym (versions-told vs c w.watched (filter (is_told r w.watched) vs))
        ∙ ap (map (λ (e : WatchEvent). e.version)) (good-events vs ms c r w.watched g (record {
          first = one;
          kept = omega arith;
          past = most;
        }))
        ∙ versions-told (dress ms) c w.watched (filter (is_told r w.watched) (dress ms)) in
        (is_told r w.watched, (λ i. eq-eqb r r refl i && parts.1 i), ap length same)

    go : (ds : List Version) → AllByRecursion (λ v. v.rev.main ≤ now ms) ds → AllByRecursion (λ v. 1 ≤ v.rev.main) ds
        → AllByRecursion (λ v. test v ≡ true → IsCounted vs (dress ms) v) ds
    go [] a b = tt
    go (v ∷ ds) a b = (counted v a.0 b.0, go ds a.1 b.1)

-- what passes a test is within what passes
passes-in : {X : Type 0} (p : X → Bool) (xs : List X) (x : X) → IsIn x (filter p xs) → p x ≡ true
passes-in p [] x i = absurd i
passes-in {X} p (y ∷ ys) x i = by (p y) refl (passes-in p ys x) i
  where
    by : (b : Bool) → p y ≡ b → (IsIn x (filter p ys) → p x ≡ true) → IsIn x (cond b (y ∷ filter p ys) (filter p ys)) → p x ≡ true
    by true e rest (inl same) = ap p same ∙ e
    by true e rest (inr j) = rest j
    by false e rest j = rest j

-- and from the compaction on a good part tells of it as the whole history does
pub good-told : (vs : List Version) (ms : List Mutation) (c : ℕ) (w : Watch) → IsGood vs ms c → IsHistory ms
    → AllByRecursion (λ v. c ≤ v.rev.main) (undelivered (dress ms) w)
    → AllByRecursion (λ v. event_of vs c w.watched v ≡ event_of (dress ms) c w.watched v) (undelivered (dress ms) w)
good-told vs ms c w g h from = each-of (λ v. event_of vs c w.watched v ≡ event_of (dress ms) c w.watched v)
    (undelivered (dress ms) w) alike
  where
    test : Version → Bool
    test v = nat_le w.next v.rev.main && matches w.watched v

    alike : (v : Version) → IsIn v (undelivered (dress ms) w) → event_of vs c w.watched v ≡ event_of (dress ms) c w.watched v
    alike v i =
        let here : IsIn v (dress ms) = filter-in test (dress ms) v i in
        let told : matches w.watched v ≡ true = (and_parts (nat_le w.next v.rev.main) (matches w.watched v) (passes-in test (dress ms) v i)).1 in
        let most : v.rev.main ≤ now ms = each-in (λ u. u.rev.main ≤ now ms) (dress ms) v (dressed-mains ms h) here in
        let one : 1 ≤ v.rev.main = each-in (λ u. 1 ≤ u.rev.main) (dress ms) v (dressed-above ms h) here in
        let kept : c ≤ v.rev.main = each-in (λ u. c ≤ u.rev.main) (undelivered (dress ms) w) v from i in
        event-alike before_is_kept vs (dress ms) c v.rev.main w.watched v (λ j. eq-eqb v.rev.main v.rev.main refl j && told j) here
        (good-events vs ms c v.rev.main w.watched g (record { first = one; kept = kept; past = most }))

-- ---- a watch is made

tracks-length : (vs : List Version) (n : ℕ) (ts : List Tracked) (ws : List Watch) → TracksAll vs n ts ws → length ts ≡ length ws
tracks-length vs n [] [] h = refl
tracks-length vs n [] (w ∷ ws) h = absurd h
tracks-length vs n (t ∷ ts) [] h = absurd h
tracks-length vs n (t ∷ ts) (w ∷ ws) h = ap suc (tracks-length vs n ts ws h.1)

tracks-push : (vs : List Version) (n : ℕ) (ts : List Tracked) (ws : List Watch) (t : Tracked) (w : Watch) → TracksAll vs n ts ws
    → Tracks vs n t w → TracksAll vs n (ts ++ t ∷ []) (ws ++ w ∷ [])
tracks-push vs n [] [] t w h k = (k, tt)
tracks-push vs n [] (x ∷ ws) t w h k = absurd h
tracks-push vs n (u ∷ ts) [] t w h k = absurd h
tracks-push vs n (u ∷ ts) (x ∷ ws) t w h k = (h.0, tracks-push vs n ts ws t w h.1 k)

-- a store whose watches are others stands for the world that has those
pub watches_stand : (s : Store) (w : World) → StandsFor s w → (made : ℕ) (ts : List Tracked) (ws : List Watch)
    → TracksAll (versions w) (revision w) ts ws
    → StandsFor (record s { watches = ts; made = made }) (record w { watches = ws; made = made })
watches_stand s w h made ts ws tracked = record {
  sound = record { history = h.sound.history; floor = h.sound.floor };
  good = h.good;
  revision_is = h.revision_is;
  compacted = h.compacted;
  leases = h.leases;
  clock = h.clock;
  made = refl;
  watches = tracked;
}

-- the store goes on standing for the world with the watch
pub watch_stands : (s : Store) (w : World) → StandsFor s w → (watched : Watched) (start id : ℤ)
    → StandsFor (with_watch s (tracked_made s watched start id)) (record w {
      watches = w.watches ++ watch_made s watched start id ∷ [];
      made = s.made + 1;
    })
watch_stands s w h watched start id =
    let t : Tracked = tracked_made s watched start id in
    let x : Watch = watch_made s watched start id in
    watches_stand s w h (s.made + 1) (s.watches ++ t ∷ []) (w.watches ++ x ∷ [])
    (tracks-push (versions w) (revision w) s.watches w.watches t x h.watches (record {
      number = refl;
      id = refl;
      watched = refl;
      late = refl;
      next = by (nat_lt (start_of s.revision start) s.compacted) refl;
    }))
  where
    by : (b : Bool) → nat_lt (start_of s.revision start) s.compacted ≡ b
        → MatchBool b ⊤ (TracksNext (versions w) (revision w) (tracked_made s watched start id) (watch_made s watched start id))
    by true e = tt
    by false e =
        let from : s.compacted ≤ start_of s.revision start = ltb-false (start_of s.revision start) s.compacted e in
        record {
          first = ap first_main_of (good-undelivered s.versions w.mutations w.compacted (watch_made s watched start id) h.good
              h.sound.history (omega (arith, h.compacted)));
          ahead = ap (λ r. ahead_of r (start_of s.revision start)) h.revision_is;
        }

-- what the model makes of the command, by the store
pub watch_told : (s : Store) (w : World) → StandsFor s w → (watched : Watched) (start id : ℤ) → made_in w (Call.watch watched start id)
    ≡ refused_or (refusal_of_watch s) (Ok (
      Reply.watch id (s.made + 1),
      record w {
        watches = w.watches ++ watch_made s watched start id ∷ [];
        made = s.made + 1;
      },
    ))
unfolding watch_in
watch_told s w h watched start id =
    let same : length s.watches ≡ length w.watches = tracks-length (versions w) (revision w) s.watches w.watches h.watches in
    sym (λ i. refused_or (refuse_if (nat_le most_watches (same i) || nat_le last_main (h.made i)) TooManyWatches) (Ok (
      Reply.watch id (h.made i + 1),
      record w {
        watches = w.watches ++ (record {
          number = h.made i + 1;
          id = id;
          watched = record watched { range = watched_range watched.range };
          late = nat_lt (start_of (h.revision_is i) start) (h.compacted i);
          next = start_of (h.revision_is i) start;
        }) ∷ [];
        made = h.made i + 1;
      },
    )))
