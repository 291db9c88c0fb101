-- What a store stands for behind a delivery to a watch.
use Rattle.std.proofs.Common.{◌≡◌, ◌⊎◌, inl, inr, ℕ, ◌<◌, ◌≤◌, List, [], ◌∷◌, filter, Bool, true, false, ◌&&◌, ◌==◌, not, cond, Option, None, Some, option_map, refl, sym, ◌∙◌, ap, subst, arith}
use Rattle.std.specs.Prelude.{nat_lt, nat_le, is_some, MatchBool, ⊤}
use Rattle.std.specs.List.{AllByRecursion}
use Rattle.std.proofs.lemmas.Bool.Decides.{nat_tests}
use Rattle.kv_model.specs.declared.version.Version.{Version}
use Rattle.kv_model.specs.declared.call.Watched.{Watched}
use Rattle.kv_model.specs.Watches.{matches}
use Rattle.kv_model.specs.World.{World, Watch, revision, versions, watch_at}
use Rattle.kv_model.specs.Watches.{Delivery, undelivered, last_revision, delivery, after_delivery, deliver}
use Rattle.store_laws.specs.Stands.{Store, Tracked, TracksNext, Tracks, TracksAll, StandsFor, first_main_of}
use Rattle.store_laws.proofs.StandsWatches.{good-undelivered}
use Rattle.store_laws.proofs.TrimLaws.{rising-dress}
use Rattle.watch_hub.specs.Hub.{NumbersAscend, PendingWatch, pending_of, tracked_at, without_tracked}
use Rattle.watch_hub.specs.Delivering.{Course, course_from, course_at, delivery_from, delivery_kept, message_from, taken_by, delivered, told_at}
use Rattle.watch_hub.proofs.Delivering.{AreFrom, least, delivery_stands}
use Rattle.watch_hub.proofs.Standing.{ended_stands, told_stands}
use Rattle.watch_hub.proofs.Tallies.{last-from}

-- ---- the watch of a number, as the store has it and as the world has it

abbrev Found : List Version → ℕ → ℕ → List Tracked → List Watch → Type 0
Found vs now n ts ws = ((tracked_at ts n ≡ None) × (watch_at ws n ≡ None))
    ⊎ ((t : Tracked) × (x : Watch) × (tracked_at ts n ≡ Some t) × (watch_at ws n ≡ Some x) × Tracks vs now t x)

found : (vs : List Version) (now n : ℕ) (ts : List Tracked) (ws : List Watch) → TracksAll vs now ts ws → Found vs now n ts ws
found vs now n [] [] h = inl (refl, refl)
found vs now n [] (w ∷ ws) h = absurd h
found vs now n (t ∷ ts) [] h = absurd h
found vs now n (t ∷ ts) (w ∷ ws) h = by (t.number == n) refl (w.number == n) refl (found vs now n ts ws h.1)
  where
    by : (a : Bool) → (t.number == n) ≡ a → (b : Bool) → (w.number == n) ≡ b → Found vs now n ts ws
        → ((cond a (Some t) (tracked_at ts n) ≡ None) × (cond b (Some w) (watch_at ws n) ≡ None))
        ⊎ ((u : Tracked) × (x : Watch) × (cond a (Some t) (tracked_at ts n) ≡ Some u) × (cond b (Some w) (watch_at ws n) ≡ Some x) × Tracks vs now u x)
    by true f true g later = inr (t, w, refl, refl, h.0)
    by true f false g later = absurd (let e : t.number ≡ w.number = h.0.number in grind (arith, nat_tests))
    by false f true g later = absurd (let e : t.number ≡ w.number = h.0.number in grind (arith, nat_tests))
    by false f false g later = later

-- ---- no other watch has the number

abbrev WatchesAscend : List Watch → Type 0
WatchesAscend [] = ⊤
WatchesAscend (w ∷ ws) = AllByRecursion (λ x. w.number < x.number) ws × WatchesAscend ws

above-tracked : (vs : List Version) (now m : ℕ) (ts : List Tracked) (ws : List Watch) → TracksAll vs now ts ws → AllByRecursion (λ t. m < t.number) ts → AllByRecursion (λ x. m < x.number) ws
above-tracked vs now m [] [] h a = tt
above-tracked vs now m [] (w ∷ ws) h a = absurd h
above-tracked vs now m (t ∷ ts) [] h a = absurd h
above-tracked vs now m (t ∷ ts) (w ∷ ws) h a = (subst (λ k. m < k) h.0.number a.0, above-tracked vs now m ts ws h.1 a.1)

watches-ascend : (vs : List Version) (now : ℕ) (ts : List Tracked) (ws : List Watch) → TracksAll vs now ts ws → NumbersAscend ts → WatchesAscend ws
watches-ascend vs now [] [] h a = tt
watches-ascend vs now [] (w ∷ ws) h a = absurd h
watches-ascend vs now (t ∷ ts) [] h a = absurd h
watches-ascend vs now (t ∷ ts) (w ∷ ws) h a =
    (above-tracked vs now w.number ts ws h.1 (subst (λ k. AllByRecursion (λ u. k < u.number) ts) h.0.number a.0), watches-ascend vs now ts ws h.1 a.1)

above-only : (Q : Watch → Type 0) (n : ℕ) (ws : List Watch) → AllByRecursion (λ x. n < x.number) ws → AllByRecursion (λ x. (x.number == n) ≡ true → Q x) ws
above-only Q n [] a = tt
above-only Q n (w ∷ ws) a = ((λ e. absurd (let l = a.0 in grind (arith, nat_tests))), above-only Q n ws a.1)

only : (Q : Watch → Type 0) (n : ℕ) (x : Watch) (ws : List Watch) → WatchesAscend ws → watch_at ws n ≡ Some x → Q x → AllByRecursion (λ y. (y.number == n) ≡ true → Q y) ws
only Q n x [] a e q = tt
only Q n x (w ∷ ws) a e q = by (λ g. only Q n x ws a.1 g q) (w.number == n) refl e
  where
    by : (watch_at ws n ≡ Some x → AllByRecursion (λ y. (y.number == n) ≡ true → Q y) ws) → (b : Bool) → (w.number == n) ≡ b → cond b (Some w) (watch_at ws n) ≡ Some x → ((w.number == n) ≡ true → Q w) × AllByRecursion (λ y. (y.number == n) ≡ true → Q y) ws
    by later true f e =
        let same : x ≡ w = cc in
        let number : w.number ≡ n = grind (arith, nat_tests) in
        ((λ g. subst Q same q), above-only Q n ws (subst (λ m. AllByRecursion (λ y. m < y.number) ws) number a.0))
    by later false f e = ((λ g. absurd (cc)), later e)

from-least : (m : ℕ) (q : Version → Bool) (vs : List Version) → AreFrom m (filter (λ v. nat_le m v.rev.main && q v) vs)
from-least m q [] = tt
from-least m q (v ∷ vs) = by (nat_le m v.rev.main) refl (q v) (from-least m q vs)
  where
    by : (a : Bool) → nat_le m v.rev.main ≡ a → (b : Bool) → AreFrom m (filter (λ w. nat_le m w.rev.main && q w) vs)
        → AreFrom m (cond (a && b) (v ∷ filter (λ w. nat_le m w.rev.main && q w) vs) (filter (λ w. nat_le m w.rev.main && q w) vs))
    by true f true later = (grind (arith, nat_tests), later)
    by true f false later = later
    by false f b later = later

-- ---- a delivery

module _ (s : Store) (w : World) (h : StandsFor s w) (n : ℕ) where
  -- what is told is what the whole history tells
  pub delivery_told : told_at s.versions s.compacted (option_map pending_of (tracked_at s.watches n)) ≡ (deliver w n).0
  delivery_told = by (found (versions w) (revision w) n s.watches w.watches h.watches)
    where
      by : Found (versions w) (revision w) n s.watches w.watches → told_at s.versions s.compacted (option_map pending_of (tracked_at s.watches n)) ≡ delivery w (watch_at w.watches n)
      by (inl f) = ap (λ (o : Option Tracked). told_at s.versions s.compacted (option_map pending_of o)) f.0 ∙ ap (delivery w) (sym f.1)
      by (inr f) =
          ap (λ (o : Option Tracked). told_at s.versions s.compacted (option_map pending_of o)) f.2
          ∙ sym (delivery_stands s w h f.0 f.1 f.4) ∙ ap (delivery w) (sym f.3)

module _ (s : Store) (w : World) (h : StandsFor s w) (n : ℕ) (ascend : NumbersAscend s.watches) where
  abbrev from : ℕ → Watched → List Version
  from m watched = filter (λ v. nat_le m v.rev.main && matches watched v) s.versions

  -- the last revision of the message, of what is kept and of the whole history
  last-same : (t : Tracked) (x : Watch) (m : ℕ) → Tracks (versions w) (revision w) t x → t.late ≡ false → t.first ≡ Some m → s.compacted ≤ m
      → (from m t.watched ≡ undelivered (versions w) x) × (first_main_of (from m t.watched) ≡ Some m)
  last-same t x m k late first above =
      let next : TracksNext (versions w) (revision w) t x = subst (λ b. MatchBool b ⊤ (TracksNext (versions w) (revision w) t x)) (sym k.late ∙ late) k.next in
      let begins : first_main_of (undelivered (versions w) x) ≡ Some m = sym next.first ∙ first in
      let same : from m t.watched ≡ undelivered (versions w) x =
      ap (from m) k.watched
      ∙ good-undelivered s.versions w.mutations w.compacted (record x { next = m }) h.good h.sound.history (omega (arith, above, h.compacted))
      ∙ least x.next m (matches x.watched) (versions w) (rising-dress w.mutations h.sound.history) begins in
      (same, ap first_main_of same ∙ begins)

  goes-on : (t : Tracked) (x : Watch) → watch_at w.watches n ≡ Some x → Tracks (versions w) (revision w) t x → (b : Bool) → t.late ≡ b → (o : Option ℕ) → t.first ≡ o
      → StandsFor (record s { watches = taken_by s.versions s.revision n s.watches (cond b Course.ends (course_from s.versions s.compacted t.watched o)) })
      (after_delivery w n (cond b (Delivery.cancelled s.compacted) (delivery_from s.versions s.compacted t.watched o)))
  goes-on t x at k true late o first = ended_stands s w h n
  goes-on t x at k false late None first = h
  goes-on t x at k false late (Some m) first = by (nat_lt m s.compacted) refl
    where
      by : (b : Bool) → nat_lt m s.compacted ≡ b
          → StandsFor (record s { watches = taken_by s.versions s.revision n s.watches (cond b Course.ends (Course.passes (last_revision (from m t.watched)))) })
          (after_delivery w n (cond b (Delivery.cancelled s.compacted) (Delivery.events (message_from s.versions s.compacted t.watched (from m t.watched)))))
      by true f = ended_stands s w h n
      by false f =
          let above : s.compacted ≤ m = grind (arith, nat_tests) in
          let same = last-same t x m k late first above in
          let begins : m ≤ last_revision (from m t.watched) = last-from m m (from m t.watched) same.1 (from-least m (matches t.watched) s.versions) in
          told_stands s w h n (last_revision (from m t.watched)) (omega arith)
          (only (λ y. last_revision (from m t.watched) ≡ last_revision (undelivered (versions w) y)) n x w.watches
          (watches-ascend (versions w) (revision w) s.watches w.watches h.watches ascend) at (ap last_revision same.0))

  -- the store goes on standing for the world
  pub delivery_left : StandsFor (record s { watches = delivered s.versions s.revision s.compacted n s.watches }) (deliver w n).1
  delivery_left = by (found (versions w) (revision w) n s.watches w.watches h.watches)
    where
      left : Option Tracked → Delivery → Type 0
      left o d = StandsFor (record s { watches = taken_by s.versions s.revision n s.watches (course_at s.versions s.compacted (option_map pending_of o)) }) (after_delivery w n d)

      by : Found (versions w) (revision w) n s.watches w.watches → StandsFor (record s { watches = delivered s.versions s.revision s.compacted n s.watches }) (deliver w n).1
      by (inl f) = subst (λ (d : Delivery). left (tracked_at s.watches n) d) (ap (delivery w) (sym f.1)) (subst (λ (o : Option Tracked). left o Delivery.no_watch) (sym f.0) h)
      by (inr f) = subst (λ (d : Delivery). left (tracked_at s.watches n) d) (sym (delivery_stands s w h f.0 f.1 f.4) ∙ ap (delivery w) (sym f.3))
          (subst (λ (o : Option Tracked). left o (delivery_kept s.versions s.compacted f.0)) (sym f.2) (goes-on f.0 f.1 f.3 f.4 f.0.late refl f.0.first refl))

-- ---- a watch is ended

-- it stood where the world has it
pub stood : (s : Store) (w : World) → StandsFor s w → (n : ℕ) → is_some (tracked_at s.watches n) ≡ is_some (watch_at w.watches n)
stood s w h n = by (found (versions w) (revision w) n s.watches w.watches h.watches)
  where
    by : Found (versions w) (revision w) n s.watches w.watches → is_some (tracked_at s.watches n) ≡ is_some (watch_at w.watches n)
    by (inl f) = ap is_some f.0 ∙ sym (ap is_some f.1)
    by (inr f) = ap is_some f.2 ∙ sym (ap is_some f.3)

-- the client's number for it is the one that the world has
pub client_ids : (s : Store) (w : World) → StandsFor s w → (n : ℕ)
    → option_map (λ (p : PendingWatch). p.id) (option_map pending_of (tracked_at s.watches n)) ≡ option_map (λ (x : Watch). x.id) (watch_at w.watches n)
client_ids s w h n = by (found (versions w) (revision w) n s.watches w.watches h.watches)
  where
    by : Found (versions w) (revision w) n s.watches w.watches
        → option_map (λ (p : PendingWatch). p.id) (option_map pending_of (tracked_at s.watches n)) ≡ option_map (λ (x : Watch). x.id) (watch_at w.watches n)
    by (inl f) = ap (λ (o : Option Tracked). option_map (λ (p : PendingWatch). p.id) (option_map pending_of o)) f.0 ∙ sym (ap (option_map (λ (x : Watch). x.id)) f.1)
    by (inr f) =
        ap (λ (o : Option Tracked). option_map (λ (p : PendingWatch). p.id) (option_map pending_of o)) f.2
        ∙ ap (λ i. Some i) f.4.id ∙ sym (ap (option_map (λ (x : Watch). x.id)) f.3)

-- where there is none, none goes
pub none_goes : (ts : List Tracked) (n : ℕ) → is_some (tracked_at ts n) ≡ false → without_tracked n ts ≡ ts
none_goes [] n e = refl
none_goes (t ∷ ts) n e = by (none_goes ts n) (t.number == n) e
  where
    by : (is_some (tracked_at ts n) ≡ false → without_tracked n ts ≡ ts) → (b : Bool) → is_some (cond b (Some t) (tracked_at ts n)) ≡ false
        → cond (not b) (t ∷ without_tracked n ts) (without_tracked n ts) ≡ t ∷ ts
    by later true e = absurd (cc)
    by later false e = ap (λ us. t ∷ us) (later e)
