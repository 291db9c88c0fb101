-- How many messages a watch can still be told at most: each goes on by a revision at least.
use Rattle.std.proofs.Common.{◌≡◌, ◌≤◌, ◌<◌, ℕ, ◌+◌, ◌-◌, arith, List, [], ◌∷◌, ◌==◌, Bool, true, false, cond, not, ◌&&◌, Option, None, Some, filter, refl, ◌∙◌, ap, nat_le, nat_lt}
use Rattle.std.specs.List.{AllByRecursion, list_any}
use Rattle.std.proofs.lemmas.Bool.Decides.{nat_tests}
use Rattle.kv_model.specs.declared.version.Version.{Version}
use Rattle.kv_model.specs.declared.ids.Ids.{Ids}
use Rattle.kv_model.specs.Answers.{message_text}
use Rattle.kv_model.specs.Watches.{matches}
use Rattle.kv_model.specs.Watches.{Delivery, advanced, after_delivery, deliver, delivery, delivery_of, last_revision, message_of, undelivered}
use Rattle.kv_model.specs.Wire.{client_id, message_to}
use Rattle.store_laws.specs.Sound.{IsSound}
use Rattle.kv_model.specs.World.{Watch, World, revision, versions, watch_at, without_watch}
use Rattle.store_laws.proofs.BatchLaws.{dressed-mains}
use Rattle.watch_hub.proofs.Tallies.{last-from}

abbrev pub rest_of : ℕ → Option Watch → ℕ
rest_of now None = 0
rest_of now (Some x) = cond x.late 1 ((now + 1) - x.next)

abbrev pub rest : World → ℕ → ℕ
rest w n = rest_of (revision w) (watch_at w.watches n)

-- ---- what a watch was not told of

abbrev AreFrom : ℕ → ℕ → List Version → Type 0
AreFrom m now us = AllByRecursion (λ v. (m ≤ v.rev.main) × (v.rev.main ≤ now)) us

from_next : (m now : ℕ) (q : Version → Bool) (vs : List Version) → AllByRecursion (λ v. v.rev.main ≤ now) vs → AreFrom m now (filter (λ v. nat_le m v.rev.main && q v) vs)
from_next m now q [] h = tt
from_next m now q (v ∷ vs) h = by (nat_le m v.rev.main) refl (q v) (from_next m now q vs h.1)
  where
    by : (a : Bool) → nat_le m v.rev.main ≡ a → (b : Bool) → AreFrom m now (filter (λ w. nat_le m w.rev.main && q w) vs)
        → AreFrom m now (cond (a && b) (v ∷ filter (λ w. nat_le m w.rev.main && q w) vs) (filter (λ w. nat_le m w.rev.main && q w) vs))
    by true f true later = ((grind (arith, nat_tests, f), h.0), later)
    by true f false later = later
    by false f b later = later

lower : (m now : ℕ) (us : List Version) → AreFrom m now us → AllByRecursion (λ v. m ≤ v.rev.main) us
lower m now [] h = tt
lower m now (u ∷ us) h = (h.0.0, lower m now us h.1)

-- ---- the watch of a number, once it went on or was ended

gone : (n : ℕ) (ws : List Watch) → watch_at (without_watch n ws) n ≡ None
gone n [] = refl
gone n (w ∷ ws) = by (w.number == n) refl (gone n ws)
  where
    by : (b : Bool) → (w.number == n) ≡ b → watch_at (without_watch n ws) n ≡ None → watch_at (cond (not b) (w ∷ without_watch n ws) (without_watch n ws)) n ≡ None
    by true e h = h
    by false e h = ap (λ b. cond b (Some w) (watch_at (without_watch n ws) n)) e ∙ h

went : (vs : List Version) (n : ℕ) (ws : List Watch) (x : Watch) → watch_at ws n ≡ Some x
    → watch_at (advanced vs n ws) n ≡ Some (record x { next = last_revision (undelivered vs x) + 1 })
went vs n [] x e = absurd (cc)
went vs n (w ∷ ws) x e = by (w.number == n) refl e (went vs n ws x)
  where
    goes : Watch
    goes = record w { next = last_revision (undelivered vs w) + 1 }

    by : (b : Bool) → (w.number == n) ≡ b → cond b (Some w) (watch_at ws n) ≡ Some x
        → (watch_at ws n ≡ Some x → watch_at (advanced vs n ws) n ≡ Some (record x { next = last_revision (undelivered vs x) + 1 }))
        → cond ((cond b goes w).number == n) (Some (cond b goes w)) (watch_at (advanced vs n ws) n) ≡ Some (record x { next = last_revision (undelivered vs x) + 1 })
    by true f e later =
        let same : w ≡ x = cc in
        ap (λ b. cond b (Some goes) (watch_at (advanced vs n ws) n)) f ∙ ap (λ (y : Watch). Some (record y { next = last_revision (undelivered vs y) + 1 })) same
    by false f e later = ap (λ b. cond b (Some w) (watch_at (advanced vs n ws) n)) f ∙ later e

-- ---- none is left, or one less

module _ (ids : Ids) (w : World) (n : ℕ) (sound : IsSound w) where
  mains : AllByRecursion (λ v. v.rev.main ≤ revision w) (versions w)
  mains = dressed-mains w.mutations sound.history

  open_from : (x : Watch) → AreFrom x.next (revision w) (undelivered (versions w) x)
  open_from x = from_next x.next (revision w) (matches x.watched) (versions w) mains

  -- what is told to the watch o, and what it can be told still
  pub quiet_at : rest w n ≡ 0 → message_to ids w n ≡ None
  quiet_at = by (watch_at w.watches n)
    where
      by : (o : Option Watch) → rest_of (revision w) o ≡ 0 → message_text ids (revision w) (client_id o) (delivery w o) ≡ None
      by None e = refl
      by (Some x) e = late x.late e (undelivered (versions w) x) (open_from x)
        where
          late : (b : Bool) → cond b 1 ((revision w + 1) - x.next) ≡ 0 → (us : List Version) → AreFrom x.next (revision w) us
              → message_text ids (revision w) x.id (cond b (Delivery.cancelled w.compacted) (delivery_of (versions w) w.compacted x us)) ≡ None
          late true e us h = absurd (omega (arith, e))
          late false e [] h = refl
          late false e (u ∷ us) h = absurd (omega (arith, e, h.0.0, h.0.1))

  pub less_at : (text : List ℕ) → message_to ids w n ≡ Some text → rest (deliver w n).1 n < rest w n
  less_at text = by (watch_at w.watches n) refl
    where
      by : (o : Option Watch) → watch_at w.watches n ≡ o → message_text ids (revision w) (client_id o) (delivery w o) ≡ Some text
          → rest (after_delivery w n (delivery w o)) n < rest_of (revision w) o
      by None is e = absurd (cc)
      by (Some x) is e = late x.late refl (undelivered (versions w) x) refl (open_from x) e
        where
          ended : watch_at (without_watch n w.watches) n ≡ None
          ended = gone n w.watches

          late : (b : Bool) → x.late ≡ b → (us : List Version) → undelivered (versions w) x ≡ us → AreFrom x.next (revision w) us
              → message_text ids (revision w) x.id (cond b (Delivery.cancelled w.compacted) (delivery_of (versions w) w.compacted x us)) ≡ Some text
              → rest (after_delivery w n (cond b (Delivery.cancelled w.compacted) (delivery_of (versions w) w.compacted x us))) n
              < cond b 1 ((revision w + 1) - x.next)
          late true l us u h e = rw (ended) (omega arith)
          late false l [] u h e = absurd (cc)
          late false l (v ∷ us) u h e = cut (list_any (λ (v : Version). nat_lt v.rev.main w.compacted) (v ∷ us))
            where
              cut : (b : Bool) → rest (after_delivery w n (cond b (Delivery.cancelled w.compacted) (Delivery.events (message_of (versions w) w.compacted x (v ∷ us))))) n
                  < (revision w + 1) - x.next
              cut true = rw (ended) (omega (arith, h.0.0, h.0.1))
              cut false =
                  let begins : x.next ≤ last_revision (v ∷ us) = last-from x.next v.rev.main (v ∷ us) refl (lower x.next (revision w) (v ∷ us) h) in
                  let there : watch_at (advanced (versions w) n w.watches) n ≡ Some (record x { next = last_revision (undelivered (versions w) x) + 1 })
                  = went (versions w) n w.watches x is in
                  rw (there, l, u) (omega (arith, begins, h.0.0, h.0.1))

-- and never more than the revision that stands, and one
pub rest_most : (w : World) (n : ℕ) → rest w n ≤ revision w + 1
rest_most w n = by (watch_at w.watches n)
  where
    by : (o : Option Watch) → rest_of (revision w) o ≤ revision w + 1
    by None = omega arith
    by (Some x) = late x.late
      where
        late : (b : Bool) → cond b 1 ((revision w + 1) - x.next) ≤ revision w + 1
        late true = omega arith
        late false = omega arith
