-- A trimming step by the rule is one that a run may make.
use Rattle.std.proofs.Common.{◌≡◌, ◌≤◌, ◌<◌, ◌⊎◌, ◌^◌, List, [], ◌∷◌, ◌++◌, length, find, filter, Bool, true, false, not, ◌&&◌, cond}
use Rattle.std.proofs.Common.{Option, None, Some, refl, sym, ◌∙◌, ap, subst, inl, inr}
use Rattle.std.specs.Prelude.{⊤, nat_le, MatchOption}
use Rattle.std.proofs.lemmas.Bool.{leb-true, leb-false}
use Rattle.std.specs.List.{AllByRecursion}
use Rattle.std.proofs.Math.Bool.{and-false}
use Rattle.kv_model.specs.declared.version.Rev.{Rev}
use Rattle.kv_model.specs.declared.version.Version.{Version}
use Rattle.kv_model.specs.Lists.{IsIn}
use Rattle.kv_model.specs.History.{now, rev_lt, without_rev}
use Rattle.kv_model.specs.World.{World}
use Rattle.store_laws.specs.Sound.{IsSound}
use Rattle.kv_model.specs.Told.{Trimmed}
use Rattle.kv_model.specs.Questions.{IsGood}
use Rattle.store_laws.specs.Trimming.{TrimStep, trimmed, trimmed_next, visited, finished, place_after, is_trimmed, IsSettled}
use Rattle.store_laws.specs.Trimming.{IsTrimmedTo}
use Rattle.kv_model.specs.Wire.{WireTold, trim_told}
use Rattle.kv_model.specs.Headline.{Keeping, IsInLeast, IsTrimmed, IsCertificate, Trims}
use Rattle.kv_model.specs.Certificates.{Claim}
use Rattle.store_laws.specs.TrimmingLaws.{keeping, IsOwn, StepsWell, TrimmedStepsWell, DoneIsTrimmed}
use Rattle.store_laws.proofs.PartLaws.{in_whole}
use Rattle.store_laws.proofs.RevOrder.{rev_lt-self}
use Rattle.store_laws.proofs.TrimLaws.{Precedes, AreRising, rising-dress, rising-part, rising-mid, sit-numbers, sit-part, AreLeft}
use Rattle.store_laws.proofs.StepLaws.{settles, step-good}
use Rattle.store_laws.proofs.LeastLaws.{each-in, IsLeft, stays-in, settled-least, least-settled}
use Rattle.store_laws.proofs.PlaceSteps.{First, first-from, none-from, is_ahead, ahead-none}
use Rattle.store_laws.proofs.Visits.{IsOrderly, to_visit, rising-revs, left-before, visit-next, visit-kept, visit-removed, taken-out}
use Rattle.store_laws.proofs.Visits.{up_to-removed, up_to-kept, none-ahead, settled-from}
use Rattle.store_laws.proofs.CertificateLaws.{settled-certified}

-- ---- done

own-certificate : (w : World) (vs : List Version) (certificate : Option (List Claim)) → IsSound w → IsGood vs w.mutations w.compacted
    → IsSettled vs w.compacted → IsOwn w vs certificate
    → MatchOption certificate ⊤ (IsCertificate w vs)
own-certificate w vs None sound g left own = tt
own-certificate w vs (Some claims) sound g left own = subst (IsCertificate w vs) (sym own) (settled-certified w vs sound g left)

finishes : (w : World) (vs : List Version) (p : Rev) (certificate : Option (List Claim)) → IsSound w → IsGood vs w.mutations w.compacted
    → IsTrimmedTo vs p w.compacted → IsOwn w vs certificate
    → filter (is_ahead p w.compacted) vs ≡ [] → StepsWell w vs p certificate (finished vs p)
finishes w vs p certificate sound g to own e =
    let left : IsSettled vs w.compacted = settled-from vs p w.compacted vs e to in
    record {
      good = g;
      up_to = to;
      trims = subst (λ (a : List Version). Trims w (record { kept = vs; ahead = a }) a (WireTold.done (length vs) certificate)
          (record { kept = vs; ahead = a })) (sym e) (
            record {
              number = refl;
              least = settled-least w.mutations w.compacted vs sound.history sound.floor g left;
              certified = own-certificate w vs certificate sound g left own;
            },
            refl,
          );
    }

-- ---- a version is looked at

in-append : {X : Type 0} (xs ys : List X) (x : X) → IsIn x (xs ++ ys) → IsIn x xs ⊎ IsIn x ys
in-append [] ys x i = inr i
in-append (z ∷ xs) ys x (inl e) = inl (inl e)
in-append (z ∷ xs) ys x (inr i) = elim (in-append xs ys x i) [ inl j ↦ inl (inr j) | inr j ↦ inr j ]

-- a version stands once
mid-once : (xs : List Version) (v : Version) (ys : List Version) → AreRising (xs ++ v ∷ ys) → IsIn v (xs ++ ys) → ⊥
mid-once xs v ys h i = elim (in-append xs ys v i) [
  | inl j ↦ (let e : true ≡ false = sym (each-in (λ u. Precedes u v) xs v (rising-mid xs v ys h).0 j).0 ∙ rev_lt-self v.rev in cc)
  | inr j ↦ (let e : true ≡ false = sym (each-in (Precedes v) ys v (rising-mid xs v ys h).1 j).0 ∙ rev_lt-self v.rev in cc)
]

in-mid : {X : Type 0} (xs : List X) (v : X) (ys : List X) → IsIn v (xs ++ v ∷ ys)
in-mid [] v ys = inl refl
in-mid (x ∷ xs) v ys = inr (in-mid xs v ys)

module _ (w : World) (xs : List Version) (v : Version) (ys : List Version) (p : Rev) (certificate : Option (List Claim)) (sound : IsSound w)
    (small : w.compacted < 2 ^ 63)
    (g : IsGood (xs ++ v ∷ ys) w.mutations w.compacted) (to : IsTrimmedTo (xs ++ v ∷ ys) p w.compacted) (all_before : AllByRecursion
    (λ u. rev_lt u.rev p ≡ true) xs) (from : rev_lt v.rev p ≡ false) (low : v.rev.main ≤ w.compacted) where
  rising : AreRising (xs ++ v ∷ ys)
  rising = rising-part g.part (rising-dress w.mutations sound.history)

  orderly : IsOrderly w.compacted (xs ++ v ∷ ys)
  orderly = record {
    rising = rising-revs (xs ++ v ∷ ys) rising;
    numbers = sit-numbers (now w.mutations) (xs ++ v ∷ ys) (sit-part (xs ++ v ∷ ys) w.mutations g.part sound.history);
    small = small;
  }

  -- nothing before it goes
  left : AreLeft (xs ++ v ∷ ys) w.compacted xs
  left = left-before w.compacted xs v ys p orderly to all_before from low

  next : Rev
  next = place_after v.rev

  rest : List Version
  rest = to_visit ys p w.compacted

  ahead-is : to_visit (xs ++ v ∷ ys) p w.compacted ≡ v ∷ rest
  unfolding rest
  ahead-is = visit-next w.compacted xs v ys p orderly to all_before from low

  ahead-kept : to_visit (xs ++ v ∷ ys) next w.compacted ≡ rest
  unfolding rest next
  ahead-kept = visit-kept w.compacted xs v ys p orderly to all_before from low

  ahead-removed : to_visit (xs ++ ys) next w.compacted ≡ rest
  unfolding rest next
  ahead-removed = visit-removed w.compacted xs v ys p orderly to all_before from low

  -- it goes, and no least list has it
  removes : is_trimmed (xs ++ v ∷ ys) w.compacted v ≡ true
      → StepsWell w (xs ++ v ∷ ys) p certificate (record {
        told = Trimmed.removed v.rev;
        versions = without_rev (Some v.rev) (xs ++ v ∷ ys);
        place = place_after v.rev;
      })
  unfolding next
  removes e = record {
    good = subst (λ us. IsGood us w.mutations w.compacted) (sym out) good;
    up_to = subst (λ us. IsTrimmedTo us next w.compacted) (sym out) up_to;
    trims = trims;
  }
    where
      out : without_rev (Some v.rev) (xs ++ v ∷ ys) ≡ xs ++ ys
      out = taken-out w.compacted xs v ys p orderly to all_before from low

      good : IsGood (xs ++ ys) w.mutations w.compacted
      good = step-good w.mutations w.compacted xs v ys sound.history g left e

      up_to : IsTrimmedTo (xs ++ ys) next w.compacted
      up_to = up_to-removed w.compacted xs v ys p orderly to all_before from low

      none : IsInLeast w v → ⊥
      none h =
          let s = settles w.mutations w.compacted (xs ++ ys) sound.history good in
          let same : h.0 ≡ s.settled = least-settled w.mutations w.compacted h.0 s.settled sound.history sound.floor h.1 s.good s.is_settled
          in
          mid-once xs v ys rising (in_whole s.part v (subst (IsIn v) same h.2))

      after : ◌≡◌ {A = Keeping} (keeping (without_rev (Some v.rev) (xs ++ v ∷ ys)) next w.compacted)
          (record { kept = without_rev (Some v.rev) (xs ++ v ∷ ys); ahead = rest })
      after = λ i. record {
        kept = without_rev (Some v.rev) (xs ++ v ∷ ys);
        ahead = (ap (filter (is_ahead next w.compacted)) out
            ∙ ahead-removed) i;
      }

      trims : Trims w (keeping (xs ++ v ∷ ys) p w.compacted) (keeping (xs ++ v ∷ ys) p w.compacted).ahead (WireTold.removed v.rev)
          (keeping (without_rev (Some v.rev) (xs ++ v ∷ ys)) next w.compacted)
      trims = subst (λ (a : List Version). Trims w (record { kept = xs ++ v ∷ ys; ahead = a }) a (WireTold.removed v.rev)
          (keeping (without_rev (Some v.rev) (xs ++ v ∷ ys)) next w.compacted)) (sym ahead-is) (refl, none, after)

  -- it stays, and a least list has it
  stays : is_trimmed (xs ++ v ∷ ys) w.compacted v ≡ false
      → StepsWell w (xs ++ v ∷ ys) p certificate (record { told = Trimmed.kept v.rev; versions = xs ++ v ∷ ys; place = place_after v.rev })
  unfolding next
  stays e = record { good = g; up_to = up_to; trims = trims }
    where
      here : IsLeft (xs ++ v ∷ ys) w.compacted v
      here = ap (λ b. nat_le v.rev.main w.compacted && b) e ∙ and-false (nat_le v.rev.main w.compacted)

      up_to : IsTrimmedTo (xs ++ v ∷ ys) next w.compacted
      up_to = up_to-kept w.compacted xs v ys p orderly to all_before from low e

      some : IsInLeast w v
      some =
          let s = settles w.mutations w.compacted (xs ++ v ∷ ys) sound.history g in (
            s.settled,
            settled-least w.mutations w.compacted s.settled sound.history sound.floor s.good s.is_settled,
            stays-in w.mutations w.compacted sound.history sound.floor (xs ++ v ∷ ys) g v (in-mid xs v ys) here s.settled s.good,
          )

      trims : Trims w (keeping (xs ++ v ∷ ys) p w.compacted) (keeping (xs ++ v ∷ ys) p w.compacted).ahead (WireTold.kept v.rev) (keeping (xs
          ++ v ∷ ys) next w.compacted)
      trims = subst (λ (a : List Version). Trims w (record { kept = xs ++ v ∷ ys; ahead = a }) a (WireTold.kept v.rev) (keeping (xs ++ v
          ∷ ys) next w.compacted)) (sym ahead-is)
          (refl, some, λ i. record { kept = xs ++ v ∷ ys; ahead = ahead-kept i })

  visits : StepsWell w (xs ++ v ∷ ys) p certificate (visited (xs ++ v ∷ ys) w.compacted v)
  visits = by (is_trimmed (xs ++ v ∷ ys) w.compacted v) refl
    where
      by : (b : Bool) → is_trimmed (xs ++ v ∷ ys) w.compacted v ≡ b
          → StepsWell w (xs ++ v ∷ ys) p certificate (cond {A = TrimStep} b (record {
            told = Trimmed.removed v.rev;
            versions = without_rev (Some v.rev) (xs ++ v ∷ ys);
            place = place_after v.rev;
          }) (record {
            told = Trimmed.kept v.rev;
            versions = xs ++ v ∷ ys;
            place = place_after v.rev;
          }))
      by true e = removes e
      by false e = stays e

-- ---- the step

pub steps-well : TrimmedStepsWell
unfolding trimmed
steps-well w vs p certificate sound small g to own = by (find (λ u. not (rev_lt u.rev p)) vs) refl
  where
    looked : (v : Version) (f : First p v vs) (b : Bool) → nat_le v.rev.main w.compacted ≡ b
        → StepsWell w vs p certificate (cond b (visited vs w.compacted v) (finished vs p))
    looked v f true e = subst (λ us. StepsWell w us p certificate (visited us w.compacted v)) (sym f.is)
        (visits w f.before v f.after p certificate sound small (subst (λ us. IsGood us w.mutations w.compacted) f.is g)
        (subst (λ us. IsTrimmedTo us p w.compacted) f.is to) f.all_before f.from (leb-true v.rev.main w.compacted e))
    looked v f false e = finishes w vs p certificate sound g to own (subst (λ us. filter (is_ahead p w.compacted) us ≡ []) (sym f.is)
        (none-ahead f.before v f.after p w.compacted (rising-revs (f.before ++ v ∷ f.after)
        (subst AreRising f.is (rising-part g.part (rising-dress w.mutations sound.history)))) f.all_before (leb-false v.rev.main w.compacted e)))

    by : (o : Option Version) → find (λ u. not (rev_lt u.rev p)) vs ≡ o → StepsWell w vs p certificate (trimmed_next vs p w.compacted o)
    by None e = finishes w vs p certificate sound g to own (ahead-none p w.compacted vs (none-from p vs e))
    by (Some v) e = looked v (first-from p v vs e) (nat_le v.rev.main w.compacted) refl

pub done-trimmed : DoneIsTrimmed
done-trimmed w vs p n sound small g to e = by (keeping vs p w.compacted).ahead refl
    (subst (λ t. Trims w (keeping vs p w.compacted) (keeping vs p w.compacted).ahead (trim_told t None) after) e
    (steps-well w vs p None sound small g to tt).trims)
  where
    after : Keeping
    after = keeping (trimmed vs p w.compacted).versions (trimmed vs p w.compacted).place w.compacted

    by : (a : List Version) → (keeping vs p w.compacted).ahead ≡ a → Trims w (keeping vs p w.compacted) a (WireTold.done n None) after
        → IsTrimmed w (keeping vs p w.compacted)
    by [] d h = record { least = h.0.least; visited = d }
    by (u ∷ us) d h = absurd h
