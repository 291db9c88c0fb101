-- The first fault of a certificate stands in it.
use Rattle.std.proofs.Common.{◌≡◌, ◌<◌, inl, inr, ℕ, length, List, [], ◌∷◌, ◌++◌, Bool, true, false, cond}
use Rattle.std.proofs.Common.{Result, Ok, Err, IfErr, Option, None, Some, option_map, refl, sym, ◌∙◌, ap, subst, arith}
use Rattle.std.specs.Option.{option_or}
use Rattle.std.proofs.lemmas.Bool.{eqb-true}
use Rattle.std.proofs.lemmas.List.{append_assoc, append-nil, length-append}
use Rattle.kv_model.specs.declared.version.Rev.{Rev}
use Rattle.kv_model.specs.declared.version.Version.{Version}
use Rattle.kv_model.specs.Lists.{IsIn}
use Rattle.kv_model.specs.Keys.{same_key}
use Rattle.kv_model.specs.History.{rev_lt, is_at}
use Rattle.kv_model.specs.Certificates.{Dump, Claim}
use Rattle.kv_model.specs.Certificates.{NeedFault, is_met, fall_after, first_fall, first_double, claims_fault, first_fault}
use Rattle.store_laws.proofs.HistoryLaws.{same_key-eq}
use Rattle.witness_core.specs.declared.checking.Least.{Least}
use Rattle.witness_core.specs.declared.fault.NeedFault as declared
use Rattle.witness_core.specs.declared.fault.NeedFault.TheVariants.{NotRising, DoubleKey, NoNeed, NeedUnmet, Extra, Memory}
use Rattle.witness_core.specs.Faults.{IsFirst}
use Rattle.witness_core.specs.Standing.{Falls, Doubles, Stands, IsThere}
use Rattle.witness_core.specs.Walks.{next_main, next_mains, is_next_in, first_twin}
use Rattle.witness_core.proofs.Following.{rises, twin-double}

-- ---- the list

falls-from : (whole before : List Version) (u : Version) (vs : List Version) (p : Rev) → whole ≡ before ++ u ∷ vs
    → fall_after u.rev vs ≡ Some p → Falls whole p
falls-from whole before u [] p e f = cc
falls-from whole before u (v ∷ vs) p e f =
    by (rev_lt u.rev v.rev) refl f (falls-from whole (before ++ u ∷ []) v vs p (e ∙ sym (append_assoc before (u ∷ []) (v ∷ vs))))
  where
    by : (b : Bool) → rev_lt u.rev v.rev ≡ b → cond b (fall_after v.rev vs) (Some v.rev) ≡ Some p
        → (fall_after v.rev vs ≡ Some p → Falls whole p) → Falls whole p
    by true d g rest = rest g
    by false d g rest = record { before = before; earlier = u; version = v; after = vs; is = e; at = cc; falls = d }

falls-there : (vs : List Version) (p : Rev) → first_fall vs ≡ Some p → Falls vs p
falls-there [] p e = cc
falls-there (v ∷ vs) p e = falls-from (v ∷ vs) [] v vs p refl e

-- the next version of a key, where it is of this main revision
record Next (k : List ℕ) (m : ℕ) (vs : List Version) : Type 0 where
  version : Version
  among : IsIn version vs
  key : version.key ≡ k
  main : version.rev.main ≡ m

next-there : (k : List ℕ) (m : ℕ) (vs : List Version) → is_next_in m (next_main k vs) ≡ true → Next k m vs
next-there k m [] e = cc
next-there k m (u ∷ us) e = by (same_key u.key k) refl e (next-there k m us)
  where
    by : (b : Bool) → same_key u.key k ≡ b → is_next_in m (cond b (Some u.rev.main) (next_main k us)) ≡ true
        → (is_next_in m (next_main k us) ≡ true → Next k m us) → Next k m (u ∷ us)
    by true f g rest = record { version = u; among = inl refl; key = same_key-eq u.key k f; main = eqb-true u.rev.main m g }
    by false f g rest =
        let n = rest g in
        record { version = n.version; among = inr n.among; key = n.key; main = n.main }

doubles-from : (whole before vs : List Version) (p : Rev) → whole ≡ before ++ vs → first_twin vs (next_mains vs) ≡ Some p → Doubles whole p
doubles-from whole before [] p e f = cc
doubles-from whole before (v ∷ vs) p e f =
    by (is_next_in v.rev.main (next_main v.key vs)) refl f
    (doubles-from whole (before ++ v ∷ []) vs p (e ∙ sym (append_assoc before (v ∷ []) vs)))
  where
    by : (b : Bool) → is_next_in v.rev.main (next_main v.key vs) ≡ b → cond b (Some v.rev) (first_twin vs (next_mains vs)) ≡ Some p
        → (first_twin vs (next_mains vs) ≡ Some p → Doubles whole p) → Doubles whole p
    by true d g rest =
        let n = next-there v.key v.rev.main vs d in
        record {
          before = before;
          version = v;
          after = vs;
          is = e;
          at = cc;
          twin = n.version;
          behind = n.among;
          key = n.key;
          main = n.main;
        }
    by false d g rest = rest g

doubles-there : (vs : List Version) (p : Rev) → first_fall vs ≡ None → first_double vs ≡ Some p → Doubles vs p
doubles-there vs p e f = doubles-from vs [] vs p refl (twin-double vs (rises vs e) ∙ f)

-- ---- the claims

longer : (front : List Claim) (claim : Claim) (rest : List Claim) (n : ℕ) → length front ≡ n → n < length (front ++ claim ∷ rest)
longer front claim rest n e = omega (arith, e, length-append front (claim ∷ rest))

level-more : {X Y : Type 0} (xs : List X) (x : X) (ys : List Y) (y : Y) → length xs ≡ length ys → length (xs ++ x ∷ []) ≡ length (ys ++ y ∷ [])
level-more xs x ys y e = omega (arith, e, length-append xs (x ∷ []), length-append ys (y ∷ []))

module _ (d : Dump) (claims : List Claim) where
  claims-from : (before vs : List Version) (front cs : List Claim) (f : NeedFault) → d.versions ≡ before ++ vs → claims ≡ front ++ cs
      → length front ≡ length before → claims_fault d vs cs ≡ Some f → Stands d claims f
  claims-from before [] front [] f e g l h = cc
  claims-from before [] front (c ∷ cs) f e g l h =
      let same : NeedFault.extra ≡ f = cc in
      let short : length d.versions ≡ length front = ap length (e ∙ append-nil before) ∙ sym l in
      subst (Stands d claims) same
      (subst (λ (xs : List Claim). length d.versions < length xs) (sym g) (longer front c cs (length d.versions) (sym short)))
  claims-from before (v ∷ vs) front [] f e g l h =
      let same : NeedFault.no_need v.rev ≡ f = cc in
      subst (Stands d claims) same
      (record {
        before = before;
        version = v;
        after = vs;
        is = e;
        at = refl;
        front = front;
        rest = [];
        claimed = g;
        level = l;
        off = tt;
      })
  claims-from before (v ∷ vs) front (c ∷ cs) f e g l h =
      by (is_at c.rev v) refl (is_met d v c.need) refl h
      (claims-from (before ++ v ∷ []) vs (front ++ c ∷ []) cs f (e ∙ sym (append_assoc before (v ∷ []) vs))
      (g ∙ sym (append_assoc front (c ∷ []) cs)) (level-more front c before v l))
    where
      by : (a : Bool) → is_at c.rev v ≡ a → (m : Bool) → is_met d v c.need ≡ m
          → cond a (cond m (claims_fault d vs cs) (Some (NeedFault.need_unmet v.rev))) (Some (NeedFault.no_need v.rev)) ≡ Some f
          → (claims_fault d vs cs ≡ Some f → Stands d claims f) → Stands d claims f
      by true i true j k rest = rest k
      by true i false j k rest =
          let same : NeedFault.need_unmet v.rev ≡ f = cc in
          subst (Stands d claims) same
          (record {
            before = before;
            version = v;
            after = vs;
            is = e;
            at = refl;
            front = front;
            claim = c;
            rest = cs;
            claimed = g;
            level = l;
            unmet = j;
          })
      by false i m j k rest =
          let same : NeedFault.no_need v.rev ≡ f = cc in
          subst (Stands d claims) same
          (record {
            before = before;
            version = v;
            after = vs;
            is = e;
            at = refl;
            front = front;
            rest = c ∷ cs;
            claimed = g;
            level = l;
            off = i;
          })

  stands : (f : NeedFault) → first_fault d claims ≡ Some f → Stands d claims f
  unfolding first_fault
  stands f e = by (first_fall d.versions) refl (first_double d.versions) refl e
    where
      by : (o : Option Rev) → first_fall d.versions ≡ o → (p : Option Rev) → first_double d.versions ≡ p
          → option_or (option_map NeedFault.not_rising o) (option_or (option_map NeedFault.double_key p) (claims_fault d d.versions claims))
          ≡ Some f
          → Stands d claims f
      by (Some q) g p h k =
          let same : NeedFault.not_rising q ≡ f = cc in subst (Stands d claims) same (falls-there d.versions q g)
      by None g (Some q) h k =
          let same : NeedFault.double_key q ≡ f = cc in subst (Stands d claims) same (doubles-there d.versions q g h)
      by None g None h k = claims-from [] d.versions [] claims f refl refl refl k

  pub there : (f : declared.NeedFault) → IsFirst d claims f → IsThere d claims f
  there (NotRising p) e = stands (NeedFault.not_rising p) e
  there (DoubleKey p) e = stands (NeedFault.double_key p) e
  there (NoNeed p) e = stands (NeedFault.no_need p) e
  there (NeedUnmet p) e = stands (NeedFault.need_unmet p) e
  there Extra e = stands NeedFault.extra e
  there Memory e = tt

  pub all-there : (r : Result Least declared.NeedFault) → IfErr r (IsFirst d claims) → IfErr r (IsThere d claims)
  all-there (Ok l) h = tt
  all-there (Err e) h = there e h
