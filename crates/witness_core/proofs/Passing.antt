-- The walk over the claims finds the first fault of a certificate.
use Rattle.std.proofs.Common.{◌≡◌, ◌≤◌, ◌<◌, ℕ, ◌-◌, ◌^◌, arith, List, [], ◌∷◌, ◌++◌, Bool, true, false, not, ◌&&◌, cond}
use Rattle.std.proofs.Common.{length, Result, Ok, Err, OnOk, IfOk, IfErr, Option, None, Some, option_map, refl, sym, ◌∙◌, ap, subst}
use Rattle.std.proofs.Common.{Vec, Global}
use Rattle.std.specs.declared.alloc.AllocError.{AllocError}
use Rattle.std.specs.Prelude.{nat_le}
use Rattle.std.specs.Option.{option_or}
use Rattle.std.specs.List.{AllByRecursion}
use Rattle.std.proofs.lemmas.Bool.{le-leb, leb-true, and_parts}
use Rattle.std.proofs.lemmas.Bool.Decides.{nat_tests}
use Rattle.std.proofs.lemmas.List.{append_assoc}
use Rattle.kv_model.specs.declared.version.Rev.{Rev}
use Rattle.kv_model.specs.declared.version.Version.{Version}
use Rattle.kv_model.specs.Watches.{before_is_kept}
use Rattle.kv_model.specs.Certificates.{Dump, Claim, Need}
use Rattle.kv_model.specs.History.{is_at, is_tombstone, is_superseded, is_next_at}
use Rattle.kv_model.specs.Certificates.{NeedFault, is_asked, is_met, first_fall, first_double, claims_fault, first_fault, AreNeedsOf}
use Rattle.kv_model.specs.Questions.{IsLeastOf}
use Rattle.version_table.specs.Rising.{IsRising}
use Rattle.store_laws.specs.TrimmingLaws.{Tells, IsLeastOfItself}
use Rattle.store_laws.proofs.PassingLaws.{passing-least}
use Rattle.witness_core.specs.declared.fault.NeedFault as declared
use Rattle.witness_core.specs.declared.fault.NeedFault.TheVariants.{NotRising, DoubleKey, NoNeed, NeedUnmet, Extra, Memory}
use Rattle.witness_core.specs.Faults.{IsFault, IsFirst, Judges, JudgesBy, fault_by}
use Rattle.witness_core.specs.declared.checking.Least.{Least}
use Rattle.witness_core.specs.Walks.{next_main, next_mains, is_next_in, is_next_by, is_met_by, walked}
use Rattle.witness_core.proofs.Following.{superseded-next, rises, twin-double}

-- the next version is of a revision where it is at or below it, and not at or below the one before
next-at : (r : ℕ) (n : Option ℕ) → 1 ≤ r → is_next_in r n ≡ (is_next_by r n && not (is_next_by (r - 1) n))
next-at r None l = refl
next-at r (Some m) l = grind (arith, nat_tests)

asked-from : (d : Dump) (v : Version) (r : ℕ) → is_asked d v r ≡ true → 1 ≤ r
asked-from d v r e = leb-true 1 r (and_parts _ _ (and_parts _ _ (and_parts _ _ e).0).0).1

met : (d : Dump) (before : List Version) (v : Version) (vs : List Version) (n : Need) → d.versions ≡ before ++ v ∷ vs → IsRising d.versions
    → is_met_by d v (next_main v.key vs) n ≡ is_met d v n
met d before v vs (Need.range r) e s =
    let same : is_superseded d.versions r v ≡ is_next_by r (next_main v.key vs) =
    ap (λ us. is_superseded us r v) e ∙ superseded-next before v vs r (subst IsRising e s) in
    ap (λ b. is_asked d v r && not (is_tombstone v.body) && nat_le v.rev.main r && not b) (sym same)
met d before v vs (Need.watch r) e s = refl
met d before v vs (Need.prev r) e s = by (is_asked d v r) refl
  where
    n : Option ℕ
    n = next_main v.key vs

    same : (q : ℕ) → is_superseded d.versions q v ≡ is_next_by q n
    same q = ap (λ us. is_superseded us q v) e ∙ superseded-next before v vs q (subst IsRising e s)

    by : (b : Bool) → is_asked d v r ≡ b → (b && not (is_tombstone v.body) && is_next_in r n)
        ≡ (b && not (is_tombstone v.body) && is_next_at d.versions r v)
    by true f = ap (λ b. not (is_tombstone v.body) && b)
        (next-at r n (asked-from d v r f) ∙ sym (λ i. same r i && not (same (r - 1) i)))
    by false f = refl

one-of : (a m : Bool) (x y : NeedFault) (rest : Option NeedFault)
    → option_or (cond a (cond m None (Some x)) (Some y)) rest ≡ cond a (cond m rest (Some x)) (Some y)
one-of true true x y rest = refl
one-of true false x y rest = refl
one-of false m x y rest = refl

pub walk-claims : (d : Dump) (before vs : List Version) (claims : List Claim) → d.versions ≡ before ++ vs → IsRising d.versions
    → walked d vs (next_mains vs) claims ≡ claims_fault d vs claims
walk-claims d before [] [] e s = refl
walk-claims d before [] (claim ∷ claims) e s = refl
walk-claims d before (v ∷ vs) [] e s = refl
walk-claims d before (v ∷ vs) (claim ∷ claims) e s =
    let rest = walk-claims d (before ++ v ∷ []) vs claims (e ∙ sym (append_assoc before (v ∷ []) vs)) s in
    one-of (is_at claim.rev v) (is_met_by d v (next_main v.key vs) claim.need) (NeedFault.need_unmet v.rev) (NeedFault.no_need v.rev)
    (walked d vs (next_mains vs) claims)
    ∙ ap (λ m. cond (is_at claim.rev v) (cond m (walked d vs (next_mains vs) claims) (Some (NeedFault.need_unmet v.rev)))
    (Some (NeedFault.no_need v.rev))) (met d before v vs claim.need e s)
    ∙ ap (λ o. cond (is_at claim.rev v) (cond (is_met d v claim.need) o (Some (NeedFault.need_unmet v.rev))) (Some (NeedFault.no_need v.rev)))
    rest

-- ---- the first fault

pub falls : (d : Dump) (claims : List Claim) (p : Rev) → Some p ≡ first_fall d.versions → first_fault d claims ≡ Some (NeedFault.not_rising p)
unfolding first_fault
falls d claims p e = ap (λ o. option_or (option_map NeedFault.not_rising o)
    (option_or (option_map NeedFault.double_key (first_double d.versions)) (claims_fault d d.versions claims))) (sym e)

-- where the list rises, the walk finds it by the next versions
by-nexts : (d : Dump) (claims : List Claim) (ns : List (Option ℕ)) → None ≡ first_fall d.versions → ns ≡ next_mains d.versions
    → fault_by d ns claims ≡ first_fault d claims
unfolding first_fault
by-nexts d claims ns e n =
    let rising = rises d.versions (sym e) in
    ap (λ ms. fault_by d ms claims) n
    ∙ ap (λ o. option_or (option_map NeedFault.double_key o) (walked d d.versions (next_mains d.versions) claims))
    (twin-double d.versions rising)
    ∙ ap (option_or (option_map NeedFault.double_key (first_double d.versions))) (walk-claims d [] d.versions claims refl rising)
    ∙ ap (λ o. option_or (option_map NeedFault.not_rising o)
    (option_or (option_map NeedFault.double_key (first_double d.versions)) (claims_fault d d.versions claims))) e

-- what is said of a list that rises is said of the first fault
judges : (d : Dump) (claims cs : List Claim) (us vs : List Version) (ms ns : List (Option ℕ)) (r : Result Least declared.NeedFault)
    → us ≡ d.versions → None ≡ first_fall us → vs ≡ d.versions → ns ≡ next_mains vs → ms ≡ ns → cs ≡ claims
    → Judges r d (fault_by d ms cs) → Judges r d (first_fault d claims)
judges d claims cs us vs ms ns r e rising f n m g =
    subst (Judges r d) (ap (fault_by d ms) g ∙ by-nexts d claims ms (rising ∙ ap first_fall e) (m ∙ n ∙ ap next_mains f))

found : (d : Dump) (claims : List Claim) (e : declared.NeedFault) → IsFault e (first_fault d claims) → IsFirst d claims e
found d claims (NotRising p) h = h
found d claims (DoubleKey p) h = h
found d claims (NoNeed p) h = h
found d claims (NeedUnmet p) h = h
found d claims Extra h = h
found d claims Memory h = absurd h

-- the number of versions where there is no fault, and else the first one, or want of memory where the list rises
abbrev pub Says : Result Least declared.NeedFault → Dump → List Claim → Type 0
Says (Ok l) d claims = (l.count ≡ length d.versions) × (first_fault d claims ≡ None)
Says (Err e) d claims = IsFirst d claims e

judged-says : (d : Dump) (claims : List Claim) (r : Result Least declared.NeedFault) → Judges r d (first_fault d claims) → Says r d claims
judged-says d claims (Ok l) h = h
judged-says d claims (Err e) h = found d claims e h

wanted-says : (d : Dump) (claims : List Claim) (r : Result Least declared.NeedFault) → r ≡ Err Memory → first_fall d.versions ≡ None
    → Says r d claims
wanted-says d claims r e f = subst (λ (s : Result Least declared.NeedFault). Says s d claims) (sym e) f

-- by the next versions, if memory was found to look for them
pub said : (d : Dump) (claims cs : List Claim) (us vs : List Version) (made : Result (Vec (Option ℕ) Global) AllocError)
    (r : Result Least declared.NeedFault) → us ≡ d.versions → None ≡ first_fall us → vs ≡ d.versions
    → IfOk made (λ ns. ns.items ≡ next_mains vs) → cs ≡ claims → JudgesBy made r d cs → Says r d claims
said d claims cs us vs (Ok ns) r e rising f n g h =
    judged-says d claims r (judges d claims cs us vs ns.items ns.items r e rising f n refl g h)
said d claims cs us vs (Err x) r e rising f n g h = wanted-says d claims r h (sym (rising ∙ ap first_fall e))

pub passed : (d : Dump) (claims : List Claim) (r : Result Least declared.NeedFault) → Says r d claims → OnOk r (first_fault d claims ≡ None)
passed d claims (Ok l) h = h.1
passed d claims (Err e) h = tt

pub counted : (d : Dump) (claims : List Claim) (r : Result Least declared.NeedFault) → Says r d claims
    → IfOk r (λ l. l.count ≡ length d.versions)
counted d claims (Ok l) h = h.0
counted d claims (Err e) h = tt

pub first : (d : Dump) (claims : List Claim) (r : Result Least declared.NeedFault) → Says r d claims → IfErr r (IsFirst d claims)
first d claims (Ok l) h = tt
first d claims (Err e) h = h

-- a previous value that may be asked for is told by this store's test
told : (c : ℕ) (n : Need) → Tells before_is_kept c n
told c (Need.range r) = tt
told c (Need.watch r) = tt
told c (Need.prev r) = λ l. le-leb c r l

all-told : (c : ℕ) (claims : List Claim) → AllByRecursion (λ claim. Tells before_is_kept c claim.need) claims
all-told c [] = tt
all-told c (claim ∷ claims) = (told c claim.need, all-told c claims)

-- what a certificate that passes says
pub least : (d : Dump) (claims : List Claim) → AllByRecursion (λ v. v.rev.sub < 2 ^ 64) d.versions → first_fault d claims ≡ None
    → IsLeastOfItself before_is_kept d claims
least d claims places e = passing-least before_is_kept d claims places e (all-told d.floor claims)

pub needed : (d : Dump) (claims : List Claim) (r : Result Least declared.NeedFault) → AllByRecursion (λ v. v.rev.sub < 2 ^ 64) d.versions
    → Says r d claims → OnOk r (AreNeedsOf d.floor d.revision d.versions d.versions claims)
needed d claims (Ok l) places h = (least d claims places h.1).needs
needed d claims (Err e) places h = tt

pub fewest : (d : Dump) (claims : List Claim) (r : Result Least declared.NeedFault) → AllByRecursion (λ v. v.rev.sub < 2 ^ 64) d.versions
    → Says r d claims → OnOk r (IsLeastOf d.versions d.floor d.revision d.versions)
fewest d claims (Ok l) places h = (least d claims places h.1).least
fewest d claims (Err e) places h = tt
