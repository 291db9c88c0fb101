-- A certificate that passes its check: each listed version has its claimed need in the list, which is so the least of itself.
use Rattle.std.proofs.Common.{◌≡◌, ◌≤◌, ◌<◌, ◌≢◌, ℕ, ◌-◌, ◌^◌, suc, List, [], ◌∷◌, length, filter, find, Bool, true, false, not, ◌&&◌, cond}
use Rattle.std.proofs.Common.{Option, None, Some, refl, sym, ◌∙◌, ap, subst, inl, inr, arith}
use Rattle.std.specs.Prelude.{⊤, option_map, nat_le, ◌==◌}
use Rattle.std.proofs.lemmas.Bool.{leb-true, eq-eqb, eqb-true, ltb-false, and_parts, not-true}
use Rattle.std.specs.Option.{option_or}
use Rattle.std.specs.List.{AllByRecursion}
use Rattle.std.proofs.lemmas.List.Sums.{length-filter}
use Rattle.kv_model.specs.declared.version.Version.{Version}
use Rattle.kv_model.specs.Lists.{IsPart, IsIn, is_empty}
use Rattle.kv_model.specs.Keys.{same_key}
use Rattle.kv_model.specs.History.{value_at, key_value, end_of, rev_lt, is_tombstone, is_superseded}
use Rattle.kv_model.specs.Questions.{IsQuestion, IsKept, answered_by}
use Rattle.kv_model.specs.Certificates.{question_of, HasNeedBy, Dump, Claim, Need}
use Rattle.kv_model.specs.Certificates.{NeedFault, is_asked, is_met, fall_after, first_fall, is_double, first_double}
use Rattle.kv_model.specs.Certificates.{claims_fault, first_fault, AreNeedsBy}
use Rattle.store_laws.specs.TrimmingLaws.{Tells, PassingIsLeast}
use Rattle.store_laws.proofs.PartLaws.{part_length}
use Rattle.store_laws.proofs.PlaceLaws.{each-map}
use Rattle.store_laws.proofs.GoodLaws.{or-none, or-none-first}
use Rattle.store_laws.proofs.TrimLaws.{AreRising, Precedes}
use Rattle.store_laws.proofs.KeyLaws.{same-refl}
use Rattle.store_laws.proofs.RevOrder.{rev_lt-trans}
use Rattle.store_laws.proofs.StepLaws.{part-self}
use Rattle.store_laws.proofs.LeastLaws.{each-in, in-filter, stand, once-rising, put-in, told-in, previous-in, last-shown}
use Rattle.store_laws.proofs.CertificateLaws.{is_twin, same-value}

-- ---- a list that neither falls nor doubles a key rises

abbrev AreAscending : List Version → Type 0
AreAscending [] = ⊤
AreAscending (v ∷ vs) = AllByRecursion (λ u. rev_lt v.rev u.rev ≡ true) vs × AreAscending vs

ascending : (v : Version) (vs : List Version) → fall_after v.rev vs ≡ None → AreAscending (v ∷ vs)
ascending v [] e = (tt, tt)
ascending v (u ∷ us) e = by (rev_lt v.rev u.rev) refl e (ascending u us)
  where
    by : (b : Bool) → rev_lt v.rev u.rev ≡ b → cond b (fall_after u.rev us) (Some u.rev) ≡ None
        → (fall_after u.rev us ≡ None → AreAscending (u ∷ us)) → AreAscending (v ∷ u ∷ us)
    by true d e rest =
        let r = rest e in
        let above = each-map (λ x. rev_lt u.rev x.rev ≡ true) (λ x. rev_lt v.rev x.rev ≡ true) (λ x f. rev_lt-trans v.rev u.rev x.rev d f)
        us r.0 in
        ((d, above), r)
    by false d e rest = cc

ascends : (vs : List Version) → first_fall vs ≡ None → AreAscending vs
ascends [] e = tt
ascends (v ∷ vs) e = ascending v vs e

pub each-of : {X : Type 0} (P : X → Type 0) (xs : List X) → ((x : X) → IsIn x xs → P x) → AllByRecursion P xs
each-of P [] f = tt
each-of P (x ∷ xs) f = (f x (inl refl), each-of P xs (λ y i. f y (inr i)))

not-found : {X : Type 0} (p : X → Bool) (xs : List X) → find p xs ≡ None → AllByRecursion (λ x. p x ≡ false) xs
not-found p [] e = tt
not-found {X} p (x ∷ xs) e = by (p x) refl e (not-found p xs)
  where
    by : (b : Bool) → p x ≡ b → cond b (Some x) (find p xs) ≡ None → (find p xs ≡ None → AllByRecursion (λ y. p y ≡ false) xs)
        → (p x ≡ false) × AllByRecursion (λ y. p y ≡ false) xs
    by true d e rest = cc
    by false d e rest = (d, rest e)

unmapped : {X Y : Type 0} (f : X → Y) (o : Option X) → option_map f o ≡ None → o ≡ None
unmapped f None e = refl
unmapped f (Some x) e = cc

-- of each version's key and main revision there is one
abbrev AreSingle : List Version → Type 0
AreSingle vs = (v : Version) → IsIn v vs → length (filter (is_twin v) vs) ≤ 1

single : (vs : List Version) → first_double vs ≡ None → AreSingle vs
single vs e v i =
    let none : find (is_double vs) vs ≡ None = unmapped (λ u. u.rev) (find (is_double vs) vs) e in
    rw (length-filter (is_twin v) vs) (ltb-false 1 _ (each-in (λ u. is_double vs u ≡ false) vs v (not-found (is_double vs) vs none) i))

filled : {X : Type 0} (xs : List X) (x : X) → IsIn x xs → 1 ≤ length xs
filled [] x i = absurd i
filled (y ∷ ys) x i = omega arith

-- a later one has another key or another main revision
apart : (x : Version) (xs : List Version) → length (filter (is_twin x) (x ∷ xs)) ≤ 1
    → (u : Version) → IsIn u xs → x.rev.main ≡ u.rev.main → x.key ≢ u.key
apart x xs l u i m k =
    let own : is_twin x x ≡ true = λ j. same-refl x.key j && eq-eqb x.rev.main x.rev.main refl j in
    let twin : is_twin x u ≡ true = λ j. (ap (same_key u.key) k ∙ same-refl u.key) j && eq-eqb u.rev.main x.rev.main (sym m) j in
    let count : length (filter (is_twin x) (x ∷ xs)) ≡ suc (length (filter (is_twin x) xs)) =
    ap (λ b. length (cond b (x ∷ filter (is_twin x) xs) (filter (is_twin x) xs))) own in
    let some : 1 ≤ length (filter (is_twin x) xs) = filled (filter (is_twin x) xs) u (in-filter (is_twin x) xs u twin i) in
    omega arith

fewer-twins : (v x : Version) (xs : List Version) → length (filter (is_twin v) (x ∷ xs)) ≤ 1 → length (filter (is_twin v) xs) ≤ 1
fewer-twins v x xs = by (is_twin v x)
  where
    by : (b : Bool) → length (cond b (x ∷ filter (is_twin v) xs) (filter (is_twin v) xs)) ≤ 1 → length (filter (is_twin v) xs) ≤ 1
    by true l = omega arith
    by false l = l

rising : (vs : List Version) → AreAscending vs → AreSingle vs → AreRising vs
rising [] a s = tt
rising (x ∷ xs) a s = (
  each-of (Precedes x) xs (λ u i. (each-in (λ y. rev_lt x.rev y.rev ≡ true) xs u a.0 i, apart x xs (s x (inl refl)) u i)),
  rising xs a.1 (λ v i. fewer-twins v x xs (s v (inr i))),
)

-- ---- a need that is met

four-true : (a b c d : Bool) → (a && b && c && d) ≡ true → (a ≡ true) × (b ≡ true) × (c ≡ true) × (d ≡ true)
four-true true true true true e = (refl, refl, refl, refl)
four-true true true true false e = cc
four-true true true false d e = cc
four-true true false c d e = cc
four-true false b c d e = cc

three-true : (a b c d : Bool) → (a && b && (c && d)) ≡ true → (a ≡ true) × (b ≡ true) × (c ≡ true) × (d ≡ true)
three-true true true true true e = (refl, refl, refl, refl)
three-true true true true false e = cc
three-true true true false d e = cc
three-true true false c d e = cc
three-true false b c d e = cc

filled-key : (k : List ℕ) → is_empty k ≡ false → k ≢ []
filled-key [] e f = cc
filled-key (x ∷ k) e f = cc

-- the question may be asked, and a part that answers it as the list does has the version
record Shows (has_before : ℕ → ℕ → Bool) (d : Dump) (v : Version) (n : Need) : Type 0 where
  asked : IsQuestion d.floor d.revision (question_of v n)
  stays : (us : List Version) → IsPart us d.versions
      → answered_by has_before us d.floor d.revision (question_of v n)
      ≡ answered_by has_before d.versions d.floor d.revision (question_of v n)
      → IsIn v us

module _ (has_before : ℕ → ℕ → Bool) (d : Dump) (up : AreRising d.versions)
    (v : Version) (i : IsIn v d.versions) (number : v.rev.sub < 2 ^ 64) where
  record Asked (r : ℕ) : Type 0 where
    kept : IsKept d.floor d.revision r
    has_key : v.key ≢ []

  asked-of : (r : ℕ) → is_asked d v r ≡ true → Asked r
  asked-of r e =
      let t = four-true (not (is_empty v.key)) (nat_le 1 r) (nat_le d.floor r) (nat_le r d.revision) e in
      record {
        kept = record { first = leb-true 1 r t.1; kept = leb-true d.floor r t.2; past = leb-true r d.revision t.3 };
        has_key = filled-key v.key (not-true (is_empty v.key) t.0);
      }

  shows : (n : Need) → is_met d v n ≡ true → Tells has_before d.floor n → Shows has_before d v n
  shows (Need.range r) e h =
      let t = four-true (is_asked d v r) (not (is_tombstone v.body)) (nat_le v.rev.main r) (not (is_superseded d.versions r v)) e in
      let a = asked-of r t.0 in
      let s = stand v d.versions i in
      let shown : value_at d.versions (end_of r) v.key ≡ key_value v =
      subst (λ us. value_at us (end_of r) v.key ≡ key_value v) (sym s.is)
      (last-shown r s.before v s.after (subst AreRising s.is up) number (leb-true v.rev.main r t.2)
      (subst (λ us. is_superseded us r v ≡ false) s.is (not-true (is_superseded d.versions r v) t.3))) in
      record {
        asked = record { revision = r; is = refl; kept = a.kept; has_key = a.has_key };
        stays = λ us part f. put-in us d.versions v r up part i (not-true (is_tombstone v.body) t.1)
            (same-value us d.versions d.floor d.revision r v.key a.has_key a.kept f ∙ shown);
      }
  shows (Need.watch r) e h =
      let t = and_parts (is_asked d v r) (v.rev.main == r) e in
      subst (λ n. Shows has_before d v (Need.watch n)) (eqb-true v.rev.main r t.1)
      (record {
        asked = (asked-of v.rev.main (ap (is_asked d v) (eqb-true v.rev.main r t.1) ∙ t.0)).kept;
        stays = λ us part f. told-in has_before us d.versions d.floor d.revision v i f;
      })
  shows (Need.prev r) e h =
      let t = three-true (is_asked d v r) (not (is_tombstone v.body)) (is_superseded d.versions r v) (not (is_superseded d.versions (r - 1) v)) e in
      let a = asked-of r t.0 in
      record {
        asked = a.kept;
        stays = λ us part f. previous-in has_before us d.versions d.versions d.floor d.revision r v up part (part-self d.versions) i
            (not-true (is_tombstone v.body) t.1) number t.2 (not-true (is_superseded d.versions (r - 1) v) t.3) (h a.kept.kept) f;
      }

-- ---- the claims

-- some question shows the version
record IsShown (has_before : ℕ → ℕ → Bool) (d : Dump) (v : Version) : Type 0 where
  need : Need
  shows_it : Shows has_before d v need

record AreClaimed (has_before : ℕ → ℕ → Bool) (d : Dump) (us : List Version) (claims : List Claim) : Type 0 where
  needs : AreNeedsBy has_before d.floor d.revision d.versions us claims
  shown : AllByRecursion (IsShown has_before d) us

has-need : (has_before : ℕ → ℕ → Bool) (d : Dump) (v : Version) (n : Need) → Shows has_before d v n
    → HasNeedBy has_before d.floor d.revision d.versions v n
has-need has_before d v n s = record { asked = s.asked; needed = λ us part out e. out (s.stays us part e) }

claimed : (has_before : ℕ → ℕ → Bool) (d : Dump) (us : List Version) (claims : List Claim)
    → ((v : Version) → IsIn v us → (n : Need) → is_met d v n ≡ true → Tells has_before d.floor n → Shows has_before d v n)
    → claims_fault d us claims ≡ None → AllByRecursion (λ claim. Tells has_before d.floor claim.need) claims
    → AreClaimed has_before d us claims
claimed has_before d [] [] f e t = record { needs = tt; shown = tt }
claimed has_before d [] (claim ∷ claims) f e t = cc
claimed has_before d (v ∷ vs) [] f e t = cc
claimed has_before d (v ∷ vs) (claim ∷ claims) f e t =
    by (v.rev.main == claim.rev.main) refl (v.rev.sub == claim.rev.sub) refl (is_met d v claim.need) refl e
    (λ g. claimed has_before d vs claims (λ u i. f u (inr i)) g t.1)
  where
    by : (a : Bool) → (v.rev.main == claim.rev.main) ≡ a → (b : Bool) → (v.rev.sub == claim.rev.sub) ≡ b
        → (m : Bool) → is_met d v claim.need ≡ m
        → cond (a && b) (cond m (claims_fault d vs claims) (Some (NeedFault.need_unmet v.rev))) (Some (NeedFault.no_need v.rev)) ≡ None
        → (claims_fault d vs claims ≡ None → AreClaimed has_before d vs claims) → AreClaimed has_before d (v ∷ vs) (claim ∷ claims)
    by true g true h true k e rest =
        let at : claim.rev ≡ v.rev = λ j. record {
          main = sym (eqb-true v.rev.main claim.rev.main g) j;
          sub = sym (eqb-true v.rev.sub claim.rev.sub h) j;
        } in
        let here = f v (inl refl) claim.need k t.0 in
        let r = rest e in
        record {
          needs = (at, has-need has_before d v claim.need here, r.needs);
          shown = (record { need = claim.need; shows_it = here }, r.shown);
        }
    by true g true h false k e rest = cc
    by true g false h m k e rest = cc
    by false g b h m k e rest = cc

pub passing-least : PassingIsLeast
unfolding first_fault
passing-least has_before d claims numbers e told = record {
  needs = all.needs;
  least = record {
    good = record { part = part-self d.versions; answers = λ q a. refl };
    least = λ us g. part_length g.part (part-self d.versions) (once-rising d.versions up) (λ v i.
        let s = each-in (IsShown has_before d) d.versions v all.shown i in
        s.shows_it.stays us g.part (g.answers (question_of v s.need) s.shows_it.asked));
  };
}
  where
    fall : Option NeedFault
    fall = option_map NeedFault.not_rising (first_fall d.versions)

    doubled : Option NeedFault
    doubled = option_map NeedFault.double_key (first_double d.versions)

    rest : option_or doubled (claims_fault d d.versions claims) ≡ None
    rest = or-none fall (option_or doubled (claims_fault d d.versions claims)) e

    up : AreRising d.versions
    up = rising d.versions
        (ascends d.versions
        (unmapped NeedFault.not_rising (first_fall d.versions) (or-none-first fall (option_or doubled (claims_fault d d.versions claims))
        e)))
        (single d.versions
        (unmapped NeedFault.double_key (first_double d.versions) (or-none-first doubled (claims_fault d d.versions claims) rest)))

    all : AreClaimed has_before d d.versions claims
    all = claimed has_before d d.versions claims
        (λ v i n m t. shows has_before d up v i (each-in (λ u. u.rev.sub < 2 ^ 64) d.versions v numbers i) n m t)
        (or-none doubled (claims_fault d d.versions claims) rest) told
