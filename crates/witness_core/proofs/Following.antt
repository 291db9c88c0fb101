-- Where versions rise, the next one of its key tells whether a version is superseded, and whether its key stands twice.
use Rattle.std.proofs.Common.{◌≡◌, ◌≤◌, ◌<◌, ℕ, suc, length, filter, find, List, [], ◌∷◌, ◌++◌, Bool, true, false, ◌&&◌, ◌||◌, cond}
use Rattle.std.proofs.Common.{None, Some, option_map, refl, sym, ◌∙◌, ap, arith}
use Rattle.std.specs.Prelude.{nat_le, nat_lt, ◌==◌}
use Rattle.std.specs.List.{AllByRecursion, list_any}
use Rattle.std.proofs.lemmas.Bool.Decides.{nat_tests}
use Rattle.std.proofs.lemmas.Bool.{eq-eqb, or_parts}
use Rattle.std.proofs.lemmas.List.{append_assoc}
use Rattle.std.proofs.lemmas.List.Elements.{filter-append}
use Rattle.std.proofs.lemmas.List.Folds.{list_any-append}
use Rattle.std.proofs.lemmas.List.Sums.{length-filter}
use Rattle.std.proofs.Math.Bool.{and-false}
use Rattle.kv_model.specs.declared.version.Rev.{Rev}
use Rattle.kv_model.specs.declared.version.Version.{Version}
use Rattle.kv_model.specs.Keys.{same_key}
use Rattle.kv_model.specs.History.{rev_lt, is_superseded}
use Rattle.kv_model.specs.Certificates.{fall_after, first_fall, is_double, first_double}
use Rattle.version_table.specs.Rising.{IsRising}
use Rattle.store_laws.proofs.CertificateLaws.{is_twin}
use Rattle.store_laws.proofs.HistoryLaws.{same_key-eq}
use Rattle.store_laws.proofs.KeyLaws.{same-refl}
use Rattle.store_laws.proofs.PlaceLaws.{each-map}
use Rattle.store_laws.proofs.RevOrder.{rev_lt-main, rev_lt-turn, rev_lt-self, rev_lt-trans}
use Rattle.store_laws.proofs.Rising.{rising-parts}
use Rattle.witness_core.specs.Walks.{next_main, next_mains, is_next_in, is_next_by, first_twin}
use Rattle.trim_core.proofs.Stepping.{above-number, none-of}

-- ---- a list that does not fall rises

abbrev AreAbove : Rev → List Version → Type 0
AreAbove p vs = AllByRecursion (λ v. rev_lt p v.rev ≡ true) vs

abbrev AreBehind : Rev → List Version → Type 0
AreBehind p vs = AllByRecursion (λ v. rev_lt v.rev p ≡ true) vs

rises-after : (v : Version) (vs : List Version) → fall_after v.rev vs ≡ None → IsRising (v ∷ vs)
rises-after v [] e = (tt, tt)
rises-after v (u ∷ us) e = by (rev_lt v.rev u.rev) refl e (rises-after u us)
  where
    by : (b : Bool) → rev_lt v.rev u.rev ≡ b → cond b (fall_after u.rev us) (Some u.rev) ≡ None
        → (fall_after u.rev us ≡ None → IsRising (u ∷ us)) → IsRising (v ∷ u ∷ us)
    by true d e rest =
        let r = rest e in
        let above = each-map (λ (x : Version). rev_lt u.rev x.rev ≡ true) (λ (x : Version). rev_lt v.rev x.rev ≡ true)
        (λ x f. rev_lt-trans v.rev u.rev x.rev d f) us r.0 in
        ((d, above), r)
    by false d e rest = cc

pub rises : (vs : List Version) → first_fall vs ≡ None → IsRising vs
rises [] e = tt
rises (v ∷ vs) e = rises-after v vs e

-- ---- superseded

module _ (k : List ℕ) (p : Rev) (r : ℕ) where
  abbrev pub later : Version → Bool
  later u = same_key u.key k && rev_lt p u.rev && nat_le u.rev.main r

  none-before : (a b : Bool) → (a && false && b) ≡ false
  none-before true b = refl
  none-before false b = refl

  pub none-later : (q : Rev) (vs : List Version) → AreAbove q vs → nat_le q.main r ≡ false → list_any later vs ≡ false
  none-later q [] a h = refl
  none-later q (u ∷ us) a h =
      let high : nat_le u.rev.main r ≡ false = above-number q.main u.rev.main r (rev_lt-main q u.rev a.0) h in
      ap (λ b. (same_key u.key k && rev_lt p u.rev && b) || list_any later us) high
      ∙ ap (λ b. b || list_any later us) (none-of (same_key u.key k) (rev_lt p u.rev))
      ∙ none-later q us a.1 h

  none-behind : (vs : List Version) → AreBehind p vs → list_any later vs ≡ false
  none-behind [] a = refl
  none-behind (u ∷ us) a =
      ap (λ b. (same_key u.key k && b && nat_le u.rev.main r) || list_any later us) (rev_lt-turn u.rev p a.0)
      ∙ ap (λ b. b || list_any later us) (none-before (same_key u.key k) (nat_le u.rev.main r))
      ∙ none-behind us a.1

  by-next : (vs : List Version) → AreAbove p vs → IsRising vs → list_any later vs ≡ is_next_by r (next_main k vs)
  by-next [] a s = refl
  by-next (u ∷ us) a s =
      ap (λ b. (same_key u.key k && b && nat_le u.rev.main r) || list_any later us) a.0
      ∙ by (same_key u.key k) (nat_le u.rev.main r) refl (by-next us a.1 s.1)
    where
      by : (b d : Bool) → nat_le u.rev.main r ≡ d → list_any later us ≡ is_next_by r (next_main k us)
          → ((b && true && d) || list_any later us) ≡ is_next_by r (cond b (Some u.rev.main) (next_main k us))
      by true true e rest = sym e
      by true false e rest = none-later u.rev us s.0 e ∙ sym e
      by false d e rest = rest

-- a version is superseded where the next one of its key is at or below the revision
pub superseded-next : (before : List Version) (v : Version) (vs : List Version) (r : ℕ) → IsRising (before ++ v ∷ vs)
    → is_superseded (before ++ v ∷ vs) r v ≡ is_next_by r (next_main v.key vs)
unfolding is_superseded
superseded-next before v vs r s =
    let m = rising-parts (λ (u : Version). u.rev) before v vs s in
    let after = rising-after before v vs s in
    list_any-append (later v.key v.rev r) before (v ∷ vs)
    ∙ ap (λ b. b || list_any (later v.key v.rev r) (v ∷ vs)) (none-behind v.key v.rev r before m.0)
    ∙ ap (λ b. (same_key v.key v.key && b && nat_le v.rev.main r) || list_any (later v.key v.rev r) vs) (rev_lt-self v.rev)
    ∙ ap (λ b. b || list_any (later v.key v.rev r) vs) (none-before v.key v.rev r (same_key v.key v.key) (nat_le v.rev.main r))
    ∙ by-next v.key v.rev r vs m.1 after
  where
    rising-after : (xs : List Version) (x : Version) (ys : List Version) → IsRising (xs ++ x ∷ ys) → IsRising ys
    rising-after [] x ys h = h.1
    rising-after (w ∷ xs) x ys h = rising-after xs x ys h.1

-- ---- keys that stand twice

number-above : (a b : ℕ) → a ≤ b → (b == a) ≡ false → a < b
number-above a b h e = grind (arith, nat_tests)

number-off : (a b c : ℕ) → a < b → b ≤ c → (c == a) ≡ false
number-off a b c h g = grind (arith, nat_tests)

none-in : (v u : Version) (vs : List Version) → v.rev.main < u.rev.main → AreAbove u.rev vs → list_any (is_twin v) vs ≡ false
none-in v u [] h a = refl
none-in v u (x ∷ xs) h a =
    ap (λ b. (same_key x.key v.key && b) || list_any (is_twin v) xs)
    (number-off v.rev.main u.rev.main x.rev.main h (rev_lt-main u.rev x.rev a.0))
    ∙ ap (λ b. b || list_any (is_twin v) xs) (and-false (same_key x.key v.key)) ∙ none-in v u xs h a.1

twin-next : (v : Version) (vs : List Version) → AreAbove v.rev vs → IsRising vs
    → list_any (is_twin v) vs ≡ is_next_in v.rev.main (next_main v.key vs)
twin-next v [] a s = refl
twin-next v (u ∷ us) a s = by (same_key u.key v.key) (u.rev.main == v.rev.main) refl (twin-next v us a.1 s.1)
  where
    by : (b d : Bool) → (u.rev.main == v.rev.main) ≡ d → list_any (is_twin v) us ≡ is_next_in v.rev.main (next_main v.key us)
        → ((b && d) || list_any (is_twin v) us) ≡ is_next_in v.rev.main (cond b (Some u.rev.main) (next_main v.key us))
    by true true e rest = sym e
    by true false e rest =
        none-in v u us (number-above v.rev.main u.rev.main (rev_lt-main v.rev u.rev a.0) e) s.0 ∙ sym e
    by false d e rest = rest

-- none of the list is a twin of this version
abbrev IsAlone : List Version → Version → Type 0
IsAlone vs u = list_any (is_twin u) vs ≡ false

same-turn : (k l : List ℕ) (b : Bool) → same_key k l ≡ b → same_key l k ≡ b
same-turn k l true e = ap (λ x. same_key x k) (sym (same_key-eq k l e)) ∙ same-refl k
same-turn k l false e = by (same_key l k) refl
  where
    by : (b : Bool) → same_key l k ≡ b → same_key l k ≡ false
    by true f = let g : true ≡ false = sym (ap (λ x. same_key x l) (sym (same_key-eq l k f)) ∙ same-refl l) ∙ e in cc
    by false f = f

eqb-turn : (a b : ℕ) → (a == b) ≡ (b == a)
eqb-turn a b = grind (arith, nat_tests)

twin-turn : (u v : Version) → is_twin u v ≡ false → is_twin v u ≡ false
twin-turn u v e = by (same_key v.key u.key) refl (v.rev.main == u.rev.main) refl e
  where
    by : (a : Bool) → same_key v.key u.key ≡ a → (b : Bool) → (v.rev.main == u.rev.main) ≡ b → (a && b) ≡ false → is_twin v u ≡ false
    by true f true g h = cc
    by true f false g h =
        ap (λ b. same_key u.key v.key && b) (eqb-turn u.rev.main v.rev.main ∙ g) ∙ and-false (same_key u.key v.key)
    by false f b g h = ap (λ a. a && (u.rev.main == v.rev.main)) (same-turn v.key u.key false f)

alone-before : (v : Version) (vs before : List Version) → AllByRecursion (IsAlone (v ∷ vs)) before → filter (is_twin v) before ≡ []
alone-before v vs [] a = refl
alone-before v vs (u ∷ us) a =
    ap (λ b. cond b (u ∷ filter (is_twin v) us) (filter (is_twin v) us))
    (twin-turn u v (or_parts (is_twin u v) (list_any (is_twin u) vs) a.0).0)
    ∙ alone-before v vs us a.1

alone-after : (v : Version) (vs before : List Version) → AllByRecursion (IsAlone (v ∷ vs)) before → AllByRecursion (IsAlone vs) before
alone-after v vs [] a = tt
alone-after v vs (u ∷ us) a = ((or_parts (is_twin u v) (list_any (is_twin u) vs) a.0).1, alone-after v vs us a.1)

each-push : {X : Type 0} (P : X → Type 0) (xs : List X) (x : X) → AllByRecursion P xs → P x → AllByRecursion P (xs ++ x ∷ [])
each-push P [] x a h = (h, tt)
each-push P (y ∷ ys) x a h = (a.0, each-push P ys x a.1 h)

counted : {X : Type 0} (t : X → Bool) (xs : List X) → nat_lt 1 (suc (length (filter t xs))) ≡ list_any t xs
counted t [] = refl
counted t (x ∷ xs) = by (t x) (counted t xs)
  where
    more : (n : ℕ) → nat_lt 1 (suc (suc n)) ≡ true
    more n = grind (arith, nat_tests)

    by : (b : Bool) → nat_lt 1 (suc (length (filter t xs))) ≡ list_any t xs
        → nat_lt 1 (suc (length (cond b (x ∷ filter t xs) (filter t xs)))) ≡ (b || list_any t xs)
    by true rest = more (length (filter t xs))
    by false rest = rest

own-twin : (v : Version) → is_twin v v ≡ true
own-twin v = λ j. same-refl v.key j && eq-eqb v.rev.main v.rev.main refl j

-- the key of a version stands twice in the whole where it stands again behind it
double-behind : (before : List Version) (v : Version) (vs : List Version) → AllByRecursion (IsAlone (v ∷ vs)) before
    → is_double (before ++ v ∷ vs) v ≡ list_any (is_twin v) vs
double-behind before v vs a =
    ap (nat_lt 1) (sym (length-filter (is_twin v) (before ++ v ∷ vs)) ∙ ap length (filter-append (is_twin v) before (v ∷ vs))
    ∙ ap (λ us. length (us ++ filter (is_twin v) (v ∷ vs))) (alone-before v vs before a)
    ∙ ap (λ b. length (cond b (v ∷ filter (is_twin v) vs) (filter (is_twin v) vs))) (own-twin v))
    ∙ counted (is_twin v) vs

twins-from : (whole before vs : List Version) → whole ≡ before ++ vs → IsRising vs → AllByRecursion (IsAlone vs) before
    → first_twin vs (next_mains vs) ≡ option_map (λ (v : Version). v.rev) (find (is_double whole) vs)
twins-from whole before [] e s a = refl
twins-from whole before (v ∷ vs) e s a =
    let next : list_any (is_twin v) vs ≡ is_next_in v.rev.main (next_main v.key vs) = twin-next v vs s.0 s.1 in
    let double : is_double whole v ≡ is_next_in v.rev.main (next_main v.key vs) =
    ap (λ us. is_double us v) e ∙ double-behind before v vs a ∙ next in
    by (is_next_in v.rev.main (next_main v.key vs)) refl
    (λ f. twins-from whole (before ++ v ∷ []) vs (e ∙ sym (append_assoc before (v ∷ []) vs)) s.1
    (each-push (IsAlone vs) before v (alone-after v vs before a) (next ∙ f)))
    ∙ sym (ap (λ b. option_map (λ (u : Version). u.rev) (cond b (Some v) (find (is_double whole) vs))) double)
  where
    by : (b : Bool) → is_next_in v.rev.main (next_main v.key vs) ≡ b
        → (is_next_in v.rev.main (next_main v.key vs) ≡ false
        → first_twin vs (next_mains vs) ≡ option_map (λ (u : Version). u.rev) (find (is_double whole) vs))
        → cond b (Some v.rev) (first_twin vs (next_mains vs))
        ≡ option_map (λ (u : Version). u.rev) (cond b (Some v) (find (is_double whole) vs))
    by true f rest = refl
    by false f rest = rest f

-- the first version whose next one is of its own main revision is the first whose key stands twice there
pub twin-double : (vs : List Version) → IsRising vs → first_twin vs (next_mains vs) ≡ first_double vs
twin-double vs s = twins-from vs [] vs refl s tt
