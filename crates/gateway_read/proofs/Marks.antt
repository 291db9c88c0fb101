-- The lengths of the names of an object, as they are marked one after the other.
use Rattle.std.proofs.Common.{◌≡◌, ℕ, zero, suc, ◌<◌, List, [], ◌∷◌, length, get_or, fold, replicate, Bool, Ordering, Less, Equal, Greater}
use Rattle.std.proofs.Common.{true, false, true≢false, refl, sym, ap, ◌∙◌, Option, None, Some, arith, eqb, eq-eqb, is_eq, nat_cmp}
use Rattle.std.proofs.lemmas.Bool.{or_parts, eqb-true}
use Rattle.std.proofs.lemmas.List.{length-set, get_or-set_same, get_or-set_other}
use Rattle.std.proofs.lemmas.Map.Text.{is_eq-slice_cmp}
use Rattle.std.proofs.lemmas.Slice.Eq.{bytes_eq-Decides}
use Rattle.std.proofs.Math.Nat.{min-le_right}
use Rattle.std.specs.Cmp.Lexicographic.{slice_cmp}
use Rattle.std.specs.Ordering.{match_ordering}
use Rattle.std.specs.Prelude.{◌||◌}
use Rattle.json.specs.Value as tree
use Rattle.serde_json.specs.Data.{Data, Members, no_members, member, put}
use Rattle.serde_json.specs.Find.{get_member}
use Rattle.gateway_read.specs.Lengths.{Named, place_of, marked, has_place, AreMarked}
use Rattle.gateway_read.specs.Values.{view, members_data}

place_fits : (name : List ℕ) → place_of name < 32
place_fits name = omega (arith, min-le_right (length name) 31)

marked_long : (l : List Bool) (m : Named) → length l ≡ 32 → length (marked l m) ≡ 32
marked_long l m long = length-set l (place_of m.0.now) true ∙ long

-- one name marks its own place
marked_at : (l : List Bool) (m : Named) (p : ℕ) → length l ≡ 32
    → get_or (marked l m) p false ≡ (eqb (place_of m.0.now) p || get_or l p false)
marked_at l m p long = by (eqb (place_of m.0.now) p) refl
  where
    by : (b : Bool) → eqb (place_of m.0.now) p ≡ b → get_or (marked l m) p false ≡ (b || get_or l p false)
    by true is =
        let same : place_of m.0.now ≡ p = eqb-true _ _ is in
        ap (λ q. get_or (marked l m) q false) (sym same)
        ∙ get_or-set_same l (place_of m.0.now) true false (omega (arith, long, place_fits m.0.now))
    by false is = get_or-set_other l (place_of m.0.now) p true false (λ same. true≢false (sym (eq-eqb _ _ (sym same)) ∙ is))

swapped : (a b c : Bool) → (b || (a || c)) ≡ (a || (b || c))
swapped true true c = refl
swapped true false c = refl
swapped false true c = refl
swapped false false c = refl

twice : (a c : Bool) → (a || c) ≡ (a || (a || c))
twice true c = refl
twice false c = refl

-- a name that goes in has its place there
placed : (o : Ordering) (k l : List ℕ) (d e : Data) (ms : Members) (p : ℕ) → slice_cmp nat_cmp k l ≡ o
    → has_place p (put k d ms) ≡ (eqb (place_of k) p || has_place p ms)
    → has_place p (match_ordering o (member k d (member l e ms)) (member l d ms) (member l e (put k d ms)))
    ≡ (eqb (place_of k) p || (eqb (place_of l) p || has_place p ms))
placed Less k l d e ms p is more = refl
placed Equal k l d e ms p is more =
    let same : k ≡ l = (bytes_eq-Decides k l).0 (sym (is_eq-slice_cmp k l) ∙ ap is_eq is) in
    twice (eqb (place_of l) p) (has_place p ms)
    ∙ ap (λ n. eqb (place_of n) p || (eqb (place_of l) p || has_place p ms)) (sym same)
placed Greater k l d e ms p is more = ap (λ b. eqb (place_of l) p || b) more
    ∙ swapped (eqb (place_of k) p) (eqb (place_of l) p) (has_place p ms)

put_place : (k : List ℕ) (d : Data) (ms : Members) (p : ℕ) → has_place p (put k d ms) ≡ (eqb (place_of k) p || has_place p ms)
put_place k d no_members p = refl
put_place k d (member l e ms) p = placed _ k l d e ms p refl (put_place k d ms p)

all_at : (ms : List Named) (l : List Bool) (found : Members) (p : ℕ) → length l ≡ 32 → get_or l p false ≡ has_place p found
    → get_or (fold marked l ms) p false ≡ has_place p (members_data (tree.members_view ms) found)
all_at [] l found p long is = is
all_at (m ∷ ms) l found p long is =
    all_at ms (marked l m) (put m.0.now (view m.1) found) p (marked_long l m long)
    (marked_at l m p long ∙ ap (λ b. eqb (place_of m.0.now) p || b) is ∙ sym (put_place m.0.now (view m.1) found p))

none_at : (n p : ℕ) → get_or (replicate n false) p false ≡ false
none_at zero p = refl
none_at (suc n) zero = refl
none_at (suc n) (suc p) = none_at n p

pub are_marked : (ms : List Named) → AreMarked (fold marked (replicate 32 false) ms) (members_data (tree.members_view ms) no_members)
are_marked ms p = all_at ms (replicate 32 false) no_members p refl (none_at 32 p)

-- a name whose place is that of no member's name is none of them
other_name : (name l : List ℕ) (o : Ordering) (e : Data) (rest : Option Data) → slice_cmp nat_cmp name l ≡ o
    → eqb (place_of l) (place_of name) ≡ false → rest ≡ None → match_ordering o rest (Some e) rest ≡ None
other_name name l Less e rest is apart none = none
other_name name l Greater e rest is apart none = none
other_name name l Equal e rest is apart none =
    let same : name ≡ l = (bytes_eq-Decides name l).0 (sym (is_eq-slice_cmp name l) ∙ ap is_eq is) in
    absurd (true≢false (sym (eq-eqb _ _ (ap place_of (sym same))) ∙ apart))

pub absent : (name : List ℕ) (ms : Members) → has_place (place_of name) ms ≡ false → get_member name ms ≡ None
absent name no_members is = refl
absent name (member l e ms) is =
    let parts = or_parts (eqb (place_of l) (place_of name)) (has_place (place_of name) ms) is in
    other_name name l _ e _ refl parts.0 (absent name ms parts.1)
