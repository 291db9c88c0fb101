-- The fields that compares look at are in total orders, and compares go along with them.
use Rattle.std.proofs.Common.{◌≡◌, ◌≢◌, ℕ, ◌<◌, ℤ, pos, Bool, true, false, not, ◌&&◌, cond, refl, sym, ◌∙◌, ap}
use Rattle.std.specs.Cmp.{IsTotalOrder, int_cmp_is}
use Rattle.std.specs.Cmp.Lexicographic.{nat_list_cmp_total}
use Rattle.std.specs.declared.cmp.Ordering.{Ordering}
use Rattle.std.specs.declared.cmp.Ordering.TheVariants.{Less, Equal, Greater}
use Rattle.std.specs.Ordering.{nat_cmp, int_cmp, is_eq, is_gt, is_lt, ordering_reverse, MatchOrdering}
use Rattle.std.proofs.Math.Facts.{yes_ltb}
use Rattle.std.proofs.lemmas.Cmp.{on_total, nat_cmp_total, ranked, int_cmp_total, alike_right}
use Rattle.kv_model.specs.declared.call.Operand.{Operand}
use Rattle.kv_model.specs.declared.call.Operand.TheVariants.{OfVersion, OfCreate, OfMod, OfValue, OfLease}
use Rattle.kv_model.specs.declared.call.Relation.{Relation}
use Rattle.kv_model.specs.declared.call.Relation.TheVariants.{IsEqual, IsGreater, IsLess, IsNotEqual}
use Rattle.kv_model.specs.History.{KeyValue}
use Rattle.kv_model.specs.Keys.{key_cmp}
use Rattle.kv_model.specs.Txns.{relates, operand_cmp}
use Rattle.range_view.specs.declared.reply.KvRef.{KvRef}
use Rattle.range_view.specs.Replies.{kv_view}
use Rattle.live_keys.specs.declared.extremes.Extremes.{Extremes}
use Rattle.live_keys.specs.declared.field.Field.{Field}
use Rattle.live_keys.specs.declared.field.Field.TheVariants.{Version, Create, Mod, Value, Lease}
use Rattle.live_keys.specs.Fields.{field_of, field_cmp}
use Rattle.live_keys.specs.Extremes.{lesser, greater, of_two, joined, meets_by}

pub field_total : (f : Field) → IsTotalOrder (field_cmp f)
field_total Version = on_total (λ (kv : KeyValue). kv.version) nat_cmp_total
field_total Create = on_total (λ (kv : KeyValue). kv.create) nat_cmp_total
field_total Mod = on_total (λ (kv : KeyValue). kv.modified) nat_cmp_total
field_total Value = on_total (λ (kv : KeyValue). kv.value) nat_list_cmp_total
field_total Lease = on_total (λ (kv : KeyValue). kv.lease) int_cmp_total

-- less comes before equal, and that before greater
abbrev pub at_most : Ordering → Ordering → Bool
at_most Less p = true
at_most Equal p = not (is_lt p)
at_most Greater p = is_gt p

at_most-itself : (q : Ordering) → at_most q q ≡ true
at_most-itself Less = refl
at_most-itself Equal = refl
at_most-itself Greater = refl

at_most-greater : (q : Ordering) → at_most q Greater ≡ true
at_most-greater Less = refl
at_most-greater Equal = refl
at_most-greater Greater = refl

follows : {K : Type 0} (R : K → K → Ordering) → IsTotalOrder R → (x y n : K) → is_gt (R x y) ≡ false → at_most (R x n) (R y n) ≡ true
follows R o x y n h = by (R x y) refl h
  where
    less : R x y ≡ Less → (q : Ordering) → R y n ≡ q → at_most (R x n) (R y n) ≡ true
    less e Less f = ap (λ p. at_most p (R y n)) (o.trans x y n e f)
    less e Equal f = ap (λ p. at_most p (R y n)) (sym (alike_right o y n x f) ∙ e)
    less e Greater f = ap (at_most (R x n)) f ∙ at_most-greater (R x n)

    by : (q : Ordering) → R x y ≡ q → is_gt q ≡ false → at_most (R x n) (R y n) ≡ true
    by Less e g = less e (R y n) refl
    by Equal e g = ap (λ p. at_most p (R y n)) (o.congr x y n e) ∙ at_most-itself (R y n)
    by Greater e g = cc

-- counts stand as the numbers that they are
pub counts-as : (x y : ℕ) → nat_cmp x y ≡ int_cmp (pos x) (pos y)
counts-as x y = by (nat_cmp x y) (ranked x y (nat_cmp x y) refl)
  where
    by : (r : Ordering) → MatchOrdering r (x < y) (x ≡ y) (y < x) → r ≡ int_cmp (pos x) (pos y)
    by Less h = int_cmp_is (pos x) (pos y) Less (record { lt = yes_ltb h })
    by Equal h = int_cmp_is (pos x) (pos y) Equal (ap pos h)
    by Greater h = int_cmp_is (pos x) (pos y) Greater (record { lt = yes_ltb h })

count-follows : (x y : ℕ) (n : ℤ) → is_gt (nat_cmp x y) ≡ false → at_most (int_cmp (pos x) n) (int_cmp (pos y) n) ≡ true
count-follows x y n h = follows int_cmp int_cmp_total (pos x) (pos y) n (sym (ap is_gt (counts-as x y)) ∙ h)

-- as the field goes, so does the compare with an operand
pub compare-follows : (o : Operand) (a b : KeyValue) → is_gt (field_cmp (field_of o) a b) ≡ false
    → at_most (operand_cmp o a) (operand_cmp o b) ≡ true
compare-follows (OfVersion n) a b h = count-follows a.version b.version n h
compare-follows (OfCreate n) a b h = count-follows a.create b.create n h
compare-follows (OfMod n) a b h = count-follows a.modified b.modified n h
compare-follows (OfValue v) a b h = follows key_cmp nat_list_cmp_total a.value b.value v h
compare-follows (OfLease n) a b h = follows int_cmp int_cmp_total a.lease b.lease n h

turned : (o p : Ordering) → o ≡ ordering_reverse p → is_gt o ≡ true → is_gt p ≡ false
turned o Less e h = refl
turned o Equal e h = refl
turned o Greater e h = let f : false ≡ true = sym (ap is_gt e) ∙ h in cc

-- one of two is not above the other
not-above : (f : Field) (a b : KeyValue) → is_gt (field_cmp f a b) ≡ true → is_gt (field_cmp f b a) ≡ false
not-above f a b h = turned (field_cmp f a b) (field_cmp f b a) ((field_total f).antisymm a b) h

-- a test that passes what stands above what it passes
abbrev pub GoesUp : (Ordering → Bool) → Type 0
GoesUp t = (q r : Ordering) → at_most q r ≡ true → t q ≡ true → t r ≡ true

abbrev pub GoesDown : (Ordering → Bool) → Type 0
GoesDown t = (q r : Ordering) → at_most q r ≡ true → t r ≡ true → t q ≡ true

implied : (x y : Bool) → (x ≡ true → y ≡ true) → x ≡ (x && y)
implied true y h = sym (h refl)
implied false y h = refl

implying : (x y : Bool) → (y ≡ true → x ≡ true) → y ≡ (x && y)
implying x true h = sym (ap (λ b. b && true) (h refl))
implying true false h = refl
implying false false h = refl

-- the less of two passes where both do
pub lesser-both : (o : Operand) (t : Ordering → Bool) → GoesUp t → (a b : KvRef)
    → t (operand_cmp o (kv_view (lesser (field_of o) a b))) ≡ (t (operand_cmp o (kv_view a)) && t (operand_cmp o (kv_view b)))
lesser-both o t up a b = by (is_gt (field_cmp (field_of o) (kv_view a) (kv_view b))) refl
  where
    p : KvRef → Bool
    p k = t (operand_cmp o (kv_view k))

    by : (g : Bool) → is_gt (field_cmp (field_of o) (kv_view a) (kv_view b)) ≡ g → p (cond g b a) ≡ (p a && p b)
    by true e = implying (p a) (p b) (up _ _ (compare-follows o (kv_view b) (kv_view a) (not-above (field_of o) (kv_view a) (kv_view b) e)))
    by false e = implied (p a) (p b) (up _ _ (compare-follows o (kv_view a) (kv_view b) e))

pub greater-both : (o : Operand) (t : Ordering → Bool) → GoesDown t → (a b : KvRef)
    → t (operand_cmp o (kv_view (greater (field_of o) a b))) ≡ (t (operand_cmp o (kv_view a)) && t (operand_cmp o (kv_view b)))
greater-both o t down a b = by (is_gt (field_cmp (field_of o) (kv_view a) (kv_view b))) refl
  where
    p : KvRef → Bool
    p k = t (operand_cmp o (kv_view k))

    by : (g : Bool) → is_gt (field_cmp (field_of o) (kv_view a) (kv_view b)) ≡ g → p (cond g a b) ≡ (p a && p b)
    by true e = implied (p a) (p b) (down _ _ (compare-follows o (kv_view b) (kv_view a) (not-above (field_of o) (kv_view a) (kv_view b) e)))
    by false e = implying (p a) (p b) (down _ _ (compare-follows o (kv_view a) (kv_view b) e))

-- ---- the tests of compares

up-gt : GoesUp is_gt
up-gt Less r e h = cc
up-gt Equal r e h = cc
up-gt Greater r e h = e

up-not_lt : GoesUp (λ q. not (is_lt q))
up-not_lt Less r e h = cc
up-not_lt Equal r e h = e
up-not_lt Greater Less e h = cc
up-not_lt Greater Equal e h = cc
up-not_lt Greater Greater e h = refl

down-lt : GoesDown is_lt
down-lt Less r e h = refl
down-lt Equal Less e h = cc
down-lt Equal Equal e h = cc
down-lt Equal Greater e h = cc
down-lt Greater Less e h = cc
down-lt Greater Equal e h = cc
down-lt Greater Greater e h = cc

down-not_gt : GoesDown (λ q. not (is_gt q))
down-not_gt Less r e h = refl
down-not_gt Equal r e h = refl
down-not_gt Greater Less e h = cc
down-not_gt Greater Equal e h = cc
down-not_gt Greater Greater e h = cc

swapped : (a b c d : Bool) → ((a && b) && (c && d)) ≡ ((a && c) && (b && d))
swapped true true c d = refl
swapped true false true d = refl
swapped true false false d = refl
swapped false b c d = refl

-- what is joined meets a compare where both do
pub meets-joined : (r : Relation) (o : Operand) (a b : Extremes)
    → meets_by r o (joined (field_of o) a b) ≡ (meets_by r o a && meets_by r o b)
meets-joined IsEqual o a b =
    (λ i. lesser-both o (λ q. not (is_lt q)) up-not_lt a.least b.least i && greater-both o (λ q. not (is_gt q)) down-not_gt a.greatest b.greatest i)
    ∙ swapped (not (is_lt (operand_cmp o (kv_view a.least)))) (not (is_lt (operand_cmp o (kv_view b.least))))
    (not (is_gt (operand_cmp o (kv_view a.greatest)))) (not (is_gt (operand_cmp o (kv_view b.greatest))))
meets-joined IsGreater o a b = lesser-both o is_gt up-gt a.least b.least
meets-joined IsLess o a b = greater-both o is_lt down-lt a.greatest b.greatest
meets-joined IsNotEqual o a b = refl

both-equal : (q r : Ordering) → ((not (is_lt q) && not (is_lt r)) && (not (is_gt q) && not (is_gt r))) ≡ (is_eq q && is_eq r)
both-equal Less r = refl
both-equal Equal Less = refl
both-equal Equal Equal = refl
both-equal Equal Greater = refl
both-equal Greater Less = refl
both-equal Greater Equal = refl
both-equal Greater Greater = refl

-- those of two key-values meet it where both pass
pub meets-two : (r : Relation) (o : Operand) → r ≢ IsNotEqual → (a b : KvRef)
    → meets_by r o (of_two (field_of o) a b) ≡ (relates r (operand_cmp o (kv_view a)) && relates r (operand_cmp o (kv_view b)))
meets-two IsEqual o h a b =
    (λ i. lesser-both o (λ q. not (is_lt q)) up-not_lt a b i && greater-both o (λ q. not (is_gt q)) down-not_gt a b i)
    ∙ both-equal (operand_cmp o (kv_view a)) (operand_cmp o (kv_view b))
meets-two IsGreater o h a b = lesser-both o is_gt up-gt a b
meets-two IsLess o h a b = greater-both o is_lt down-lt a b
meets-two IsNotEqual o h a b = absurd (h refl)
