-- No byte is lost by reads that follow one another.
use Rattle.std.proofs.Common.{◌≡◌, ℕ, ◌+◌, ◌<◌, arith, List, [], ◌++◌, length, Bool, true, false, nat_lt, Option, None, Some, Ok, refl}
use Rattle.std.proofs.Common.{sym, ◌∙◌, ap, subst, append_assoc}
use Rattle.std.specs.Io.KnownBytes.{Consumes, IsAtEnd, Keeps}
use Rattle.std.proofs.lemmas.List.{append-nil, length-append, nil_from_length}
use Rattle.std.proofs.lemmas.Bool.Decides.{nat_tests}
use Rattle.http_input.specs.Buffers.{Filled}
use Rattle.http_input.specs.Inputs.{Extends, Took}

pub took_trans : (a b c : Option (List ℕ)) (p q r : List ℕ) → Took a b p q → Took b c q r → Took a c p r
took_trans None b c p q r t u = tt
took_trans (Some xs) None c p q r t u = absurd t
took_trans (Some xs) (Some ys) None p q r t u = u
took_trans (Some xs) (Some ys) (Some zs) p q r t u = t ∙ u

-- a read gave these bytes
pub took_more : (a b : Option (List ℕ)) (p bs : List ℕ) → Consumes a b bs → Took a b p (p ++ bs)
took_more None b p bs h = tt
took_more (Some xs) None p bs h = h
took_more (Some xs) (Some ys) p bs h = ap (λ l. p ++ l) h ∙ sym (append_assoc p bs ys)

-- a read failed
pub took_none : (a b : Option (List ℕ)) (p : List ℕ) → Keeps a b → Took a b p p
took_none None b p h = tt
took_none (Some xs) None p h = h
took_none (Some xs) (Some ys) p h = ap (λ l. p ++ l) (sym h)

-- what waited stays
pub extends_none : (p : List ℕ) → Extends p p
extends_none p = record { more = []; is = sym (append-nil p) }

pub extends_more : (p q r : List ℕ) → Extends p q → Extends q r → Extends p r
extends_more p q r g h = record { more = g.more ++ h.more; is = h.is ∙ ap (λ l. l ++ h.more) g.is ∙ append_assoc p g.more h.more }

-- ---- one read

pub took_read : (a b : Option (List ℕ)) (p q bs : List ℕ) → q ≡ p ++ bs → Consumes a b bs → Took a b p q
took_read a b p q bs e h = subst (λ (t : List ℕ). Took a b p t) (sym e) (took_more a b p bs h)

pub took_failed : (a b : Option (List ℕ)) (p q : List ℕ) → q ≡ p → Keeps a b → Took a b p q
took_failed a b p q e h = subst (λ (t : List ℕ). Took a b p t) (sym e) (took_none a b p h)

pub extends_failed : (p q : List ℕ) → q ≡ p → Extends p q
extends_failed p q e = record { more = []; is = e ∙ sym (append-nil p) }

pub filled_by : (left : Option (List ℕ)) (p q bs : List ℕ) (n : ℕ) → q ≡ p ++ bs → n ≡ length bs → (n ≡ 0 → IsAtEnd left)
    → Filled left p q (Ok (nat_lt 0 n))
filled_by left p q bs n e long h = by (nat_lt 0 n) refl
  where
    by : (b : Bool) → nat_lt 0 n ≡ b → Filled left p q (Ok b)
    by true t =
        let sum : length q ≡ length p + length bs = ap length e ∙ length-append p bs in
        let some : 0 < n = grind (arith, nat_tests, t) in
        omega (arith, sum, long, some)
    by false t =
        let none : n ≡ 0 = grind (arith, nat_tests, t) in
        (e ∙ ap (λ l. p ++ l) (nil_from_length bs (sym long ∙ none)) ∙ append-nil p, h none)

-- nothing came
pub ended : (left : Option (List ℕ)) (p q : List ℕ) (b : Bool) → b ≡ false → Filled left p q (Ok b) → (q ≡ p) × IsAtEnd left
ended left p q b e h = subst (λ (b : Bool). Filled left p q (Ok b)) e h
