-- A connection's bytes are read as requests in one way.
use Rattle.std.proofs.Common.{◌≡◌, ◌≤◌, ℕ, arith, List, [], ◌∷◌, ◌++◌, length, inl, inr, refl, sym, ◌∙◌, ap, subst}
use Rattle.httparse.specs.Grammar.{RequestHead}
use Rattle.httparse.proofs.GrammarLemmas.{request_unique}
use Rattle.http_head.specs.Heads.{marks_of}
use Rattle.http_head.specs.Requests.{Asked, ReadsAsked}
use Rattle.http_loop.specs.Laws.{AreAsked, IsNeverCutToo, IsReadInOneWay}

-- two lists that go on differ in length or are the same, and what follows too
split_same : (x y r q : List ℕ) → length x ≡ length y → x ++ r ≡ y ++ q → (x ≡ y) × (r ≡ q)
split_same [] [] r q e h = (refl, h)
split_same [] (y ∷ ys) r q e h = absurd (omega (arith, e))
split_same (x ∷ xs) [] r q e h = absurd (omega (arith, e))
split_same (x ∷ xs) (y ∷ ys) r q e h = let later = split_same xs ys r q (omega (arith, e)) (cc) in let one : x ≡ y = cc in (λ i. one i ∷ later.0 i, later.1)

one_request : (bytes : List ℕ) (a b : Asked) (r q : List ℕ) → ReadsAsked bytes a r → ReadsAsked bytes b q → (a ≡ b) × (r ≡ q)
one_request bytes a b r q (h, after, x, n, e) (k, after', y, m, f) =
    let same = request_unique bytes h k after after' x.reads.reads y.reads.reads in
    let lengths : length a.body ≡ length b.body = cc in
    let bodies = split_same a.body b.body r q lengths (sym e ∙ same.1 ∙ f) in
    let method : a.method ≡ b.method = x.method ∙ ap (λ (h : RequestHead). h.method) same.0 ∙ sym y.method in
    let target : a.target ≡ b.target = x.target ∙ ap (λ (h : RequestHead). h.target) same.0 ∙ sym y.target in
    let close : a.close ≡ b.close = x.close ∙ ap (λ (h : RequestHead). (marks_of h.fields).close) same.0 ∙ sym y.close in
    (λ i. record { method = method i; target = target i; body = bodies.0 i; close = close i }, bodies.1)

longer : (x r : List ℕ) → length x ≤ length (x ++ r)
longer [] r = omega arith
longer (y ∷ ys) r = let later = longer ys r in omega (arith, later)

pub not_cut : IsNeverCutToo
not_cut bytes a r (h, after, x, n, e) (inl cut) = cut.2 h after x.reads.reads
not_cut bytes a r (h, after, x, n, e) (inr (b, k, after', m, y, f, l)) =
    let same = request_unique bytes h k after after' x.reads.reads y.reads.reads in
    let lengths : length a.body ≡ m = cc in
    let whole = longer a.body r in
    absurd (omega (arith, l, lengths, whole, ap length (sym same.1 ∙ e)))

pub one_way : IsReadInOneWay
one_way bytes [] [] _ _ AreAsked.none AreAsked.none e = (refl, refl)
one_way bytes [] (b ∷ seconds) r q x y e = absurd (omega (arith, e))
one_way bytes (a ∷ firsts) [] r q x y e = absurd (omega (arith, e))
one_way bytes (a ∷ firsts) (b ∷ seconds) r q (AreAsked.more {left} x later) (AreAsked.more {left = left'} y later') e =
    let first = one_request bytes a b left left' x y in
    let rest = one_way left firsts seconds r q later (subst (λ (l : List ℕ). AreAsked l seconds q) (sym first.1) later') (omega (arith, e)) in
    (λ i. first.0 i ∷ rest.0 i, rest.1)
