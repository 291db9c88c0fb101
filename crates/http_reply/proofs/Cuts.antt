-- A text that goes out by several writes.
use Rattle.std.proofs.Common.{◌≡◌, ◌≤◌, ℕ, ◌+◌, ◌-◌, arith, List, ◌++◌, length, take, drop, Option, None, Some, sym, ap, subst, ◌∙◌, append_assoc}
use Rattle.std.proofs.lemmas.List.{drop-take, take-append-drop, take-take, take_rest}
use Rattle.std.specs.Io.KnownBytes.{Appends}

pub both_written : (a b c : Option (List ℕ)) (xs ys : List ℕ) → Appends a b xs → Appends b c ys → Appends a c (xs ++ ys)
both_written None b c xs ys p q = tt
both_written (Some x) None c xs ys p q = absurd p
both_written (Some x) (Some y) None xs ys p q = absurd q
both_written (Some x) (Some y) (Some z) xs ys p q = q ∙ ap (λ l. l ++ ys) p ∙ append_assoc x xs ys

-- n bytes behind the first s
front_more : (text : List ℕ) (s n : ℕ) → take (s + n) text ≡ take s text ++ take n (take (length text - s) (drop s text))
front_more text s n = sym (take-append-drop s (take (s + n) text)) ∙ (λ i. take-take s (s + n) text (omega arith) i ++ (drop-take s n text ∙ ap (take n) (sym (take_rest text s))) i)

-- what was written, and n bytes more of the rest
pub sent_more : (a b c : Option (List ℕ)) (text : List ℕ) (s n : ℕ) → Appends a b (take s text) → Appends b c (take n (take (length text - s) (drop s text))) → Appends a c (take (s + n) text)
sent_more a b c text s n p q = subst (Appends a c) (sym (front_more text s n)) (both_written a b c (take s text) _ p q)
