-- Bytes that go out by several writes, and what is kept of them.
use Rattle.std.proofs.Common.{◌≡◌, ℕ, nat_lt, Bool, List, [], ◌++◌, take, drop, Option, None, Some, Result, Ok, Err, IfOk, IfErr, OnErr, sym, ap, subst, ◌∙◌, append_assoc, append-nil}
use Rattle.std.proofs.lemmas.List.{take-append-drop, take-take}
use Rattle.std.specs.Io.KnownBytes.{Appends, Keeps, WriteAppends, append_known}
use Rattle.http_peer.specs.Sent.{GoesOut, KeepsRest, taken}

-- nothing went out
pub none_out : (known : Option (List ℕ)) → Appends known known []
none_out None = tt
none_out (Some x) = sym (append-nil x)

both_out : (a b c : Option (List ℕ)) (xs ys : List ℕ) → Appends a b xs → Appends b c ys → Appends a c (xs ++ ys)
both_out None b c xs ys p q = tt
both_out (Some x) None c xs ys p q = absurd p
both_out (Some x) (Some y) None xs ys p q = absurd q
both_out (Some x) (Some y) (Some z) xs ys p q = q ∙ ap (λ l. l ++ ys) p ∙ append_assoc x xs ys

-- two writes, one after the other
pub goes_on : (a b c : Option (List ℕ)) (x y z : List ℕ) → GoesOut a b x y → GoesOut b c y z → GoesOut a c x z
goes_on a b c x y z p q = (p.0 ++ q.0, both_out a b c p.0 q.0 p.1 q.1, p.2 ∙ ap (λ l. p.0 ++ l) q.2 ∙ sym (append_assoc p.0 q.0 z))

kept_out : (a b : Option (List ℕ)) → Keeps a b → Appends a b []
kept_out None b p = tt
kept_out (Some x) None p = absurd p
kept_out (Some x) (Some y) p = p ∙ sym (append-nil x)

-- a write of what has not gone out, and what it took counted
pub counted : {E : Type 0} → (a b : Option (List ℕ)) (made : Result ℕ E) (r : Result Bool E) (text before after : List ℕ) → text ≡ before → WriteAppends a b made text
    → IfOk made (λ n. (after ≡ drop n before) × (r ≡ Ok (nat_lt 0 n))) → IfErr made (λ e. (after ≡ before) × (r ≡ Err e)) → GoesOut a b before after
counted a b (Ok n) r text before after same p ok err =
    (take n text, p, sym (take-append-drop n before) ∙ ap (λ l. take n l ++ drop n before) (sym same) ∙ ap (λ l. take n text ++ l) (sym ok.0))
counted a b (Err e) r text before after same p ok err = ([], kept_out a b p, sym err.0)

-- where nothing was kept before, a write, and what it did not take kept
pub rest_kept : {E : Type 0} → (a b : Option (List ℕ)) (made r : Result ℕ E) (bytes before after : List ℕ) → before ≡ [] → WriteAppends a b made bytes
    → IfOk made (λ gone. IfOk r (λ n. KeepsRest n gone bytes before after)) → IfOk made (λ gone. OnErr r ((gone ≡ 0) × (after ≡ before)))
    → IfErr made (λ e. (r ≡ Err e) × (after ≡ before)) → GoesOut a b (before ++ taken r bytes) after
rest_kept a b (Ok gone) (Ok n) bytes before after none p ok err fault = (
  take gone bytes,
  p,
  ap (λ l. l ++ take n bytes) none ∙ sym (take-append-drop gone (take n bytes)) ∙ ap (λ l. l ++ drop gone (take n bytes)) (take-take gone n bytes ok.0)
      ∙ ap (λ l. take gone bytes ++ (l ++ drop gone (take n bytes))) (sym none) ∙ ap (λ l. take gone bytes ++ l) (sym ok.2),
)
rest_kept a b (Ok gone) (Err e) bytes before after none p ok err fault =
    ([], subst (λ k. Appends a b (take k bytes)) err.0 p, append-nil before ∙ sym err.1)
rest_kept a b (Err e) r bytes before after none p ok err fault =
    ([], kept_out a b p, ap (λ s. before ++ taken s bytes) fault.0 ∙ append-nil before ∙ sym fault.1)

-- what a writer has, and then what is kept, grows by just what is taken
pub grows : {E : Type 0} → (a b : Option (List ℕ)) (r : Result ℕ E) (bytes before after : List ℕ) → GoesOut a b (before ++ taken r bytes) after
    → WriteAppends (append_known a before) (append_known b after) r bytes
grows None b (Ok n) bytes before after p = tt
grows None b (Err e) bytes before after p = tt
grows (Some x) None r bytes before after p = absurd p.1
grows (Some x) (Some y) (Ok n) bytes before after p =
    ap (λ l. l ++ after) p.1 ∙ append_assoc x p.0 after ∙ ap (λ l. x ++ l) (sym p.2) ∙ sym (append_assoc x before (take n bytes))
grows (Some x) (Some y) (Err e) bytes before after p =
    ap (λ l. l ++ after) p.1 ∙ append_assoc x p.0 after ∙ ap (λ l. x ++ l) (sym p.2 ∙ append-nil before)
