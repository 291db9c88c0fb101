-- The values of a list, read one after the other.
use Rattle.std.proofs.Common.{◌≡◌, ℕ, ◌+◌, ◌<◌, ◌≤◌, List, [], ◌∷◌, ◌++◌, length, get_or, drop, Ok, Err, refl, sym, ap, subst, ◌∙◌}
use Rattle.std.proofs.lemmas.List.{append_assoc, append-nil, drop_all, at_drop_more}
use Rattle.serde_json.specs.Data.{Data}
use Rattle.gateway_read.specs.Values.{Tree}
use Rattle.gateway_read.specs.Values.{view, items_view}
use Rattle.kv_model.specs.Requests.{Read, ◌>>=◌, each}
use Rattle.gateway_read.specs.declared.bad.Bad.{Bad}
use Rattle.gateway_read.specs.Reading.{Fails}
use Rattle.gateway_read.proofs.Transactions.{with_front}
use Rattle.gateway_read.proofs.Steps.{fails_then}

-- the value at a place, and then the rest
each_one : {X : Type 0} (f : Data → Read X) (vs : List Tree) (i : ℕ) (v d : Tree) → i < length vs → v ≡ get_or vs i d
    → each f (items_view (drop i vs)) ≡ (f (view v) >>= λ x. each f (items_view (drop (i + 1) vs)) >>= λ xs. Ok (x ∷ xs))
each_one f vs i v d low is = at_drop_more (λ vs. each f (items_view vs)) vs i d low
    ∙ ap (λ v. f (view v) >>= λ x. each f (items_view (drop (i + 1) vs)) >>= λ xs. Ok (x ∷ xs)) (sym is)

-- before the first value
pub each_none : {X : Type 0} (front : List X) (r : Read (List X)) → front ≡ [] → with_front front r ≡ r
each_none front (Ok xs) is = rw is refl
each_none front (Err e) is = refl

one_more : {X : Type 0} (front : List X) (x : X) (r : Read (List X))
    → with_front front (r >>= λ xs. Ok (x ∷ xs)) ≡ with_front (front ++ x ∷ []) r
one_more front x (Ok xs) = ap Ok (sym (append_assoc front (x ∷ []) xs))
one_more front x (Err e) = refl

-- one more value that was read
pub each_more : {X : Type 0} (f : Data → Read X) (vs : List Tree) (i : ℕ) (v d : Tree) (x : X) (front new : List X)
    (whole : Read (List X))
    → i < length vs → v ≡ get_or vs i d → f (view v) ≡ Ok x → new ≡ front ++ x ∷ []
    → with_front front (each f (items_view (drop i vs))) ≡ whole
    → with_front new (each f (items_view (drop (i + 1) vs))) ≡ whole
each_more f vs i v d x front new whole low is read made inv =
    ap (λ front. with_front front (each f (items_view (drop (i + 1) vs)))) made
    ∙ sym (one_more front x (each f (items_view (drop (i + 1) vs))))
    ∙ sym (ap (λ r. with_front front (r >>= λ x. each f (items_view (drop (i + 1) vs)) >>= λ xs. Ok (x ∷ xs))) read)
    ∙ sym (ap (with_front front) (each_one f vs i v d low is)) ∙ inv

-- a value that is refused
pub each_fails : {X : Type 0} (f : Data → Read X) (vs : List Tree) (i : ℕ) (v d : Tree) (e : Bad) (front : List X) (whole : Read (List X))
    → i < length vs → v ≡ get_or vs i d → Fails e (f (view v)) → with_front front (each f (items_view (drop i vs))) ≡ whole → Fails e whole
each_fails f vs i v d e front whole low is h inv =
    subst (Fails e) (sym (ap (with_front front) (each_one f vs i v d low is)) ∙ inv) (fails_then e _ _ (fails_then e _ _ h))

-- after the last value
pub each_done : {X : Type 0} (f : Data → Read X) (vs : List Tree) (i : ℕ) (front : List X) (whole : Read (List X))
    → length vs ≤ i → with_front front (each f (items_view (drop i vs))) ≡ whole → whole ≡ Ok front
each_done f vs i front whole high inv =
    sym inv ∙ ap (λ vs. with_front front (each f (items_view vs))) (drop_all i vs high) ∙ ap Ok (append-nil front)
