-- The exchange that adds an event keeps the rule.
use Rattle.std.proofs.Common.{◌≡◌, ℕ, ◌+◌, ◌<◌, ◌≤◌, ◌==◌, Bool, true, false, List, [], ◌∷◌, ◌++◌, length, refl, ap, sym, subst, ◌∙◌}
use Rattle.std.proofs.Common.{arith, inl, length-append, None, MatchBool}
use Rattle.std.specs.Prelude.{⊤}
use Rattle.std.proofs.lemmas.List.{append-nil}
use Rattle.std.proofs.lemmas.Bool.Decides.{nat_tests}
use mathlib.Core.List.{IsPrefix}
use prog.Atomic.{either}
use Rattle.logbook.specs.Pages.{Cell, cell, keeps, no_nib, step, Moves, Goes}
use Rattle.event_book.specs.Events.{Entry}
use Rattle.event_book.specs.Rules.{IsKept, AddsEntry}
use Rattle.event_book.proofs.Prefixes.{prefix_whole}

abbrev pub shown : List Entry → List Entry
shown log = []

abbrev pub moved : List Entry → List Entry → ℕ → Type 0
moved xs ys n = Unit {0}

pub adds_goes : (log v : List Entry) (e : Entry) (old : ℕ) → old ≤ length v → IsPrefix v log → (b : Bool) → (length log == old) ≡ b
    → Goes IsKept shown moved 0 (v, (no_nib, None)) (λ n. either (n == old) (old + 1) n) (AddsEntry (step 0 old (old + 1) e) (v, (no_nib, None))) ((length log, true) ∷ (0, true) ∷ []) log
adds_goes log v e old room pre true is =
    let here : length log ≡ old = grind (arith, nat_tests) in
    let same : v ≡ log = prefix_whole v log pre (omega arith) in
    let n : either (length log == old) (old + 1) (length log) ≡ length (log ++ e ∷ []) = rw is (omega (arith, length-append log (e ∷ []))) in (
      keeps,
      e ∷ [],
      None,
      tt,
      ap (λ (k : ℕ). (k, true) ∷ (0, true) ∷ []) n,
      inl (refl, refl),
      rw is (ap (λ w. w ++ e ∷ []) (sym same), ap length same ∙ here),
    )
adds_goes log v e old room pre false is =
    let all : log ++ [] ≡ log = append-nil log in
    let n : either (length log == old) (old + 1) (length log) ≡ length (log ++ []) = rw is (ap length (sym all)) in (
      keeps,
      [],
      None,
      tt,
      ap (λ (k : ℕ). (k, true) ∷ (0, true) ∷ []) n,
      inl (refl, refl),
      rw is tt,
    )

-- whatever the book is, the exchange adds the event to all that was seen, or finds that there are more
pub adds_moves : (v : List Entry) (e : Entry) (old : ℕ) → old ≤ length v
    → Moves IsKept shown moved 0 (v, (no_nib, None)) (λ n. either (n == old) (old + 1) n) (AddsEntry (step 0 old (old + 1) e) (v, (no_nib, None)))
adds_moves v e old room cs log kept pre away =
    let P : List Cell → Type 0 = λ c. (0 < length c) × ((cell c 0).1 ≡ true) × Goes IsKept shown moved 0 (v, (no_nib, None)) (λ n. either (n == old) (old + 1) n) (AddsEntry (step 0 old (old + 1) e) (v, (no_nib, None))) c log in
    subst P (sym kept) (omega arith, refl, adds_goes log v e old room pre (length log == old) refl)

-- what is known where the number found is the one expected: this front was the whole list, the other began it
pub record WasAdded (one other log : List Entry) (e : Entry) : Type 0 where
  pub list : log ≡ one ++ e ∷ []
  pub begins : IsPrefix other one

pub was_added : (n m : ℕ) (one other both log : List Entry) (e : Entry) → n ≡ m → m ≡ length one → IsPrefix one both → IsPrefix other both
    → MatchBool (n == m) ((log ≡ both ++ e ∷ []) × (length both ≡ m)) ⊤ → WasAdded one other log e
was_added n m one other both log e same len p q h =
    let is : (n == m) ≡ true = grind (arith, nat_tests) in
    let told : (log ≡ both ++ e ∷ []) × (length both ≡ m) = rw is at h in
    let whole : one ≡ both = prefix_whole one both p (omega (arith, told.1)) in
    record { list = told.0 ∙ ap (λ w. w ++ e ∷ []) (sym whole); begins = subst (IsPrefix other) (sym whole) q }
