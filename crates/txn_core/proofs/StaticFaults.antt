-- The fault of the walk counts before a clash.
use Rattle.std.proofs.Common.{◌≡◌, ◌⊎◌, inl, inr, refl, Bool, true, false, None, Some, Result, Ok, Err, sym, ◌∙◌, ap}
use Rattle.std.specs.Prelude.{IfOk, IfErr, OnOk}
use Rattle.std.specs.Option.{option_or}
use Rattle.kv_model.specs.declared.refusal.Refusal.{Refusal}
use Rattle.kv_model.specs.declared.refusal.Refusal.TheVariants.{DuplicateKey, Memory}
use Rattle.kv_model.specs.Calls.{Ops}
use Rattle.kv_model.specs.Ranges.{refuse_if}
use Rattle.kv_model.specs.Txns.{walk_fault, clashes, static_fault}
use Rattle.txn_core.specs.Checking.{told_of_search}

pub faulty : (ops : Ops) (e : Refusal) → walk_fault 0 ops ≡ Some e → static_fault ops ≡ Some e
unfolding static_fault
faulty ops e h = ap (λ o. option_or o (refuse_if (clashes ops) DuplicateKey)) h

pub clashing : (ops : Ops) → walk_fault 0 ops ≡ None → clashes ops ≡ true → static_fault ops ≡ Some DuplicateKey
unfolding static_fault
clashing ops h c = ap (λ o. option_or o (refuse_if (clashes ops) DuplicateKey)) h ∙ ap (λ b. refuse_if b DuplicateKey) c

pub faultless : (ops : Ops) → walk_fault 0 ops ≡ None → clashes ops ≡ false → static_fault ops ≡ None
unfolding static_fault
faultless ops h c = ap (λ o. option_or o (refuse_if (clashes ops) DuplicateKey)) h ∙ ap (λ b. refuse_if b DuplicateKey) c

abbrev pub IsRefused : Ops → Refusal → Type 0
IsRefused ops e = (static_fault ops ≡ Some e) ⊎ ((walk_fault 0 ops ≡ None) × (e ≡ Memory))

pub refused_by_fault : (ops : Ops) (e : Refusal) → walk_fault 0 ops ≡ Some e → IsRefused ops e
refused_by_fault ops e h = inl (faulty ops e h)

pub refused_by_clash : (ops : Ops) → walk_fault 0 ops ≡ None → clashes ops ≡ true → IsRefused ops DuplicateKey
refused_by_clash ops h c = inl (clashing ops h c)

-- a transaction whose walk finds no fault is refused by what the search for a clash comes to
pub search_allows : {E : Type 0} (ops : Ops) (found : Result Bool E) → walk_fault 0 ops ≡ None → IfOk found (λ b. b ≡ clashes ops)
    → OnOk (told_of_search found) (static_fault ops ≡ None)
search_allows ops (Ok true) h c = tt
search_allows ops (Ok false) h c = faultless ops h (sym c)
search_allows ops (Err e) h c = tt

pub search_refuses : {E : Type 0} (ops : Ops) (found : Result Bool E) → walk_fault 0 ops ≡ None → IfOk found (λ b. b ≡ clashes ops)
    → IfErr (told_of_search found) (IsRefused ops)
search_refuses ops (Ok true) h c = refused_by_clash ops h (sym c)
search_refuses ops (Ok false) h c = tt
search_refuses ops (Err e) h c = inr (h, refl)
