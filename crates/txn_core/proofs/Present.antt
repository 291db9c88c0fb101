-- What a view of the end of its revision shows of all versions is what it shows of those that stand there.
use Rattle.std.proofs.Common.{◌≡◌, ℕ, ℤ, List, [], ◌∷◌, ◌++◌, filter, length, Bool, true, false, ◌&&◌, cond, None, Some, refl, ◌∙◌, ap}
use Rattle.std.proofs.Common.{option_and_then}
use Rattle.std.specs.Option.{option_or}
use Rattle.std.specs.List.{list_all}
use Rattle.std.proofs.Math.Bool.{and-false}
use Rattle.kv_model.specs.declared.version.Rev.{Rev}
use Rattle.kv_model.specs.declared.version.Version.{Version}
use Rattle.kv_model.specs.declared.call.Compare.{Compare}
use Rattle.kv_model.specs.Calls.{Ops}
use Rattle.kv_model.specs.History.{key_value, rev_le, value_at, end_of}
use Rattle.kv_model.specs.Keys.{same_key}
use Rattle.kv_model.specs.Lists.{last_that}
use Rattle.kv_model.specs.Ranges.{keys_of, live, revision_refusal}
use Rattle.kv_model.specs.Txns.{Path, path_of, holds, holds_of}
use Rattle.store_laws.proofs.HistoryLaws.{option_or-none}
use Rattle.store_laws.proofs.KeyLaws.{live-same}
use Rattle.store_laws.proofs.PlaceLaws.{AreBy}
use Rattle.txn_core.specs.KeyWrites.{held_refusal, put_version, as_kept}
use Rattle.txn_core.specs.Planning.{made, refusal_of, with_graves}

-- the versions that stand at a place
abbrev pub up_to : Rev → List Version → List Version
up_to p vs = filter (λ v. rev_le v.rev p) vs

pub up_to-by : (p : Rev) (vs : List Version) → AreBy p (up_to p vs)
up_to-by p [] = tt
up_to-by p (v ∷ vs) = by (rev_le v.rev p) refl (up_to-by p vs)
  where
    by : (b : Bool) → rev_le v.rev p ≡ b → AreBy p (up_to p vs) → AreBy p (cond b (v ∷ up_to p vs) (up_to p vs))
    by true e rest = (e, rest)
    by false e rest = rest

last-up_to : (p : Rev) (k : List ℕ) (vs : List Version)
    → last_that (λ v. same_key v.key k && rev_le v.rev p) vs ≡ last_that (λ v. same_key v.key k && rev_le v.rev p) (up_to p vs)
last-up_to p k [] = refl
last-up_to p k (v ∷ vs) = by (rev_le v.rev p) refl (last-up_to p k vs)
  where
    test : Version → Bool
    test = λ v. same_key v.key k && rev_le v.rev p

    by : (b : Bool) → rev_le v.rev p ≡ b → last_that test vs ≡ last_that test (up_to p vs)
        → option_or (last_that test vs) (cond (test v) (Some v) None) ≡ last_that test (cond b (v ∷ up_to p vs) (up_to p vs))
    by true e same = ap (λ o. option_or o (cond (test v) (Some v) None)) same
    by false e same = ap (λ b. option_or (last_that test vs) (cond b (Some v) None)) (ap (λ b. same_key v.key k && b) e
        ∙ and-false (same_key v.key k)) ∙ option_or-none (last_that test vs) ∙ same

-- two lists show the same of each key at a place
abbrev pub AreAlike : Rev → List Version → List Version → Type 0
AreAlike p vs ws = (k : List ℕ) → value_at vs p k ≡ value_at ws p k

pub alike-up_to : (p : Rev) (vs : List Version) → AreAlike p vs (up_to p vs)
unfolding value_at
alike-up_to p vs k = ap (option_and_then key_value) (last-up_to p k vs)

holds-alike : (vs ws : List Version) (now : ℕ) → AreAlike (end_of now) vs ws → (c : Compare) → holds vs now c ≡ holds ws now c
holds-alike vs ws now h c = ap (holds_of c) (live-same vs ws (end_of now) c.range h)

pub path-alike : (vs ws : List Version) (now : ℕ) → AreAlike (end_of now) vs ws → (ops : Ops) → path_of vs now ops ≡ path_of ws now ops
unfolding path_of
path-alike vs ws now h Ops.no_ops = refl
path-alike vs ws now h (Ops.range q rest) = ap (Path.range q) (path-alike vs ws now h rest)
path-alike vs ws now h (Ops.put p rest) = ap (Path.put p) (path-alike vs ws now h rest)
path-alike vs ws now h (Ops.delete d rest) = ap (Path.delete d) (path-alike vs ws now h rest)
path-alike vs ws now h (Ops.txn cs s f rest) =
    let success : path_of vs now s ≡ path_of ws now s = path-alike vs ws now h s in
    let failure : path_of vs now f ≡ path_of ws now f = path-alike vs ws now h f in
    let behind : path_of vs now rest ≡ path_of ws now rest = path-alike vs ws now h rest in
    λ i. cond (list_all (λ c. holds-alike vs ws now h c i) cs) (Path.txn true (success i) (behind i)) (Path.txn false (failure i) (behind i))

pub made-alike : (vs ws : List Version) (p : Rev) → AreAlike p vs ws → (main : ℕ) (us : List Version) (q : Path)
    → made vs p main us q ≡ made ws p main us q
unfolding made
made-alike vs ws p h main us Path.end = refl
made-alike vs ws p h main us (Path.range r rest) = made-alike vs ws p h main us rest
made-alike vs ws p h main us (Path.put r rest) =
    made-alike vs ws p h main (us ++ as_kept (put_version (record { main = main; sub = length us }) r (value_at vs p r.key)) ∷ []) rest
    ∙ ap (λ o. made ws p main (us ++ as_kept (put_version (record { main = main; sub = length us }) r o) ∷ []) rest) (h r.key)
made-alike vs ws p h main us (Path.delete d rest) =
    ap (λ kvs. made vs p main (with_graves main us (keys_of kvs)) rest) (live-same vs ws p d.range h)
    ∙ made-alike vs ws p h main (with_graves main us (keys_of (live ws p d.range))) rest
made-alike vs ws p h main us (Path.txn b inner rest) =
    ap (λ xs. made vs p main xs rest) (made-alike vs ws p h main us inner) ∙ made-alike vs ws p h main (made ws p main us inner) rest

pub refusal-alike : (vs ws : List Version) (p : Rev) → AreAlike p vs ws → (granted : ℤ → Bool) (c now : ℕ) (q : Path)
    → refusal_of granted c now vs p q ≡ refusal_of granted c now ws p q
unfolding refusal_of
refusal-alike vs ws p h granted c now Path.end = refl
refusal-alike vs ws p h granted c now (Path.range r rest) =
    ap (option_or (revision_refusal c now r.revision)) (refusal-alike vs ws p h granted c now rest)
refusal-alike vs ws p h granted c now (Path.put r rest) =
    let behind : refusal_of granted c now vs p rest ≡ refusal_of granted c now ws p rest = refusal-alike vs ws p h granted c now rest in
    λ i. option_or (held_refusal granted r (h r.key i)) (behind i)
refusal-alike vs ws p h granted c now (Path.delete d rest) = refusal-alike vs ws p h granted c now rest
refusal-alike vs ws p h granted c now (Path.txn b inner rest) =
    let first : refusal_of granted c now vs p inner ≡ refusal_of granted c now ws p inner = refusal-alike vs ws p h granted c now inner in
    let behind : refusal_of granted c now vs p rest ≡ refusal_of granted c now ws p rest = refusal-alike vs ws p h granted c now rest in
    λ i. option_or (first i) (behind i)
