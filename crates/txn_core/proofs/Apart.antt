-- The versions that a planned path adds, none of which hangs on another: they are those that its changes make one after the other.
use Rattle.std.proofs.Common.{◌≡◌, ℕ, suc, List, [], ◌∷◌, ◌++◌, length, map, Option, None, refl, sym, ◌∙◌, ap}
use Rattle.std.proofs.lemmas.List.{map-append}
use Rattle.kv_model.specs.declared.version.Version.{Version}
use Rattle.kv_model.specs.Calls.{Ops}
use Rattle.kv_model.specs.History.{Mutation, Action, KeyValue}
use Rattle.kv_model.specs.Txns.{Path, path_of, static_fault, next_body, next_version, extend, extend_all, added_by, put_change, deletes_of}
use Rattle.kv_model.specs.Txns.{effect}
use Rattle.store_laws.specs.Plans.{path_touches, still_live, planned}
use Rattle.store_laws.proofs.TouchLaws.{AreClear}
use Rattle.store_laws.proofs.PathLaws.{path-checked}
use Rattle.store_laws.proofs.PlanLaws.{NoClash, held-put, put-clear, delete-clear, inner-clear, clear-front, effect-planned}

-- each change makes behind those before it the version that it makes before them
abbrev pub AreApart : List Version → List Mutation → Type 0
AreApart vs us = added_by vs us ≡ map (next_version vs) us

added-append : (vs : List Version) (us ws : List Mutation) → added_by vs (us ++ ws) ≡ added_by vs us ++ added_by (extend_all vs us) ws
added-append vs [] ws = refl
added-append vs (u ∷ us) ws = ap (λ t. next_version vs u ∷ t) (added-append (extend vs u) us ws)

apart-append : (vs : List Version) (us ws : List Mutation) → AreApart vs us → added_by (extend_all vs us) ws ≡ map (next_version vs) ws → AreApart vs (us ++ ws)
apart-append vs us ws h g = added-append vs us ws ∙ (λ i. h i ++ g i) ∙ sym (map-append (next_version vs) us ws)

deletes-apart : (vs ws : List Version) (main sub : ℕ) (ks : List (List ℕ)) → added_by vs (deletes_of main sub ks) ≡ map (next_version ws) (deletes_of main sub ks)
deletes-apart vs ws main sub [] = refl
deletes-apart vs ws main sub (k ∷ ks) =
    let m : Mutation = record { rev = record { main = main; sub = sub }; key = k; action = Action.delete } in
    ap (λ t. next_version ws m ∷ t) (deletes-apart (extend vs m) ws main (suc sub) ks)

-- where nothing clashes, so it is of a path
pub planned-apart : (vs : List Version) (main : ℕ) (us : List Mutation) (q : Path) → AreClear us (path_touches q) → NoClash q → AreApart vs us → AreApart vs (planned vs main us q)
unfolding planned
planned-apart vs main us Path.end j n h = h
planned-apart vs main us (Path.range r rest) j n h = planned-apart vs main us rest j n h
planned-apart vs main us (Path.put p rest) j n h =
    let m : Mutation = put_change vs main (length us) p in
    let one : added_by (extend_all vs us) (m ∷ []) ≡ next_version vs m ∷ []
    = ap (λ (o : Option KeyValue). record { rev = m.rev; key = m.key; body = next_body m.rev.main m.action o } ∷ []) (held-put vs us p.key (path_touches rest) j) in
    planned-apart vs main (us ++ m ∷ []) rest (put-clear vs main us p rest j n) n.1 (apart-append vs us (m ∷ []) h one)
planned-apart vs main us (Path.delete d rest) j n h =
    let ks : List (List ℕ) = still_live vs us d.range in
    planned-apart vs main (us ++ deletes_of main (length us) ks) rest (delete-clear vs main us d rest j n) n.1
    (apart-append vs us (deletes_of main (length us) ks) h (deletes-apart (extend_all vs us) vs main (length us) ks))
planned-apart vs main us (Path.txn b inner rest) j n h =
    planned-apart vs main (planned vs main us inner) rest (inner-clear vs main us b inner rest j n) n.2 (planned-apart vs main us inner (clear-front us (path_touches inner) (path_touches rest) j) n.1 h)

-- what is planned for a transaction that passes its check is what its operations make one after the other
pub planned-added : (vs : List Version) (now main : ℕ) (ops : Ops) → static_fault ops ≡ None
    → map (next_version vs) (planned vs main [] (path_of vs now ops)) ≡ added_by vs (effect vs main 0 (path_of vs now ops))
planned-added vs now main ops h =
    let q : Path = path_of vs now ops in
    let clear : NoClash q = (path-checked vs now ops h).0 in
    sym (planned-apart vs main [] q tt clear refl) ∙ ap (added_by vs) (effect-planned vs main [] q tt clear)
