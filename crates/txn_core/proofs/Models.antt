-- What is planned on a view, in the words of the model: at the end of the view's revision, on the versions that stand there.
use Rattle.std.proofs.Common.{◌≡◌, ℕ, List, [], ◌∷◌, map, None, refl, ◌∙◌, ap}
use Rattle.kv_model.specs.declared.version.Rev.{Rev}
use Rattle.kv_model.specs.declared.version.Version.{Version}
use Rattle.kv_model.specs.Calls.{Ops}
use Rattle.kv_model.specs.History.{Mutation, end_of}
use Rattle.kv_model.specs.Leases.{Lease, is_granted}
use Rattle.kv_model.specs.Txns.{Path, path_of, static_fault, run_refusal, next_version, effect, added_by}
use Rattle.store_laws.specs.Plans.{planned}
use Rattle.store_laws.proofs.Planning.{plan_refuses}
use Rattle.range_view.specs.Stored.{Viewed}
use Rattle.txn_core.specs.KeyWrites.{number_after, as_kept}
use Rattle.txn_core.specs.Planning.{made, refusal_of, path_in, versions_made_in, refusal_in, present}
use Rattle.txn_core.proofs.Apart.{planned-added}
use Rattle.txn_core.proofs.Making.{version_kept, made-planned, refusal-planned}
use Rattle.txn_core.proofs.Present.{up_to-by, alike-up_to, path-alike, made-alike, refusal-alike}

abbrev pub at_end : Viewed → Viewed
at_end v = record v { place = end_of v.revision }

pub path-at : (v : Viewed) (ops : Ops) → path_in (at_end v) ops ≡ path_of (present v) v.revision ops
path-at v ops = path-alike v.versions (present v) v.revision (alike-up_to (end_of v.revision) v.versions) ops

each-kept : (vs : List Version) (us : List Mutation) → map (version_kept vs) us ≡ map as_kept (map (next_version vs) us)
each-kept vs [] = refl
each-kept vs (u ∷ us) = ap (λ ws. version_kept vs u ∷ ws) (each-kept vs us)

pub made-at : (v : Viewed) (ops : Ops) → static_fault ops ≡ None → versions_made_in (at_end v) [] (path_in (at_end v) ops)
    ≡ map as_kept (added_by (present v) (effect (present v) (number_after v.revision) 0 (path_of (present v) v.revision ops)))
made-at v ops h =
    let p : Rev = end_of v.revision in
    let main : ℕ = number_after v.revision in
    let q : Path = path_of (present v) v.revision ops in
    ap (made v.versions p main []) (path-at v ops)
    ∙ made-alike v.versions (present v) p (alike-up_to p v.versions) main [] q
    ∙ made-planned (present v) p main [] q (up_to-by p v.versions)
    ∙ each-kept (present v) (planned (present v) main [] q)
    ∙ ap (map as_kept) (planned-added (present v) v.revision main ops h)

pub refusal-at : (v : Viewed) (ls : List Lease) (ops : Ops) → static_fault ops ≡ None → refusal_in (at_end v) ls (path_in (at_end v) ops)
    ≡ run_refusal (is_granted ls) v.compacted v.revision (present v) 0 (path_of (present v) v.revision ops)
refusal-at v ls ops h =
    let p : Rev = end_of v.revision in
    let q : Path = path_of (present v) v.revision ops in
    ap (refusal_of (is_granted ls) v.compacted v.revision v.versions p) (path-at v ops)
    ∙ refusal-alike v.versions (present v) p (alike-up_to p v.versions) (is_granted ls) v.compacted v.revision q
    ∙ refusal-planned (is_granted ls) v.compacted v.revision (present v) p q (up_to-by p v.versions)
    ∙ plan_refuses (is_granted ls) v.compacted v.revision (present v) ops h
