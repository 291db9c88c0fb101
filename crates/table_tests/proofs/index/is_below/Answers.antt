-- Behind those of earlier main revisions none is left.
use Rattle.std.proofs.Common.{◌∙◌, List, [], sym, ap, subst}
use Rattle.std.specs.Prelude.{unwrap_or, Option}
use Rattle.std.specs.List.{slice_get}
use Rattle.kv_model.specs.declared.version.Rev.{Rev}
use Rattle.key_index.specs.KeyRevisions.{IsBehind}
use Rattle.key_index.proofs.KeyRevisions.{behind-counted}
use Rattle.table_tests.proofs.index.is_below.Goals as goal

pub returns-in-None-get : goal.returns-in-None-get
returns-in-None-get c =
    let qs = c.in-Some.revisions.now in
    λ sub _. subst (IsBehind (record { main = c.args.main; sub = sub })) (ap (λ (o : Option (List Rev)). unwrap_or o []) c.in-Some.ensures)
    (behind-counted c.args.main sub qs (ap (slice_get qs) (sym c.count_before.ensures) ∙ sym c.in-None-get.ensures.value))

pub returns-in-None : goal.returns-in-None
returns-in-None c =
    λ sub _. subst (IsBehind (record { main = c.args.main; sub = sub })) (ap (λ (o : Option (List Rev)). unwrap_or o []) c.in-None.ensures) tt
