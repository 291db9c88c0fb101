-- The index gives just the revisions of the key's versions.
use Rattle.std.proofs.Common.{[], ◌∙◌, ap, drop, unwrap_or}
use Rattle.key_index.specs.KeyRevisions.{count_before}
use Rattle.range_view.specs.OneKey.{held, standing_at}
use Rattle.range_view.proofs.OneKey.{standing-from}
use Rattle.range_view.proofs.key_versions.KeyVersions.new.Goals as goal

pub returns : goal.returns
returns c =
    let vs = c.args.table.now in
    let next = c.args.next in
    ap (λ n. standing_at vs (drop n (held c.get-revisions.result))) c.count_before.ensures
    ∙ ap (λ qs. standing_at vs (drop (count_before next qs) qs)) (ap (λ o. unwrap_or o []) c.get-revisions.ensures)
    ∙ standing-from c.args.index.now vs c.args.key.now next c.requires
