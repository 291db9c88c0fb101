-- The last page, which has room, takes the version.
use Rattle.std.proofs.Common.{◌≡◌, ◌<◌, ◌-◌, length, get_or, set, sym, ◌∙◌, ap, subst, arith, rules}
use Rattle.version_table.specs.Paged.{Places, change_at, used_in, with_version}
use Rattle.version_table.proofs.PageChanges.{on-ok, pushed-last, room-last, room-some, set-change}
use Rattle.version_table.proofs.growth.push_last.Goals as goal

pub push-requires : goal.push-requires
push-requires c =
    let ps = c.args.pages.now.items in
    let q = c.index_mut.result.now in
    let same : c.len-last.result ≡ length ps = search rules in
    subst (λ (p : Places). p.used < 256) (sym c.index_mut.ensures.value)
    (subst (λ n. used_in (get_or ps (n - 1) q) < 256) (sym same) (room-last ps q c.requires))

pub returns-clause-ok : goal.returns-clause-ok
returns-clause-ok c =
    let f = with_version c.args.version in
    let ps = c.args.pages.now.items in
    let k = c.len-last.result - 1 in
    let same : c.len-last.result ≡ length ps = search rules in
    let inside : c.len-last.result - 1 < length ps = omega (arith, same, room-some ps c.requires) in
    on-ok _ _ (λ pushed. ap (λ (q : Places). set ps k q) (pushed ∙ ap f c.index_mut.ensures.value)
    ∙ set-change f ps k c.index_mut.result.now inside
    ∙ ap (λ n. change_at f (n - 1) ps) same
    ∙ pushed-last c.args.version ps c.requires) c.push.result c.push.ensures.ok
