use Rattle.std.proofs.Common.{sym, ◌∙◌, ap, subst}
use Rattle.std.proofs.lemmas.Int.{to_z-of_z}
use Rattle.std.proofs.lemmas.Result.{on_ok_weaker, on_err_weaker}
use Rattle.std.specs.Int.{w64}
use Rattle.std.specs.Map.{set_value}
use Rattle.std.specs.BTreeMap.{insert_entry, is_at}
use Rattle.std.specs.Ordering.{int_cmp}
use Rattle.std.proofs.lemmas.Map.Steps.{set_value_same}
use Rattle.lease_keys.proofs.Pairs.{added-through, have-first, have-more}
use Rattle.lease_keys.specs.Pairs.{HaveKeys}
use Rattle.lease_keys.proofs.index.add.Goals as goal

pub returns-in-Some-clause-ok : goal.returns-in-Some-clause-ok
returns-in-Some-clause-ok c =
    let here = rw (to_z-of_z w64 c.args.lease c.ranges.lease) at c.in-Some.ensures.value in
    let writes = rw (to_z-of_z w64 c.args.lease c.ranges.lease) at (c.get_mut.follows.holds c.add.new.self).3 in
    on_ok_weaker c.add.result (added-through c.args.lease c.args.key.now c.args.leases.now.entries
    (c.get_mut.follows.lender c.add.new.self).entries c.in-Some.keys.now c.add.new.self here (λ some. (writes some).0)) c.add.ensures.ok

pub returns-in-Some-clause-err : goal.returns-in-Some-clause-err
returns-in-Some-clause-err c =
    let here = rw (to_z-of_z w64 c.args.lease c.ranges.lease) at c.in-Some.ensures.value in
    let whole = rw (to_z-of_z w64 c.args.lease c.ranges.lease) at (c.get_mut.follows.holds c.add.new.self).0 in
    on_err_weaker c.add.result
    (λ same. whole ∙ ap (set_value (is_at (int_cmp c.args.lease)) c.args.leases.now.entries) same
    ∙ set_value_same (is_at (int_cmp c.args.lease)) c.args.leases.now.entries c.in-Some.keys.now (sym here)) c.add.ensures.err

pub returns-in-Some-clause-kept : goal.returns-in-Some-clause-kept
returns-in-Some-clause-kept c =
    let here = rw (to_z-of_z w64 c.args.lease c.ranges.lease) at c.in-Some.ensures.value in
    let whole = rw (to_z-of_z w64 c.args.lease c.ranges.lease) at (c.get_mut.follows.holds c.add.new.self).0 in
    have-more c.add.result c.args.lease c.args.key.now c.args.leases.now.entries
    (c.get_mut.follows.lender c.add.new.self).entries c.in-Some.keys.now c.add.new.self
    here whole c.add.ensures.ok c.add.ensures.err

pub returns-clause-kept : goal.returns-clause-kept
returns-clause-kept c =
    let entries = rw (to_z-of_z w64 c.args.lease c.ranges.lease, c.get_mut.follows.holds-at-none) at c.in_ok-insert.ensures.entries in
    λ have. subst HaveKeys (sym (entries ∙ ap (insert_entry int_cmp c.args.leases.now.entries c.args.lease) c.in_ok-keys.ensures))
    (have-first c.args.lease c.args.key.now c.args.leases.now.entries have)
