-- A lease has an entry just where it has a key.
use Rattle.std.proofs.Common.{sym, ◌∙◌, ap, subst}
use Rattle.std.proofs.lemmas.Int.{to_z-of_z}
use Rattle.std.specs.Int.{w64}
use Rattle.std.specs.Map.{remove_entry}
use Rattle.std.specs.BTreeMap.{is_at}
use Rattle.std.specs.Ordering.{int_cmp}
use Rattle.lease_keys.specs.Pairs.{HaveKeys}
use Rattle.lease_keys.proofs.Pairs.{have-left, have-bared}
use Rattle.lease_keys.proofs.index.remove.Goals as goal

pub returns-then-remove-clause-kept : goal.returns-then-remove-clause-kept
returns-then-remove-clause-kept c =
    let whole = rw (to_z-of_z w64 c.args.lease c.ranges.lease) at (c.get_mut.follows.holds c.remove.new.self).0 in
    let gone = rw (to_z-of_z w64 c.args.lease c.ranges.lease) at c.remove-then-remove.ensures.entries in
    λ have. subst HaveKeys (sym (gone ∙ ap (remove_entry (is_at (int_cmp c.args.lease))) whole))
    (have-bared c.args.lease c.remove.new.self c.args.leases.now.entries have)

pub returns-else-remove-clause-kept : goal.returns-else-remove-clause-kept
returns-else-remove-clause-kept c =
    let whole = rw (to_z-of_z w64 c.args.lease c.ranges.lease) at (c.get_mut.follows.holds c.remove.new.self).0 in
    λ have. subst HaveKeys (sym whole) (have-left c.args.lease c.remove.new.self c.args.leases.now.entries
    (sym c.remove.ensures.left ∙ c.if-remove.false) have)
