use Rattle.std.proofs.Common.{◌≡◌, length, drop}
use Rattle.json.specs.Tree.{json_tokens, items_tokens, members_tokens}
use Rattle.json.specs.Value as tree
use Rattle.gateway_read.specs.Values.{items_in_range, members_in_range}
use Rattle.gateway_read.proofs.value.+ranging.Given as goal

abbrev pub decreases-is_in_range : goal.decreases-is_in_range
decreases-is_in_range l = length (json_tokens (tree.value_view l.value.now))

abbrev pub decreases-are_in_range : goal.decreases-are_in_range
decreases-are_in_range l = length (items_tokens (tree.items_view l.items.now))

abbrev pub decreases-are_members_in_range : goal.decreases-are_members_in_range
decreases-are_members_in_range l = length (members_tokens (tree.members_view l.members.now))

abbrev pub invariant-are_in_range-loop-item : goal.invariant-are_in_range-loop-item
invariant-are_in_range-loop-item l = items_in_range (tree.items_view (drop l.item-index l.items)) ≡ items_in_range (tree.items_view l.items)

abbrev pub invariant-are_members_in_range-loop-value : goal.invariant-are_members_in_range-loop-value
invariant-are_members_in_range-loop-value l = members_in_range (tree.members_view (drop l.value-index l.members))
    ≡ members_in_range (tree.members_view l.members)
