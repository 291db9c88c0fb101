use Rattle.std.proofs.Common.{◌≡◌, length}
use Rattle.kv_model.specs.Keys.{key_cmp}
use Rattle.key_pages.proofs.comparing.order.Given as goal

abbrev pub invariant-words : goal.invariant-words
invariant-words l = key_cmp l.left l.right ≡ key_cmp l.fn.left l.fn.right

abbrev pub decreases-words : goal.decreases-words
decreases-words l = length l.left
