use Rattle.std.proofs.Common.{◌≤◌, length, sym, subst, take, arith, List, ℕ}
use Rattle.std.proofs.lemmas.List.{take_all, length-take-le, length-take}
use Rattle.http_head.specs.Looks.{Looks}
use Rattle.http_head.proofs.head.look_at.Goals as goal

pub slice_bounds-look_within-end : goal.slice_bounds-look_within-end
slice_bounds-look_within-end c = sym (length-take-le 8192 c.args.bytes.now (omega (arith, c.if-bytes-le-MOST_HEAD.false)))

pub look_within-requires-else-bytes-le-MOST_HEAD : goal.look_within-requires-else-bytes-le-MOST_HEAD
look_within-requires-else-bytes-le-MOST_HEAD c = omega (arith, length-take 8192 c.args.bytes.now)

pub returns-then-bytes-le-MOST_HEAD : goal.returns-then-bytes-le-MOST_HEAD
returns-then-bytes-le-MOST_HEAD c =
    subst (λ (text : List ℕ). Looks text c.look_within.result) (sym (take_all 8192 c.args.bytes.now c.if-bytes-le-MOST_HEAD.true)) c.look_within.ensures
