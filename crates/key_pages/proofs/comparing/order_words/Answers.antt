-- The numbers that the first eight bytes make decide.
use Rattle.std.proofs.Common.{arith}
use Rattle.key_pages.proofs.Words.{word-order}
use Rattle.key_pages.proofs.comparing.order_words.Goals as goal

pub returns : goal.returns
returns c = rw (c.cmp.ensures, c.word.ensures, c.word-2.ensures)
    (word-order c.args.left.now c.args.right.now c.requires.left c.requires.right
    (λ i. omega (arith, c.type_inv.left i)) (λ i. omega (arith, c.type_inv.right i)))
