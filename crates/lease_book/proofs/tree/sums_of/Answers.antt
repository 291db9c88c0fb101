use Rattle.std.proofs.Common.{◌∷◌, arith}
use Rattle.lease_book.specs.Entries.{lease_of}
use Rattle.lease_book.proofs.Sums.{positives_few, length-sides, positives-append, earliest-append}
use Rattle.lease_book.proofs.tree.sums_of.Goals as goal

pub overflow_add-result-3 : goal.overflow_add-result-3
overflow_add-result-3 c =
    let h = positives_few c.args.left.now in
    let k = positives_few c.args.right.now in
    grind arith

pub overflow_add-result-4 : goal.overflow_add-result-4
overflow_add-result-4 c =
    let h = positives_few c.args.left.now in
    let k = positives_few c.args.right.now in
    grind arith

pub returns : goal.returns
returns c = record {
  count = omega (arith, length-sides c.args.left.now (lease_of c.args.entry) c.args.right.now);
  positive = omega (arith, positives-append c.args.left.now (lease_of c.args.entry ∷ c.args.right.now));
  earliest =
      let e = earliest-append c.args.left.now (lease_of c.args.entry ∷ c.args.right.now) in
      cc;
}
