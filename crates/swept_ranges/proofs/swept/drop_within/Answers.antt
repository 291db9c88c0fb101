-- A range that goes covers nothing.
use Rattle.std.proofs.Common.{◌≡◌, ◌++◌, List, Bor, ap, sym, ◌∙◌, length, take, drop, true, option_copied, subst, arith, rules}
use Rattle.kv_model.specs.declared.version.KeyRange.{KeyRange}
use Rattle.kv_model.specs.Keys.{in_range}
use Rattle.swept_ranges.specs.Ends.{ends_by, past_ends}
use Rattle.swept_ranges.specs.Swept.{covers}
use Rattle.swept_ranges.proofs.Order.{dropped}
use Rattle.swept_ranges.proofs.Sweeping.{any-removed}
use Rattle.swept_ranges.proofs.swept.drop_within.Goals as goal

pub loop-swept-preserved : goal.loop-swept-preserved
loop-swept-preserved c = record {
  covered = λ k h. c.loop-swept.invariant.covered k
      (any-removed (λ r. in_range r.now k) c.args.place c.loop-swept.swept.items (sym (ap (λ rs. covers rs k) c.remove.ensures.items) ∙ h));
  rest = ap (λ (rs : List (Bor KeyRange)). take c.args.place rs ++ past_ends (option_copied c.args.to) (drop c.args.place rs))
      c.remove.ensures.items
      ∙ dropped (option_copied c.args.to) c.loop-swept.swept.items c.args.place c.index.result.now
      (let same : c.len.result ≡ length c.loop-swept.swept.items = search rules in omega (arith, same, c.loop-swept-test.true))
      (subst (λ (r : Bor KeyRange). ends_by r.now (option_copied c.args.to) ≡ true) c.index.ensures (sym c.ends_by.ensures ∙ c.if-ends_by.true))
      ∙ c.loop-swept.invariant.rest;
}
