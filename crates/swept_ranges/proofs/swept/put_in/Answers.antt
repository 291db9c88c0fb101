-- With one range more, what is covered lies in that, or was covered.
use Rattle.std.proofs.Common.{ap, sym, ◌∙◌}
use Rattle.kv_model.specs.Keys.{in_range}
use Rattle.swept_ranges.specs.Swept.{covers}
use Rattle.swept_ranges.proofs.Sweeping.{any-inserted}
use Rattle.swept_ranges.proofs.swept.put_in.Goals as goal

pub returns-clause-covered : goal.returns-clause-covered
returns-clause-covered c = λ k h. any-inserted (λ r. in_range r.now k) c.args.range c.min-place.result c.args.swept.now.items
    (sym (ap (λ rs. covers rs k) c.in_ok-insert.ensures.items) ∙ h)
