use Rattle.std.proofs.Common.{◌∙◌, ap, not, rules, subst, sym}
use Rattle.event_script.specs.Scripts.{IsWritten, Taken}
use Rattle.event_script.proofs.Writing.{first}
use Rattle.engine_lock.specs.Copied.{appended}
use Rattle.engine_lock.proofs.Fitting.{fits_first}
use Rattle.engine_lock.proofs.state.State.new.Goals as goal

pub invariant_of-state : goal.invariant_of-state
invariant_of-state g c = (
  record {
    fits = fits_first c.new.result.core c.new-listing.result.0 (appended c.new.result.feed) c.new.ensures.core c.new.ensures.tables
        c.new-listing.ensures.log c.new.ensures.appended;
    written = subst (IsWritten c.first_lines.result c.nothing-taken.result) (sym c.new-listing.ensures.log)
        (first (not c.args.is_recorded) c.first_lines.result c.nothing-taken.result c.first_lines.ensures c.nothing-taken.ensures);
  },
  search rules,
  λ none. ap (λ (t : Taken). t.is_over) c.nothing-taken.ensures ∙ ap not (c.requires.recorded ∙ none),
)
