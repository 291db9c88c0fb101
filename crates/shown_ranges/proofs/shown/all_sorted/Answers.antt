-- What passes is sorted.
use Rattle.std.proofs.Common.{◌∙◌, ap, map}
use Rattle.kv_model.specs.Ranges.{passes_filters, sorted}
use Rattle.range_view.specs.Replies.{kv_view}
use Rattle.shown_ranges.proofs.Gathering.{map-filter}
use Rattle.shown_ranges.proofs.shown.all_sorted.Goals as goal

pub returns : goal.returns
returns c =
    c.in_ok-sort.ensures
    ∙ ap (sorted c.args.query.now.order c.args.query.now.target)
    (ap (map kv_view) c.in_ok-shown.ensures ∙ map-filter kv_view (passes_filters c.args.query.now) c.args.kvs.now)
