use Rattle.std.proofs.Common.{sym, ap, ◌∙◌}
use Rattle.snapshot_feed.proofs.Rules.{turns}
use Rattle.snapshot_feed.proofs.writer.show.Goals as goal

pub show_as-requires : goal.show_as-requires
show_as-requires g c = turns _ _ _ _ c.requires.shows (c.requires.book ∙ sym (ap (λ p. p.value.front.book) c.open-open.ensures.values.0))
