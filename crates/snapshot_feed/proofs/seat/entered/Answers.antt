use Rattle.std.proofs.Common.{refl}
use Rattle.snapshot_feed.proofs.Rules.{turns}
use Rattle.snapshot_feed.proofs.seat.entered.Goals as goal

pub enter_as-requires : goal.enter_as-requires
enter_as-requires c x views kept at = turns x x _ _ kept.0 refl views kept at
