use Rattle.store_laws.proofs.Openings.{opening_sound}
use Rattle.store_laws.proofs.laws.opening_is_sound.Goals as goal

pub returns : goal.returns
returns c = opening_sound
