use Rattle.std.proofs.Common.{◌≡◌, drop}
use Rattle.key_index.specs.Index.{retracted}
use Rattle.key_index.proofs.index.KeyIndex.take_back.Given as goal

abbrev pub invariant-loop-change : goal.invariant-loop-change
invariant-loop-change l = retracted l.main (drop l.change-index l.changes) l.self ≡ retracted l.main l.changes l.fn.self
