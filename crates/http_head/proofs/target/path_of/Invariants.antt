use Rattle.std.proofs.Common.{◌≡◌, ◌++◌, take, drop}
use Rattle.http_head.specs.Requests as requests
use Rattle.http_head.proofs.target.path_of.Given as goal

abbrev pub invariant-loop-index : goal.invariant-loop-index
invariant-loop-index l = requests.path_of l.target ≡ take l.index l.target ++ requests.path_of (drop l.index l.target)
