use Rattle.http_loop.proofs.OneWay.{one_way}
use Rattle.http_loop.proofs.laws.read_in_one_way.Goals as goal

pub returns : goal.returns
returns c = one_way
