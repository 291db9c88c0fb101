use Rattle.http_loop.proofs.OneWay.{not_cut}
use Rattle.http_loop.proofs.laws.never_cut_too.Goals as goal

pub returns : goal.returns
returns c = not_cut
