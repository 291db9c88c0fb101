use Rattle.std.proofs.Common.{ap, drop, ◌∙◌}
use Rattle.std.proofs.lemmas.List.{take_rest}
use Rattle.http_peer.proofs.Outs.{counted}
use Rattle.http_peer.proofs.unsent.Unsent.send_once.Goals as goal

pub returns-clause-out : goal.returns-clause-out
returns-clause-out g c =
    let gone = c.self.inside.gone in
    counted _ _ _ _ _ _ _ (take_rest c.deref.result.now gone ∙ ap (drop gone) c.deref.ensures.value ∙ c.self.view_is) c.write_now-made.ensures.bytes c.count.ensures.ok c.count.ensures.err
