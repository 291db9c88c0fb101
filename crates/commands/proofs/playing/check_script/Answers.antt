use Rattle.std.proofs.lemmas.Result.{IfErr-weaker}
use Rattle.commands.proofs.Played.{all_events, first_without}
use Rattle.commands.proofs.playing.check_script.Goals as goal

pub returns-clause-ok : goal.returns-clause-ok
returns-clause-ok c = all_events c.play.result _ _ _ c.play.ensures.ok

pub returns-clause-fault : goal.returns-clause-fault
returns-clause-fault c = IfErr-weaker c.play.result _ _ (λ f stops. first_without _ _ _ f stops) c.play.ensures.fault
