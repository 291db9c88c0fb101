-- Each revision is asked in turn.
use Rattle.std.proofs.Common.{rules, not}
use Rattle.std.proofs.lemmas.Fn.{filter_same}
use Rattle.key_index.specs.KeyRevisions.{is_rev}
use Rattle.key_index.proofs.revisions.keep_others.Goals as goal

pub returns : goal.returns
returns c = filter_same _ (λ q. not (is_rev c.args.rev q)) _ (λ x b f' k. search rules) _ _ c.retain.ensures.filtered
