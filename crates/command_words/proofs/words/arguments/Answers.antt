use Rattle.std.proofs.Common.{◌∙◌, sym, inl, inr, refl}
use Rattle.command_words.proofs.CommandLine.{fails_so, replay_fails_so, serve_fails_so}
use Rattle.command_words.proofs.words.arguments.Goals as goal

pub returns-in-Err-clause-memory : goal.returns-in-Err-clause-memory
returns-in-Err-clause-memory c = serve_fails_so _ c.in-Err.fault c.in-Err.ensures.memory (sym c.is_serve.ensures ∙ c.if-is_serve.true)

pub returns-in-Err-replay_of-clause-memory : goal.returns-in-Err-replay_of-clause-memory
returns-in-Err-replay_of-clause-memory c = replay_fails_so _ c.in-Err-replay_of.fault c.in-Err-replay_of.ensures.memory
    (sym c.is_serve.ensures ∙ c.if-is_serve.false) (sym c.is_replay.ensures ∙ c.if-is_replay.true)

pub returns-in-Err-filter_of-clause-memory : goal.returns-in-Err-filter_of-clause-memory
returns-in-Err-filter_of-clause-memory c = fails_so _ c.in-Err-filter_of.fault c.in-Err-filter_of.ensures.memory
    (sym c.is_serve.ensures ∙ c.if-is_serve.false) (sym c.is_replay.ensures ∙ c.if-is_replay.false)
