use Rattle.std.proofs.Common.{rules}
use Rattle.watch_streams.proofs.telling.tell.Goals as goal

pub returns-in-Ok : goal.returns-in-Ok
returns-in-Ok g c = (c.in-Ok-Text.text.items, search rules, search rules, search rules, search rules)
