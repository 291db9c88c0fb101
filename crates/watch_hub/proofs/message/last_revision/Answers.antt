-- Behind the first version.
use Rattle.std.proofs.Common.{◌∙◌, sym, ap, subst}
use Rattle.kv_model.specs.Watches.{last_revision}
use Rattle.version_table.specs.Rising.{IsRising}
use Rattle.watch_hub.proofs.Tallies.{tallied-last}
use Rattle.watch_hub.proofs.message.last_revision.Goals as goal

pub returns-in-Some : goal.returns-in-Some
returns-in-Some c =
    c.last_behind.ensures ∙ tallied-last c.in-Some.first.now c.next.new.self (subst IsRising c.in-Some.ensures c.requires)
    ∙ ap last_revision (sym c.in-Some.ensures)
