use Rattle.std.proofs.Common.{◌≡◌, None, rules}
use Rattle.request_core.specs.State.{due_in}
use Rattle.request_core.proofs.Telling.{none_kept, none_told}
use Rattle.request_core.proofs.store.Core.expire_to.Goals as goal

pub returns-in-None-clause-told : goal.returns-in-None-clause-told
returns-in-None-clause-told g c =
    let none : due_in c.args.self.now.store ≡ None = search rules in
    none_told g.S.Sink.takes c.args.self.now c.args.sink.now none

pub returns-in-None-clause-stored : goal.returns-in-None-clause-stored
returns-in-None-clause-stored g c =
    let none : due_in c.args.self.now.store ≡ None = search rules in
    none_kept c.args.self.now none
