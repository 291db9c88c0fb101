-- What was written is what answers the script that was read, or a front of that.
use Rattle.std.proofs.Common.{◌≡◌, true}
use Rattle.commands.specs.Faults.{is_write}
use Rattle.commands.proofs.Writing.{whole_answers, front_answers}
use Rattle.commands.proofs.replaying.replay_by.Goals as goal

pub returns-in-Ok-clause-ok : goal.returns-in-Ok-clause-ok
returns-in-Ok-clause-ok g c =
    let read = rw c.new-reader.ensures.reader at c.in_ok-script.ensures.ok in
    let lines = rw c.as_slice.ensures.value at c.in-Ok.ensures.lines in
    let run = rw c.as_slice.ensures.value at c.in-Ok.ensures.run in
    let written = c.write_out.ensures.replies in
    whole_answers c.write_out.result _ _ _ c.in_ok-script.script.items _ c.in-Ok.run'.said read lines run written

pub returns-in-Ok-clause-cut : goal.returns-in-Ok-clause-cut
returns-in-Ok-clause-cut g c =
    let read = rw c.new-reader.ensures.reader at c.in_ok-script.ensures.ok in
    let lines = rw c.as_slice.ensures.value at c.in-Ok.ensures.lines in
    let run = rw c.as_slice.ensures.value at c.in-Ok.ensures.run in
    let written = c.write_out.ensures.replies in
    front_answers c.write_out.result (λ fault. is_write fault ≡ true) _ _ _ c.in_ok-script.script.items _ c.in-Ok.run'.said
    read lines run written
