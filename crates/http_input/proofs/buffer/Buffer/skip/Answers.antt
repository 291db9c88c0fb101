use Rattle.std.proofs.Common.{ℕ, arith}
use Rattle.std.proofs.lemmas.List.{length-take, length-drop}
use Rattle.http_input.proofs.Rooms.{skipped}
use Rattle.http_input.proofs.buffer.Buffer.skip.Goals as goal

pub returns : goal.returns
returns c =
    let w = c.args.self.now in
    skipped w.room.items w.start w.end c.args.count (omega (arith, c.requires, length-take {A = ℕ}, length-drop {A = ℕ}))
