use Rattle.std.proofs.Common.{◌≡◌, ◌++◌, map, take}
use Rattle.recording.specs.Lines.{within_line}
use Rattle.recording.proofs.lines.append_body.Given as goal

-- the bytes so far stand behind what was there
abbrev pub invariant-loop-byte : goal.invariant-loop-byte
invariant-loop-byte l = l.text.items ≡ l.initial.text.items ++ map within_line (take l.byte-index l.body)
