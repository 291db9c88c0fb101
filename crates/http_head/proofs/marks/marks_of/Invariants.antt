use Rattle.std.proofs.Common.{◌≡◌, ◌≤◌, map, take}
use Rattle.httparse.specs.Spans.{header_bytes}
use Rattle.http_head.specs.Heads.{marked}
use Rattle.http_head.specs.Looks.{marks_view}
use Rattle.http_head.proofs.marks.marks_of.Given as goal

abbrev pub invariant-loop-line : goal.invariant-loop-line
invariant-loop-line l = record {
  view : marks_view l.marks ≡ marked (map (header_bytes l.bytes) (take l.line-index l.lines));
  few : l.marks.lengths ≤ l.line-index;
}
