use Rattle.std.proofs.Common.{◌≡◌, ◌++◌, length, map}
use Rattle.watch_hub.specs.Messages.{first_tally, tallied, with_room}
use Rattle.watch_hub.proofs.message.collect_behind.Given as goal

abbrev pub invariant-loop-version : goal.invariant-loop-version
invariant-loop-version l = record {
  last : tallied l.tally l.walk ≡ tallied (first_tally l.first) l.fn.walk;
  found : map (λ v. v.now) l.found.items ++ with_room l.tally l.walk ≡ map (λ v. v.now) l.fn.found.items ++ with_room (first_tally l.first) l.fn.walk;
}

abbrev pub decreases-loop-version : goal.decreases-loop-version
decreases-loop-version l = length l.walk
