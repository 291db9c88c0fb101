use Rattle.std.specs.Prelude.{◌≡◌, None, length}
use Rattle.http_front.proofs.threads.start_workers.Given as goal

abbrev pub invariant-loop-client : goal.invariant-loop-client
invariant-loop-client g l = l.trouble ≡ None → length l.working.items ≡ length l.yielded
