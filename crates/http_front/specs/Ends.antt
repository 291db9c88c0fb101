-- How a server ends.
use Rattle.std.specs.Prelude.{⊤}
use Rattle.http_front.specs.declared.threads.Trouble.{Trouble}
use Rattle.http_front.specs.declared.threads.Trouble.TheVariants as trouble
use Rattle.http_reply.specs.declared.front.Front.{Front}
use Rattle.http_reply.specs.declared.front.Front.TheVariants as front

-- a server ends so, and no connection does
abbrev pub IsOfServer : Front → Type 0
IsOfServer front.Memory = ⊤
IsOfServer front.Spawn = ⊤
IsOfServer front.Unclosed = ⊤
IsOfServer _ = ⊥

-- what went wrong with a server, as the fault that it ends with
abbrev pub fault_of : Trouble → Front
fault_of trouble.Spawn = front.Spawn
fault_of trouble.Memory = front.Memory
