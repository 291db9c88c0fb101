-- A server: how it answers, and what it writes when it has ended.
use Rattle.std.specs.Prelude.{⊤, ℕ, ◌-◌, ◌^◌, List, [], ◌∷◌, ◌++◌, Bool, true, false, ◌==◌, if◌then◌else◌, codes, decimal}
use Rattle.kv_model.specs.declared.ids.Ids.{Ids}
use Rattle.http_front.specs.Ends.{IsOfServer}
use Rattle.commands.specs.declared.fault.Fault.{Fault}
use Rattle.commands.specs.declared.fault.Fault.TheVariants as fault
use Rattle.command_words.specs.declared.words.Args.{Args}
use Rattle.command_words.specs.declared.words.Args.TheVariants as args
use Rattle.command_words.specs.declared.words.Serve.{Serve}

-- what was asked for is a server
abbrev pub asks_to_serve : Args → Bool
asks_to_serve (args.Serve s) = true
asks_to_serve _ = false

-- after how many connections it ends
abbrev pub connections_of : Serve → ℕ
connections_of s = if s.connections == 0 then 2 ^ 63 - 1 else s.connections

-- the line that tells the revision of the store
abbrev pub closing_line : ℕ → List ℕ
closing_line revision = codes "closed at revision " ++ decimal revision ++ 10 ∷ []

-- by which ids it answers
abbrev pub ids_in : Serve → Ids
ids_in s = record { cluster = s.cluster; member = s.member }

abbrev pub ids_of : Args → Ids
ids_of (args.Serve s) = ids_in s
ids_of (args.Replay ids) = ids
ids_of args.Check = record { cluster = 1; member = 1 }

-- a server ends so before its last line: no memory was found for the engine, or `pool` failed
abbrev pub IsOfRun : Fault → Type 0
IsOfRun fault.Memory = ⊤
IsOfRun (fault.Server front) = IsOfServer front
IsOfRun _ = ⊥

-- it began, and ended by a fault of the server
abbrev pub IsOfServerAlone : Fault → Type 0
IsOfServerAlone (fault.Server front) = IsOfServer front
IsOfServerAlone _ = ⊥
