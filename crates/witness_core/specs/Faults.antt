-- How the program's faults are seen as the model's.
use Rattle.std.specs.Prelude.{◌≡◌, ℕ, List, length, Option, None, Some, option_map, Result, Ok, Err}
use Rattle.std.specs.Prelude.{Vec}
use Rattle.std.specs.Option.{option_or}
use Rattle.std.specs.declared.alloc.AllocError.{AllocError}
use Rattle.std.specs.declared.alloc.Global.{Global}
use Rattle.kv_model.specs.declared.version.Rev.{Rev}
use Rattle.kv_model.specs.declared.version.Version.{Version}
use Rattle.kv_model.specs.Certificates.{Dump, Claim}
use Rattle.kv_model.specs.Certificates as model
use Rattle.witness_core.specs.declared.fault.NeedFault.{NeedFault}
use Rattle.witness_core.specs.declared.fault.NeedFault.TheVariants.{NotRising, DoubleKey, NoNeed, NeedUnmet, Extra}
use Rattle.witness_core.specs.declared.fault.NeedFault.TheVariants.{Memory}
use Rattle.witness_core.specs.declared.checking.Least.{Least}
use Rattle.witness_core.specs.Walks.{first_twin, walked}

abbrev pub number_of : NeedFault → ℕ
number_of (NotRising p) = 1
number_of (DoubleKey p) = 2
number_of (NoNeed p) = 3
number_of (NeedUnmet p) = 4
number_of Extra = 5
number_of Memory = 6

-- the program's fault is the model's; want of memory is none
abbrev pub IsFault : NeedFault → Option model.NeedFault → Type 0
IsFault (NotRising p) f = f ≡ Some (model.NeedFault.not_rising p)
IsFault (DoubleKey p) f = f ≡ Some (model.NeedFault.double_key p)
IsFault (NoNeed p) f = f ≡ Some (model.NeedFault.no_need p)
IsFault (NeedUnmet p) f = f ≡ Some (model.NeedFault.need_unmet p)
IsFault Extra f = f ≡ Some model.NeedFault.extra
IsFault Memory f = ⊥

-- a fault was found, or there is none
abbrev pub Finds : Option NeedFault → Option model.NeedFault → Type 0
Finds None f = f ≡ None
Finds (Some fault) f = IsFault fault f

-- the fault is the first one; want of memory comes only where the list rises
abbrev pub IsFirst : Dump → List Claim → NeedFault → Type 0
IsFirst d claims (NotRising p) = model.first_fault d claims ≡ Some (model.NeedFault.not_rising p)
IsFirst d claims (DoubleKey p) = model.first_fault d claims ≡ Some (model.NeedFault.double_key p)
IsFirst d claims (NoNeed p) = model.first_fault d claims ≡ Some (model.NeedFault.no_need p)
IsFirst d claims (NeedUnmet p) = model.first_fault d claims ≡ Some (model.NeedFault.need_unmet p)
IsFirst d claims Extra = model.first_fault d claims ≡ Some model.NeedFault.extra
IsFirst d claims Memory = model.first_fall d.versions ≡ None

-- ---- without memory

-- the first fault of a list that rises and its claims, by the main revision of each version's next one
abbrev pub fault_by : Dump → List (Option ℕ) → List Claim → Option model.NeedFault
fault_by d ns claims = option_or (option_map model.NeedFault.double_key (first_twin d.versions ns))
    (walked d d.versions ns claims)

-- the number of versions where there is no fault, and else the fault; want of memory is never said
abbrev pub Judges : Result Least NeedFault → Dump → Option model.NeedFault → Type 0
Judges (Ok least) d f = (least.count ≡ length d.versions) × (f ≡ None)
Judges (Err fault) d f = IsFault fault f

-- by the next versions, if memory was found to look for them: then what is said is exact, and else it is that
abbrev pub JudgesBy : Result (Vec (Option ℕ) Global) AllocError → Result Least NeedFault → Dump → List Claim → Type 0
JudgesBy (Ok ns) r d claims = Judges r d (fault_by d ns.items claims)
JudgesBy (Err e) r d claims = r ≡ Err Memory
