-- What the search for a clash comes to.
use Rattle.std.specs.Prelude.{Bool, true, false, Result, Ok, Err}
use Rattle.kv_model.specs.declared.refusal.Refusal.{Refusal}
use Rattle.kv_model.specs.declared.refusal.Refusal.TheVariants.{DuplicateKey, Memory}

-- want of memory is told only where the search wanted it
abbrev pub told_of_search : {E : Type 0} → Result Bool E → Result (Unit {0}) Refusal
told_of_search (Ok true) = Err DuplicateKey
told_of_search (Ok false) = Ok tt
told_of_search (Err e) = Err Memory
