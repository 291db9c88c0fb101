-- The line that a server writes when it has ended.
use Rattle.std.proofs.Common.{◌≡◌, ℕ, List, Option, Result, Ok, Err, OnOk, IfErr, IfOk, MatchResult, map, true, sym, subst}
use Rattle.std.specs.Io.KnownBytes.{Appends}
use Rattle.kv_model.specs.declared.ids.Ids.{Ids}
use Rattle.request_core.specs.State.{CoreState}
use Rattle.engine_lock.specs.Locked.{Caller}
use Rattle.http_front.specs.Closed.{IsClosed}
use Rattle.commands.specs.Faults.{is_write}
use Rattle.commands.specs.Writes.{AppendsFront}
use Rattle.commands.specs.declared.fault.Fault.{Fault}
use Rattle.commands.specs.declared.fault.Fault.TheVariants as fault
use Rattle.command_line.specs.Histories.{IsOfHistory}
use Rattle.command_line.specs.Serving.{closing_line}

-- the revision that a server ended at
pub told_of_history : {T E F : Type 0} (ids : Ids) (old new : Option (List ℕ)) (r : Result T E) (ended : Result ℕ F)
    → OnOk r (MatchResult ended (λ revision. Appends old new (closing_line revision)) (λ f. ⊥))
    → IfOk ended (IsOfHistory ids) → OnOk r ((n : ℕ) × IsOfHistory ids n × Appends old new (closing_line n))
told_of_history ids old new (Err e) ended told of = tt
told_of_history ids old new (Ok x) (Err f) told of = absurd told
told_of_history ids old new (Ok x) (Ok revision) told of = (revision, of, told)

-- the same, of a server that ended at this revision, from some state of the writer on
pub closed_at : {W T E F : Type 0} (ids : Ids) (contents : W → Option (List ℕ)) (between new : W) (r : Result T E) (ended : Result ℕ F) (revision : ℕ)
    → ended ≡ Ok revision → IfOk ended (IsOfHistory ids) → OnOk r (Appends (contents between) (contents new) (closing_line revision))
    → OnOk r ((b : W) × ((n : ℕ) × IsOfHistory ids n × Appends (contents b) (contents new) (closing_line n)))
closed_at ids contents between new (Err e) ended revision is of told = tt
closed_at ids contents between new (Ok x) ended revision is of told = (between, (revision, subst (λ e. IfOk e (IsOfHistory ids)) is of, told))

-- a core that an engine was closed with has the revision of the world that the list of all its events leads to
of_closed : (ids : Ids) (core : CoreState) → IsClosed ids core → IsOfHistory ids core.store.revision
of_closed ids core h = record {
  log = h.1.log;
  history = h.1.history;
  holders = map (λ (c : Caller). c.holder) h.0;
  all = h.1.all;
  made = h.1.made;
  revision_is = h.1.stands.revision_is;
}

pub of_core : (ids : Ids) (made : Result CoreState _) (r : Result ℕ Fault) → IfOk made (λ core. IsClosed ids core)
    → MatchResult made (λ core. r ≡ Ok core.store.revision) (λ front. r ≡ Err (fault.Server front)) → IfOk r (IsOfHistory ids)
of_core ids (Ok core) r h e = subst (λ x. IfOk x (IsOfHistory ids)) (sym e) (of_closed ids core h)
of_core ids (Err front) r h e = subst (λ x. IfOk x (IsOfHistory ids)) (sym e) tt

-- where the line was cut, a front of it was written
pub cut_of_history : {T : Type 0} (ids : Ids) (old new : Option (List ℕ)) (r : Result T Fault) (ended : Result ℕ Fault)
    → IfErr r (λ f. is_write f ≡ true → MatchResult ended (λ revision. AppendsFront old new (closing_line revision)) (λ f. ⊥))
    → IfOk ended (IsOfHistory ids)
    → IfErr r (λ f. is_write f ≡ true → (n : ℕ) × IsOfHistory ids n × AppendsFront old new (closing_line n))
cut_of_history ids old new (Ok x) ended told of = tt
cut_of_history ids old new (Err f) (Err e) told of = λ w. absurd (told w)
cut_of_history ids old new (Err f) (Ok revision) told of = λ w. (revision, of, told w)
