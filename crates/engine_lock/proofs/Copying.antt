-- The core that a match finds is the one that clauses see.
use Rattle.std.proofs.Common.{◌≡◌, List, sym, ap, subst, ◌∙◌}
use Rattle.std.specs.Prelude.{Result, IfOk}
use Rattle.kv_model.specs.declared.ids.Ids.{Ids}
use Rattle.kv_model.specs.declared.refusal.Refusal.{Refusal}
use Rattle.kv_model.specs.Feed.{Published}
use Rattle.kv_model.specs.Follows.Outcome.{said}
use Rattle.kv_model.specs.Wire.{WireEvent, WireOutcome}
use Rattle.store_laws.specs.Snapshots.{store_of}
use Rattle.event_book.specs.Publishing.{published_by}
use Rattle.request_core.specs.State.{CoreState}
use Rattle.request_core.specs.Apart.{RestState, joined}
use Rattle.snapshot_feed.specs.States.{FeedState}
use Rattle.json_gateway.specs.declared.outcome.Trimmed.{Trimmed}
use Rattle.json_gateway.specs.Runs.{trimmed_view}
use Rattle.engine_lock.specs.declared.copies.Hold.{Hold}
use Rattle.engine_lock.specs.declared.copies.Hold.TheVariants.{Whole, Apart}
use Rattle.engine_lock.specs.Copied.{Copied, copied, core_held}
use Rattle.engine_lock.specs.Fits.{StepsIn}

pub found_whole : (h : Hold) (f : FeedState) (s : Copied) (core : CoreState) (ops : List Published) → copied h f ≡ s → h ≡ Whole core ops
    → s.core ≡ core
found_whole h f s core ops view is = sym (ap (λ (x : Copied). x.core) view) ∙ ap (λ x. core_held x f) is

pub found_apart : (h : Hold) (f : FeedState) (s : Copied) (rest : RestState) → copied h f ≡ s → h ≡ Apart rest
    → s.core ≡ joined (store_of (published_by f.published)) rest
found_apart h f s rest view is = sym (ap (λ (x : Copied). x.core) view) ∙ ap (λ x. core_held x f) is

pub steps_found : (e : WireEvent) (o : WireOutcome) (s found new : CoreState) → s ≡ found → ((ids : Ids) → StepsIn ids e o found new)
    → (ids : Ids) → StepsIn ids e o s new
steps_found e o s found new is steps ids = subst (λ x. StepsIn ids e o x new) (sym is) (steps ids)

pub checked_found : (r : Result Trimmed Refusal) (s found new : CoreState) → s ≡ found
    → IfOk r (λ t. (ids : Ids) → StepsIn ids WireEvent.trim (said (trimmed_view t)) found new)
    → IfOk r (λ t. (ids : Ids) → StepsIn ids WireEvent.trim (said (trimmed_view t)) s new)
checked_found r s found new is h = subst (λ x. IfOk r (λ t. (ids : Ids) → StepsIn ids WireEvent.trim (said (trimmed_view t)) x new)) (sym is) h
