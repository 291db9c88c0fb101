-- What a Compact does, in each world that the core stands for.
use Rattle.std.proofs.Common.{◌≡◌, ◌≤◌, ℕ, ℤ, Bool, false, None, Ok}
use Rattle.std.proofs.Common.{refl, sym, ◌∙◌, ap, subst, arith, inr}
use Rattle.std.specs.Prelude.{nat_lt}
use Rattle.kv_model.specs.declared.refusal.Refusal.{Refusal}
use Rattle.kv_model.specs.Calls.{Call}
use Rattle.kv_model.specs.Told.{Reply}
use Rattle.kv_model.specs.Step.{answer_of, at_least_zero, compact_refusal, refused_or}
use Rattle.kv_model.specs.World.{World}
use Rattle.store_laws.specs.Stands.{StandsFor}
use Rattle.store_laws.proofs.BetweenSteps.{starts_over}
use Rattle.store_laws.proofs.CompactLaws.{compact_stands, compact_told, compact_within}
use Rattle.range_view.specs.Stored.{Stored, compacted_at}
use Rattle.request_core.specs.declared.answer.Todo.TheVariants as todo
use Rattle.request_core.specs.Answers.{IsFault, is_memory}
use Rattle.request_core.specs.Commands.{CarriesOut, Makes, RefusesTo, first_refusal}
use Rattle.request_core.specs.State.{CoreState, IsSound, after_compact}
use Rattle.request_core.proofs.Worlds.{changed-beside, fault_refusal, is_refused, made_refused, none-raised, refusal_told}

-- what is compacted up to a revision that has been is sound: nothing is behind the oldest place
pub compacted-sound : (t : Stored) (c : ℕ) → IsSound t → c ≤ t.revision → IsSound (compacted_at c t)
compacted-sound t c h l = record {
  fits = h.fits;
  places = h.places;
  counted = h.counted;
  floor = l;
  trimmed = (starts_over t.versions c).up_to;
}

compact-makes : (s : CoreState) (r : ℤ) (physical : Bool) → compact_refusal s.store.compacted s.store.revision r ≡ None
    → (w : World) → StandsFor s.store w → Makes w (Call.compact r physical) Reply.compact (after_compact s r).store
compact-makes s r physical clear w h =
    let after : World = record w { compacted = at_least_zero r } in
    let within = compact_within s.store.compacted s.store.revision r clear in
    record {
      after = after;
      made = compact_told s.store w h r physical ∙ ap (λ o. refused_or o (Ok (Reply.compact, after))) clear;
      stands = compact_stands s.store w h (at_least_zero r) (omega (arith, within.0)) within.1;
    }

pub compact_done : (s new : CoreState) (r : ℤ) (physical : Bool) → compact_refusal s.store.compacted s.store.revision r ≡ None
    → new ≡ after_compact s r → CarriesOut s new (Call.compact r physical) todo.Compact
compact_done s new r physical clear made =
    subst (λ (n : CoreState). CarriesOut s n (Call.compact r physical) todo.Compact) (sym made) (record {
      makes = compact-makes s r physical clear;
      allowed = tt;
      beside = λ w h. refl;
      moves = record {
        keeps = inr (record {
          versions = refl;
          up = (compact_within s.store.compacted s.store.revision r clear).0;
          place = refl;
        });
        unchanged = changed-beside (nat_lt s.store.revision s.store.revision);
        stamp = refl;
        watches = none-raised s.store.made;
      };
    })

pub compact_refuses : (never : Type 0) (s new : CoreState) (r : ℤ) (physical : Bool) (e : Refusal)
    → IsFault e (compact_refusal s.store.compacted s.store.revision r) → (never → is_memory e ≡ false) → new ≡ s
    → RefusesTo never s new (Call.compact r physical) e
compact_refuses never s new r physical e one free same = record {
  first = λ w h f two. refusal_told w (Call.compact r physical) e f (compact_refusal s.store.compacted s.store.revision r)
      (ap (λ m. first_refusal (answer_of m)) (compact_told s.store w h r physical)
      ∙ made_refused (compact_refusal s.store.compacted s.store.revision r) _) one two;
  refused = λ w h. is_refused w (Call.compact r physical) e (compact_refusal s.store.compacted s.store.revision r)
      (fault_refusal e (compact_refusal s.store.compacted s.store.revision r) one)
      (λ f two. compact_told s.store w h r physical ∙ ap (λ o. refused_or o (Ok (
        Reply.compact,
        record w { compacted = at_least_zero r },
      ))) two);
  free = λ no. free;
  kept = same;
}
