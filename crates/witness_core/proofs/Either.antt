-- Needs that are no previous values pass by any test of these.
use Rattle.std.proofs.Common.{◌≡◌, ◌<◌, ℕ, ◌^◌, List, [], ◌∷◌, Bool, false, None}
use Rattle.std.specs.List.{AllByRecursion}
use Rattle.kv_model.specs.Watches.{before_is_kept}
use Rattle.kv_model.specs.Certificates.{Dump, Claim, Need, first_fault}
use Rattle.store_laws.specs.TrimmingLaws.{Tells}
use Rattle.store_laws.proofs.PassingLaws.{passing-least}
use Rattle.witness_core.specs.Older.{AreNeedsByEither, HasNoPrevious, before_was_kept, is_previous}

tells : (has_before : ℕ → ℕ → Bool) (c : ℕ) (n : Need) → is_previous n ≡ false → Tells has_before c n
tells has_before c (Need.range r) e = tt
tells has_before c (Need.watch r) e = tt
tells has_before c (Need.prev r) e = cc

all-tell : (has_before : ℕ → ℕ → Bool) (c : ℕ) (claims : List Claim) → HasNoPrevious claims
    → AllByRecursion (λ claim. Tells has_before c claim.need) claims
all-tell has_before c [] t = tt
all-tell has_before c (claim ∷ claims) t = (tells has_before c claim.need t.0, all-tell has_before c claims t.1)

pub by-either : (d : Dump) (claims : List Claim) → AllByRecursion (λ v. v.rev.sub < 2 ^ 64) d.versions → first_fault d claims ≡ None
    → HasNoPrevious claims → AreNeedsByEither d claims
by-either d claims places e old = record {
  before = (passing-least before_was_kept d claims places e (all-tell before_was_kept d.floor claims old)).needs;
  now = (passing-least before_is_kept d claims places e (all-tell before_is_kept d.floor claims old)).needs;
}
