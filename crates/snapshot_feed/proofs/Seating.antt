-- A seat and what is known.
use Rattle.std.proofs.Common.{◌≡◌, Bool, true, false, Some, refl, sym, ap, ◌∙◌, subst}
use Rattle.std.specs.Prelude.{MatchBool}
use Rattle.event_book.specs.Rules.{Beginning}
use Rattle.snapshot_feed.specs.declared.seat.Seat.{Seat}
use Rattle.snapshot_feed.specs.declared.seat.Seat.TheVariants.{Out, In}
use Rattle.snapshot_feed.specs.Shown.{IsOf, ShowsWell}
use Rattle.snapshot_feed.specs.Seats.{is_in, known_to, IsSeated, MayRead, IsWithin}

pub seated_knows : (s : Seat) (f : Beginning) → IsSeated s f → IsOf f.book (known_to s)
seated_knows (Out r) f h = h
seated_knows (In r) f h = subst (IsOf f.book) (sym h.0) refl

pub reads_knows : (s : Seat) (f : Beginning) → MayRead f.book s → IsOf f.book (known_to s)
reads_knows (Out r) f h = absurd h
reads_knows (In r) f h = subst (IsOf f.book) (sym h.0) h.1

pub out_seated : (s : Seat) (f : Beginning) → IsOf f.book (known_to s) → is_in s ≡ false → IsSeated s f
out_seated (Out r) f h out = h
out_seated (In r) f h out = absurd (cc out)

-- within the tables of a front, which is known from now on
pub in_seated : (s : Seat) (f g : Beginning) → MayRead f.book s → IsWithin g s → IsSeated s g
in_seated (Out r) f g h w = absurd h
in_seated (In r) f g h w = (
  h.0 ∙ ap Some w,
  w,
  subst (λ k. ShowsWell r.part.value.tables k) w h.2,
)

-- the front is of the list that was known
pub same_list : (s : Seat) (f g : Beginning) → MayRead f.book s → IsWithin g s → g.book ≡ f.book
same_list (Out r) f g h w = absurd h
same_list (In r) f g h w = ap (λ k. k.book) (sym w) ∙ h.1

-- ---- a test that came out

pub denied : (A B : Type 0) (b : Bool) → b ≡ false → MatchBool b A B → B
denied A B true is h = absurd (cc is)
denied A B false is h = h
