use Rattle.std.proofs.Common.{◌≡◌, false, ap, ◌∙◌, subst, sym}
use Rattle.logbook.specs.Pages.{Book}
use Rattle.snapshot_feed.specs.declared.rule.Sight.{Sight}
use Rattle.snapshot_feed.specs.Shown.{IsOf}
use Rattle.snapshot_feed.specs.Seats.{known_to, is_in, MayRead}
use Rattle.snapshot_feed.proofs.Seating.{seated_knows, reads_knows, out_seated, in_seated, same_list}
use Rattle.snapshot_feed.proofs.reader.SnapReader.enter.Goals as goal

pub invariant_of-self : goal.invariant_of-self
invariant_of-self c =
    let b : Book = c.self.inside.known.book in
    let old : IsOf b (known_to c.self.inside.seat) = seated_knows c.self.inside.seat c.self.inside.known c.self.invariant in
    let now : IsOf b (known_to c.replace_with.new.dest) × (is_in c.replace_with.new.dest ≡ false) = c.if-not-replace_with.ensures.0 b old in
    out_seated c.replace_with.new.dest c.self.inside.known now.0 now.1

pub returns-then-not-replace_with-clause-err : goal.returns-then-not-replace_with-clause-err
returns-then-not-replace_with-clause-err c =
    let b : Book = c.self.inside.known.book in
    let old : IsOf b (known_to c.self.inside.seat) = seated_knows c.self.inside.seat c.self.inside.known c.self.invariant in
    let now : IsOf b (known_to c.replace_with.new.dest) × (is_in c.replace_with.new.dest ≡ false) = c.if-not-replace_with.ensures.0 b old in
    λ i. record { book = (c.self.view_is i).reads.book; known = (c.self.view_is i).reads.known; inside = now.1 i }

pub invariant_of-self-in_default : goal.invariant_of-self-in_default
invariant_of-self-in_default c =
    let b : Book = c.self.inside.known.book in
    let old : IsOf b (known_to c.self.inside.seat) = seated_knows c.self.inside.seat c.self.inside.known c.self.invariant in
    let now : MayRead b c.replace_with.new.dest = c.if-not-replace_with.ensures.0 b old in
    let known : IsOf b (known_to c.replace_with-in_default.new.dest) =
    subst (λ (w : Sight). IsOf b w.front) (sym c.replace_with-in_default.ensures.0) (reads_knows c.replace_with.new.dest c.self.inside.known now) in
    out_seated c.replace_with-in_default.new.dest c.self.inside.known known c.replace_with-in_default.ensures.1

pub invariant_of-self-2 : goal.invariant_of-self-2
invariant_of-self-2 c =
    let b : Book = c.self.inside.known.book in
    let old : IsOf b (known_to c.self.inside.seat) = seated_knows c.self.inside.seat c.self.inside.known c.self.invariant in
    let now : MayRead b c.replace_with.new.dest = c.if-not-replace_with.ensures.0 b old in
    in_seated c.replace_with.new.dest c.self.inside.known c.in-Some.front now c.in-Some.ensures.within

pub returns-clause-book : goal.returns-clause-book
returns-clause-book c =
    let b : Book = c.self.inside.known.book in
    let old : IsOf b (known_to c.self.inside.seat) = seated_knows c.self.inside.seat c.self.inside.known c.self.invariant in
    let now : MayRead b c.replace_with.new.dest = c.if-not-replace_with.ensures.0 b old in
    same_list c.replace_with.new.dest c.self.inside.known c.in-Some.front now c.in-Some.ensures.within
    ∙ ap (λ r. r.reads.book) c.self.view_is
