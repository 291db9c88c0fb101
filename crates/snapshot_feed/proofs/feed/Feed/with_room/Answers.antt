use Rattle.std.proofs.Common.{◌≡◌, false, fold, ap, sym, ◌∙◌, subst}
use Rattle.left_right.specs.Sides.{view}
use Rattle.store_laws.specs.Snapshots.{absorb}
use Rattle.snapshot_feed.specs.declared.entry.ReadTables.{ReadTables}
use Rattle.snapshot_feed.specs.declared.rule.Sight.{Sight}
use Rattle.snapshot_feed.specs.Shown.{IsOf, ShowsWell}
use Rattle.snapshot_feed.proofs.Rules.{first_kept, first_shows}
use Rattle.snapshot_feed.proofs.feed.Feed.with_room.Goals as goal

pub new-requires-clause-rule : goal.new-requires-clause-rule
new-requires-clause-rule g c = first_kept c.new-first.result c.new-first.ensures.tables
    (ap (λ f. f.list) (c.new-first.ensures.front ∙ c.again.ensures) ∙ c.requires)

pub show-writer-requires-clause-shows : goal.show-writer-requires-clause-shows
show-writer-requires-clause-shows g c = first_shows c.new-next.result c.new-next.ensures.tables
    (ap (λ f. f.list) (c.new-next.ensures.front ∙ c.again-3.ensures) ∙ c.requires)

pub invariant_of-result : goal.invariant_of-result
invariant_of-result g c =
    let y = c.show-writer.result.0 in
    let shown : y.desk.shown.value ≡ c.new-next.result = c.show-writer.ensures.shown in
    let spare : y.desk.spare.value ≡ c.new-first.result = c.show-writer.ensures.spare ∙ c.in_ok-writer.ensures.0 in
    subst (λ w. ShowsWell w.desk.shown.value.tables w.desk.shown.value.front × IsOf w.desk.shown.value.front.book (view {V = Sight} w.desk.place).front
    × (false ≡ false → fold absorb w.desk.spare.value.tables c.new-2.result ≡ w.desk.shown.value.tables)) (sym c.new_unchecked.ensures) (
      subst (λ (t : ReadTables). ShowsWell t.tables t.front) (sym shown) (first_shows c.new-next.result c.new-next.ensures.tables
          (ap (λ f. f.list) (c.new-next.ensures.front ∙ c.again-3.ensures) ∙ c.requires)),
      subst (λ (t : ReadTables). IsOf t.front.book (view {V = Sight} y.desk.place).front) (sym shown) c.show-writer.ensures.known,
      λ here. ap (fold absorb y.desk.spare.value.tables) c.new-2.ensures
          ∙ (ap (λ (t : ReadTables). t.tables) spare ∙ (c.new-first.ensures.tables ∙ (sym c.new-next.ensures.tables ∙ ap (λ (t : ReadTables). t.tables) (sym shown)))),
    )
