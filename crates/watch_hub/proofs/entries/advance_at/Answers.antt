use Rattle.std.proofs.Common.{◌≡◌, option_map, sym, ◌∙◌, ap, refl, Some, Option, subst}
use Rattle.std.specs.Prelude.{IsSome}
use Rattle.slab.specs.Slab.{get}
use Rattle.slab.proofs.SlabLemmas.{Updates-with_value}
use Rattle.watch_hub.specs.declared.entry.Entry.{Entry}
use Rattle.watch_hub.specs.Hub.{told_to}
use Rattle.watch_hub.specs.Entries.{tracked_of}
use Rattle.watch_hub.proofs.entries.advance_at.Goals as goal

pub returns-in-Some-clause-here : goal.returns-in-Some-clause-here
returns-in-Some-clause-here c =
    let is : get c.args.slab.now c.args.key ≡ Some c.in-Some.entry.now = sym c.in-Some.ensures.value in
    let there : IsSome (get c.args.slab.now c.args.key) = subst (λ (o : Option Entry). IsSome o) (sym is) refl in
    ap (λ (o : Option Entry). option_map tracked_of o) (Updates-with_value c.args.slab.now c.args.key c.advance.new.self there).changed
    ∙ ap Some c.advance.ensures
    ∙ ap (λ (o : Option Entry). option_map (told_to c.args.tables.now.versions c.args.tables.now.revision c.args.last) (option_map tracked_of o)) (sym is)
