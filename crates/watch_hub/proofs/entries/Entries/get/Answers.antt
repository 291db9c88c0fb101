use Rattle.std.proofs.Common.{◌≡◌, option_map, option_and_then, Option, None, Some, sym, ◌∙◌, ap, subst}
use Rattle.watch_hub.specs.declared.entry.Entry.{Entry}
use Rattle.watch_hub.specs.Hub.{NumbersAscend, tracked_at}
use Rattle.watch_hub.specs.Entries.{tracked_of, seen_in, key_of}
use Rattle.watch_hub.proofs.Placing.{found, listed-ascends}
use Rattle.watch_hub.proofs.entries.Entries.get.Goals as goal

pub returns-in-Some-clause-found : goal.returns-in-Some-clause-found
returns-in-Some-clause-found c =
    let key : key_of c.args.number c.self.inside.places.items ≡ Some c.in-Some.key
    = ap (key_of c.args.number) (sym c.deref.ensures.value) ∙ sym c.key_of.ensures ∙ c.in-Some.is in
    ap (λ (o : Option Entry). option_map tracked_of o) c.get.ensures
    ∙ sym (found (seen_in c.self.inside.slab) c.args.number c.self.inside.places.items c.self.invariant.placed.present
    ∙ ap (option_and_then (seen_in c.self.inside.slab)) key)
    ∙ ap (λ ts. tracked_at ts c.args.number) c.self.view_is

pub returns-in-None-clause-found : goal.returns-in-None-clause-found
returns-in-None-clause-found c =
    let key : key_of c.args.number c.self.inside.places.items ≡ None
    = ap (key_of c.args.number) (sym c.deref.ensures.value) ∙ sym c.key_of.ensures ∙ c.in-None.is in
    sym (found (seen_in c.self.inside.slab) c.args.number c.self.inside.places.items c.self.invariant.placed.present
    ∙ ap (option_and_then (seen_in c.self.inside.slab)) key)
    ∙ ap (λ ts. tracked_at ts c.args.number) c.self.view_is

pub returns-in-Some-clause-ascending : goal.returns-in-Some-clause-ascending
returns-in-Some-clause-ascending c = subst NumbersAscend c.self.view_is (listed-ascends (seen_in c.self.inside.slab) c.self.inside.places.items c.self.invariant.placed)

pub returns-in-None-clause-ascending : goal.returns-in-None-clause-ascending
returns-in-None-clause-ascending c = subst NumbersAscend c.self.view_is (listed-ascends (seen_in c.self.inside.slab) c.self.inside.places.items c.self.invariant.placed)
