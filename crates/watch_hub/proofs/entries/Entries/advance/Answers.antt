use Rattle.std.proofs.Common.{◌≡◌, false, None, Some, sym, ◌∙◌, ap, subst}
use Rattle.std.specs.List.{AllByRecursion}
use Rattle.watch_hub.specs.Hub.{has_number, told_to, advanced_to}
use Rattle.watch_hub.specs.Entries.{seen_in, key_of}
use Rattle.watch_hub.proofs.Placing.{slab-change, changed-listed, missed, missed-changed}
use Rattle.watch_hub.proofs.entries.Entries.advance.Goals as goal

pub returns-in-Some : goal.returns-in-Some
returns-in-Some c =
    let n = c.args.number in
    let places = c.self.inside.places.items in
    let key : key_of n places ≡ Some c.in-Some.key = ap (key_of n) (sym c.deref.ensures.value) ∙ sym c.key_of.ensures ∙ c.in-Some.is in
    let change = slab-change c.self.inside.slab c.advance_at.new.slab c.in-Some.key c.advance_at.ensures.others in
    changed-listed change
    (told_to c.args.tables.now.versions c.args.tables.now.revision c.args.last) n places c.self.invariant.placed key c.advance_at.ensures.here
    ∙ ap (λ ts. advanced_to c.args.tables.now.versions c.args.tables.now.revision n c.args.last ts) c.self.view_is

pub returns-in_default : goal.returns-in_default
returns-in_default c =
    let n = c.args.number in
    let places = c.self.inside.places.items in
    let key : key_of n places ≡ None = ap (key_of n) (sym c.deref.ensures.value) ∙ sym c.key_of.ensures ∙ c.in_default.is in
    missed-changed (told_to c.args.tables.now.versions c.args.tables.now.revision c.args.last) n c.args.self.now
    (subst (λ ts. AllByRecursion (λ t. has_number n t ≡ false) ts) c.self.view_is
    (missed (seen_in c.self.inside.slab) n places c.self.invariant.placed.present key))
