use Rattle.std.proofs.Common.{◌≡◌, false, option_map, option_and_then, Option, None, Some, sym, ◌∙◌, ap, subst, arith, ◌+◌, ◌<◌}
use Rattle.std.proofs.Common.{length}
use Rattle.std.specs.Prelude.{is_some}
use Rattle.std.specs.List.{AllByRecursion, remove}
use Rattle.std.proofs.lemmas.List.Edits.{length-remove}
use Rattle.slab.specs.Slab.{slab_len}
use Rattle.watch_hub.specs.declared.entry.Entry.{Entry}
use Rattle.watch_hub.specs.declared.entries.Place.{Place}
use Rattle.watch_hub.specs.Hub.{has_number, tracked_at, without_tracked}
use Rattle.watch_hub.specs.Entries.{AreAll, AreGuarded, tracked_of, seen_in, listed, index_of}
use Rattle.watch_hub.proofs.Changing.{ahead_in, guarded-removed, reached-changed}
use Rattle.watch_hub.proofs.Finding.{key-found, key-missed}
use Rattle.watch_hub.proofs.Placing.{slab-change, number_of, found, some-found, key-number, where-there, within, removed, missed}
use Rattle.watch_hub.proofs.Placing.{missed-left}
use Rattle.watch_hub.proofs.entries.Entries.remove.Goals as goal

pub invariant_of-self : goal.invariant_of-self
invariant_of-self c =
    let n = c.args.number in
    let i = c.in-Some.index in
    let slab = c.self.inside.slab in
    let places = c.self.inside.places.items in
    let placed = c.self.invariant.placed in
    let place = c.remove-place.result in
    let change = slab-change slab c.try_remove.new.self place.key c.try_remove.ensures.updates.others in
    let index : index_of n places ≡ Some i
    = ap (index_of n) (sym c.deref.ensures.value) ∙ sym c.index_of.ensures.index ∙ c.in-Some.is in
    let key = key-found n places i place index ∙ ap (λ (p : Place). Some p.key) (sym c.remove-place.ensures.value) in
    let gone : seen_in c.try_remove.new.self place.key ≡ None
    = ap (λ (o : Option Entry). option_map tracked_of o) c.try_remove.ensures.updates.changed in
    subst (λ ps. AreAll c.try_remove.new.self ps c.remove.new.self c.self.inside.waiting) (sym c.remove-place.ensures.items) (record {
      placed = (removed change n i places placed index key).1;
      count =
          let bound : i < length places
          = subst (λ ps. i < length ps) c.deref.ensures.value (within c.index_of.result i _ c.in-Some.is c.index_of.ensures.bound) in
          let fewer : length (remove places i) + 1 ≡ length places = length-remove places i bound in
          let less : slab_len c.try_remove.new.self + 1 ≡ slab_len slab
          = where-there c.try_remove.result n (ap (λ (o : Option Entry). number_of (option_map tracked_of o)) c.try_remove.ensures.value
          ∙ key-number (seen_in slab) n places place.key placed.present key) c.try_remove.ensures.len in
          let all = c.self.invariant.count in
          omega arith;
      guarded = subst (λ gs. AreGuarded (seen_in c.try_remove.new.self) gs) (sym c.remove.ensures)
          (guarded-removed change c.self.inside.guards gone c.self.invariant.guarded);
      reached = λ w. reached-changed change (ap ahead_in gone) (c.self.invariant.reached w);
    })

pub returns-in-Some-clause-found : goal.returns-in-Some-clause-found
returns-in-Some-clause-found c =
    let n = c.args.number in
    let places = c.self.inside.places.items in
    let index : index_of n places ≡ Some c.in-Some.index
    = ap (index_of n) (sym c.deref.ensures.value) ∙ sym c.index_of.ensures.index ∙ c.in-Some.is in
    sym (ap (λ ts. is_some (tracked_at ts n)) (sym c.self.view_is)
    ∙ some-found (seen_in c.self.inside.slab) n places _ c.self.invariant.placed.present
    (key-found n places c.in-Some.index c.remove-place.result index))

pub returns-in-Some-clause-left : goal.returns-in-Some-clause-left
returns-in-Some-clause-left c =
    let n = c.args.number in
    let i = c.in-Some.index in
    let places = c.self.inside.places.items in
    let place = c.remove-place.result in
    let index : index_of n places ≡ Some i
    = ap (index_of n) (sym c.deref.ensures.value) ∙ sym c.index_of.ensures.index ∙ c.in-Some.is in
    let key = key-found n places i place index ∙ ap (λ (p : Place). Some p.key) (sym c.remove-place.ensures.value) in
    ap (λ ps. listed (seen_in c.try_remove.new.self) ps) c.remove-place.ensures.items
    ∙ (removed (slab-change c.self.inside.slab c.try_remove.new.self place.key c.try_remove.ensures.updates.others) n i places
    c.self.invariant.placed index key).0
    ∙ ap (λ ts. without_tracked n ts) c.self.view_is

pub returns-in-None-clause-found : goal.returns-in-None-clause-found
returns-in-None-clause-found c =
    let n = c.args.number in
    let slab = c.self.inside.slab in
    let places = c.self.inside.places.items in
    let index : index_of n places ≡ None
    = ap (index_of n) (sym c.deref.ensures.value) ∙ sym c.index_of.ensures.index ∙ c.in-None.is in
    sym (ap (λ ts. is_some (tracked_at ts n)) (sym c.self.view_is)
    ∙ ap is_some (found (seen_in slab) n places c.self.invariant.placed.present
    ∙ ap (option_and_then (seen_in slab)) (key-missed n places index)))

pub returns-in-None-clause-left : goal.returns-in-None-clause-left
returns-in-None-clause-left c =
    let n = c.args.number in
    let places = c.self.inside.places.items in
    let index : index_of n places ≡ None
    = ap (index_of n) (sym c.deref.ensures.value) ∙ sym c.index_of.ensures.index ∙ c.in-None.is in
    missed-left n c.args.self.now (subst (λ ts. AllByRecursion (λ t. has_number n t ≡ false) ts) c.self.view_is
    (missed (seen_in c.self.inside.slab) n places c.self.invariant.placed.present (key-missed n places index)))
