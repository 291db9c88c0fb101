use Rattle.std.proofs.Common.{◌≡◌, ◌≢◌, ℕ, ◌+◌, ◌<◌, ◌==◌, cond, List, ◌∷◌, [], ◌++◌, option_map, Option, None, Some, sym, ◌∙◌, ap, subst}
use Rattle.std.proofs.lemmas.List.{length_push}
use Rattle.std.specs.List.{AllByRecursion}
use Rattle.slab.specs.Slab.{Slab, get, slab_len}
use Rattle.watch_hub.specs.declared.entry.Entry.{Entry}
use Rattle.watch_hub.specs.declared.entries.Place.{Place}
use Rattle.watch_hub.specs.Guards.{range_at}
use Rattle.watch_hub.specs.Entries.{AreAll, tracked_of, seen_in, listed}
use Rattle.watch_hub.proofs.Placing.{slab-change, pushed-listed, pushed-placed}
use Rattle.watch_hub.proofs.Changing.{ahead_in, guarded-added, reached-changed, or-left, or-right, none-from}
use Rattle.watch_hub.proofs.entries.Entries.push.Goals as goal

pub invariant_of-self-in_err-insert : goal.invariant_of-self-in_err-insert
invariant_of-self-in_err-insert c =
    let slab = c.self.inside.slab in
    let waiting = c.self.inside.waiting in
    let h = c.self.invariant in
    let grown : Slab Entry = record slab { capacity = c.reserve-2.new.self.capacity } in
    let same : AreAll grown c.self.inside.places.items c.self.inside.guards waiting
    = record { placed = h.placed; count = h.count; guarded = h.guarded; reached = h.reached } in
    subst (λ s. AreAll s c.reserve.new.self.items c.insert.new.self waiting) (sym c.in_ok-reserve-2.ensures.rest_kept)
    (subst (λ gs. AreAll grown c.reserve.new.self.items gs waiting) (sym c.in_err-insert.ensures.err)
    (subst (λ ps. AreAll grown ps c.self.inside.guards waiting) (sym c.in_ok-reserve.ensures.items) same))

pub invariant_of-self-2 : goal.invariant_of-self-2
invariant_of-self-2 c =
    let slab = c.self.inside.slab in
    let places = c.self.inside.places.items in
    let key = c.insert_reserved-key.result in
    let kept = c.in_ok-reserve-2.ensures.rest_kept in
    let place : Place = record { number = c.args.entry.number; key = key } in
    let others : (other : ℕ) → other ≢ key → get c.insert_reserved-key.new.self other ≡ get slab other
    = λ other d. c.insert_reserved-key.ensures.updates.others other d ∙ ap (λ (s : Slab Entry). get s other) kept in
    let change = slab-change slab c.insert_reserved-key.new.self key others in
    let vacant : seen_in slab key ≡ None
    = ap (λ (s : Slab Entry). seen_in s key) (sym kept) ∙ ap (λ (o : Option Entry). option_map tracked_of o) c.insert_reserved-key.ensures.was_vacant in
    let made : seen_in c.insert_reserved-key.new.self key ≡ Some (tracked_of c.args.entry)
    = ap (λ (o : Option Entry). option_map tracked_of o) c.insert_reserved-key.ensures.updates.changed in
    let same : c.vacant_key.result ≡ key = c.vacant_key.ensures.value ∙ sym c.insert_reserved-key.ensures.key in
    let put : range_at key c.self.inside.guards ≡ None → (p : ℕ)
    → range_at p c.insert.new.self ≡ cond (key == p) (Some c.in_ok-range.range) (range_at p c.self.inside.guards)
    = subst (λ k. range_at k c.self.inside.guards ≡ None → (p : ℕ)
    → range_at p c.insert.new.self ≡ cond (k == p) (Some c.in_ok-range.range) (range_at p c.self.inside.guards)) same c.in_ok-insert.ensures.ok in
    let items : c.push_reserved.new.self.items ≡ places ++ place ∷ []
    = c.push_reserved.ensures.items ∙ ap (λ (ps : List Place). ps ++ place ∷ []) c.in_ok-reserve.ensures.items in
    subst (λ ps. AreAll c.insert_reserved-key.new.self ps c.insert.new.self c.either-waiting.result) (sym items) (record {
      placed = pushed-placed change (tracked_of c.args.entry) places vacant made c.self.invariant.placed
          (subst (λ ts. AllByRecursion (λ t. t.number < c.args.entry.number) ts) (sym c.self.view_is) c.requires);
      count = c.insert_reserved-key.ensures.len ∙ ap (λ (s : Slab Entry). slab_len s + 1) kept ∙ ap (λ n. n + 1) c.self.invariant.count
          ∙ sym (length_push places _);
      guarded = guarded-added change c.self.inside.guards c.insert.new.self (tracked_of c.args.entry) vacant made c.self.invariant.guarded
          (λ none p. put none p ∙ ap (λ r. cond (key == p) (Some r) (range_at p c.self.inside.guards)) c.in_ok-range.ensures);
      reached = λ w.
          let neither = sym c.either-waiting.ensures ∙ w in
          let ahead = none-from c.args.entry.ahead (sym c.is_some.ensures ∙ or-right c.self.inside.waiting _ neither) in
          reached-changed change (ap ahead_in made ∙ ahead) (c.self.invariant.reached (or-left c.self.inside.waiting _ neither));
    })

pub returns-clause-ok : goal.returns-clause-ok
returns-clause-ok c =
    let slab = c.self.inside.slab in
    let places = c.self.inside.places.items in
    let key = c.insert_reserved-key.result in
    let kept = c.in_ok-reserve-2.ensures.rest_kept in
    let place : Place = record { number = c.args.entry.number; key = key } in
    let others : (other : ℕ) → other ≢ key → get c.insert_reserved-key.new.self other ≡ get slab other
    = λ other d. c.insert_reserved-key.ensures.updates.others other d ∙ ap (λ (s : Slab Entry). get s other) kept in
    let items : c.push_reserved.new.self.items ≡ places ++ place ∷ []
    = c.push_reserved.ensures.items ∙ ap (λ (ps : List Place). ps ++ place ∷ []) c.in_ok-reserve.ensures.items in
    ap (λ ps. listed (seen_in c.insert_reserved-key.new.self) ps) items
    ∙ pushed-listed (slab-change slab c.insert_reserved-key.new.self key others) (tracked_of c.args.entry) places
    (ap (λ (s : Slab Entry). seen_in s key) (sym kept) ∙ ap (λ (o : Option Entry). option_map tracked_of o) c.insert_reserved-key.ensures.was_vacant)
    (ap (λ (o : Option Entry). option_map tracked_of o) c.insert_reserved-key.ensures.updates.changed) c.self.invariant.placed.present
    ∙ ap (λ ts. ts ++ tracked_of c.args.entry ∷ []) c.self.view_is
