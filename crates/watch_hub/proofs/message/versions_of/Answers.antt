-- Those that were found, up to the last revision of the message.
use Rattle.std.proofs.Common.{◌≡◌, ◌∙◌, ◌∷◌, ◌++◌, [], List, map, filter, sym, ap, subst, rules, Bor}
use Rattle.std.specs.Prelude.{nat_le}
use Rattle.std.proofs.lemmas.Fn.{filter_same}
use Rattle.kv_model.specs.declared.version.Version.{Version}
use Rattle.kv_model.specs.Watches.{last_revision}
use Rattle.version_table.specs.Rising.{IsRising}
use Rattle.watch_hub.specs.Messages.{first_tally, tallied, with_room}
use Rattle.watch_hub.proofs.Tallies.{message-kept, filter-lent}
use Rattle.watch_hub.proofs.message.versions_of.Goals as goal
use Rattle.watch_hub.proofs.message.versions_of.Goals.{in-Some+in_ok-push+in_ok-last, in_default}

pub returns : goal.returns
returns c = elim c.match-next.branch [
  | in-Some+in_ok-push+in_ok-last w ↦
      let rising : IsRising (w.in-Some.first.now ∷ c.next.new.self) = subst IsRising w.in-Some.ensures c.requires in
      let last : w.in_ok-last.last ≡ tallied (first_tally w.in-Some.first.now.rev.main) c.next.new.self = w.in_ok-last.ensures.last in
      let see : Bor Version → Version = λ v. v.now in
      let kept = filter_same _ (λ (v : Bor Version). nat_le v.now.rev.main w.in_ok-last.last) _ (λ x b f' k. search rules) _ _ w.retain.ensures.filtered in
      let listed : map see w.collect_behind.new.found.items ≡ w.in-Some.first.now ∷ with_room (first_tally w.in-Some.first.now.rev.main) c.next.new.self =
      w.in_ok-last.ensures.found ∙ ap (λ (xs : List (Bor Version)). map see xs ++ with_room (first_tally w.in-Some.first.now.rev.main) c.next.new.self) w.in_ok-push.ensures.items
      ∙ ap (λ (xs : List (Bor Version)). map see (xs ++ w.in-Some.first ∷ []) ++ with_room (first_tally w.in-Some.first.now.rev.main) c.next.new.self) c.new-found.ensures.items in
      rw w.found-is (ap (map see) kept
      ∙ filter-lent see (λ v. nat_le v.rev.main w.in_ok-last.last) w.collect_behind.new.found.items
      ∙ ap (filter (λ v. nat_le v.rev.main w.in_ok-last.last)) listed
      ∙ ap (λ n. filter (λ v. nat_le v.rev.main n) (w.in-Some.first.now ∷ with_room (first_tally w.in-Some.first.now.rev.main) c.next.new.self)) last
      ∙ message-kept w.in-Some.first.now c.next.new.self rising
      ∙ ap (λ us. filter (λ v. nat_le v.rev.main (last_revision us)) us) (sym w.in-Some.ensures))
  | in_default w ↦
      rw w.found-is (ap (map (λ (v : Bor Version). v.now)) c.new-found.ensures.items
      ∙ ap (λ us. filter (λ v. nat_le v.rev.main (last_revision us)) us) (sym w.in_default.ensures.0))
]
