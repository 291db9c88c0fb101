-- What is live of one key is what it holds.
use Rattle.std.proofs.Common.{◌≡◌, ◌∙◌, ap, sym, arith, [], None, Some}
use Rattle.std.specs.Prelude.{option_map, option_to_list, Option}
use Rattle.kv_model.specs.History.{KeyValue}
use Rattle.store_laws.proofs.KeyLaws.{live-one}
use Rattle.range_view.specs.Replies.{kv_view}
use Rattle.range_view.proofs.view.View.walk_one.Goals as goal
use Rattle.range_view.proofs.view.View.walk_one.Goals.{in-Some+in_ok-add-in-Some, in-None}

pub add-requires-clause-counted : goal.add-requires-clause-counted
add-requires-clause-counted c = let count = (c.new-found.ensures c.args.query.now).count in omega arith

pub add-requires-clause-passed : goal.add-requires-clause-passed
add-requires-clause-passed c = let hits = (c.new-found.ensures c.args.query.now).hits in let count = (c.new-found.ensures c.args.query.now).count in omega arith

pub returns : goal.returns
returns c =
    let q = c.args.query.now in
    let vs = c.args.self.now.versions in
    let seen = λ (o : Option KeyValue) (e : option_map kv_view c.read.result ≡ o). live-one vs c.args.place q.range.key ∙ ap option_to_list (sym c.read.ensures ∙ e) in
    elim c.match-read.branch [
      | in-Some+in_ok-add-in-Some w ↦ rw (w.found-is, seen (Some (kv_view w.in-Some.kv)) (ap (option_map kv_view) w.in-Some.is)) (w.in_ok-add-in-Some.ensures [] (c.new-found.ensures q))
      | in-None w ↦ rw (w.found-is, seen None (ap (option_map kv_view) w.in-None.is)) (c.new-found.ensures q)
    ]
