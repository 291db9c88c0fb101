-- What is live of one key is what it holds.
use Rattle.std.proofs.Common.{◌≡◌, ◌∙◌, ap, sym, map, List, [], ◌∷◌, ◌++◌, None, Some}
use Rattle.std.specs.Prelude.{option_map, option_to_list, Option}
use Rattle.kv_model.specs.History.{KeyValue}
use Rattle.store_laws.proofs.KeyLaws.{live-one}
use Rattle.range_view.specs.declared.reply.KvRef.{KvRef}
use Rattle.range_view.specs.Replies.{kv_view}
use Rattle.range_view.proofs.view.View.live_one.Goals as goal
use Rattle.range_view.proofs.view.View.live_one.Goals.{in-Some+in_ok-push-in-Some, in-None}

pub returns : goal.returns
returns c =
    let vs = c.args.self.now.versions in
    let seen = λ (o : Option KeyValue) (e : option_map kv_view c.get.result ≡ o). live-one vs c.args.self.now.place c.args.key.now ∙ ap option_to_list (sym c.get.ensures ∙ e) in
    elim c.match-get.branch [
      | in-Some+in_ok-push-in-Some w ↦ rw (w.kvs-is, seen (Some (kv_view w.in-Some.kv)) (ap (option_map kv_view) w.in-Some.is)) (ap (map kv_view) (w.in_ok-push-in-Some.ensures.items ∙ ap (λ (xs : List KvRef). xs ++ w.in-Some.kv ∷ []) c.new-kvs.ensures.items))
      | in-None w ↦ rw (w.kvs-is, seen None (ap (option_map kv_view) w.in-None.is)) (ap (map kv_view) c.new-kvs.ensures.items)
    ]
