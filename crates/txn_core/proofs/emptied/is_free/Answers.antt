-- Where the range has none of the keys that are put, nothing of it is put.
use Rattle.std.proofs.Common.{sym, ◌∙◌, ap}
use Rattle.kv_model.specs.Txns.{Touch}
use Rattle.txn_core.specs.Touching.{count_touched}
use Rattle.txn_core.specs.Views.{keys_view}
use Rattle.txn_core.proofs.Staying.{puts-none, counts-at, none-counted}
use Rattle.txn_core.proofs.emptied.is_free.Goals as goal

pub returns-in-Some : goal.returns-in-Some
returns-in-Some c = λ vs main sub h yes.
    let r = c.args.range.now in
    puts-none vs main r (sym (counts-at vs main sub c.args.emptied.now c.in-Some.puts h c.in-Some.is (Touch.each r))
    ∙ ap (λ ks. count_touched (Touch.each r) (keys_view ks)) (sym c.deref.ensures.value) ∙ sym c.count_within.ensures
    ∙ none-counted c.count_within.result yes)
