use Rattle.std.proofs.Common.{Some, ap, sym, ◌∙◌}
use Rattle.serde_json.specs.Find.{as_array}
use Rattle.json.specs.Value.{value_view}
use Rattle.json.proofs.Trees.{view-Array}
use Rattle.gateway_read.specs.Values.{data_of, items_view}
use Rattle.gateway_read.proofs.Values.{items-data}
use Rattle.gateway_read.proofs.value.as_array.Goals as goal

pub returns-in-Array : goal.returns-in-Array
returns-in-Array c =
    ap (λ vs. Some (items_view vs)) c.as_slice.ensures.value ∙ ap Some (sym (items-data c.in-Array.items.items))
    ∙ sym (ap (λ v. as_array (data_of (value_view v))) c.in-Array.is ∙ ap (λ j. as_array (data_of j)) (view-Array c.in-Array.items))
