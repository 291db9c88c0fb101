use Rattle.std.proofs.Common.{◌≡◌, ◌++◌, take}
use Rattle.std.specs.List.{flat_map}
use Rattle.gateway_text.specs.Tokens.{data_tokens}
use Rattle.gateway_text.proofs.json_text.JsonText.items.Given as goal

abbrev pub invariant-loop-item : goal.invariant-loop-item
invariant-loop-item g l = l.self ≡ l.initial.self ++ flat_map (λ x. data_tokens (g.T.WriteJson.value x)) (take l.item-index l.items)
