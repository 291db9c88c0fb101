-- No key that is the same is left.
use Rattle.std.proofs.Common.{◌≡◌, sym, ◌∙◌, ap, rules}
use Rattle.std.specs.List.{list_any}
use Rattle.std.specs.BTreeMap.{is_at}
use Rattle.kv_model.specs.Keys.{key_cmp}
use Rattle.lease_keys.specs.Pairs.{without_key}
use Rattle.lease_keys.proofs.Sets.{removed}
use Rattle.lease_keys.proofs.set.KeySet.remove.Goals as goal

pub returns-in-Many-clause-keys : goal.returns-in-Many-clause-keys
returns-in-Many-clause-keys c =
    let none = ap (list_any (is_at (key_cmp c.args.key.now))) (sym c.remove.ensures.keys) ∙ c.remove.ensures.updates.1 in
    let here : c.in-Many.keys.keys ≡ c.args.self.now = search rules in
    c.remove.ensures.keys ∙ removed c.args.key.now c.in-Many.keys.keys none ∙ ap (without_key c.args.key.now) here
