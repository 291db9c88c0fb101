use Rattle.std.proofs.Common.{◌≡◌, [], map, IfOk, unwrap_or, ◌∙◌, ap, subst}
use Rattle.std.proofs.lemmas.Int.{to_z-of_z}
use Rattle.std.specs.Int.{w64}
use Rattle.store_laws.specs.Laws.{IsStrictlyAscending}
use Rattle.lease_keys.specs.Pairs.{keys_at}
use Rattle.lease_keys.proofs.index.LeaseKeys.keys_of.Goals as goal

pub returns-in-Some-clause-keys : goal.returns-in-Some-clause-keys
returns-in-Some-clause-keys c =
    let here = ap (λ o. unwrap_or o []) (rw (to_z-of_z w64 c.args.lease c.ranges.lease) at c.in-Some.ensures.value)
    ∙ ap (keys_at c.args.lease) c.self.view_is in
    subst (λ js. IfOk c.keys.result (λ ks. map (λ k. k.now) ks.items ≡ js)) here c.keys.ensures.keys

pub returns-in-Some-clause-ascending : goal.returns-in-Some-clause-ascending
returns-in-Some-clause-ascending c =
    let here = ap (λ o. unwrap_or o []) (rw (to_z-of_z w64 c.args.lease c.ranges.lease) at c.in-Some.ensures.value)
    ∙ ap (keys_at c.args.lease) c.self.view_is in
    subst IsStrictlyAscending here c.keys.ensures.ascending

pub returns-in-None-clause-keys : goal.returns-in-None-clause-keys
returns-in-None-clause-keys c =
    let here = ap (λ o. unwrap_or o []) (rw (to_z-of_z w64 c.args.lease c.ranges.lease) at c.in-None.ensures.value)
    ∙ ap (keys_at c.args.lease) c.self.view_is in
    ap (map (λ k. k.now)) c.new.ensures.items ∙ here

pub returns-in-None-clause-ascending : goal.returns-in-None-clause-ascending
returns-in-None-clause-ascending c =
    let here = ap (λ o. unwrap_or o []) (rw (to_z-of_z w64 c.args.lease c.ranges.lease) at c.in-None.ensures.value)
    ∙ ap (keys_at c.args.lease) c.self.view_is in
    subst IsStrictlyAscending here tt
