-- The key does not hold what was put under the lease.
use Rattle.std.proofs.Common.{◌≡◌, ℕ, List, Option, true, not, is_none, sym, ◌∙◌, ap, rules, FitsSigned}
use Rattle.std.proofs.lemmas.Int.{to_z-of_z}
use Rattle.std.specs.Int.{w64}
use Rattle.kv_model.specs.History.{KeyValue, value_at}
use Rattle.range_view.specs.Replies.{kv_view}
use Rattle.lease_keys.specs.Holding.{under}
use Rattle.lease_keys.proofs.Holding.{mapped-none, unused-removed}
use Rattle.lease_keys.proofs.index.LeaseKeys.drop_unused.Goals as goal

pub returns-then-is_none : goal.returns-then-is_none
returns-then-is_none c =
    let held : List ℕ → Option KeyValue = value_at c.args.view.now.versions c.args.view.now.place in
    let fits : FitsSigned w64 c.in-Some.lease = search rules in
    let shown = rw (to_z-of_z w64 c.in-Some.lease fits) at c.held.ensures in
    let none : is_none (under c.in-Some.lease (held c.args.key.now)) ≡ true
    = sym (ap is_none shown) ∙ mapped-none kv_view c.held.result ∙ ap not c.is_none.ensures ∙ ap (λ b. not (not b)) c.if-is_none.true in
    unused-removed c.args.key.now held c.args.self.now c.args.named c.in-Some.lease c.remove.new.self
    c.in-Some.is none (rw (to_z-of_z w64 c.in-Some.lease fits) at c.remove.ensures)
