use Rattle.std.proofs.Common.{ap, sym, subst, ◌∙◌, ◌≡◌, length, arith}
use Rattle.event_book.specs.Callers.{made_by_all}
use Rattle.event_book.specs.Lists.{AreMarked}
use Rattle.event_book.proofs.Counting.{all_marked}
use Rattle.event_book.proofs.returned.Returned.finish.Goals as goal

pub returns-clause-all : goal.returns-clause-all
returns-clause-all g c =
    let list : c.self.inside.came ≡ c.args.self.list = ap (λ b. b.list) c.self.view_is in
    all_marked c.self.inside.marks c.args.self.list c.args.listing (subst (AreMarked c.self.inside.marks) list c.self.invariant.4)
    (c.known_by.ensures c.sure.ensures) c.requires.owns

pub returns-clause-made : goal.returns-clause-made
returns-clause-made g c =
    let list : c.self.inside.came ≡ c.args.self.list = ap (λ b. b.list) c.self.view_is in
    let holders : c.self.inside.holders ≡ c.args.self.holders = ap (λ b. b.holders) c.self.view_is in
    let whole : c.self.inside.share.parts ≡ g.L.Ledger.parts =
    omega (arith, c.self.invariant.0, c.self.invariant.1, c.self.invariant.2, c.requires.all, holders, ap length list) in
    sym c.into_total-total.ensures ∙ (sym (c.audit.ensures.whole whole) ∙ (c.self.invariant.3 ∙ ap made_by_all list))
