use Rattle.std.proofs.Common.{◌≡◌, ◌+◌, ◌-◌, sym, ◌∙◌, subst, arith}
use Rattle.watch_hub.specs.Guards.{IsBack}
use Rattle.watch_hub.proofs.Guarding.{back-further}
use Rattle.watch_hub.proofs.guards.back_of.Goals as goal

pub loop-back-preserved : goal.loop-back-preserved
loop-back-preserved c =
    let gs = c.args.guards.now in
    let i = c.args.index in
    let m = c.loop-back.back - 1 in
    let above : c.loop-back.back ≡ m + 1 = omega (arith, c.loop-back-test.true) in
    let back : IsBack gs i (m + 1) = subst (λ b. IsBack gs i b) above c.loop-back.invariant in
    back-further gs i m _ c.requires.index back (c.requires.backs m 0 (omega (arith, c.loop-back.invariant.0, above))) _ _
    (sym c.ends_by.ensures ∙ c.if-not-ends_by.false)
