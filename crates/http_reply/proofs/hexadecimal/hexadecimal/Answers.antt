use Rattle.std.proofs.Common.{rules, arith, ◌≡◌, ◌≤◌, ◌<◌, ◌^◌, ℕ, suc, ◌+◌, ◌-◌, drop, length, take, subst, sym, ap, ◌∙◌, refl}
use Rattle.std.proofs.lemmas.List.{drop_all, drop-set}
use Rattle.http_reply.proofs.Digits.{all_before, digit_before, digits_stand, digits_before}
use Rattle.http_reply.proofs.hexadecimal.hexadecimal.Goals as goal

pub loop-rest-init : goal.loop-rest-init
loop-rest-init c =
    (omega arith, c.told-buffer, c.ranges.number.fits, all_before c.args.number ∙ ap (digits_before 64 c.args.number) (sym (drop_all 16 c.args.buffer.now (omega (arith, c.told-buffer)))))

pub loop-rest-preserved : goal.loop-rest-preserved
loop-rest-preserved c =
    let (most, long, fits, before) = c.loop-rest.invariant in
    digit_before c.loop-rest.at c.args.number c.loop-rest.rest c.loop-rest.buffer c.glyph.result c.loop-rest-test.true most long fits before c.glyph.ensures

pub returns : goal.returns
returns c =
    let (most, long, fits, before) = c.loop-rest.invariant in
    digits_stand c.loop-rest.at c.args.number c.loop-rest.rest c.loop-rest.buffer c.glyph-2.result (omega (arith, c.loop-rest-test.false)) most long before c.glyph-2.ensures
