-- The version that is visited goes from both, or from none of the two.
use Rattle.std.proofs.Common.{sym, ◌∙◌, ap}
use Rattle.store_laws.specs.Trimming.{trimmed}
use Rattle.trim_core.proofs.Stepping.{removes, stays, ends, out-agrees}
use Rattle.trim_core.proofs.trimmer.Trimmer.step.Goals as goal
use Rattle.trim_core.proofs.trimmer.Trimmer.step.Goals.{then-unindex, else-unindex}

pub returns-after-unindex-clause-exact : goal.returns-after-unindex-clause-exact
returns-after-unindex-clause-exact c =
    let vs = c.args.table.now in
    let v = c.in-Some.version.now in
    let rule = c.unindex.ensures.told vs c.next_version.ensures.rising c.requires in
    elim c.if-unindex.branch [
      | then-unindex w ↦ (rw (w.result-is, w.table-is, w.remove.ensures, c.place_after-self-inside.ensures)
          (removes vs c.self.inside.place c.args.compacted v (sym c.in-Some.ensures.value) (sym rule ∙ w.if-unindex.true)
          ∙ ap (λ p. trimmed vs p c.args.compacted) c.self.view_is))
      | else-unindex w ↦ (rw (w.result-is, w.table-is, c.place_after-self-inside.ensures)
          (stays vs c.self.inside.place c.args.compacted v (sym c.in-Some.ensures.value) (sym rule ∙ w.if-unindex.false)
          ∙ ap (λ p. trimmed vs p c.args.compacted) c.self.view_is))
    ]

pub returns-after-unindex-clause-agrees : goal.returns-after-unindex-clause-agrees
returns-after-unindex-clause-agrees c =
    let vs = c.args.table.now in
    let v = c.in-Some.version.now in
    let i = c.args.index.now in
    elim c.if-unindex.branch [
      | then-unindex w ↦ (rw (w.table-is, w.remove.ensures, c.unindex.ensures.index, w.if-unindex.true)
          (out-agrees i vs c.self.inside.place c.args.compacted v c.requires c.next_version.ensures.rising
          (sym c.in-Some.ensures.value)))
      | else-unindex w ↦ (rw (w.table-is, c.unindex.ensures.index, w.if-unindex.false) c.requires)
    ]

pub returns-in-None-clause-exact : goal.returns-in-None-clause-exact
returns-in-None-clause-exact c =
    let vs = c.args.table.now in
    rw c.len.ensures (rw (← c.self.view_is) (ends vs c.self.inside.place c.args.compacted (sym c.in-None.ensures.value)))
