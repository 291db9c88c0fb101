-- What each slice leaves of the index is up to the main revision, so the next one goes too.
use Rattle.std.proofs.Common.{◌≡◌, ◌∙◌, ◌++◌, ◌<◌, List, length, sym, ap, subst, arith, length-append}
use Rattle.kv_model.specs.declared.version.Version.{Version}
use Rattle.version_table.specs.Rising.{retracted}
use Rattle.key_index.specs.Agrees.{Agrees}
use Rattle.key_index.specs.Index.{IsBound, IsIndex, Index}
use Rattle.key_index.specs.Index.{retracted as undone}
use Rattle.key_index.proofs.Retracting.{agrees-bound, bound-retracted, newest-retracted, retracted-append}
use Rattle.range_view.proofs.TakingBack.{unindexed}
use Rattle.range_view.proofs.growth.unindex.Goals as goal

pub loop-slice-init : goal.loop-slice-init
loop-slice-init c = record {
  bound = (c.requires.tied.agrees.sound, agrees-bound c.args.main c.args.table.now c.args.index.now c.requires.tied.agrees c.requires.upto);
  rest = λ _. undone c.args.main c.versions_from-changes.result c.args.index.now;
}

pub loop-slice-preserved : goal.loop-slice-preserved
loop-slice-preserved c =
    let at = c.loop-slice in
    let main = c.args.main in
    let slice = c.in-Some.slice.now in
    let step : c.retract.new.self ≡ undone main slice at.index = c.retract.ensures.value ∙ newest-retracted main slice at.index at.invariant.bound.1 in
    record {
      bound = subst (λ (i : Index). IsIndex i × IsBound main i) (sym step) (bound-retracted main main slice at.index at.invariant.bound);
      rest = ap (undone main c.next_slice.new.self) step
          ∙ sym (retracted-append main slice c.next_slice.new.self at.index)
          ∙ ap (λ vs. undone main vs at.index) (sym c.in-Some.ensures.0)
          ∙ at.invariant.rest;
    }

pub returns : goal.returns
returns c =
    let at = c.loop-slice in
    let main = c.args.main in
    let none = c.in_default.ensures.0 in
    let all : at.index ≡ undone main c.versions_from-changes.result c.args.index.now = sym (ap (λ vs. undone main vs at.index) none) ∙ at.invariant.rest in
    subst (λ i. Agrees i (retracted main c.args.table.now))
    (sym (all ∙ ap (λ vs. undone main vs c.args.index.now) c.versions_from-changes.ensures.value))
    (unindexed main c.args.table.now c.args.index.now c.requires.tied c.requires.upto)
