use Rattle.std.proofs.Common.{rules, sym, ◌∙◌, subst, w64}
use Rattle.std.proofs.lemmas.Int.{to_z-of_z}
use Rattle.kv_model.specs.declared.call.RangeQuery.{RangeQuery}
use Rattle.event_book.specs.Events.{led_to}
use Rattle.long_ranges.specs.Parts.{IsShownBy, live_at, part_of}
use Rattle.long_ranges.proofs.Answers.{several_left, shown_by, whole_is}
use Rattle.long_ranges.proofs.part.read_within.Goals as goal

pub returns-clause-reads : goal.returns-clause-reads
returns-clause-reads g c = λ front p then ids now count seen gat.
    let known = c.args.client.now.reader.known in
    let q = c.args.query.now in
    let r = c.args.revision in
    let at = to_z-of_z w64 c.signed.result (search rules) ∙ c.signed.ensures in
    let asked = c.part_of-part.ensures ∙ (λ i. part_of q c.in-Ok.cut.part (at i) (c.counts.ensures i)) in
    let is_shown = subst (λ (a : RangeQuery). IsShownBy (led_to known) a c.args.gathered q (live_at front r c.in-Ok.cut.part)) (sym asked)
    (shown_by front known p r c.requires.some then c.args.gathered q c.in-Ok.cut.part) in
    record {
      part = live_at front r c.in-Ok.cut.part;
      whole = whole_is front known p r c.requires.some then c.requires.shown.sound c.args.rest c.in-Ok.cut.part c.in-Ok.cut.rest c.requires.several c.in-Ok.ensures;
      gathered = c.in_ok-gathered.ensures (led_to known) c.part_of-part.result q (live_at front r c.in-Ok.cut.part) c.range.ensures is_shown ids now count seen gat;
    }

pub returns-clause-several : goal.returns-clause-several
returns-clause-several g c = several_left c.args.rest c.in-Ok.cut.part c.in-Ok.cut.rest c.requires.several c.in-Ok.ensures
