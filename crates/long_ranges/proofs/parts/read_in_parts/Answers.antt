use Rattle.std.proofs.Common.{◌≡◌, [], None, length, refl, ◌∙◌, subst}
use Rattle.std.proofs.lemmas.List.{append-nil}
use Rattle.event_book.proofs.Prefixes.{prefix_trans}
use Rattle.long_ranges.specs.Parts.{ReadsInParts, live_at, text_of}
use Rattle.long_ranges.proofs.Answers.{if_ok_map, whole_text}
use Rattle.kv_model.specs.Ranges.{range_refusal}
use Rattle.event_book.specs.Events.{led_to}
use Rattle.long_ranges.proofs.parts.read_in_parts.Goals as goal

pub returns-clause-reads : goal.returns-clause-reads
returns-clause-reads g c =
    let ids = c.args.ids.now in
    let q = c.args.query.now in
    let front = c.begin.new.client.reader.known in
    let begun = c.in_ok-begun.begun in
    let b = c.in_ok-begun.ensures.begun in
    let all = live_at front begun.revision q.range in
    let counted = c.in_ok-counted.ensures.reads front ([], append-nil front) b ids begun.now 0 refl in
    let text = c.in_ok-text.ensures q 0 all counted in
    let gathered = c.in_ok-gathered.ensures.reads front c.read_all.ensures.begins b ids begun.now (length all) text in
    if_ok_map (λ t. t.items ≡ text_of ids begun.now (length all) q all) (λ t. ReadsInParts ids c.args.client.now q t.items c.read_all-2.new.client)
    (λ t e. record {
      front = front;
      begins = c.begin.ensures.begins;
      goes_on = prefix_trans front c.read_all.new.client.reader.known c.read_all-2.new.client.reader.known c.read_all.ensures.begins c.read_all-2.ensures.begins;
      allowed = subst (λ n. range_refusal (led_to front).compacted n q ≡ None) b.now b.allowed;
      says = e ∙ whole_text ids front q begun b;
    }) c.finished.result (c.finished.ensures ids begun.now (length all) q all gathered)
