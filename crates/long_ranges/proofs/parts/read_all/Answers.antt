use Rattle.std.proofs.Common.{◌++◌, ◌∙◌, subst, ap}
use Rattle.event_book.proofs.Prefixes.{prefix_trans}
use Rattle.engine_lock.specs.Locked.{Caller, left}
use Rattle.long_ranges.specs.Parts.{IsGathered}
use Rattle.long_ranges.proofs.Answers.{gathered_all, gathered_more, in_time}
use Rattle.long_ranges.proofs.parts.read_all.Goals as goal

pub returns-in_default-left-clause-reads : goal.returns-in_default-left-clause-reads
returns-in_default-left-clause-reads g c = λ front p b ids now count gat.
    let q = c.args.query.now in
    let so_far = c.loop.invariant.4 front p b ids now count gat in
    subst (λ xs. IsGathered ids now count q xs c.loop.gathered)
    (gathered_all front c.args.begun.revision q.range c.loop.left so_far.seen c.in_default-left.is so_far.whole) so_far.gathered

pub loop-preserved : goal.loop-preserved
loop-preserved g c = (
  prefix_trans c.args.client.now.reader.known c.loop.client.reader.known c.read_part.new.client.reader.known c.loop.invariant.0 c.read_part.ensures.begins,
  c.read_part.ensures.client ∙ ap (λ (x : Caller). left (record x { reader = c.read_part.new.client.reader })) c.loop.invariant.1,
  c.read_part.ensures.book ∙ c.loop.invariant.2,
  c.in_ok-read.ensures.several,
  λ front p b ids now count gat.
      let q = c.args.query.now in
      let r = c.args.begun.revision in
      let so_far = c.loop.invariant.4 front p b ids now count gat in
      let read = c.in_ok-read.ensures.reads front (prefix_trans front c.args.client.now.reader.known c.loop.client.reader.known p c.loop.invariant.0)
      (in_time front q c.args.begun b) ids now count so_far.seen so_far.gathered in
      record {
        seen = so_far.seen ++ read.part;
        gathered = read.gathered;
        whole = gathered_more front r q.range c.in-Some.rest c.loop.left c.in_ok-read.read.rest so_far.seen read.part c.in-Some.is read.whole so_far.whole;
      },
)
