use Rattle.std.proofs.Common.{◌≡◌, ◌+◌, map, drop}
use Rattle.store_laws.specs.Plans.{ReadsKept}
use Rattle.kv_model.specs.Txns.{changes_of, replies_of}
use Rattle.range_view.specs.Replies.{in_row, op_reply_view}
use Rattle.txn_core.specs.Known.{AreKnown}
use Rattle.txn_core.specs.Steps.{steps_view}
use Rattle.txn_core.proofs.reply.+reply.Given as goal

-- the answers so far and those to what is left are those to all, and the changes so far and those of what is left are those of all;
-- what is known stays so
abbrev pub invariant-row_replies-loop-step : goal.invariant-row_replies-loop-step
invariant-row_replies-loop-step l = record {
  reads : ReadsKept l.tables.compacted l.before (steps_view (drop l.step-index l.steps));
  changes : l.next + changes_of l.tables.versions (l.before + 1) l.next (steps_view (drop l.step-index l.steps))
      ≡ l.sub + changes_of l.tables.versions (l.before + 1) l.sub (steps_view l.steps);
  replies : in_row (map op_reply_view l.replies.items)
      (replies_of l.tables.versions l.before l.next (steps_view (drop l.step-index l.steps)))
      ≡ replies_of l.tables.versions l.before l.sub (steps_view l.steps);
  known : AreKnown l.tables l.before l.next l.known;
}
