-- The answer of a Put that tells nothing of what was held before is a header alone.
use Rattle.std.proofs.Common.{◌≡◌, sym, subst}
use Rattle.std.specs.Prelude.{Option, IfOk, option_map}
use Rattle.serde_json.specs.Written.{compact_text}
use Rattle.kv_model.specs.Answers.{header, header_alone, put_text, reply_text}
use Rattle.range_view.specs.declared.reply.KvRef.{KvRef}
use Rattle.range_view.specs.Replies.{kv_view}
use Rattle.gateway_text.proofs.answers.put_text.Goals as goal

pub returns-in-None : goal.returns-in-None
unfolding reply_text put_text header_alone
returns-in-None c =
    subst (λ (held : Option KvRef). IfOk c.bare_text.result
    (λ v. v.items ≡ compact_text (put_text (header c.args.ids.now c.args.revision) (option_map kv_view held)))) (sym c.in-None.is) c.bare_text.ensures
