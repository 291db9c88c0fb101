use Rattle.std.specs.Int.{w64}
use Rattle.std.proofs.lemmas.Int.{to_z-of_z}
use Rattle.kv_model.specs.Told.{Reply}
use Rattle.kv_model.specs.Answers.{header, reply_text, result_text, created_text}
use Rattle.gateway_text.specs.Views.{created_data}
use Rattle.gateway_text.proofs.Objects.{written}
use Rattle.gateway_text.proofs.watches.created_text.Goals as goal

pub returns : goal.returns
unfolding reply_text created_text result_text created_data
returns c =
    let made = rw (to_z-of_z w64 c.args.id c.ranges.id) at c.in_ok-write_message.ensures in
    λ number. written _ _ _ (reply_text (header c.args.ids.now c.args.revision) c.args.revision (Reply.watch c.args.id number)) c.into_bytes.ensures made c.in_ok-out.ensures
