use Rattle.kv_model.specs.Told.{Reply}
use Rattle.kv_model.specs.Answers.{header, reply_text}
use Rattle.gateway_text.specs.Views.{leases_data}
use Rattle.gateway_text.proofs.Objects.{written}
use Rattle.gateway_text.proofs.leases.leases_text.Goals as goal

pub returns : goal.returns
unfolding reply_text leases_data
returns c =
    written _ _ _ (reply_text (header c.args.ids.now c.args.revision) c.args.revision (Reply.leases c.args.leases.now)) c.into_bytes.ensures
    c.in_ok-write_leases.ensures c.in_ok-out.ensures
