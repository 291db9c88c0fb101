use Rattle.std.specs.Int.{w64}
use Rattle.std.proofs.lemmas.Int.{to_z-of_z}
use Rattle.kv_model.specs.Told.{Reply}
use Rattle.kv_model.specs.Answers.{header, reply_text}
use Rattle.gateway_text.specs.Views.{lease_data}
use Rattle.gateway_text.proofs.Objects.{written}
use Rattle.gateway_text.proofs.leases.granted_text.Goals as goal

pub returns : goal.returns
unfolding reply_text lease_data
returns c =
    let made = rw (to_z-of_z w64 c.args.id c.ranges.id) at c.in_ok-write_lease.ensures in
    written _ _ _ (reply_text (header c.args.ids.now c.args.revision) c.args.revision (Reply.grant c.args.id c.args.ttl))
    c.into_bytes.ensures made c.in_ok-out.ensures
