use Rattle.std.proofs.Common.{◌≡◌, [], ◌∷◌, ◌++◌, codes, decimal, string_bytes}
use Rattle.std.specs.Fmt.{signed_decimal}
use Rattle.kv_model.specs.declared.version.Body.TheVariants.{Put}
use Rattle.certificate_text.specs.Texts.{bytes_field, body_fields, line_of}
use Rattle.certificate_text.proofs.Written.{on_ok, pieces_behind}
use Rattle.certificate_text.proofs.writing.write_put.Goals as goal

pub returns : goal.returns
returns c =
    on_ok c.end_put.result
    (string_bytes c.end_put.new.out ≡ string_bytes c.push_named.new.out ++ 32 ∷ decimal c.args.create ++ 32 ∷ decimal c.args.version
    ++ 32 ∷ signed_decimal c.args.lease.now ++ 32 ∷ bytes_field c.args.value.now ++ 10 ∷ [])
    (string_bytes c.end_put.new.out ≡ string_bytes c.args.out.now
    ++ line_of (body_fields c.args.rev c.args.key.now (Put c.args.create c.args.version c.args.lease.now c.args.value.now)) ++ 10 ∷ [])
    (λ last. pieces_behind (string_bytes c.args.out.now) (codes "put") (32 ∷ decimal c.args.rev.main) (32 ∷ decimal c.args.rev.sub) (32 ∷ bytes_field c.args.key.now)
    (32 ∷ decimal c.args.create) (32 ∷ decimal c.args.version) (32 ∷ signed_decimal c.args.lease.now) (32 ∷ bytes_field c.args.value.now) (10 ∷ [])
    (string_bytes c.push_named.new.out) (string_bytes c.end_put.new.out) c.in_ok-push_named.ensures last)
    c.end_put.ensures
