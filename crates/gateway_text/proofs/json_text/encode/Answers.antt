use Rattle.std.proofs.Common.{ap, ◌++◌, ◌∙◌}
use Rattle.base64.specs.Engines.{standard}
use Rattle.base64.specs.GeneralPurpose.{encode_of}
use Rattle.kv_model.specs.Answers.{bytes_text, text_of}
use Rattle.gateway_text.proofs.Objects.{on_ok}
use Rattle.gateway_text.proofs.json_text.encode.Goals as goal

pub returns : goal.returns
unfolding bytes_text
returns c =
    on_ok c.encode_string.result _ _
    (λ e. ap text_of (e ∙ ap (λ s. s ++ encode_of standard c.args.bytes.now) c.clear.ensures.bytes))
    c.encode_string.ensures.ok
