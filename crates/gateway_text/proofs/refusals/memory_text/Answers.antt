use Rattle.std.proofs.Common.{refl}
use Rattle.std.specs.Fmt.{digits}
use Rattle.json.specs.Print.{escape_byte}
use Rattle.kv_model.specs.Answers.{fault_text}
use Rattle.gateway_text.proofs.refusals.memory_text.Goals as goal

pub returns : goal.returns
unfolding fault_text escape_byte digits
returns c = refl
