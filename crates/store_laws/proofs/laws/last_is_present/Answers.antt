use Rattle.kv_model.specs.History.{dress, end_of, now}
use Rattle.store_laws.proofs.PlaceLaws.{value_at-by}
use Rattle.store_laws.proofs.GoodLaws.{dressed-by}
use Rattle.store_laws.proofs.laws.last_is_present.Goals as goal

pub returns : goal.returns
returns c = λ ms h k. value_at-by (dress ms) (end_of (now ms)) k (dressed-by ms h)
