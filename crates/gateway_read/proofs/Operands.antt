-- The operands of a compare, read by themselves.
use Rattle.std.proofs.Common.{◌≡◌, ℕ, ℤ, List, Ok, Err, refl}
use Rattle.std.specs.Prelude.{codes}
use Rattle.serde_json.specs.Data.{Members}
use Rattle.kv_model.specs.declared.call.Compare.{Compare}
use Rattle.kv_model.specs.declared.call.Operand.{Operand}
use Rattle.kv_model.specs.declared.call.Relation.{Relation}
use Rattle.kv_model.specs.declared.version.KeyRange.{KeyRange}
use Rattle.kv_model.specs.Requests as requests
use Rattle.kv_model.specs.Requests.{Read, ◌>>=◌, integer_field, bytes_field, operand_of}
use Rattle.gateway_read.specs.Compares.{operand_read, compared}

abbrev with_operand : KeyRange → Relation → Operand → Compare
with_operand range relation operand = record { range = range; relation = relation; operand = operand }

pub compared-operand : (range : KeyRange) (relation : Relation) (target : requests.Target) (ms : Members)
    → compared range relation target ms ≡ (operand_read target ms >>= λ o. Ok (with_operand range relation o))
unfolding compared operand_read
compared-operand range relation target ms = over (integer_field (codes "version") ms) (integer_field (codes "create_revision") ms)
    (integer_field (codes "mod_revision") ms)
    (bytes_field (codes "value") ms) (integer_field (codes "lease") ms)
  where
    over : (ra rb rc : Read ℤ) (rd : Read (List ℕ)) (re : Read ℤ)
        → (ra >>= λ a. rb >>= λ b. rc >>= λ c. rd >>= λ d. re >>= λ e. Ok (with_operand range relation (operand_of target a b c d e)))
        ≡ ((ra >>= λ a. rb >>= λ b. rc >>= λ c. rd >>= λ d. re >>= λ e. Ok (operand_of target a b c d e))
        >>= λ o. Ok (with_operand range relation o))
    over (Err x) b c d e = refl
    over (Ok a) (Err x) c d e = refl
    over (Ok a) (Ok b) (Err x) d e = refl
    over (Ok a) (Ok b) (Ok c) (Err x) e = refl
    over (Ok a) (Ok b) (Ok c) (Ok d) (Err x) = refl
    over (Ok a) (Ok b) (Ok c) (Ok d) (Ok e) = refl
