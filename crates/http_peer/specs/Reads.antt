-- What is known of a reader once it was read.
use Rattle.std.specs.Prelude.{◌≡◌, ◌↔◌, ℕ, nat_lt, Bool, true, ◌&&◌, Result, Ok, Err}

-- nothing more is there: a read found nothing, or gave something and did not fill its room. A read that gives nothing
-- tells the end, which stays there
abbrev pub IsDry : {E : Type 0} → (E → Type 0) → Result ℕ E → ℕ → Bool → Type 0
IsDry finds_nothing (Ok n) room dry = dry ≡ (nat_lt 0 n && nat_lt n room)
IsDry finds_nothing (Err e) room dry = (dry ≡ true) ↔ finds_nothing e
