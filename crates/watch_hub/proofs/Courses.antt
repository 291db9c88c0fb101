-- What is told of a watch that is behind, and how it goes on.
use Rattle.std.proofs.Common.{◌≡◌, ◌&&◌, ◌≤◌, ℕ, List, filter, false, cond, Some, ◌∙◌, ap, arith}
use Rattle.std.specs.Prelude.{nat_lt, nat_le}
use Rattle.std.proofs.lemmas.Bool.Decides.{nat_tests}
use Rattle.kv_model.specs.declared.version.Version.{Version}
use Rattle.kv_model.specs.Watches.{matches}
use Rattle.kv_model.specs.Watches.{Delivery, last_revision}
use Rattle.watch_hub.specs.Hub.{PendingWatch}
use Rattle.watch_hub.specs.Delivering.{Course, course_from, course_of, delivery_from, delivery_due, message_from}

module _ (vs : List Version) (c : ℕ) (p : PendingWatch) (m : ℕ) (late : p.late ≡ false) (first : p.first ≡ Some m) (n : ℕ) (again : p.first ≡ Some n) (above : c ≤ n) where
  kept : nat_lt m c ≡ false
  kept = let same : m ≡ n = cc in grind (arith, nat_tests)

  pub behind-passes : course_of vs c p ≡ Course.passes (last_revision (filter (λ v. nat_le m v.rev.main && matches p.watched v) vs))
  behind-passes =
      ap (λ b. cond b Course.ends (course_from vs c p.watched p.first)) late ∙ ap (course_from vs c p.watched) first
      ∙ ap (λ b. cond b Course.ends (Course.passes (last_revision (filter (λ v. nat_le m v.rev.main && matches p.watched v) vs)))) kept

  pub behind-told : delivery_due vs c p ≡ Delivery.events (message_from vs c p.watched (filter (λ v. nat_le m v.rev.main && matches p.watched v) vs))
  behind-told =
      ap (λ b. cond b (Delivery.cancelled c) (delivery_from vs c p.watched p.first)) late ∙ ap (delivery_from vs c p.watched) first
      ∙ ap (λ b. cond b (Delivery.cancelled c) (Delivery.events (message_from vs c p.watched (filter (λ v. nat_le m v.rev.main && matches p.watched v) vs)))) kept
