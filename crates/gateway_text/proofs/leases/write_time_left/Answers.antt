use Rattle.std.proofs.Common.{Bor, ℕ, List, [], ◌∷◌, map, Option, Some, ◌∙◌, append_assoc}
use Rattle.std.specs.Prelude.{codes}
use Rattle.std.specs.Int.{w64}
use Rattle.std.proofs.lemmas.Int.{to_z-of_z}
use Rattle.serde_json.specs.Data.{Data}
use Rattle.kv_model.specs.Answers.{nat_field, int_field, list_field, bytes_text}
use Rattle.gateway_text.specs.Views.{header_data, seconds_view, time_left_data}
use Rattle.gateway_text.proofs.Objects.{on_ok, by_fields, map-map}
use Rattle.gateway_text.proofs.leases.write_time_left.Goals as goal

pub returns : goal.returns
unfolding time_left_data
returns c =
    let id = rw (to_z-of_z w64 c.args.id c.ranges.id) at c.in_ok-signed_member.ensures in
    let keys = rw (← (map-map bytes_text (λ (k : Bor (List ℕ)). k.now) c.args.keys.now)) at c.in_ok-list_member.ensures in
    let fields : List (List ℕ × Option Data) =
    (codes "ID", int_field c.args.id) ∷ (codes "TTL", int_field (seconds_view c.args.seconds))
    ∷ (codes "grantedTTL", nat_field c.args.granted)
    ∷ (codes "header", Some (header_data c.args.header.now))
    ∷ (codes "keys", list_field (map bytes_text (map (λ (k : Bor (List ℕ)). k.now) c.args.keys.now))) ∷ [] in
    on_ok c.end_object.result _ _
    (λ e. by_fields c.args.out.now c.end_object.new.self fields
    (e ∙ rw (keys, c.in_ok-member.ensures, c.in_ok-number_member.ensures, c.in_ok-write_seconds.ensures)
    (rw (id, c.in_ok-begin_object.ensures) (simp append_assoc))))
    c.end_object.ensures
