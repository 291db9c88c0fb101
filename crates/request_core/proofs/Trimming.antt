-- What a trimming step leaves of a core, and what it does in each world that the core stands for.
use Rattle.std.proofs.Common.{◌≡◌, ◌<◌, ℕ, ◌^◌, List, true, Option, None, refl, sym, ◌∙◌, ap, subst, arith}
use Rattle.kv_model.specs.declared.version.Version.{Version}
use Rattle.kv_model.specs.History.{value_now, end_of, rev_le}
use Rattle.kv_model.specs.Headline.{Trims}
use Rattle.kv_model.specs.Told.{Trimmed}
use Rattle.store_laws.specs.Trimming.{trimmed, IsTrimmedTo}
use Rattle.kv_model.specs.World.{World}
use Rattle.store_laws.specs.Stands.{StandsFor}
use Rattle.kv_model.specs.Certificates.{Claim}
use Rattle.kv_model.specs.Wire.{trim_told}
use Rattle.store_laws.specs.TrimmingLaws.{StepsWell, IsOwn, IsVisit, keeping}
use Rattle.store_laws.proofs.PlaceLaws.{each-part, value_at-by}
use Rattle.store_laws.proofs.RuleLaws.{steps-well}
use Rattle.store_laws.proofs.Visits.{IsOrderly, Leaves, step_leaves}
use Rattle.lease_keys.specs.Pairs.{Pairs}
use Rattle.lease_keys.specs.Holding.{AreJust}
use Rattle.range_view.specs.Stored.{Stored, IsStored, trim_of as trim_of_tables, trimmed_once}
use Rattle.txn_core.specs.KeyWrites.{IsCountedTo}
use Rattle.trim_core.specs.declared.trimmer.Trim.{Trim}
use Rattle.trim_core.specs.Told.{told_of}
use Rattle.request_core.specs.Commands.{LeavesBy, MayTrim, TrimsOnce}
use Rattle.lease_book.specs.Book.{Book}
use Rattle.watch_hub.specs.Hub.{Hub}
use Rattle.request_core.specs.State.{CoreState, IsSound, core_state, counted, has_removed, keeping_of, trim_of, trimmed_by}
use Rattle.request_core.proofs.Leased.{all-reached, just-same}

-- ---- what a step leaves

pub orderly : (t : Stored) → IsStored t → IsSound t → IsOrderly t.compacted t.versions
orderly t stored sound = record {
  rising = stored.rising;
  numbers = sound.places;
  small = omega (arith, sound.floor, sound.fits);
}

leaves : (t : Stored) → IsStored t → IsSound t → Leaves t.compacted t.versions t.place (trim_of_tables t)
leaves t stored sound = step_leaves t.compacted t.versions t.place (orderly t stored sound) sound.trimmed

pub trimmed-sound : (t : Stored) → IsStored t → IsSound t → IsSound (trimmed_once t)
trimmed-sound t stored sound =
    let l = leaves t stored sound in
    record {
      fits = sound.fits;
      places = each-part (λ (v : Version). v.rev.sub < 2 ^ 64) l.part sound.places;
      counted = each-part (λ (v : Version). IsCountedTo t.revision v.body) l.part sound.counted;
      floor = sound.floor;
      trimmed = l.up_to;
    }

-- no key holds anything else at last
trimmed-now : (t : Stored) → IsStored t → IsSound t → (k : List ℕ) → value_now (trimmed_once t).versions k ≡ value_now t.versions k
trimmed-now t stored sound k =
    let l = leaves t stored sound in
    let reached = all-reached t stored sound in
    sym (value_at-by (trimmed_once t).versions (end_of t.revision) k
    (each-part (λ (v : Version). rev_le v.rev (end_of t.revision) ≡ true) l.part reached))
    ∙ l.values t.revision k sound.floor
    ∙ value_at-by t.versions (end_of t.revision) k reached

-- so the index of leases has just what it must have
pub trimmed-just : (t : Stored) (ps : Pairs) → IsStored t → IsSound t → AreJust ps (value_now t.versions)
    → AreJust ps (value_now (trimmed_once t).versions)
trimmed-just t ps stored sound just = just-same ps (value_now t.versions) (value_now (trimmed_once t).versions)
    (λ k. sym (trimmed-now t stored sound k)) just

-- ---- what a step does

module _ (t : Stored) (b : Book) (h : Hub) (stamp : ℕ) (stored : IsStored t) (sound : IsSound t) where
  abbrev before : CoreState
  before = core_state t b h stamp

  well : (w : World) (certificate : Option (List Claim)) → StandsFor before.store w → IsOwn w t.versions certificate
      → StepsWell w t.versions t.place certificate (trim_of before)
  well w certificate k own = subst (λ c. StepsWell w t.versions t.place certificate (trimmed t.versions t.place c)) (sym k.compacted)
      (steps-well w t.versions t.place certificate k.sound (subst (λ c. c < 2 ^ 63) k.compacted (orderly t stored sound).small) k.good
      (subst (IsTrimmedTo t.versions t.place) k.compacted sound.trimmed) own)

  trims : (w : World) → StandsFor before.store w → MayTrim w before (trimmed_by before (trim_of before)) (trim_of before).told
  trims w k = record {
    stands = record {
      sound = k.sound;
      good = (well w None k tt).good;
      revision_is = k.revision_is;
      compacted = k.compacted;
      leases = k.leases;
      clock = k.clock;
      made = k.made;
      watches = k.watches;
    };
    may = λ certificate own. subst (λ c. Trims w (keeping t.versions t.place c) (keeping t.versions t.place c).ahead
        (trim_told (trim_of before).told certificate)
        (keeping (trim_of before).versions (trim_of before).place c)) (sym k.compacted) (well w certificate k own).trims;
  }

  tables-leave : LeavesBy before (core_state (trimmed_once t) b h stamp) (trim_of_tables t).told
  tables-leave = record { told = refl; left = refl; visit = (leaves t stored sound).visit; trims = trims }

-- in the form that the step over the tables cites
pub tables_leave : (t new : Stored) (b : Book) (h : Hub) (stamp : ℕ) (s : CoreState) (told : Trimmed) → IsStored t → IsSound t
    → core_state t b h stamp ≡ s → told ≡ (trim_of_tables t).told → new ≡ trimmed_once t
    → LeavesBy s (core_state new b h stamp) told
tables_leave t new b h stamp s told stored sound is e f =
    subst (λ (x : CoreState). LeavesBy x (core_state new b h stamp) told) is
    (subst (λ (x : Stored). LeavesBy (core_state t b h stamp) (core_state x b h stamp) told) (sym f)
    (subst (λ (x : Trimmed). LeavesBy (core_state t b h stamp) (core_state (trimmed_once t) b h stamp) x) (sym e)
    (tables-leave t b h stamp stored sound)))

-- and in the form that the whole step cites
pub trims_once : (old stepped new : CoreState) (t : Trim) → LeavesBy old stepped (told_of t)
    → new ≡ counted (has_removed (told_of t)) stepped → TrimsOnce old new t
trims_once old stepped new t l counts = record {
  told = l.told;
  left = counts ∙ ap (counted (has_removed (told_of t))) l.left;
  visit = subst (λ (s : CoreState). IsVisit (told_of t) (keeping_of old).ahead (keeping_of s).ahead) (sym counts) l.visit;
  trims = λ w h. let m = l.trims w h in subst (λ (s : CoreState). MayTrim w old s (told_of t)) (sym counts)
      (record { stands = m.stands; may = m.may });
}
