-- A run that finds memory always and trims by the rule.
use Rattle.std.specs.Prelude.{◌≡◌, ◌⊎◌, ◌+◌, ◌^◌, ◌≤◌, ◌<◌, List, [], ◌∷◌, ◌++◌, false, nat_lt, if◌then◌else◌, Some}
use Rattle.std.specs.Prelude.{⊤}
use Rattle.kv_model.specs.declared.version.Rev.{Rev}
use Rattle.kv_model.specs.declared.version.Version.{Version}
use Rattle.kv_model.specs.declared.ids.Ids.{Ids}
use Rattle.kv_model.specs.History.{Mutation}
use Rattle.store_laws.specs.Sound.{IsBatch}
use Rattle.kv_model.specs.World.{World, opening, revision, added}
use Rattle.store_laws.specs.Trimming.{trimmed, oldest_place}
use Rattle.kv_model.specs.Certificates.{claims_of}
use Rattle.kv_model.specs.Follows.{Outcome}
use Rattle.kv_model.specs.Wire.{WireEvent, WireTold, WireOutcome, wire_step, is_physical, trim_told}
use Rattle.kv_model.specs.Headline.{dump_of}
use Rattle.kv_model.specs.Headline.{IsRun}

-- the versions that are kept, and the first place that trimming has not looked at
pub record Trimming : Type 0 where
  pub versions : List Version
  pub place : Rev

abbrev pub not_begun : Trimming
not_begun = record { versions = []; place = oldest_place }

-- a trimming step goes by the rule, and its certificate is that of what is kept
abbrev pub rule_tells : Ids → World → WireEvent → Trimming → WireTold
rule_tells ids w WireEvent.trim s = trim_told (trimmed s.versions s.place w.compacted).told
    (Some (claims_of (dump_of w s.versions)))
rule_tells ids w WireEvent.certify s = WireTold.certified (dump_of w s.versions) (claims_of (dump_of w s.versions))
rule_tells ids w e s = (wire_step ids w e).0

-- from one world to the next: what is added is kept, and a compaction starts over
abbrev pub moved_on : World → World → Trimming → Trimming
moved_on w u s = record {
  versions = s.versions ++ added w u;
  place = if nat_lt w.compacted u.compacted then oldest_place else s.place;
}

abbrev pub rule_keeps : Ids → World → WireEvent → Trimming → Trimming
rule_keeps ids w WireEvent.trim s =
    let t = trimmed s.versions s.place w.compacted in
    record { versions = t.versions; place = t.place }
rule_keeps ids w WireEvent.certify s = s
rule_keeps ids w e s = moved_on w (wire_step ids w e).1 s

-- the outcomes from a world on
abbrev pub by_rule : Ids → World → Trimming → List WireEvent → List WireOutcome
by_rule ids w s [] = []
by_rule ids w s (e ∷ es) = Outcome.said (rule_tells ids w e s)
    ∷ by_rule ids (wire_step ids w e).1 (rule_keeps ids w e s) es

-- ---- what the events are

-- the changes of one more revision, or none
pub record AddsBatch (w u : World) : Type 0 where
  pub changes : List Mutation
  pub batch : IsBatch (revision w + 1) changes
  pub mutations : u.mutations ≡ w.mutations ++ changes
  pub compacted : u.compacted ≡ w.compacted

-- or a compaction, up to a revision that has been
pub record Compacts (w u : World) : Type 0 where
  pub up : w.compacted < u.compacted
  pub past : u.compacted ≤ revision w
  pub fits : u.compacted < 2 ^ 63
  pub mutations : u.mutations ≡ w.mutations

-- each event makes one of the two, and none is a Compact that waits for trimming
abbrev pub AreMoves : Ids → World → List WireEvent → Type 0
AreMoves ids w [] = ⊤
AreMoves ids w (e ∷ es) = (is_physical w e ≡ false)
    × (AddsBatch w (wire_step ids w e).1 ⊎ Compacts w (wire_step ids w e).1) × AreMoves ids (wire_step ids w e).1 es

-- the outcomes by the rule make a run
abbrev pub RuleMakesRun : Type 0
RuleMakesRun = (ids : Ids) (es : List WireEvent) → AreMoves ids opening es
    → IsRun ids es (by_rule ids opening not_begun es)
