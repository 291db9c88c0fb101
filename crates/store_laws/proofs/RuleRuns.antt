-- Events with trimming by the rule make a run.
use Rattle.std.proofs.Common.{◌≡◌, ◌≤◌, ◌<◌, ◌⊎◌, ℕ, ◌+◌, ◌^◌, List, [], ◌∷◌, ◌++◌, length, filter, Bool, true, false, cond, Some, refl}
use Rattle.std.proofs.Common.{sym, ◌∙◌, ap, subst, inl, inr, arith}
use Rattle.std.specs.Prelude.{drop, nat_lt, nat_le}
use Rattle.std.proofs.lemmas.Bool.{le-ltb, lt-ltb}
use Rattle.std.proofs.lemmas.List.{append-nil, drop_all}
use Rattle.std.proofs.Math.Seq.{drop-append_seam}
use Rattle.std.specs.List.{AllByRecursion}
use Rattle.kv_model.specs.declared.version.Rev.{Rev}
use Rattle.kv_model.specs.declared.version.Version.{Version}
use Rattle.kv_model.specs.declared.ids.Ids.{Ids}
use Rattle.kv_model.specs.Lists.{nothing}
use Rattle.kv_model.specs.History.{Mutation, now, dress}
use Rattle.store_laws.specs.Sound.{IsHistory, IsBatch, IsSound}
use Rattle.kv_model.specs.Txns.{added_by}
use Rattle.kv_model.specs.World.{World, opening}
use Rattle.kv_model.specs.Questions.{IsGood}
use Rattle.store_laws.specs.Trimming.{TrimStep, trimmed, oldest_place, IsTrimmedTo}
use Rattle.kv_model.specs.Certificates.{claims_of}
use Rattle.kv_model.specs.Follows.{FollowsFrom}
use Rattle.kv_model.specs.Wire.{WireEvent, wire_step, is_free, takes_memory, is_physical, MayLose}
use Rattle.kv_model.specs.Headline.{Keeping, Changes, kept_after, dump_of}
use Rattle.kv_model.specs.Headline.{KeepsWell}
use Rattle.store_laws.specs.TrimmingLaws.{keeping, GoesOn, StepsWell}
use Rattle.store_laws.specs.ByRule.{Trimming, not_begun, moved_on, by_rule, AddsBatch, Compacts, AreMoves, RuleMakesRun}
use Rattle.store_laws.proofs.PlaceLaws.{each-map}
use Rattle.store_laws.proofs.BatchLaws.{dress-added, each-added, history-more, now-least, good-added, good-grows}
use Rattle.store_laws.proofs.BetweenSteps.{starts_over, goes_on, stays_good}
use Rattle.store_laws.proofs.RuleLaws.{steps-well}

-- ---- from one history and compaction to the next

-- what is kept is good, and nothing before the place is left to take out
pub record IsGoing (ms : List Mutation) (c : ℕ) (vs : List Version) (p : Rev) : Type 0 where
  pub history : IsHistory ms
  pub floor : c ≤ now ms
  pub fits : c < 2 ^ 63
  pub good : IsGood vs ms c
  pub up_to : IsTrimmedTo vs p c

-- what is kept after a move
abbrev next : List Mutation → ℕ → List Mutation → ℕ → List Version → Rev → Keeping
next ms c ns d vs p = record {
  kept = vs ++ drop (length (dress ms)) (dress ns);
  ahead = cond (nat_lt c d) (filter (λ v. nat_le v.rev.main d) vs) (keeping vs p c).ahead;
}

record GoesTo (ms : List Mutation) (c : ℕ) (ns : List Mutation) (d : ℕ) (vs : List Version) (p : Rev) : Type 0 where
  going : IsGoing ns d (vs ++ drop (length (dress ms)) (dress ns)) (cond (nat_lt c d) oldest_place p)
  keeps : keeping (vs ++ drop (length (dress ms)) (dress ns)) (cond (nat_lt c d) oldest_place p) d ≡ next ms c ns d vs p

module _ (ms : List Mutation) (c : ℕ) (vs : List Version) (p : Rev) (g : IsGoing ms c vs p) where
  adds : (us : List Mutation) → IsBatch (now ms + 1) us → GoesTo ms c (ms ++ us) c vs p
  adds us b = record {
    going = record {
      history = history-more ms us g.history b;
      floor = let a : now ms ≤ now (ms ++ us) = now-least ms us b.at in let f : c ≤ now ms = g.floor in omega arith;
      fits = g.fits;
      good = subst (λ xs. IsGood xs (ms ++ us) c) (good-added vs ms us c g.good g.history g.floor
          ∙ ap (λ xs. vs ++ xs) (sym seam)) (good-grows vs ms us c g.good g.history g.floor b);
      up_to = rw (seam, same) on.up_to;
    };
    keeps = λ i. record {
      kept = vs ++ drop (length (dress ms)) (dress (ms ++ us));
      ahead = here i;
    };
  }
    where
      seam : drop (length (dress ms)) (dress (ms ++ us)) ≡ added_by (dress ms) us
      seam = ap (drop (length (dress ms))) (dress-added ms us) ∙ drop-append_seam (dress ms) (added_by (dress ms) us)

      same : nat_lt c c ≡ false
      same = le-ltb c c (omega arith)

      high : AllByRecursion (λ u. c < u.rev.main) (added_by (dress ms) us)
      high = each-map (λ v. v.rev.main ≡ now ms + 1) (λ v. c < v.rev.main) (λ v e. let f : c ≤ now ms = g.floor
          in omega arith) (added_by (dress ms) us)
          (each-added (λ q k. q.main ≡ now ms + 1) (dress ms) us b.at)

      on : GoesOn vs (added_by (dress ms) us) p c
      on = goes_on vs (added_by (dress ms) us) p c high g.up_to

      here : (keeping (vs ++ drop (length (dress ms)) (dress (ms ++ us))) (cond (nat_lt c c) oldest_place p) c).ahead
          ≡ cond (nat_lt c c) (filter (λ v. nat_le v.rev.main c) vs) (keeping vs p c).ahead
      here = rw (seam, same) on.ahead

  compacts : (d : ℕ) → c < d → d ≤ now ms → d < 2 ^ 63 → GoesTo ms c ms d vs p
  compacts d up past fits = record {
    going = record {
      history = g.history;
      floor = past;
      fits = fits;
      good = subst (λ xs. IsGood xs ms d) (sym same) (stays_good ms c d vs g.history (omega arith) past g.good);
      up_to = rw higher (starts_over (vs ++ drop (length (dress ms)) (dress ms)) d).up_to;
    };
    keeps = λ i. record {
      kept = vs ++ drop (length (dress ms)) (dress ms);
      ahead = here i;
    };
  }
    where
      same : vs ++ drop (length (dress ms)) (dress ms) ≡ vs
      same = ap (λ xs. vs ++ xs) (drop_all (length (dress ms)) (dress ms) (omega arith)) ∙ append-nil vs

      higher : nat_lt c d ≡ true
      higher = lt-ltb c d up

      here : (keeping (vs ++ drop (length (dress ms)) (dress ms)) (cond (nat_lt c d) oldest_place p) d).ahead
          ≡ cond (nat_lt c d) (filter (λ v. nat_le v.rev.main d) vs) (keeping vs p c).ahead
      here = rw (higher, same) (starts_over vs d).ahead

-- ---- from one world to the next

pub record GoesOnTo (w u : World) (s : Trimming) : Type 0 where
  pub going : IsGoing u.mutations u.compacted (moved_on w u s).versions (moved_on w u s).place
  keeps : keeping (moved_on w u s).versions (moved_on w u s).place u.compacted ≡ kept_after w u (keeping s.versions s.place w.compacted)

goes_to : (w u : World) (s : Trimming) → GoesTo w.mutations w.compacted u.mutations u.compacted s.versions s.place → GoesOnTo w u s
goes_to w u s g = record { going = g.going; keeps = g.keeps }

pub moves : (w u : World) (s : Trimming) → IsGoing w.mutations w.compacted s.versions s.place → AddsBatch w u ⊎ Compacts w u
    → GoesOnTo w u s
moves w u s g (inl a) = goes_to w u s
    (subst (λ d. GoesTo w.mutations w.compacted u.mutations d s.versions s.place) (sym a.compacted)
    (subst (λ ns. GoesTo w.mutations w.compacted ns w.compacted s.versions s.place) (sym a.mutations)
    (adds w.mutations w.compacted s.versions s.place g a.changes a.batch)))
moves w u s g (inr a) = goes_to w u s
    (subst (λ ns. GoesTo w.mutations w.compacted ns u.compacted s.versions s.place) (sym a.mutations)
    (compacts w.mutations w.compacted s.versions s.place g u.compacted a.up a.past a.fits))

changes : (w u : World) (s : Trimming) (physical : Bool) → physical ≡ false → GoesOnTo w u s
    → Changes physical w u (keeping s.versions s.place w.compacted) (keeping (moved_on w u s).versions (moved_on w u s).place u.compacted)
changes w u s physical e g = subst (λ b. Changes b w u (keeping s.versions s.place w.compacted) (keeping (moved_on w u s).versions
    (moved_on w u s).place u.compacted)) (sym e) g.keeps

-- ---- the run

abbrev pub Going : World → Trimming → Type 0
Going w s = IsGoing w.mutations w.compacted s.versions s.place

sound : (w : World) (s : Trimming) → Going w s → IsSound w
sound w s g = record { history = g.history; floor = g.floor }

-- what a step by the rule keeps, with a certificate of its own
step-on : (w : World) (s : Trimming) → Going w s
    → StepsWell w s.versions s.place (Some (claims_of (dump_of w s.versions))) (trimmed s.versions s.place w.compacted)
step-on w s g = steps-well w s.versions s.place (Some (claims_of (dump_of w s.versions))) (sound w s g) g.fits g.good g.up_to refl

-- what it leaves goes on
pub step_going : (w : World) (s : Trimming) (t : TrimStep) → trimmed s.versions s.place w.compacted ≡ t → Going w s
    → Going w (record { versions = t.versions; place = t.place })
step_going w s t e g = subst (λ (t : TrimStep). IsGoing w.mutations w.compacted t.versions t.place) e
    (record { history = g.history; floor = g.floor; fits = g.fits; good = (step-on w s g).good; up_to = (step-on w s g).up_to })

module _ (ids : Ids) where
  abbrev Keeps : World → Trimming → List WireEvent → Type 0
  Keeps w s es = KeepsWell ids w (keeping s.versions s.place w.compacted) es (by_rule ids w s es)

  -- an event that is no trimming step, and the run after it
  on : (w : World) (e : WireEvent) (s : Trimming) (es : List WireEvent) → Going w s → is_physical w e ≡ false
      → AddsBatch w (wire_step ids w e).1 ⊎ Compacts w (wire_step ids w e).1
      → (Going (wire_step ids w e).1 (moved_on w (wire_step ids w e).1 s) → Keeps (wire_step ids w e).1 (moved_on w (wire_step ids w e).1 s)
      es)
      → IsGood s.versions w.mutations w.compacted
      × ((l : Keeping) × Changes (is_physical w e) w (wire_step ids w e).1 (keeping s.versions s.place w.compacted) l
      × KeepsWell ids (wire_step ids w e).1 l es (by_rule ids (wire_step ids w e).1 (moved_on w (wire_step ids w e).1 s) es))
  on w e s es g plain m rest =
      let u = (wire_step ids w e).1 in
      let to = moves w u s g m in (
        g.good,
        (
          keeping (moved_on w u s).versions (moved_on w u s).place u.compacted,
          changes w u s (is_physical w e) plain to,
          rest to.going,
        ),
      )

  pub keeps_on : (es : List WireEvent) (w : World) (s : Trimming) → Going w s → AreMoves ids w es → Keeps w s es
  keeps_on [] w s g m = g.good
  keeps_on (WireEvent.trim ∷ es) w s g m =
      let t = trimmed s.versions s.place w.compacted in (
        g.good,
        (
          keeping t.versions t.place w.compacted,
          (step-on w s g).trims,
          keeps_on es w (record { versions = t.versions; place = t.place }) (step_going w s t refl g) m.2,
        ),
      )
  keeps_on (WireEvent.certify ∷ es) w s g m = (g.good, (keeping s.versions s.place w.compacted, (refl, refl), keeps_on es w s g m.2))
  keeps_on (WireEvent.moment n ∷ es) w s g m = on w (WireEvent.moment n) s es g m.0 m.1 (λ h. keeps_on es _ _ h m.2)
  keeps_on (WireEvent.post path body ∷ es) w s g m = on w (WireEvent.post path body) s es g m.0 m.1 (λ h. keeps_on es _ _ h m.2)
  keeps_on (WireEvent.deliver n ∷ es) w s g m = on w (WireEvent.deliver n) s es g m.0 m.1 (λ h. keeps_on es _ _ h m.2)
  keeps_on (WireEvent.close n ∷ es) w s g m = on w (WireEvent.close n) s es g m.0 m.1 (λ h. keeps_on es _ _ h m.2)
  keeps_on (WireEvent.expire ∷ es) w s g m = on w WireEvent.expire s es g m.0 m.1 (λ h. keeps_on es _ _ h m.2)

  pub follows_on : (es : List WireEvent) (w : World) (s : Trimming) → FollowsFrom (wire_step ids) is_free takes_memory MayLose w es
      (by_rule ids w s es)
  follows_on [] w s = tt
  follows_on (WireEvent.trim ∷ es) w s = (tt, follows_on es _ _)
  follows_on (WireEvent.certify ∷ es) w s = (tt, follows_on es _ _)
  follows_on (WireEvent.moment n ∷ es) w s = (refl, follows_on es _ _)
  follows_on (WireEvent.post path body ∷ es) w s = (refl, follows_on es _ _)
  follows_on (WireEvent.deliver n ∷ es) w s = (refl, follows_on es _ _)
  follows_on (WireEvent.close n ∷ es) w s = (refl, follows_on es _ _)
  follows_on (WireEvent.expire ∷ es) w s = (refl, follows_on es _ _)

-- at the opening nothing is kept
opens : Going opening not_begun
unfolding dress
opens = record {
  history = tt;
  floor = omega arith;
  fits = omega arith;
  good = record { part = nothing; answers = λ q a. refl };
  up_to = tt;
}

pub rule-run : RuleMakesRun
rule-run ids es m = record { follows = follows_on ids es opening not_begun; keeps = keeps_on ids es opening not_begun opens m }
