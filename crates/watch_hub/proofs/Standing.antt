-- What a store stands for, where a watch is ended or was told of what it matches.
use Rattle.std.proofs.Common.{◌≡◌, ◌≤◌, ℕ, ◌+◌, List, [], ◌∷◌, Bool, true, false, not, ◌==◌, cond, refl, sym, ◌∙◌, ap, subst, arith}
use Rattle.std.specs.Prelude.{MatchBool, ⊤}
use Rattle.std.specs.List.{AllByRecursion}
use Rattle.kv_model.specs.declared.version.Version.{Version}
use Rattle.kv_model.specs.declared.call.Watched.{Watched}
use Rattle.kv_model.specs.World.{World, Watch, revision, versions, without_watch}
use Rattle.kv_model.specs.Watches.{undelivered, last_revision, advanced}
use Rattle.store_laws.specs.Stands.{Store, Tracked, TracksNext, Tracks, TracksAll, StandsFor, first_main_of, ahead_of}
use Rattle.store_laws.proofs.StandsWatches.{good-undelivered, watches_stand}
use Rattle.watch_hub.specs.Hub.{without_tracked, first_from, told_to, advanced_to}

-- ---- a watch is ended

tracks-left : (vs : List Version) (now n : ℕ) (ts : List Tracked) (ws : List Watch) → TracksAll vs now ts ws
    → TracksAll vs now (without_tracked n ts) (without_watch n ws)
tracks-left vs now n [] [] h = tt
tracks-left vs now n [] (w ∷ ws) h = absurd h
tracks-left vs now n (t ∷ ts) [] h = absurd h
tracks-left vs now n (t ∷ ts) (w ∷ ws) h =
    subst (λ m. TracksAll vs now (without_tracked n (t ∷ ts))
    (cond (not (m == n)) (w ∷ without_watch n ws) (without_watch n ws))) h.0.number
    (by (t.number == n) (tracks-left vs now n ts ws h.1))
  where
    by : (b : Bool) → TracksAll vs now (without_tracked n ts) (without_watch n ws)
        → TracksAll vs now (cond (not b) (t ∷ without_tracked n ts) (without_tracked n ts))
        (cond (not b) (w ∷ without_watch n ws) (without_watch n ws))
    by true l = l
    by false l = (h.0, l)

pub ended_stands : (s : Store) (w : World) → StandsFor s w → (n : ℕ)
    → StandsFor (record s { watches = without_tracked n s.watches }) (record w { watches = without_watch n w.watches })
ended_stands s w h n =
    let ts : List Tracked = without_tracked n s.watches in
    let ws : List Watch = without_watch n w.watches in
    subst (λ m. StandsFor (record s { watches = ts }) (record w { watches = ws; made = m })) h.made
    (watches_stand s w h s.made ts ws (tracks-left (versions w) (revision w) n s.watches w.watches h.watches))

-- ---- a watch was told of all up to a revision

module _ (kept ds : List Version) (held now n last : ℕ) (same : held ≡ now)
    (first : (w : Watch) → first_from kept (last + 1) w.watched ≡ first_main_of (undelivered ds (record w { next = last + 1 }))) where
  tracks-told : (t : Tracked) (w : Watch) → Tracks ds now t w → ((w.number == n) ≡ true → last ≡ last_revision (undelivered ds w))
      → Tracks ds now (cond (t.number == n) (told_to kept held last t) t)
      (cond (w.number == n) (record w { next = last_revision (undelivered ds w) + 1 }) w)
  tracks-told t w h e =
      subst (λ m. Tracks ds now (cond (m == n) (told_to kept held last t) t)
      (cond (w.number == n) (record w { next = last_revision (undelivered ds w) + 1 }) w)) (sym h.number) (by (w.number == n) refl)
    where
      next : last ≡ last_revision (undelivered ds w) → (b : Bool)
          → MatchBool b ⊤ (TracksNext ds now (told_to kept held last t) (record w { next = last_revision (undelivered ds w) + 1 }))
      next l true = tt
      next l false = record {
        first = ap (λ (x : Watched). first_from kept (last + 1) x) h.watched ∙ first w
            ∙ ap (λ r. first_main_of (undelivered ds (record w { next = r + 1 }))) l;
        ahead = ap (λ r. ahead_of r (last + 1)) same ∙ ap (λ r. ahead_of now (r + 1)) l;
      }

      by : (b : Bool) → (w.number == n) ≡ b → Tracks ds now (cond b (told_to kept held last t) t)
          (cond b (record w { next = last_revision (undelivered ds w) + 1 }) w)
      by true f = record { number = h.number; id = h.id; watched = h.watched; late = h.late; next = next (e f) w.late }
      by false f = h

  all-told : (ts : List Tracked) (ws : List Watch) → TracksAll ds now ts ws
      → AllByRecursion (λ (w : Watch). (w.number == n) ≡ true → last ≡ last_revision (undelivered ds w)) ws
      → TracksAll ds now (advanced_to kept held n last ts) (advanced ds n ws)
  all-told [] [] h e = tt
  all-told [] (w ∷ ws) h e = absurd h
  all-told (t ∷ ts) [] h e = absurd h
  all-told (t ∷ ts) (w ∷ ws) h e = (tracks-told t w h.0 e.0, all-told ts ws h.1 e.1)

-- where the watch of a number was told of all up to the last revision of its message, which is not before the last compaction
pub told_stands : (s : Store) (w : World) → StandsFor s w → (n last : ℕ) → s.compacted ≤ last + 1
    → AllByRecursion (λ (x : Watch). (x.number == n) ≡ true → last ≡ last_revision (undelivered (versions w) x)) w.watches
    → StandsFor (record s { watches = advanced_to s.versions s.revision n last s.watches })
    (record w { watches = advanced (versions w) n w.watches })
told_stands s w h n last c e =
    let ts : List Tracked = advanced_to s.versions s.revision n last s.watches in
    let ws : List Watch = advanced (versions w) n w.watches in
    let first : (x : Watch) → first_from s.versions (last + 1) x.watched
    ≡ first_main_of (undelivered (versions w) (record x { next = last + 1 }))
    = λ x. ap first_main_of (good-undelivered s.versions w.mutations w.compacted (record x { next = last + 1 }) h.good h.sound.history
    (omega (arith, c, h.compacted))) in
    subst (λ m. StandsFor (record s { watches = ts }) (record w { watches = ws; made = m })) h.made
    (watches_stand s w h s.made ts ws
    (all-told s.versions (versions w) s.revision (revision w) n last h.revision_is first s.watches w.watches h.watches e))
