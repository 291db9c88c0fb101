-- What a store holds of its watches, as it grows.
use Rattle.std.proofs.Common.{◌≡◌, ◌≤◌, ℕ, ◌+◌, List, [], ◌∷◌, ◌++◌, map, filter, Bool, true, false, ◌&&◌, cond, None, Some, refl, sym, ◌∙◌}
use Rattle.std.proofs.Common.{ap, subst, arith}
use Rattle.std.specs.Prelude.{nat_lt, nat_le, MatchBool, ⊤}
use Rattle.std.specs.Option.{option_or}
use Rattle.std.specs.List.{AllByRecursion}
use Rattle.std.proofs.lemmas.List.Elements.{filter-append}
use Rattle.std.proofs.lemmas.Bool.Decides.{nat_tests}
use Rattle.kv_model.specs.declared.version.Version.{Version}
use Rattle.kv_model.specs.History.{Mutation, now, now_after}
use Rattle.store_laws.specs.Sound.{IsBatch}
use Rattle.kv_model.specs.Watches.{matches}
use Rattle.kv_model.specs.Txns.{added_by}
use Rattle.kv_model.specs.World.{World, Watch, revision, versions, changed}
use Rattle.kv_model.specs.Watches.{undelivered}
use Rattle.store_laws.specs.Stands.{Store, Tracked, TracksNext, Tracks, TracksAll, StandsFor, first_main_of, ahead_of, is_reached}
use Rattle.store_laws.specs.Stands.{still_ahead, noted, grown_noted}
use Rattle.store_laws.proofs.PlaceLaws.{each-map}
use Rattle.store_laws.proofs.BatchLaws.{history-more, now-least, good-grows, dress-added, added_by-same, each-added}
use Rattle.store_laws.proofs.StandsLaws.{value_now_stands, grown_revision}

filter-same : {X : Type 0} (p q : X → Bool) (xs : List X) → AllByRecursion (λ x. p x ≡ q x) xs → filter p xs ≡ filter q xs
filter-same p q [] h = refl
filter-same p q (x ∷ xs) h = λ i. cond (h.0 i) (x ∷ filter-same p q xs h.1 i) (filter-same p q xs h.1 i)

first-append : (us vs : List Version) → first_main_of (us ++ vs) ≡ option_or (first_main_of us) (first_main_of vs)
first-append [] vs = refl
first-append (u ∷ us) vs = refl

-- what a watch waits for is reached by versions of the next revision just where they are not before it
reached : (n next main : ℕ) → main ≡ n + 1 → is_reached (ahead_of n next) main ≡ nat_le next main
reached n next main e = by (nat_lt (n + 1) next) refl
  where
    by : (b : Bool) → nat_lt (n + 1) next ≡ b → is_reached (cond b (Some next) None) main ≡ nat_le next main
    by true f = refl
    by false f = grind (arith, nat_tests)

ahead-after : (n m next : ℕ) → n ≤ m → still_ahead m (ahead_of n next) ≡ ahead_of m next
ahead-after n m next l = by (nat_lt (n + 1) next) refl
  where
    by : (b : Bool) → nat_lt (n + 1) next ≡ b → still_ahead m (cond b (Some next) None) ≡ ahead_of m next
    by true f = refl
    by false f = let g : nat_lt (m + 1) next ≡ false = grind (arith, nat_tests) in sym (ap (λ c. cond c (Some next) None) g)

module _ (ds new : List Version) (n m : ℕ) (at : AllByRecursion (λ v. v.rev.main ≡ n + 1) new) (l : n ≤ m) where
  next-noted : (t : Tracked) (w : Watch) → t.watched ≡ w.watched → TracksNext ds n t w
      → TracksNext (ds ++ new) m (record t {
        first = option_or t.first (first_main_of (filter (λ v. is_reached t.ahead v.rev.main
            && matches t.watched v) new));
        ahead = still_ahead m t.ahead;
      }) w
  next-noted t w e h = record {
    first = (λ i. option_or (h.first i) (first_main_of (filter (λ v. is_reached (h.ahead i) v.rev.main && matches (e i) v) new)))
        ∙ ap (λ us. option_or (first_main_of (undelivered ds w)) (first_main_of us)) (filter-same (λ v. is_reached (ahead_of n w.next)
        v.rev.main && matches w.watched v) (λ v. nat_le w.next v.rev.main && matches w.watched v) new
        (each-map (λ v. v.rev.main ≡ n + 1) (λ v. (is_reached (ahead_of n w.next) v.rev.main && matches w.watched v)
        ≡ (nat_le w.next v.rev.main && matches w.watched v))
        (λ v f. ap (λ b. b && matches w.watched v) (reached n w.next v.rev.main f)) new at))
        ∙ sym (first-append (undelivered ds w) (undelivered new w))
        ∙ ap first_main_of (sym (filter-append (λ v. nat_le w.next v.rev.main && matches w.watched v) ds new));
    ahead = ap (still_ahead m) h.ahead ∙ ahead-after n m w.next l;
  }

  pub tracks-noted : (t : Tracked) (w : Watch) → Tracks ds n t w → Tracks (ds ++ new) m (noted new m t) w
  tracks-noted t w h = by t.late refl
    where
      by : (b : Bool) → t.late ≡ b
          → Tracks (ds ++ new) m (cond b t (record t {
            first = option_or t.first (first_main_of (filter (λ v. is_reached t.ahead v.rev.main
                && matches t.watched v) new));
            ahead = still_ahead m t.ahead;
          })) w
      by true e = record {
        number = h.number;
        id = h.id;
        watched = h.watched;
        late = h.late;
        next = subst (λ c. MatchBool c ⊤ (TracksNext (ds ++ new) m t w)) (sym e ∙ h.late) tt;
      }
      by false e = record {
        number = h.number;
        id = h.id;
        watched = h.watched;
        late = h.late;
        next = subst (λ c. MatchBool c ⊤ (TracksNext (ds
            ++ new) m (record t {
              first = option_or t.first (first_main_of (filter (λ v. is_reached t.ahead v.rev.main
                  && matches t.watched v) new));
              ahead = still_ahead m t.ahead;
            }) w))
            (sym e ∙ h.late) (next-noted t w h.watched (subst (λ c. MatchBool c ⊤ (TracksNext ds n t w)) (sym h.late ∙ e) h.next));
      }

  pub all-noted : (ts : List Tracked) (ws : List Watch) → TracksAll ds n ts ws → TracksAll (ds ++ new) m (map (noted new m) ts) ws
  all-noted [] [] h = tt
  all-noted [] (w ∷ ws) h = h
  all-noted (t ∷ ts) [] h = h
  all-noted (t ∷ ts) (w ∷ ws) h = (tracks-noted t w h.0, all-noted ts ws h.1)

-- a store and its watches go on standing for a world with the changes of one more command
pub noted_stands : (s : Store) (w : World) → StandsFor s w → (us : List Mutation) → IsBatch (s.revision + 1) us
    → StandsFor (grown_noted s us) (changed w us)
noted_stands s w h us b = record {
  sound = record { history = history-more w.mutations us h.sound.history batch; floor = floor };
  good = good-grows s.versions w.mutations us w.compacted h.good h.sound.history h.sound.floor batch;
  revision_is = grown_revision s w h us;
  compacted = h.compacted;
  leases = h.leases;
  clock = h.clock;
  made = h.made;
  watches = subst (λ vs. TracksAll vs (revision (changed w us)) (map (noted (added_by s.versions us) (now_after s.revision us)) s.watches)
      w.watches) (sym (dress-added w.mutations us))
      (subst (λ new. TracksAll (versions w ++ added_by (versions w) us) (revision (changed w us)) (map (noted new (now_after s.revision us))
      s.watches) w.watches) (sym (added_by-same s.versions (versions w) us (value_now_stands s w h)))
      (subst (λ r. TracksAll (versions w ++ added_by (versions w) us) (revision (changed w us)) (map (noted (added_by (versions w) us) r)
      s.watches) w.watches) (sym (grown_revision s w h us))
      (all-noted (versions w) (added_by (versions w) us) (revision w) (revision (changed w us)) (each-added (λ p k. p.main
      ≡ revision w + 1) (versions w) us batch.at) (now-least w.mutations us batch.at) s.watches w.watches h.watches)));
}
  where
    batch : IsBatch (now w.mutations + 1) us
    batch = subst (λ r. IsBatch (r + 1) us) h.revision_is b

    floor : w.compacted ≤ now (w.mutations ++ us)
    floor = let l : now w.mutations ≤ now (w.mutations ++ us) = now-least w.mutations us batch.at in omega (arith, h.sound.floor)
