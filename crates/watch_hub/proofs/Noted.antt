-- Watches take note of versions one after another, each by the guards that its key may concern.
use Rattle.std.proofs.Common.{◌≡◌, ◌⊎◌, inl, inr, ℕ, ◌+◌, ◌<◌, ◌≤◌, ℤ, List, [], ◌∷◌, length, get_or, filter, Bool, true, false, ◌&&◌, ◌==◌, cond}
use Rattle.std.proofs.Common.{nat_lt, Option, None, Some, option_map, option_and_then, refl, sym, ◌∙◌, ap, subst, arith}
use Rattle.std.specs.Option.{option_or}
use Rattle.std.proofs.lemmas.Bool.Decides.{nat_tests}
use Rattle.kv_model.specs.declared.version.Version.{Version}
use Rattle.kv_model.specs.declared.call.Watched.{Watched}
use Rattle.kv_model.specs.Keys.{in_range}
use Rattle.kv_model.specs.Watches.{matches, wants}
use Rattle.store_laws.specs.Stands.{Tracked, noted, first_main_of, is_reached, still_ahead}
use Rattle.watch_hub.specs.declared.guards.Guard.{Guard}
use Rattle.watch_hub.specs.Guards.{ArePast, AreToCome}
use Rattle.watch_hub.specs.Entries.{AreGuarded, AreReached}
use Rattle.watch_hub.proofs.Ends.{unbegun-outside, past-outside}
use Rattle.watch_hub.proofs.Guarding.{GuardOf, guard-of}

-- ---- what one watch notes, where it waits for no revision that is to come

or-none : (o : Option ℕ) → option_or o None ≡ o
or-none None = refl
or-none (Some m) = refl

or-same : (o : Option ℕ) → option_or o o ≡ o
or-same None = refl
or-same (Some m) = refl

-- a version whose key is not in the range
pub unconcerned : (v : Version) (now : ℕ) (t : Tracked) → t.ahead ≡ None → in_range t.watched.range v.key ≡ false → noted (v ∷ []) now t ≡ t
unconcerned v now t e h = by t.late
  where
    none : (first_main_of (filter (λ u. is_reached t.ahead u.rev.main && matches t.watched u) (v ∷ []))) ≡ None
    none = (λ i. first_main_of (cond (is_reached (e i) v.rev.main && (h i && wants t.watched v.body)) (v ∷ []) []))

    first : option_or t.first (first_main_of (filter (λ u. is_reached t.ahead u.rev.main && matches t.watched u) (v ∷ []))) ≡ t.first
    first = ap (option_or t.first) none ∙ or-none t.first

    ahead : still_ahead now t.ahead ≡ t.ahead
    ahead = ap (still_ahead now) e ∙ sym e

    by : (b : Bool) → cond b t (record t {
      first = option_or t.first (first_main_of (filter (λ u. is_reached t.ahead u.rev.main && matches t.watched u) (v ∷ [])));
      ahead = still_ahead now t.ahead;
    }) ≡ t
    by true = refl
    by false = λ i. record t { first = first i; ahead = ahead i }

-- a watch by what is held of it
abbrev pub held : ℕ → ℤ → Watched → Bool → Option ℕ → Option ℕ → Tracked
held number id watched late first ahead = record {
  number = number;
  id = id;
  watched = watched;
  late = late;
  first = first;
  ahead = ahead;
}

again-held : (v : Version) (now n : ℕ) (id : ℤ) (w : Watched) (late : Bool) (first ahead : Option ℕ) → ahead ≡ None
    → noted (v ∷ []) now (noted (v ∷ []) now (held n id w late first ahead)) ≡ noted (v ∷ []) now (held n id w late first ahead)
again-held v now n id w true first ahead e = refl
again-held v now n id w false (Some m) None e = refl
again-held v now n id w false None None e =
    ap (λ o. held n id w false o None) (or-same (first_main_of (filter (λ u. true && matches w u) (v ∷ []))))
again-held v now n id w false first (Some m) e = absurd (cc)

-- a version that was noted
pub again : (v : Version) (now : ℕ) (t : Tracked) → t.ahead ≡ None → noted (v ∷ []) now (noted (v ∷ []) now t) ≡ noted (v ∷ []) now t
again v now t e = again-held v now t.number t.id t.watched t.late t.first t.ahead e

later-held : (v : Version) (vs : List Version) (now n : ℕ) (id : ℤ) (w : Watched) (late : Bool) (first ahead : Option ℕ) → ahead ≡ None
    → noted vs now (noted (v ∷ []) now (held n id w late first ahead)) ≡ noted (v ∷ vs) now (held n id w late first ahead)
later-held v vs now n id w true first ahead e = refl
later-held v vs now n id w false (Some m) None e = refl
later-held v vs now n id w false None None e = ap (λ o. held n id w false o None) (by (matches w v))
  where
    rest : List Version
    rest = filter (λ u. true && matches w u) vs

    by : (b : Bool) → option_or (first_main_of (cond (true && b) (v ∷ []) [])) (first_main_of rest) ≡ first_main_of (cond (true && b) (v ∷ rest) rest)
    by true = refl
    by false = refl
later-held v vs now n id w false first (Some m) e = absurd (cc)

-- versions behind the first
pub later : (v : Version) (vs : List Version) (now : ℕ) (t : Tracked) → t.ahead ≡ None
    → noted vs now (noted (v ∷ []) now t) ≡ noted (v ∷ vs) now t
later v vs now t e = later-held v vs now t.number t.id t.watched t.late t.first t.ahead e

noted-watched : (vs : List Version) (now : ℕ) (t : Tracked) → (noted vs now t).watched ≡ t.watched
noted-watched vs now t = by t.late
  where
    by : (b : Bool) → (cond b t (record t {
      first = option_or t.first (first_main_of (filter (λ v. is_reached t.ahead v.rev.main && matches t.watched v) vs));
      ahead = still_ahead now t.ahead;
    })).watched ≡ t.watched
    by true = refl
    by false = refl

noted-ahead : (vs : List Version) (now : ℕ) (t : Tracked) → t.ahead ≡ None → (noted vs now t).ahead ≡ None
noted-ahead vs now t e = by t.late
  where
    by : (b : Bool) → (cond b t (record t {
      first = option_or t.first (first_main_of (filter (λ v. is_reached t.ahead v.rev.main && matches t.watched v) vs));
      ahead = still_ahead now t.ahead;
    })).ahead ≡ None
    by true = e
    by false = ap (still_ahead now) e

-- ---- each watch takes note

module _ (vs : List Version) (now : ℕ) (before after : ℕ → Option Tracked) (each : (place : ℕ) → after place ≡ option_map (noted vs now) (before place)) where
  pub guarded-noted : (gs : List Guard) → AreGuarded before gs → AreGuarded after gs
  guarded-noted gs h place = h place ∙ by (before place) ∙ ap (option_map (λ t. t.watched.range)) (sym (each place))
    where
      by : (o : Option Tracked) → option_map (λ t. t.watched.range) o ≡ option_map (λ t. t.watched.range) (option_map (noted vs now) o)
      by None = refl
      by (Some t) = ap (λ w. Some w.range) (sym (noted-watched vs now t))

  pub reached-noted : AreReached before → AreReached after
  reached-noted h place = ap (option_and_then (λ t. t.ahead)) (each place) ∙ by (before place) (h place)
    where
      by : (o : Option Tracked) → option_and_then (λ t. t.ahead) o ≡ None → option_and_then (λ t. t.ahead) (option_map (noted vs now) o) ≡ None
      by None e = refl
      by (Some t) e = noted-ahead vs now t e

-- one version, and then those behind it
pub each-later : (v : Version) (vs : List Version) (now : ℕ) (o : Option Tracked) → option_and_then (λ t. t.ahead) o ≡ None
    → option_map (noted vs now) (option_map (noted (v ∷ []) now) o) ≡ option_map (noted (v ∷ vs) now) o
each-later v vs now None e = refl
each-later v vs now (Some t) e = ap Some (later v vs now t e)

each-again : (v : Version) (now : ℕ) (o : Option Tracked) → option_and_then (λ t. t.ahead) o ≡ None
    → option_map (noted (v ∷ []) now) (option_map (noted (v ∷ []) now) o) ≡ option_map (noted (v ∷ []) now) o
each-again v now None e = refl
each-again v now (Some t) e = ap Some (again v now t e)

-- ---- the walk over the guards, from the back

module _ (gs : List Guard) (v : Version) (now : ℕ) (before : ℕ → Option Tracked) where
  abbrev pub IsDone : (ℕ → Option Tracked) → ℕ → Type 0
  IsDone after place = after place ≡ option_map (noted (v ∷ []) now) (before place)

  -- the watches of the guards from an index on took note, and each other watch did or is as it was
  pub record IsNoting (after : ℕ → Option Tracked) (left : ℕ) : Type 0 where
    pub either : (place : ℕ) → (after place ≡ before place) ⊎ IsDone after place
    pub done : (j : ℕ) (d : Guard) (t : Tracked) → left ≤ j → j < length gs → before (get_or gs j d).place ≡ Some t
        → t.watched.range ≡ (get_or gs j d).range → IsDone after (get_or gs j d).place

  -- a watch that the version does not concern
  aside : (after : ℕ → Option Tracked) (place : ℕ) (t : Tracked) → before place ≡ Some t → t.ahead ≡ None
      → in_range t.watched.range v.key ≡ false → (after place ≡ before place) ⊎ IsDone after place → IsDone after place
  aside after place t e a h (inl same) =
      same ∙ e ∙ ap Some (sym (unconcerned v now t a h)) ∙ ap (option_map (noted (v ∷ []) now)) (sym e)
  aside after place t e a h (inr done) = done

  ahead-none : AreReached before → (place : ℕ) (t : Tracked) → before place ≡ Some t → t.ahead ≡ None
  ahead-none r place t e = ap (option_and_then (λ u. u.ahead)) (sym e) ∙ r place

  pub noting-begins : AreReached before → (left : ℕ) → AreToCome gs v.key left → IsNoting before left
  noting-begins r left c = record {
    either = λ place. inl refl;
    done = λ j d t l m e s. aside before (get_or gs j d).place t e (ahead-none r (get_or gs j d).place t e)
        (ap (λ x. in_range x v.key) s ∙ unbegun-outside (get_or gs j d).range v.key (c j d l m)) (inl refl);
  }

  -- guards that the key is behind
  pub noting-passes : AreReached before → (after : ℕ → Option Tracked) (from left : ℕ) → IsNoting after left → ArePast gs v.key from left
      → IsNoting after from
  noting-passes r after from left h p = record { either = h.either; done = λ j d t l m e s. by j d t l m e s (nat_lt j left) refl }
    where
      by : (j : ℕ) (d : Guard) (t : Tracked) → from ≤ j → j < length gs → before (get_or gs j d).place ≡ Some t
          → t.watched.range ≡ (get_or gs j d).range → (b : Bool) → nat_lt j left ≡ b → IsDone after (get_or gs j d).place
      by j d t l m e s true f = aside after (get_or gs j d).place t e (ahead-none r (get_or gs j d).place t e)
          (ap (λ x. in_range x v.key) s ∙ past-outside (get_or gs j d).range v.key (p j d l (grind (arith, nat_tests))))
          (h.either (get_or gs j d).place)
      by j d t l m e s false f = h.done j d t (grind (arith, nat_tests)) m e s

  -- the watch of one guard takes note
  pub noting-goes : AreReached before → (old new : ℕ → Option Tracked) (index place : ℕ) → IsNoting old (index + 1)
      → ((d : Guard) → (get_or gs index d).place ≡ place) → new place ≡ option_map (noted (v ∷ []) now) (old place)
      → ((other : ℕ) → (other ≡ place → ⊥) → new other ≡ old other) → IsNoting new index
  noting-goes r old new index place h g n o = record {
    either = λ p. stays p (p == place) refl (h.either p);
    done = λ j d t l m e s. by j d t l m e s (j == index) refl;
  }
    where
      here : (old place ≡ before place) ⊎ IsDone old place → IsDone new place
      here (inl same) = n ∙ ap (option_map (noted (v ∷ []) now)) same
      here (inr done) = n ∙ ap (option_map (noted (v ∷ []) now)) done ∙ each-again v now (before place) (r place)

      stays : (p : ℕ) (b : Bool) → (p == place) ≡ b → (old p ≡ before p) ⊎ IsDone old p → (new p ≡ before p) ⊎ IsDone new p
      stays p true e x = inr (subst (IsDone new) (let same : place ≡ p = grind (arith, nat_tests) in same) (here (h.either place)))
      stays p false e (inl same) = inl (o p (grind (arith, nat_tests)) ∙ same)
      stays p false e (inr done) = inr (o p (grind (arith, nat_tests)) ∙ done)

      kept : (p : ℕ) (b : Bool) → (p == place) ≡ b → IsDone old p → IsDone new p
      kept p true e x = subst (IsDone new) (let same : place ≡ p = grind (arith, nat_tests) in same) (here (h.either place))
      kept p false e x = o p (grind (arith, nat_tests)) ∙ x

      by : (j : ℕ) (d : Guard) (t : Tracked) → index ≤ j → j < length gs → before (get_or gs j d).place ≡ Some t
          → t.watched.range ≡ (get_or gs j d).range → (b : Bool) → (j == index) ≡ b → IsDone new (get_or gs j d).place
      by j d t l m e s true f =
          subst (IsDone new) (sym (g d) ∙ ap (λ x. (get_or gs x d).place) (let same : index ≡ j = grind (arith, nat_tests) in same)) (here (h.either place))
      by j d t l m e s false f =
          kept (get_or gs j d).place ((get_or gs j d).place == place) refl (h.done j d t (grind (arith, nat_tests)) m e s)

  -- all guards were passed
  pub noting-ends : AreGuarded before gs → (after : ℕ → Option Tracked) → IsNoting after 0 → (place : ℕ) → IsDone after place
  noting-ends a after h place = by (before place) refl (h.either place)
    where
      at : (t : Tracked) → before place ≡ Some t → GuardOf gs place t.watched.range → (d : Guard) → IsDone after place
      at t e f d = subst (IsDone after) (f.place_is d)
          (h.done f.index d t (omega arith) f.within (ap before (f.place_is d) ∙ e) (sym (f.range_is d)))

      by : (o : Option Tracked) → before place ≡ o → (after place ≡ before place) ⊎ IsDone after place → IsDone after place
      by None e (inl same) = same ∙ e ∙ ap (option_map (noted (v ∷ []) now)) (sym e)
      by None e (inr done) = done
      by (Some t) e x = at t e (guard-of gs place t.watched.range (a place ∙ ap (option_map (λ u. u.watched.range)) e))
          (record { range = t.watched.range; place = place })
