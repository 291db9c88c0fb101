-- Where nothing is left to take out, each version has its need, and the certificate passes its check.
use Rattle.std.proofs.Common.{◌≡◌, ◌≤◌, ◌<◌, ◌≢◌, ℕ, ℤ, max, length, filter, List, [], ◌∷◌, find, filter_map, Bool, true, false, not, ◌&&◌, cond}
use Rattle.std.proofs.Common.{Option, None, Some, refl, sym, ◌∙◌, ap, subst, inl, inr, arith}
use Rattle.std.specs.Prelude.{option_map, nat_lt, ◌==◌}
use Rattle.std.proofs.lemmas.Bool.{le-leb, le-ltb, lt-ltb, eq-eqb, eqb-true}
use Rattle.std.specs.Option.{option_or}
use Rattle.std.specs.List.{AllByRecursion, cons_option}
use Rattle.std.proofs.lemmas.List.Sums.{length-filter}
use Rattle.kv_model.specs.declared.version.Version.{Version}
use Rattle.kv_model.specs.declared.version.Body.{Body}
use Rattle.kv_model.specs.declared.version.Body.TheVariants.{Put, Gone}
use Rattle.kv_model.specs.Lists.{IsPart, IsIn, is_empty}
use Rattle.kv_model.specs.Keys.{same_key}
use Rattle.kv_model.specs.History.{value_at, end_of, is_tombstone, is_superseded, is_next_at}
use Rattle.kv_model.specs.Ranges.{plain_range}
use Rattle.kv_model.specs.Watches.{before_is_kept}
use Rattle.kv_model.specs.World.{World, revision, versions}
use Rattle.store_laws.specs.Sound.{IsSound}
use Rattle.kv_model.specs.Questions.{Question, IsKept, answered, IsGood}
use Rattle.kv_model.specs.Certificates.{HasNeed, Claim, Need}
use Rattle.kv_model.specs.Certificates.{put_need, need_of, claim_of, claims_of, is_met, is_asked, NeedFault, fall_after, first_fall, is_double}
use Rattle.kv_model.specs.Certificates.{claims_fault, first_fault}
use Rattle.kv_model.specs.Headline.{dump_of, AreNeeds}
use Rattle.store_laws.specs.TrimmingLaws.{SettledIsCertified}
use Rattle.store_laws.proofs.PartLaws.{in_whole}
use Rattle.store_laws.proofs.Compacting.{kvs_of, plain_shows, one_listed}
use Rattle.store_laws.proofs.HistoryLaws.{same_key-eq}
use Rattle.store_laws.proofs.TrimLaws.{Precedes, AreRising, rising-dress, rising-part}
use Rattle.store_laws.proofs.LeastLaws.{IsLeft, IsPrevious, last-or-previous, put-in, told-in, rising, sits, put-kept, put-shown}
use Rattle.store_laws.proofs.LeastLaws.{tombstone-kept, previous-kept, previous-stays}

-- what answers a plain Range alike holds the same
pub same-value : (us vs : List Version) (c n r : ℕ) (k : List ℕ) → k ≢ [] → IsKept c n r
    → answered us c n (Question.range (plain_range k r)) ≡ answered vs c n (Question.range (plain_range k r)) → value_at us (end_of r) k
    ≡ value_at vs (end_of r) k
same-value us vs c n r [] ne h e = absurd (ne refl)
same-value us vs c n r (x ∷ k) ne h e = one_listed _ _ (sym (plain_shows us c n r x k h) ∙ ap kvs_of e ∙ plain_shows vs c n r x k h)

not-empty : (k : List ℕ) → k ≢ [] → is_empty k ≡ false
not-empty [] h = absurd (h refl)
not-empty (x ∷ k) h = refl

-- a need that a version has in the dump, and has in the whole history
record HasOwn (w : World) (vs : List Version) (v : Version) : Type 0 where
  need : Need
  listed : need_of (dump_of w vs) v v.body ≡ Some need
  has : HasNeed w.compacted (revision w) (versions w) v need
  met : is_met (dump_of w vs) v need ≡ true

module _ (w : World) (sound : IsSound w) (vs : List Version) (g : IsGood vs w.mutations w.compacted) (v : Version) (i : IsIn v vs)
    (left : IsLeft vs w.compacted v) where
  asked : (r : ℕ) → IsKept w.compacted (revision w) r → is_asked (dump_of w vs) v r ≡ true
  asked r k = λ j. not (not-empty v.key (sits w.mutations w.compacted sound.history sound.floor vs g v i left).has_key j)
      && le-leb 1 r k.first j && le-leb w.compacted r k.kept j && le-leb r (revision w) k.past j

  -- nothing replaces it at the revision of the Range
  last-need : (create version : ℕ) (lease : ℤ) (value : List ℕ) → v.body ≡ Put create version lease value
      → is_superseded vs (max v.rev.main w.compacted) v ≡ false → HasOwn w vs v
  last-need create version lease value b alone = record {
    need = Need.range r;
    listed = ap (need_of (dump_of w vs) v) b ∙ ap (λ t. put_need t (nat_lt v.rev.main w.compacted && is_next_at vs w.compacted v) r w.compacted) alone;
    has = record { asked = record { revision = r; is = refl; kept = kept; has_key = has_key }; needed = needed };
    met = λ j. asked r kept j && not (live j) && le-leb v.rev.main r (omega arith) j && not (alone j);
  }
    where
      r : ℕ
      r = max v.rev.main w.compacted

      kept : IsKept w.compacted (revision w) r
      kept = put-kept w.mutations w.compacted sound.history sound.floor vs g v i left

      has_key : v.key ≢ []
      has_key = (sits w.mutations w.compacted sound.history sound.floor vs g v i left).has_key

      live : is_tombstone v.body ≡ false
      live = ap is_tombstone b

      needed : (us : List Version) → IsPart us (versions w) → (IsIn v us → ⊥)
          → answered us w.compacted (revision w) (Question.range (plain_range v.key r))
          ≢ answered (versions w) w.compacted (revision w) (Question.range (plain_range v.key r))
      needed us part out e = out (put-in us (versions w) v r (rising-dress w.mutations sound.history) part (in_whole g.part v i) live
          (same-value us (versions w) w.compacted (revision w) r v.key has_key kept e
          ∙ put-shown w.mutations w.compacted sound.history sound.floor vs g v i left alone))

  -- the next version of its key is at the compaction
  previous-need : (create version : ℕ) (lease : ℤ) (value : List ℕ) → v.body ≡ Put create version lease value
      → IsPrevious vs w.compacted v → HasOwn w vs v
  previous-need create version lease value b p = record {
    need = Need.prev w.compacted;
    listed = ap (need_of (dump_of w vs) v) b
        ∙ ap (λ t. put_need t (nat_lt v.rev.main w.compacted && is_next_at vs w.compacted v) (max v.rev.main w.compacted) w.compacted) replaced
        ∙ ap (λ t. put_need true t (max v.rev.main w.compacted) w.compacted) next;
    has = record {
      asked = kept;
      needed = λ us part out e. out (previous-stays w.mutations w.compacted sound.history sound.floor vs g v i left us part live p e);
    };
    met = λ j. asked w.compacted kept j && not (live j) && (p.replaced j && not (p.alone j));
  }
    where
      kept : IsKept w.compacted (revision w) w.compacted
      kept = previous-kept w.mutations w.compacted sound.history sound.floor vs g v i left p

      live : is_tombstone v.body ≡ false
      live = ap is_tombstone b

      replaced : is_superseded vs (max v.rev.main w.compacted) v ≡ true
      replaced = let a : v.rev.main < w.compacted = p.below in
          let same : max v.rev.main w.compacted ≡ w.compacted = omega arith in
          ap (λ r. is_superseded vs r v) same ∙ p.replaced

      next : (nat_lt v.rev.main w.compacted && is_next_at vs w.compacted v) ≡ true
      next = λ j. lt-ltb v.rev.main w.compacted p.below j && (p.replaced j && not (p.alone j))

  put-need : (create version : ℕ) (lease : ℤ) (value : List ℕ) → v.body ≡ Put create version lease value → HasOwn w vs v
  put-need create version lease value b =
      elim (last-or-previous vs w.compacted v (rising w.mutations w.compacted sound.history sound.floor vs g v i left) i left) [
        | inl alone ↦ last-need create version lease value b alone
        | inr p ↦ previous-need create version lease value b p
      ]

  gone-need : v.body ≡ Gone → HasOwn w vs v
  gone-need b = record {
    need = Need.watch v.rev.main;
    listed = ap (need_of (dump_of w vs) v) b ∙ ap (λ t. cond t (Some (Need.watch v.rev.main)) None) (le-leb w.compacted v.rev.main
        kept.kept);
    has = record {
      asked = kept;
      needed = λ us part out e. out (told-in before_is_kept us (versions w) w.compacted (revision w) v
          (in_whole g.part v i) e);
    };
    met = λ j. asked v.rev.main kept j && eq-eqb v.rev.main v.rev.main refl j;
  }
    where
      kept : IsKept w.compacted (revision w) v.rev.main
      kept = tombstone-kept w.mutations w.compacted sound.history sound.floor vs g v i left (ap is_tombstone b)

  own : HasOwn w vs v
  own = by v.body refl
    where
      by : (b : Body) → v.body ≡ b → HasOwn w vs v
      by (Put create version lease value) e = put-need create version lease value e
      by Gone e = gone-need e

-- ---- the list of claims

-- each of these versions has its own need
abbrev AllHaveOwn : World → List Version → List Version → Type 0
AllHaveOwn w vs us = AllByRecursion (HasOwn w vs) us

claimed : (w : World) (vs : List Version) (v : Version) (h : HasOwn w vs v) → claim_of (dump_of w vs) v
    ≡ Some (record { rev = v.rev; need = h.need })
claimed w vs v h = ap (option_map (λ n. record { rev = v.rev; need = n })) h.listed

are-needs : (w : World) (vs us : List Version) → AllHaveOwn w vs us → AreNeeds w us (filter_map (claim_of (dump_of w vs)) us)
are-needs w vs [] h = tt
are-needs w vs (u ∷ us) h = subst (λ (o : Option Claim). AreNeeds w (u ∷ us) (cons_option o (filter_map (claim_of (dump_of w vs)) us)))
    (sym (claimed w vs u h.0)) (refl, h.0.has, are-needs w vs us h.1)

matches_claims : (w : World) (vs us : List Version) → AllHaveOwn w vs us
    → claims_fault (dump_of w vs) us (filter_map (claim_of (dump_of w vs)) us) ≡ None
matches_claims w vs [] h = refl
matches_claims w vs (u ∷ us) h =
    ap (λ (o : Option Claim). claims_fault (dump_of w vs) (u ∷ us) (cons_option o (filter_map (claim_of (dump_of w vs)) us)))
    (claimed w vs u h.0)
    ∙ (λ i. cond (eq-eqb u.rev.main u.rev.main refl i && eq-eqb u.rev.sub u.rev.sub refl i)
    (cond (h.0.met i) (claims_fault (dump_of w vs) us (filter_map (claim_of (dump_of w vs)) us)) (Some (NeedFault.need_unmet u.rev)))
    (Some (NeedFault.no_need u.rev)))
    ∙ matches_claims w vs us h.1

-- ---- a list that rises has no fault of its own

no-fall : (u : Version) (vs : List Version) → AllByRecursion (Precedes u) vs → AreRising vs → fall_after u.rev vs ≡ None
no-fall u [] h g = refl
no-fall u (v ∷ vs) h g = ap (λ b. cond b (fall_after v.rev vs) (Some v.rev)) h.0.0 ∙ no-fall v vs g.0 g.1

rises : (vs : List Version) → AreRising vs → first_fall vs ≡ None
rises [] h = refl
rises (v ∷ vs) h = no-fall v vs h.0 h.1

-- the two have one key and one main revision
abbrev pub is_twin : Version → Version → Bool
is_twin v u = same_key u.key v.key && u.rev.main == v.rev.main

pub twins : (v u : Version) → is_twin v u ≡ true → (u.key ≡ v.key) × (u.rev.main ≡ v.rev.main)
twins v u e = by (same_key u.key v.key) refl (u.rev.main == v.rev.main) refl e
  where
    by : (a : Bool) → same_key u.key v.key ≡ a → (b : Bool) → (u.rev.main == v.rev.main) ≡ b → (a && b) ≡ true → (u.key ≡ v.key)
        × (u.rev.main ≡ v.rev.main)
    by true d true f e = (same_key-eq u.key v.key d, eqb-true u.rev.main v.rev.main f)
    by true d false f e = cc
    by false d b f e = cc

no-twin : (v u : Version) (vs : List Version) → is_twin v u ≡ true → AllByRecursion (Precedes u) vs → filter (is_twin v) vs ≡ []
no-twin v u [] e h = refl
no-twin v u (x ∷ xs) e h = by (is_twin v x) refl (no-twin v u xs e h.1)
  where
    by : (b : Bool) → is_twin v x ≡ b → filter (is_twin v) xs ≡ [] → cond b (x ∷ filter (is_twin v) xs) (filter (is_twin v) xs) ≡ []
    by true f rest = let a = twins v u e in let b = twins v x f in absurd (h.0.1 (a.1 ∙ sym b.1) (a.0 ∙ sym b.0))
    by false f rest = rest

one-twin : (v : Version) (vs : List Version) → AreRising vs → length (filter (is_twin v) vs) ≤ 1
one-twin v [] h = omega arith
one-twin v (x ∷ xs) h = by (is_twin v x) refl (one-twin v xs h.1)
  where
    by : (b : Bool) → is_twin v x ≡ b → length (filter (is_twin v) xs) ≤ 1
        → length (cond b (x ∷ filter (is_twin v) xs) (filter (is_twin v) xs)) ≤ 1
    by true f rest = let e : length (filter (is_twin v) xs) ≡ 0 = ap length (no-twin v x xs f h.0) in omega arith
    by false f rest = rest

no-double : (vs us : List Version) → AreRising vs → find (is_double vs) us ≡ None
no-double vs [] h = refl
no-double vs (u ∷ us) h =
    ap (λ b. cond b (Some u) (find (is_double vs) us)) (ap (nat_lt 1) (sym (length-filter (is_twin u) vs))
    ∙ le-ltb 1 (length (filter (is_twin u) vs)) (one-twin u vs h)) ∙ no-double vs us h

-- ---- the certificate

all-own : (w : World) (sound : IsSound w) (vs : List Version) (g : IsGood vs w.mutations w.compacted) (us : List Version)
    → ((v : Version) → IsIn v us → IsIn v vs) → AllByRecursion (IsLeft vs w.compacted) us → AllHaveOwn w vs us
all-own w sound vs g [] f h = tt
all-own w sound vs g (u ∷ us) f h = (own w sound vs g u (f u (inl refl)) h.0, all-own w sound vs g us (λ v i. f v (inr i)) h.1)

pub settled-certified : SettledIsCertified
unfolding claims_of first_fault
settled-certified w vs sound g left =
    let have : AllHaveOwn w vs vs = all-own w sound vs g vs (λ v i. i) left in
    let rising : AreRising vs = rising-part g.part (rising-dress w.mutations sound.history) in
    record {
      passes = (λ i. option_or (option_map NeedFault.not_rising (rises vs rising i))
          (option_or (option_map NeedFault.double_key (option_map (λ v. v.rev) (no-double vs vs rising i))) (matches_claims w vs vs have
          i)));
      needs = are-needs w vs vs have;
    }
