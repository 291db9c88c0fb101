-- Reads of an index that agrees with its versions.
use Rattle.std.proofs.Common.{◌≡◌, ◌≢◌, ℕ, List, [], ◌∷◌, map, filter, filter_map, Bool, true, false, ◌||◌, ◌&&◌, not, cond}
use Rattle.std.proofs.Common.{Option, None, Some, option_map, option_and_then, unwrap_or, refl, sym, ◌∙◌, ap}
use Rattle.std.specs.Option.{option_or}
use Rattle.std.specs.List.{AllByRecursion, list_any, cons_option}
use Rattle.std.specs.Ordering.{is_eq, ordering_reverse}
use Rattle.std.specs.Cmp.Lexicographic.{nat_list_cmp_total}
use Rattle.kv_model.specs.declared.version.Rev.{Rev}
use Rattle.kv_model.specs.declared.version.Version.{Version}
use Rattle.kv_model.specs.declared.version.KeyRange.{KeyRange}
use Rattle.kv_model.specs.Lists.{is_empty}
use Rattle.kv_model.specs.Keys.{same_key, in_range}
use Rattle.kv_model.specs.History.{rev_le, latest, key_value, value_at}
use Rattle.kv_model.specs.Ranges.{keys, live, value_within}
use Rattle.store_laws.proofs.KeyLaws.{same_keys, ascending-keys, has_key, has_key-keys, IsAscending, AllAbove, cmp-refl}
use Rattle.key_index.specs.KeyRevisions.{at_place}
use Rattle.key_index.specs.Index.{Index, IsIndex, found, revisions, in_interval}
use Rattle.key_index.specs.Agrees.{revisions_of, Agrees, read_at, read_entry, FindsLatest}
use Rattle.key_index.proofs.Keys.{eq-same}
use Rattle.key_index.proofs.Entries.{IsBelow, has}

-- ---- one key

map-or : (o : Option Rev) (p : Option Version) → o ≡ option_map (λ (v : Version). v.rev) p → (q : Option Rev) (v : Option Version)
    → q ≡ option_map (λ (v : Version). v.rev) v → option_or o q ≡ option_map (λ (v : Version). v.rev) (option_or p v)
map-or o None e q v f = ap (λ x. option_or x q) e ∙ f
map-or o (Some u) e q v f = ap (λ x. option_or x q) e

or_none : (o : Option Version) → option_or o None ≡ o
or_none None = refl
or_none (Some u) = refl

at-revisions_of : (p : Rev) (k : List ℕ) (vs : List Version)
    → at_place p (revisions_of k vs) ≡ option_map (λ (v : Version). v.rev) (latest vs p k)
at-revisions_of p k [] = refl
at-revisions_of p k (v ∷ vs) = by (same_key v.key k) (at-revisions_of p k vs)
  where
    rev_of : Option Version → Option Rev
    rev_of o = option_map (λ (w : Version). w.rev) o

    others : List Version
    others = filter (λ (w : Version). same_key w.key k) vs

    shown : (b : Bool) → let none : Option Rev = None in cond b (Some v.rev) none ≡ rev_of (cond b (Some v) None)
    shown true = refl
    shown false = refl

    by : (b : Bool) → at_place p (revisions_of k vs) ≡ rev_of (latest vs p k)
        → at_place p (map (λ (w : Version). w.rev) (cond b (v ∷ others) others))
        ≡ rev_of (option_or (latest vs p k) (cond (b && rev_le v.rev p) (Some v) None))
    by true rest =
        map-or (at_place p (revisions_of k vs)) (latest vs p k) rest
        (cond (rev_le v.rev p) (Some v.rev) None) (cond (rev_le v.rev p) (Some v) None) (shown (rev_le v.rev p))
    by false rest = rest ∙ sym (ap rev_of (or_none (latest vs p k)))

-- the index gives the revision of the last version that is not after the place
pub at-agrees : (i : Index) (vs : List Version) (p : Rev) (k : List ℕ) → Agrees i vs
    → at_place p (revisions k i) ≡ option_map (λ (v : Version). v.rev) (latest vs p k)
at-agrees i vs p k a = ap (at_place p) (a.each k) ∙ at-revisions_of p k vs

-- and the version at that revision holds what the key holds at the place
pub value-agrees : (i : Index) (vs : List Version) (p : Rev) (k : List ℕ) → Agrees i vs → FindsLatest vs
    → value_at vs p k ≡ option_and_then (read_at vs) (at_place p (revisions k i))
unfolding value_at
value-agrees i vs p k a f = by (latest vs p k) refl ∙ sym (ap (option_and_then (read_at vs)) (at-agrees i vs p k a))
  where
    by : (o : Option Version) → latest vs p k ≡ o
        → option_and_then key_value o ≡ option_and_then (read_at vs) (option_map (λ (v : Version). v.rev) o)
    by None e = refl
    by (Some v) e = sym (ap (option_and_then key_value) (f p k v e))

-- ---- the keys

abbrev pub keys_of : Index → List (List ℕ)
keys_of i = map (λ (e : List ℕ × List Rev). e.0) i

above-keys_of : (k : List ℕ) (es : Index) → IsBelow k es → AllAbove k (keys_of es)
above-keys_of k [] h = tt
above-keys_of k (e ∷ es) h = (h.0, above-keys_of k es h.1)

ascending-keys_of : (i : Index) → IsIndex i → IsAscending (keys_of i)
ascending-keys_of [] h = tt
ascending-keys_of (e ∷ es) h = (above-keys_of e.0 es h.1, ascending-keys_of es h.2)

some-revisions : (qs : List Rev) → qs ≢ [] → not (is_empty qs) ≡ true
some-revisions [] h = absurd (h refl)
some-revisions (q ∷ qs) h = refl

has_key-index : (q : List ℕ) (i : Index) → IsIndex i → has_key q (keys_of i) ≡ not (is_empty (revisions q i))
has_key-index q [] h = refl
has_key-index q (e ∷ es) h = by (has q e.0) (eq-same q e.0) (has_key-index q es h.2)
  where
    by : (b : Bool) → b ≡ same_key e.0 q → has_key q (keys_of es) ≡ not (is_empty (revisions q es))
        → (same_key e.0 q || has_key q (keys_of es)) ≡ not (is_empty (unwrap_or (cond b (Some e.1) (found q es)) []))
    by true f rest = ap (λ c. c || has_key q (keys_of es)) (sym f) ∙ sym (some-revisions e.1 h.0)
    by false f rest = ap (λ c. c || has_key q (keys_of es)) (sym f) ∙ rest

pub has-versions : (q : List ℕ) (vs : List Version) → list_any (λ v. same_key v.key q) vs ≡ not (is_empty (revisions_of q vs))
has-versions q [] = refl
has-versions q (v ∷ vs) = by (same_key v.key q) (has-versions q vs)
  where
    others : List Version
    others = filter (λ (w : Version). same_key w.key q) vs

    by : (b : Bool) → list_any (λ w. same_key w.key q) vs ≡ not (is_empty (revisions_of q vs))
        → (b || list_any (λ w. same_key w.key q) vs) ≡ not (is_empty (map (λ (w : Version). w.rev) (cond b (v ∷ others) others)))
    by true rest = refl
    by false rest = rest

-- the index has just the keys that have a version
pub keys-agree : (i : Index) (vs : List Version) → Agrees i vs → keys_of i ≡ keys vs
keys-agree i vs a = same_keys (keys_of i) (keys vs) (ascending-keys_of i a.sound) (ascending-keys vs)
    (λ q. has_key-index q i a.sound ∙ ap (λ qs. not (is_empty qs)) (a.each q) ∙ sym (has-versions q vs) ∙ sym (has_key-keys q vs))

-- ---- a walk

abbrev pub AreTheirs : Index → Index → Type 0
AreTheirs i es = AllByRecursion (λ (e : List ℕ × List Rev). revisions e.0 i ≡ e.1) es

-- the entry before does not hide the others
not-first : (e : List ℕ × List Rev) (i es : Index) → IsBelow e.0 es → AreTheirs i es → AreTheirs (e ∷ i) es
not-first e i [] h t = tt
not-first e i (f ∷ es) h t = (
  ap (λ b. unwrap_or (cond b (Some e.1) (found f.0 i)) []) (ap is_eq (nat_list_cmp_total.antisymm f.0 e.0 ∙ ap ordering_reverse h.0)) ∙ t.0,
  not-first e i es h.1 t.1,
)

pub theirs : (i : Index) → IsIndex i → AreTheirs i i
theirs [] h = tt
theirs (e ∷ es) h = (
  ap (λ b. unwrap_or (cond b (Some e.1) (found e.0 es)) []) (ap is_eq (cmp-refl e.0)),
  not-first e es es h.1 (theirs es h.2),
)

-- what a range shows is what the revisions of its keys lead to
pub live-agrees : (i : Index) (vs : List Version) (p : Rev) (r : KeyRange) → Agrees i vs → FindsLatest vs
    → live vs p r ≡ filter_map (read_entry vs p) (in_interval r i)
unfolding live
live-agrees i vs p r a f = ap (filter_map (value_within vs p r)) (sym (keys-agree i vs a)) ∙ go i (theirs i a.sound)
  where
    go : (es : Index) → AreTheirs i es → filter_map (value_within vs p r) (keys_of es) ≡ filter_map (read_entry vs p) (in_interval r es)
    go [] t = refl
    go (e ∷ es) t =
        by (in_range r e.0) (value-agrees i vs p e.0 a f ∙ ap (λ qs. option_and_then (read_at vs) (at_place p qs)) t.0) (go es t.1)
      where
        by : (b : Bool) → value_at vs p e.0 ≡ read_entry vs p e
            → filter_map (value_within vs p r) (keys_of es) ≡ filter_map (read_entry vs p) (in_interval r es)
            → cons_option (cond b (value_at vs p e.0) None) (filter_map (value_within vs p r) (keys_of es))
            ≡ filter_map (read_entry vs p) (cond b (e ∷ in_interval r es) (in_interval r es))
        by true g rest = ap (λ o. cons_option o (filter_map (value_within vs p r) (keys_of es))) g ∙ ap (cons_option (read_entry vs p e)) rest
        by false g rest = rest
