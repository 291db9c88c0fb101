-- What a transaction has deleted stays so, and ranges that it has emptied give no more graves.
use Rattle.std.proofs.Common.{◌≡◌, ℕ, List, [], ◌∷◌, ◌++◌, length, filter_map, Bool, true, false, not, ◌&&◌, ◌||◌, cond, Option, None}
use Rattle.std.proofs.Common.{Some, is_some, refl, sym, ◌∙◌, ap, Bor}
use Rattle.std.specs.List.{AllByRecursion, cons_option}
use Rattle.std.proofs.Math.Bool.{or-true}
use Rattle.std.proofs.lemmas.List.Folds.{list_any-append}
use Rattle.kv_model.specs.declared.version.Rev.{Rev}
use Rattle.kv_model.specs.declared.version.Version.{Version}
use Rattle.kv_model.specs.declared.version.KeyRange.{KeyRange}
use Rattle.kv_model.specs.Keys.{same_key, in_range}
use Rattle.kv_model.specs.History.{KeyValue, value_at}
use Rattle.kv_model.specs.Ranges.{keys, keys_of, live, value_within}
use Rattle.range_view.specs.Stored.{Viewed}
use Rattle.store_laws.proofs.DeleteLaws.{value_at-key, live-keys}
use Rattle.store_laws.proofs.HistoryLaws.{same_key-eq}
use Rattle.store_laws.proofs.KeyLaws.{has_key, same-refl, has_key-filter, value-has_key}
use Rattle.store_laws.proofs.PlaceLaws.{each-map}
use Rattle.txn_core.specs.KeyWrites.{tombstone}
use Rattle.txn_core.specs.Planning.{buries, is_gone, with_grave, with_graves, AreGone}
use Rattle.swept_ranges.specs.Swept.{covers, of_keys, AreBut}

-- ---- what is deleted already

pub gone-behind : (ws xs : List Version) (k : List ℕ) → is_gone ws k ≡ true → is_gone (ws ++ xs) k ≡ true
gone-behind ws xs k h = list_any-append (buries k) ws xs ∙ ap (λ b. b || is_gone xs k) h

gone-grave : (main : ℕ) (ws : List Version) (l k : List ℕ) → is_gone ws k ≡ true → is_gone (with_grave main ws l) k ≡ true
gone-grave main ws l k h = by (is_gone ws l)
  where
    by : (b : Bool) → is_gone (cond b ws (ws ++ tombstone main (length ws) l ∷ [])) k ≡ true
    by true = h
    by false = gone-behind ws (tombstone main (length ws) l ∷ []) k h

pub gone-graves : (main : ℕ) (ws : List Version) (ls : List (List ℕ)) (k : List ℕ) → is_gone ws k ≡ true → is_gone (with_graves main ws ls) k ≡ true
gone-graves main ws [] k h = h
gone-graves main ws (l ∷ ls) k h = gone-graves main (with_grave main ws l) ls k (gone-grave main ws l k h)

grave-gone : (main : ℕ) (ws : List Version) (l : List ℕ) → is_gone (with_grave main ws l) l ≡ true
grave-gone main ws l = by (is_gone ws l) refl
  where
    by : (b : Bool) → is_gone ws l ≡ b → is_gone (cond b ws (ws ++ tombstone main (length ws) l ∷ [])) l ≡ true
    by true e = e
    by false e = list_any-append (buries l) ws (tombstone main (length ws) l ∷ [])
        ∙ (λ i. is_gone ws l || (same-refl l i || false)) ∙ or-true (is_gone ws l)

-- each of the keys is
pub graves-gone : (main : ℕ) (ws : List Version) (ls : List (List ℕ)) (k : List ℕ) → has_key k ls ≡ true → is_gone (with_graves main ws ls) k ≡ true
graves-gone main ws [] k h = cc
graves-gone main ws (l ∷ ls) k h = by (same_key l k) refl h (graves-gone main (with_grave main ws l) ls k)
  where
    by : (b : Bool) → same_key l k ≡ b → (b || has_key k ls) ≡ true
        → (has_key k ls ≡ true → is_gone (with_graves main (with_grave main ws l) ls) k ≡ true)
        → is_gone (with_graves main (with_grave main ws l) ls) k ≡ true
    by true e f g = gone-graves main (with_grave main ws l) ls k
        (ap (is_gone (with_grave main ws l)) (sym (same_key-eq l k e)) ∙ grave-gone main ws l)
    by false e f g = g f

-- those that are gone need no grave
graves-left : (main : ℕ) (ws us : List Version) → ((k : List ℕ) → is_gone ws k ≡ true → is_gone us k ≡ true) → (xs : List KeyValue)
    → with_graves main us (keys_of xs) ≡ with_graves main us (keys_of (of_keys (λ k. not (is_gone ws k)) xs))
graves-left main ws us h [] = refl
graves-left main ws us h (x ∷ xs) = by (is_gone ws x.key) refl (graves-left main ws us h xs)
    (graves-left main ws (with_grave main us x.key) (λ k g. gone-grave main us x.key k (h k g)) xs)
  where
    left : List KeyValue
    left = of_keys (λ k. not (is_gone ws k)) xs

    by : (b : Bool) → is_gone ws x.key ≡ b → with_graves main us (keys_of xs) ≡ with_graves main us (keys_of left)
        → with_graves main (with_grave main us x.key) (keys_of xs) ≡ with_graves main (with_grave main us x.key) (keys_of left)
        → with_graves main (with_grave main us x.key) (keys_of xs) ≡ with_graves main us (keys_of (cond (not b) (x ∷ left) left))
    by true e same more = ap (λ b. with_graves main (cond b us (us ++ tombstone main (length us) x.key ∷ [])) (keys_of xs)) (h x.key e) ∙ same
    by false e same more = more

shown : (vs : List Version) (p : Rev) (r : KeyRange) (ks : List (List ℕ))
    → AllByRecursion (λ kv. is_some (value_at vs p kv.key) ≡ true) (filter_map (value_within vs p r) ks)
shown vs p r [] = tt
shown vs p r (k ∷ ks) = by (in_range r k) (value_at vs p k) refl (shown vs p r ks)
  where
    P : List KeyValue → Type 0
    P = AllByRecursion (λ kv. is_some (value_at vs p kv.key) ≡ true)

    by : (b : Bool) (o : Option KeyValue) → value_at vs p k ≡ o → P (filter_map (value_within vs p r) ks)
        → P (cons_option (cond b o None) (filter_map (value_within vs p r) ks))
    by true None e rest = rest
    by true (Some kv) e rest = (ap (λ l. is_some (value_at vs p l)) (value_at-key vs p k kv e) ∙ ap is_some e, rest)
    by false o e rest = rest

pub live-shown : (vs : List Version) (p : Rev) (r : KeyRange) → AllByRecursion (λ kv. is_some (value_at vs p kv.key) ≡ true) (live vs p r)
unfolding live
live-shown vs p r = shown vs p r (keys vs)

-- so what is left gets the graves of all
pub graves-but : (v : Viewed) (main : ℕ) (ws : List Version) (rs : List (Bor KeyRange)) (r : KeyRange) (xs : List KeyValue) → AreGone v ws rs
    → AreBut (covers rs) xs (live v.versions v.place r)
    → with_graves main ws (keys_of xs) ≡ with_graves main ws (keys_of (live v.versions v.place r))
graves-but v main ws rs r xs gone but =
    graves-left main ws ws (λ k g. g) xs
    ∙ ap (λ ys. with_graves main ws (keys_of ys)) (but (λ k. not (is_gone ws k)) (each-map _ _ none ys (live-shown v.versions v.place r)))
    ∙ sym (graves-left main ws ws (λ k g. g) ys)
  where
    ys : List KeyValue
    ys = live v.versions v.place r

    none : (kv : KeyValue) → is_some (value_at v.versions v.place kv.key) ≡ true → covers rs kv.key ≡ true → not (is_gone ws kv.key) ≡ false
    none kv s c = ap not (gone kv.key c s)

pub in-live : (v : Viewed) (r : KeyRange) (k : List ℕ) → in_range r k ≡ true → is_some (value_at v.versions v.place k) ≡ true
    → has_key k (keys_of (live v.versions v.place r)) ≡ true
in-live v r k i s = ap (has_key k) (live-keys v.versions v.place r)
    ∙ has_key-filter (λ l. is_some (value_within v.versions v.place r l)) k (keys v.versions)
    ∙ (λ j. is_some (cond (i j) (value_at v.versions v.place k) None) && has_key k (keys v.versions))
    ∙ (λ j. s j && has_key k (keys v.versions))
    ∙ value-has_key k v.place v.versions s

-- and then a range more is swept
pub gone-more : (v : Viewed) (main : ℕ) (ws : List Version) (rs ss : List (Bor KeyRange)) (r : KeyRange) → AreGone v ws rs
    → ((k : List ℕ) → covers ss k ≡ true → (covers rs k || in_range r k) ≡ true)
    → AreGone v (with_graves main ws (keys_of (live v.versions v.place r))) ss
gone-more v main ws rs ss r gone h = λ k c s. by k (covers rs k) refl (h k c) s
  where
    by : (k : List ℕ) (b : Bool) → covers rs k ≡ b → (b || in_range r k) ≡ true → is_some (value_at v.versions v.place k) ≡ true
        → is_gone (with_graves main ws (keys_of (live v.versions v.place r))) k ≡ true
    by k true e f s = gone-graves main ws (keys_of (live v.versions v.place r)) k (gone k e s)
    by k false e f s = graves-gone main ws (keys_of (live v.versions v.place r)) k (in-live v r k f s)

pub gone-still : (v : Viewed) (ws xs us : List Version) (rs : List (Bor KeyRange)) → us ≡ ws ++ xs → AreGone v ws rs → AreGone v us rs
gone-still v ws xs us rs e gone = λ k c s. ap (λ ys. is_gone ys k) e ∙ gone-behind ws xs k (gone k c s)

-- at first no range is
pub none-gone : (v : Viewed) (ws : List Version) (rs : List (Bor KeyRange)) → rs ≡ [] → AreGone v ws rs
none-gone v ws rs e = λ k c s. let bad : true ≡ false = sym c ∙ ap (λ qs. covers qs k) e in cc
