-- What a transaction makes, in terms of the changes that the definitions plan.
use Rattle.std.proofs.Common.{◌≡◌, ℕ, suc, ℤ, List, [], ◌∷◌, ◌++◌, length, map, filter, Bool, true, false, not, ◌&&◌, ◌||◌}
use Rattle.std.proofs.Common.{cond, Option, None, Some, refl, sym, ◌∙◌, ap, add-one, append_assoc, length-append}
use Rattle.std.specs.Option.{option_or}
use Rattle.std.specs.declared.cmp.Ordering.{Ordering}
use Rattle.std.specs.declared.cmp.Ordering.TheVariants.{Less, Equal, Greater}
use Rattle.std.specs.Ordering.{is_eq}
use Rattle.std.specs.Cmp.Lexicographic.{bytes_decides}
use Rattle.std.proofs.lemmas.Map.Lookups.{exact_bytes}
use Rattle.std.proofs.lemmas.List.{map-append, length-map}
use Rattle.std.proofs.Math.Bool.{or-false}
use Rattle.kv_model.specs.declared.version.Rev.{Rev}
use Rattle.kv_model.specs.declared.version.Version.{Version}
use Rattle.kv_model.specs.Keys.{key_cmp, same_key}
use Rattle.kv_model.specs.History.{Mutation, Action, KeyValue, deletes_key, is_put, value_at, value_now}
use Rattle.kv_model.specs.Ranges.{keys_of, live_now, revision_refusal}
use Rattle.kv_model.specs.Txns.{Path, next_body, next_version, put_change, deletes_of}
use Rattle.store_laws.specs.Plans.{is_deleted, still_live, planned, planned_refusal}
use Rattle.store_laws.proofs.PlaceLaws.{AreBy, value_at-by}
use Rattle.store_laws.proofs.GoodLaws.{live_now-by}
use Rattle.store_laws.proofs.KeyLaws.{IsAscending, AllAbove, cmp-refl}
use Rattle.store_laws.proofs.HistoryLaws.{same_key-eq}
use Rattle.store_laws.proofs.TouchLaws.{live_now-ascends}
use Rattle.kv_model.specs.History.{is_tombstone}
use Rattle.txn_core.specs.KeyWrites.{held_refusal, put_version, tombstone, body_kept, as_kept}
use Rattle.txn_core.specs.Planning.{buries, is_gone, with_grave, with_graves, made, refusal_of}

-- ---- tombstones

or-assoc : (a b c : Bool) → (a || (b || c)) ≡ ((a || b) || c)
or-assoc true b c = refl
or-assoc false b c = refl

-- the order ties just what is the same
pub eq-same : (k l : List ℕ) → is_eq (key_cmp k l) ≡ same_key k l
eq-same k l = by (same_key k l) refl
  where
    no : (o : Ordering) → key_cmp k l ≡ o → same_key k l ≡ false → is_eq o ≡ false
    no Less e h = refl
    no Equal e h = let f : true ≡ false = sym ((bytes_decides l l).1 refl) ∙ ap (λ j. same_key j l) (sym (exact_bytes k l e)) ∙ h in cc
    no Greater e h = refl

    by : (b : Bool) → same_key k l ≡ b → is_eq (key_cmp k l) ≡ b
    by true e = ap (λ j. is_eq (key_cmp j l)) (same_key-eq k l e) ∙ ap is_eq (cmp-refl l)
    by false e = no (key_cmp k l) refl e

pub cond-or : (a b : Bool) → cond b true a ≡ (a || b)
cond-or true true = refl
cond-or true false = refl
cond-or false true = refl
cond-or false false = refl

-- ---- the changes and their versions

-- the version of a change, as it is kept
abbrev pub version_kept : List Version → Mutation → Version
version_kept vs u = as_kept (next_version vs u)

buries-next : (vs : List Version) (u : Mutation) (k : List ℕ) → buries k (version_kept vs u) ≡ deletes_key k u
buries-next vs u k = by u.action (value_now vs u.key)
  where
    by : (a : Action) (held : Option KeyValue) → (is_tombstone (body_kept (next_body u.rev.main a held)) && same_key u.key k)
        ≡ cond (is_put a) false (same_key u.key k)
    by (Action.put value lease) None = refl
    by (Action.put value lease) (Some kv) = refl
    by Action.delete None = refl
    by Action.delete (Some kv) = refl

is_gone-next : (vs : List Version) (us : List Mutation) (k : List ℕ) → is_gone (map (version_kept vs) us) k ≡ is_deleted us k
is_gone-next vs [] k = refl
is_gone-next vs (u ∷ us) k = λ i. buries-next vs u k i || is_gone-next vs us k i

-- a key is below others only if it is another
other : (k l : List ℕ) → key_cmp k l ≡ Less → same_key k l ≡ false
other k l h = by (same_key k l) refl
  where
    by : (b : Bool) → same_key k l ≡ b → b ≡ false
    by true e = let eq : Less ≡ Equal = sym h ∙ ap (λ q. key_cmp q l) (same_key-eq k l e) ∙ cmp-refl l in cc
    by false e = refl

deleted-more : (us : List Mutation) (u : Mutation) (k : List ℕ) → is_deleted (us ++ u ∷ []) k ≡ (is_deleted us k || deletes_key k u)
deleted-more [] u k = or-false (deletes_key k u)
deleted-more (w ∷ us) u k = ap (λ b. deletes_key k w || b) (deleted-more us u k)
    ∙ or-assoc (deletes_key k w) (is_deleted us k) (deletes_key k u)

-- the keys above one that is deleted are deleted before it or not at all
abbrev pub grave_of : ℕ → List Mutation → List ℕ → Mutation
grave_of main us k = record { rev = record { main = main; sub = length us }; key = k; action = Action.delete }

abbrev pub still : List Mutation → List (List ℕ) → List (List ℕ)
still us ks = filter (λ k. not (is_deleted us k)) ks

still-above : (main : ℕ) (us : List Mutation) (k : List ℕ) (ls : List (List ℕ)) → AllAbove k ls
    → still (us ++ grave_of main us k ∷ []) ls ≡ still us ls
still-above main us k [] h = refl
still-above main us k (l ∷ ls) h =
    let same : is_deleted (us ++ grave_of main us k ∷ []) l ≡ is_deleted us l
    = deleted-more us (grave_of main us k) l ∙ ap (λ b. is_deleted us l || b) (other k l h.0) ∙ or-false (is_deleted us l) in
    λ i. cond (not (same i)) (l ∷ still-above main us k ls h.1 i) (still-above main us k ls h.1 i)

pub graves-planned : (vs : List Version) (main : ℕ) (us : List Mutation) (ks : List (List ℕ)) → IsAscending ks
    → with_graves main (map (version_kept vs) us) ks ≡ map (version_kept vs) (us ++ deletes_of main (length us) (still us ks))
graves-planned vs main us [] a = ap (map (version_kept vs)) (sym (append-nil us))
  where
    append-nil : (xs : List Mutation) → xs ++ [] ≡ xs
    append-nil [] = refl
    append-nil (x ∷ xs) = ap (λ ys. x ∷ ys) (append-nil xs)
graves-planned vs main us (k ∷ ks) a = by (is_deleted us k) refl (graves-planned vs main us ks a.1)
    (graves-planned vs main (us ++ grave_of main us k ∷ []) ks a.1)
  where
    ws : List Version
    ws = map (version_kept vs) us

    u : Mutation
    u = grave_of main us k

    more : ws ++ tombstone main (length ws) k ∷ [] ≡ map (version_kept vs) (us ++ u ∷ [])
    more = ap (λ n. ws ++ tombstone main n k ∷ []) (length-map us (version_kept vs)) ∙ sym (map-append (version_kept vs) us (u ∷ []))

    len : length (us ++ u ∷ []) ≡ suc (length us)
    len = length-append us (u ∷ []) ∙ add-one (length us)

    by : (b : Bool) → is_deleted us k ≡ b
        → with_graves main ws ks ≡ map (version_kept vs) (us ++ deletes_of main (length us) (still us ks))
        → with_graves main (map (version_kept vs) (us ++ u ∷ [])) ks
        ≡ map (version_kept vs) ((us ++ u ∷ []) ++ deletes_of main (length (us ++ u ∷ [])) (still (us ++ u ∷ []) ks))
        → with_graves main (with_grave main ws k) ks ≡ map (version_kept vs) (us ++ deletes_of main (length us) (still us (k ∷ ks)))
    by true e same more_of =
        ap (λ b. with_graves main (cond b ws (ws ++ tombstone main (length ws) k ∷ [])) ks) (is_gone-next vs us k ∙ e)
        ∙ same
        ∙ ap (λ b. map (version_kept vs) (us ++ deletes_of main (length us) (cond (not b) (k ∷ still us ks) (still us ks)))) (sym e)
    by false e same more_of =
        ap (λ b. with_graves main (cond b ws (ws ++ tombstone main (length ws) k ∷ [])) ks) (is_gone-next vs us k ∙ e)
        ∙ ap (λ xs. with_graves main xs ks) more
        ∙ more_of
        ∙ (λ i. map (version_kept vs) ((us ++ u ∷ []) ++ deletes_of main (len i) (still-above main us k ks a.0 i)))
        ∙ ap (map (version_kept vs)) (append_assoc us (u ∷ []) (deletes_of main (suc (length us)) (still us ks)))
        ∙ ap (λ b. map (version_kept vs) (us ++ deletes_of main (length us) (cond (not b) (k ∷ still us ks) (still us ks)))) (sym e)

-- ---- the versions that are made are those of the changes that are planned, where no version is behind the place

pub made-planned : (vs : List Version) (p : Rev) (main : ℕ) (us : List Mutation) (q : Path) → AreBy p vs
    → made vs p main (map (version_kept vs) us) q ≡ map (version_kept vs) (planned vs main us q)
unfolding made planned
made-planned vs p main us Path.end h = refl
made-planned vs p main us (Path.range r rest) h = made-planned vs p main us rest h
made-planned vs p main us (Path.put r rest) h =
    let u : Mutation = put_change vs main (length us) r in
    let more : map (version_kept vs) us ++ as_kept (put_version (record { main = main; sub = length (map (version_kept vs) us) }) r
    (value_at vs p r.key)) ∷ [] ≡ map (version_kept vs) (us ++ u ∷ []) =
    (λ i. map (version_kept vs) us ++ as_kept (put_version (record { main = main; sub = length-map us (version_kept vs) i }) r
    (value_at-by vs p r.key h i)) ∷ []) ∙ sym (map-append (version_kept vs) us (u ∷ [])) in
    ap (λ ws. made vs p main ws rest) more ∙ made-planned vs p main (us ++ u ∷ []) rest h
made-planned vs p main us (Path.delete d rest) h =
    ap (λ kvs. made vs p main (with_graves main (map (version_kept vs) us) (keys_of kvs)) rest) (sym (live_now-by vs p d.range h))
    ∙ ap (λ ws. made vs p main ws rest) (graves-planned vs main us (keys_of (live_now vs d.range)) (live_now-ascends vs d.range))
    ∙ made-planned vs p main (us ++ deletes_of main (length us) (still_live vs us d.range)) rest h
made-planned vs p main us (Path.txn b inner rest) h =
    ap (λ ws. made vs p main ws rest) (made-planned vs p main us inner h) ∙ made-planned vs p main (planned vs main us inner) rest h

-- and so is the first refusal
pub refusal-planned : (granted : ℤ → Bool) (c now : ℕ) (vs : List Version) (p : Rev) (q : Path) → AreBy p vs
    → refusal_of granted c now vs p q ≡ planned_refusal granted c now vs q
unfolding refusal_of planned_refusal
refusal-planned granted c now vs p Path.end h = refl
refusal-planned granted c now vs p (Path.range r rest) h = ap (option_or (revision_refusal c now r.revision))
    (refusal-planned granted c now vs p rest h)
refusal-planned granted c now vs p (Path.put r rest) h = λ i. option_or (held_refusal granted r (value_at-by vs p r.key h i))
    (refusal-planned granted c now vs p rest h i)
refusal-planned granted c now vs p (Path.delete d rest) h = refusal-planned granted c now vs p rest h
refusal-planned granted c now vs p (Path.txn b inner rest) h = λ i. option_or (refusal-planned granted c now vs p inner h i)
    (refusal-planned granted c now vs p rest h i)
