-- The changes of a path without a clash are the changes of one revision.
use Rattle.std.proofs.Common.{◌≡◌, ◌≤◌, ◌<◌, ◌≢◌, ℕ, suc, ◌+◌, ◌^◌, List, [], ◌∷◌, ◌++◌, length, Bool, true, false, not, ◌||◌, cond}
use Rattle.std.proofs.Common.{is_some, refl, sym, ◌∙◌, ap, subst, arith, length-append}
use Rattle.std.specs.Prelude.{⊤}
use Rattle.std.specs.List.{AllByRecursion, list_any}
use Rattle.kv_model.specs.declared.version.Version.{Version}
use Rattle.kv_model.specs.declared.version.KeyRange.{KeyRange}
use Rattle.kv_model.specs.declared.call.PutRequest.{PutRequest}
use Rattle.kv_model.specs.declared.call.DeleteRequest.{DeleteRequest}
use Rattle.kv_model.specs.Keys.{same_key, in_range, one_key}
use Rattle.kv_model.specs.History.{Mutation, is_put, deletes_key}
use Rattle.store_laws.specs.Sound.{IsBefore, IsHistory, IsBatch}
use Rattle.kv_model.specs.Ranges.{keys, keys_of, live_now, value_now_within}
use Rattle.kv_model.specs.Txns.{Path, Touch, collides, put_change, deletes_of}
use Rattle.store_laws.specs.Plans.{path_touches, is_deleted, still_live, planned}
use Rattle.store_laws.proofs.KeyLaws.{same-refl}
use Rattle.store_laws.proofs.PlaceLaws.{each-map, each-append, each-filter}
use Rattle.store_laws.proofs.RevOrder.{rev_lt-subs}
use Rattle.store_laws.proofs.GoodLaws.{each-both}
use Rattle.store_laws.proofs.DeleteLaws.{AreGiven, given-keys, deletes-batch}
use Rattle.store_laws.proofs.TouchLaws.{touch_of, AreClear, clear-one, live_now-keys, still_live-in, still_live-not, still_live-ascends}
use Rattle.store_laws.proofs.PlanLaws.{NoClash, inner-clear, clear-front, clear-head, put-clear, delete-clear}

-- ---- histories that are joined

pub history-join : (us ns : List Mutation) → IsHistory us → IsHistory ns → AllByRecursion (λ u. AllByRecursion (IsBefore u) ns) us
    → IsHistory (us ++ ns)
history-join [] ns h g a = g
history-join (u ∷ us) ns h g a = (h.0, each-append (IsBefore u) us ns h.1 a.0, history-join us ns h.2 g a.1)

all-swap : {X Y : Type 0} (R : X → Y → Type 0) (xs : List X) (ys : List Y) → AllByRecursion (λ y. AllByRecursion (λ x. R x y) xs) ys
    → AllByRecursion (λ x. AllByRecursion (λ y. R x y) ys) xs
all-swap R [] ys h = tt
all-swap R (x ∷ xs) ys h = (
  each-map (λ y. AllByRecursion (λ z. R z y) (x ∷ xs)) (λ y. R x y) (λ y f. f.0) ys h,
  all-swap R xs ys (each-map (λ y. AllByRecursion (λ z. R z y) (x ∷ xs)) (λ y. AllByRecursion (λ z. R z y) xs) (λ y f. f.1) ys h),
)

-- ---- changes that are numbered from 0 on

pub record IsNumbered (main : ℕ) (us : List Mutation) : Type 0 where
  pub history : IsHistory us
  pub at : AllByRecursion (λ u. u.rev.main ≡ main) us
  pub below : AllByRecursion (λ u. u.rev.sub < length us) us

-- the changes of an operation, numbered on, of other keys than those before
pub record GoesOn (main : ℕ) (us ns : List Mutation) : Type 0 where
  pub batch : IsBatch main ns
  pub from : AllByRecursion (λ n. length us ≤ n.rev.sub) ns
  pub below : AllByRecursion (λ n. n.rev.sub < length us + length ns) ns
  pub others : AllByRecursion (λ u. AllByRecursion (λ n. u.key ≢ n.key) ns) us

before-later : (main n : ℕ) (u : Mutation) (ns : List Mutation) → u.rev.main ≡ main → u.rev.sub < n → AllByRecursion (λ m. m.rev.main
    ≡ main) ns → AllByRecursion (λ m. n ≤ m.rev.sub) ns
    → AllByRecursion (λ m. u.key ≢ m.key) ns → AllByRecursion (IsBefore u) ns
before-later main n u [] e l a f k = tt
before-later main n u (m ∷ ns) e l a f k =
    let same : u.rev.main ≡ m.rev.main = e ∙ sym a.0 in
    let at : n ≤ m.rev.sub = f.0 in
    let less : u.rev.sub < m.rev.sub = omega arith in
    ((rev_lt-subs u.rev m.rev same less, λ s. k.0), before-later main n u ns e l a.1 f.1 k.1)

numbered-on : (main : ℕ) (us ns : List Mutation) → IsNumbered main us → GoesOn main us ns → IsNumbered main (us ++ ns)
numbered-on main us ns h g = record {
  history = history-join us ns h.history g.batch.history (each-map (λ u. (u.rev.main ≡ main) × (u.rev.sub < length us)
      × AllByRecursion (λ n. u.key ≢ n.key) ns) (λ u. AllByRecursion (IsBefore u) ns)
      (λ u f. before-later main (length us) u ns f.0 f.1 g.batch.at g.from f.2) us (each-three us h.at h.below g.others));
  at = each-append (λ u. u.rev.main ≡ main) us ns h.at g.batch.at;
  below = subst (λ n. AllByRecursion (λ u. u.rev.sub < n) (us ++ ns)) (sym (length-append us ns))
      (each-append (λ u. u.rev.sub < length us + length ns) us ns (each-map (λ u. u.rev.sub < length us) (λ u. u.rev.sub < length us
      + length ns) (λ u l. omega arith) us h.below) g.below);
}
  where
    each-three : (xs : List Mutation) → AllByRecursion (λ u. u.rev.main ≡ main) xs → AllByRecursion (λ u. u.rev.sub < length us) xs
        → AllByRecursion (λ u. AllByRecursion (λ n. u.key ≢ n.key) ns) xs
        → AllByRecursion (λ u. (u.rev.main ≡ main) × (u.rev.sub < length us) × AllByRecursion (λ n. u.key ≢ n.key) ns) xs
    each-three [] a b c = tt
    each-three (x ∷ xs) a b c = ((a.0, b.0, c.0), each-three xs a.1 b.1 c.1)

-- ---- a put, and the deletes of a range

different : (k l : List ℕ) → same_key k l ≡ false → k ≢ l
different k l h e = let bad : true ≡ false = sym (same-refl k) ∙ ap (same_key k) e ∙ h in cc

put-goes_on : (vs : List Version) (main : ℕ) (us : List Mutation) (p : PutRequest) (ts : List Touch) → AreClear us (Touch.one p.key ∷ ts)
    → p.key ≢ [] → 1 < main → length us < 2 ^ 64
    → GoesOn main us (put_change vs main (length us) p ∷ [])
put-goes_on vs main us p ts j k o l = record {
  batch = record { history = (record { behind = o; number = l; has_key = k }, tt, tt); at = (refl, tt) };
  from = (omega arith, tt);
  below = (omega arith, tt);
  others = each-map (λ u. collides (touch_of u) (Touch.one p.key) ≡ false) (λ u. (u.key ≢ p.key)
      × ⊤) (λ u e. (different u.key p.key (clear-one u p.key e), tt)) us (clear-head us (Touch.one p.key) ts j);
}

deletes-from : (main n sub : ℕ) (ks : List (List ℕ)) → n ≤ sub → AllByRecursion (λ m. n ≤ m.rev.sub) (deletes_of main sub ks)
deletes-from main n sub [] l = tt
deletes-from main n sub (k ∷ ks) l = (l, deletes-from main n (suc sub) ks (omega arith))

deletes-below : (main n sub : ℕ) (ks : List (List ℕ)) → sub + length ks ≤ n → AllByRecursion (λ m. m.rev.sub < n) (deletes_of main sub ks)
deletes-below main n sub [] l = tt
deletes-below main n sub (k ∷ ks) l = (omega arith, deletes-below main n (suc sub) ks (omega arith))

pub deletes-length : (main sub : ℕ) (ks : List (List ℕ)) → length (deletes_of main sub ks) ≡ length ks
deletes-length main sub [] = refl
deletes-length main sub (k ∷ ks) = ap suc (deletes-length main (suc sub) ks)

deletes-keys : (P : List ℕ → Type 0) (main sub : ℕ) (ks : List (List ℕ)) → AllByRecursion P ks
    → AllByRecursion (λ m. P m.key) (deletes_of main sub ks)
deletes-keys P main sub [] h = tt
deletes-keys P main sub (k ∷ ks) h = (h.0, deletes-keys P main (suc sub) ks h.1)

pub none-any : {X : Type 0} (p : X → Bool) (xs : List X) → list_any p xs ≡ false → AllByRecursion (λ x. p x ≡ false) xs
none-any p [] h = tt
none-any p (x ∷ xs) h = by (p x) refl h (none-any p xs)
  where
    by : (b : Bool) → p x ≡ b → (b || list_any p xs) ≡ false → (list_any p xs ≡ false → AllByRecursion (λ x. p x ≡ false) xs)
        → AllByRecursion (λ x. p x ≡ false) (x ∷ xs)
    by true e f rest = cc
    by false e f rest = (e, rest f)

-- a change that is clear of the delete, and does not delete the key itself, is of another key
other-change : (u : Mutation) (r : KeyRange) (k : List ℕ) → collides (touch_of u) (Touch.each r) ≡ false → in_range r k ≡ true
    → deletes_key k u ≡ false → u.key ≢ k
other-change u r k h i d e = by (is_put u.action) h d
  where
    by : (b : Bool) → collides (cond b (Touch.one u.key) (Touch.each (one_key u.key))) (Touch.each r) ≡ false
        → cond b false (same_key u.key k) ≡ false → ⊥
    by true f g = let bad : true ≡ false = sym i ∙ ap (in_range r) (sym e) ∙ f in cc
    by false f g = different u.key k g e

still_live-others : (vs : List Version) (main sub : ℕ) (us : List Mutation) (r : KeyRange) (ts : List Touch) → AreClear us (Touch.each r
    ∷ ts)
    → AllByRecursion (λ u. AllByRecursion (λ n. u.key ≢ n.key) (deletes_of main sub (still_live vs us r))) us
still_live-others vs main sub us r ts j = all-swap (λ u n. u.key ≢ n.key) us (deletes_of main sub (still_live vs us r))
    (deletes-keys (λ k. AllByRecursion (λ u. u.key ≢ k) us) main sub (still_live vs us r)
    (each-map (λ k. (in_range r k ≡ true) × (is_deleted us k ≡ false)) (λ k. AllByRecursion (λ u. u.key ≢ k) us) at (still_live vs us r)
    (each-both (λ k. in_range r k ≡ true) (λ k. is_deleted us k ≡ false) (still_live vs us r) (still_live-in vs us r)
    (still_live-not vs us r))))
  where
    at : (k : List ℕ) → (in_range r k ≡ true) × (is_deleted us k ≡ false) → AllByRecursion (λ u. u.key ≢ k) us
    at k f = each-map (λ u. (collides (touch_of u) (Touch.each r) ≡ false) × (deletes_key k u ≡ false)) (λ u. u.key
        ≢ k) (λ u g. other-change u r k g.0 f.0 g.1) us
        (each-both (λ u. collides (touch_of u) (Touch.each r) ≡ false) (λ u. deletes_key k u ≡ false) us (clear-head us (Touch.each r) ts j)
        (none-any (deletes_key k) us f.1))

still_live-given : (vs : List Version) (us : List Mutation) (r : KeyRange) → AllByRecursion (λ v. v.key ≢ []) vs
    → AreGiven (still_live vs us r)
still_live-given vs us r h = each-filter (λ k. k ≢ []) (λ k. not (is_deleted us k)) (keys_of (live_now vs r))
    (subst AreGiven (sym (live_now-keys vs r)) (each-filter (λ k. k ≢ []) (λ k. is_some (value_now_within vs r k)) (keys vs)
    (given-keys vs h)))

delete-goes_on : (vs : List Version) (main : ℕ) (us : List Mutation) (d : DeleteRequest) (ts : List Touch) → AreClear us (Touch.each d.range
    ∷ ts) → AllByRecursion (λ v. v.key ≢ []) vs → 1 < main
    → length us + length (still_live vs us d.range) ≤ 2 ^ 64 → GoesOn main us (deletes_of main (length us) (still_live vs us d.range))
delete-goes_on vs main us d ts j g o l = record {
  batch = deletes-batch main (length us) (still_live vs us d.range) (still_live-ascends vs us d.range) (still_live-given vs us d.range g) o
      l;
  from = deletes-from main (length us) (length us) (still_live vs us d.range) (omega arith);
  below = deletes-below main (length us + length (deletes_of main (length us) (still_live vs us d.range))) (length us)
      (still_live vs us d.range) (omega (arith, deletes-length main (length us) (still_live vs us d.range)));
  others = still_live-others vs main (length us) us d.range ts j;
}

-- ---- the whole path

-- each put has a key
abbrev pub HasKeys : Path → Type 0
HasKeys Path.end = ⊤
HasKeys (Path.range q rest) = HasKeys rest
HasKeys (Path.put p rest) = (p.key ≢ []) × HasKeys rest
HasKeys (Path.delete d rest) = HasKeys rest
HasKeys (Path.txn b inner rest) = HasKeys inner × HasKeys rest

pub planned-length : (vs : List Version) (main : ℕ) (us : List Mutation) (q : Path) → length us ≤ length (planned vs main us q)
unfolding planned
planned-length vs main us Path.end = omega arith
planned-length vs main us (Path.range r rest) = planned-length vs main us rest
planned-length vs main us (Path.put p rest) =
    let m : Mutation = put_change vs main (length us) p in omega (
      arith,
      planned-length vs main (us ++ m ∷ []) rest,
      length-append us (m ∷ []),
    )
planned-length vs main us (Path.delete d rest) =
    let ws : List Mutation = deletes_of main (length us) (still_live vs us d.range) in omega (
      arith,
      planned-length vs main (us ++ ws) rest,
      length-append us ws,
    )
planned-length vs main us (Path.txn b inner rest) = omega (
  arith,
  planned-length vs main us inner,
  planned-length vs main (planned vs main us inner) rest,
)

pub planned-numbered : (vs : List Version) (main : ℕ) (us : List Mutation) (q : Path) → AreClear us (path_touches q) → NoClash q → HasKeys q
    → AllByRecursion (λ v. v.key ≢ []) vs → 1 < main
    → length (planned vs main us q) ≤ 2 ^ 64 → IsNumbered main us → IsNumbered main (planned vs main us q)
unfolding planned
planned-numbered vs main us Path.end j n k g o l h = h
planned-numbered vs main us (Path.range r rest) j n k g o l h = planned-numbered vs main us rest j n k g o l h
planned-numbered vs main us (Path.put p rest) j n k g o l h =
    let m : Mutation = put_change vs main (length us) p in
    let room : length us < 2 ^ 64 = omega (arith, planned-length vs main (us ++ m ∷ []) rest, length-append us (m ∷ [])) in
    planned-numbered vs main (us ++ m ∷ []) rest (put-clear vs main us p rest j n) n.1 k.1 g o l (numbered-on main us (m
    ∷ []) h (put-goes_on vs main us p (path_touches rest) j k.0 o room))
planned-numbered vs main us (Path.delete d rest) j n k g o l h =
    let ks : List (List ℕ) = still_live vs us d.range in
    let ws : List Mutation = deletes_of main (length us) ks in
    let room : length us + length ks ≤ 2 ^ 64 = omega (
      arith,
      planned-length vs main (us ++ ws) rest,
      length-append us ws,
      deletes-length main (length us) ks,
    ) in
    planned-numbered vs main (us ++ ws) rest (delete-clear vs main us d rest j n) n.1 k g o l (numbered-on main us ws h
    (delete-goes_on vs main us d (path_touches rest) j g o room))
planned-numbered vs main us (Path.txn b inner rest) j n k g o l h =
    let mid : List Mutation = planned vs main us inner in
    let room : length mid ≤ 2 ^ 64 = omega (arith, planned-length vs main mid rest) in
    planned-numbered vs main mid rest (inner-clear vs main us b inner rest j n) n.2 k.1 g o l (planned-numbered vs main us inner
    (clear-front us (path_touches inner) (path_touches rest) j) n.1 k.0 g o room h)

nothing-numbered : (main : ℕ) → IsNumbered main []
nothing-numbered main = record { history = tt; at = tt; below = tt }

-- the changes of a path without a clash are the changes of one revision
pub planned-batch : (vs : List Version) (main : ℕ) (q : Path) → NoClash q → HasKeys q → AllByRecursion (λ v. v.key ≢ []) vs → 1 < main
    → length (planned vs main [] q) ≤ 2 ^ 64 → IsBatch main (planned vs main [] q)
planned-batch vs main q n k g o l = let h : IsNumbered main (planned vs main [] q) = planned-numbered vs main [] q tt n k g o l
    (nothing-numbered main) in record { history = h.history; at = h.at }
