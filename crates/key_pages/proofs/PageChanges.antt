-- What a key that goes in, changes its value or goes out makes of the pages.
use Rattle.std.proofs.Common.{◌≡◌, ℕ, zero, suc, ◌<◌, ◌≤◌, List, [], ◌∷◌, ◌++◌, length, get_or, set, take, drop, Bool, true, false, cond}
use Rattle.std.proofs.Common.{Option, None, Some, Result, Ok, Err, IfOk, OnOk, OnErr, refl, sym, ◌∙◌, ap, subst, arith, length-drop}
use Rattle.std.specs.List.{insert}
use Rattle.std.specs.declared.cmp.Ordering.{Ordering}
use Rattle.std.specs.declared.cmp.Ordering.TheVariants.{Less, Equal, Greater}
use Rattle.std.specs.Ordering.{is_eq, match_ordering}
use Rattle.std.specs.BTreeMap.{is_at as is_key}
use Rattle.std.proofs.lemmas.Map.{length-set_value}
use Rattle.kv_model.specs.Keys.{key_cmp}
use Rattle.store_laws.proofs.Rising.{newest-cons}
use Rattle.key_pages.specs.Pairs.{IsAscending, cut_in, found, inserted, put_by, put_in, with_value}
use Rattle.key_pages.specs.Paged.{ArePages, HavePairs, change_at, ends_below_or_none, flat, freed, is_behind, page_index}
use Rattle.key_pages.proofs.Pairs.{AreBelow, below-first, parted, ascending-insert, ascending-put, ascending-cut, insert-behind, put-local, cut-local}
use Rattle.key_pages.proofs.Places.{all-below}
use Rattle.key_pages.proofs.Pages.{change-local, flat-freed, flat-push, flat-split, found-page, held-change, held-freed, held-push, held-split, index-bound, set-change}
use Rattle.store_laws.proofs.PlaceLaws.{each-append}

not-less : (o : Ordering) → o ≡ Greater → o ≡ Less → ⊥
not-less Less e f = cc
not-less Equal e f = cc
not-less Greater e f = cc

module _ {X : Type 0} where
  -- ---- lengths

  insert-some : (k : List ℕ) (v : X) (p : List (List ℕ × X)) → 0 < length (inserted k v p)
  insert-some k v [] = omega arith
  insert-some k v (e ∷ es) = by (key_cmp k e.0)
    where
      by : (o : Ordering) → 0 < length (match_ordering o ((k, v) ∷ e ∷ es) ((e.0, v) ∷ es) (e ∷ inserted k v es))
      by Less = omega arith
      by Equal = omega arith
      by Greater = omega arith

  set-some : (k : List ℕ) (v : X) (p : List (List ℕ × X)) → 0 < length p → 0 < length (with_value k v p)
  set-some k v p l = subst (λ n. 0 < n) (sym (length-set_value (is_key (key_cmp k)) p v)) l

  set-same : (ps : List (List (List ℕ × X))) (i : ℕ) (d : List (List ℕ × X)) → i < length ps → set ps i (get_or ps i d) ≡ ps
  set-same [] i d l = absurd (omega arith)
  set-same (p ∷ ps) zero d l = refl
  set-same (p ∷ ps) (suc i) d l = ap (λ qs. p ∷ qs) (set-same ps i d (omega arith))

  put-some : (f : X → X) (k : List ℕ) (v : X) (p : List (List ℕ × X)) → 0 < length p → 0 < length (put_in f k v p)
  put-some f k v p l = by (found k p)
    where
      by : (o : Option X) → 0 < length (put_by f k v p o)
      by None = insert-some k v p
      by (Some w) = set-some k (f w) p l

  -- ---- a key that goes in

  pub found-below : (k : List ℕ) (es : List (List ℕ × X)) → AreBelow k es → found k es ≡ None
  found-below k [] h = refl
  found-below k (e ∷ es) h = ap (λ o. cond (is_eq o) (Some e.1) (found k es)) h.0 ∙ found-below k es h.1

  -- behind all others
  put-behind : (f : X → X) (k : List ℕ) (v : X) (es : List (List ℕ × X)) → AreBelow k es → es ++ (k, v) ∷ [] ≡ put_in f k v es
  put-behind f k v es h = sym (insert-behind k v es h) ∙ sym (ap (put_by f k v es) (found-below k es h))

  below-parts : (k : List ℕ) (xs ys : List (List ℕ × X)) → AreBelow k xs → AreBelow k ys → AreBelow k (xs ++ ys)
  below-parts k xs ys a b = each-append (λ (e : List ℕ × X). key_cmp k e.0 ≡ Greater) xs ys a b

  before : (k : List ℕ) (p q : List (List ℕ × X)) (ps : List (List (List ℕ × X))) → 0 < length q → IsAscending (flat (p ∷ q ∷ ps))
      → AreBelow k (flat (q ∷ ps)) → AreBelow k p
  before k p [] ps l r h = absurd (omega arith)
  before k p (y ∷ ys) ps l r h =
      below-first k y (ys ++ flat ps) p (not-less (key_cmp k y.0) h.0) (parted p ((y ∷ ys) ++ flat ps) r).apart

  pub behind-all : (k : List ℕ) (ps : List (List (List ℕ × X))) → IsAscending (flat ps) → HavePairs ps → is_behind k ps ≡ true
      → AreBelow k (flat ps)
  behind-all k [] r h e = tt
  behind-all k (p ∷ []) r h e = below-parts k p [] (all-below k p (parted p [] r).front e) tt
  behind-all k (p ∷ q ∷ ps) r h e =
      let rest = behind-all k (q ∷ ps) (parted p (flat (q ∷ ps)) r).back h.1 (ap (ends_below_or_none k) (newest-cons p q ps) ∙ e) in
      below-parts k p (flat (q ∷ ps)) (before k p q ps h.1.0 r rest) rest

  -- where it is not behind all others there is a page
  pub behind-none : (k : List ℕ) (ps : List (List (List ℕ × X))) → is_behind k ps ≡ false → 0 < length ps
  behind-none k [] e = cc
  behind-none k (p ∷ ps) e = omega arith

  pub pages-push : (k : List ℕ) (v : X) (ps : List (List (List ℕ × X))) → ArePages ps → is_behind k ps ≡ true
      → ArePages (ps ++ ((k, v) ∷ []) ∷ [])
  pages-push k v ps a e =
      let below = behind-all k ps a.ascending a.held e in
      record {
        ascending = subst IsAscending (sym (flat-push ps ((k, v) ∷ []) ∙ sym (insert-behind k v (flat ps) below))) (ascending-insert k v (flat ps) a.ascending);
        held = held-push ps ((k, v) ∷ []) a.held (omega arith);
      }

  -- ---- a change of the page

  pub record Changed (f : List (List ℕ × X) → List (List ℕ × X)) (ps qs : List (List (List ℕ × X))) : Type 0 where
    pub value : flat qs ≡ f (flat ps)
    pub pages : ArePages qs

  pub put-pushed : (f : X → X) (k : List ℕ) (v : X) (ps qs : List (List (List ℕ × X))) → ArePages ps → is_behind k ps ≡ true
      → qs ≡ ps ++ ((k, v) ∷ []) ∷ [] → Changed (put_in f k v) ps qs
  put-pushed f k v ps qs a e g =
      subst (Changed (put_in f k v) ps) (sym g)
      (record {
        value = flat-push ps ((k, v) ∷ []) ∙ put-behind f k v (flat ps) (behind-all k ps a.ascending a.held e);
        pages = pages-push k v ps a e;
      })

  put-page : (f : X → X) (k : List ℕ) (v : X) (ps : List (List (List ℕ × X))) (d p : List (List ℕ × X)) → ArePages ps → 0 < length ps
      → p ≡ put_in f k v (get_or ps (page_index k ps) d) → Changed (put_in f k v) ps (set ps (page_index k ps) p)
  put-page f k v ps d p a l e =
      let into : set ps (page_index k ps) p ≡ change_at (put_in f k v) (page_index k ps) ps =
      ap (λ t. set ps (page_index k ps) t) e ∙ set-change (put_in f k v) ps (page_index k ps) d (index-bound k ps l) in
      let all : flat (set ps (page_index k ps) p) ≡ put_in f k v (flat ps) =
      ap flat into ∙ change-local k (put_in f k v) (put-local k f v) ps a.ascending a.held l in
      record {
        value = all;
        pages = record {
          ascending = subst IsAscending (sym all) (ascending-put f k v (flat ps) a.ascending);
          held = subst HavePairs (sym into) (held-change (put_in f k v) (λ r m. put-some f k v r m) (page_index k ps) ps a.held);
        };
      }

  -- ---- a key that goes out

  pub cut-page : (f : X → X) (s : X → Bool) (k : List ℕ) (ps : List (List (List ℕ × X))) → ArePages ps → 0 < length ps
      → Changed (cut_in f s k) ps (freed (page_index k ps) (change_at (cut_in f s k) (page_index k ps) ps))
  cut-page f s k ps a l =
      let all : flat (freed (page_index k ps) (change_at (cut_in f s k) (page_index k ps) ps)) ≡ cut_in f s k (flat ps) =
      flat-freed (page_index k ps) (change_at (cut_in f s k) (page_index k ps) ps)
      ∙ change-local k (cut_in f s k) (cut-local k f s) ps a.ascending a.held l in
      record {
        value = all;
        pages = record {
          ascending = subst IsAscending (sym all) (ascending-cut f s k (flat ps) a.ascending);
          held = held-freed (cut_in f s k) (page_index k ps) ps a.held;
        };
      }

  -- ---- a page that is split

  pub pages-split : (i : ℕ) (ps : List (List (List ℕ × X))) (d a b : List (List ℕ × X)) → ArePages ps → i < length ps → 64 ≤ length (get_or ps i d)
      → a ≡ take 32 (get_or ps i d) → b ≡ drop 32 (get_or ps i d)
      → (flat (insert (set ps i a) (suc i) b) ≡ flat ps) × ArePages (insert (set ps i a) (suc i) b)
  pages-split i ps d a b h l m e f = (
    all,
    record {
      ascending = subst IsAscending (sym all) h.ascending;
      held = held-split i ps a b l (subst (λ q. 0 < length q) (sym e) (some-take (get_or ps i d) m)) (subst (λ q. 0 < length q) (sym f) (some-drop (get_or ps i d) m)) h.held;
    },
  )
    where
      all : flat (insert (set ps i a) (suc i) b) ≡ flat ps
      all = ap (λ q. flat (insert (set ps i q) (suc i) b)) e ∙ ap (λ q. flat (insert (set ps i (take 32 (get_or ps i d))) (suc i) q)) f
          ∙ flat-split 32 i ps d l

      some-take : (q : List (List ℕ × X)) → 64 ≤ length q → 0 < length (take 32 q)
      some-take [] n = absurd (omega arith)
      some-take (x ∷ xs) n = omega arith

      some-drop : (q : List (List ℕ × X)) → 64 ≤ length q → 0 < length (drop 32 q)
      some-drop q n = omega (arith, length-drop 32 q)

  -- ---- as the functions need them

  pub same-at : (k : List ℕ) (ps : List (List (List ℕ × X))) (i : ℕ) (d q : List (List ℕ × X)) → ArePages ps → i ≡ page_index k ps → i < length ps
      → q ≡ get_or ps i d → found k q ≡ found k (flat ps)
  same-at k ps i d q a e l g =
      ap (found k) (g ∙ ap (λ j. get_or ps j d) e) ∙ sym (found-page k ps d a.ascending a.held (omega arith))

  pub put-at : (f : X → X) (k : List ℕ) (v : X) (ps : List (List (List ℕ × X))) (i : ℕ) (d q p : List (List ℕ × X)) → ArePages ps
      → i ≡ page_index k ps → i < length ps → q ≡ get_or ps i d → p ≡ put_in f k v q → Changed (put_in f k v) ps (set ps i p)
  put-at f k v ps i d q p a e l g h =
      subst (λ j. Changed (put_in f k v) ps (set ps j p)) (sym e)
      (put-page f k v ps d p a (omega arith) (h ∙ ap (put_in f k v) (g ∙ ap (λ j. get_or ps j d) e)))

  pub same-page : (ps : List (List (List ℕ × X))) (i : ℕ) (d q p : List (List ℕ × X)) → i < length ps → q ≡ get_or ps i d → p ≡ q → set ps i p ≡ ps
  same-page ps i d q p l g h = ap (λ t. set ps i t) (h ∙ g) ∙ set-same ps i d l

  pub any-page : (ps : List (List (List ℕ × X))) (i : ℕ) (d e : List (List ℕ × X)) → i < length ps → get_or ps i d ≡ get_or ps i e
  any-page [] i d e l = absurd (omega arith)
  any-page (p ∷ ps) zero d e l = refl
  any-page (p ∷ ps) (suc i) d e l = any-page ps i d e (omega arith)

  module _ (f : X → X) (k : List ℕ) (v : X) (ps : List (List (List ℕ × X))) (a : ArePages ps) where
    pub on-pushed : {T E : Type 0} (u : X) → u ≡ v → (qs : List (List (List ℕ × X))) → is_behind k ps ≡ true → (r : Result T E)
        → OnOk r (qs ≡ ps ++ ((k, u) ∷ []) ∷ []) → OnOk r (flat qs ≡ put_in f k v (flat ps))
    on-pushed u w qs b (Ok t) h = (put-pushed f k v ps qs a b (h ∙ ap (λ x. ps ++ ((k, x) ∷ []) ∷ []) w)).value
    on-pushed u w qs b (Err t) h = tt

    pub pages-pushed : {T E : Type 0} (u : X) → u ≡ v → (qs : List (List (List ℕ × X))) → is_behind k ps ≡ true → (r : Result T E)
        → OnOk r (qs ≡ ps ++ ((k, u) ∷ []) ∷ []) → OnErr r (qs ≡ ps) → ArePages qs
    pages-pushed u w qs b (Ok t) h e = (put-pushed f k v ps qs a b (h ∙ ap (λ x. ps ++ ((k, x) ∷ []) ∷ []) w)).pages
    pages-pushed u w qs b (Err t) h e = subst ArePages (sym e) a

    module _ (i : ℕ) (d q p : List (List ℕ × X)) (e : i ≡ page_index k ps) (l : i < length ps) (g : q ≡ get_or ps i d) where
      pub on-put : {T E : Type 0} (r : Result T E) → OnOk r (p ≡ put_in f k v q) → OnOk r (flat (set ps i p) ≡ put_in f k v (flat ps))
      on-put (Ok t) h = (put-at f k v ps i d q p a e l g h).value
      on-put (Err t) h = tt

      pages-left : p ≡ q → ArePages (set ps i p)
      pages-left h = subst ArePages (sym (same-page ps i d q p l g h)) a

      pub pages-put : {T E : Type 0} (r : Result T E) → OnOk r (p ≡ put_in f k v q) → OnErr r (p ≡ q) → ArePages (set ps i p)
      pages-put (Ok t) h n = (put-at f k v ps i d q p a e l g h).pages
      pages-put (Err t) h n = pages-left n

      pub done-put : {E : Type 0} (r : Result Bool E) → IfOk r (λ b. b ≡ true → p ≡ put_in f k v q)
          → IfOk r (λ b. b ≡ true → flat (set ps i p) ≡ put_in f k v (flat ps))
      done-put (Ok b) h = λ t. (put-at f k v ps i d q p a e l g (h t)).value
      done-put (Err t) h = h

      pub full-put : {E : Type 0} (r : Result Bool E) → IfOk r (λ b. b ≡ false → (p ≡ q) × (64 ≤ length q))
          → IfOk r (λ b. b ≡ false → (set ps i p ≡ ps) × ((c : List (List ℕ × X)) → 64 ≤ length (get_or ps i c)))
      full-put (Ok b) h = λ t. (
        same-page ps i d q p l g (h t).0,
        λ c. subst (λ z. 64 ≤ length z) (g ∙ any-page ps i d c l) (h t).1,
      )
      full-put (Err t) h = h

      pub tried-put : {E : Type 0} (r : Result Bool E) → IfOk r (λ b. b ≡ true → p ≡ put_in f k v q)
          → IfOk r (λ b. b ≡ false → (p ≡ q) × (64 ≤ length q)) → OnErr r (p ≡ q) → ArePages (set ps i p)
      tried-put (Ok true) h m n = (put-at f k v ps i d q p a e l g (h refl)).pages
      tried-put (Ok false) h m n = pages-left (m refl).0
      tried-put (Err t) h m n = pages-left n

  pub split-pages : (i j : ℕ) (ps rs : List (List (List ℕ × X))) (d q a b : List (List ℕ × X)) → ArePages ps → i < length ps → 64 ≤ length (get_or ps i d)
      → q ≡ get_or ps i d → a ≡ take 32 q → b ≡ drop 32 q → j ≡ suc i → rs ≡ insert (set ps i a) j b → (flat rs ≡ flat ps) × ArePages rs
  split-pages i j ps rs d q a b h l m g e f n w =
      subst (λ ts. (flat ts ≡ flat ps) × ArePages ts) (sym (w ∙ ap (λ t. insert (set ps i a) t b) n))
      (pages-split i ps d a b h l m (e ∙ ap (take 32) g) (f ∙ ap (drop 32) g))
