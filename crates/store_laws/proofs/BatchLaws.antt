-- The changes of one command behind a history: what they add to its versions, and why a good part stays good with them.
use Rattle.std.proofs.Common.{◌≡◌, ◌≤◌, ◌<◌, ◌≢◌, ◌⊎◌, inl, inr, ℕ, ◌+◌, ◌-◌, List, [], ◌∷◌, ◌++◌, Bool, true, false, ◌&&◌, cond, Option}
use Rattle.std.proofs.Common.{None, filter, map, refl, sym, ◌∙◌, ap, subst, arith, append_assoc}
use Rattle.std.specs.Prelude.{◌==◌}
use Rattle.std.specs.List.{AllByRecursion}
use Rattle.std.proofs.lemmas.List.{append-nil}
use Rattle.std.proofs.lemmas.List.Sums.{fold-append}
use Rattle.std.proofs.lemmas.List.Elements.{filter-append}
use Rattle.std.proofs.lemmas.Bool.{cases_lt, eqb-true}
use Rattle.kv_model.specs.declared.version.Rev.{Rev}
use Rattle.kv_model.specs.declared.version.Version.{Version}
use Rattle.kv_model.specs.declared.version.KeyRange.{KeyRange}
use Rattle.kv_model.specs.declared.call.Watched.{Watched}
use Rattle.kv_model.specs.Lists.{IsPart, nothing, keep, leave}
use Rattle.kv_model.specs.History.{Mutation, now, now_after, dress, value_at, value_now, end_of, rev_le}
use Rattle.store_laws.specs.Sound.{IsBefore, IsHistory, IsBatch}
use Rattle.kv_model.specs.History.{KeyValue}
use Rattle.kv_model.specs.Ranges.{live}
use Rattle.kv_model.specs.Watches.{WatchEvent, matches, event_of, events_of, before_is_kept}
use Rattle.kv_model.specs.Txns.{extend, extend_all, next_body, next_version, added_by}
use Rattle.kv_model.specs.Questions.{Question, IsQuestion, IsKept, Answered, answered, IsGood}
use Rattle.store_laws.proofs.KeyLaws.{live-same}
use Rattle.store_laws.proofs.GrowthLaws.{dress-extend_all}
use Rattle.store_laws.proofs.Compacting.{same_ranges}
use Rattle.store_laws.proofs.PlaceLaws.{AreBehind, each-map, each-append, each-part, each-dressed, mains-by, now-above, rev_le-after}
use Rattle.store_laws.proofs.RevOrder.{rev_lt-mains}
use Rattle.store_laws.proofs.PlaceLaws.{value_at-by, value_at-behind, value_at-grows, value_now-grows}
use Rattle.store_laws.proofs.GoodLaws.{dressed-before, good-value_at, good-value_now}

-- ---- what changes add

pub extend_all-added : (vs : List Version) (us : List Mutation) → extend_all vs us ≡ vs ++ added_by vs us
extend_all-added vs [] = sym (append-nil vs)
extend_all-added vs (u ∷ us) = extend_all-added (extend vs u) us ∙ append_assoc vs (next_version vs u ∷ []) (added_by (extend vs u) us)

-- lists that hold the same of every key get the same versions
pub added_by-same : (vs ws : List Version) (us : List Mutation) → ((k : List ℕ) → value_now vs k ≡ value_now ws k) → added_by vs us
    ≡ added_by ws us
added_by-same vs ws [] h = refl
added_by-same vs ws (u ∷ us) h =
    let next : next_version vs u ≡ next_version ws u = λ i. record {
      rev = u.rev;
      key = u.key;
      body = next_body u.rev.main u.action (h u.key i);
    } in
    let same : extend vs u ≡ vs ++ next_version ws u ∷ [] = ap (λ (v : Version). vs ++ v ∷ []) next in
    λ i. next i ∷ (ap (λ xs. added_by xs us) same ∙ added_by-same (vs ++ next_version ws u
    ∷ []) (extend ws u) us (λ k. value_now-grows vs ws (next_version ws u ∷ []) k (h k))) i

pub dress-added : (ms us : List Mutation) → dress (ms ++ us) ≡ dress ms ++ added_by (dress ms) us
dress-added ms us = dress-extend_all ms us ∙ extend_all-added (dress ms) us

-- each version added stands where its change does
pub each-added : (P : Rev → List ℕ → Type 0) (vs : List Version) (us : List Mutation) → AllByRecursion (λ u. P u.rev u.key) us
    → AllByRecursion (λ v. P v.rev v.key) (added_by vs us)
each-added P vs [] h = tt
each-added P vs (u ∷ us) h = (h.0, each-added P (extend vs u) us h.1)

-- ---- parts

pub part-append : {X : Type 0} {xs ys : List X} (zs : List X) → IsPart xs ys → IsPart (xs ++ zs) (ys ++ zs)
part-append [] nothing = nothing
part-append (z ∷ zs) nothing = keep (part-append zs nothing)
part-append zs (keep p) = keep (part-append zs p)
part-append zs (leave p) = leave (part-append zs p)

-- ---- histories that grow

-- the changes of a later revision go on a history
pub history-grows : (ms us : List Mutation) (r : ℕ) → IsHistory ms → AllByRecursion (λ m. m.rev.main ≤ r) ms → IsBatch (r + 1) us
    → IsHistory (ms ++ us)
history-grows [] us r h a b = b.history
history-grows (m ∷ ms) us r h a b =
    let by : m.rev.main ≤ r = a.0 in
    let after : (u : Mutation) → u.rev.main ≡ r + 1 → IsBefore m u = λ u e. (
      let lt : m.rev.main < u.rev.main = omega arith
          in rev_lt-mains m.rev u.rev lt,
      λ (f : m.rev.main ≡ u.rev.main). absurd (omega arith),
    )
    in (
      h.0,
      each-append (IsBefore m) ms us h.1 (each-map (λ u. u.rev.main ≡ r + 1) (IsBefore m) after us b.at),
      history-grows ms us r h.2 a.1 b,
    )

pub history-more : (ms us : List Mutation) → IsHistory ms → IsBatch (now ms + 1) us → IsHistory (ms ++ us)
history-more ms us h b = history-grows ms us (now ms) h (mains-by ms h) b

now_after-at : (n r : ℕ) (u : Mutation) (us : List Mutation) → AllByRecursion (λ m. m.rev.main ≡ r) (u ∷ us) → now_after n (u ∷ us) ≡ r
now_after-at n r u [] h = h.0
now_after-at n r u (v ∷ us) h = now_after-at u.rev.main r v us h.1

pub now-grows : (ms : List Mutation) (u : Mutation) (us : List Mutation) (r : ℕ) → AllByRecursion (λ m. m.rev.main ≡ r) (u ∷ us)
    → now (ms ++ u ∷ us) ≡ r
now-grows ms u us r h = fold-append (λ _ (m : Mutation). m.rev.main) 1 ms (u ∷ us) ∙ now_after-at (now ms) r u us h

-- ---- what was held before

added-behind : (vs : List Version) (us : List Mutation) (r : ℕ) → AllByRecursion (λ u. u.rev.main ≡ r + 1) us
    → AreBehind (end_of r) (added_by vs us)
added-behind vs us r h = each-added (λ p k. rev_le p (end_of r) ≡ false) vs us
    (each-map (λ u. u.rev.main ≡ r + 1) (λ u. rev_le u.rev (end_of r) ≡ false) (λ u e. rev_le-after u.rev (end_of r) (omega arith)) us h)

-- the changes of the next revision leave what each key held before them
pub value-before : (vs : List Version) (us : List Mutation) (r : ℕ) (k : List ℕ) → AllByRecursion (λ u. u.rev.main ≡ r + 1) us
    → value_at (extend_all vs us) (end_of r) k ≡ value_at vs (end_of r) k
value-before vs us r k h = ap (λ xs. value_at xs (end_of r) k) (extend_all-added vs us)
    ∙ value_at-behind vs (added_by vs us) (end_of r) k (added-behind vs us r h)

pub live-before : (vs : List Version) (us : List Mutation) (r : ℕ) (range : KeyRange) → AllByRecursion (λ u. u.rev.main ≡ r + 1) us
    → live (extend_all vs us) (end_of r) range ≡ live vs (end_of r) range
live-before vs us r range h = live-same (extend_all vs us) vs (end_of r) range (λ k. value-before vs us r k h)

-- ---- a good part that grows

-- at a kept revision, or the next, a good part holds what the whole holds, both grown by the same versions
grown-values : (vs t : List Version) (ms : List Mutation) (c r : ℕ) (k : List ℕ) → IsGood vs ms c → IsHistory ms → c ≤ now ms → 1 ≤ r
    → c ≤ r
    → value_at (vs ++ t) (end_of r) k ≡ value_at (dress ms ++ t) (end_of r) k
grown-values vs t ms c r k g h f one kept = value_at-grows vs (dress ms) t (end_of r) k (by (cases_lt (now ms) r))
  where
    by : (now ms < r) ⊎ (r ≤ now ms) → value_at vs (end_of r) k ≡ value_at (dress ms) (end_of r) k
    by (inl l) = value_at-by vs (end_of r) k (each-part (λ v. rev_le v.rev (end_of r) ≡ true) g.part (dressed-before ms r h (omega arith)))
        ∙ good-value_now vs ms c k g h f ∙ sym (value_at-by (dress ms) (end_of r) k (dressed-before ms r h (omega arith)))
    by (inr l) = good-value_at vs ms c r k g h (record { first = one; kept = kept; past = l })

pub map-filter-same : {X Y : Type 0} (p : X → Bool) (f g : X → Y) → ((x : X) → p x ≡ true → f x ≡ g x) → (xs : List X) → map f (filter p xs)
    ≡ map g (filter p xs)
map-filter-same p f g h [] = refl
map-filter-same p f g h (x ∷ xs) = by (p x) refl (map-filter-same p f g h xs)
  where
    by : (b : Bool) → p x ≡ b → map f (filter p xs) ≡ map g (filter p xs) → map f (cond b (x ∷ filter p xs) (filter p xs))
        ≡ map g (cond b (x ∷ filter p xs) (filter p xs))
    by true e rest = λ i. h x e i ∷ rest i
    by false e rest = rest

pub filter-none : {X : Type 0} (p : X → Bool) (xs : List X) → AllByRecursion (λ x. p x ≡ false) xs → filter p xs ≡ []
filter-none p [] h = refl
filter-none p (x ∷ xs) h = ap (λ b. cond b (x ∷ filter p xs) (filter p xs)) h.0 ∙ filter-none p xs h.1

-- what a watch asked for a revision is shown of
abbrev pub is_told : ℕ → Watched → Version → Bool
is_told r w v = v.rev.main == r && matches w v

pub other-revision : (r n : ℕ) (w : Watched) → n ≢ r → (v : Version) → v.rev.main ≡ n → is_told r w v ≡ false
other-revision r n w ne v e = by (v.rev.main == r) refl
  where
    by : (b : Bool) → (v.rev.main == r) ≡ b → (b && matches w v) ≡ false
    by true f = absurd (ne (sym e ∙ eqb-true v.rev.main r f))
    by false f = refl

pub told-main : (r : ℕ) (w : Watched) (v : Version) → is_told r w v ≡ true → v.rev.main ≡ r
told-main r w v h = by (v.rev.main == r) refl h
  where
    by : (b : Bool) → (v.rev.main == r) ≡ b → (b && matches w v) ≡ true → v.rev.main ≡ r
    by true f e = eqb-true v.rev.main r f
    by false f e = cc

-- what is told of a version, by what its key held before it
pub event-same : (vs ws : List Version) (c : ℕ) (w : Watched) (v : Version) → value_at vs (end_of (v.rev.main - 1)) v.key
    ≡ value_at ws (end_of (v.rev.main - 1)) v.key
    → event_of vs c w v ≡ event_of ws c w v
event-same vs ws c w v e = ap (λ (o : Option KeyValue). record {
  version = v;
  before = cond (before_is_kept c v.rev.main
      && w.prev_kv) o None;
}) e

-- versions of other revisions are not told of
pub events-append : (vs t : List Version) (c r n : ℕ) (w : Watched) → AllByRecursion (λ v. v.rev.main ≡ n) t → r < n
    → events_of (vs ++ t) c r w ≡ events_of vs c r w
events-append vs t c r n w at l =
    let ne : n ≢ r = omega arith in
    ap (map (event_of (vs ++ t) c w)) (filter-append (is_told r w) vs t
    ∙ ap (λ us. filter (is_told r w) vs ++ us) (filter-none (is_told r w) t (each-map (λ v. v.rev.main ≡ n) (λ v. is_told r w v
    ≡ false) (other-revision r n w ne) t at))
    ∙ append-nil (filter (is_told r w) vs))
    ∙ map-filter-same (is_told r w) (event_of (vs ++ t) c w) (event_of vs c w) (λ v e. event-same (vs
    ++ t) vs c w v (value_at-behind vs t (end_of (v.rev.main - 1)) v.key
    (each-map (λ u. u.rev.main ≡ n) (λ u. rev_le u.rev (end_of (v.rev.main - 1)) ≡ false) (λ u f. rev_le-after u.rev (end_of (v.rev.main - 1)) (let g : v.rev.main ≡ r = told-main r w v e in omega arith)) t at))) vs

-- and of a later revision only what was added is told
events-added : (vs t : List Version) (c r : ℕ) (w : Watched) → AllByRecursion (λ v. v.rev.main < r) vs → events_of (vs ++ t) c r w
    ≡ map (event_of (vs ++ t) c w) (filter (is_told r w) t)
events-added vs t c r w before = ap (map (event_of (vs ++ t) c w)) (filter-append (is_told r w) vs t
    ∙ ap (λ us. us ++ filter (is_told r w) t) (filter-none (is_told r w) vs (each-map (λ v. v.rev.main < r) (λ v. is_told r w v
    ≡ false) other vs before)))
  where
    other : (v : Version) → v.rev.main < r → is_told r w v ≡ false
    other v l = let ne : v.rev.main ≢ r = omega arith in other-revision r v.rev.main w ne v refl

watch_of : Answered → List WatchEvent
watch_of (Answered.range r) = []
watch_of (Answered.watch es) = es

-- a good part tells a watch what the whole history tells
pub good-events : (vs : List Version) (ms : List Mutation) (c r : ℕ) (w : Watched) → IsGood vs ms c → IsKept c (now ms) r
    → events_of vs c r w ≡ events_of (dress ms) c r w
unfolding watch_of
good-events vs ms c r w g k = ap watch_of (g.answers (Question.watch w r) k)

pub dressed-mains : (ms : List Mutation) → IsHistory ms → AllByRecursion (λ v. v.rev.main ≤ now ms) (dress ms)
dressed-mains ms h = each-dressed (λ p k. p.main ≤ now ms) ms (mains-by ms h)

grown-events : (vs t : List Version) (ms : List Mutation) (c r : ℕ) (w : Watched) → IsGood vs ms c → IsHistory ms → c ≤ now ms → 1 ≤ r
    → c ≤ r → r ≤ now ms + 1
    → AllByRecursion (λ v. v.rev.main ≡ now ms + 1) t → events_of (vs ++ t) c r w ≡ events_of (dress ms ++ t) c r w
grown-events vs t ms c r w g h f one kept last at = by (cases_lt (now ms) r)
  where
    before : now ms < r → AllByRecursion (λ v. v.rev.main < r) (dress ms)
    before l = each-map (λ v. v.rev.main ≤ now ms) (λ v. v.rev.main < r) (λ v e. omega arith) (dress ms) (dressed-mains ms h)

    by : (now ms < r) ⊎ (r ≤ now ms) → events_of (vs ++ t) c r w ≡ events_of (dress ms ++ t) c r w
    by (inl l) = events-added vs t c r w (each-part (λ v. v.rev.main < r) g.part (before l))
        ∙ map-filter-same (is_told r w) (event_of (vs ++ t) c w) (event_of (dress ms ++ t) c w) same t
        ∙ sym (events-added (dress ms) t c r w (before l))
      where
        same : (v : Version) → is_told r w v ≡ true → event_of (vs ++ t) c w v ≡ event_of (dress ms ++ t) c w v
        same v e =
            let is : v.rev.main - 1 ≡ now ms = (let m : v.rev.main ≡ r = told-main r w v e in omega arith) in
            event-same (vs ++ t) (dress ms ++ t) c w v (subst (λ n. value_at (vs ++ t) (end_of n) v.key
            ≡ value_at (dress ms ++ t) (end_of n) v.key) (sym is) (grown-values vs t ms c (now ms) v.key g h f (now-above ms h) f))
    by (inr l) = events-append vs t c r (now ms + 1) w at (omega arith) ∙ good-events vs ms c r w g (record {
      first = one;
      kept = kept;
      past = l;
    })
        ∙ sym (events-append (dress ms) t c r (now ms + 1) w at (omega arith))

pub now-most : (ms us : List Mutation) → AllByRecursion (λ u. u.rev.main ≡ now ms + 1) us → now (ms ++ us) ≤ now ms + 1
now-most ms [] h = let e : now (ms ++ []) ≡ now ms = ap now (append-nil ms) in omega arith
now-most ms (u ∷ us) h = let e : now (ms ++ u ∷ us) ≡ now ms + 1 = now-grows ms u us (now ms + 1) h in omega arith

pub now-least : (ms us : List Mutation) → AllByRecursion (λ u. u.rev.main ≡ now ms + 1) us → now ms ≤ now (ms ++ us)
now-least ms [] h = let e : now (ms ++ []) ≡ now ms = ap now (append-nil ms) in omega arith
now-least ms (u ∷ us) h = let e : now (ms ++ u ∷ us) ≡ now ms + 1 = now-grows ms u us (now ms + 1) h in omega arith

-- a good part gets the versions that the whole history gets
pub good-added : (vs : List Version) (ms us : List Mutation) (c : ℕ) → IsGood vs ms c → IsHistory ms → c ≤ now ms → extend_all vs us ≡ vs
    ++ added_by (dress ms) us
good-added vs ms us c g h f = extend_all-added vs us
    ∙ ap (λ t. vs ++ t) (added_by-same vs (dress ms) us (λ k. good-value_now vs ms c k g h f))

-- and stays good with them
pub good-grows : (vs : List Version) (ms us : List Mutation) (c : ℕ) → IsGood vs ms c → IsHistory ms → c ≤ now ms → IsBatch (now ms + 1) us
    → IsGood (extend_all vs us) (ms ++ us) c
good-grows vs ms us c g h f b = record {
  part = subst (λ xs. IsPart xs (dress (ms ++ us))) (sym is) (subst (λ ys. IsPart (vs ++ added_by (dress ms) us) ys)
      (sym (dress-added ms us)) (part-append (added_by (dress ms) us) g.part));
  answers = λ q a. ap (λ xs. answered xs c (now (ms ++ us)) q) is ∙ same q a
      ∙ sym (ap (λ xs. answered xs c (now (ms ++ us)) q) (dress-added ms us));
}
  where
    is : extend_all vs us ≡ vs ++ added_by (dress ms) us
    is = good-added vs ms us c g h f

    same : (q : Question) → IsQuestion c (now (ms ++ us)) q → answered (vs ++ added_by (dress ms) us) c (now (ms ++ us)) q
        ≡ answered (dress ms ++ added_by (dress ms) us) c (now (ms ++ us)) q
    same (Question.range q) a = ap Answered.range (same_ranges (vs ++ added_by (dress ms) us) (dress ms
        ++ added_by (dress ms) us) c (now (ms ++ us)) a.revision (end_of (now (ms ++ us))) q a.kept.first a.is
        (λ k. grown-values vs (added_by (dress ms) us) ms c a.revision k g h f a.kept.first a.kept.kept))
    same (Question.watch w r) a =
        let last : now (ms ++ us) ≤ now ms + 1 = now-most ms us b.at in
        ap Answered.watch (grown-events vs (added_by (dress ms) us) ms c r w g h f a.first a.kept (omega arith) (each-added (λ p k. p.main
        ≡ now ms + 1) (dress ms) us b.at))
