-- What a trimming step leaves is good, and steps come to an end where nothing is left to take out.
use Rattle.std.proofs.Common.{append_assoc, ◌≡◌, ◌≤◌, ◌<◌, ℕ, ◌-◌, ◌^◌, List, [], ◌∷◌, ◌++◌, map, filter, Bool, true, false, ◌&&◌, ◌||◌, cond}
use Rattle.std.proofs.Common.{None, refl, sym, ◌∙◌, ap, subst, arith}
use Rattle.std.specs.Prelude.{nat_lt, nat_le, ◌==◌}
use Rattle.std.proofs.lemmas.Bool.{leb-true, eqb-true}
use Rattle.std.proofs.lemmas.List.{append-nil}
use Rattle.std.proofs.lemmas.List.Folds.{list_any-append}
use Rattle.std.proofs.lemmas.List.Elements.{filter-append}
use Rattle.std.specs.List.{list_any}
use Rattle.kv_model.specs.declared.version.Version.{Version}
use Rattle.kv_model.specs.declared.call.Watched.{Watched}
use Rattle.kv_model.specs.Lists.{IsPart, nothing, keep, leave}
use Rattle.kv_model.specs.History.{Mutation, now, dress, value_at, end_of, is_superseded, is_tombstone}
use Rattle.store_laws.specs.Sound.{IsHistory}
use Rattle.kv_model.specs.Watches.{WatchEvent, event_of, events_of, matches}
use Rattle.kv_model.specs.Questions.{Question, IsQuestion, Answered, answered, IsGood}
use Rattle.store_laws.specs.Trimming.{is_trimmed, IsSettled}
use Rattle.store_laws.proofs.Compacting.{same_ranges}
use Rattle.store_laws.proofs.PlaceLaws.{each-map, each-append}
use Rattle.store_laws.proofs.HistoryLaws.{AllByRecursion-split}
use Rattle.store_laws.proofs.TrimLaws.{AreRising, rising-dress, rising-part, before-mid, AreNumbered, sit-numbers, sit-part, AreLeft}
use Rattle.store_laws.proofs.TrimLaws.{GoesNext, goes-by, goes-below, out-values, replaces}

pub part-trans : {X : Type 0} {xs ys zs : List X} → IsPart xs ys → IsPart ys zs → IsPart xs zs
part-trans p nothing = p
part-trans (keep p) (keep q) = keep (part-trans p q)
part-trans (leave p) (keep q) = leave (part-trans p q)
part-trans p (leave q) = leave (part-trans p q)

pub part-self : {X : Type 0} (xs : List X) → IsPart xs xs
part-self [] = nothing
part-self (x ∷ xs) = keep (part-self xs)

pub part-without : {X : Type 0} (xs : List X) (v : X) (ys : List X) → IsPart (xs ++ ys) (xs ++ v ∷ ys)
part-without [] v ys = leave (part-self ys)
part-without (x ∷ xs) v ys = keep (part-without xs v ys)

-- ---- the events of a revision

-- lists that hold the same from before the compaction on tell of a version alike
pub same_event : (us vs : List Version) (c : ℕ) (w : Watched) → ((r : ℕ) (k : List ℕ) → c - 1 ≤ r → value_at us (end_of r) k
    ≡ value_at vs (end_of r) k) → (u : Version) → event_of us c w u ≡ event_of vs c w u
same_event us vs c w same u = by (nat_le c u.rev.main) refl
  where
    by : (b : Bool) → nat_le c u.rev.main ≡ b
        → ◌≡◌ {A = WatchEvent} (record { version = u; before = cond (b && w.prev_kv) (value_at us (end_of (u.rev.main - 1)) u.key) None })
        (record { version = u; before = cond (b && w.prev_kv) (value_at vs (end_of (u.rev.main - 1)) u.key) None })
    by true e = let above : c ≤ u.rev.main = leb-true c u.rev.main e in
        λ i. record { version = u; before = cond w.prev_kv (same (u.rev.main - 1) u.key (omega arith) i) None }
    by false e = refl

pub differs : (a b : ℕ) → a < b → (a == b) ≡ false
differs a b l = by (a == b) refl
  where
    by : (t : Bool) → (a == b) ≡ t → t ≡ false
    by true e = let f : a ≡ b = eqb-true a b e in absurd (omega arith)
    by false e = refl

-- a version of an earlier revision is not told of
not_told : (xs : List Version) (v : Version) (ys : List Version) (r : ℕ) (w : Watched) → v.rev.main < r
    → filter (λ u. u.rev.main == r && matches w u) (xs ++ v ∷ ys) ≡ filter (λ u. u.rev.main == r && matches w u) (xs ++ ys)
not_told xs v ys r w l =
    let test : Version → Bool = λ u. u.rev.main == r && matches w u in
    let other : (v.rev.main == r) ≡ false = differs v.rev.main r l in
    filter-append test xs (v ∷ ys) ∙ ap (λ b. filter test xs ++ cond (b && matches w v) (v ∷ filter test ys) (filter test ys)) other
    ∙ sym (filter-append test xs ys)

pub events-out : (xs : List Version) (v : Version) (ys : List Version) (c r : ℕ) (w : Watched) → v.rev.main < r
    → ((r : ℕ) (k : List ℕ) → c - 1 ≤ r → value_at (xs ++ ys) (end_of r) k ≡ value_at (xs ++ v ∷ ys) (end_of r) k) → events_of (xs ++ ys) c r w
    ≡ events_of (xs ++ v ∷ ys) c r w
events-out xs v ys c r w l same =
    let alike : event_of (xs ++ ys) c w ≡ event_of (xs ++ v ∷ ys) c w = λ i u. same_event (xs ++ ys) (xs ++ v ∷ ys) c w same u i in
    ap (λ g. map g (filter (λ u. u.rev.main == r && matches w u) (xs ++ ys))) alike
    ∙ ap (map (event_of (xs ++ v ∷ ys) c w)) (sym (not_told xs v ys r w l))

-- ---- one step

pub step-good : (ms : List Mutation) (c : ℕ) (xs : List Version) (v : Version) (ys : List Version) → IsHistory ms
    → IsGood (xs ++ v ∷ ys) ms c → AreLeft (xs ++ v ∷ ys) c xs
    → is_trimmed (xs ++ v ∷ ys) c v ≡ true → IsGood (xs ++ ys) ms c
step-good ms c xs v ys h g left e = record { part = part-trans (part-without xs v ys) g.part; answers = answers }
  where
    rising : AreRising (xs ++ v ∷ ys)
    rising = rising-part g.part (rising-dress ms h)

    below : v.rev.main < c
    below = goes-below xs v ys c rising e

    numbers : AreNumbered (xs ++ v ∷ ys)
    numbers = sit-numbers (now ms) (xs ++ v ∷ ys) (sit-part (xs ++ v ∷ ys) ms g.part h)

    next : GoesNext c xs v ys
    next = record {
      by = goes-by (xs ++ v ∷ ys) c v e;
      goes = e;
      before = before-mid xs v ys rising;
      left = left;
      numbers = (AllByRecursion-split (λ u. u.rev.sub < 2 ^ 64) xs (v ∷ ys) numbers).1.1;
    }

    same : (r : ℕ) (k : List ℕ) → c - 1 ≤ r → value_at (xs ++ ys) (end_of r) k ≡ value_at (xs ++ v ∷ ys) (end_of r) k
    same r k l = sym (out-values c r xs v ys k l next)

    answers : (q : Question) → IsQuestion c (now ms) q → answered (xs ++ ys) c (now ms) q ≡ answered (dress ms) c (now ms) q
    answers (Question.range q) a =
        ap Answered.range (same_ranges (xs ++ ys) (xs ++ v ∷ ys) c (now ms) a.revision (end_of (now ms)) q a.kept.first a.is
        (λ k. same a.revision k (let d : c ≤ a.revision = a.kept.kept in omega arith))) ∙ g.answers (Question.range q) a
    answers (Question.watch w r) a =
        ap Answered.watch (events-out xs v ys c r w (let d : c ≤ r = a.kept in omega (arith, below)) same)
        ∙ g.answers (Question.watch w r) a

-- ---- steps to the end

-- what is left stays left where less is kept
pub fewer : (xs : List Version) (v : Version) (ys : List Version) (c : ℕ) (u : Version)
    → (nat_le u.rev.main c && is_trimmed (xs ++ v ∷ ys) c u) ≡ false → (nat_le u.rev.main c && is_trimmed (xs ++ ys) c u) ≡ false
unfolding is_superseded
fewer xs v ys c u e =
    let test : Version → Bool = replaces (c - 1) u in
    let gone : Bool = is_tombstone u.body && nat_lt u.rev.main c in
    ap (λ b. nat_le u.rev.main c && (b || gone)) (list_any-append test xs ys)
    ∙ by (nat_le u.rev.main c) (list_any test xs) (test v) (list_any test ys) gone (sym (ap (λ b. nat_le u.rev.main c
    && (b || gone)) (list_any-append test xs (v ∷ ys))) ∙ e)
  where
    by : (l a b d t : Bool) → (l && ((a || (b || d)) || t)) ≡ false → (l && ((a || d) || t)) ≡ false
    by false a b d t e = refl
    by true true b d t e = e
    by true false true d t e = cc
    by true false false d t e = e

-- some part of what is kept is good and has nothing left to take out
pub record Settles (ms : List Mutation) (c : ℕ) (whole : List Version) : Type 0 where
  pub settled : List Version
  pub part : IsPart settled whole
  pub good : IsGood settled ms c
  pub is_settled : IsSettled settled c

wider : (ms : List Mutation) (c : ℕ) (us vs : List Version) → IsPart us vs → Settles ms c us → Settles ms c vs
wider ms c us vs p s = record { settled = s.settled; part = part-trans s.part p; good = s.good; is_settled = s.is_settled }

settle : (ms : List Mutation) (c : ℕ) → IsHistory ms → (xs ys : List Version) → IsGood (xs ++ ys) ms c → AreLeft (xs ++ ys) c xs
    → Settles ms c (xs ++ ys)
settle ms c h xs [] g left =
    let same : xs ++ [] ≡ xs = append-nil xs in
    record { settled = xs ++ []; part = part-self (xs ++ []); good = g; is_settled = subst (λ us. AreLeft (xs ++ []) c us) (sym same) left }
settle ms c h xs (v ∷ ys) g left = by (nat_le v.rev.main c) refl (is_trimmed (xs ++ v ∷ ys) c v) refl (settle ms c h xs ys)
    (settle ms c h (xs ++ v ∷ []) ys)
  where
    kept : (xs ++ v ∷ []) ++ ys ≡ xs ++ v ∷ ys
    kept = append_assoc xs (v ∷ []) ys

    on : (nat_le v.rev.main c && is_trimmed (xs ++ v ∷ ys) c v) ≡ false → (IsGood ((xs ++ v ∷ []) ++ ys) ms c → AreLeft ((xs ++ v ∷ [])
        ++ ys) c (xs ++ v ∷ []) → Settles ms c ((xs ++ v ∷ []) ++ ys)) → Settles ms c (xs ++ v ∷ ys)
    on e rest = subst (Settles ms c) kept (rest (subst (λ us. IsGood us ms c) (sym kept) g)
        (subst (λ us. AreLeft us c (xs ++ v ∷ [])) (sym kept) (each-append (λ u. (nat_le u.rev.main c && is_trimmed (xs ++ v ∷ ys) c u)
        ≡ false) xs (v ∷ []) left (e, tt))))

    by : (a : Bool) → nat_le v.rev.main c ≡ a → (b : Bool) → is_trimmed (xs ++ v ∷ ys) c v ≡ b
        → (IsGood (xs ++ ys) ms c → AreLeft (xs ++ ys) c xs → Settles ms c (xs ++ ys))
        → (IsGood ((xs ++ v ∷ []) ++ ys) ms c → AreLeft ((xs ++ v ∷ []) ++ ys) c (xs ++ v ∷ []) → Settles ms c ((xs ++ v ∷ []) ++ ys))
        → Settles ms c (xs ++ v ∷ ys)
    by true d true e out rest = wider ms c (xs ++ ys) (xs ++ v ∷ ys) (part-without xs v ys) (out (step-good ms c xs v ys h g left e)
        (each-map (λ u. (nat_le u.rev.main c && is_trimmed (xs ++ v ∷ ys) c u) ≡ false) (λ u. (nat_le u.rev.main c
        && is_trimmed (xs ++ ys) c u) ≡ false) (fewer xs v ys c) xs left))
    by true d false e out rest = on (λ i. d i && e i) rest
    by false d b e out rest = on (λ i. d i && e i) rest

-- from any good list
pub settles : (ms : List Mutation) (c : ℕ) (vs : List Version) → IsHistory ms → IsGood vs ms c → Settles ms c vs
settles ms c vs h g = settle ms c h [] vs g tt
