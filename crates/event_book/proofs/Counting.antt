-- How many events of a holder a list has.
use Rattle.std.proofs.Common.{◌≡◌, ◌≢◌, ℕ, zero, suc, ◌+◌, ◌<◌, ◌≤◌, ◌==◌, Bool, true, false, cond, ◌||◌, List, map, [], ◌∷◌, ◌++◌, All, length, refl, ap, sym, subst, ◌∙◌}
use Rattle.std.proofs.Common.{arith, length-append}
use Rattle.std.specs.Prelude.{replicate, slice_index_or, slice_set, sum}
use Rattle.std.specs.List.{list_any}
use Rattle.std.proofs.lemmas.List.Folds.{list_any-append}
use Rattle.std.proofs.lemmas.List.Sums.{sum_by_push}
use Rattle.std.proofs.lemmas.Bool.Decides.{nat_tests}
use Rattle.std.proofs.lemmas.List.{append-nil, map-append, get_or-replicate, get_or-set_same, get_or-set_other, length-set}
use Rattle.std.proofs.lemmas.List.Elements.{All-append, filter-append}
use mathlib.Core.List.{IsPrefix}
use Rattle.event_book.specs.Events.{Entry, events_by}
use Rattle.event_book.specs.Callers.{AreAll, Caller, Owns, made_by, made_by_all}
use Rattle.event_book.specs.Lists.{AreCounted, AreMarked, IsMarked}

pub by_append : (n : ℕ) (xs ys : List Entry) → events_by n (xs ++ ys) ≡ events_by n xs ++ events_by n ys
by_append n xs ys = filter-append (λ (e : Entry). e.by == n) xs ys

none_of : {A : Type 0} (xs : List A) → length xs ≡ 0 → xs ≡ []
none_of [] e = refl
none_of (x ∷ xs) e = absurd (omega (arith, e))

-- a list that has no more events of a holder than its beginning has none behind it
pub none_between : (n : ℕ) (xs ys : List Entry) → length (events_by n (xs ++ ys)) ≡ length (events_by n xs) → events_by n ys ≡ []
none_between n xs ys same =
    none_of (events_by n ys) (omega (arith, same, ap length (by_append n xs ys), length-append (events_by n xs) (events_by n ys)))

one_by : (n : ℕ) (e : Entry) → length (events_by n (e ∷ [])) ≡ cond (e.by == n) 1 0
one_by n e = by (e.by == n)
  where
    by : (b : Bool) → length (cond b (e ∷ []) []) ≡ cond b 1 0
    by true = refl
    by false = refl

-- an event more
pub count_more : (n : ℕ) (log : List Entry) (e : Entry) → length (events_by n (log ++ e ∷ [])) ≡ length (events_by n log) + cond (e.by == n) 1 0
count_more n log e = ap length (by_append n log (e ∷ [])) ∙ (length-append (events_by n log) (events_by n (e ∷ [])) ∙ ap (λ k. length (events_by n log) + k) (one_by n e))

all_one : {A : Type 0} (P : A → Type 0) (x : A) → P x → All P (x ∷ [])
all_one P x p zero d lt = p
all_one P x p (suc k) d lt = absurd (omega (arith, lt))

each_more : (counts : List ℕ) (log : List Entry) (e : Entry) (x n : ℕ) → AreCounted counts log → e.by < length counts
    → x ≡ slice_index_or counts e.by 0 + 1 → n < 64 → (b : Bool) → (e.by == n) ≡ b
    → slice_index_or (slice_set counts e.by x) n 0 ≡ length (events_by n log) + cond b 1 0
each_more counts log e x n h room is lt true same =
    let at : e.by ≡ n = grind (arith, nat_tests) in
    subst (λ (k : ℕ). slice_index_or (slice_set counts e.by x) k 0 ≡ length (events_by k log) + 1) at
    (get_or-set_same counts e.by x 0 room ∙ (is ∙ ap (λ k. k + 1) (h.each e.by (subst (λ k. k < 64) (sym at) lt))))
each_more counts log e x n h room is lt false same =
    let other : n ≢ e.by = λ at. absurd (grind (arith, nat_tests)) in
    get_or-set_other counts e.by n x 0 other ∙ (h.each n lt ∙ omega arith)

-- and it is counted
pub counted_more : (counts : List ℕ) (log : List Entry) (e : Entry) (x : ℕ) → AreCounted counts log → e.by < length counts → e.by < 64
    → x ≡ slice_index_or counts e.by 0 + 1 → AreCounted (slice_set counts e.by x) (log ++ e ∷ [])
counted_more counts log e x h room few is = record {
  all = length-set counts e.by x ∙ h.all;
  each = λ n lt. each_more counts log e x n h room is lt (e.by == n) refl ∙ sym (count_more n log e);
  known = All-append (λ (e : Entry). e.by < 64) log (e ∷ []) h.known (all_one (λ (e : Entry). e.by < 64) e few);
}

-- the same, by the number of its holder
pub counted_by : (counts : List ℕ) (log : List Entry) (e : Entry) (x n : ℕ) → e.by ≡ n → AreCounted counts log → n < length counts → n < 64
    → x ≡ slice_index_or counts n 0 + 1 → AreCounted (slice_set counts n x) (log ++ e ∷ [])
counted_by counts log e x n by h room few is =
    subst (λ (k : ℕ). AreCounted (slice_set counts k x) (log ++ e ∷ [])) by
    (counted_more counts log e x h (subst (λ (k : ℕ). k < length counts) (sym by) room) (subst (λ (k : ℕ). k < 64) (sym by) few)
    (is ∙ ap (λ k. slice_index_or counts k 0 + 1) (sym by)))

pub count_own : (n : ℕ) (log : List Entry) (e : Entry) → e.by ≡ n → length (events_by n (log ++ e ∷ [])) ≡ length (events_by n log) + 1
count_own n log e by =
    let own : (e.by == n) ≡ true = grind (arith, nat_tests) in
    count_more n log e ∙ ap (λ (b : Bool). length (events_by n log) + cond b 1 0) own

-- a holder that has seen as many events of its own as the list has owns them
pub owned : (c : Caller) (log : List Entry) → IsPrefix c.front log → length (events_by c.number log) ≡ length (events_by c.number c.front)
    → Owns log c
owned c log p same =
    let all : events_by c.number (c.front ++ p.0) ≡ events_by c.number log = ap (events_by c.number) p.1 in
    let none : events_by c.number p.0 ≡ [] = none_between c.number c.front p.0 (ap length all ∙ same) in
    record {
      begins = p;
      mine = sym all ∙ (by_append c.number c.front p.0 ∙ (ap (λ w. events_by c.number c.front ++ w) none ∙ append-nil (events_by c.number c.front)));
    }

some_more : (n : ℕ) (e : Entry) (log : List Entry) → length (events_by n log) ≤ length (events_by n (e ∷ log))
some_more n e log = by (e.by == n)
  where
    by : (b : Bool) → length (events_by n log) ≤ length (cond b (e ∷ events_by n log) (events_by n log))
    by true = omega arith
    by false = omega arith

some_here : (e : Entry) (log : List Entry) → 0 < length (events_by e.by (e ∷ log))
some_here e log = by (e.by == e.by) (grind (arith, nat_tests))
  where
    by : (b : Bool) → b ≡ true → 0 < length (cond b (e ∷ events_by e.by log) (events_by e.by log))
    by true is = omega arith
    by false is = absurd (cc is)

some_at : (log : List Entry) (k : ℕ) (d : Entry) → k < length log → 0 < length (events_by (slice_index_or log k d).by log)
some_at [] k d lt = absurd (omega (arith, lt))
some_at (e ∷ log) zero d lt = some_here e log
some_at (e ∷ log) (suc k) d lt = omega (arith, some_at log k d (omega (arith, lt)), some_more (slice_index_or log k d).by e log)

-- where each holder with an event passes, so does that of each event
pub known_all : (Q : ℕ → Bool) (log : List Entry) → ((n : ℕ) → n < 64 → 0 < length (events_by n log) → Q n ≡ true)
    → All (λ e. e.by < 64) log → All (λ e. Q e.by ≡ true) log
known_all Q log h known k d lt = h (slice_index_or log k d).by (known k d lt) (some_at log k d lt)

-- where this was so of all numbers before one, and is of this one, it is of all before the next
pub known_more : (Q : ℕ → Bool) (log : List Entry) (m : ℕ) → ((n : ℕ) → n < m → 0 < length (events_by n log) → Q n ≡ true)
    → (0 < length (events_by m log) → Q m ≡ true) → (n : ℕ) → n < m + 1 → 0 < length (events_by n log) → Q n ≡ true
known_more Q log m h here n lt some = by (n == m) refl
  where
    by : (b : Bool) → (n == m) ≡ b → Q n ≡ true
    by true is =
        let same : n ≡ m = grind (arith, nat_tests) in
        subst (λ (k : ℕ). Q k ≡ true) (sym same) (here (subst (λ (k : ℕ). 0 < length (events_by k log)) same some))
    by false is = h n (let other : n ≢ m = λ e. absurd (grind (arith, nat_tests)) in omega (arith, other)) some

-- and the same of the elements of a list
pub all_next : {A : Type 0} (P : A → Type 0) (xs : List A) (m : ℕ) → ((k : ℕ) (d : A) → k < m → P (slice_index_or xs k d))
    → ((d : A) → P (slice_index_or xs m d)) → (k : ℕ) (d : A) → k < m + 1 → P (slice_index_or xs k d)
all_next {A} P xs m h here k d lt = by (k == m) refl
  where
    by : (b : Bool) → (k == m) ≡ b → P (slice_index_or xs k d)
    by true is =
        let same : k ≡ m = grind (arith, nat_tests) in subst (λ (i : ℕ). P (slice_index_or xs i d)) (sym same) (here d)
    by false is = h k d (let other : k ≢ m = λ e. absurd (grind (arith, nat_tests)) in omega (arith, other))

-- an element does not go by what stands for one that is not there
pub any_default : {A : Type 0} (xs : List A) (i : ℕ) (d e : A) → i < length xs → slice_index_or xs i d ≡ slice_index_or xs i e
any_default [] i d e lt = absurd (omega (arith, lt))
any_default (x ∷ xs) zero d e lt = refl
any_default (x ∷ xs) (suc i) d e lt = any_default xs i d e (omega (arith, lt))

-- nothing is counted where nothing was made
pub counted_first : (counts : List ℕ) (log : List Entry) → counts ≡ replicate 64 0 → log ≡ [] → AreCounted counts log
counted_first counts log c e = record {
  all = ap length c;
  each = λ n lt. ap (λ (l : List ℕ). slice_index_or l n 0) c ∙ (get_or-replicate 64 n 0 0 lt ∙ sym (ap (λ l. length (events_by n l)) e));
  known = subst (All (λ (e : Entry). e.by < 64)) (sym e) (λ k d lt. absurd (omega (arith, lt)));
}

-- ---- whose numbers came back

pub marked_first : (marks : List Bool) (list : List Caller) → marks ≡ replicate 64 false → list ≡ [] → AreMarked marks list
marked_first marks list m e = record {
  all = ap length m;
  each = λ n lt. ap (λ (l : List Bool). slice_index_or l n false) m ∙ (get_or-replicate 64 n false false lt ∙ sym (ap (λ l. list_any (λ (c : Caller). c.number == n) l) e));
}

or_true : (b : Bool) → (b || true) ≡ true
or_true true = refl
or_true false = refl

or_false : (b : Bool) → (b || false) ≡ b
or_false true = refl
or_false false = refl

any_one : (n : ℕ) (c : Caller) → list_any (λ (c' : Caller). c'.number == n) (c ∷ []) ≡ (c.number == n)
any_one n c = or_false (c.number == n)

each_marked : (marks : List Bool) (list : List Caller) (c : Caller) (n : ℕ) → AreMarked marks list → c.number < length marks → n < 64
    → (b : Bool) → (c.number == n) ≡ b
    → slice_index_or (slice_set marks c.number true) n false ≡ (list_any (λ (c' : Caller). c'.number == n) list || b)
each_marked marks list c n h room lt true same =
    let at : c.number ≡ n = grind (arith, nat_tests) in
    subst (λ (k : ℕ). slice_index_or (slice_set marks c.number true) k false ≡ true) at (get_or-set_same marks c.number true false room)
    ∙ sym (or_true (list_any (λ (c' : Caller). c'.number == n) list))
each_marked marks list c n h room lt false same =
    let other : n ≢ c.number = λ at. absurd (grind (arith, nat_tests)) in
    get_or-set_other marks c.number n true false other ∙ (h.each n lt ∙ sym (or_false (list_any (λ (c' : Caller). c'.number == n) list)))

-- the number of one that comes back is marked
pub marked_more : (marks : List Bool) (list : List Caller) (c : Caller) → AreMarked marks list → c.number < 64
    → AreMarked (slice_set marks c.number true) (list ++ c ∷ [])
marked_more marks list c h few = record {
  all = length-set marks c.number true ∙ h.all;
  each = λ n lt. each_marked marks list c n h (omega (arith, h.all, few)) lt (c.number == n) refl
      ∙ sym (list_any-append (λ (c' : Caller). c'.number == n) list (c ∷ []) ∙ ap (λ b. list_any (λ (c' : Caller). c'.number == n) list || b) (any_one n c));
}

-- one holder more made its own events, too
pub made_more : (list : List Caller) (c : Caller) → made_by_all (list ++ c ∷ []) ≡ made_by_all list + made_by c
made_more list c = ap sum (map-append made_by list (c ∷ [])) ∙ sum_by_push (λ (k : ℕ). k) (map made_by list) (made_by c)

-- each event is of one that came back, where its number is marked
pub all_marked : (marks : List Bool) (list : List Caller) (log : List Entry) → AreMarked marks list → All (λ e. IsMarked marks e.by) log
    → All (Owns log) list → AreAll log list
all_marked marks list log h is owns = record {
  owns = owns;
  each = λ k d lt. sym (h.each (slice_index_or log k d).by (is k d lt).0) ∙ (is k d lt).1;
}

-- and that is so of each event where it is of each number of which there is one
pub marked_all : (marks : List Bool) (log : List Entry)
    → ((n : ℕ) → n < 64 → 0 < length (events_by n log) → slice_index_or marks n false ≡ true)
    → All (λ e. e.by < 64) log → All (λ e. IsMarked marks e.by) log
marked_all marks log is known k d lt = (known k d lt, known_all (λ n. slice_index_or marks n false) log is known k d lt)
