-- Lines that are read and answered one at a time.
use Rattle.std.proofs.Common.{◌≡◌, ℕ, zero, suc, ◌+◌, ◌<◌, ◌≤◌, ◌==◌, nat_lt, arith, List, [], ◌∷◌, ◌++◌, length, take, drop, map, get_or, Bool, true, false, length-append}
use Rattle.std.proofs.Common.{Option, None, Some, Result, Ok, Err, OnErr, MatchBool, refl, sym, ◌∙◌, ap, subst, append_assoc}
use Rattle.std.specs.Prelude.{IfSome, unwrap_or}
use Rattle.std.specs.List.{position_or_len, before_first, after_first}
use Rattle.std.specs.Io.BufRead.{take_through, drop_through, DropsThrough}
use Rattle.std.specs.Io.KnownBytes.{Appends, IsAtEnd, Keeps}
use Rattle.std.specs.Str.Lines.{lines, strip_carriage_return}
use Rattle.std.proofs.lemmas.Bool.{eqb-true}
use Rattle.std.proofs.lemmas.Bool.Decides.{nat_tests}
use Rattle.std.proofs.lemmas.List.{append-nil, length-take-le}
use Rattle.kv_model.specs.Wire.{WireEvent, WireOutcome}
use Rattle.commands.specs.Controlling.{AnswersLine, AnswersLines, ReadsLines, TakesLine, order_of}
use Rattle.commands.specs.Script.{is}
use Rattle.commands.specs.Writes.{AppendsFront, Writes}
use Rattle.commands.proofs.Fronts.{later_front, written_and_kept}
use Rattle.commands.proofs.Lines.{lines_step, lines_last}

-- ---- what is written

-- a whole text that was written and handed on
pub handed : {T E : Type 0} (r : Result T E) (a b c : Option (List ℕ)) (text : List ℕ) → Appends a b text → Keeps b c → Writes r a c text
handed (Ok x) a b c text p q = written_and_kept a b c text p q
handed (Err e) a b c text p q = (text, [], sym (append-nil text), written_and_kept a b c text p q)

-- a whole text is a front of itself
pub whole_front : (a b : Option (List ℕ)) (text : List ℕ) → Appends a b text → AppendsFront a b text
whole_front a b text p = (text, [], sym (append-nil text), p)

-- a text, and a front of the next one
pub both_front : (a b c : Option (List ℕ)) (xs ys : List ℕ) → Appends a b xs → AppendsFront b c ys → AppendsFront a c (xs ++ ys)
both_front a b c xs ys p q = later_front a b c (xs ++ ys) xs ys [] (ap (λ l. xs ++ l) (sym (append-nil ys))) p q

pub nothing_written : (a : Option (List ℕ)) → Appends a a []
nothing_written None = tt
nothing_written (Some x) = sym (append-nil x)

pub on_err : {T E P : Type 0} (r : Result T E) → P → OnErr r P
on_err (Ok x) p = tt
on_err (Err e) p = p

-- where the test holds
pub when : (P Q : Type 0) (b : Bool) → b ≡ true → MatchBool b P Q → P
when P Q true e h = h
when P Q false e h = let bad : false ≡ true = e in cc

-- ---- what is answered

-- one line more
pub answers_more : {S : Type 0} (M : S → WireEvent → WireOutcome → S → Type 0) (ls : List (Option WireEvent)) (text : List ℕ) (s t : S)
    (l : Option WireEvent) (x : List ℕ) (u : S) → AnswersLines M ls text s t → AnswersLine M l x t u
    → AnswersLines M (ls ++ l ∷ []) (text ++ x) s u
answers_more M [] text s t l x u (e, same) h =
    (x, [], u, ap (λ y. y ++ x) e ∙ sym (append-nil x), subst (λ y. AnswersLine M l x y u) same h, (refl, refl))
answers_more M (k ∷ ks) text s t l x u (first, rest, m, split, one, others) h =
    (first, rest ++ x, m, ap (λ y. y ++ x) split ∙ append_assoc first rest x, one, answers_more M ks rest m t l x u others h)

-- ---- the first line of what is left

abbrev feed_at : List ℕ → ℕ
feed_at xs = position_or_len (is 10) xs

-- where there is a line feed, that line and its end are taken
with_feed : (xs : List ℕ) → feed_at xs < length xs
    → (take_through 10 xs ≡ before_first (is 10) xs ++ 10 ∷ []) × (drop_through 10 xs ≡ after_first (is 10) xs)
with_feed [] h = absurd (omega (arith, h))
with_feed (x ∷ xs) h = by (with_feed xs) (x == 10) refl h
  where
    by : (feed_at xs < length xs → (take_through 10 xs ≡ before_first (is 10) xs ++ 10 ∷ []) × (drop_through 10 xs ≡ after_first (is 10) xs))
        → (b : Bool) → (x == 10) ≡ b → feed_at (x ∷ xs) < length (x ∷ xs)
        → (take_through 10 (x ∷ xs) ≡ before_first (is 10) (x ∷ xs) ++ 10 ∷ []) × (drop_through 10 (x ∷ xs) ≡ after_first (is 10) (x ∷ xs))
    by later true e h = rw e (ap (λ y. y ∷ []) (eqb-true x 10 e), refl)
    by later false e h =
        let within : 1 + feed_at xs < suc (length xs) = rw e at h in
        let more = later (omega (arith, within)) in
        let one : 1 + feed_at xs ≡ suc (feed_at xs) = omega arith in
        let two : 1 + feed_at xs + 1 ≡ suc (feed_at xs + 1) = omega arith in
        rw e (rw one (ap (λ l. x ∷ l) more.0), rw two more.1)

-- and else all
without_feed : (xs : List ℕ) → length xs ≤ feed_at xs → (take_through 10 xs ≡ xs) × (drop_through 10 xs ≡ [])
without_feed [] h = (refl, refl)
without_feed (x ∷ xs) h = by (without_feed xs) (x == 10) refl h
  where
    by : (length xs ≤ feed_at xs → (take_through 10 xs ≡ xs) × (drop_through 10 xs ≡ [])) → (b : Bool) → (x == 10) ≡ b → length (x ∷ xs) ≤ feed_at (x ∷ xs) → (take_through 10 (x ∷ xs) ≡ x ∷ xs) × (drop_through 10 (x ∷ xs) ≡ [])
    by later true e h = let none : suc (length xs) ≤ 0 = rw e at h in absurd (omega (arith, none))
    by later false e h =
        let within : suc (length xs) ≤ 1 + feed_at xs = rw e at h in
        let more = later (omega (arith, within)) in
        rw e (ap (λ l. x ∷ l) more.0, more.1)

-- what is taken has its line feed where the whole has it
same_place : (xs : List ℕ) → feed_at (take_through 10 xs) ≡ feed_at xs
same_place [] = refl
same_place (x ∷ xs) = by (same_place xs) (x == 10) refl
  where
    by : feed_at (take_through 10 xs) ≡ feed_at xs → (b : Bool) → (x == 10) ≡ b → feed_at (take_through 10 (x ∷ xs)) ≡ feed_at (x ∷ xs)
    by later true e = rw e (rw e refl)
    by later false e = rw e (rw e (ap (λ n. 1 + n) later))

take_front : (n : ℕ) (xs ys : List ℕ) → n ≤ length xs → take n (take n xs ++ ys) ≡ take n xs
take_front zero xs ys h = refl
take_front (suc n) [] ys h = absurd (omega (arith, h))
take_front (suc n) (x ∷ xs) ys h = ap (λ l. x ∷ l) (take_front n xs ys (omega (arith, h)))

abbrev head : List (List ℕ) → List ℕ
head ls = get_or ls 0 []

-- the first line of what is taken is that of the whole
head_line : (xs line rest : List ℕ) → 0 < length (take_through 10 xs) → lines (take_through 10 xs) ≡ line ∷ lines rest
    → lines xs ≡ line ∷ lines (drop_through 10 xs)
head_line xs line rest some e = by (nat_lt (feed_at xs) (length xs)) refl
  where
    by : (b : Bool) → nat_lt (feed_at xs) (length xs) ≡ b → lines xs ≡ line ∷ lines (drop_through 10 xs)
    by true t =
        let within : feed_at xs < length xs = grind (arith, nat_tests, t) in
        let (taken, left) = with_feed xs within in
        let front : before_first (is 10) (take_through 10 xs) ≡ before_first (is 10) xs =
        ap (λ n. take n (take_through 10 xs)) (same_place xs) ∙ ap (λ l. take (feed_at xs) l) taken ∙ take_front (feed_at xs) xs (10 ∷ []) (omega (arith, within)) in
        let long : length (take_through 10 xs) ≡ feed_at xs + 1 =
        ap length taken ∙ length-append (take (feed_at xs) xs) (10 ∷ []) ∙ ap (λ n. n + 1) (length-take-le (feed_at xs) xs (omega (arith, within))) in
        let cut = lines_step (take_through 10 xs) (omega (arith, same_place xs, long)) in
        let first : strip_carriage_return (before_first (is 10) xs) ≡ line = ap strip_carriage_return (sym front) ∙ ap head (sym cut ∙ e) in
        lines_step xs within ∙ (λ i. first i ∷ lines (sym left i))
    by false t =
        let all : length xs ≤ feed_at xs = grind (arith, nat_tests, t) in
        let (taken, left) = without_feed xs all in
        let some' : 0 < length xs = omega (arith, some, ap length taken) in
        let whole = lines_last xs some' all in
        let first : xs ≡ line = ap head (sym whole ∙ ap lines (sym taken) ∙ e) in
        whole ∙ (λ i. first i ∷ lines (sym left i))

-- ---- what is read

pub reads_more : (old mid new : Option (List ℕ)) (read : List (Option WireEvent)) (buf line rest : List ℕ) → ReadsLines old mid read
    → TakesLine mid new buf → lines buf ≡ line ∷ lines rest → ReadsLines old new (read ++ order_of line ∷ [])
reads_more None mid new read buf line rest h t e = tt
reads_more (Some xs) None new read buf line rest h t e = absurd h
reads_more (Some xs) (Some ys) None read buf line rest h t e = let bad = t.2 in cc
reads_more (Some xs) (Some ys) (Some zs) read buf line rest h t e =
    let is : buf ≡ take_through 10 ys = t.1 in
    let next : lines ys ≡ line ∷ lines (drop_through 10 ys) =
    head_line ys line rest (subst (λ l. 0 < length l) is t.0) (ap lines (sym is) ∙ e) in
    let left : zs ≡ drop_through 10 ys = ap (λ o. unwrap_or o []) t.2 in
    h ∙ ap (λ ls. read ++ map order_of ls) next ∙ sym (append_assoc read (order_of line ∷ []) (map order_of (lines (drop_through 10 ys))))
    ∙ ap (λ l. (read ++ order_of line ∷ []) ++ map order_of (lines l)) (sym left)

pub reads_all : (old mid : Option (List ℕ)) (read : List (Option WireEvent)) → ReadsLines old mid read → IsAtEnd mid
    → IfSome old (λ input. map order_of (lines input) ≡ read)
reads_all None mid read h end = tt
reads_all (Some xs) None read h end = absurd h
reads_all (Some xs) (Some ys) read h end = h ∙ ap (λ l. read ++ map order_of (lines l)) end ∙ append-nil read

pub reads_some : (old mid : Option (List ℕ)) (read : List (Option WireEvent)) → ReadsLines old mid read
    → IfSome old (λ input. (later : List (Option WireEvent)) × (map order_of (lines input) ≡ read ++ later))
reads_some None mid read h = tt
reads_some (Some xs) None read h = absurd h
reads_some (Some xs) (Some ys) read h = (map order_of (lines ys), h)

pub reads_none : (old : Option (List ℕ)) → ReadsLines old old []
reads_none None = tt
reads_none (Some xs) = refl
