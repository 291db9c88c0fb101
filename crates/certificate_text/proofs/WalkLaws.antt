-- The lines of a text: what each step reads, that it reads it again, and where it stops.
use Rattle.std.proofs.Common.{◌≡◌, ℕ, ◌<◌, List, [], ◌∷◌, ◌++◌, map, Bool, true, false, Option, None, Some, Result, Ok, Err, codes, refl, sym, ap, subst, ◌∙◌}
use Rattle.std.specs.Prelude.{⊤, if◌then◌else◌}
use Rattle.std.specs.List.{AllByRecursion}
use Rattle.std.specs.Cmp.Lexicographic.{same_text as told_same}
use Rattle.certificate_text.specs.Texts.{ended}
use Rattle.certificate_text.specs.Reading.{same_text}
use Rattle.certificate_text.specs.Walking.{Read, ◌>>=◌, given, line_by, with_front, up_to_end}

abbrev pub Lines : Type 0
Lines = List (List ℕ)

abbrev pub pair : {A : Type 0} → A → Lines → A × Lines
pair a ls = (a, ls)

-- reading stopped behind some lines, with which something of the form begins, and it stops there whatever follows the line
pub record StoppedIn {A : Type 0} (r : Lines → Read A) (form : A → Lines) (Limits : A → Type 0) (ls rest : Lines) : Type 0 where
  pub before : Lines
  pub more : Lines
  pub some : A
  pub parts : ls ≡ before ++ rest
  pub limits : Limits some
  pub whole : form some ≡ before ++ more
  pub stays : (line : List ℕ) (after other : Lines) → rest ≡ line ∷ after → r (before ++ line ∷ other) ≡ Err (line ∷ other)

-- a step reads what is of a form, within limits, and nothing else
pub record IsReader {A : Type 0} (r : Lines → Read A) (form : A → Lines) (Limits : A → Type 0) : Type 0 where
  pub some : A
  pub some_limits : Limits some
  pub read : (ls rest : Lines) (a : A) → r ls ≡ Ok (a, rest) → (ls ≡ form a ++ rest) × Limits a
  pub again : (rest : Lines) (a : A) → Limits a → r (form a ++ rest) ≡ Ok (a, rest)
  pub stop : (ls rest : Lines) → r ls ≡ Err rest → StoppedIn r form Limits ls rest

-- ---- one line

given_some : {A : Type 0} (o : Option A) (from ls rest : Lines) (a : A) → given o from ls ≡ Ok (a, rest) → (o ≡ Some a) × (ls ≡ rest)
given_some None from ls rest a e = cc e
given_some (Some b) from ls rest a e = let same : pair b ls ≡ pair a rest = cc e in (ap (λ p. Some p.0) same, ap (λ p. p.1) same)

given_none : {A : Type 0} (o : Option A) (from ls rest : Lines) → given o from ls ≡ Err rest → (o ≡ None) × (from ≡ rest)
given_none None from ls rest e = (refl, cc e)
given_none (Some b) from ls rest e = cc e

head_is : (a b : List ℕ) (xs ys : Lines) → a ∷ xs ≡ b ∷ ys → a ≡ b
head_is a b xs ys e = cc e

pub record IsLine {A : Type 0} (read : List ℕ → Option A) (form : A → List ℕ) (Limits : A → Type 0) : Type 0 where
  pub some : A
  pub some_limits : Limits some
  pub found : (line : List ℕ) (a : A) → read line ≡ Some a → (line ≡ form a) × Limits a
  pub again : (a : A) → Limits a → read (form a) ≡ Some a

line_read : {A : Type 0} (read : List ℕ → Option A) (form : A → List ℕ) (Limits : A → Type 0) → IsLine read form Limits → (ls rest : Lines) (a : A)
    → line_by read ls ≡ Ok (a, rest) → (ls ≡ form a ∷ rest) × Limits a
line_read read form Limits is [] rest a e = cc e
line_read read form Limits is (line ∷ ls) rest a e =
    let got = given_some (read line) (line ∷ ls) ls rest a e in
    let shape = is.found line a got.0 in
    ((λ i. shape.0 i ∷ got.1 i), shape.1)

line_stop : {A : Type 0} (read : List ℕ → Option A) (form : A → List ℕ) (Limits : A → Type 0) → IsLine read form Limits → (ls rest : Lines)
    → line_by read ls ≡ Err rest → StoppedIn (line_by read) (λ a. form a ∷ []) Limits ls rest
line_stop read form Limits is [] rest e =
    let none : [] ≡ rest = cc e in
    record {
      before = [];
      more = form is.some ∷ [];
      some = is.some;
      parts = none;
      limits = is.some_limits;
      whole = refl;
      stays = λ line after other h. (let bad = none ∙ h in cc bad);
    }
line_stop read form Limits is (line ∷ ls) rest e =
    let got = given_none (read line) (line ∷ ls) ls rest e in
    record {
      before = [];
      more = form is.some ∷ [];
      some = is.some;
      parts = got.1;
      limits = is.some_limits;
      whole = refl;
      stays = λ next after other h. ap (λ o. given o (next ∷ other) other) (ap read (sym (head_is line next ls after (got.1 ∙ h))) ∙ got.0);
    }

pub line_reader : {A : Type 0} (read : List ℕ → Option A) (form : A → List ℕ) (Limits : A → Type 0) → IsLine read form Limits → IsReader (line_by read) (λ a. form a ∷ []) Limits
line_reader read form Limits is = record {
  some = is.some;
  some_limits = is.some_limits;
  read = λ ls rest a e. line_read read form Limits is ls rest a e;
  again = λ rest a h. ap (λ o. given o (form a ∷ rest) rest) (is.again a h);
  stop = λ ls rest e. line_stop read form Limits is ls rest e;
}

-- ---- lines up to an end

abbrev last : List ℕ
last = codes "end"

abbrev pub all_form : {A : Type 0} → (A → List ℕ) → List A → Lines
all_form form items = ended (map form items)

abbrev all_step : {A : Type 0} → (List ℕ → Option A) → List ℕ → Lines → Bool → Read (List A)
all_step read line ls b = if b then Ok ([], ls) else (given (read line) (line ∷ ls) ls >>= λ x. with_front (x.0 ∷ []) (up_to_end read ls))

pub bind_ok : {A B : Type 0} (r : Result A Lines) (f : A → Result B Lines) (y : B) → (r >>= f) ≡ Ok y → (x : A) × (r ≡ Ok x) × (f x ≡ Ok y)
bind_ok (Ok x) f y e = (x, refl, e)
bind_ok (Err ls) f y e = cc e

-- a step that fails, or one that is made and fails later
pub bind_err : {A B : Type 0} (r : Result A Lines) (f : A → Result B Lines) (rest : Lines) (P : Type 0) → (r >>= f) ≡ Err rest → (r ≡ Err rest → P) → ((x : A) → r ≡ Ok x → f x ≡ Err rest → P) → P
bind_err (Ok x) f rest P e failed later = later x refl e
bind_err (Err ls) f rest P e failed later = let same : ls ≡ rest = cc e in failed (ap Err same)

front_ok : {A : Type 0} (a : A) (r : Read (List A)) (items : List A) (rest : Lines) → with_front (a ∷ []) r ≡ Ok (items, rest) → (bs : List A) × (r ≡ Ok (bs, rest)) × (a ∷ bs ≡ items)
front_ok a (Ok x) items rest e =
    let same : pair (a ∷ x.0) x.1 ≡ pair items rest = cc e in
    (x.0, ap (λ p. Ok (x.0, p.1)) same, ap (λ p. p.0) same)
front_ok a (Err ls) items rest e = cc e

front_err : {A : Type 0} (a : A) (r : Read (List A)) (rest : Lines) → with_front (a ∷ []) r ≡ Err rest → r ≡ Err rest
front_err a (Ok x) rest e = cc e
front_err a (Err ls) rest e = e

all_by : {A : Type 0} (read : List ℕ → Option A) (form : A → List ℕ) (Limits : A → Type 0) (is : IsLine read form Limits) (line : List ℕ) (ls rest : Lines) (items : List A) (b : Bool)
    → ((bs : List A) → up_to_end read ls ≡ Ok (bs, rest) → (ls ≡ all_form form bs ++ rest) × AllByRecursion Limits bs)
    → same_text line last ≡ b → all_step read line ls b ≡ Ok (items, rest) → (line ∷ ls ≡ all_form form items ++ rest) × AllByRecursion Limits items
all_by read form Limits is line ls rest items true later t e =
    let same : pair items rest ≡ pair [] ls = cc (sym e) in
    let end_is : line ≡ last = told_same line last (sym t) in
    subst (λ p. (line ∷ ls ≡ all_form form p.0 ++ p.1) × AllByRecursion Limits p.0) (sym same) ((λ i. end_is i ∷ ls), tt)
all_by read form Limits is line ls rest items false later t e =
    let first = bind_ok (given (read line) (line ∷ ls) ls) (λ x. with_front (x.0 ∷ []) (up_to_end read ls)) (items, rest) e in
    let got = given_some (read line) (line ∷ ls) ls first.0.1 first.0.0 first.1 in
    let shape = is.found line first.0.0 got.0 in
    let tail = front_ok first.0.0 (up_to_end read ls) items rest first.2 in
    let others = later tail.0 tail.1 in
    subst (λ bs. (line ∷ ls ≡ all_form form bs ++ rest) × AllByRecursion Limits bs) tail.2 ((λ i. shape.0 i ∷ others.0 i), (shape.1, others.1))

all_read : {A : Type 0} (read : List ℕ → Option A) (form : A → List ℕ) (Limits : A → Type 0) → IsLine read form Limits → (ls rest : Lines) (items : List A)
    → up_to_end read ls ≡ Ok (items, rest) → (ls ≡ all_form form items ++ rest) × AllByRecursion Limits items
unfolding up_to_end
all_read read form Limits is [] rest items e = cc e
all_read read form Limits is (line ∷ ls) rest items e =
    all_by read form Limits is line ls rest items (same_text line last) (λ bs h. all_read read form Limits is ls rest bs h) refl e

all_again : {A : Type 0} (read : List ℕ → Option A) (form : A → List ℕ) (Limits : A → Type 0) → IsLine read form Limits → ((a : A) → same_text (form a) last ≡ false)
    → (rest : Lines) (items : List A) → AllByRecursion Limits items → up_to_end read (all_form form items ++ rest) ≡ Ok (items, rest)
unfolding up_to_end
all_again read form Limits is other rest [] h = refl
all_again read form Limits is other rest (a ∷ items) h =
    ap (all_step read (form a) (all_form form items ++ rest)) (other a)
    ∙ ap (λ o. given o (form a ∷ (all_form form items ++ rest)) (all_form form items ++ rest) >>= λ x. with_front (x.0 ∷ []) (up_to_end read (all_form form items ++ rest))) (is.again a h.0)
    ∙ ap (with_front (a ∷ [])) (all_again read form Limits is other rest items h.1)

all_stop_by : {A : Type 0} (read : List ℕ → Option A) (form : A → List ℕ) (Limits : A → Type 0) (is : IsLine read form Limits) (line : List ℕ) (ls rest : Lines) (b : Bool)
    → (up_to_end read ls ≡ Err rest → StoppedIn (up_to_end read) (all_form form) (AllByRecursion Limits) ls rest)
    → same_text line last ≡ b → all_step read line ls b ≡ Err rest → StoppedIn (up_to_end read) (all_form form) (AllByRecursion Limits) (line ∷ ls) rest
unfolding up_to_end
all_stop_by read form Limits is line ls rest true later t e = cc e
all_stop_by read form Limits is line ls rest false later t e =
    bind_err (given (read line) (line ∷ ls) ls) (λ x. with_front (x.0 ∷ []) (up_to_end read ls)) rest _ e
    (λ failed.
    let got = given_none (read line) (line ∷ ls) ls rest failed in
    record {
      before = [];
      more = last ∷ [];
      some = [];
      parts = got.1;
      limits = tt;
      whole = refl;
      stays = λ next after other h.
          let same : line ≡ next = head_is line next ls after (got.1 ∙ h) in
          ap (all_step read next other) (subst (λ l. same_text l last ≡ false) same t)
          ∙ ap (λ o. given o (next ∷ other) other >>= λ x. with_front (x.0 ∷ []) (up_to_end read other)) (subst (λ l. read l ≡ None) same got.0);
    })
    (λ x ok failed.
    let got = given_some (read line) (line ∷ ls) ls x.1 x.0 ok in
    let shape = is.found line x.0 got.0 in
    let deep = later (front_err x.0 (up_to_end read ls) rest failed) in
    record {
      before = line ∷ deep.before;
      more = deep.more;
      some = x.0 ∷ deep.some;
      parts = ap (λ xs. line ∷ xs) deep.parts;
      limits = (shape.1, deep.limits);
      whole = (λ i. sym shape.0 i ∷ deep.whole i);
      stays = λ next after other h.
          ap (all_step read line (deep.before ++ next ∷ other)) t
          ∙ ap (λ o. given o (line ∷ (deep.before ++ next ∷ other)) (deep.before ++ next ∷ other) >>= λ y. with_front (y.0 ∷ []) (up_to_end read (deep.before ++ next ∷ other))) got.0
          ∙ ap (with_front (x.0 ∷ [])) (deep.stays next after other h);
    })

all_stop : {A : Type 0} (read : List ℕ → Option A) (form : A → List ℕ) (Limits : A → Type 0) → IsLine read form Limits → (ls rest : Lines)
    → up_to_end read ls ≡ Err rest → StoppedIn (up_to_end read) (all_form form) (AllByRecursion Limits) ls rest
unfolding up_to_end
all_stop read form Limits is [] rest e =
    let none : [] ≡ rest = cc e in
    record {
      before = [];
      more = last ∷ [];
      some = [];
      parts = none;
      limits = tt;
      whole = refl;
      stays = λ line after other h. (let bad = none ∙ h in cc bad);
    }
all_stop read form Limits is (line ∷ ls) rest e =
    all_stop_by read form Limits is line ls rest (same_text line last) (λ h. all_stop read form Limits is ls rest h) refl e

pub all_reader : {A : Type 0} (read : List ℕ → Option A) (form : A → List ℕ) (Limits : A → Type 0) → IsLine read form Limits → ((a : A) → same_text (form a) last ≡ false)
    → IsReader (up_to_end read) (all_form form) (AllByRecursion Limits)
all_reader read form Limits is other = record {
  some = [];
  some_limits = tt;
  read = λ ls rest items e. all_read read form Limits is ls rest items e;
  again = λ rest items h. all_again read form Limits is other rest items h;
  stop = λ ls rest e. all_stop read form Limits is ls rest e;
}
