-- The streams that stand, by the numbers of their watches.
use Rattle.std.proofs.Common.{◌≡◌, ℕ, ◌==◌, List, [], ◌∷◌, ◌++◌, Bool, true, false, cond, Option, None, Some, Result, Ok, Err, OnOk, OnErr, ◌⊎◌, inl, inr, refl, sym, ◌∙◌, ap, subst, if◌then◌else◌, arith}
use Rattle.std.specs.BTreeMap.{insert_entry, is_at}
use Rattle.std.specs.Map.{lookup, remove_entry, set_value}
use Rattle.std.specs.Ordering.{is_eq, match_ordering, nat_cmp}
use Rattle.std.specs.declared.cmp.Ordering.{Ordering}
use Rattle.std.specs.declared.cmp.Ordering.TheVariants.{Less, Equal, Greater}
use Rattle.std.proofs.lemmas.Bool.Decides.{nat_tests}
use Rattle.std.proofs.lemmas.Map.Lookups.{exact_unsigned}
use Rattle.http_reply.specs.Replies.{last_chunk}
use Rattle.watch_streams.specs.Lines.{LineState, closed}
use Rattle.std.proofs.lemmas.Map.Steps.{set_value_same}
use Rattle.watch_streams.specs.Sets.{AreNumbered, ChangesOne, SetState, line_at, with_line}

abbrev Lines : Type 0
Lines = List (ℕ × LineState)

abbrev at : ℕ → ℕ → Bool
at n k = is_at (nat_cmp n) k

-- ---- numbers

pub key_is : (n k : ℕ) → at n k ≡ true → k ≡ n
key_is n k h = grind (arith, nat_tests, h)

pub is_key : (n : ℕ) → at n n ≡ true
is_key n = grind (arith, nat_tests)

pub not_key : (n k : ℕ) → (k == n) ≡ false → at n k ≡ false
not_key n k h = grind (arith, nat_tests, h)

pub same_key : (n k : ℕ) → (k == n) ≡ true → k ≡ n
same_key n k h = grind (arith, nat_tests, h)

apart : (n k : ℕ) → (k == n) ≡ false → (q : ℕ) → at k q ≡ true → at n q ≡ false
apart n k h q e = subst (λ (p : ℕ). at n p ≡ false) (sym (key_is k q e)) (not_key n k h)

-- ---- what stands at a number

pub here_set : (test : ℕ → Bool) (es : Lines) (l w : LineState) → lookup test es ≡ Some l → lookup test (set_value test es w) ≡ Some w
here_set test [] l w found = cc
here_set test (e ∷ es) l w found = by (test e.0) refl (here_set test es l w) found
  where
    by : (b : Bool) → test e.0 ≡ b → (lookup test es ≡ Some l → lookup test (set_value test es w) ≡ Some w)
        → cond b (Some e.1) (lookup test es) ≡ Some l → lookup test (cond b ((e.0, w) ∷ es) (e ∷ set_value test es w)) ≡ Some w
    by true t later f = subst (λ (b : Bool). cond b (Some w) (lookup test es) ≡ Some w) (sym t) refl
    by false t later f = subst (λ (b : Bool). cond b (Some e.1) (lookup test (set_value test es w)) ≡ Some w) (sym t) (later f)

pub other_set : (n k : ℕ) → (k == n) ≡ false → (es : Lines) (w : LineState) → lookup (at n) (set_value (at k) es w) ≡ lookup (at n) es
other_set n k h [] w = refl
other_set n k h (e ∷ es) w = by (at k e.0) refl (other_set n k h es w)
  where
    by : (b : Bool) → at k e.0 ≡ b → lookup (at n) (set_value (at k) es w) ≡ lookup (at n) es
        → lookup (at n) (cond b ((e.0, w) ∷ es) (e ∷ set_value (at k) es w)) ≡ cond (at n e.0) (Some e.1) (lookup (at n) es)
    by true t later = subst (λ (b : Bool). cond b (Some w) (lookup (at n) es) ≡ cond b (Some e.1) (lookup (at n) es)) (sym (apart n k h e.0 t)) refl
    by false t later = ap (λ (r : Option LineState). cond (at n e.0) (Some e.1) r) later

pub other_removed : (n k : ℕ) → (k == n) ≡ false → (es : Lines) → lookup (at n) (remove_entry (at k) es) ≡ lookup (at n) es
other_removed n k h [] = refl
other_removed n k h (e ∷ es) = by (at k e.0) refl (other_removed n k h es)
  where
    by : (b : Bool) → at k e.0 ≡ b → lookup (at n) (remove_entry (at k) es) ≡ lookup (at n) es
        → lookup (at n) (cond b es (e ∷ remove_entry (at k) es)) ≡ cond (at n e.0) (Some e.1) (lookup (at n) es)
    by true t later = subst (λ (b : Bool). lookup (at n) es ≡ cond b (Some e.1) (lookup (at n) es)) (sym (apart n k h e.0 t)) refl
    by false t later = ap (λ (r : Option LineState). cond (at n e.0) (Some e.1) r) later

pub other_inserted : (n k : ℕ) → (k == n) ≡ false → (es : Lines) (w : LineState) → lookup (at n) (insert_entry nat_cmp es k w) ≡ lookup (at n) es
other_inserted n k h [] w = subst (λ (b : Bool). cond b (Some w) None ≡ None) (sym (not_key n k h)) refl
other_inserted n k h (e ∷ es) w = by (nat_cmp k e.0) refl (other_inserted n k h es w)
  where
    by : (o : Ordering) → nat_cmp k e.0 ≡ o → lookup (at n) (insert_entry nat_cmp es k w) ≡ lookup (at n) es
        → lookup (at n) (match_ordering o ((k, w) ∷ e ∷ es) ((e.0, w) ∷ es) (e ∷ insert_entry nat_cmp es k w))
        ≡ cond (at n e.0) (Some e.1) (lookup (at n) es)
    by Less o later = subst (λ (b : Bool). cond b (Some w) (lookup (at n) (e ∷ es)) ≡ lookup (at n) (e ∷ es)) (sym (not_key n k h)) refl
    by Equal o later = subst (λ (b : Bool). cond b (Some w) (lookup (at n) es) ≡ cond b (Some e.1) (lookup (at n) es)) (sym (apart n k h e.0 (ap is_eq o))) refl
    by Greater o later = ap (λ (r : Option LineState). cond (at n e.0) (Some e.1) r) later

-- ---- each by its number

pub numbered_at : (n : ℕ) (es : Lines) (l : LineState) → AreNumbered es → lookup (at n) es ≡ Some l → l.number ≡ n
numbered_at n [] l h found = cc
numbered_at n (e ∷ es) l h found = by (at n e.0) refl (numbered_at n es l h.1) found
  where
    by : (b : Bool) → at n e.0 ≡ b → (lookup (at n) es ≡ Some l → l.number ≡ n) → cond b (Some e.1) (lookup (at n) es) ≡ Some l → l.number ≡ n
    by true t later f = let same : e.1 ≡ l = cc in ap (λ (k : LineState). k.number) (sym same) ∙ h.0 ∙ key_is n e.0 t
    by false t later f = later f

pub numbered_set : (n : ℕ) (es : Lines) (l w : LineState) → lookup (at n) es ≡ Some l → w.number ≡ l.number → AreNumbered es
    → AreNumbered (set_value (at n) es w)
numbered_set n [] l w found same h = tt
numbered_set n (e ∷ es) l w found same h = by (at n e.0) (λ f. numbered_set n es l w f same h.1) found
  where
    by : (b : Bool) → (lookup (at n) es ≡ Some l → AreNumbered (set_value (at n) es w)) → cond b (Some e.1) (lookup (at n) es) ≡ Some l
        → AreNumbered (cond b ((e.0, w) ∷ es) (e ∷ set_value (at n) es w))
    by true later f = let is : e.1 ≡ l = cc in (same ∙ ap (λ (k : LineState). k.number) (sym is) ∙ h.0, h.1)
    by false later f = (h.0, later f)

pub numbered_inserted : (k : ℕ) (es : Lines) (w : LineState) → w.number ≡ k → AreNumbered es → AreNumbered (insert_entry nat_cmp es k w)
numbered_inserted k [] w is h = (is, tt)
numbered_inserted k (e ∷ es) w is h = by (nat_cmp k e.0) refl (numbered_inserted k es w is h.1)
  where
    by : (o : Ordering) → nat_cmp k e.0 ≡ o → AreNumbered (insert_entry nat_cmp es k w)
        → AreNumbered (match_ordering o ((k, w) ∷ e ∷ es) ((e.0, w) ∷ es) (e ∷ insert_entry nat_cmp es k w))
    by Less o later = (is, h)
    by Equal o later = (is ∙ exact_unsigned k e.0 o, h.1)
    by Greater o later = (h.0, later)

pub numbered_removed : (n : ℕ) (es : Lines) → AreNumbered es → AreNumbered (remove_entry (at n) es)
numbered_removed n [] h = tt
numbered_removed n (e ∷ es) h = by (at n e.0) (numbered_removed n es h.1)
  where
    by : (b : Bool) → AreNumbered (remove_entry (at n) es) → AreNumbered (cond b es (e ∷ remove_entry (at n) es))
    by true later = h.1
    by false later = (h.0, later)

-- ---- a change that keeps the number

closed_number : (l : LineState) → (closed l).number ≡ l.number
closed_number l = by l.ended
  where
    by : (b : Bool) → (if b then l else record l { unsent = l.unsent ++ last_chunk; ended = true }).number ≡ l.number
    by true = refl
    by false = refl

-- ---- a change of one stream

pub changes_one : (change : LineState → LineState) (n : ℕ) (s t : SetState) (l w : LineState) → line_at n s ≡ Some l → t.client ≡ s.client
    → t.lines ≡ with_line n w s → w ≡ change l → ChangesOne change n s t
changes_one change n s t l w stood client lines is = ChangesOne.one l stood client (lines ∙ ap (λ (v : LineState). with_line n v s) is)

pub unchanged : (n : ℕ) (s t : SetState) (l w : LineState) → line_at n s ≡ Some l → t.client ≡ s.client → t.lines ≡ with_line n w s → w ≡ l → t ≡ s
unchanged n s t l w stood client lines is =
    let same = lines ∙ ap (λ (v : LineState). with_line n v s) is ∙ set_value_same (is_at (nat_cmp n)) s.lines l stood in
    λ i. record { client = client i; lines = same i }

-- ---- a call that may find no memory

pub then_ok : {E : Type 0} (r : Result (Unit {0}) E) (A B : Type 0) → (A → B) → OnOk r A → OnOk r B
then_ok (Ok u) A B f a = f a
then_ok (Err e) A B f a = tt

pub then_err : {E : Type 0} (r : Result (Unit {0}) E) (A B : Type 0) → (A → B) → OnErr r A → OnErr r B
then_err (Ok u) A B f a = tt
then_err (Err e) A B f a = f a

pub either : {E : Type 0} (r : Result (Unit {0}) E) (A B : Type 0) → OnOk r A → OnErr r B → A ⊎ B
either (Ok u) A B a b = inl a
either (Err e) A B a b = inr b

pub close_number : {E : Type 0} (r : Result (Unit {0}) E) (l w : LineState) → OnOk r (w ≡ closed l) → OnErr r (w ≡ l) → w.number ≡ l.number
close_number (Ok u) l w a b = ap (λ (k : LineState). k.number) a ∙ closed_number l
close_number (Err e) l w a b = ap (λ (k : LineState). k.number) b
