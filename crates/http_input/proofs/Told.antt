-- What was read of a request, said of all the bytes that were to come.
use Rattle.std.proofs.Common.{◌≡◌, ◌≢◌, ◌≤◌, ◌<◌, ℕ, ◌+◌, arith, List, [], ◌++◌, take, drop, length, Bool, true, false, Option}
use Rattle.std.proofs.Common.{None, Some, Result, Ok, Err, refl, sym, ◌∙◌, ap, subst, append_assoc, inl, inr, nat_le}
use Rattle.std.specs.Io.KnownBytes.{IsAtEnd}
use Rattle.std.proofs.lemmas.List.{append-nil, length-append, length-drop, length-take, length-take-le, take-append-le, take-append-drop}
use Rattle.std.proofs.lemmas.List.{take_all, take-take, drop-drop}
use Rattle.std.proofs.lemmas.Bool.Decides.{nat_tests}
use Rattle.httparse.specs.Grammar.{RequestHead, ReadsRequest, HasNoRequest, NeverHasRequest, MayBecomeRequest, print_request}
use Rattle.httparse.specs.Spans.{RequestExceeds}
use Rattle.http_head.specs.declared.head.Fault.{Fault as CodeFault}
use Rattle.http_head.specs.declared.head.Fault.TheVariants as fault
use Rattle.http_head.specs.declared.head.Head.{Head}
use Rattle.http_head.specs.Heads.{Fault, Names, ReadsHead, bad_head, bad_length, most_head, too_long, window}
use Rattle.http_head.specs.declared.head.Look.{Look}
use Rattle.http_head.specs.declared.head.Look.TheVariants as look
use Rattle.http_head.specs.Looks.{Looks, fault_view}
use Rattle.http_head.specs.Requests.{Asked, EndsInBody, EndsInHead, IsCut, IsHeadOf, ReadsAsked}
use Rattle.http_reply.specs.declared.front.Front.{Front}
use Rattle.http_reply.specs.declared.front.Front.TheVariants as front
use Rattle.http_input.specs.Buffers.{Filled}
use Rattle.http_input.specs.Inputs.{Came, HasHead, IsWhole, Says, Tells, Took, asked_of}
use Rattle.http_input.specs.Parts.{BodyCame, HeadCame, Sees, front_of}
use Rattle.http_input.proofs.Taking.{ended}
use Rattle.http_input.proofs.Whole.{has_head, reads_more}

-- ---- the window

is_window : (p : List ℕ) → length p ≤ most_head → window p ≡ p
is_window p h = take_all most_head p h

-- ---- a fault stays one, whatever follows

never_more : (p m : List ℕ) → NeverHasRequest p → NeverHasRequest (p ++ m)
never_more p m h = λ more. subst HasNoRequest (sym (append_assoc p m more)) (h (m ++ more))

exceeds_more : (p m : List ℕ) → RequestExceeds 64 p → RequestExceeds 64 (p ++ m)
exceeds_more p m h = (h.0, h.1 ++ m, ap (λ l. l ++ m) h.2 ∙ append_assoc h.0 h.1 m, h.3, h.4, h.5)

request_more : (p m : List ℕ) (h : RequestHead) (rest : List ℕ) → ReadsRequest p h rest → ReadsRequest (p ++ m) h (rest ++ m)
request_more p m h rest r = (r.0, ap (λ l. l ++ m) r.1 ∙ append_assoc _ rest m)

names_append : (f : Fault) (p m : List ℕ) → length p < most_head → Names f p → Names f (p ++ m)
names_append bad_head p m l (inl n) = inl (never_more p m n)
names_append bad_head p m l (inr (inl e)) = inr (inl (exceeds_more p m e))
names_append bad_head p m l (inr (inr r)) = inr (inr (r.0, r.1 ++ m, request_more p m r.0 r.1 r.2, r.3))
names_append bad_length p m l r = (r.0, r.1 ++ m, reads_more p m r.0 r.1 r.2, r.3)
names_append too_long p m l (inl n) = absurd (omega (arith, l, n.0))
names_append too_long p m l (inr r) = inr (r.0, r.1 ++ m, reads_more p m r.0 r.1 r.2, r.3)

window_short : (p m : List ℕ) → length p < most_head → (k : List ℕ) × (window (p ++ m) ≡ p ++ k)
window_short p m h = (
  drop (length p) (window (p ++ m)),
  sym (take-append-drop (length p) (window (p ++ m))) ∙ ap (λ l. l ++ drop (length p) (window (p ++ m))) (front_is p m h),
)
  where
    front_is : (p m : List ℕ) → length p < most_head → take (length p) (window (p ++ m)) ≡ p
    front_is p m h = take-take (length p) most_head (p ++ m) (omega (arith, h)) ∙ take-append-le (length p) p m (omega arith)
        ∙ take_all (length p) p (omega arith)

names_more : (f : Fault) (p m : List ℕ) → Names f (window p) → Names f (window (p ++ m))
names_more f p m n = by (nat_le most_head (length p)) refl
  where
    by : (b : Bool) → nat_le most_head (length p) ≡ b → Names f (window (p ++ m))
    by true e = subst (Names f) (sym (take-append-le most_head p m (grind (arith, nat_tests, e)))) n
    by false e =
        let short : length p < most_head = grind (arith, nat_tests, e) in
        let w = window_short p m short in
        subst (Names f) (sym w.1) (names_append f p w.0 short (subst (Names f) (is_window p (omega (arith, short))) n))

-- ---- a head in the bytes

is_head_of : (p m : List ℕ) (x : Head) (body : List ℕ) (h : HasHead p x)
    → IsHeadOf (p ++ m) (record { method = h.head.method; target = h.head.target; body = body; close = x.close }) h.head (drop x.len p ++ m)
is_head_of p m x body h = record {
  reads = reads_more p m h.head (drop x.len p) h.is.reads;
  fits =
      let long : length p ≡ length (print_request h.head) + length (drop x.len p) =
      ap length h.is.reads.reads.1 ∙ length-append (print_request h.head) (drop x.len p) in
      omega (arith, long, h.len, h.is.fits, length-drop x.len p);
  method = refl;
  target = refl;
  close = h.is.close;
}

cut_body : (p : List ℕ) (x : Head) → HasHead p x → length p < x.len + x.body → EndsInBody p
cut_body p x h short =
    let a : Asked = record { method = h.head.method; target = h.head.target; body = []; close = x.close } in
    let is : IsHeadOf p a h.head (drop x.len p) = record {
      reads = h.is.reads;
      fits = (is_head_of p [] x [] h).fits;
      method = refl;
      target = refl;
      close = h.is.close;
    } in
    (a, h.head, drop x.len p, x.body, is, h.is.body, omega (arith, short, length-drop x.len p, h.is.fits))

whole : (bytes q ys : List ℕ) (x : Head) → bytes ≡ q ++ ys → IsWhole q x → ReadsAsked bytes (asked_of q x) (drop (x.len + x.body) q ++ ys)
whole bytes q ys x e w =
    let h = w.0 in
    let body : List ℕ = take x.body (drop x.len q) in
    let is = is_head_of q ys x body h in
    let long : length body ≡ x.body = length-take-le x.body (drop x.len q) (omega (arith, w.1, h.is.fits, length-drop x.len q)) in (
      h.head,
      drop x.len q ++ ys,
      record {
        reads = subst (λ (t : List ℕ). ReadsHead t h.head (drop x.len q ++ ys)) (sym e) is.reads;
        fits = is.fits;
        method = h.is.method;
        target = h.is.target;
        close = h.is.close;
      },
      h.is.body ∙ ap Ok (sym long),
      ap (λ l. l ++ ys) (sym (take-append-drop x.body (drop x.len q)) ∙ ap (λ l. body ++ l) (drop-drop x.body x.len q))
          ∙ append_assoc body (drop (x.len + x.body) q) ys,
    )

-- ---- the parts

-- a fault of the head
pub fault_came : (left : Option (List ℕ)) (p : List ℕ) (f : CodeFault) → Names (fault_view f) (window p)
    → HeadCame left p (Err (front_of f))
fault_came left p fault.Head n = n
fault_came left p fault.Length n = n
fault_came left p fault.TooLong n = n

-- a look at the window is one at all bytes
pub sees_of : (p : List ℕ) (r : Look) → Looks (window p) r → Sees p r
sees_of p (look.Head x) h = has_head p x h.0 h.1
sees_of p look.More h =
    let small : length p < most_head = omega (arith, h.0, length-take most_head p) in
    let is = is_window p (omega (arith, small)) in
    (small, subst HasNoRequest is h.1, subst MayBecomeRequest is h.2)
sees_of p (look.Fault f) h = h

-- the input ends within a head
pub cut_head : (left : Option (List ℕ)) (p q : List ℕ) (b : Bool) → Sees p look.More → b ≡ false → Filled left p q (Ok b) → length q ≢ 0
    → EndsInHead q × IsAtEnd left
cut_head left p q b h e f some =
    let none = ended left p q b e f in
    let cut : EndsInHead p = ((λ nil. some (ap length (none.0 ∙ nil))), h.0, h.1, h.2) in
    (subst EndsInHead (sym none.0) cut, none.1)

-- and within a body
pub cut_in_body : (left : Option (List ℕ)) (p q : List ℕ) (x : Head) (b : Bool) → HasHead p x → length p < x.len + x.body → b ≡ false
    → Filled left p q (Ok b)
    → HasHead q x × (length q < x.len + x.body) × IsAtEnd left
cut_in_body left p q x b h short e f =
    let none = ended left p q b e f in
    (subst (λ (t : List ℕ). HasHead t x) (sym none.0) h, subst (λ (t : List ℕ). length t < x.len + x.body) (sym none.0) short, none.1)

pub head_failed : (left : Option (List ℕ)) (p : List ℕ) (f : Front) → HeadCame left p (Err f) → Came left p (Err f)
head_failed left p front.Head h = h
head_failed left p front.Length h = h
head_failed left p front.TooLong h = h
head_failed left p front.Read h = tt
head_failed left p front.End h = (inl h.0, h.1)
head_failed left p front.Memory h = h
head_failed left p (front.Write n) h = h
head_failed left p front.Spawn h = h
head_failed left p front.Accept h = h
head_failed left p front.Unclosed h = h

pub body_failed : (left : Option (List ℕ)) (p : List ℕ) (x : Head) (f : Front) → BodyCame {T = ℕ} left p x (Err f) → Came left p (Err f)
body_failed left p x front.Head h = absurd h
body_failed left p x front.Length h = absurd h
body_failed left p x front.TooLong h = absurd h
body_failed left p x front.Read h = tt
body_failed left p x front.End h = (inr (cut_body p x h.0 h.1), h.2)
body_failed left p x front.Memory h = h
body_failed left p x (front.Write n) h = h
body_failed left p x front.Spawn h = h
body_failed left p x front.Accept h = h
body_failed left p x front.Unclosed h = h

-- ---- all that was to come

pub says : (bytes q ys : List ℕ) (r : Result (Option Head) Front) → bytes ≡ q ++ ys → Came (Some ys) q r → Says bytes q ys r
says bytes q ys (Ok (Some x)) e c = (c, whole bytes q ys x e c)
says bytes q ys (Ok None) e c = (e ∙ ap (λ l. l ++ ys) c.0 ∙ c.1, c.0, c.1)
says bytes q ys (Err front.Head) e c = subst (λ (t : List ℕ). Names bad_head (window t)) (sym e) (names_more bad_head q ys c)
says bytes q ys (Err front.Length) e c = subst (λ (t : List ℕ). Names bad_length (window t)) (sym e) (names_more bad_length q ys c)
says bytes q ys (Err front.TooLong) e c = subst (λ (t : List ℕ). Names too_long (window t)) (sym e) (names_more too_long q ys c)
says bytes q ys (Err front.Read) e c = tt
says bytes q ys (Err front.End) e c = subst IsCut (sym (e ∙ ap (λ l. q ++ l) c.1 ∙ append-nil q)) c.0
says bytes q ys (Err front.Memory) e c =
    let long : length bytes ≡ length q + length ys = ap length e ∙ length-append q ys in
    omega (arith, long, c)
says bytes q ys (Err (front.Write n)) e c = c
says bytes q ys (Err front.Spawn) e c = c
says bytes q ys (Err front.Accept) e c = c
says bytes q ys (Err front.Unclosed) e c = c

pub tells_of : (a b : Option (List ℕ)) (p q : List ℕ) (r : Result (Option Head) Front) → Took a b p q → Came b q r → Tells a b p q r
tells_of None b p q r t c = tt
tells_of (Some xs) None p q r t c = t
tells_of (Some xs) (Some ys) p q r t c = says (p ++ xs) q ys r t c
