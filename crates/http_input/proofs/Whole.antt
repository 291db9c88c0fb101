-- More bytes behind a head change nothing of it.
use Rattle.std.proofs.Common.{◌≡◌, ◌≤◌, ℕ, ◌-◌, arith, List, ◌++◌, take, drop, length, Bool, true, false, cond, ◌||◌, Ok, Err}
use Rattle.std.proofs.Common.{sym, ◌∙◌, ap, subst, append_assoc, refl, nat_lt, nat_le, nat_eq}
use Rattle.std.proofs.lemmas.List.{length-append, length-drop, length-take, take-append-le, drop-append-le, take-append-drop}
use Rattle.std.specs.Str.Parse.{digits_value}
use Rattle.std.proofs.lemmas.Bool.Decides.{nat_tests}
use Rattle.httparse.specs.Grammar.{RequestHead}
use Rattle.httparse.specs.Spans.{IsWithin, span_bytes}
use Rattle.httparse.specs.declared.spans.Span.{Span}
use Rattle.http_head.specs.declared.head.Head.{Head}
use Rattle.http_head.specs.Heads.{Marks, ReadsHead, bad, body_length, is_length, length_given, marks_of, most_body, most_head, over, window}
use Rattle.http_head.specs.Heads.{within_limit}
use Rattle.http_head.specs.Looks.{IsHead}
use Rattle.http_input.specs.Inputs.{Extends, HasHead}

pub reads_more : (t more : List ℕ) (h : RequestHead) (rest : List ℕ) → ReadsHead t h rest → ReadsHead (t ++ more) h (rest ++ more)
reads_more t more h rest r = record {
  reads = (r.reads.0, ap (λ l. l ++ more) r.reads.1 ∙ append_assoc _ rest more);
  minor = r.minor;
  few = r.few;
}

span_more : (t more : List ℕ) (n : ℕ) (s : Span) → n ≤ length t → IsWithin n s → span_bytes (t ++ more) s ≡ span_bytes t s
span_more t more n s h w =
    ap (take (s.end - s.start)) (drop-append-le s.start t more (omega (arith, h, w.0, w.1)))
    ∙ take-append-le (s.end - s.start) (drop s.start t) more (omega (arith, h, w.0, w.1, length-drop s.start t))

head_more : (t more : List ℕ) (x : Head) (h : RequestHead) → IsHead t x h → IsHead (t ++ more) x h
head_more t more x h e = record {
  reads = subst (ReadsHead (t ++ more) h) (sym (drop-append-le x.len t more e.fits)) (reads_more t more h _ e.reads);
  fits = omega (arith, e.fits, length-append t more);
  method_within = e.method_within;
  target_within = e.target_within;
  method = span_more t more x.len x.method e.fits e.method_within ∙ e.method;
  target = span_more t more x.len x.target e.fits e.target_within ∙ e.target;
  body = e.body;
  close = e.close;
}

pub extended : (p q : List ℕ) (x : Head) → HasHead p x → Extends p q → HasHead q x
extended p q x e f =
    subst (λ (t : List ℕ). HasHead t x) (sym f.is)
    (record { head = e.head; is = head_more p f.more x e.head e.is; len = e.len; body = e.body })

-- ---- a length is within its limit

small_limit : (n k : ℕ) → within_limit n ≡ Ok k → k ≤ most_body
small_limit n k = by (nat_le n most_body) refl
  where
    by : (b : Bool) → nat_le n most_body ≡ b → cond b (Ok n) (Err over) ≡ Ok k → k ≤ most_body
    by true e h = grind (arith, nat_tests, e, h)
    by false e h = grind (arith, h)

small_given : (t : List ℕ) (k : ℕ) → length_given t ≡ Ok k → k ≤ most_body
small_given t k = by (is_length t)
  where
    by : (b : Bool) → cond b (within_limit (digits_value 10 t)) (Err bad) ≡ Ok k → k ≤ most_body
    by true h = small_limit _ k h
    by false h = grind (arith, h)

small_body : (m : Marks) (k : ℕ) → body_length m ≡ Ok k → k ≤ most_body
small_body m k = by (m.encoded || nat_lt 1 m.lengths) (nat_eq m.lengths 0)
  where
    by : (b c : Bool) → cond b (Err bad) (cond c (Ok 0) (length_given m.length)) ≡ Ok k → k ≤ most_body
    by true c h = grind (arith, h)
    by false true h = grind (arith, h)
    by false false h = small_given m.length k h

-- ---- a head in the window is one of all bytes

pub has_head : (p : List ℕ) (x : Head) (h : RequestHead) → IsHead (window p) x h → HasHead p x
has_head p x h e =
    let small : HasHead (window p) x = record {
      head = h;
      is = e;
      len = omega (arith, e.fits, length-take most_head p);
      body = small_body (marks_of h.fields) x.body e.body;
    } in
    extended (window p) p x small (record { more = drop most_head p; is = sym (take-append-drop most_head p) })
