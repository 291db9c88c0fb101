-- A request that was read and done, and the step that it makes.
use Rattle.std.proofs.Common.{◌≡◌, ℕ, ◌+◌, List, [], drop, Bool, true, Option, Some, Result, Ok, Err, refl, sym, ◌∙◌, ap, subst}
use Rattle.std.specs.Io.KnownBytes.{Appends}
use Rattle.http_head.specs.declared.head.Head.{Head}
use Rattle.http_head.specs.Requests.{Asked}
use Rattle.http_input.specs.Inputs.{Came, Extends, Took, asked_of}
use Rattle.http_reply.specs.declared.front.Front.{Front}
use Rattle.http_reply.specs.declared.front.Front.TheVariants as front
use Rattle.http_reply.specs.Replies.{refusal_bytes}
use Rattle.json_gateway.specs.declared.outcome.Outcome.{Outcome}
use Rattle.http_loop.specs.declared.answering.Told.{Told}
use Rattle.http_loop.specs.declared.stepping.Step.{Step}
use Rattle.http_loop.specs.declared.stepping.Step.TheVariants as step
use Rattle.http_loop.specs.Answered.{IsAnswered}
use Rattle.http_loop.specs.Stepped.{AtOnce, Begun, ReadsOn, Steps}
use Rattle.http_loop.specs.Texts.{Declines, IsSent, end_of}
use Rattle.http_loop.specs.Turned.{progress}
use Rattle.http_loop.proofs.Texts.{silent}
use Rattle.http_loop.proofs.Turns.{asked, gave, reads}

-- ---- a request was read

module _ (S : Type 0) (Answers : S → Asked → Outcome → S → Type 0) (Tells : S → ℕ → Told → S → Type 0) (Finishes : S → Option ℕ → S → Type 0)
    (s t : S) (left left' : Option (List ℕ)) (p q : List ℕ) (k : Extends p q) (took : Took left left' p q)
    (q' : List ℕ) (x : Head) (o : Option Head) (e : o ≡ Some x) (h : Came left' q (Ok o)) (skipped : q' ≡ drop (x.len + x.body) q)
    (a : Asked) (is : a ≡ asked_of q x) (c c' : Option (List ℕ)) where
  -- what a step comes to is what the request came to, with the bytes that it was
  pub stepped : (y : Result Step Front) → Begun S Answers Tells Finishes a s c t c' y
      → Steps S Answers Tells Finishes (progress s left p c) (progress t left' q' c') y
  stepped (Ok (step.Turned u)) b = asked S (IsAnswered S (AtOnce Answers) Tells Finishes) s t left left' p q k took q' x o e h skipped a is c c'
      b.ended (Ok u) b.is b.wrote
  stepped (Ok (step.Waits w)) b = record {
    came = k.more;
    gave = gave left left' p q k took;
    request = a;
    reads = λ later m. reads S (IsAnswered S (AtOnce Answers) Tells Finishes) s t left left' p q k took q' x o e h skipped a is c c' later;
    answers = b.0;
    waits = b.1;
    close = b.2;
    quiet = b.3;
  }
  stepped (Err f) b = asked S (IsAnswered S (AtOnce Answers) Tells Finishes) s t left left' p q k took q' x o e h skipped a is c c'
      b.ended (Err f) b.is b.wrote

-- ---- a read failed

-- an end by a failed read is that of the reading, for no writing ends so
of_reading : (x : Front) (out : List ℕ) (r : Result Bool Front) → IsSent true (refusal_bytes x) out r → end_of x r ≡ front.Read → x ≡ front.Read
of_reading x out (Ok b) h e = e
of_reading x out (Err front.Head) h e = absurd h
of_reading x out (Err front.Length) h e = absurd h
of_reading x out (Err front.TooLong) h e = absurd h
of_reading x out (Err front.Read) h e = absurd h
of_reading x out (Err front.End) h e = absurd h
of_reading x out (Err front.Memory) h e = absurd (cc)
of_reading x out (Err (front.Write n)) h e = absurd (cc)
of_reading x out (Err front.Spawn) h e = absurd h
of_reading x out (Err front.Accept) h e = absurd h
of_reading x out (Err front.Unclosed) h e = absurd h

unsaid : (x : Front) → x ≡ front.Read → refusal_bytes x ≡ []
unsaid x e = ap refusal_bytes e

module _ (S : Type 0) (s : S) (left left' : Option (List ℕ)) (p q : List ℕ) (k : Extends p q) (took : Took left left' p q) where
  -- no byte is lost
  pub dried : (c c' : Option (List ℕ)) (m m' : ℕ) (end x : Front) → Declines x c c' m m' end → end ≡ front.Read
      → ReadsOn S (progress s left p c) (progress s left' q c')
  dried c c' m m' end x d e = record {
    came = k.more;
    gave = gave left left' p q k took;
    pending = k.is;
    state = refl;
    quiet = subst (Appends c c') (silent (refusal_bytes x) d.wrote.out x d.sending (unsaid x (of_reading x d.wrote.out d.sending d.wrote.are (sym d.ends ∙ e))) d.wrote.are).0 d.wrote.wrote;
  }
