-- A text that was written, or not to its end.
use Rattle.std.proofs.Common.{◌≡◌, ◌<◌, ℕ, arith, List, [], ◌++◌, length, take, Bool, true, false, Option, None, Some, Result, Ok, Err, refl, sym, ap, ◌∙◌, append_assoc}
use Rattle.std.specs.Prelude.{IfErr}
use Rattle.std.specs.Io.KnownBytes.{Appends}
use Rattle.std.proofs.lemmas.List.{append-nil}
use Rattle.http_reply.specs.declared.front.Front.{Front}
use Rattle.http_reply.specs.declared.front.Front.TheVariants as front
use Rattle.http_reply.specs.Replies.{refusal_bytes}
use Rattle.http_reply.specs.Sends.{Sends, failures_after}
use Rattle.http_input.specs.Inputs.{failures_after_read}
use Rattle.http_loop.specs.declared.writing.Turn.{Turn}
use Rattle.http_loop.specs.Texts.{Declines, Grows, IsOfWriting, IsSent, Writes, end_of, turn_of}

-- ---- any bytes

pub wrote_none : (c : Option (List ℕ)) → Appends c c []
wrote_none None = tt
wrote_none (Some xs) = sym (append-nil xs)

pub wrote_more : (a b c : Option (List ℕ)) (x y : List ℕ) → Appends a b x → Appends b c y → Appends a c (x ++ y)
wrote_more None b c x y h k = tt
wrote_more (Some s) None c x y h k = absurd h
wrote_more (Some s) (Some t) None x y h k = k
wrote_more (Some s) (Some t) (Some u) x y h k = k ∙ ap (λ l. l ++ y) h ∙ append_assoc s x y

pub by_none : (c : Option (List ℕ)) (Are : List ℕ → Type 0) → Are [] → Grows c c Are
by_none c Are h = record { out = []; wrote = wrote_none c; are = h }

pub by_both : (a b c : Option (List ℕ)) (P Q R : List ℕ → Type 0) → ((x y : List ℕ) → P x → Q y → R (x ++ y)) → Grows a b P → Grows b c Q → Grows a c R
by_both a b c P Q R k g h = record {
  out = g.out ++ h.out;
  wrote = wrote_more a b c g.out h.out g.wrote h.wrote;
  are = k g.out h.out g.are h.are;
}

pub seen_as : (a b : Option (List ℕ)) (P Q : List ℕ → Type 0) → ((x : List ℕ) → P x → Q x) → Grows a b P → Grows a b Q
seen_as a b P Q k g = record { out = g.out; wrote = g.wrote; are = k g.out g.are }

-- ---- one text

pub sent_whole : (close : Bool) (text : List ℕ) (c c' : Option (List ℕ)) → Appends c c' text → Writes close text c c' (Ok close)
sent_whole close text c c' h = record { out = text; wrote = h; are = (refl, refl) }

module _ (T A B : Type 0) (close : Bool) (text : List ℕ) (c c' : Option (List ℕ)) where
  pub sent_part : (f : Front) → Sends {T = T} (Err f) c c' text → (f ≡ front.Memory → A × B × (1024 < length text)) → Writes close text c c' (Err f)
  sent_part front.Head h m = absurd h
  sent_part front.Length h m = absurd h
  sent_part front.TooLong h m = absurd h
  sent_part front.Read h m = absurd h
  sent_part front.End h m = absurd h
  sent_part front.Memory h m = record { out = []; wrote = h; are = ((m refl).2, refl) }
  sent_part (front.Write n) h m = record { out = take n text; wrote = h.1; are = (h.0, refl) }
  sent_part front.Spawn h m = absurd h
  sent_part front.Accept h m = absurd h
  sent_part front.Unclosed h m = absurd h

-- of a text without bytes nothing is cut
pub silent : (text out : List ℕ) (x : Front) (r : Result Bool Front) → text ≡ [] → IsSent true text out r → (out ≡ []) × (end_of x r ≡ x)
silent text out x (Ok b) e h = (h.1 ∙ e, refl)
silent text out x (Err front.Head) e h = absurd h
silent text out x (Err front.Length) e h = absurd h
silent text out x (Err front.TooLong) e h = absurd h
silent text out x (Err front.Read) e h = absurd h
silent text out x (Err front.End) e h = absurd h
silent text out x (Err front.Memory) e h = absurd (omega (arith, h.0, ap length e))
silent text out x (Err (front.Write n)) e h = absurd (omega (arith, h.0, ap length e))
silent text out x (Err front.Spawn) e h = absurd h
silent text out x (Err front.Accept) e h = absurd h
silent text out x (Err front.Unclosed) e h = absurd h

-- ---- the reply that tells why a request is not read

pub by_writing : (f : Front) (c c' : Option (List ℕ)) (m m' : ℕ) (r : Result Bool Front) → Writes true (refusal_bytes f) c c' r → m' ≡ failures_after r m
    → Declines f c c' m m' (end_of f r)
by_writing f c c' m m' r w e = record { sending = r; wrote = w; failed = e; ends = refl }

-- ---- what writing ends with

of_sent : (close : Bool) (text out : List ℕ) (r : Result Bool Front) → IsSent close text out r → IfErr r IsOfWriting
of_sent close text out (Ok b) h = tt
of_sent close text out (Err front.Head) h = absurd h
of_sent close text out (Err front.Length) h = absurd h
of_sent close text out (Err front.TooLong) h = absurd h
of_sent close text out (Err front.Read) h = absurd h
of_sent close text out (Err front.End) h = absurd h
of_sent close text out (Err front.Memory) h = tt
of_sent close text out (Err (front.Write n)) h = tt
of_sent close text out (Err front.Spawn) h = absurd h
of_sent close text out (Err front.Accept) h = absurd h
of_sent close text out (Err front.Unclosed) h = absurd h

pub of_writing : (close : Bool) (text : List ℕ) (c c' : Option (List ℕ)) (r : Result Bool Front) → Writes close text c c' r → IfErr r IsOfWriting
of_writing close text c c' r w = of_sent close text w.out r w.are

-- no read failed of it
pub reads_asked : (r : Result Bool Front) (t : Result Turn Front) (n : ℕ) → t ≡ turn_of r → IfErr r IsOfWriting → failures_after_read t n ≡ n
reads_asked (Ok true) t n e h = ap (λ (t : Result Turn Front). failures_after_read t n) e
reads_asked (Ok false) t n e h = ap (λ (t : Result Turn Front). failures_after_read t n) e
reads_asked (Err front.Head) t n e h = absurd h
reads_asked (Err front.Length) t n e h = absurd h
reads_asked (Err front.TooLong) t n e h = absurd h
reads_asked (Err front.Read) t n e h = absurd h
reads_asked (Err front.End) t n e h = absurd h
reads_asked (Err front.Memory) t n e h = ap (λ (t : Result Turn Front). failures_after_read t n) e
reads_asked (Err (front.Write m)) t n e h = ap (λ (t : Result Turn Front). failures_after_read t n) e
reads_asked (Err front.Spawn) t n e h = absurd h
reads_asked (Err front.Accept) t n e h = absurd h
reads_asked (Err front.Unclosed) t n e h = absurd h
