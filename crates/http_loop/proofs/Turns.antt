-- A request that was read, or why there is none, and the turn that it makes.
use Rattle.std.proofs.Common.{◌≡◌, ◌≤◌, ℕ, ◌+◌, List, [], ◌++◌, length, drop, Bool, true, Option, None, Some, Result, Ok, Err, refl, sym, ◌∙◌, ap, subst, append_assoc}
use Rattle.std.specs.Prelude.{⊤}
use Rattle.std.proofs.lemmas.List.{append_cancel_left}
use Rattle.std.specs.Io.KnownBytes.{Appends}
use Rattle.http_head.specs.declared.head.Head.{Head}
use Rattle.http_head.specs.Heads.{Fault, Names, bad_head, bad_length, too_long, window}
use Rattle.http_head.specs.Requests.{Asked, IsCut, ReadsAsked}
use Rattle.http_input.specs.Inputs.{Came, Extends, IsWhole, Says, Took, asked_of, failures_after_read}
use Rattle.http_input.proofs.Told.{says}
use Rattle.http_reply.specs.declared.front.Front.{Front}
use Rattle.http_reply.specs.declared.front.Front.TheVariants as front
use Rattle.http_reply.specs.Replies.{refusal_bytes}
use Rattle.http_reply.specs.Sends.{failures_after}
use Rattle.http_loop.specs.declared.writing.Turn.{Turn}
use Rattle.http_loop.specs.declared.writing.Turn.TheVariants as turn
use Rattle.http_loop.specs.Answered.{Conn, IsTurn}
use Rattle.http_loop.specs.Texts.{Declines, Grows, IsSent, end_of, front_of, turn_of}
use Rattle.http_loop.specs.Turned.{Gave, MayHaveAfter, Progress, TurnsOnce, progress}
use Rattle.http_loop.proofs.Runs.{Turned, Turns}
use Rattle.http_loop.proofs.Texts.{by_none, seen_as, silent}

-- ---- what was read

-- bytes that go on where the others end were given
pub gave : (left left' : Option (List ℕ)) (p q : List ℕ) → (k : Extends p q) → Took left left' p q → Gave left k.more left'
gave None left' p q k t = tt
gave (Some xs) None p q k t = t
gave (Some xs) (Some ys) p q k t = append_cancel_left p xs (k.more ++ ys) (t ∙ ap (λ l. l ++ ys) k.is ∙ append_assoc p k.more ys)

-- the whole is what stands in the buffer and what comes
pub whole : (p q : List ℕ) (k : Extends p q) (later : List ℕ) → p ++ (k.more ++ later) ≡ q ++ later
whole p q k later = sym (append_assoc p k.more later) ∙ ap (λ l. l ++ later) (sym k.is)

-- a turn that ends the connection
abbrev pub IsLastTurn : Result Turn Front → Type 0
IsLastTurn (Ok turn.More) = ⊥
IsLastTurn _ = ⊤

-- nothing comes any more
nothing : (q later : List ℕ) (r : Result (Option Head) Front) → later ≡ [] → Came None q r → Came (Some later) q r
nothing q later (Ok (Some x)) e h = h
nothing q later (Ok None) e h = (h.0, e)
nothing q later (Err front.Head) e h = h
nothing q later (Err front.Length) e h = h
nothing q later (Err front.TooLong) e h = h
nothing q later (Err front.Read) e h = tt
nothing q later (Err front.End) e h = (h.0, e)
nothing q later (Err front.Memory) e h = h
nothing q later (Err (front.Write n)) e h = h
nothing q later (Err front.Spawn) e h = h
nothing q later (Err front.Accept) e h = h
nothing q later (Err front.Unclosed) e h = h

-- what came is so with what the reader still has, where the turn ends
came_some : (left : Option (List ℕ)) (q later : List ℕ) (r : Result (Option Head) Front) (t : Result Turn Front) → IsLastTurn t
    → MayHaveAfter left t later → Came left q r → Came (Some later) q r
came_some (Some xs) q later r t l m h = subst (λ (ys : List ℕ). Came (Some ys) q r) (sym m) h
came_some None q later r (Ok turn.More) l m h = absurd l
came_some None q later r (Ok turn.Last) l m h = nothing q later r m h
came_some None q later r (Ok turn.End) l m h = nothing q later r m h
came_some None q later r (Err f) l m h = nothing q later r m h

-- ---- one turn

module _ (S : Type 0) (Is : S → Asked → List ℕ → S → Result Bool Front → Type 0) where
  -- whatever follows it, it is the first of
  turned : (s t : S) (bytes left : List ℕ) (y : Result Turn Front) (out : List ℕ) → IsTurn S Is s bytes left t y out → Turned S Is s bytes left t y out
  turned s t bytes left (Ok turn.More) out i = λ k more u r m. Conn.more k i m
  turned s t bytes left (Ok turn.Last) out i = λ l. Conn.last l (Ok turn.Last) i refl
  turned s t bytes left (Ok turn.End) out i = λ l. Conn.last l (Ok turn.End) i refl
  turned s t bytes left (Err f) out i = λ l. Conn.last l (Err f) i refl

  pub turns : (old new : Progress S) (y : Result Turn Front) → TurnsOnce S Is old new y → Turns S Is old new y
  turns old new y k = record {
    came = k.came;
    gave = k.gave;
    turned = seen_as old.wrote new.wrote
        (λ out. (later : List ℕ) → MayHaveAfter new.left y later → IsTurn S Is old.state (old.pending ++ (k.came ++ later)) (new.pending ++ later) new.state y out)
        (λ out. (later : List ℕ) → MayHaveAfter new.left y later → Turned S Is old.state (old.pending ++ (k.came ++ later)) (new.pending ++ later) new.state y out)
        (λ out f later m. turned old.state new.state (old.pending ++ (k.came ++ later)) (new.pending ++ later) y out (f later m)) k.turn;
  }

module _ (S : Type 0) (Is : S → Asked → List ℕ → S → Result Bool Front → Type 0) (s t : S) (left left' : Option (List ℕ)) (p q : List ℕ) (k : Extends p q)
    (took : Took left left' p q) where
  -- a request was read: the bytes begin with it
  module _ (q' : List ℕ) (x : Head) (o : Option Head) (e : o ≡ Some x) (h : Came left' q (Ok o))
      (skipped : q' ≡ drop (x.len + x.body) q) (a : Asked) (is : a ≡ asked_of q x) (c c' : Option (List ℕ)) where
    found : IsWhole q x
    found = subst (λ (o : Option Head). Came left' q (Ok o)) e h

    -- and it is the request
    pub reads : (later : List ℕ) → ReadsAsked (p ++ (k.more ++ later)) a (q' ++ later)
    reads later = subst (λ (l : List ℕ). ReadsAsked (p ++ (k.more ++ later)) a (l ++ later)) (sym skipped)
        (subst (λ (a : Asked). ReadsAsked (p ++ (k.more ++ later)) a (drop (x.len + x.body) q ++ later)) (sym is)
        (says (p ++ (k.more ++ later)) q later (Ok (Some x)) (whole p q k later) found).1)

    pub asked : (r : Result Bool Front) (y : Result Turn Front) → y ≡ turn_of r → Grows c c' (λ out. Is s a out t r)
        → TurnsOnce S Is (progress s left p c) (progress t left' q' c') y
    asked r y f g = subst (λ (y : Result Turn Front). TurnsOnce S Is (progress s left p c) (progress t left' q' c') y) (sym f)
        (record {
          came = k.more;
          gave = gave left left' p q k took;
          turn = seen_as c c' (λ out. Is s a out t r)
              (λ out. (later : List ℕ) → MayHaveAfter left' (turn_of r) later → IsTurn S Is s (p ++ (k.more ++ later)) (q' ++ later) t (turn_of r) out)
              (λ out i later m. IsTurn.answered a r (reads later) i) g;
        })

  -- the input has ended
  pub ended : (c : Option (List ℕ)) (o : Option Head) → o ≡ None → Came left' q (Ok o) → TurnsOnce S Is (progress s left p c) (progress s left' q c) (Ok turn.End)
  ended c o e h = record {
    came = k.more;
    gave = gave left left' p q k took;
    turn = by_none c (λ out. (later : List ℕ) → MayHaveAfter left' (Ok turn.End) later → IsTurn S Is s (p ++ (k.more ++ later)) (q ++ later) s (Ok turn.End) out)
        (λ later m. IsTurn.ended (says (p ++ (k.more ++ later)) q later (Ok None) (whole p q k later)
        (came_some left' q later (Ok None) (Ok turn.End) tt m (subst (λ (o : Option Head). Came left' q (Ok o)) e h))).0);
  }

  -- the bytes begin with no request
  module _ (c c' : Option (List ℕ)) (m m' : ℕ) (end : Front) where
    -- what was written says so of all of them, whatever is left
    abbrev Refused : (List ℕ → Type 0) → Type 0
    Refused Are = Grows c c' (λ out. (bytes later : List ℕ) → Are bytes → IsTurn S Is s bytes later s (Err end) out)

    -- a fault that is told of
    refused : (f : Fault) → Declines (front_of f) c c' m m' end → Refused (λ bytes. Names f (window bytes))
    refused f d = record {
      out = d.wrote.out;
      wrote = d.wrote.wrote;
      are = λ bytes later n. subst (λ (e : Front). IsTurn S Is s bytes later s (Err e) d.wrote.out) (sym d.ends) (IsTurn.unanswered f d.sending n d.wrote.are);
    }

    -- an end without words
    unsaid : (x : Front) (Are : List ℕ → Type 0) → refusal_bytes x ≡ [] → ((bytes later : List ℕ) → Are bytes → IsTurn S Is s bytes later s (Err x) [])
        → Declines x c c' m m' end → Refused Are
    unsaid x Are none k d =
        let quiet = silent (refusal_bytes x) d.wrote.out x d.sending none d.wrote.are in
        record {
          out = [];
          wrote = subst (Appends c c') quiet.0 d.wrote.wrote;
          are = λ bytes later i. subst (λ (e : Front). IsTurn S Is s bytes later s (Err e) []) (sym (d.ends ∙ quiet.1)) (k bytes later i);
        }

    -- whatever comes later
    behind : (Are : List ℕ → Type 0) → Refused Are → Grows c c' (λ out. (bytes later rest : List ℕ) → Are bytes → IsTurn S Is s bytes rest s (Err end) out)
    behind Are = seen_as c c' (λ out. (bytes rest : List ℕ) → Are bytes → IsTurn S Is s bytes rest s (Err end) out)
        (λ out. (bytes later rest : List ℕ) → Are bytes → IsTurn S Is s bytes rest s (Err end) out) (λ out f bytes later rest i. f bytes rest i)

    no_request : (x : Front) → Came left' q (Err x) → Declines x c c' m m' end
        → Grows c c' (λ out. (bytes later rest : List ℕ) → Says bytes q later (Err x) → IsTurn S Is s bytes rest s (Err end) out)
    no_request front.Head h d = behind (λ bytes. Names bad_head (window bytes)) (refused bad_head d)
    no_request front.Length h d = behind (λ bytes. Names bad_length (window bytes)) (refused bad_length d)
    no_request front.TooLong h d = behind (λ bytes. Names too_long (window bytes)) (refused too_long d)
    no_request front.Read h d = behind (λ bytes. ⊤) (unsaid front.Read (λ bytes. ⊤) refl (λ bytes rest i. IsTurn.unread) d)
    no_request front.End h d = behind IsCut (unsaid front.End IsCut refl (λ bytes rest i. IsTurn.within i) d)
    no_request front.Memory h d = behind (λ bytes. 16384 ≤ length bytes) (unsaid front.Memory (λ bytes. 16384 ≤ length bytes) refl (λ bytes rest i. IsTurn.unheld i) d)
    no_request (front.Write n) h d = absurd h
    no_request front.Spawn h d = absurd h
    no_request front.Accept h d = absurd h
    no_request front.Unclosed h d = absurd h

    pub declined : (x : Front) → Came left' q (Err x) → Declines x c c' m m' end → TurnsOnce S Is (progress s left p c) (progress s left' q c') (Err end)
    declined x h d = record {
      came = k.more;
      gave = gave left left' p q k took;
      turn = seen_as c c' (λ out. (bytes later rest : List ℕ) → Says bytes q later (Err x) → IsTurn S Is s bytes rest s (Err end) out)
          (λ out. (later : List ℕ) → MayHaveAfter left' (Err end) later → IsTurn S Is s (p ++ (k.more ++ later)) (q ++ later) s (Err end) out)
          (λ out f later m. f (p ++ (k.more ++ later)) later (q ++ later) (says (p ++ (k.more ++ later)) q later (Err x) (whole p q k later)
          (came_some left' q later (Err x) (Err end) tt m h))) (no_request x h d);
    }

-- ---- what reader and writer tell of failures

module _ (T U : Type 0) where
  -- the reader's failures go by what it ended with
  reads_by : (x : Front) (r : Result Bool Front) (out : List ℕ) (n : ℕ) → IsSent true (refusal_bytes x) out r
      → failures_after_read {T = T} (Err (end_of x r)) n ≡ failures_after_read {T = U} (Err x) n
  reads_by front.Head (Ok b) out n h = refl
  reads_by front.Length (Ok b) out n h = refl
  reads_by front.TooLong (Ok b) out n h = refl
  reads_by front.Read (Ok b) out n h = refl
  reads_by front.End (Ok b) out n h = refl
  reads_by front.Memory (Ok b) out n h = refl
  reads_by (front.Write m) (Ok b) out n h = refl
  reads_by front.Spawn (Ok b) out n h = refl
  reads_by front.Accept (Ok b) out n h = refl
  reads_by front.Unclosed (Ok b) out n h = refl
  reads_by x (Err front.Head) out n h = absurd h
  reads_by x (Err front.Length) out n h = absurd h
  reads_by x (Err front.TooLong) out n h = absurd h
  reads_by x (Err front.Read) out n h = absurd h
  reads_by x (Err front.End) out n h = absurd h
  reads_by x (Err front.Memory) out n h = by x (λ none. (silent (refusal_bytes x) out x (Err front.Memory) none h).1)
    where
      by : (x : Front) → (refusal_bytes x ≡ [] → front.Memory ≡ x) → failures_after_read {T = T} (Err front.Memory) n ≡ failures_after_read {T = U} (Err x) n
      by front.Head k = refl
      by front.Length k = refl
      by front.TooLong k = refl
      by front.Read k = ap (λ (e : Front). failures_after_read {T = T} (Err e) n) (k refl)
      by front.End k = refl
      by front.Memory k = refl
      by (front.Write m) k = refl
      by front.Spawn k = refl
      by front.Accept k = refl
      by front.Unclosed k = refl
  reads_by x (Err (front.Write w)) out n h = by x (λ none. (silent (refusal_bytes x) out x (Err (front.Write w)) none h).1)
    where
      by : (x : Front) → (refusal_bytes x ≡ [] → front.Write w ≡ x) → failures_after_read {T = T} (Err (front.Write w)) n ≡ failures_after_read {T = U} (Err x) n
      by front.Head k = refl
      by front.Length k = refl
      by front.TooLong k = refl
      by front.Read k = ap (λ (e : Front). failures_after_read {T = T} (Err e) n) (k refl)
      by front.End k = refl
      by front.Memory k = refl
      by (front.Write m) k = refl
      by front.Spawn k = refl
      by front.Accept k = refl
      by front.Unclosed k = refl
  reads_by x (Err front.Spawn) out n h = absurd h
  reads_by x (Err front.Accept) out n h = absurd h
  reads_by x (Err front.Unclosed) out n h = absurd h

  pub reads_told : (x end : Front) (c c' : Option (List ℕ)) (m m' n : ℕ) → Declines x c c' m m' end
      → failures_after_read {T = T} (Err end) n ≡ failures_after_read {T = U} (Err x) n
  reads_told x end c c' m m' n d = ap (λ (e : Front). failures_after_read {T = T} (Err e) n) d.ends ∙ reads_by x d.sending d.wrote.out n d.wrote.are

  -- the writer's failures go by what it ended with, where that came of no write before
  writes_by : (x : Front) (r : Result Bool Front) (left : Option (List ℕ)) (q : List ℕ) (n : ℕ) → Came left q (Err x)
      → failures_after {T = T} (Err (end_of x r)) n ≡ failures_after r n
  writes_by x (Err front.Head) left q n h = refl
  writes_by x (Err front.Length) left q n h = refl
  writes_by x (Err front.TooLong) left q n h = refl
  writes_by x (Err front.Read) left q n h = refl
  writes_by x (Err front.End) left q n h = refl
  writes_by x (Err front.Memory) left q n h = refl
  writes_by x (Err (front.Write m)) left q n h = refl
  writes_by x (Err front.Spawn) left q n h = refl
  writes_by x (Err front.Accept) left q n h = refl
  writes_by x (Err front.Unclosed) left q n h = refl
  writes_by front.Head (Ok b) left q n h = refl
  writes_by front.Length (Ok b) left q n h = refl
  writes_by front.TooLong (Ok b) left q n h = refl
  writes_by front.Read (Ok b) left q n h = refl
  writes_by front.End (Ok b) left q n h = refl
  writes_by front.Memory (Ok b) left q n h = refl
  writes_by (front.Write m) (Ok b) left q n h = absurd h
  writes_by front.Spawn (Ok b) left q n h = refl
  writes_by front.Accept (Ok b) left q n h = refl
  writes_by front.Unclosed (Ok b) left q n h = refl

  pub writes_told : (x end : Front) (c c' : Option (List ℕ)) (m m' : ℕ) (left : Option (List ℕ)) (q : List ℕ) → Came left q (Err x) → Declines x c c' m m' end
      → m' ≡ failures_after {T = T} (Err end) m
  writes_told x end c c' m m' left q h d = d.failed ∙ sym (ap (λ (e : Front). failures_after {T = T} (Err e) m) d.ends ∙ writes_by x d.sending left q m h)
