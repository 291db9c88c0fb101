-- What is made for a client that serves connections whose streams go on elsewhere.
use Rattle.std.proofs.Common.{◌≡◌, ℕ, List, All, Bool, Option, None, Some, Result, Ok, Err, refl, sym, ◌∙◌, ap, subst}
use Rattle.std.specs.Prelude.{MatchOption, ⊤}
use Rattle.kv_model.specs.declared.ids.Ids.{Ids}
use Rattle.http_head.specs.Requests.{Asked}
use Rattle.http_reply.specs.declared.front.Front.{Front}
use Rattle.json_gateway.specs.declared.outcome.Outcome.{Outcome}
use Rattle.event_book.specs.Callers.{Gives}
use Rattle.event_book.specs.Events.{Entry}
use Rattle.engine_lock.specs.Locked.{Caller, naming}
use Rattle.http_loop.specs.declared.answering.Told.{Told}
use Rattle.http_loop.specs.declared.answering.Told.TheVariants as told
use Rattle.http_loop.specs.declared.stepping.Step.{Step}
use Rattle.http_loop.specs.declared.stepping.Step.TheVariants as step
use Rattle.http_loop.specs.declared.writing.Turn.{Turn}
use Rattle.http_loop.specs.Answered.{IsAnswered}
use Rattle.http_loop.specs.Stepped.{AtOnce, EndsWith, Steps}
use Rattle.http_loop.specs.Turned.{TurnsOnce, progress}
use Rattle.http_loop.proofs.Conns.{may_end, rest_of}
use Rattle.http_connections.specs.Engines as engines
use Rattle.http_connections.specs.Engines.{Gets}
use Rattle.http_connections.specs.Handing as handing
use Rattle.http_connections.specs.Handing.{Hands}
use Rattle.http_connections.proofs.Giving as giving
use Rattle.http_connections.proofs.Giving.{firsts, rests, seen, told_whole, turn_gets}

-- ---- the same, by another name of the client

abbrev pub from_same : (b c d : Caller) → b ≡ c → Gets c d → Gets b d
from_same b c d e g = record {
  own = g.own;
  gives = subst (λ (x : Caller). Gives x.holder g.own d.holder) (sym e) g.gives;
  all = subst (λ (x : Caller). All (λ (y : Entry). y.about ≡ x.about) g.own) (sym e) g.all;
  about = g.about ∙ ap (λ (x : Caller). x.about) (sym e);
}

-- whatever its next events were about before and are about behind
abbrev pub named : (call : ℕ) (c s d : Caller) → s ≡ naming c call → Gets s d → Gets (naming c call) (naming d call)
named call c s d e g = record {
  own = g.own;
  gives = subst (λ (x : Caller). Gives x.holder g.own d.holder) e g.gives;
  all = subst (λ (x : Caller). All (λ (y : Entry). y.about ≡ x.about) g.own) e g.all;
  about = refl;
}

-- ---- one call

talks : (s t : Hands) (n : ℕ) (x : Told) → handing.Tells s n x t → Gets s.client t.client
talks s t n told.Away h = rests s.client t.client (ap (λ (s : Hands). seen s.client) h)
talks s t n (told.Text x) h = absurd h
talks s t n told.End h = absurd h
talks s t n told.Memory h = absurd h

module _ (ids : Ids) (recorded : Bool) (At : ℕ → Type 0) where
  pub finishes : (s t : Hands) (w : Option ℕ) → handing.Finishes ids s w t → Gets s.client t.client
  finishes s t w f = by s.handed f
    where
      by : (h : Option ℕ) → MatchOption h (engines.Finishes ids s.client w t.client × (t.handed ≡ None)) (λ n. t ≡ s) → Gets s.client t.client
      by None f = giving.finishes ids recorded At ⊤ s.client t.client w f.0
      by (Some n) f = rests s.client t.client (ap (λ (s : Hands). seen s.client) f)

  does : (s t : Hands) (a : Asked) (o : Outcome) → AtOnce (handing.Answers ids recorded At) s a o t → Gets s.client t.client
  does s t a o h = firsts ids recorded At ⊤ s.client t.client a h.0.submitted h.0.answers

  -- a reply
  pub ended : (o : Outcome) (close : Bool) (s t : Hands) (out : List ℕ) (r : Result Bool Front) → EndsWith Hands handing.Tells (handing.Finishes ids) o close s out t r
      → Gets s.client t.client
  ended = told_whole Hands (λ (s : Hands). s.client) handing.Tells talks (handing.Finishes ids) finishes

  module _ (s t : Hands) (left left' : Option (List ℕ)) (p q : List ℕ) (c c' : Option (List ℕ)) where
    -- a turn
    turned : (x : Result Turn Front)
        → TurnsOnce Hands (IsAnswered Hands (AtOnce (handing.Answers ids recorded At)) handing.Tells (handing.Finishes ids)) (progress s left p c) (progress t left' q c') x
        → Gets s.client t.client
    turned x h = turn_gets Hands (λ (s : Hands). s.client) handing.Tells talks (handing.Finishes ids) finishes (AtOnce (handing.Answers ids recorded At)) does
        s t _ _ x h.turn.out (h.turn.are (rest_of left') (may_end left' x))

    -- a step
    pub stepped : (y : Result Step Front) → Steps Hands (handing.Answers ids recorded At) handing.Tells (handing.Finishes ids) (progress s left p c) (progress t left' q c') y
        → Gets s.client t.client
    stepped (Ok (step.Turned u)) y = turned (Ok u) y
    stepped (Ok (step.Waits w)) y = firsts ids recorded At ⊤ s.client t.client y.request y.answers.submitted y.answers.answers
    stepped (Err f) y = turned (Err f) y
