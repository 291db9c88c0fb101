-- What is made for a client by what answers a connection, in order.
use Rattle.std.proofs.Common.{◌≡◌, ◌⊎◌, inl, inr, ℕ, List, [], ◌∷◌, ◌++◌, All, Bool, true, false, Option, None, Some, Result, Ok, refl, sym, ◌∙◌, ap, subst}
use Rattle.std.proofs.lemmas.List.{append-nil, append_cancel_left}
use Rattle.std.proofs.lemmas.List.Elements.{All-append, All-cons, All-nil}
use Rattle.kv_model.specs.declared.ids.Ids.{Ids}
use Rattle.kv_model.specs.declared.call.Command.{Command}
use Rattle.kv_model.specs.Wire.{WireOutcome}
use Rattle.http_head.specs.Requests.{Asked}
use Rattle.http_reply.specs.declared.front.Front.{Front}
use Rattle.json_gateway.specs.declared.outcome.Outcome.{Outcome}
use Rattle.json_gateway.specs.declared.outcome.Settled.{Settled}
use Rattle.event_book.specs.Asking.{Asking}
use Rattle.event_book.specs.Callers as list
use Rattle.event_book.specs.Events.{Entry, Event, entry, events_by}
use Rattle.event_book.proofs.Giving.{adds_one, gives_both, shows_none}
use Rattle.engine_lock.specs.Entering.{Enters}
use Rattle.engine_lock.specs.Locked.{Caller, left}
use Rattle.engine_lock.specs.declared.engine.Submitted.{Submitted}
use Rattle.http_loop.specs.declared.answering.Told.{Told}
use Rattle.http_loop.specs.declared.answering.Told.TheVariants as told
use Rattle.http_loop.specs.Answered.{AreMessages, Conn, IsAnswered, IsStream, IsStreamOf, IsTold, IsTurn, streamed}
use Rattle.http_loop.specs.declared.writing.Turn.{Turn}
use Rattle.http_loop.specs.declared.writing.Turn.TheVariants as turn
use Rattle.http_loop.specs.Stepped.{EndsWith}
use Rattle.http_loop.specs.Turned.{NotBegun, Serves, progress}
use Rattle.http_connections.specs.Engines.{Answers, AnswersFirst, AreMadeBehind, AreQuiet, AreTrimmed, Awaits, Begins, CatchesUp, Finishes, Gets, Looks, ReadsOn, Says, Starts, Stays, SubmitsFirst, Tells}

-- ---- of any calls

-- what is seen of a client here
abbrev pub seen : Caller → list.Caller × ℕ
seen c = (c.holder, c.about)

abbrev shown : (c d : Caller) → list.Shows c.holder d.holder → d.about ≡ c.about → Gets c d
shown c d x e = record { own = []; gives = shows_none c.holder d.holder x; all = All-nil (λ (x : Entry). x.about ≡ c.about); about = e }

abbrev pub rests : (c d : Caller) → seen d ≡ seen c → Gets c d
rests c d e =
    let grows = ap (λ (s : list.Caller × ℕ). s.0.front) e ∙ sym (append-nil c.holder.front) in
    let number = ap (λ (s : list.Caller × ℕ). s.0.number) e in
    shown c d (record { between = []; others = refl; grows = grows; number = number }) (ap (λ (s : list.Caller × ℕ). s.1) e)

abbrev pub both : (c d e : Caller) → Gets c d → Gets d e → Gets c e
both c d e g h = record {
  own = g.own ++ h.own;
  gives = gives_both c.holder d.holder e.holder g.own h.own g.gives h.gives;
  all = All-append (λ (x : Entry). x.about ≡ c.about) g.own h.own g.all (subst (λ n. All (λ (x : Entry). x.about ≡ n) h.own) g.about h.all);
  about = h.about ∙ g.about;
}

abbrev pub enters : (ids : Ids) (c d : Caller) (e : Event) (o : WireOutcome) → Enters ids c e o d → Gets c d
enters ids c d e o x = record {
  own = entry c.holder.number c.about e o ∷ [];
  gives = adds_one ids c.holder c.about e o d.holder x.adds;
  all = All-cons (λ (x : Entry). x.about ≡ c.about) (entry c.holder.number c.about e o) [] refl (All-nil (λ (x : Entry). x.about ≡ c.about));
  about = ap (λ (c : Caller). c.about) x.same;
}

-- what is given meanwhile is given once
pub own_is : (c d : Caller) (g h : Gets c d) → g.own ≡ h.own
own_is c d g h = append_cancel_left (events_by c.holder.number c.holder.front) g.own h.own (sym g.gives.mine ∙ h.gives.mine)

pub own_none : (c d : Caller) (g : Gets c d) → seen d ≡ seen c → g.own ≡ []
own_none c d g e = own_is c d g (rests c d e)

pub own_both : (c d e : Caller) (g : Gets c e) (x : Gets c d) (y : Gets d e) → g.own ≡ x.own ++ y.own
own_both c d e g x y = own_is c e g (both c d e x y)

-- ---- a reply, by whoever tells it, of whom a client is seen

module _ (S : Type 0) (client : S → Caller) (Talks : S → ℕ → Told → S → Type 0) (talks : (s t : S) (n : ℕ) (x : Told) → Talks s n x t → Gets (client s) (client t)) where
  same : (s t : S) → t ≡ s → Gets (client s) (client t)
  same s t e = rests (client s) (client t) (ap (λ (x : S). seen (client x)) e)

  messages : (n k : ℕ) (s t : S) (out : List ℕ) (r : Result Bool Front) → AreMessages S Talks n k s out t r → Gets (client s) (client t)
  messages n _ s t out r (AreMessages.quiet k h sent) = talks s t n told.End h
  messages n _ s t _ r (AreMessages.more {t = u} {out} k x h later) = both (client s) (client u) (client t) (talks s u n (told.Text x) h) (messages n k u t out r later)
  messages n _ s t out _ (AreMessages.cut k x h sent) = talks s t n (told.Text x) h
  messages n _ s t _ _ (AreMessages.untold k h) = talks s t n told.Memory h
  messages n _ s t _ _ (AreMessages.away k h) = talks s t n told.Away h
  messages n _ s _ out r (AreMessages.spent sent) = same s s refl

  streams : (n : ℕ) (created : List ℕ) (s t : S) (out : List ℕ) (r : Result Bool Front) → IsStream S Talks n created s out t r → Gets (client s) (client t)
  streams n created s _ out _ (IsStreamOf.headless sent) = same s s refl
  streams n created s _ _ _ (IsStreamOf.uncreated out sent) = same s s refl
  streams n created s t _ r (IsStreamOf.whole {out} later) = messages n _ s t out r later

  is_told : (w : Option ℕ) (x : Settled) (close : Bool) (s t : S) (out : List ℕ) (r : Result Bool Front) → IsTold S Talks w x close s out t r → Gets (client s) (client t)
  is_told None x close s t out r h = same s t h.0
  is_told (Some n) x close s t out r h = streams n _ s t out r h

  module _ (Ends : S → Option ℕ → S → Type 0) (ends : (s t : S) (w : Option ℕ) → Ends s w t → Gets (client s) (client t)) where
    pub told_whole : (o : Outcome) (close : Bool) (s t : S) (out : List ℕ) (r : Result Bool Front) → EndsWith S Talks Ends o close s out t r → Gets (client s) (client t)
    told_whole o close s t out r e = both (client s) (client e.written) (client t)
        (is_told (streamed o.settled o.watch) o.settled close s e.written out r e.told) (ends e.written t o.watch e.finishes)

    module _ (Does : S → Asked → Outcome → S → Type 0) (does : (s t : S) (a : Asked) (o : Outcome) → Does s a o t → Gets (client s) (client t)) where
      pub request : (s t : S) (a : Asked) (out : List ℕ) (r : Result Bool Front) → IsAnswered S Does Talks Ends s a out t r → Gets (client s) (client t)
      request s t a out r d = both (client s) (client d.done) (client t) (does s d.done a d.outcome d.answers)
          (told_whole d.outcome a.close d.done t out r (record { written = d.written; told = d.told; finishes = d.finishes }))

      pub turn_gets : (s t : S) (bytes left : List ℕ) (x : Result Turn Front) (out : List ℕ) → IsTurn S (IsAnswered S Does Talks Ends) s bytes left t x out
          → Gets (client s) (client t)
      turn_gets s t bytes left _ out (IsTurn.answered a r h i) = request s t a out r i
      turn_gets s _ bytes left _ _ (IsTurn.ended n) = same s s refl
      turn_gets s _ bytes left _ _ (IsTurn.within n) = same s s refl
      turn_gets s _ bytes left _ out (IsTurn.unanswered f r n i) = same s s refl
      turn_gets s _ bytes left _ _ (IsTurn.unread) = same s s refl
      turn_gets s _ bytes left _ _ (IsTurn.unheld n) = same s s refl

module _ (ids : Ids) (recorded : Bool) (At : ℕ → Type 0) (Left : Type 0) where
  -- ---- one call

  pub made : (start : ℕ) (c d : Caller) (n : ℕ) → AreMadeBehind ids c start n d → Gets c d
  made b c _ _ AreMadeBehind.none = rests c c refl
  made b c d _ (AreMadeBehind.more {n} {d = m} t before h) = both c m d (made b c m n before) (enters ids m d _ _ h.enters)
  made b c d _ (AreMadeBehind.again {n} {d = m} before h) = both c m d (made b c m n before) (shown m d h.0 (ap (λ (c : Caller). c.about) h.1))

  awaits : (s : Submitted) (o : Outcome) (c d : Caller) → Awaits Caller (AreTrimmed ids 0) s o c d → Gets c d
  awaits s _ c _ (Awaits.at_once h) = rests c c refl
  awaits s _ c d (Awaits.behind h t) = both c t.0 d (made 0 c t.0 t.1 t.2) (enters ids t.0 d _ _ t.3.trims.enters)
  awaits s _ c d (Awaits.lost h t) = made 0 c d 1000 t

  caught : (c d : Caller) → (left d ≡ left c) ⊎ ((told : Bool) × CatchesUp ids At told c d) → Gets c d
  caught c d (inl h) = rests c d (ap seen h)
  caught c d (inr h) = enters ids c d _ _ h.1.2.enters

  reads_on : (c d : Caller) (front : List Entry) → ReadsOn c front d → Gets c d
  reads_on c d front h = rests c d (ap seen h.client)

  read_or_not : (c d : Caller) → (d ≡ c) ⊎ ReadsOn c c.reader.known d → Gets c d
  read_or_not c d (inl h) = rests c d (ap seen h)
  read_or_not c d (inr h) = reads_on c d c.reader.known h

  stays : (c d : Caller) → Stays ids At c d → Gets c d
  stays c d h = both c h.from d (caught c h.from h.caught) (read_or_not h.from d h.reads)

  starts : (command : Command) (c d : Caller) → Starts ids At command c d → Gets c d
  starts command c d (inl h) = rests c d (ap seen h)
  starts command c d (inr h) = stays c d h.2

  begins : (s : Bool) (c d : Caller) → Begins ids recorded At s c d → Gets c d
  begins true c d h = rests c d (ap seen h)
  begins false c d h = enters ids c d _ _ h.1.2.enters

  first : (c d : Caller) (asking : Asking) (command : Command) (s : Submitted) → SubmitsFirst ids At c asking s d ⊎ Looks ids recorded At c command s.outcome d → Gets c d
  first c d asking command s (inl b) = both c b.from d (starts asking.command c b.from b.starts) (enters ids b.from d _ _ b.submits.enters)
  first c d asking command s (inr l) =
      both c l.2.from d (begins l.0.serializable c l.2.from l.2.begins) (reads_on l.2.from d l.2.reads.front l.2.reads.client)

  pub firsts : (c d : Caller) (a : Asked) (s : Submitted) → AnswersFirst ids recorded At c a s d → Gets c d
  firsts c d a s (inl h) = first c d _ h.command s h.does
  firsts c d a s (inr h) = rests c d (ap seen h.same)

  answers : (c d : Caller) (a : Asked) (o : Outcome) → Answers ids recorded At c a o d → Gets c d
  answers c d a o h = both c h.told d (firsts c h.told a h.submitted h.first) (awaits h.submitted o h.told d h.awaits)

  quiet : (n : ℕ) (c d : Caller) → AreQuiet ids n c d → Gets c d
  quiet n c _ AreQuiet.none = rests c c refl
  quiet n c d (AreQuiet.more {d = m} before (inl h)) = both c m d (quiet n c m before) (enters ids m d _ _ h.0)
  quiet n c d (AreQuiet.more {d = m} before (inr h)) = both c m d (quiet n c m before) (enters ids m d _ _ h.0)

  says : (c d : Caller) (n : ℕ) (x : Told) → Says ids n c x d → Gets c d
  says c d n (told.Text x) h = enters ids c d _ _ h.0
  says c d n told.End h = enters ids c d _ _ h.0
  says c d n told.Memory h = absurd h
  says c d n told.Away h = absurd h

  tells : (c d : Caller) (n : ℕ) (x : Told) → Tells ids Left c n x d → Gets c d
  tells c d n x (inl h) = both c h.0 d (quiet n c h.0 h.1) (says h.0 d n x h.2)
  tells c d n x (inr h) = quiet n c d h.2

  pub finishes : (c d : Caller) (w : Option ℕ) → Finishes ids c w d → Gets c d
  finishes c d None h = rests c d (ap seen h)
  finishes c d (Some n) h = enters ids c d _ _ h.1.0

  -- ---- a turn

  abbrev Is : Caller → Asked → List ℕ → Caller → Result Bool Front → Type 0
  Is = IsAnswered Caller (Answers ids recorded At) (Tells ids Left) (Finishes ids)

  turned : (s t : Caller) (bytes left : List ℕ) (x : Result Turn Front) (out : List ℕ) → IsTurn Caller Is s bytes left t x out → Gets s t
  turned = turn_gets Caller (λ c. c) (Tells ids Left) tells (Finishes ids) finishes (Answers ids recorded At) answers

  -- ---- a connection

  conns : (s t : Caller) (bytes : List ℕ) (limit : ℕ) (out : List ℕ) (r : Result ℕ Front) → Conn Caller Is s bytes limit out t r → Gets s t
  conns s _ bytes _ _ _ Conn.at_limit = rests s s refl
  conns s t bytes _ _ _ (Conn.more {t = u} {rest} {text} {out} {r} l x later) = both s u t (turned s u bytes rest (Ok turn.More) text x) (conns u t rest l out r later)
  conns s t bytes _ out _ (Conn.last {rest} l x is e) = turned s t bytes rest x out is

  pub served : (left : Option (List ℕ)) (p : List ℕ) (limit : ℕ) (w v : Option (List ℕ)) (s t : Caller) (r : Result ℕ Front)
      → NotBegun s t w v r ⊎ Serves Caller Is limit (progress s left p w) v t r → Gets s t
  served left p limit w v s t r (inl h) = rests s t (ap seen h.same)
  served None p limit w v s t r (inr all) = conns s t _ limit all.1.out r all.1.are
  served (Some left) p limit w v s t r (inr all) = conns s t _ limit all.out r all.are
