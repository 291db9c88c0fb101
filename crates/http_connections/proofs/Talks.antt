-- A connection, as what it knows of, by the clients that answer it.
use Rattle.std.proofs.Common.{◌≡◌, ℕ, List, [], ◌++◌, Bool, true, false, Option, None, Some, Result, Ok, Err, refl, sym, ◌∙◌, ap, subst, append_assoc}
use Rattle.std.specs.Prelude.{MatchOption, ⊤}
use mathlib.Core.List.{IsPrefix}
use Rattle.kv_model.specs.declared.ids.Ids.{Ids}
use Rattle.http_head.specs.Requests.{Asked}
use Rattle.http_reply.specs.declared.front.Front.{Front}
use Rattle.http_reply.specs.Replies.{last_chunk}
use Rattle.json_gateway.specs.declared.outcome.Outcome.{Outcome}
use Rattle.json_gateway.specs.declared.outcome.Settled.{Settled}
use Rattle.json_gateway.specs.Outcomes.{wire_response}
use Rattle.std.proofs.lemmas.List.{append-nil}
use Rattle.event_book.specs.Events.{Entry}
use Rattle.engine_lock.specs.Locked.{Caller}
use Rattle.http_loop.specs.declared.answering.Told.{Told}
use Rattle.http_loop.specs.declared.writing.Turn.{Turn}
use Rattle.http_loop.specs.declared.writing.Turn.TheVariants as turn
use Rattle.http_loop.specs.Answered.{AreMessages, IsAnswered, IsStream, IsStreamOf, IsTold, IsTurn, streamed}
use Rattle.http_loop.specs.Stepped.{AtOnce, EndsWith}
use Rattle.http_loop.specs.Texts.{IsSent, turn_of}
use Rattle.http_loop.specs.Turned.{MayHaveAfter, TurnsOnce, progress}
use Rattle.http_loop.proofs.Conns.{may_end, rest_of}
use Rattle.http_loop.proofs.Texts.{seen_as}
use Rattle.http_loop.proofs.Turns.{IsLastTurn}
use Rattle.http_connections.specs.Handing as handing
use Rattle.http_connections.specs.Handing.{Hands}
use Rattle.http_connections.specs.Lines as lines
use Rattle.http_connections.specs.Engines as engines
use Rattle.http_connections.specs.Engines.{Awaits, Gets}
use Rattle.http_connections.specs.Lines.{ByAClient, Known}
use Rattle.http_connections.proofs.Giving.{firsts, own_both, own_none, seen}
use Rattle.http_connections.proofs.Handed.{ended, from_same}

-- what the one who answers a connection knows of it, for which these events were made
abbrev pub known_of : List Entry → Hands → Known
known_of made s = record { front = s.client.reader.known; away = s.handed; made = made }

-- ---- how a reply is told, whose stream goes on elsewhere

-- the client does nothing meanwhile
messages_client : (n k : ℕ) (s t : Hands) (out : List ℕ) (r : Result Bool Front) → AreMessages Hands handing.Tells n k s out t r → t.client ≡ s.client
messages_client n _ s t out r (AreMessages.quiet k h sent) = absurd h
messages_client n _ s t _ r (AreMessages.more k x h later) = absurd h
messages_client n _ s t out _ (AreMessages.cut k x h sent) = absurd h
messages_client n _ s t _ _ (AreMessages.untold k h) = absurd h
messages_client n _ s t _ _ (AreMessages.away k h) = ap (λ (s : Hands). s.client) h
messages_client n _ s _ out r (AreMessages.spent sent) = refl

told_client : (w : Option ℕ) (x : Settled) (close : Bool) (s t : Hands) (out : List ℕ) (r : Result Bool Front) → IsTold Hands handing.Tells w x close s out t r → t.client ≡ s.client
told_client None x close s t out r h = ap (λ (s : Hands). s.client) h.0
told_client (Some n) x close s t out r h = by t out r h
  where
    by : (t : Hands) (out : List ℕ) (r : Result Bool Front) → IsStream Hands handing.Tells n (wire_response x).body s out t r → t.client ≡ s.client
    by _ out _ (IsStreamOf.headless sent) = refl
    by _ _ _ (IsStreamOf.uncreated out sent) = refl
    by t _ r (IsStreamOf.whole {out} later) = messages_client n _ s t out r later

-- a stream ends its connection
not_open : (n k : ℕ) (s t : Hands) (out : List ℕ) (r : Result Bool Front) → r ≡ Ok false → AreMessages Hands handing.Tells n k s out t r → ⊥
not_open n _ s t out r e (AreMessages.quiet k h sent) = absurd h
not_open n _ s t _ r e (AreMessages.more k x h later) = absurd h
not_open n _ s t out _ e (AreMessages.cut k x h sent) = absurd h
not_open n _ s t _ _ e (AreMessages.untold k h) = absurd h
not_open n _ s t _ _ e (AreMessages.away k h) = absurd (cc)
not_open n _ s _ out r e (AreMessages.spent sent) =
    let never : false ≡ true = (subst (λ (r : Result Bool Front). IsSent true last_chunk out r) e sent).0 in
    absurd (cc)

-- so behind a reply that leaves it open none goes on elsewhere that did not before
pub stays_here : (w : Option ℕ) (x : Settled) (close : Bool) (s t : Hands) (out : List ℕ) (r : Result Bool Front) → r ≡ Ok false → IsTold Hands handing.Tells w x close s out t r
    → t.handed ≡ s.handed
stays_here None x close s t out r e h = ap (λ (s : Hands). s.handed) h.0
stays_here (Some n) x close s t out r e h = by t out r e h
  where
    by : (t : Hands) (out : List ℕ) (r : Result Bool Front) → r ≡ Ok false → IsStream Hands handing.Tells n (wire_response x).body s out t r → t.handed ≡ s.handed
    by _ out _ e (IsStreamOf.headless sent) = absurd (cc)
    by _ _ _ e (IsStreamOf.uncreated out sent) = absurd (cc)
    by t _ r e (IsStreamOf.whole {out} later) = absurd (not_open n _ s t out r e later)

module _ (ids : Ids) (recorded : Bool) (At : ℕ → Type 0) (call : ℕ) where
  -- what answers it here
  abbrev pub ByHands : Hands → Asked → List ℕ → Hands → Result Bool Front → Type 0
  ByHands = IsAnswered Hands (AtOnce (handing.Answers ids recorded At)) handing.Tells (handing.Finishes ids)

  abbrev pub ByAny : Known → Asked → List ℕ → Known → Result Bool Front → Type 0
  ByAny = lines.Is ids recorded At call

  abbrev Tells : Known → ℕ → Told → Known → Type 0
  Tells = lines.Tells ids recorded At call

  module _ (m : List Entry) where
    messages : (n k : ℕ) (s t : Hands) (out : List ℕ) (r : Result Bool Front) → AreMessages Hands handing.Tells n k s out t r
        → AreMessages Known Tells n k (known_of m s) out (known_of m t) r
    messages n _ s t out r (AreMessages.quiet k h sent) = absurd h
    messages n _ s t _ r (AreMessages.more k x h later) = absurd h
    messages n _ s t out _ (AreMessages.cut k x h sent) = absurd h
    messages n _ s t _ _ (AreMessages.untold k h) = absurd h
    messages n _ s t _ _ (AreMessages.away k h) = AreMessages.away k (ap (known_of m) h)
    messages n _ s _ out r (AreMessages.spent sent) = AreMessages.spent sent

    is_told : (w : Option ℕ) (x : Settled) (close : Bool) (s t : Hands) (out : List ℕ) (r : Result Bool Front) → IsTold Hands handing.Tells w x close s out t r
        → IsTold Known Tells w x close (known_of m s) out (known_of m t) r
    is_told None x close s t out r h = (ap (known_of m) h.0, h.1)
    is_told (Some n) x close s t out r h = by t out r h
      where
        by : (t : Hands) (out : List ℕ) (r : Result Bool Front) → IsStream Hands handing.Tells n (wire_response x).body s out t r
            → IsStream Known Tells n (wire_response x).body (known_of m s) out (known_of m t) r
        by _ out _ (IsStreamOf.headless sent) = IsStreamOf.headless sent
        by _ _ _ (IsStreamOf.uncreated out sent) = IsStreamOf.uncreated out sent
        by t _ r (IsStreamOf.whole {out} later) = IsStreamOf.whole (messages n _ s t out r later)

    finishes : (s t : Hands) (w : Option ℕ) → s.client.about ≡ call → handing.Finishes ids s w t → (g : Gets s.client t.client)
        → lines.Finishes ids recorded At call (known_of m s) w (known_of (m ++ g.own) t)
    finishes s t w about f g = by s.handed refl f
      where
        by : (h : Option ℕ) → h ≡ s.handed → MatchOption h (engines.Finishes ids s.client w t.client × (t.handed ≡ None)) (λ n. t ≡ s)
            → MatchOption h (ByAClient call (λ c d. engines.Finishes ids c w d) (known_of m s) (known_of (m ++ g.own) t)) (λ n. known_of (m ++ g.own) t ≡ known_of m s)
        by None e f = record {
          client = s.client;
          then = t.client;
          does = f.0;
          knows = ([], append-nil s.client.reader.known);
          about = about;
          gets = g;
          learns = λ i. record { front = t.client.reader.known; away = (f.1 ∙ e) i; made = m ++ g.own };
        }
        by (Some n) e f =
            let none : m ++ g.own ≡ m = ap (λ (o : List Entry). m ++ o) (own_none s.client t.client g (ap (λ (s : Hands). seen s.client) f)) ∙ append-nil m in
            λ i. known_of (none i) (f i)

    -- what is left behind an outcome
    pub ends : (o : Outcome) (close : Bool) (s t : Hands) (out : List ℕ) (r : Result Bool Front) → s.client.about ≡ call
        → EndsWith Hands handing.Tells (handing.Finishes ids) o close s out t r → (g : Gets s.client t.client)
        → EndsWith Known Tells (lines.Finishes ids recorded At call) o close (known_of m s) out (known_of (m ++ g.own) t) r
    ends o close s t out r about e g =
        let same = told_client (streamed o.settled o.watch) o.settled close s e.written out r e.told in
        record {
          written = known_of m e.written;
          told = is_told (streamed o.settled o.watch) o.settled close s e.written out r e.told;
          finishes = finishes e.written t o.watch (ap (λ (c : Caller). c.about) same ∙ about) e.finishes (from_same e.written.client s.client t.client same g);
        }

  -- a finished reply leaves nothing elsewhere that was not
  pub finishes_here : (s t : Hands) (w : Option ℕ) → s.handed ≡ None → handing.Finishes ids s w t → t.handed ≡ None
  finishes_here s t w here f = by s.handed f
    where
      by : (h : Option ℕ) → MatchOption h (engines.Finishes ids s.client w t.client × (t.handed ≡ None)) (λ n. t ≡ s) → t.handed ≡ None
      by None f = f.1
      by (Some n) f = ap (λ (s : Hands). s.handed) f ∙ here

  -- and leaves its connection open only with no stream elsewhere
  pub ends_open : (o : Outcome) (close : Bool) (s t : Hands) (out : List ℕ) (r : Result Bool Front) → s.handed ≡ None → r ≡ Ok false
      → EndsWith Hands handing.Tells (handing.Finishes ids) o close s out t r → t.handed ≡ None
  ends_open o close s t out r none e h = finishes_here h.written t o.watch
      (stays_here (streamed o.settled o.watch) o.settled close s h.written out r e h.told ∙ none) h.finishes

  -- ---- a request

  module _ (k : Known) (s : Hands) (knows : IsPrefix k.front s.client.reader.known) (here : k.away ≡ s.handed) (about : s.client.about ≡ call) where
    pub answered : (t : Hands) (a : Asked) (out : List ℕ) (r : Result Bool Front) → ByHands s a out t r → (g : Gets s.client t.client)
        → ByAny k a out (known_of (k.made ++ g.own) t) r
    answered t a out r d g =
        let h = d.answers.0 in
        let first = firsts ids recorded At ⊤ s.client d.done.client a h.submitted h.answers in
        let made = k.made ++ first.own in
        let told : EndsWith Hands handing.Tells (handing.Finishes ids) d.outcome a.close d.done out t r = record { written = d.written; told = d.told; finishes = d.finishes } in
        let last = ended ids recorded At d.outcome a.close d.done t out r told in
        let left = ends made d.outcome a.close d.done t out r (first.about ∙ about) told last in
        subst (λ (m : List Entry). ByAny k a out (known_of m t) r)
        (append_assoc k.made first.own last.own ∙ ap (λ (o : List Entry). k.made ++ o) (sym (own_both s.client d.done.client t.client g first last)))
        (record {
          outcome = d.outcome;
          done = known_of made d.done;
          written = left.written;
          answers = record {
            submitted = h.submitted;
            told = known_of made d.done;
            first = record {
              client = s.client;
              then = d.done.client;
              does = h.answers;
              knows = knows;
              about = about;
              gets = first;
              learns = λ i. record { front = d.done.client.reader.known; away = (h.handed ∙ sym here) i; made = made };
            };
            awaits = subst (λ (o : Outcome). Awaits Known (lines.AreTrimmed ids recorded At call) h.submitted o (known_of made d.done) (known_of made d.done)) (sym h.outcome)
                (Awaits.at_once (ap (λ (o : Outcome). o.waits) (sym h.outcome) ∙ d.answers.1));
          };
          told = left.told;
          finishes = left.finishes;
        })

    -- a turn by which one was answered
    pub turns : (b : Bool) (t : Hands) (bytes left : List ℕ) (x : Result Turn Front) (out : List ℕ) → x ≡ turn_of (Ok b) → IsTurn Hands ByHands s bytes left t x out
        → (g : Gets s.client t.client) → IsTurn Known ByAny k bytes left (known_of (k.made ++ g.own) t) x out
    turns b t bytes left x out e (IsTurn.answered a r h i) g = IsTurn.answered a r h (answered t a out r i g)
    turns true _ bytes left _ _ e (IsTurn.ended n) g = absurd (cc)
    turns false _ bytes left _ _ e (IsTurn.ended n) g = absurd (cc)
    turns true _ bytes left _ _ e (IsTurn.within n) g = absurd (cc)
    turns false _ bytes left _ _ e (IsTurn.within n) g = absurd (cc)
    turns true _ bytes left _ out e (IsTurn.unanswered f r n i) g = absurd (cc)
    turns false _ bytes left _ out e (IsTurn.unanswered f r n i) g = absurd (cc)
    turns true _ bytes left _ _ e (IsTurn.unread) g = absurd (cc)
    turns false _ bytes left _ _ e (IsTurn.unread) g = absurd (cc)
    turns true _ bytes left _ _ e (IsTurn.unheld n) g = absurd (cc)
    turns false _ bytes left _ _ e (IsTurn.unheld n) g = absurd (cc)

    -- nothing was done
    none : (g : Gets s.client s.client) → k.made ≡ k.made ++ g.own
    none g = sym (ap (λ (o : List Entry). k.made ++ o) (own_none s.client s.client g refl) ∙ append-nil k.made)

    -- or by which one was, or none
    pub turns_any : (t : Hands) (bytes left : List ℕ) (x : Result Turn Front) (out : List ℕ) → IsTurn Hands ByHands s bytes left t x out → (g : Gets s.client t.client)
        → (later : Known) × (later.made ≡ k.made ++ g.own) × IsTurn Known ByAny k bytes left later x out
    turns_any t bytes left _ out (IsTurn.answered a r h i) g = (known_of (k.made ++ g.own) t, refl, IsTurn.answered a r h (answered t a out r i g))
    turns_any _ bytes left _ _ (IsTurn.ended n) g = (k, none g, IsTurn.ended n)
    turns_any _ bytes left _ _ (IsTurn.within n) g = (k, none g, IsTurn.within n)
    turns_any _ bytes left _ out (IsTurn.unanswered f r n i) g = (k, none g, IsTurn.unanswered f r n i)
    turns_any _ bytes left _ _ (IsTurn.unread) g = (k, none g, IsTurn.unread)
    turns_any _ bytes left _ _ (IsTurn.unheld n) g = (k, none g, IsTurn.unheld n)

    -- where it stays open no stream goes on elsewhere
    pub more_here : (t : Hands) (bytes left : List ℕ) (x : Result Turn Front) (out : List ℕ) → s.handed ≡ None → x ≡ Ok turn.More
        → IsTurn Hands ByHands s bytes left t x out → t.handed ≡ None
    more_here t bytes left _ out none e (IsTurn.answered a (Ok true) h i) = absurd (cc)
    more_here t bytes left _ out none e (IsTurn.answered a (Ok false) h i) = finishes_here i.written t i.outcome.watch
        (stays_here (streamed i.outcome.settled i.outcome.watch) i.outcome.settled a.close i.done i.written out (Ok false) refl i.told ∙ (i.answers.0.handed ∙ none)) i.finishes
    more_here t bytes left _ out none e (IsTurn.answered a (Err f) h i) = absurd (cc)
    more_here _ bytes left _ _ none e (IsTurn.ended n) = absurd (cc)
    more_here _ bytes left _ _ none e (IsTurn.within n) = absurd (cc)
    more_here _ bytes left _ out none e (IsTurn.unanswered f r n i) = absurd (cc)
    more_here _ bytes left _ _ none e (IsTurn.unread) = absurd (cc)
    more_here _ bytes left _ _ none e (IsTurn.unheld n) = absurd (cc)

    -- ---- the same, by what the reader gives

    module _ (left left' : Option (List ℕ)) (p q : List ℕ) (c c' : Option (List ℕ)) (t : Hands) (g : Gets s.client t.client) where
      pub once : (b : Bool) (x : Result Turn Front) → x ≡ turn_of (Ok b) → TurnsOnce Hands ByHands (progress s left p c) (progress t left' q c') x
          → TurnsOnce Known ByAny (progress k left p c) (progress (known_of (k.made ++ g.own) t) left' q c') x
      once b x e h = record {
        came = h.came;
        gave = h.gave;
        turn = seen_as c c' (λ out. (later : List ℕ) → MayHaveAfter left' x later → IsTurn Hands ByHands s (p ++ (h.came ++ later)) (q ++ later) t x out)
            (λ out. (later : List ℕ) → MayHaveAfter left' x later → IsTurn Known ByAny k (p ++ (h.came ++ later)) (q ++ later) (known_of (k.made ++ g.own) t) x out)
            (λ out f later m. turns b t (p ++ (h.came ++ later)) (q ++ later) x out e (f later m) g) h.turn;
      }

      -- behind a turn that ends the connection one thing alone may come
      only : (x : Result Turn Front) (later : List ℕ) → IsLastTurn x → MayHaveAfter left' x later → later ≡ rest_of left'
      only x later l m = by left' x l m
        where
          by : (d : Option (List ℕ)) (x : Result Turn Front) → IsLastTurn x → MayHaveAfter d x later → later ≡ rest_of d
          by (Some xs) x l m = m
          by None (Ok turn.More) l m = absurd l
          by None (Ok turn.Last) l m = m
          by None (Ok turn.End) l m = m
          by None (Err f) l m = m

      pub once_last : (x : Result Turn Front) → IsLastTurn x → TurnsOnce Hands ByHands (progress s left p c) (progress t left' q c') x
          → (later : Known) × (later.made ≡ k.made ++ g.own) × TurnsOnce Known ByAny (progress k left p c) (progress later left' q c') x
      once_last x l h =
          let found = turns_any t (p ++ (h.came ++ rest_of left')) (q ++ rest_of left') x h.turn.out (h.turn.are (rest_of left') (may_end left' x)) g in (
            found.0,
            found.1,
            record {
              came = h.came;
              gave = h.gave;
              turn = record {
                out = h.turn.out;
                wrote = h.turn.wrote;
                are = λ later m. subst (λ (z : List ℕ). IsTurn Known ByAny k (p ++ (h.came ++ z)) (q ++ z) found.0 x h.turn.out) (sym (only x later l m)) found.2;
              };
            },
          )

      pub open_here : (x : Result Turn Front) → s.handed ≡ None → x ≡ Ok turn.More → TurnsOnce Hands ByHands (progress s left p c) (progress t left' q c') x → t.handed ≡ None
      open_here x none e h = more_here t (p ++ (h.came ++ rest_of left')) (q ++ rest_of left') x h.turn.out none e (h.turn.are (rest_of left') (may_end left' x))
