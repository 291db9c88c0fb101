-- A connection whose answer waits for trimming, by some steps of that, and by its end.
use Rattle.std.proofs.Common.{◌≡◌, ℕ, List, [], ◌++◌, Bool, true, false, Option, None, Some, Result, Ok, Err, refl, sym, ◌∙◌, ap, subst, append_assoc}
use Rattle.std.specs.Prelude.{⊤}
use Rattle.std.proofs.lemmas.List.{append-nil}
use Rattle.kv_model.specs.declared.ids.Ids.{Ids}
use Rattle.http_head.specs.Requests.{Asked}
use Rattle.http_reply.specs.declared.front.Front.{Front}
use Rattle.json_gateway.specs.declared.outcome.Outcome.{Outcome}
use Rattle.json_gateway.specs.declared.outcome.Settled.TheVariants as settled
use Rattle.event_book.specs.Events.{Entry}
use Rattle.engine_lock.specs.Locked.{Caller, naming}
use Rattle.http_loop.specs.declared.stepping.Waiting.{Waiting as Pending}
use Rattle.http_loop.specs.declared.writing.Turn.{Turn}
use Rattle.http_loop.specs.declared.writing.Turn.TheVariants as turn
use Rattle.http_loop.specs.Answered.{IsTold, IsTurn, streamed}
use Rattle.http_loop.specs.Stepped.{EndsWith, Waits}
use Rattle.http_loop.specs.Texts.{turn_of}
use Rattle.http_loop.specs.Turned.{MayHaveAfter, Progress, TurnsOnce, progress}
use Rattle.http_loop.proofs.Texts.{by_both}
use Rattle.http_connections.specs.Engines as engines
use Rattle.http_connections.specs.Engines.{Awaits, Gets, lost_answer}
use Rattle.http_connections.specs.Handing as handing
use Rattle.http_connections.specs.Handing.{Hands}
use Rattle.http_connections.specs.Lines as lines
use Rattle.http_connections.specs.Lines.{EndsWait, Goes, Hangs, Known, Lives, learnt, lost_wait, sight}
use Rattle.http_connections.specs.declared.awaiting.Trimming.{Trimming}
use Rattle.http_connections.specs.declared.life.Stage.{Stage}
use Rattle.http_connections.specs.declared.life.Stage.TheVariants as stage
use Rattle.http_connections.proofs.Giving.{both, enters}
use Rattle.http_connections.proofs.Giving.{made as steps_give}
use Rattle.http_connections.proofs.Handed.{named}
use Rattle.http_connections.proofs.Handed.{ended as handed_ended}
use Rattle.http_connections.proofs.Lives.{by_turn}
use Rattle.http_connections.proofs.Talks.{ByAny, ends, ends_open, known_of}

-- what may come behind a turn may come behind one that others follow
may_more : (left : Option (List ℕ)) (x : Result Turn Front) (later : List ℕ) → MayHaveAfter left x later → MayHaveAfter left (Ok turn.More) later
may_more (Some xs) x later m = m
may_more None x later m = tt

-- a turn that others follow left its connection open
left_open : (r : Result Bool Front) → turn_of r ≡ Ok turn.More → r ≡ Ok false
left_open (Ok true) e = absurd (cc)
left_open (Ok false) e = refl
left_open (Err f) e = absurd (cc)

module _ (ids : Ids) (recorded : Bool) (At : ℕ → Type 0) (call : ℕ) (begun : Progress Known) (left : Option (List ℕ)) (p : List ℕ) (w : Option (List ℕ)) (x : Trimming) where
  -- ---- some steps

  module _ (c d : Caller) (about : c.about ≡ call) (made : List Entry) (h : Hangs ids recorded At call begun c.reader.known made left p w x) where
    pub trims : (n : ℕ) → engines.AreMadeBehind ids c x.refusals n d → (g : Gets c d) → (y : Trimming) → y.waiting ≡ x.waiting → y.revision ≡ x.revision → y.refusals ≡ n
        → Hangs ids recorded At call begun d.reader.known (made ++ g.own) left p w y
    trims n m g y e f z = record {
      count = h.count;
      before = h.before;
      so_far = h.so_far;
      submitted = h.submitted;
      first = h.first;
      waits = subst (λ (v : Pending). Waits Known (λ k a o later. lines.AnswersFirst ids recorded At call k a h.submitted later × (o ≡ h.submitted.outcome)) h.before
          (progress h.first left p w) v) (sym e) h.waits;
      revision = f ∙ h.revision;
      knows = learnt h.knows g.own d;
      steps = subst (λ (k : ℕ). lines.AreMade ids recorded At call h.first k (learnt h.knows g.own d)) (sym z)
          (lines.AreMade.more h.steps (record { client = c; then = d; does = m; knows = h.within; about = about; gets = g; learns = refl }));
      here = h.here;
      within = ([], append-nil d.reader.known);
      all = ap (λ (m : List Entry). m ++ g.own) h.all;
    }

    waited : h.submitted.outcome.waits ≡ true
    waited = ap (λ (o : Outcome). o.waits) (sym h.waits.answers.1) ∙ h.waits.waits

    -- what is known then
    knows_then : (m : List Entry) (s : Hands) → s.client ≡ d → s.handed ≡ None → (from : Known) → from.away ≡ None → (own : List Entry) → m ≡ from.made ++ own
        → known_of m s ≡ learnt from own d
    knows_then m s e none from here own is = λ i. record { front = (e i).reader.known; away = (none ∙ sym here) i; made = is i }

    -- trimming is done
    pub done : (s : Hands) → s.client ≡ d → s.handed ≡ None → (from : Caller) (n : ℕ) → engines.AreMadeBehind ids c x.refusals n from → engines.Last ids from d
        → (g : Gets c from) (l : Gets from d)
        → Awaits Known (lines.AreTrimmed ids recorded At call) h.submitted h.submitted.outcome h.first (known_of ((h.knows.made ++ g.own) ++ l.own) s)
    done s e none from n m last g l = Awaits.behind waited (
      learnt h.knows g.own from,
      n,
      lines.AreMade.more h.steps (record { client = c; then = from; does = m; knows = h.within; about = about; gets = g; learns = refl }),
      record {
        client = from;
        then = d;
        does = last;
        knows = ([], append-nil from.reader.known);
        about = g.about ∙ about;
        gets = l;
        learns = knows_then ((h.knows.made ++ g.own) ++ l.own) s e none (learnt h.knows g.own from) h.here l.own refl;
      },
    )

    -- or it was given up
    pub given_up : (s : Hands) → s.client ≡ d → s.handed ≡ None → engines.AreMadeBehind ids c x.refusals 1000 d → (g : Gets c d)
        → Awaits Known (lines.AreTrimmed ids recorded At call) h.submitted (lost_answer h.submitted) h.first (known_of (h.knows.made ++ g.own) s)
    given_up s e none m g = Awaits.lost waited (subst (λ (k : Known). lines.AreMade ids recorded At call h.first 1000 k)
        (sym (knows_then (h.knows.made ++ g.own) s e none h.knows h.here g.own refl))
        (lines.AreMade.more h.steps (record { client = c; then = d; does = m; knows = h.within; about = about; gets = g; learns = refl })))

    pub lost_is : (lost_wait x.waiting x.revision).outcome ≡ lost_answer h.submitted
    lost_is = λ i. record (h.waits.answers.1 i) { settled = settled.Lost (h.revision i); waits = false }

  -- ---- and the reply

  module _ (known made : List Entry) (h : Hangs ids recorded At call begun known made left p w x) (s t : Hands) (about : s.client.about ≡ call) (none : s.handed ≡ None)
      (o : Outcome) (m : List Entry) (awaits : Awaits Known (lines.AreTrimmed ids recorded At call) h.submitted o h.first (known_of m s)) (c : Option (List ℕ)) (v : Pending) (outcome : v.outcome ≡ o)
      (close : v.close ≡ x.waiting.close) (g : Gets s.client t.client) (all : List Entry) (is_all : m ++ g.own ≡ all) where
    abbrev Is : Known → Asked → List ℕ → Known → Result Bool Front → Type 0
    Is = ByAny ids recorded At call

    answered : (out : List ℕ) (r : Result Bool Front) → EndsWith Hands handing.Tells (handing.Finishes ids) v.outcome v.close s out t r
        → Is h.before.state h.waits.request out (known_of (m ++ g.own) t) r
    answered out r e =
        let z = ends ids recorded At call m v.outcome v.close s t out r about e g in
        record {
          outcome = v.outcome;
          done = known_of m s;
          written = z.written;
          answers = record {
            submitted = h.submitted;
            told = h.first;
            first = h.waits.answers.0;
            awaits = subst (λ (o : Outcome). Awaits Known (lines.AreTrimmed ids recorded At call) h.submitted o h.first (known_of m s)) (sym outcome) awaits;
          };
          told = subst (λ (b : Bool). IsTold Known (lines.Tells ids recorded At call) (streamed v.outcome.settled v.outcome.watch) v.outcome.settled b (known_of m s) out z.written r)
              (close ∙ h.waits.close) z.told;
          finishes = z.finishes;
        }

    pub ended : (y : Stage) → EndsWait ids v s w t c y → Lives ids recorded At call begun t.client.reader.known all left p c y
    ended y e = subst (λ (y : Stage). Lives ids recorded At call begun t.client.reader.known all left p c y) (sym e.stage)
        (by_turn ids recorded At call begun h.count h.before.state (known_of (m ++ g.own) t) h.before.left left h.before.pending p h.before.wrote c h.so_far all is_all
        t.client.reader.known e.turned ([], append-nil t.client.reader.known) open_here turn)
      where
        open_here : e.turned ≡ Ok turn.More → t.handed ≡ None
        open_here m = ends_open ids recorded At call v.outcome v.close s t e.finished.wrote.out e.finished.ended none (left_open e.finished.ended (sym e.finished.is ∙ m)) e.finished.wrote.are

        turn : TurnsOnce Known Is h.before (progress (known_of (m ++ g.own) t) left p c) e.turned
        turn = record {
          came = h.waits.came;
          gave = h.waits.gave;
          turn = by_both h.before.wrote w c (λ out. out ≡ []) (λ out. EndsWith Hands handing.Tells (handing.Finishes ids) v.outcome v.close s out t e.finished.ended)
              (λ out. (later : List ℕ) → MayHaveAfter left e.turned later
              → IsTurn Known Is h.before.state (h.before.pending ++ (h.waits.came ++ later)) (p ++ later) (known_of (m ++ g.own) t) e.turned out)
              (λ a b none_out z later n. subst (λ (out : List ℕ). IsTurn Known Is h.before.state (h.before.pending ++ (h.waits.came ++ later)) (p ++ later)
              (known_of (m ++ g.own) t) e.turned out)
              (ap (λ a. a ++ b) (sym none_out))
              (subst (λ (r : Result Turn Front). IsTurn Known Is h.before.state (h.before.pending ++ (h.waits.came ++ later)) (p ++ later) (known_of (m ++ g.own) t) r b)
              (sym e.finished.is)
              (IsTurn.answered h.waits.request e.finished.ended (h.waits.reads later (may_more left e.turned later n)) (answered b e.finished.ended z))))
              (record { out = []; wrote = h.waits.quiet; are = refl }) e.finished.wrote;
        }

-- ---- the same, by which a connection began with its client

module _ (ids : Ids) (recorded : Bool) (At : ℕ → Type 0) (call : ℕ) (left : Option (List ℕ)) (p : List ℕ) (w : Option (List ℕ)) (x : Trimming)
    (old s s2 : Hands) (e : s ≡ record old { client = naming old.client call; handed = None }) (rest : s2 ≡ record s { client = s2.client }) where
  about : s.client.about ≡ call
  about = ap (λ (s : Hands). s.client.about) e

  none : s2.handed ≡ None
  none = ap (λ (s : Hands). s.handed) rest ∙ ap (λ (s : Hands). s.handed) e

  begins : s.client ≡ naming old.client call
  begins = ap (λ (s : Hands). s.client) e

  here : (begun : Progress Known) (made : List Entry) → Hangs ids recorded At call begun old.client.reader.known made left p w x
      → Hangs ids recorded At call begun s.client.reader.known made left p w x
  here begun made h = subst (λ (s : Hands). Hangs ids recorded At call begun s.client.reader.known made left p w x) (sym e) h

  pub by_left : (n : ℕ) → engines.AreMadeBehind ids s.client x.refusals n s2.client → (y : Trimming) → y.waiting ≡ x.waiting → y.revision ≡ x.revision → y.refusals ≡ n
      → Goes ids recorded At call old.client s2.client (sight (stage.Trimming x) old.client.reader.known left p w) (sight (stage.Trimming y) s2.client.reader.known left p w)
  by_left n m y f r z =
      let g = steps_give ids recorded At ⊤ x.refusals s.client s2.client n m in
      record {
        gets = named call old.client s.client s2.client begins g;
        goes = λ begun made h. trims ids recorded At call begun left p w x s.client s2.client about made (here begun made h) n m g y f r z;
      }

  module _ (t : Hands) (c : Option (List ℕ)) (y : Stage) where
    module _ (v : Pending) (f : EndsWait ids v s2 w t c y) where
      last_gets : Gets s2.client t.client
      last_gets = handed_ended ids recorded At v.outcome v.close s2 t f.finished.wrote.out f.finished.ended f.finished.wrote.are

    pub by_done : (from : Caller) (n : ℕ) (m : engines.AreMadeBehind ids s.client x.refusals n from) → engines.Last ids from s2.client → EndsWait ids x.waiting s2 w t c y
        → Goes ids recorded At call old.client t.client (sight (stage.Trimming x) old.client.reader.known left p w) (sight y t.client.reader.known left p c)
    by_done from n m last f =
        let g = steps_give ids recorded At ⊤ x.refusals s.client from n m in
        let l = enters ids from s2.client _ _ last.trims.enters in
        let k = last_gets x.waiting f in
        record {
          gets = named call old.client s.client t.client begins (both s.client from t.client g (both from s2.client t.client l k));
          goes = λ begun made h.
              let i = here begun made h in
              let all : ((i.knows.made ++ g.own) ++ l.own) ++ k.own ≡ made ++ (g.own ++ (l.own ++ k.own)) =
              ap (λ (m : List Entry). ((m ++ g.own) ++ l.own) ++ k.own) i.all
              ∙ (append_assoc (made ++ g.own) l.own k.own ∙ append_assoc made g.own (l.own ++ k.own)) in
              ended ids recorded At call begun left p w x s.client.reader.known made i s2 t (l.about ∙ (g.about ∙ about)) none i.submitted.outcome
              ((i.knows.made ++ g.own) ++ l.own)
              (done ids recorded At call begun left p w x s.client s2.client about made i s2 refl none from n m last g l) c x.waiting i.waits.answers.1 refl k
              (made ++ (g.own ++ (l.own ++ k.own))) all y f;
        }

    pub by_lost : (v : Pending) → v ≡ lost_wait x.waiting x.revision → engines.AreMadeBehind ids s.client x.refusals 1000 s2.client → EndsWait ids v s2 w t c y
        → Goes ids recorded At call old.client t.client (sight (stage.Trimming x) old.client.reader.known left p w) (sight y t.client.reader.known left p c)
    by_lost v is m f =
        let g = steps_give ids recorded At ⊤ x.refusals s.client s2.client 1000 m in
        let k = last_gets v f in
        record {
          gets = named call old.client s.client t.client begins (both s.client s2.client t.client g k);
          goes = λ begun made h.
              let i = here begun made h in
              ended ids recorded At call begun left p w x s.client.reader.known made i s2 t (g.about ∙ about) none (lost_answer i.submitted) (i.knows.made ++ g.own)
              (given_up ids recorded At call begun left p w x s.client s2.client about made i s2 refl none m g) c v
              (ap (λ (v : Pending). v.outcome) is ∙ lost_is ids recorded At call begun left p w x s.client s2.client about made i) (ap (λ (v : Pending). v.close) is) k
              (made ++ (g.own ++ k.own)) (ap (λ (m : List Entry). (m ++ g.own) ++ k.own) i.all ∙ append_assoc made g.own k.own) y f;
        }
