-- How far a connection has come, by one thing more.
use Rattle.std.proofs.Common.{◌≡◌, inl, inr, ◌<◌, ℕ, ◌+◌, List, [], ◌++◌, Bool, true, false, Option, None, Some, Result, Ok, Err, refl, sym, ◌∙◌, ap, subst}
use Rattle.std.specs.Io.KnownBytes.{Appends}
use Rattle.std.proofs.lemmas.List.{append-nil}
use mathlib.Core.List.{IsPrefix}
use Rattle.kv_model.specs.declared.ids.Ids.{Ids}
use Rattle.http_head.specs.Requests.{Asked}
use Rattle.http_reply.specs.declared.front.Front.{Front}
use Rattle.http_reply.specs.declared.front.Front.TheVariants as front
use Rattle.std.specs.Prelude.{IfErr}
use Rattle.event_book.specs.Events.{Entry}
use Rattle.event_book.proofs.Prefixes.{prefix_trans}
use Rattle.engine_lock.specs.Locked.{naming}
use Rattle.http_loop.specs.declared.stepping.Step.{Step}
use Rattle.http_loop.specs.declared.stepping.Step.TheVariants as step
use Rattle.http_loop.specs.declared.stepping.Waiting.{Waiting as Pending}
use Rattle.http_loop.specs.declared.writing.Turn.{Turn}
use Rattle.http_loop.specs.declared.writing.Turn.TheVariants as turn
use Rattle.http_loop.specs.Answered.{Conn}
use Rattle.http_loop.specs.Stepped.{ReadsOn, Steps, Waits}
use Rattle.http_loop.specs.Texts.{Grows}
use Rattle.http_loop.specs.Turned.{Progress, Serves, SoFar, TurnsOnce, progress}
use Rattle.http_loop.proofs.Conns.{end, failed, gave_none, last, on, reads_on}
use Rattle.http_loop.proofs.Texts.{wrote_more}
use Rattle.http_loop.proofs.Turns.{turns}
use Rattle.http_connections.specs.Handing as handing
use Rattle.http_connections.specs.Handing.{Hands}
use Rattle.http_connections.specs.Lines as lines
use Rattle.http_connections.specs.Engines.{Gets}
use Rattle.http_connections.specs.Lines.{Ended, Goes, Hangs, IsBehind, Known, Lives, Waiting, sight, stage_of}
use Rattle.http_connections.specs.declared.awaiting.Trimming.{Trimming}
use Rattle.http_connections.specs.declared.life.Stage.{Stage}
use Rattle.http_connections.specs.declared.life.Stage.TheVariants as stage
use Rattle.http_connections.proofs.Giving.{own_none, seen}
use Rattle.http_connections.proofs.Handed as handed
use Rattle.http_connections.proofs.Handed.{named}
use Rattle.http_connections.proofs.Talks.{ByAny, ByHands, known_of, once, once_last, open_here}

module _ (ids : Ids) (recorded : Bool) (At : ℕ → Type 0) (call : ℕ) (begun : Progress Known) where
  abbrev Is : Known → Asked → List ℕ → Known → Result Bool Front → Type 0
  Is = ByAny ids recorded At call

  -- ---- nothing was done

  -- the client learnt of more
  pub learns : (known later made : List Entry) (left : Option (List ℕ)) (pending : List ℕ) (wrote : Option (List ℕ)) (x : Stage) → IsPrefix known later
      → Lives ids recorded At call begun known made left pending wrote x → Lives ids recorded At call begun later made left pending wrote x
  learns known later made left pending wrote stage.Reading p h = record {
    count = h.count;
    knows = h.knows;
    so_far = h.so_far;
    here = h.here;
    within = prefix_trans h.knows.front known later h.within p;
    all = h.all;
  }
  learns known later made left pending wrote (stage.Trimming x) p h = record {
    count = h.count;
    before = h.before;
    so_far = h.so_far;
    submitted = h.submitted;
    first = h.first;
    waits = h.waits;
    revision = h.revision;
    knows = h.knows;
    steps = h.steps;
    here = h.here;
    within = prefix_trans h.knows.front known later h.within p;
    all = h.all;
  }
  learns known later made left pending wrote (stage.Streaming n) p h = h
  learns known later made left pending wrote stage.Closing p h = h

  grows_on : (a b c : Option (List ℕ)) (Are : List ℕ → Type 0) → Grows a b Are → Appends b c [] → Grows a c Are
  grows_on a b c Are g h = record {
    out = g.out;
    wrote = subst (Appends a c) (append-nil g.out) (wrote_more a b c g.out [] g.wrote h);
    are = g.are;
  }

  serves_on : (c c' : Option (List ℕ)) → Appends c c' [] → (most : ℕ) (k : Known) (r : Result ℕ Front) → Serves Known Is most begun c k r → Serves Known Is most begun c' k r
  serves_on c c' w most k r s = by begun.left s
    where
      by : (left : Option (List ℕ)) → Serves Known Is most (record begun { left = left }) c k r → Serves Known Is most (record begun { left = left }) c' k r
      by None s = (s.0, grows_on begun.wrote c c' (λ out. Conn Known Is begun.state (begun.pending ++ s.0) most out k r) s.1 w)
      by (Some xs) s = grows_on begun.wrote c c' (λ out. Conn Known Is begun.state (begun.pending ++ xs) most out k r) s w

  -- some of what is to go out went out
  pub sent : (known made : List Entry) (left : Option (List ℕ)) (p : List ℕ) (c c' : Option (List ℕ)) (x : Stage) → Appends c c' []
      → Lives ids recorded At call begun known made left p c x → Lives ids recorded At call begun known made left p c' x
  sent known made left p c c' stage.Reading w h = record {
    count = h.count;
    knows = h.knows;
    so_far = reads_on Known Is begun.left left begun.pending p h.count begun.wrote c begun.state h.knows h.so_far left p c' h.knows
        (record { came = []; gave = gave_none left; pending = sym (append-nil p); state = refl; quiet = w });
    here = h.here;
    within = h.within;
    all = h.all;
  }
  sent known made left p c c' (stage.Trimming x) w h = record {
    count = h.count;
    before = h.before;
    so_far = h.so_far;
    submitted = h.submitted;
    first = h.first;
    waits = record {
      came = h.waits.came;
      gave = h.waits.gave;
      request = h.waits.request;
      reads = h.waits.reads;
      answers = h.waits.answers;
      waits = h.waits.waits;
      close = h.waits.close;
      quiet = wrote_more h.before.wrote c c' [] [] h.waits.quiet w;
    };
    revision = h.revision;
    knows = h.knows;
    steps = h.steps;
    here = h.here;
    within = h.within;
    all = h.all;
  }
  sent known made left p c c' (stage.Streaming n) w h =
      (record { count = h.0.count; knows = h.0.knows; all = h.0.all; end = h.0.end; serves = λ most l. serves_on c c' w most h.0.knows h.0.end (h.0.serves most l) }, h.1)
  sent known made left p c c' stage.Closing w h =
      record { count = h.count; knows = h.knows; all = h.all; end = h.end; serves = λ most l. serves_on c c' w most h.knows h.end (h.serves most l) }

  -- ---- a turn

  -- a turn of it led from what it knew to what it knows
  module _ (n : ℕ) (k l : Known) (left left' : Option (List ℕ)) (p q : List ℕ) (c c' : Option (List ℕ)) (f : SoFar Known Is n begun (progress k left p c)) (made : List Entry) (all : l.made ≡ made) where
    ends_by : (x : Result Turn Front) (r : Result ℕ Front) → ((most : ℕ) → n < most → Serves Known Is most begun c' l r) → Ended ids recorded At call begun made c'
    ends_by x r s = record { count = n; knows = l; all = all; end = r; serves = s }

    pub by_turn : (known : List Entry) (x : Result Turn Front) → IsPrefix l.front known → (x ≡ Ok turn.More → l.away ≡ None)
        → TurnsOnce Known Is (progress k left p c) (progress l left' q c') x → Lives ids recorded At call begun known made left' q c' (stage_of x l.away)
    by_turn known (Ok turn.More) within here y = record {
      count = n + 1;
      knows = l;
      so_far = on Known Is begun.left left begun.pending p n begun.wrote c begun.state k f left' q c' l turn.More refl (turns Known Is _ _ (Ok turn.More) y);
      here = here refl;
      within = within;
      all = all;
    }
    by_turn known (Ok turn.Last) within here y = by l.away refl
      where
        served : (most : ℕ) → n < most → Serves Known Is most begun c' l (Ok (n + 1))
        served most m = last Known Is begun.left left begun.pending p n begun.wrote c begun.state k f left' q c' l most turn.Last refl m (turns Known Is _ _ (Ok turn.Last) y)

        by : (a : Option ℕ) → l.away ≡ a → Lives ids recorded At call begun known made left' q c' (stage_of (Ok turn.Last) a)
        by None e = record { count = n; knows = l; all = all; end = Ok (n + 1); serves = served }
        by (Some m) e = (record { count = n; knows = l; all = all; end = Ok (n + 1); serves = served }, e)
    by_turn known (Ok turn.End) within here y = ends_by (Ok turn.End) (Ok n)
        (λ most m. end Known Is begun.left left begun.pending p n begun.wrote c begun.state k f left' q c' l most turn.End refl m (turns Known Is _ _ (Ok turn.End) y))
    by_turn known (Err e) within here y = ends_by (Err e) (Err e)
        (λ most m. failed Known Is begun.left left begun.pending p n begun.wrote c begun.state k f left' q c' l most e m (turns Known Is _ _ (Err e) y))

  module _ (s t : Hands) (about : s.client.about ≡ call) (none : s.handed ≡ None) (left left' : Option (List ℕ)) (p q : List ℕ) (c c' : Option (List ℕ)) (made : List Entry)
      (h : Waiting ids recorded At call begun s.client.reader.known made left p c) (g : Gets s.client t.client) where
    -- a read found no request whole
    pub reads : ReadsOn Hands (progress s left p c) (progress t left' q c') → Waiting ids recorded At call begun t.client.reader.known (made ++ g.own) left' q c'
    reads r = record {
      count = h.count;
      knows = h.knows;
      so_far = reads_on Known Is begun.left left begun.pending p h.count begun.wrote c begun.state h.knows h.so_far left' q c' h.knows
          (record { came = r.came; gave = r.gave; pending = r.pending; state = refl; quiet = r.quiet });
      here = h.here;
      within = subst (λ (x : Hands). IsPrefix h.knows.front x.client.reader.known) (sym r.state) h.within;
      all = h.all ∙ sym (ap (λ (o : List Entry). made ++ o) (own_none s.client t.client g (ap (λ (x : Hands). seen x.client) r.state)) ∙ append-nil made);
    }

    here : h.knows.away ≡ s.handed
    here = h.here ∙ sym none

    all : h.knows.made ++ g.own ≡ made ++ g.own
    all = ap (λ (m : List Entry). m ++ g.own) h.all

    -- a request was answered, or none is to come
    pub turned : (x : Result Turn Front) → TurnsOnce Hands (ByHands ids recorded At call) (progress s left p c) (progress t left' q c') x
        → Lives ids recorded At call begun t.client.reader.known (made ++ g.own) left' q c' (stage_of x t.handed)
    turned (Ok turn.More) y = by_turn h.count h.knows (known_of (h.knows.made ++ g.own) t) left left' p q c c' h.so_far (made ++ g.own) all t.client.reader.known (Ok turn.More)
        ([], append-nil _)
        (λ e. open_here ids recorded At call h.knows s h.within here about left left' p q c c' t g (Ok turn.More) none refl y)
        (once ids recorded At call h.knows s h.within here about left left' p q c c' t g false (Ok turn.More) refl y)
    turned (Ok turn.Last) y = by_turn h.count h.knows (known_of (h.knows.made ++ g.own) t) left left' p q c c' h.so_far (made ++ g.own) all t.client.reader.known (Ok turn.Last)
        ([], append-nil _)
        (λ e. absurd (cc)) (once ids recorded At call h.knows s h.within here about left left' p q c c' t g true (Ok turn.Last) refl y)
    turned (Ok turn.End) y =
        let z = once_last ids recorded At call h.knows s h.within here about left left' p q c c' t g (Ok turn.End) tt y in
        by_turn h.count h.knows z.0 left left' p q c c' h.so_far (made ++ g.own) (z.1 ∙ all) z.0.front (Ok turn.End) ([], append-nil _) (λ e. absurd (cc)) z.2
    turned (Err f) y =
        let z = once_last ids recorded At call h.knows s h.within here about left left' p q c c' t g (Err f) tt y in
        by_turn h.count h.knows z.0 left left' p q c c' h.so_far (made ++ g.own) (z.1 ∙ all) z.0.front (Err f) ([], append-nil _) (λ e. absurd (cc)) z.2

    -- a request was done whose answer waits
    pub waits : (w : Pending) → Waits Hands (handing.Answers ids recorded At) (progress s left p c) (progress t left' q c') w
        → (x : Trimming) → x.waiting ≡ w → x.revision ≡ t.revision → x.refusals ≡ 0
        → Hangs ids recorded At call begun t.client.reader.known (made ++ g.own) left' q c' x
    waits w y x e r z = record {
      count = h.count;
      before = progress h.knows left p c;
      so_far = h.so_far;
      submitted = y.answers.submitted;
      first = known_of (h.knows.made ++ g.own) t;
      waits = subst (λ (w : Pending). Waits Known (λ k a o later. lines.AnswersFirst ids recorded At call k a y.answers.submitted later × (o ≡ y.answers.submitted.outcome))
          (progress h.knows left p c) (progress (known_of (h.knows.made ++ g.own) t) left' q c') w) (sym e)
          (record {
            came = y.came;
            gave = y.gave;
            request = y.request;
            reads = y.reads;
            answers = (
              record {
                client = s.client;
                then = t.client;
                does = y.answers.answers;
                knows = h.within;
                about = about;
                gets = g;
                learns = λ i. record { front = t.client.reader.known; away = (y.answers.handed ∙ sym here) i; made = h.knows.made ++ g.own };
              },
              y.answers.outcome,
            );
            waits = y.waits;
            close = y.close;
            quiet = y.quiet;
          });
      revision = r ∙ y.answers.revision;
      knows = known_of (h.knows.made ++ g.own) t;
      steps = subst (λ (m : ℕ). lines.AreMade ids recorded At call (known_of (h.knows.made ++ g.own) t) m (known_of (h.knows.made ++ g.own) t)) (sym z) lines.AreMade.none;
      here = y.answers.handed ∙ none;
      within = ([], append-nil _);
      all = all;
    }

    -- ---- a step

    pub stepped : (y : Result Step Front) → Steps Hands (handing.Answers ids recorded At) handing.Tells (handing.Finishes ids) (progress s left p c) (progress t left' q c') y
        → IfErr y (λ f. f ≡ front.Read → ReadsOn Hands (progress s left p c) (progress t left' q c'))
        → (dry : Bool) (x : Stage) → IsBehind y dry t.handed t.revision x → Lives ids recorded At call begun t.client.reader.known (made ++ g.own) left' q c' x
    stepped (Ok (step.Turned u)) y on dry x e = subst (λ (x : Stage). Lives ids recorded At call begun t.client.reader.known (made ++ g.own) left' q c' x) (sym e) (turned (Ok u) y)
    stepped (Ok (step.Waits w)) y on dry stage.Reading e = absurd e
    stepped (Ok (step.Waits w)) y on dry (stage.Trimming x) e = waits w y x e.0 e.1 e.2
    stepped (Ok (step.Waits w)) y on dry (stage.Streaming n) e = absurd e
    stepped (Ok (step.Waits w)) y on dry stage.Closing e = absurd e
    stepped (Err f) y on dry x (inl e) = subst (λ (x : Stage). Lives ids recorded At call begun t.client.reader.known (made ++ g.own) left' q c' x) (sym e) (turned (Err f) y)
    stepped (Err f) y on dry x (inr e) = subst (λ (x : Stage). Lives ids recorded At call begun t.client.reader.known (made ++ g.own) left' q c' x) (sym e.2) (reads (on e.0))

-- the same, by which a connection began with its client, and whose reader and writer were counted
pub read : (ids : Ids) (recorded : Bool) (At : ℕ → Type 0) (call : ℕ) (old s t : Hands) → s ≡ record old { client = naming old.client call; handed = None }
    → (l l0 l1 l' : Option (List ℕ)) (p q : List ℕ) (c c0 c1 c' : Option (List ℕ)) → l0 ≡ l → c0 ≡ c → l' ≡ l1 → c' ≡ c1
    → (y : Result Step Front) → Steps Hands (handing.Answers ids recorded At) handing.Tells (handing.Finishes ids) (progress s l0 p c0) (progress t l1 q c1) y
    → IfErr y (λ f. f ≡ front.Read → ReadsOn Hands (progress s l0 p c0) (progress t l1 q c1))
    → (dry : Bool) (x : Stage) → IsBehind y dry t.handed t.revision x
    → Goes ids recorded At call old.client t.client (sight stage.Reading old.client.reader.known l p c) (sight x t.client.reader.known l' q c')
read ids recorded At call old s t e l l0 l1 l' p q c c0 c1 c' a b d f y steps on dry x is =
    let g = handed.stepped ids recorded At s t l0 l1 p q c0 c1 y steps in
    record {
      gets = named call old.client s.client t.client (ap (λ (s : Hands). s.client) e) g;
      goes = λ begun made h.
          subst (λ (z : Option (List ℕ)). Lives ids recorded At call begun t.client.reader.known (made ++ g.own) z q c' x) (sym d)
          (subst (λ (z : Option (List ℕ)). Lives ids recorded At call begun t.client.reader.known (made ++ g.own) l1 q z x) (sym f)
          (stepped ids recorded At call begun s t (ap (λ (s : Hands). s.client.about) e) (ap (λ (s : Hands). s.handed) e) l0 l1 p q c0 c1 made
          (subst (λ (z : Option (List ℕ)). Waiting ids recorded At call begun s.client.reader.known made z p c0) (sym a)
          (subst (λ (z : Option (List ℕ)). Waiting ids recorded At call begun s.client.reader.known made l p z) (sym b)
          (subst (λ (s : Hands). Waiting ids recorded At call begun s.client.reader.known made l p c) (sym e) h))) g y steps on dry x is));
    }
