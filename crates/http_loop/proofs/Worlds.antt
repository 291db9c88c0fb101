-- A connection that a core by itself answers is one of the worlds that it stands for.
use Rattle.std.proofs.Common.{◌≡◌, ◌≤◌, ◌<◌, ◌⊎◌, inl, inr, ℕ, ◌^◌, arith, List, ◌++◌, Bool, false, Option, None, Some, Result, Ok, refl, sym, subst}
use Rattle.kv_model.specs.Follows as follows
use Rattle.kv_model.specs.Headline.{Keeping, Keeps}
use Rattle.kv_model.specs.Watches.{deliver}
use Rattle.kv_model.specs.Wire.{WireEvent, wire_step}
use Rattle.kv_model.specs.World.{World}
use Rattle.store_laws.specs.Stands.{StandsFor}
use Rattle.request_core.specs.State.{CoreState, keeping_of}
use Rattle.http_head.specs.Requests.{Asked}
use Rattle.http_reply.specs.declared.front.Front.{Front}
use Rattle.json_gateway.specs.declared.outcome.Outcome.{Outcome}
use Rattle.json_gateway.specs.declared.outcome.Settled.{Settled}
use Rattle.json_gateway.specs.declared.outcome.Settled.TheVariants as settled
use Rattle.json_gateway.specs.Outcomes.{IsBare, body_of, is_accepted}
use Rattle.json_gateway.specs.Runs.{command_view, ending_view}
use Rattle.json_gateway.specs.Steps.{Steps}
use Rattle.http_loop.specs.declared.writing.Turn.{Turn}
use Rattle.http_loop.specs.declared.writing.Turn.TheVariants as turn
use Rattle.http_loop.specs.Served.{Answers, Finishes, Leaves, Stands, Tells, ids_alone}
use Rattle.http_loop.specs.Answered as any
use Rattle.http_loop.specs.Answered.{IsTold, most_messages, streamed}
use Rattle.http_loop.specs.Connections.{AreMessages, IsAnswered, IsOutcome, Standing, dropped, event_of, path_asked, with_world}
use Rattle.http_loop.specs.Turned as turns
use Rattle.http_loop.specs.Turned.{NotBegun, progress}
use Rattle.http_loop.proofs.Rests as rests
use Rattle.http_loop.proofs.Rests.{less_at, quiet_at, rest_most}

-- ---- one call

pub answers : (a : Asked) (path : List ℕ) (o : Outcome) (old new : CoreState) → path ≡ path_asked a
    → ((w : World) → StandsFor old.store w → Steps ids_alone w (WireEvent.post path a.body) (command_view o) old new) → IsBare o → new.store.revision < 2 ^ 64
    → Answers old a o new
answers a path o old new e steps bare fits = record {
  comes = λ s h.
      let k = subst (λ (p : List ℕ). Steps ids_alone s.world (WireEvent.post p a.body) (command_view o) old new) e (steps s.world h.world) in
      record {
        after = record { world = follows.after_outcome (wire_step ids_alone) s.world (event_of a) (command_view o); keeping = keeping_of new };
        stands = record { world = k.stands; keeping = refl };
        is = record {
          answers = k.answers;
          world = refl;
          keeps = subst (λ (q : Keeping). Keeps ids_alone s.world q (event_of a) (command_view o) (keeping_of new)) h.keeping k.keeps;
        };
      };
  bare = bare;
  fits = fits;
}

-- ---- a stream

messages : (n k : ℕ) (old new : CoreState) (out : List ℕ) (r : Result Bool Front) → any.AreMessages CoreState Tells n k old out new r
    → (s : Standing) → Stands old s → rests.rest s.world n ≤ k → Leaves new (λ t. AreMessages ids_alone n s out t r)
messages n _ old new out r (any.AreMessages.quiet k tells sent) s h l = record { after = s; stands = (tells s h).1; is = AreMessages.quiet (tells s h).0 sent }
messages n _ old new _ r (any.AreMessages.more {t} {out} k x tells later) s h l =
    let told = tells s h in
    let less = less_at ids_alone s.world n h.world.sound x.items told.0 in
    let m = messages n k t new out r later (with_world s (deliver s.world n).1) told.1 (omega (arith, l, less)) in
    record { after = m.after; stands = m.stands; is = AreMessages.told told.0 m.is }
messages n _ old new out _ (any.AreMessages.cut k x tells sent) s h l = record { after = with_world s (deliver s.world n).1; stands = (tells s h).1; is = AreMessages.unsent (tells s h).0 sent }
messages n _ old new _ _ (any.AreMessages.untold k tells) s h l = record { after = s; stands = subst (λ (x : CoreState). Stands x s) (sym tells) h; is = AreMessages.untold }
messages n _ old new _ _ (any.AreMessages.away k tells) s h l = absurd tells
messages n _ old _ out r (any.AreMessages.spent sent) s h l =
    record { after = s; stands = h; is = AreMessages.quiet (quiet_at ids_alone s.world n h.world.sound (omega (arith, l))) sent }

streams : (n : ℕ) (created : List ℕ) (old new : CoreState) (out : List ℕ) (r : Result Bool Front) → any.IsStream CoreState Tells n created old out new r
    → (s : Standing) → Stands old s → rests.rest s.world n ≤ most_messages → Leaves new (λ t. any.IsStreamOf Standing (AreMessages ids_alone n) created s out t r)
streams n created old _ out _ (any.IsStreamOf.headless sent) s h l = record { after = s; stands = h; is = any.IsStreamOf.headless sent }
streams n created old _ _ _ (any.IsStreamOf.uncreated out sent) s h l = record { after = s; stands = h; is = any.IsStreamOf.uncreated out sent }
streams n created old new _ r (any.IsStreamOf.whole {out} later) s h l =
    let m = messages n most_messages old new out r later s h l in
    record { after = m.after; stands = m.stands; is = any.IsStreamOf.whole m.is }

-- ---- a request

-- what a request is told, by how it ended
ended : (s t : Standing) (a : Asked) (done written new : CoreState) (x : Settled) (up watch : Option ℕ) (out : List ℕ) (r : Result Bool Front) → Stands done t
    → IsOutcome ids_alone s a (ending_view x up watch) t → (is_accepted x ≡ false → watch ≡ None) → ((n : ℕ) → rests.rest t.world n ≤ most_messages)
    → IsTold CoreState Tells (streamed x watch) x a.close done out written r → Finishes written watch new → Leaves new (λ u. IsAnswered ids_alone s a out u r)
ended s t a done written new (settled.Reply x) up None out r h o bare l told ends = record {
  after = t;
  stands = ends t (subst (λ (c : CoreState). Stands c t) (sym told.0) h);
  is = IsAnswered.by_reply (ending_view (settled.Reply x) up None) o refl told.1;
}
ended s t a done written new (settled.Reply x) up (Some n) out r h o bare l told ends =
    let m = streams n (body_of x.body) done written out r told t h (l n) in
    record { after = dropped (Some n) m.after; stands = ends m.after m.stands; is = IsAnswered.by_stream (ending_view (settled.Reply x) up (Some n)) n o refl m.is }
ended s t a done written new settled.Memory up watch out r h o bare l told ends = record {
  after = t;
  stands = subst (λ (w : Option ℕ). Stands new (dropped w t)) (bare refl) (ends t (subst (λ (c : CoreState). Stands c t) (sym told.0) h));
  is = IsAnswered.by_reply (ending_view settled.Memory up watch) o refl told.1;
}
ended s t a done written new (settled.Lost at) up watch out r h o bare l told ends = record {
  after = dropped watch t;
  stands = ends t (subst (λ (c : CoreState). Stands c t) (sym told.0) h);
  is = IsAnswered.by_reply (ending_view (settled.Lost at) up watch) o refl told.1;
}

answered : (old new : CoreState) (a : Asked) (out : List ℕ) (r : Result Bool Front) → any.IsAnswered CoreState Answers Tells Finishes old a out new r
    → (s : Standing) → Stands old s → Leaves new (λ t. IsAnswered ids_alone s a out t r)
answered old new a out r d s h =
    let o = d.answers.comes s h in
    ended s o.after a d.done d.written new d.outcome.settled d.outcome.raised d.outcome.watch out r o.stands o.is (λ e. (d.answers.bare e).1)
    (λ n. let m = rest_most o.after.world n in omega (arith, m, o.stands.world.revision_is, d.answers.fits)) d.told d.finishes

-- ---- a turn

turned : (old new : CoreState) (bytes left : List ℕ) (x : Result Turn Front) (out : List ℕ)
    → any.IsTurn CoreState (any.IsAnswered CoreState Answers Tells Finishes) old bytes left new x out → (s : Standing) → Stands old s
    → Leaves new (λ t. any.IsTurn Standing (IsAnswered ids_alone) s bytes left t x out)
turned old new bytes left _ out (any.IsTurn.answered a r x is) s h =
    let d = answered old new a out r is s h in record { after = d.after; stands = d.stands; is = any.IsTurn.answered a r x d.is }
turned old _ bytes left _ _ (any.IsTurn.ended x) s h = record { after = s; stands = h; is = any.IsTurn.ended x }
turned old _ bytes left _ _ (any.IsTurn.within x) s h = record { after = s; stands = h; is = any.IsTurn.within x }
turned old _ bytes left _ out (any.IsTurn.unanswered f r n x) s h = record { after = s; stands = h; is = any.IsTurn.unanswered f r n x }
turned old _ bytes left _ _ any.IsTurn.unread s h = record { after = s; stands = h; is = any.IsTurn.unread }
turned old _ bytes left _ _ (any.IsTurn.unheld x) s h = record { after = s; stands = h; is = any.IsTurn.unheld x }

-- ---- a connection

conns : (old new : CoreState) (bytes : List ℕ) (limit : ℕ) (out : List ℕ) (r : Result ℕ Front)
    → any.Conn CoreState (any.IsAnswered CoreState Answers Tells Finishes) old bytes limit out new r → (s : Standing) → Stands old s
    → Leaves new (λ t. any.Conn Standing (IsAnswered ids_alone) s bytes limit out t r)
conns old _ bytes _ _ _ any.Conn.at_limit s h = record { after = s; stands = h; is = any.Conn.at_limit }
conns old new bytes _ _ _ (any.Conn.more {t} {rest} {text} {out} {r} l x later) s h =
    let d = turned old t bytes rest (Ok turn.More) text x s h in
    let m = conns t new rest l out r later d.after d.stands in
    record { after = m.after; stands = m.stands; is = any.Conn.more l d.is m.is }
conns old new bytes _ out _ (any.Conn.last {rest} l x is e) s h =
    let d = turned old new bytes rest x out is s h in record { after = d.after; stands = d.stands; is = any.Conn.last l x d.is e }

pub serves : (left : Option (List ℕ)) (p : List ℕ) (limit : ℕ) (c c' : Option (List ℕ)) (old new : CoreState) (r : Result ℕ Front)
    → NotBegun old new c c' r ⊎ turns.Serves CoreState (any.IsAnswered CoreState Answers Tells Finishes) limit (progress old left p c) c' new r
    → (s : Standing) → Stands old s
    → NotBegun old new c c' r ⊎ Leaves new (λ t. turns.Serves Standing (IsAnswered ids_alone) limit (progress s left p c) c' t r)
serves left p limit c c' old new r (inl none) s h = inl none
serves None p limit c c' old new r (inr (came, g)) s h =
    let m = conns old new (p ++ came) limit g.out r g.are s h in
    inr (record { after = m.after; stands = m.stands; is = (came, record { out = g.out; wrote = g.wrote; are = m.is }) })
serves (Some left) p limit c c' old new r (inr g) s h =
    let m = conns old new (p ++ left) limit g.out r g.are s h in
    inr (record { after = m.after; stands = m.stands; is = record { out = g.out; wrote = g.wrote; are = m.is } })
