-- What goes out of a stream over its whole life is just what the client's events tell its watch.
use Rattle.std.proofs.Common.{◌≡◌, ◌⊎◌, inl, inr, ℕ, ◌==◌, List, [], ◌∷◌, ◌++◌, Bool, true, false, Option, Some, refl, sym, ◌∙◌, ap, subst, if◌then◌else◌, true≢false, arith}
use Rattle.std.proofs.lemmas.Bool.Decides.{nat_tests}
use Rattle.std.proofs.lemmas.List.{append-nil}
use Rattle.std.specs.BTreeMap.{is_at}
use Rattle.std.specs.Map.{lookup, set_value}
use Rattle.std.specs.Ordering.{nat_cmp}
use Rattle.std.specs.Io.KnownBytes.{Appends, append_known}
use Rattle.kv_model.specs.declared.ids.Ids.{Ids}
use Rattle.event_book.specs.Events.{Event}
use Rattle.engine_lock.specs.Locked.{Caller}
use Rattle.http_reply.specs.Replies.{last_chunk}
use Rattle.watch_streams.specs.Lines.{LineState, aged, begun_at, closed}
use Rattle.watch_streams.specs.Lives.{AreWhole, IsWhole, Lives, Passes}
use Rattle.watch_streams.specs.Sets.{ChangesOne, SetState, TurnsOf, line_at}
use Rattle.watch_streams.specs.Turns.{Grows, Tells, bytes_of, is_cut}
use Rattle.watch_streams.specs.declared.turning.Turn.{Turn}
use Rattle.watch_streams.proofs.Exact.{exact_of, grows_aged, grows_same, known_longer, more_after, nothing_more, tells_both, tells_none, tells_one, turned_is}
use Rattle.watch_streams.proofs.Standing.{here_set, other_inserted, other_removed, other_set, same_key}

-- ---- over its life

whole_stays : (n : ℕ) (c : Caller) (l : LineState) → IsWhole n c l c l
whole_stays n c l = record { text = []; tells = tells_none n c; last = []; bytes = nothing_more (bytes_of l); behind = inl refl }

-- a last part that is nothing, or behind which nothing comes
last_moves : (a b last : List ℕ) → (last ≡ []) ⊎ (b ≡ []) → (a ++ last) ++ b ≡ (a ++ b) ++ last
last_moves a b last (inl e) =
    ap (λ z. (a ++ z) ++ b) e ∙ ap (λ z. z ++ b) (append-nil a) ∙ sym (append-nil (a ++ b)) ∙ ap (λ z. (a ++ b) ++ z) (sym e)
last_moves a b last (inr e) =
    ap (λ z. (a ++ last) ++ z) e ∙ append-nil (a ++ last) ∙ ap (λ z. z ++ last) (sym (append-nil a)) ∙ ap (λ z. (a ++ z) ++ last) (sym e)

whole_goes : (n : ℕ) (c d e : Caller) (l m k : LineState) (x : List ℕ) → IsWhole n c l d m → Tells n d x e → Grows m x k → IsWhole n c l e k
whole_goes n c d e l m k x p t g = record {
  text = p.text ++ x;
  tells = tells_both n c d e p.text x p.tells t;
  last = p.last;
  bytes = subst (Appends (bytes_of l) (bytes_of k)) (last_moves p.text x p.last (silent p.behind))
      (more_after (bytes_of l) (bytes_of m) (bytes_of k) (p.text ++ p.last) x p.bytes g.bytes);
  behind = on p.behind;
}
  where
    silent : (p.last ≡ []) ⊎ ((p.last ≡ last_chunk) × (m.ended ≡ true)) → (p.last ≡ []) ⊎ (x ≡ [])
    silent (inl h) = inl h
    silent (inr h) = inr (g.ended h.1).0

    on : (p.last ≡ []) ⊎ ((p.last ≡ last_chunk) × (m.ended ≡ true)) → (p.last ≡ []) ⊎ ((p.last ≡ last_chunk) × (k.ended ≡ true))
    on (inl h) = inl h
    on (inr h) = inr (h.0, (g.ended h.1).1)

-- its last chunk is to go out, where it had not ended
whole_ends : (n : ℕ) (c d : Caller) (l m : LineState) → m.ended ≡ false → IsWhole n c l d m
    → IsWhole n c l d (record m { unsent = m.unsent ++ last_chunk; ended = true })
whole_ends n c d l m goes p = record {
  text = p.text;
  tells = p.tells;
  last = last_chunk;
  bytes = subst (Appends (bytes_of l) (append_known m.wrote (m.unsent ++ last_chunk)))
      (ap (λ z. (p.text ++ z) ++ last_chunk) (none p.behind) ∙ ap (λ z. z ++ last_chunk) (append-nil p.text))
      (more_after (bytes_of l) (bytes_of m) (append_known m.wrote (m.unsent ++ last_chunk)) (p.text ++ p.last) last_chunk p.bytes
      (known_longer m.wrote m.unsent last_chunk));
  behind = inr (refl, refl);
}
  where
    none : (p.last ≡ []) ⊎ ((p.last ≡ last_chunk) × (m.ended ≡ true)) → p.last ≡ []
    none (inl h) = h
    none (inr h) = absurd (true≢false (sym h.1 ∙ goes))

whole_closed : (n : ℕ) (c d : Caller) (l m : LineState) → IsWhole n c l d m → IsWhole n c l d (closed m)
whole_closed n c d l m p = by m.ended refl
  where
    by : (b : Bool) → m.ended ≡ b → IsWhole n c l d (if b then m else record m { unsent = m.unsent ++ last_chunk; ended = true })
    by true e = p
    by false e = whole_ends n c d l m e p

whole_aged : (n : ℕ) (c d : Caller) (l m : LineState) → IsWhole n c l d m → IsWhole n c l d (aged m)
whole_aged n c d l m p = whole_goes n c d d l m (aged m) [] p (tells_none n d) (grows_aged m)

-- ---- what stands, and its life

same_number : (n : ℕ) → (n == n) ≡ true
same_number n = grind (arith, nat_tests)

-- the stream of the watch stands, and what went out of it is whole
abbrev Stands : ℕ → Caller → LineState → SetState → Type 0
Stands n c l s = (m : LineState) × (line_at n s ≡ Some m) × IsWhole n c l s.client m

abbrev at : ℕ → ℕ → Bool
at n k = is_at (nat_cmp n) k

abbrev set_at : ℕ → SetState → LineState → List (ℕ × LineState)
set_at n s l = set_value (at n) s.lines l

same_line : (o : Option LineState) (m k : LineState) → o ≡ Some m → o ≡ Some k → k ≡ m
same_line o m k p q = let e : Some m ≡ Some k = sym p ∙ q in cc

-- a change of one stream, that keeps what is whole
stands_changed : (change : LineState → LineState) → ((n : ℕ) (c d : Caller) (l m : LineState) → IsWhole n c l d m → IsWhole n c l d (change m))
    → (n : ℕ) (c : Caller) (l : LineState) (k : ℕ) (s t : SetState) → ChangesOne change k s t → Stands n c l s → Stands n c l t
stands_changed change keeps n c l k s t (ChangesOne.none gone same) h = subst (Stands n c l) (sym same) h
stands_changed change keeps n c l k s t (ChangesOne.one was stood client lines) (m, here, whole) = by (k == n) refl
  where
    at_client : (j : LineState) → IsWhole n c l s.client j → IsWhole n c l t.client j
    at_client j w = subst (λ (d : Caller). IsWhole n c l d j) (sym client) w

    by : (b : Bool) → (k == n) ≡ b → Stands n c l t
    by true e =
        let is : k ≡ n = same_key n k e in
        let stood' : lookup (at n) s.lines ≡ Some was = subst (λ (j : ℕ). lookup (at j) s.lines ≡ Some was) is stood in
        let lines' : lookup (at n) t.lines ≡ Some (change was) =
        ap (lookup (at n)) (lines ∙ ap (λ (j : ℕ). set_at j s (change was)) is) ∙ here_set (at n) s.lines was (change was) stood' in
        (change was, lines', at_client (change was) (keeps n c s.client l was (subst (IsWhole n c l s.client) (sym (same_line (line_at n s) m was here stood')) whole)))
    by false e = (m, ap (lookup (at n)) lines ∙ other_set n k e s.lines (change was) ∙ here, at_client m whole)

-- ---- a call, and all of them

stands_turned : (ids : Ids) (n : ℕ) (c : Caller) (l : LineState) (s t : SetState) (came : Turn) → is_cut came ≡ false → TurnsOf ids n s came t
    → Stands n c l s → Stands n c l t
stands_turned ids n c l s t came kept turn (m, here, whole) =
    let whole' : IsWhole n c l s.client turn.before = subst (IsWhole n c l s.client) (sym (same_line (line_at n s) m turn.before here turn.stood)) whole in
    let e = exact_of s.client t.client turn.before turn.after (is_cut came) kept (turned_is ids s.client turn.before came t.client turn.after turn.turned) in
    let own : (turn.before.number == n) ≡ true = ap (λ k. k == n) turn.number ∙ same_number n in (
      turn.after,
      ap (lookup (at n)) turn.lines ∙ here_set (at n) s.lines turn.before turn.after turn.stood,
      whole_goes n c s.client t.client l turn.before turn.after e.0 whole'
          (subst (λ (b : Bool). Tells n s.client (if b then e.0 else []) t.client) own (e.1 n)) e.2,
    )

-- the client's events tell nothing to this watch, and its stream stands as it was
stands_beside : (n : ℕ) (c : Caller) (l : LineState) (s t : SetState) → Tells n s.client [] t.client → line_at n t ≡ line_at n s
    → Stands n c l s → Stands n c l t
stands_beside n c l s t b same (m, here, whole) =
    (m, same ∙ here, whole_goes n c s.client t.client l m m [] whole b (grows_same m m refl))

stands_passed : (ids : Ids) (n : ℕ) (c : Caller) (l : LineState) (s t : SetState) → Passes ids n s t → Stands n c l s → Stands n c l t
stands_passed ids n c l s t (Passes.turns came kept turn) h = stands_turned ids n c l s t came kept turn h
stands_passed ids n c l s t (Passes.another k came other turn) h =
    let does = turned_is ids s.client turn.before came t.client turn.after turn.turned in
    stands_beside n c l s t
    (subst (λ (b : Bool). Tells n s.client (if b then does.told else []) t.client) (ap (λ j. j == n) turn.number ∙ other) (does.tells n))
    (ap (lookup (at n)) turn.lines ∙ other_set n k other s.lines turn.after) h
stands_passed ids n c l s t (Passes.begins k call wrote other e) h =
    stands_beside n c l s t (subst (λ (u : SetState). Tells n s.client [] u.client) (sym e) (tells_none n s.client))
    (ap (line_at n) e ∙ other_inserted n k other s.lines (begun_at k call wrote)) h
stands_passed ids n c l s t (Passes.ends k other go) h =
    stands_beside n c l s t (tells_one ids n s.client (Event.ending k) _ t.client go.ended.1)
    (ap (lookup (at n)) go.lines ∙ other_removed n k other s.lines) h
stands_passed ids n c l s t (Passes.refuses k r) h =
    stands_beside n c l s t (tells_one ids n s.client (Event.ending k) _ t.client r.ended.1) (ap (lookup (at n)) r.lines) h
stands_passed ids n c l s t (Passes.closes k change) h = stands_changed closed whole_closed n c l k s t change h
stands_passed ids n c l s t (Passes.ages k change) h = stands_changed aged whole_aged n c l k s t change h

pub whole_lives : AreWhole
whole_lives ids n old _ l stood Lives.stays = (l, stood, whole_stays n old.client l)
whole_lives ids n old new l stood (Lives.more {s} lives pass) = stands_passed ids n old.client l s new pass (whole_lives ids n old s l stood lives)
