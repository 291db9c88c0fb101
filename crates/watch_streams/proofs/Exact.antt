-- What goes out by a turn is just what the client's events tell the watch.
use Rattle.std.proofs.Common.{◌≡◌, ◌⊎◌, inl, inr, ℕ, ◌==◌, List, [], ◌∷◌, ◌++◌, take, drop, length, ◌≤◌, Bool, true, false, Option, None, Some, Result, Ok, Err, refl, sym, ◌∙◌, ap, subst, append_assoc, if◌then◌else◌, true≢false}
use Rattle.std.proofs.lemmas.List.{append-nil, take-append-drop}
use Rattle.std.specs.Io.KnownBytes.{Appends, Keeps, append_known}
use Rattle.kv_model.specs.declared.ids.Ids.{Ids}
use Rattle.kv_model.specs.Follows.Outcome.{memory, said}
use Rattle.kv_model.specs.Wire.{WireOutcome, WireTold}
use Rattle.event_book.specs.Events.{Entry, Event, entry}
use Rattle.event_book.proofs.Giving.{adds_one, gives_both, shows_none}
use Rattle.engine_lock.specs.Entering.{EntersAlone}
use Rattle.engine_lock.specs.Locked.{Caller}
use Rattle.http_reply.specs.Replies.{chunk, last_chunk}
use Rattle.watch_streams.specs.Lines.{LineState, Sends, aged, is_out, is_stale}
use Rattle.watch_streams.specs.Streams.{Asks, TellsNext}
use Rattle.watch_streams.specs.Turns.{Goes, Grows, IsExact, SentIs, Steps, Tells, TellsOnly, Turned, bytes_of, chunk_of, goes_out, goes_out_of, is_cut, most_looks, unsent_turn}
use Rattle.watch_streams.specs.declared.telling.Next.{Next}
use Rattle.watch_streams.specs.declared.telling.Next.TheVariants as next
use Rattle.watch_streams.specs.declared.turning.Turn.{Turn}
use Rattle.watch_streams.specs.declared.turning.Turn.TheVariants as turn

-- ---- known bytes

pub nothing_more : (a : Option (List ℕ)) → Appends a a []
nothing_more None = tt
nothing_more (Some xs) = sym (append-nil xs)

pub more_after : (a b c : Option (List ℕ)) (x y : List ℕ) → Appends a b x → Appends b c y → Appends a c (x ++ y)
more_after None b c x y p q = tt
more_after (Some a) None c x y p q = absurd p
more_after (Some a) (Some b) None x y p q = absurd q
more_after (Some a) (Some b) (Some c) x y p q = q ∙ ap (λ z. z ++ y) p ∙ append_assoc a x y

-- what was to go out, and then has
known_more : (a : Option (List ℕ)) (x : List ℕ) → Appends (append_known a []) (append_known a x) x
known_more None x = tt
known_more (Some a) x = ap (λ z. z ++ x) (sym (append-nil a))

known_sent : (a b : Option (List ℕ)) (n : ℕ) (x : List ℕ) → Appends a b (take n x) → Appends (append_known a x) (append_known b (drop n x)) []
known_sent None b n x p = tt
known_sent (Some a) None n x p = absurd p
known_sent (Some a) (Some b) n x p =
    ap (λ z. z ++ drop n x) p ∙ append_assoc a (take n x) (drop n x) ∙ ap (λ z. a ++ z) (take-append-drop n x) ∙ sym (append-nil (a ++ x))

pub known_longer : (a : Option (List ℕ)) (x y : List ℕ) → Appends (append_known a x) (append_known a (x ++ y)) y
known_longer None x y = tt
known_longer (Some a) x y = sym (append_assoc a x y)

known_kept : (a b : Option (List ℕ)) (x : List ℕ) → Keeps a b → Appends (append_known a x) (append_known b x) []
known_kept None b x p = tt
known_kept (Some a) None x p = absurd p
known_kept (Some a) (Some b) x p = ap (λ z. z ++ x) p ∙ sym (append-nil (a ++ x))

-- ---- what the events of a client tell

goes_out_both : (n : ℕ) (xs ys : List Entry) → goes_out n (xs ++ ys) ≡ goes_out n xs ++ goes_out n ys
goes_out_both n [] ys = refl
goes_out_both n (x ∷ xs) ys = ap (λ z. goes_out_of n x ++ z) (goes_out_both n xs ys) ∙ sym (append_assoc (goes_out_of n x) (goes_out n xs) (goes_out n ys))

pub tells_none : (n : ℕ) (c : Caller) → Tells n c [] c
tells_none n c = record {
  more = [];
  gives = shows_none c.holder c.holder (record { between = []; others = refl; grows = sym (append-nil c.holder.front); number = refl });
  out = refl;
}

pub tells_both : (n : ℕ) (c d e : Caller) (x y : List ℕ) → Tells n c x d → Tells n d y e → Tells n c (x ++ y) e
tells_both n c d e x y p q = record {
  more = p.more ++ q.more;
  gives = gives_both c.holder d.holder e.holder p.more q.more p.gives q.gives;
  out = goes_out_both n p.more q.more ∙ (λ i. p.out i ++ q.out i);
}

pub tells_one : (ids : Ids) (n : ℕ) (c : Caller) (e : Event) (o : WireOutcome) (d : Caller) → EntersAlone ids c e o d
    → Tells n c (goes_out n (entry c.holder.number c.about e o ∷ [])) d
tells_one ids n c e o d a = record {
  more = entry c.holder.number c.about e o ∷ [];
  gives = adds_one ids c.holder c.about e o d.holder a.0.adds;
  out = refl;
}

-- ---- and no other watch

if_none : (b : Bool) (x : List ℕ) → x ≡ (if b then x else x)
if_none true x = refl
if_none false x = refl

if_both : (b : Bool) (x y : List ℕ) → (if b then x else []) ++ (if b then y else []) ≡ (if b then x ++ y else [])
if_both true x y = refl
if_both false x y = refl

only_none : (k : ℕ) (c : Caller) → TellsOnly k c [] c
only_none k c n = subst (λ z. Tells n c z c) (if_none (k == n) []) (tells_none n c)

only_both : (k : ℕ) (c d e : Caller) (x y : List ℕ) → TellsOnly k c x d → TellsOnly k d y e → TellsOnly k c (x ++ y) e
only_both k c d e x y p q n = subst (λ z. Tells n c z e) (if_both (k == n) x y) (tells_both n c d e _ _ (p n) (q n))

asked : (ids : Ids) (c : Caller) (l : LineState) (o : WireOutcome) (d : Caller) → Asks ids c l o d → TellsOnly l.number c (chunk_of o) d
asked ids c l o d a n = subst (λ z. Tells n c z d) (append-nil (if l.number == n then chunk_of o else [])) (tells_one ids n c (Event.delivery l.number) o d a)

-- ---- how the bytes of a stream grow

pub grows_same : (l m : LineState) → m ≡ l → Grows l [] m
grows_same l m is = subst (Grows l []) (sym is) (record { bytes = nothing_more (bytes_of l); number = refl; ended = λ was. (refl, was) })

looked : (b : Bool) (l : LineState) (looks : ℕ) → Grows l [] (if b then l else record l { looks = looks })
looked true l looks = grows_same l l refl
looked false l looks = record { bytes = nothing_more (bytes_of l); number = refl; ended = λ was. (refl, was) }

pub grows_aged : (l : LineState) → Grows l [] (aged l)
grows_aged l = looked (is_out l) l _

grows_told : (l m : LineState) (x : List ℕ) (ends : Bool) → l.unsent ≡ [] → l.ended ≡ false → m ≡ record l { unsent = x; ended = ends } → Grows l x m
grows_told l m x ends out goes is = subst (Grows l x) (sym is) (record {
  bytes = subst (λ (u : List ℕ). Appends (append_known l.wrote u) (append_known l.wrote x) x) (sym out) (known_more l.wrote x);
  number = refl;
  ended = λ was. absurd (true≢false (sym was ∙ goes));
})

grows_sent : (l m : LineState) (r : Result ℕ Bool) → Sends l m r → Grows l [] m
grows_sent l m (Ok n) s = subst (Grows l []) (sym s.2) (record { bytes = known_sent l.wrote m.wrote n l.unsent s.1; number = refl; ended = λ was. (refl, was) })
grows_sent l m (Err again) s = subst (Grows l []) (sym s.1) (record { bytes = known_kept l.wrote m.wrote l.unsent s.0; number = refl; ended = λ was. (refl, was) })

sent_is : (l m : LineState) (r : Option Turn) → SentIs l r m → Grows l [] m
sent_is l m _ (SentIs.some n s) = grows_sent l m (Ok n) s
sent_is l _ _ (SentIs.none out) = grows_same l l refl
sent_is l m _ (SentIs.unsent again s) = grows_sent l m (Err again) s

grows_both : (l m k : LineState) (x y : List ℕ) → Grows l x m → Grows m y k → Grows l (x ++ y) k
grows_both l m k x y p q = record {
  bytes = more_after (bytes_of l) (bytes_of m) (bytes_of k) x y p.bytes q.bytes;
  number = q.number ∙ p.number;
  ended = λ was. let first = p.ended was in let second = q.ended first.1 in ((λ i. first.0 i ++ second.0 i), second.1);
}

-- ---- turns

-- what a turn does, also where a message was lost by it: then it told more than goes out
pub record Does (c : Caller) (l : LineState) (cut : Bool) (d : Caller) (m : LineState) : Type 0 where
  pub told : List ℕ
  pub text : List ℕ
  pub tells : TellsOnly l.number c told d
  pub grows : Grows l text m
  pub kept : cut ≡ false → told ≡ text

does : (c d : Caller) (l m : LineState) (cut : Bool) (x : List ℕ) → TellsOnly l.number c x d → Grows l x m → Does c l cut d m
does c d l m cut x tells grows = record { told = x; text = x; tells = tells; grows = grows; kept = λ k. refl }

loses : (c d : Caller) (l m : LineState) (x : List ℕ) → TellsOnly l.number c x d → m ≡ l → Does c l true d m
loses c d l m x tells same = record { told = x; text = []; tells = tells; grows = grows_same l m same; kept = λ k. absurd (true≢false k) }

pub exact_of : (c d : Caller) (l m : LineState) (cut : Bool) → cut ≡ false → Does c l cut d m → IsExact c l d m
exact_of c d l m cut k t = (t.told, t.tells, subst (λ x. Grows l x m) (sym (t.kept k)) t.grows)

exact_then : (c d e : Caller) (l m k : LineState) (cut : Bool) → IsExact c l d m → Does d m cut e k → Does c l cut e k
exact_then c d e l m k cut p q = record {
  told = p.0 ++ q.told;
  text = p.0 ++ q.text;
  tells = only_both l.number c d e p.0 q.told p.1 (subst (λ (n : ℕ). TellsOnly n d q.told e) p.2.number q.tells);
  grows = grows_both l m k p.0 q.text p.2 q.grows;
  kept = λ is. ap (λ z. p.0 ++ z) (q.kept is);
}

-- whether a step lost a message
abbrev cuts : Option Turn → Bool
cuts None = false
cuts (Some t) = is_cut t

step_is : (ids : Ids) (c d : Caller) (l m : LineState) (r : Option Turn) → Steps ids c l r d m → Does c l (cuts r) d m
step_is ids c d l m _ (Steps.told t) =
    does c d l m false (chunk t.0) (asked ids c l (said (WireTold.message t.0)) d t.1) (grows_told l m (chunk t.0) l.ended t.2 t.3 t.4)
step_is ids c d l m _ (Steps.ended t) = does c d l m false last_chunk (asked ids c l (said WireTold.no_watch) d t.0) (grows_told l m last_chunk true t.1 t.2 t.3)
step_is ids c d l m _ (Steps.quiet t) = does c d l m false [] (asked ids c l (said WireTold.nothing) d t.0) (grows_same l m t.1)
step_is ids c d l m _ (Steps.wanting t) = does c d l m false [] (asked ids c l memory d t.0) (grows_same l m t.1)
step_is ids c d l m _ (Steps.cut (inl a, same)) = loses c d l m (chunk a.0) (asked ids c l (said (WireTold.message a.0)) d a.1) same
step_is ids c d l m _ (Steps.cut (inr a, same)) = loses c d l m last_chunk (asked ids c l (said WireTold.no_watch) d a) same
step_is ids c d l m r (Steps.sent {c'} {l'} t s) =
    does c d l m (cuts r) [] (subst (TellsOnly l.number c []) (sym t.1) (only_none l.number c)) (subst (λ (k : LineState). Grows k [] m) t.2 (sent_is l' m r s))

pub goes_is : (ids : Ids) (c : Caller) (l : LineState) (d : Caller) (m : LineState) → Goes ids c l d m → IsExact c l d m
goes_is ids c l _ _ Goes.stays = ([], only_none l.number c, grows_same l l refl)
goes_is ids c l d m (Goes.more {c'} {l' = l'} goes step) =
    exact_of c d l m false refl (exact_then c c' d l l' m false (goes_is ids c l c' l' goes) (step_is ids c' d l' m None step))

pub turned_is : (ids : Ids) (c : Caller) (l : LineState) (t : Turn) (d : Caller) (m : LineState) → Turned ids c l t d m → Does c l (is_cut t) d m
turned_is ids c l _ d m (Turned.on goes) = let e = goes_is ids c l d m goes in does c d l m false e.0 e.1 e.2
turned_is ids c l t d m (Turned.last {c'} {l' = l'} goes step) =
    exact_then c c' d l l' m (is_cut t) (goes_is ids c l c' l' goes) (step_is ids c' d l' m (Some t) step)

-- ---- what a step comes to

pub told_or_ended : (ids : Ids) (c d : Caller) (l m : LineState) (n : Next) → (n ≡ next.Told) ⊎ (n ≡ next.Ended) → TellsNext ids c l n d m → Steps ids c l None d m
told_or_ended ids c d l m n (inl e) t = Steps.told (subst (λ (n : Next). TellsNext ids c l n d m) e t)
told_or_ended ids c d l m n (inr e) t = Steps.ended (subst (λ (n : Next). TellsNext ids c l n d m) e t)

pub unsent_is : (again : Bool) (l m : LineState) → Sends l m (Err again) → SentIs l (Some (unsent_turn again (is_stale most_looks m))) m
unsent_is again l m s =
    subst (λ (n : LineState). SentIs l (Some (unsent_turn again (is_stale most_looks n))) m) (sym s.1) (SentIs.unsent again s)
