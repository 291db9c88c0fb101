-- By how much the events of each holder raise the revision.
use Rattle.std.proofs.Common.{◌≡◌, ℕ, ◌+◌, ◌-◌, ◌≤◌, ◌==◌, Bool, true, false, cond, ◌||◌, Option, List, [], ◌∷◌, ◌++◌, All, length, map, fold, refl, ap, sym, subst, ◌∙◌, inl, inr, arith}
use Rattle.std.specs.Prelude.{is_some, sum}
use Rattle.std.specs.List.{list_any}
use Rattle.std.proofs.lemmas.Bool.Decides.{nat_tests}
use Rattle.std.proofs.lemmas.List.Elements.{All-head, All-tail}
use Rattle.std.proofs.lemmas.List.Sums.{sum_by-cons}
use Rattle.kv_model.specs.Commands.{call_of}
use Rattle.kv_model.specs.Follows.{Outcome}
use Rattle.kv_model.specs.Step.{expire, perform}
use Rattle.kv_model.specs.Watches.{Delivery, after_delivery, delivery}
use Rattle.kv_model.specs.Wire.{WireOutcome, raised}
use Rattle.kv_model.specs.World.{World, at_moment, opening, revision, watch_at}
use Rattle.store_laws.specs.Growth.{RaisesByOne}
use Rattle.store_laws.proofs.RaiseLaws.{command_raises, expiry_raises}
use Rattle.event_book.specs.Callers.{Caller, Owns, made_by, made_by_all}
use Rattle.event_book.specs.Events.{Entry, Event, after, clocked, entry, events_by, led_to, left_by, made_of}
use Rattle.event_book.specs.Raising.{raised_by, raised_from, raises, rise_of}
use Rattle.event_book.specs.RaisingLaws.{RaisedAdds, RaisedAll, RaisedShows, RiseCommand, RiseExpiry}
use Rattle.event_book.proofs.Counting.{none_between}

-- ---- lists that grow

pub raised_append : (n : ℕ) (w : World) (xs ys : List Entry) → raised_from n w (xs ++ ys) ≡ raised_from n w xs + raised_from n (fold after w xs) ys
raised_append n w [] ys = omega arith
raised_append n w (x ∷ xs) ys = omega (arith, raised_append n (after w x) xs ys)

-- events of others raise nothing for a holder
pub raised_none : (n : ℕ) (w : World) (xs : List Entry) → events_by n xs ≡ [] → raised_from n w xs ≡ 0
raised_none n w [] none = refl
raised_none n w (x ∷ xs) none = by (x.by == n) none (raised_none n (after w x) xs)
  where
    by : (b : Bool) → cond b (x ∷ events_by n xs) (events_by n xs) ≡ [] → (events_by n xs ≡ [] → raised_from n (after w x) xs ≡ 0)
        → cond b (rise_of w x) 0 + raised_from n (after w x) xs ≡ 0
    by true none rest = absurd (cc none)
    by false none rest = omega (arith, rest none)

own_rise : (n : ℕ) (r : ℕ) → cond (n == n) r 0 ≡ r
own_rise n r = let own : (n == n) ≡ true = grind (arith, nat_tests) in ap (λ (b : Bool). cond b r 0) own

-- a call that enters an event raises by what that event does
pub raised_adds : RaisedAdds
raised_adds ids c later about e o a =
    let n = c.number in
    let one : Entry = entry n about e o in
    let w : World = led_to (c.front ++ a.between) in
    let named : raises later ≡ raised_by n ((c.front ++ a.between) ++ one ∷ []) =
    ap (λ k. raised_by k later.front) a.number ∙ ap (raised_by n) a.grows in
    let parts : raised_by n ((c.front ++ a.between) ++ one ∷ []) ≡ raised_by n (c.front ++ a.between) + (cond (n == n) (rise_of w one) 0 + 0) =
    raised_append n opening (c.front ++ a.between) (one ∷ []) in
    let before : raised_by n (c.front ++ a.between) ≡ raises c + raised_from n (led_to c.front) a.between = raised_append n opening c.front a.between in
    let none : raised_from n (led_to c.front) a.between ≡ 0 = raised_none n (led_to c.front) a.between a.others in
    omega (arith, named, parts, before, none, own_rise n (rise_of w one))

-- one that shows the list raises nothing
pub raised_shows : RaisedShows
raised_shows c later s =
    let named : raises later ≡ raised_by c.number (c.front ++ s.between) =
    ap (λ k. raised_by k later.front) s.number ∙ ap (raised_by c.number) s.grows in
    omega (arith, named, raised_append c.number opening c.front s.between, raised_none c.number (led_to c.front) s.between s.others)

-- ---- the revision never falls

delivered : (w : World) (n : ℕ) (d : Delivery) → revision (after_delivery w n d) ≡ revision w
delivered w n Delivery.no_watch = refl
delivered w n Delivery.nothing = refl
delivered w n (Delivery.events es) = refl
delivered w n (Delivery.cancelled c) = refl

rose : (w u : World) → RaisesByOne w u → revision w ≤ revision u
rose w u (inl h) = omega (arith, h.0)
rose w u (inr h) = omega (arith, h.0)

clocked_at : (w : World) (e : Event) → revision (clocked w e) ≡ revision w
clocked_at w (Event.moment now) = refl
clocked_at w (Event.command now asking) = refl
clocked_at w (Event.expiry now) = refl
clocked_at w (Event.delivery number) = refl
clocked_at w (Event.ending number) = refl
clocked_at w Event.trimming = refl
clocked_at w Event.certificate = refl

made_rises : (w : World) (e : Event) → revision w ≤ revision (made_of w e)
made_rises w (Event.moment now) = omega arith
made_rises w (Event.command now asking) = rose w (perform w (call_of asking.command)).1 (command_raises w (call_of asking.command))
made_rises w (Event.expiry now) = rose w (expire w).1 (expiry_raises w)
made_rises w (Event.delivery number) = omega (arith, delivered w number (delivery w (watch_at w.watches number)))
made_rises w (Event.ending number) = omega arith
made_rises w Event.trimming = omega arith
made_rises w Event.certificate = omega arith

left_rises : (w : World) (e : Event) (o : WireOutcome) → revision w ≤ revision (left_by w e o)
left_rises w e Outcome.memory = omega arith
left_rises w e (Outcome.lost l) = made_rises w e
left_rises w e (Outcome.said t) = made_rises w e

pub after_rises : (w : World) (e : Entry) → revision w ≤ revision (after w e)
after_rises w e = omega (arith, clocked_at w e.event, left_rises (clocked w e.event) e.event e.outcome)

-- ---- what each kind of event raises

pub rise_memory : (w : World) (by about : ℕ) (e : Event) → rise_of w (entry by about e Outcome.memory) ≡ 0
rise_memory w by about e = omega (arith, clocked_at w e)

rise_by : (w u v : World) → revision v ≡ revision w → RaisesByOne v u → revision u - revision w ≡ cond (is_some (raised v u)) 1 0
rise_by w u v at (inl h) =
    let none : revision u - revision w ≡ 0 = omega (arith, h.0, at) in none ∙ sym (ap (λ (o : Option ℕ). cond (is_some o) 1 0) h.1)
rise_by w u v at (inr h) =
    let one : revision u - revision w ≡ 1 = omega (arith, h.0, at) in one ∙ sym (ap (λ (o : Option ℕ). cond (is_some o) 1 0) h.1)

-- a command that was made raises by one where it tells that it did
pub rise_command : RiseCommand
rise_command w by about now asking Outcome.memory is = absurd (cc is)
rise_command w by about now asking (Outcome.lost l) is =
    rise_by w (perform (at_moment w now) (call_of asking.command)).1 (at_moment w now) refl (command_raises (at_moment w now) (call_of asking.command))
rise_command w by about now asking (Outcome.said t) is =
    rise_by w (perform (at_moment w now) (call_of asking.command)).1 (at_moment w now) refl (command_raises (at_moment w now) (call_of asking.command))

-- and so does a step of expiry
pub rise_expiry : RiseExpiry
rise_expiry w by about now Outcome.memory is = absurd (cc is)
rise_expiry w by about now (Outcome.lost l) is = rise_by w (expire (at_moment w now)).1 (at_moment w now) refl (expiry_raises (at_moment w now))
rise_expiry w by about now (Outcome.said t) is = rise_by w (expire (at_moment w now)).1 (at_moment w now) refl (expiry_raises (at_moment w now))

-- the other events raise nothing, whatever the outcome is
pub rise_moment : (w : World) (by about now : ℕ) (o : WireOutcome) → rise_of w (entry by about (Event.moment now) o) ≡ 0
rise_moment w by about now Outcome.memory = omega arith
rise_moment w by about now (Outcome.lost l) = omega arith
rise_moment w by about now (Outcome.said t) = omega arith

pub rise_delivery : (w : World) (by about number : ℕ) (o : WireOutcome) → rise_of w (entry by about (Event.delivery number) o) ≡ 0
rise_delivery w by about number Outcome.memory = omega arith
rise_delivery w by about number (Outcome.lost l) = omega (arith, delivered w number (delivery w (watch_at w.watches number)))
rise_delivery w by about number (Outcome.said t) = omega (arith, delivered w number (delivery w (watch_at w.watches number)))

pub rise_ending : (w : World) (by about number : ℕ) (o : WireOutcome) → rise_of w (entry by about (Event.ending number) o) ≡ 0
rise_ending w by about number Outcome.memory = omega arith
rise_ending w by about number (Outcome.lost l) = omega arith
rise_ending w by about number (Outcome.said t) = omega arith

pub rise_trimming : (w : World) (by about : ℕ) (o : WireOutcome) → rise_of w (entry by about Event.trimming o) ≡ 0
rise_trimming w by about Outcome.memory = omega arith
rise_trimming w by about (Outcome.lost l) = omega arith
rise_trimming w by about (Outcome.said t) = omega arith

pub rise_certificate : (w : World) (by about : ℕ) (o : WireOutcome) → rise_of w (entry by about Event.certificate o) ≡ 0
rise_certificate w by about Outcome.memory = omega arith
rise_certificate w by about (Outcome.lost l) = omega arith
rise_certificate w by about (Outcome.said t) = omega arith

-- ---- at the end

-- so much for each holder of this number
abbrev hits : ℕ → ℕ → List Caller → ℕ
hits k x [] = 0
hits k x (c ∷ cs) = cond (k == c.number) x 0 + hits k x cs

hits_none : (k x : ℕ) (cs : List Caller) → hits k 1 cs ≡ 0 → hits k x cs ≡ 0
hits_none k x [] none = refl
hits_none k x (c ∷ cs) none = by (k == c.number) none (hits_none k x cs)
  where
    by : (b : Bool) → cond b 1 0 + hits k 1 cs ≡ 0 → (hits k 1 cs ≡ 0 → hits k x cs ≡ 0) → cond b x 0 + hits k x cs ≡ 0
    by true none rest = absurd (omega (arith, none))
    by false none rest = omega (arith, rest (omega (arith, none)))

-- one holder of the number has it all
hits_one : (k x : ℕ) (cs : List Caller) → hits k 1 cs ≡ 1 → hits k x cs ≡ x
hits_one k x [] one = absurd (omega (arith, one))
hits_one k x (c ∷ cs) one = by (k == c.number) one (hits_one k x cs)
  where
    by : (b : Bool) → cond b 1 0 + hits k 1 cs ≡ 1 → (hits k 1 cs ≡ 1 → hits k x cs ≡ x) → cond b x 0 + hits k x cs ≡ x
    by true one rest = omega (arith, hits_none k x cs (omega (arith, one)))
    by false one rest = omega (arith, rest (omega (arith, one)))

some_hit : (k : ℕ) (cs : List Caller) → list_any (λ (c : Caller). c.number == k) cs ≡ true → 1 ≤ hits k 1 cs
some_hit k [] any = absurd (cc any)
some_hit k (c ∷ cs) any = by (c.number == k) refl any (some_hit k cs)
  where
    by : (b : Bool) → (c.number == k) ≡ b → (b || list_any (λ (c' : Caller). c'.number == k) cs) ≡ true
        → (list_any (λ (c' : Caller). c'.number == k) cs ≡ true → 1 ≤ hits k 1 cs) → 1 ≤ cond (k == c.number) 1 0 + hits k 1 cs
    by true is any rest =
        let own : (k == c.number) ≡ true = grind (arith, nat_tests) in
        subst (λ (b : Bool). 1 ≤ cond b 1 0 + hits k 1 cs) (sym own) (omega arith)
    by false is any rest = omega (arith, rest any)

sum_step : (f : Caller → ℕ) (c : Caller) (cs : List Caller) → sum (map f (c ∷ cs)) ≡ f c + sum (map f cs)
sum_step f c cs = sum_by-cons (λ (j : ℕ). j) (f c) (map f cs)

sum_none : (f : Caller → ℕ) → ((c : Caller) → f c ≡ 0) → (cs : List Caller) → sum (map f cs) ≡ 0
sum_none f none [] = refl
sum_none f none (c ∷ cs) = omega (arith, sum_step f c cs, none c, sum_none f none cs)

sum_hits : (k x : ℕ) (f g : Caller → ℕ) → ((c : Caller) → f c ≡ cond (k == c.number) x 0 + g c) → (cs : List Caller)
    → sum (map f cs) ≡ hits k x cs + sum (map g cs)
sum_hits k x f g is [] = refl
sum_hits k x f g is (c ∷ cs) = omega (arith, sum_step f c cs, sum_step g c cs, is c, sum_hits k x f g is cs)

sum_alike : (P : Caller → Type 0) (f g : Caller → ℕ) → ((c : Caller) → P c → f c ≡ g c) → (cs : List Caller) → All P cs
    → sum (map f cs) ≡ sum (map g cs)
sum_alike P f g is [] all = refl
sum_alike P f g is (c ∷ cs) all =
    omega (arith, sum_step f c cs, sum_step g c cs, is c (All-head P c cs all), sum_alike P f g is cs (All-tail P c cs all))

-- of all events, those of these holders
abbrev count_all : List Caller → List Entry → ℕ
count_all cs log = sum (map (λ (c : Caller). length (events_by c.number log)) cs)

abbrev raise_all : List Caller → World → List Entry → ℕ
raise_all cs w log = sum (map (λ (c : Caller). raised_from c.number w log) cs)

count_step : (cs : List Caller) (e : Entry) (log : List Entry) → count_all cs (e ∷ log) ≡ hits e.by 1 cs + count_all cs log
count_step cs e log =
    sum_hits e.by 1 (λ (c : Caller). length (events_by c.number (e ∷ log))) (λ (c : Caller). length (events_by c.number log))
    (λ c. one (e.by == c.number) (events_by c.number log)) cs
  where
    one : (b : Bool) (es : List Entry) → length (cond b (e ∷ es) es) ≡ cond b 1 0 + length es
    one true es = omega arith
    one false es = omega arith

raise_step : (cs : List Caller) (w : World) (e : Entry) (log : List Entry)
    → raise_all cs w (e ∷ log) ≡ hits e.by (rise_of w e) cs + raise_all cs (after w e) log
raise_step cs w e log =
    sum_hits e.by (rise_of w e) (λ (c : Caller). raised_from c.number w (e ∷ log)) (λ (c : Caller). raised_from c.number (after w e) log)
    (λ c. refl) cs

abbrev IsOne : List Caller → Entry → Type 0
IsOne cs e = list_any (λ (c : Caller). c.number == e.by) cs ≡ true

-- where each event is of one of them there are no fewer for them than events
count_least : (cs : List Caller) (log : List Entry) → All (IsOne cs) log → length log ≤ count_all cs log
count_least cs [] all = omega arith
count_least cs (e ∷ log) all =
    omega (arith, count_step cs e log, some_hit e.by cs (All-head (IsOne cs) e log all), count_least cs log (All-tail (IsOne cs) e log all))

-- and where there are as many, each is of just one, which it raises by what it does
raise_whole : (cs : List Caller) (w : World) (log : List Entry) → All (IsOne cs) log → count_all cs log ≡ length log
    → revision (fold after w log) ≡ revision w + raise_all cs w log
raise_whole cs w [] all same = omega (arith, sum_none (λ (c : Caller). raised_from c.number w []) (λ c. refl) cs)
raise_whole cs w (e ∷ log) all same =
    let rest = All-tail (IsOne cs) e log all in
    let step = count_step cs e log in
    let some = some_hit e.by cs (All-head (IsOne cs) e log all) in
    let least = count_least cs log rest in
    let one : hits e.by 1 cs ≡ 1 = omega (arith, step, some, least, same) in
    let alike : count_all cs log ≡ length log = omega (arith, step, some, least, same) in
    omega (arith, raise_step cs w e log, hits_one e.by (rise_of w e) cs one, raise_whole cs (after w e) log rest alike, after_rises w e)

-- a holder that owns its events raised by those of them in the whole list
whole_count : (log : List Entry) (c : Caller) → Owns log c → made_by c ≡ length (events_by c.number log)
whole_count log c o = ap length (sym o.mine)

whole_raise : (log : List Entry) (c : Caller) → Owns log c → raises c ≡ raised_from c.number opening log
whole_raise log c o =
    let n = c.number in
    let same : length (events_by n (c.front ++ o.begins.0)) ≡ length (events_by n c.front) = ap (λ l. length (events_by n l)) o.begins.1 ∙ ap length o.mine in
    let none : raised_from n (led_to c.front) o.begins.0 ≡ 0 = raised_none n (led_to c.front) o.begins.0 (none_between n c.front o.begins.0 same) in
    omega (arith, raised_append n opening c.front o.begins.0, none, ap (raised_from n opening) o.begins.1)

opened_at : revision opening ≡ 1
opened_at = refl

pub raised_all : RaisedAll
raised_all log cs all made =
    let count : made_by_all cs ≡ count_all cs log =
    sum_alike (Owns log) made_by (λ (c : Caller). length (events_by c.number log)) (whole_count log) cs all.owns in
    let raise : sum (map raises cs) ≡ raise_all cs opening log =
    sum_alike (Owns log) raises (λ (c : Caller). raised_from c.number opening log) (whole_raise log) cs all.owns in
    omega (arith, raise, opened_at, raise_whole cs opening log all.each (omega (arith, count, made)))
