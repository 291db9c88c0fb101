-- What the calls of an engine say, from what is entered under the lock.
use Rattle.std.proofs.Common.{◌≡◌, ℕ, ◌+◌, Bool, true, false, List, [], ◌∷◌, ◌++◌, length, refl, sym, ◌∙◌, ap, subst, arith, length-append}
use mathlib.Core.List.{IsPrefix}
use Rattle.kv_model.specs.declared.ids.Ids.{Ids}
use Rattle.kv_model.specs.Feed.{Published}
use Rattle.kv_model.specs.Wire.{WireOutcome}
use Rattle.kv_model.specs.World.{World}
use Rattle.event_book.specs.Callers as list
use Rattle.event_book.specs.Callers.{Adds, Shows}
use Rattle.event_book.specs.Events.{Entry, Event, clocked, entry, led_to}
use Rattle.event_book.specs.Raising.{raises, rise_of}
use Rattle.event_book.proofs.Raising.{raised_adds}
use Rattle.event_book.specs.Publishing.{published_by}
use Rattle.engine_lock.specs.Entering.{Enters, EntersAlone, before, IsTold, Learns, ShowsTo, StaysOut}
use Rattle.engine_lock.specs.Locked.{Caller, knowing, left}

-- a client in no reading, of which the holder alone has changed
held : (c later : Caller) → c.reader.inside ≡ false → later ≡ record c { holder = later.holder }
    → later ≡ knowing c later.holder later.reader.known
held c later out e = e ∙ (λ i. record c { holder = later.holder; reader = record c.reader { known = ap (λ (x : Caller). x.reader.known) (sym e) i; inside = out i } })

-- an event was entered
pub enters : (ids : Ids) (c : Caller) (e : Event) (o : WireOutcome) (later : Caller) → c.reader.inside ≡ false
    → Adds ids c.holder c.about e o later.holder → later ≡ record c { holder = later.holder } → Enters ids c e o later
enters ids c e o later out adds same = record { adds = adds; same = held c later out same }

pub told_nothing : (c later : Caller) → later ≡ record c { holder = later.holder } → IsTold false c later
told_nothing c later same = ap (λ (x : Caller). x.reader.known) same

pub enters_alone : (ids : Ids) (c : Caller) (e : Event) (o : WireOutcome) (later : Caller) → c.reader.inside ≡ false
    → Adds ids c.holder c.about e o later.holder → later ≡ record c { holder = later.holder } → EntersAlone ids c e o later
enters_alone ids c e o later out adds same = (enters ids c e o later out adds same, told_nothing c later same)

-- the list was shown
pub shows_to : (c later : Caller) → c.reader.inside ≡ false → Shows c.holder later.holder → later ≡ record c { holder = later.holder }
    → ShowsTo c later
shows_to c later out shows same = (shows, same ∙ (λ i. record c { holder = later.holder; reader = record c.reader { inside = out i } }))

-- ---- the client was told of it for its reads

-- what is told is all that the events publish which it has seen
pub learnt : (b : Bool) (fed : List Published) (log : List Entry) (c later : Caller) → fed ≡ published_by log → c.holder.front ≡ log
    → later ≡ record c { reader = later.reader } → Learns b fed c later → IsTold b c later
learnt true fed log c later told front same h =
    let seen : fed ≡ published_by later.holder.front = told ∙ ap published_by (sym front ∙ sym (ap (λ (x : Caller). x.holder.front) same)) in
    (h.0 ∙ seen, h.1)
learnt false fed log c later told front same h = h

-- what was entered for it stays so
pub enters_told : (ids : Ids) (c : Caller) (e : Event) (o : WireOutcome) (m later : Caller) → m.reader.inside ≡ false → Enters ids c e o m
    → later ≡ record m { reader = later.reader } → StaysOut m later → Enters ids c e o later
enters_told ids c e o m later out x same stays =
    let holder : m.holder ≡ later.holder = sym (ap (λ (x : Caller). x.holder) same) in
    record {
      adds = subst (Adds ids c.holder c.about e o) holder x.adds;
      same = λ i. record {
        holder = later.holder;
        about = (ap (λ (x : Caller). x.about) same ∙ ap (λ (x : Caller). x.about) x.same) i;
        reader = record {
          book = (stays.0 ∙ ap (λ (x : Caller). x.reader.book) x.same) i;
          known = later.reader.known;
          inside = stays.1 out i;
        };
      };
    }

-- the knowledge of a client that entered an event and was told nothing is that from before
pub told_since : (b : Bool) (c m later : Caller) → IsTold false c m → IsTold b m later → IsTold b c later
told_since true c m later same h = (h.0, subst (λ k. IsPrefix k later.reader.known) same h.1)
told_since false c m later same h = h ∙ same

-- ---- a client that left its reading first

pub left_enters : (ids : Ids) (c out : Caller) (e : Event) (o : WireOutcome) (later : Caller) → out ≡ left c → Enters ids out e o later
    → Enters ids c e o later
left_enters ids c out e o later is x = subst (λ (y : Caller). Enters ids y e o later → Enters ids c e o later) (sym is) (λ x. record { adds = x.adds; same = x.same }) x

-- ---- the list just before an event

without_last : {A : Type 0} (xs ys : List A) (x y : A) → xs ++ x ∷ [] ≡ ys ++ y ∷ [] → xs ≡ ys
without_last [] [] x y e = refl
without_last [] (z ∷ ys) x y e =
    let rest : [] ≡ ys ++ y ∷ [] = cc e in absurd (omega (arith, ap length rest, length-append ys (y ∷ [])))
without_last (z ∷ xs) [] x y e =
    let rest : xs ++ x ∷ [] ≡ [] = cc e in absurd (omega (arith, ap length rest, length-append xs (x ∷ [])))
without_last (z ∷ xs) (w ∷ ys) x y e =
    let heads : z ≡ w = cc e in
    let tails : xs ++ x ∷ [] ≡ ys ++ y ∷ [] = cc e in
    let rest : xs ≡ ys = without_last xs ys x y tails in
    cc (heads, rest)

pub seen_before : (ids : Ids) (c later : list.Caller) (about : ℕ) (e : Event) (o : WireOutcome) (a : Adds ids c about e o later) (log : List Entry)
    → later.front ≡ log ++ entry c.number about e o ∷ [] → c.front ++ a.between ≡ log
seen_before ids c later about e o a log is =
    without_last (c.front ++ a.between) log (entry c.number about e o) (entry c.number about e o) (sym a.grows ∙ is)

-- by how much the event has raised the revision
pub note_raises : (ids : Ids) (c later : list.Caller) (about : ℕ) (e : Event) (o : WireOutcome) (a : Adds ids c about e o later) (log : List Entry) (n : ℕ)
    → later.front ≡ log ++ entry c.number about e o ∷ [] → rise_of (led_to log) (entry c.number about e o) ≡ n → raises later ≡ raises c + n
note_raises ids c later about e o a log n is rise =
    raised_adds ids c later about e o a
    ∙ ap (λ l. raises c + rise_of (led_to l) (entry c.number about e o)) (seen_before ids c later about e o a log is)
    ∙ ap (λ k. raises c + k) rise

-- the world that it was made in, for what is said of that
pub in_world : (P : World → Type 0) (ids : Ids) (c : Caller) (e : Event) (o : WireOutcome) (later : Caller) (x : Enters ids c e o later) (log : List Entry)
    → later.holder.front ≡ log ++ entry c.holder.number c.about e o ∷ [] → P (clocked (led_to log) e) → P (before ids c e o later x)
in_world P ids c e o later x log is p =
    subst (λ l. P (clocked (led_to l) e)) (sym (seen_before ids c.holder later.holder c.about e o x.adds log is)) p
