-- What was written down stays what the script says, with each event that is made and noted.
use Rattle.std.proofs.Common.{◌≡◌, ℕ, Bool, true, false, cond, List, [], ◌∷◌, ◌++◌, Option, None, Some, Result, Ok, Err, refl, sym, ◌∙◌, ap, subst, append_assoc, ◌&&◌, not}
use Rattle.std.specs.Prelude.{MatchBool, is_some}
use Rattle.std.specs.List.{concat}
use Rattle.std.specs.declared.alloc.AllocError.{AllocError}
use Rattle.std.proofs.lemmas.List.{append-nil}
use Rattle.std.proofs.lemmas.List.Elements.{All-append, All-cons, All-nil}
use Rattle.std.proofs.lemmas.List.Folds.{concat-append}
use Rattle.std.proofs.lemmas.List.Sums.{fold-append}
use Rattle.kv_model.specs.declared.refusal.Refusal.{Refusal}
use Rattle.kv_model.specs.Follows.{Outcome}
use Rattle.kv_model.specs.Told as told
use Rattle.kv_model.specs.Wire.{WireEvent, WireOutcome, WireTold, trim_told}
use Rattle.kv_model.specs.Certificates.{Claim}
use Rattle.request_core.specs.Answers.{is_memory}
use Rattle.request_core.specs.declared.answer.Expiry.{Expiry}
use Rattle.request_core.specs.declared.answer.Expiry.TheVariants as expiry
use Rattle.json_gateway.specs.declared.outcome.Message.{Message}
use Rattle.json_gateway.specs.declared.outcome.Message.TheVariants as message
use Rattle.json_gateway.specs.declared.outcome.Settled.{Settled}
use Rattle.json_gateway.specs.declared.outcome.Settled.TheVariants as settled
use Rattle.json_gateway.specs.declared.outcome.Trimmed.{Trimmed}
use Rattle.json_gateway.specs.declared.outcome.Trimmed.TheVariants as trimmed
use Rattle.json_gateway.specs.Endings.{is_done}
use Rattle.json_gateway.specs.Runs.{command_view, delivery_outcome, ending_view, trimmed_view}
use Rattle.recording.specs.Lines.{IsNoted, IsNotedAnew, IsTrimNoted, Written, all_of, blank, handed, lines_of}
use Rattle.event_book.specs.Asking.{Asking}
use Rattle.event_book.specs.Events.{Entry, Event, entry}
use Rattle.event_book.proofs.Prefixes.{prefix_trans}
use Rattle.event_script.specs.Notes.{NotesCommand, NotesEnding, NotesExpiry, NotesMessage, NotesRequest, says_done, step_outcome}
use Rattle.event_script.specs.Scripts.{AllAsked, AllFit, Fits, HasRequest, IsCut, IsScript, IsTaken, IsWritten, Taken, noted, noted_by, noted_if, noted_trim}
use Rattle.event_script.specs.Scripts.{script_of, write, written_by}
use Rattle.event_script.specs.Taking.{Ends, GoesOn, Takes, taken_next, untaken}
use Rattle.event_script.specs.Writing.{CertificateIsWritten, CheckedIsWritten, CommandIsWritten, DeliveryIsWritten, EndingIsWritten, ExpiryIsWritten}
use Rattle.event_script.specs.Writing.{MomentIsWritten, NothingIsWritten, StaysWritten, TakingIsWritten, TrimmingIsWritten}

-- ---- one step

-- all that was ever written, as a text that was not taken
abbrev whole : Written → Written
whole l = record l { taken = []; text = all_of l }

-- no line is lost, and all has become what the step makes of it; or one is lost, and no text came
abbrev GoesBy : Bool → (Written → Written) → Written → Written → Type 0
GoesBy gone step l m = MatchBool gone (all_of m ≡ all_of l) ((l.is_lost ≡ false) × (whole m ≡ step (whole l)))

-- nothing was taken; and where a line was lost already, no text comes
abbrev Rests : Written → Written → Type 0
Rests l m = (m.taken ≡ l.taken) × (l.is_lost ≡ true → (m.is_lost ≡ true) × (m.text ≡ l.text))

abbrev Goes : (Written → Written) → Written → Written → Type 0
Goes step l m = GoesBy m.is_lost step l m × Rests l m

-- what stands in IsWritten, by whether a line was lost
abbrev Stands : Bool → Written → List Entry → Type 0
Stands gone l log = MatchBool gone (IsCut l log) ((whole l ≡ written_by log) × AllAsked log)

asked_more : (log : List Entry) (e : Entry) → AllAsked log → HasRequest e.event e.outcome → AllAsked (log ++ e ∷ [])
asked_more log e all one = All-append (λ (x : Entry). HasRequest x.event x.outcome) log (e ∷ []) all
    (All-cons (λ (x : Entry). HasRequest x.event x.outcome) e [] one (All-nil (λ (x : Entry). HasRequest x.event x.outcome)))

more_by : (was gone : Bool) (l m : Written) (log : List Entry) (e : Entry) → l.is_lost ≡ was → m.is_lost ≡ gone
    → Stands was l log → (m.is_lost ≡ false → HasRequest e.event e.outcome) → GoesBy gone (λ x. write x e) l m → Stands gone m (log ++ e ∷ [])
more_by true true l m log e is lost w has g = record {
  front = w.front;
  begins = prefix_trans w.front log (log ++ e ∷ []) w.begins (e ∷ [], refl);
  lines = g ∙ w.lines;
  asked = w.asked;
}
more_by false true l m log e is lost w has g = record {
  front = log;
  begins = (e ∷ [], refl);
  lines = g ∙ ap (λ (x : Written). x.text) w.0;
  asked = w.1;
}
more_by true false l m log e is lost w has g = let bad : true ≡ false = sym is ∙ g.0 in absurd (cc bad)
more_by false false l m log e is lost w has g =
    (g.1 ∙ ap (λ x. write x e) w.0 ∙ sym (fold-append write (blank false) log (e ∷ [])), asked_more log e w.1 (has lost))

taken_rests : (over : Bool) (l m : Written) (t : Taken) → Rests l m
    → MatchBool over ((l.is_lost ≡ true) × (l.text ≡ [])) (concat l.taken ≡ script_of t.front)
    → MatchBool over ((m.is_lost ≡ true) × (m.text ≡ [])) (concat m.taken ≡ script_of t.front)
taken_rests true l m t r h = let kept = r.1 h.0 in (kept.0, kept.1 ∙ h.1)
taken_rests false l m t r h = ap concat r.0 ∙ h

-- an event more, whose numbers have 64 bits
fits_more : (log : List Entry) (e : Entry) → AllFit log → Fits e.event → AllFit (log ++ e ∷ [])
fits_more log e fit fits = All-append (λ (x : Entry). Fits x.event) log (e ∷ []) fit
    (All-cons (λ (x : Entry). Fits x.event) e [] fits (All-nil (λ (x : Entry). Fits x.event)))

more : (l m : Written) (t : Taken) (log : List Entry) (e : Entry) → IsWritten l t log → Fits e.event
    → (m.is_lost ≡ false → HasRequest e.event e.outcome) → Goes (λ x. write x e) l m → IsWritten m t (log ++ e ∷ [])
more l m t log e w fits has g = record {
  script = more_by l.is_lost m.is_lost l m log e refl refl w.script has g.0;
  taken = taken_rests t.is_over l m t g.1 w.taken;
  seen = prefix_trans t.front log (log ++ e ∷ []) w.seen (e ∷ [], refl);
  fit = fits_more log e w.fit fits;
}

-- ---- what is noted

-- nothing came
rests_by : (gone : Bool) (l : Written) → l.is_lost ≡ gone → GoesBy gone (λ x. x) l l
rests_by true l is = refl
rests_by false l is = (is, refl)

rests : (l m : Written) → m ≡ l → Goes (λ x. x) l m
rests l m e = subst (Goes (λ x. x) l) (sym e) (rests_by l.is_lost l refl, (refl, λ lost. (lost, refl)))

same_fields : (l m : Written) → l.taken ≡ m.taken → l.text ≡ m.text → l.clock ≡ m.clock → l.told ≡ m.told
    → l.is_trimmed ≡ m.is_trimmed → l.is_lost ≡ m.is_lost → l ≡ m
same_fields l m taken text clock told trimmed lost = λ i. record {
  taken = taken i;
  text = text i;
  clock = clock i;
  told = told i;
  is_trimmed = trimmed i;
  is_lost = lost i;
}

line_by : (was gone : Bool) (l m : Written) (e : WireEvent) → l.is_lost ≡ was → m.is_lost ≡ gone → m.clock ≡ l.clock → m.taken ≡ l.taken
    → MatchBool was (m ≡ l) (MatchBool gone (m.text ≡ l.text) ((m.text ≡ l.text ++ lines_of l.told l.clock e) × (m.told ≡ l.clock) × (m.is_trimmed ≡ false)))
    → GoesBy gone (λ x. noted x e) l m
line_by true true l m e is lost clock taken n = ap all_of n
line_by true false l m e is lost clock taken n =
    let bad : true ≡ false = sym is ∙ sym (ap (λ (x : Written). x.is_lost) n) ∙ lost in absurd (cc bad)
line_by false true l m e is lost clock taken n = ap (λ t. concat t ++ m.text) taken ∙ ap (λ t. concat l.taken ++ t) n
line_by false false l m e is lost clock taken n =
    let text : all_of m ≡ all_of l ++ lines_of l.told l.clock e = ap (λ t. concat t ++ m.text) taken ∙ ap (λ t. concat l.taken ++ t) n.0
    ∙ sym (append_assoc (concat l.taken) l.text (lines_of l.told l.clock e)) in
    (is, same_fields (whole m) (noted (whole l) e) refl text clock n.1 n.2 (lost ∙ sym is))

line : (l m : Written) (e : WireEvent) → IsNoted e l m → Goes (λ x. noted x e) l m
line l m e n = (line_by l.is_lost m.is_lost l m e refl refl n.0 n.1 n.2, (n.1, λ lost. stays lost (subst (λ b. MatchBool b (m ≡ l) (IsNotedAnew e l m)) lost n.2)))
  where
    stays : l.is_lost ≡ true → m ≡ l → (m.is_lost ≡ true) × (m.text ≡ l.text)
    stays lost same = (ap (λ (x : Written). x.is_lost) same ∙ lost, ap (λ (x : Written). x.text) same)

-- ---- a moment, a command

moment_goes : (o : WireOutcome) (now : ℕ) (h m : Written) → m ≡ h → Goes (λ x. noted_by x (Event.moment now) o) h m
moment_goes Outcome.memory now h m e = rests h m e
moment_goes (Outcome.lost x) now h m e = rests h m e
moment_goes (Outcome.said t) now h m e = rests h m e

pub written_moment : MomentIsWritten
written_moment l m t log owner about now o w fits e =
    more l m t log (entry owner about (Event.moment now) o) w fits (λ is. tt) (moment_goes o now (handed l now) m e)

request_goes : (request : Option WireEvent) (h m : Written) → NotesRequest request h m → Goes (λ x. noted_if x request) h m
request_goes None h m e = subst (Goes (λ x. x) h) (sym e) (refl, (refl, λ lost. (refl, refl)))
request_goes (Some e) h m n = line h m e n

command_goes : (s : Settled) (up watch : Option ℕ) (now : ℕ) (a : Asking) (h m : Written) → NotesCommand s a.request h m
    → Goes (λ x. noted_by x (Event.command now a) (ending_view s up watch)) h m
command_goes (settled.Reply r) up watch now a h m n = request_goes a.request h m n
command_goes settled.Memory up watch now a h m e = rests h m e
command_goes (settled.Lost revision) up watch now a h m n = request_goes a.request h m n

request_asked : (request : Option WireEvent) (h m : Written) → NotesRequest request h m → m.is_lost ≡ false → is_some request ≡ true
request_asked None h m e is = let bad : true ≡ false = sym (ap (λ (x : Written). x.is_lost) e) ∙ is in absurd (cc bad)
request_asked (Some e) h m n is = refl

-- where no line is lost, a command that was made had its request
command_asked : (s : Settled) (up watch : Option ℕ) (now : ℕ) (a : Asking) (h m : Written) → NotesCommand s a.request h m → m.is_lost ≡ false
    → HasRequest (Event.command now a) (ending_view s up watch)
command_asked (settled.Reply r) up watch now a h m n is = request_asked a.request h m n is
command_asked settled.Memory up watch now a h m e is = tt
command_asked (settled.Lost revision) up watch now a h m n is = request_asked a.request h m n is

pub written_command : CommandIsWritten
written_command l m t log owner about now a o w fits n = more l m t log (entry owner about (Event.command now a) (command_view o)) w fits
    (command_asked o.settled o.raised o.watch now a (handed l now) m n) (command_goes o.settled o.raised o.watch now a (handed l now) m n)

-- ---- a step of expiry, a message, the end of a watch

refused_goes : (b : Bool) (now : ℕ) (h m : Written) → m ≡ h
    → Goes (λ x. noted_by x (Event.expiry now) (cond b Outcome.memory (Outcome.said (WireTold.expiry told.Expiry.spent)))) h m
refused_goes true now h m e = rests h m e
refused_goes false now h m e = rests h m e

expiry_goes : (r : Result Expiry Refusal) (now : ℕ) (h m : Written) → NotesExpiry r h m
    → Goes (λ x. noted_by x (Event.expiry now) (step_outcome r)) h m
expiry_goes (Ok expiry.Nothing) now h m e = rests h m e
expiry_goes (Ok (expiry.Expired id revision raised)) now h m n = line h m WireEvent.expire n
expiry_goes (Err e) now h m same = refused_goes (is_memory e) now h m same

pub written_expiry : ExpiryIsWritten
written_expiry l m t log owner about now r w fits n =
    more l m t log (entry owner about (Event.expiry now) (step_outcome r)) w fits (λ is. tt) (expiry_goes r now (handed l now) m n)

message_goes : (number : ℕ) (r : Result Message AllocError) (l m : Written) → NotesMessage number r l m
    → Goes (λ x. noted_by x (Event.delivery number) (delivery_outcome r)) l m
message_goes number (Ok message.NoWatch) l m e = rests l m e
message_goes number (Ok message.Nothing) l m e = rests l m e
message_goes number (Ok (message.Text text)) l m n = line l m (WireEvent.deliver number) n
message_goes number (Err x) l m e = rests l m e

pub written_delivery : DeliveryIsWritten
written_delivery l m t log owner about number r w fits n =
    more l m t log (entry owner about (Event.delivery number) (delivery_outcome r)) w fits (λ is. tt) (message_goes number r l m n)

ending_goes : (stood : Bool) (number : ℕ) (l m : Written) → NotesEnding number stood l m
    → Goes (λ x. noted_by x (Event.ending number) (Outcome.said (WireTold.closed stood))) l m
ending_goes true number l m n = line l m (WireEvent.close number) n
ending_goes false number l m e = rests l m e

pub written_ending : EndingIsWritten
written_ending l m t log owner about number stood w fits n =
    more l m t log (entry owner about (Event.ending number) (Outcome.said (WireTold.closed stood))) w fits (λ is. tt) (ending_goes stood number l m n)

-- ---- a trimming step, a certificate

-- and then the mark of trimming is set
marked : (gone done : Bool) (l m : Written) → GoesBy gone (λ x. noted x WireEvent.trim) l m
    → GoesBy gone (λ x. record (noted x WireEvent.trim) { is_trimmed = done }) l (record m { is_trimmed = done })
marked true done l m g = g
marked false done l m g = (g.0, ap (λ (x : Written). record x { is_trimmed = done }) g.1)

trim_by : (b done : Bool) (l m : Written) → MatchBool b (m ≡ l) ((n : Written) × IsNoted WireEvent.trim l n × (m ≡ record n { is_trimmed = done }))
    → Goes (λ x. cond b x (record (noted x WireEvent.trim) { is_trimmed = done })) l m
trim_by true done l m e = rests l m e
trim_by false done l m n =
    let goes = line l n.0 WireEvent.trim n.1 in
    subst (Goes (λ x. record (noted x WireEvent.trim) { is_trimmed = done }) l) (sym n.2) (marked n.0.is_lost done l n.0 goes.0, goes.1)

trim_goes : (done : Bool) (l m : Written) → IsTrimNoted done l m → Goes (λ x. noted_trim x done) l m
trim_goes done l m n = trim_by (done && l.is_trimmed) done l m n

trimming_goes : (t : told.Trimmed) (c : Option (List Claim)) (l m : Written) → IsTrimNoted (is_done t) l m
    → Goes (λ x. noted_by x Event.trimming (Outcome.said (trim_told t c))) l m
trimming_goes (told.Trimmed.removed p) c l m n = trim_goes false l m n
trimming_goes (told.Trimmed.kept p) c l m n = trim_goes false l m n
trimming_goes (told.Trimmed.done count) c l m n = trim_goes true l m n

pub written_trimming : TrimmingIsWritten
written_trimming l m t log owner about step c w n =
    more l m t log (entry owner about Event.trimming (Outcome.said (trim_told step c))) w tt (λ is. tt) (trimming_goes step c l m n)

checked_goes : (t : Trimmed) (l m : Written) → IsTrimNoted (says_done t) l m
    → Goes (λ x. noted_by x Event.trimming (Outcome.said (trimmed_view t))) l m
checked_goes (trimmed.Removed p) l m n = trim_goes false l m n
checked_goes (trimmed.Kept p) l m n = trim_goes false l m n
checked_goes (trimmed.Done count certificate) l m n = trim_goes true l m n

pub written_checked : CheckedIsWritten
written_checked l m t log owner about step w n =
    more l m t log (entry owner about Event.trimming (Outcome.said (trimmed_view step))) w tt (λ is. tt) (checked_goes step l m n)

certificate_goes : (o : WireOutcome) (l m : Written) → m ≡ l → Goes (λ x. noted_by x Event.certificate o) l m
certificate_goes Outcome.memory l m e = rests l m e
certificate_goes (Outcome.lost x) l m e = rests l m e
certificate_goes (Outcome.said t) l m e = rests l m e

pub written_certificate : CertificateIsWritten
written_certificate l m t log owner about o w e = more l m t log (entry owner about Event.certificate o) w tt (λ is. tt) (certificate_goes o l m e)

-- ---- no event

-- nothing was written, whether lines are to be or not
script_first : (gone : Bool) → IsScript (blank gone) []
script_first true = record { front = []; begins = ([], refl); lines = refl; asked = All-nil (λ (x : Entry). HasRequest x.event x.outcome) }
script_first false = (refl, All-nil (λ (x : Entry). HasRequest x.event x.outcome))

taken_first : (gone : Bool) → IsTaken (blank gone) (untaken gone)
taken_first true = (refl, refl)
taken_first false = refl

first_by : (gone : Bool) → IsWritten (blank gone) (untaken gone) []
first_by gone = record {
  script = script_first gone;
  taken = taken_first gone;
  seen = ([], refl);
  fit = All-nil (λ (x : Entry). Fits x.event);
}

pub first : NothingIsWritten
first gone l t e f = subst (λ x. IsWritten x t []) (sym e) (subst (λ u. IsWritten (blank gone) u []) (sym f) (first_by gone))

-- with the text taken, all that was ever written is the same
abbrev emptied : Written → Written
emptied l = record l { taken = l.taken ++ l.text ∷ []; text = [] }

joined : (l : Written) → concat (l.taken ++ l.text ∷ []) ≡ all_of l
joined l = concat-append l.taken (l.text ∷ []) ∙ ap (λ t. concat l.taken ++ t) (append-nil l.text)

taken_all : (l : Written) → all_of (emptied l) ≡ all_of l
taken_all l = append-nil (concat (l.taken ++ l.text ∷ [])) ∙ joined l

taken_by : (gone : Bool) (l m : Written) (log : List Entry) → all_of m ≡ all_of l → whole m ≡ whole l
    → Stands gone l log → Stands gone m log
taken_by true l m log same all w = record { front = w.front; begins = w.begins; lines = same ∙ w.lines; asked = w.asked }
taken_by false l m log same all w = (all ∙ w.0, w.1)

script_emptied : (l : Written) (log : List Entry) → IsScript l log → IsScript (emptied l) log
script_emptied l log w = taken_by l.is_lost l (emptied l) log (taken_all l) (ap (λ t. record l { taken = []; text = t }) (taken_all l)) w

-- what whoever takes lines has seen then
abbrev next_by : Bool → Taken → Bool → List Entry → Taken
next_by over t all log = cond over t (record { front = log; is_over = not all })

-- what is given, by whether it was over
abbrev TakesBy : Bool → Taken → Taken → List ℕ → Bool → Type 0
TakesBy over old new text all = MatchBool over ((all ≡ false) × (new ≡ old) × (text ≡ [])) (MatchBool all (GoesOn old new text) (Ends old new text))

taking_by : (over all : Bool) (l : Written) (t : Taken) (log : List Entry) → t.is_over ≡ over → IsWritten l t log
    → MatchBool over ((l.is_lost ≡ true) × (l.text ≡ [])) (concat l.taken ≡ script_of t.front)
    → MatchBool all (l.is_lost ≡ false) (l.is_lost ≡ true)
    → IsWritten (emptied l) (next_by over t all log) log × Takes t (next_by over t all log) l.text all
taking_by true true l t log is w h lost = let bad : true ≡ false = sym h.0 ∙ lost in absurd (cc bad)
taking_by true false l t log is w h lost = (
  record {
    script = script_emptied l log w.script;
    taken = subst (λ b. MatchBool b ((l.is_lost ≡ true) × ((emptied l).text ≡ [])) (concat (emptied l).taken ≡ script_of t.front)) (sym is) (h.0, refl);
    seen = w.seen;
    fit = w.fit;
  },
  record { begins = ([], append-nil t.front); lines = subst (λ b. TakesBy b t t l.text false) (sym is) (refl, refl, h.1) },
)
taking_by false true l t log is w h lost =
    let lines : all_of l ≡ script_of log = ap (λ (x : Written). x.text) (subst (λ b. Stands b l log) lost w.script).0 in
    let all : Taken = record { front = log; is_over = false } in (
      record { script = script_emptied l log w.script; taken = joined l ∙ lines; seen = ([], append-nil log); fit = w.fit },
      record {
        begins = w.seen;
        lines = subst (λ b. TakesBy b t all l.text true) (sym is) (refl, sym lines ∙ ap (λ x. x ++ l.text) h);
      },
    )
taking_by false false l t log is w h lost =
    let cut : IsCut l log = subst (λ b. Stands b l log) lost w.script in
    let all : Taken = record { front = log; is_over = true } in
    let ends : Ends t all l.text = record { over = refl; cut = cut.front; begins = cut.begins; lines = sym cut.lines ∙ ap (λ x. x ++ l.text) h } in (
      record { script = script_emptied l log w.script; taken = (lost, refl); seen = ([], append-nil log); fit = w.fit },
      record { begins = w.seen; lines = subst (λ b. TakesBy b t all l.text false) (sym is) ends },
    )

pub written_taking : TakingIsWritten
written_taking l m t all log w e lost =
    subst (λ x. IsWritten x (taken_next t all log) log × Takes t (taken_next t all log) l.text all) (sym e)
    (taking_by t.is_over all l t log refl w w.taken lost)

pub stays_written : StaysWritten
stays_written = record {
  nothing = first;
  moment = written_moment;
  command = written_command;
  expiry = written_expiry;
  delivery = written_delivery;
  ending = written_ending;
  trimming = written_trimming;
  checked = written_checked;
  certificate = written_certificate;
  taking = written_taking;
}
