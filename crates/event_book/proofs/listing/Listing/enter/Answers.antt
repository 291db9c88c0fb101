use Rattle.std.proofs.Common.{ap, sym, subst, ◌∙◌, ◌≡◌, ◌+◌, ◌++◌, ◌∷◌, [], List, length, arith, length-append, slice_index_or, slice_set, ℕ}
use Rattle.event_book.specs.Callers.{Adds, Caller, made_by}
use Rattle.event_book.specs.Events.{Answers, Entry, IsHistory, clocked, events_by, led_to}
use Rattle.event_book.specs.Lists.{AreCounted}
use Rattle.event_book.proofs.Counting.{count_own, counted_by}
use Rattle.event_book.proofs.Histories.{entered, history_more}
use Rattle.event_book.proofs.listing.Listing.enter.Goals as goal

pub invariant_of-self : goal.invariant_of-self
invariant_of-self g c =
    let x : Entry = g.M.Plain.ask c.args.about.now in
    let n : ℕ = c.holder.inside.number in
    let log : List Entry = c.self.inside.front.list in
    let known = c.knows.ensures c.sure.ensures in
    let same : length (events_by n log) ≡ length (events_by n c.holder.inside.front.list) =
    subst (λ (l : List Entry). length (events_by n l) ≡ length (events_by n c.holder.inside.front.list)) (sym c.self.view_is)
    (subst (λ (h : Caller). length (events_by h.number c.args.self.now) ≡ made_by h) (sym c.holder.view_is) known) in
    let by : x.by ≡ n = c.requires.by ∙ sym (ap (λ h. h.number) c.holder.view_is) in
    let answers : Answers g.L.ListName.ids (clocked (led_to log) x.event) x.event x.outcome =
    subst (λ (l : List Entry). Answers g.L.ListName.ids (clocked (led_to l) x.event) x.event x.outcome) (sym c.self.view_is) c.requires.answers in
    let grew : c.add-added.new.self.list ≡ log ++ x ∷ [] = c.add-added.ensures.list c.sure-3.ensures in
    let is : c.holder.inside.count + 1 ≡ slice_index_or c.self.inside.counts n 0 + 1 =
    ap (λ k. k + 1) (c.holder.invariant.2 ∙ (sym same ∙ sym (c.self.invariant.4.each n c.holder.invariant.3))) in (
      c.self.invariant.0,
      c.add-added.ensures.book ∙ c.self.invariant.1,
      subst (IsHistory g.L.ListName.ids) (sym grew) (history_more g.L.ListName.ids log x c.self.invariant.2 answers c.requires.asked),
      omega (arith, c.add.ensures.total, c.self.invariant.3, ap length grew, length-append log (x ∷ [])),
      subst (λ (l : List Entry). AreCounted (slice_set c.self.inside.counts n (c.holder.inside.count + 1)) l) (sym grew)
          (counted_by c.self.inside.counts log x (c.holder.inside.count + 1) n by c.self.invariant.4 (omega (arith, c.self.invariant.4.all, c.holder.invariant.3)) c.holder.invariant.3 is),
    )

pub invariant_of-holder : goal.invariant_of-holder
invariant_of-holder g c =
    let x : Entry = g.M.Plain.ask c.args.about.now in
    let n : ℕ = c.holder.inside.number in
    let log : List Entry = c.self.inside.front.list in
    let known = c.knows.ensures c.sure.ensures in
    let same : length (events_by n log) ≡ length (events_by n c.holder.inside.front.list) =
    subst (λ (l : List Entry). length (events_by n l) ≡ length (events_by n c.holder.inside.front.list)) (sym c.self.view_is)
    (subst (λ (h : Caller). length (events_by h.number c.args.self.now) ≡ made_by h) (sym c.holder.view_is) known) in
    let by : x.by ≡ n = c.requires.by ∙ sym (ap (λ h. h.number) c.holder.view_is) in
    let answers : Answers g.L.ListName.ids (clocked (led_to log) x.event) x.event x.outcome =
    subst (λ (l : List Entry). Answers g.L.ListName.ids (clocked (led_to l) x.event) x.event x.outcome) (sym c.self.view_is) c.requires.answers in
    let front = c.add-added.ensures.other c.sure-3.ensures in
    let grew : c.add-added.new.other.list ≡ log ++ x ∷ [] = ap (λ f. f.list) front ∙ c.add-added.ensures.list c.sure-3.ensures in (
      c.add.ensures.parts ∙ c.holder.invariant.0,
      c.add.ensures.amount ∙ ap (λ k. k + 1) c.holder.invariant.1,
      ap (λ k. k + 1) (c.holder.invariant.2 ∙ sym same) ∙ (sym (count_own n log x by) ∙ ap (λ l. length (events_by n l)) (sym grew)),
      c.holder.invariant.3,
      ap (λ f. f.book) front ∙ (c.add-added.ensures.book ∙ c.self.invariant.1),
      subst (IsHistory g.L.ListName.ids) (sym grew) (history_more g.L.ListName.ids log x c.self.invariant.2 answers c.requires.asked),
    )

pub returns-clause-adds : goal.returns-clause-adds
returns-clause-adds g c =
    let x : Entry = g.M.Plain.ask c.args.about.now in
    let n : ℕ = c.holder.inside.number in
    let log : List Entry = c.self.inside.front.list in
    let known = c.knows.ensures c.sure.ensures in
    let same : length (events_by n log) ≡ length (events_by n c.holder.inside.front.list) =
    subst (λ (l : List Entry). length (events_by n l) ≡ length (events_by n c.holder.inside.front.list)) (sym c.self.view_is)
    (subst (λ (h : Caller). length (events_by h.number c.args.self.now) ≡ made_by h) (sym c.holder.view_is) known) in
    let by : x.by ≡ n = c.requires.by ∙ sym (ap (λ h. h.number) c.holder.view_is) in
    let answers : Answers g.L.ListName.ids (clocked (led_to log) x.event) x.event x.outcome =
    subst (λ (l : List Entry). Answers g.L.ListName.ids (clocked (led_to l) x.event) x.event x.outcome) (sym c.self.view_is) c.requires.answers in
    subst (λ (h : Caller). Adds g.L.ListName.ids h x.about x.event x.outcome (record { number = n; front = c.add-added.new.other.list })) c.holder.view_is
    (entered g.L.ListName.ids n c.holder.inside.front.list log c.add-added.new.self.list c.add-added.new.other.list x by
    (c.add-added.ensures.begins c.sure-3.ensures) same c.self.invariant.2 answers c.requires.asked (c.add-added.ensures.list c.sure-3.ensures)
    (ap (λ f. f.list) (c.add-added.ensures.other c.sure-3.ensures)))
