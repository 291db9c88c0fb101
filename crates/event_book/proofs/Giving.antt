-- What a holder was given by several calls, one after the other.
use Rattle.std.proofs.Common.{◌≡◌, ◌==◌, Bool, true, false, cond, [], ◌∷◌, ◌++◌, filter, refl, ap, sym, ◌∙◌, append_assoc, arith}
use Rattle.std.proofs.lemmas.Bool.Decides.{nat_tests}
use Rattle.std.proofs.lemmas.List.{append-nil}
use Rattle.std.proofs.lemmas.List.Elements.{filter-append}
use Rattle.event_book.specs.Events.{Entry, entry, events_by}
use Rattle.event_book.specs.GivingLaws.{AddsOne, GivesBoth, GivesTheirs, ShowsNone}
use Rattle.event_book.proofs.Counting.{by_append}
use Rattle.event_book.proofs.Prefixes.{prefix_trans}

own_one : (e : Entry) → events_by e.by (e ∷ []) ≡ e ∷ []
own_one e = by (e.by == e.by) (grind (arith, nat_tests))
  where
    by : (b : Bool) → b ≡ true → cond b (e ∷ []) [] ≡ e ∷ []
    by true is = refl
    by false is = absurd (cc is)

pub adds_one : AddsOne
adds_one ids c about e o later a =
    let one : Entry = entry c.number about e o in
    let mine : events_by c.number ((c.front ++ a.between) ++ one ∷ []) ≡ events_by c.number c.front ++ one ∷ [] =
    by_append c.number (c.front ++ a.between) (one ∷ [])
    ∙ (ap (λ w. w ++ events_by c.number (one ∷ [])) (by_append c.number c.front a.between ∙ (ap (λ w. events_by c.number c.front ++ w) a.others ∙ append-nil (events_by c.number c.front)))
    ∙ ap (λ w. events_by c.number c.front ++ w) (own_one one)) in
    record {
      begins = (a.between ++ one ∷ [], sym (append_assoc c.front a.between (one ∷ [])) ∙ sym a.grows);
      mine = ap (events_by c.number) a.grows ∙ mine;
      number = a.number;
    }

pub shows_none : ShowsNone
shows_none c later s = record {
  begins = (s.between, sym s.grows);
  mine = ap (events_by c.number) s.grows ∙ (by_append c.number c.front s.between ∙ ap (λ w. events_by c.number c.front ++ w) s.others);
  number = s.number;
}

pub gives_both : GivesBoth
gives_both c m later xs ys g h = record {
  begins = prefix_trans c.front m.front later.front g.begins h.begins;
  mine = ap (λ n. events_by n later.front) (sym g.number) ∙ (h.mine
      ∙ (ap (λ n. events_by n m.front ++ ys) g.number ∙ (ap (λ w. w ++ ys) g.mine ∙ append_assoc (events_by c.number c.front) xs ys)));
  number = h.number ∙ g.number;
}

pub gives_theirs : GivesTheirs
gives_theirs c about own later g = record {
  begins = g.begins;
  mine = ap (filter (λ (e : Entry). e.about == about)) g.mine ∙ filter-append (λ (e : Entry). e.about == about) (events_by c.number c.front) own;
  number = g.number;
}
