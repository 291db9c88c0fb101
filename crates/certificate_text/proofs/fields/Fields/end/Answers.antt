use Rattle.std.proofs.Common.{◌≡◌, ◌∙◌, None, ap, sym, subst}
use Rattle.certificate_text.specs.Fields.{parts_left}
use Rattle.certificate_text.specs.Reading.{end_at}
use Rattle.certificate_text.proofs.Cuts.{no_end}
use Rattle.certificate_text.proofs.fields.Fields.end.Goals as goal

pub returns-in-Some : goal.returns-in-Some
returns-in-Some c = (subst (λ xs. end_at xs ≡ None) c.self.view_is (ap (λ rest. end_at (parts_left 32 rest)) c.in-Some.is ∙ no_end 32 c.in-Some.field-0.now), tt)
