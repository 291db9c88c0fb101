use Rattle.std.proofs.Common.{◌≡◌, ◌∙◌, sym, subst, MatchBool}
use Rattle.kv_model.specs.Wire.{WireEvent}
use Rattle.recording.specs.Lines.{IsNoted, Written}
use Rattle.recording.proofs.lines.Lines.note_trim.Goals as goal

pub returns : goal.returns
returns c =
    let old = c.args.self.now in
    let new = c.mark.new.self in
    subst (λ said. MatchBool said (new ≡ old) ((noted : Written) × IsNoted WireEvent.trim old noted × (new ≡ record noted { is_trimmed = c.args.is_done })))
    (sym (sym c.has_said.ensures ∙ c.if-has_said.false)) (c.note.new.self, c.note.ensures, c.mark.ensures)
