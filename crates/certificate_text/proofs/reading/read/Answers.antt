use Rattle.certificate_text.specs.Lines.{lines_of}
use Rattle.certificate_text.specs.Walking.{head_read}
use Rattle.certificate_text.proofs.ReadLaws.{told_ok, told_unreadable, told_whole, told_early}
use Rattle.certificate_text.proofs.reading.read.Goals as goal

pub returns-clause-ok : goal.returns-clause-ok
returns-clause-ok c = told_ok c.args.text.now c.text_read.result c.told.result c.text_read.ensures.gives c.told.ensures

pub returns-clause-unreadable : goal.returns-clause-unreadable
returns-clause-unreadable c = told_unreadable c.args.text.now c.text_read.result c.told.result c.text_read.ensures.gives c.told.ensures

pub returns-clause-whole : goal.returns-clause-whole
returns-clause-whole c = told_whole c.args.text.now c.text_read.result c.told.result c.text_read.ensures.gives c.told.ensures

pub returns-clause-early : goal.returns-clause-early
returns-clause-early c =
    told_early c.args.text.now c.text_read.result c.told.result (head_read (lines_of c.args.text.now)) c.text_read.ensures.early c.told.ensures
