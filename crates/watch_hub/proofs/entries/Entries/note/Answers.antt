use Rattle.std.proofs.Common.{map, ◌∙◌, ap}
use Rattle.store_laws.specs.Stands.{noted}
use Rattle.watch_hub.specs.Entries.{seen_in}
use Rattle.watch_hub.proofs.Placing.{all-listed}
use Rattle.watch_hub.proofs.entries.Entries.note.Goals as goal

pub returns : goal.returns
returns c = all-listed (seen_in c.self.inside.slab) (seen_in c.note_each-waiting.new.slab)
    (noted c.args.versions.now c.args.now) c.self.inside.places.items c.note_each-waiting.ensures.each c.self.invariant.placed.present
    ∙ ap (map (noted c.args.versions.now c.args.now)) c.self.view_is
