-- The pair is still there.
use Rattle.key_pages.proofs.Places.{inside-set}
use Rattle.key_pages.proofs.page.Page.cut_there.Goals as goal

pub take_out-requires : goal.take_out-requires
take_out-requires g c = inside-set c.args.index _ c.args.self.now _ c.requires c.cut_at.ensures.pairs
