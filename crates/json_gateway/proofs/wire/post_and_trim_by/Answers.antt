use Rattle.json_gateway.proofs.Events.{post_steps}
use Rattle.json_gateway.proofs.wire.post_and_trim_by.Goals as goal

pub returns-clause-steps : goal.returns-clause-steps
returns-clause-steps c = λ w h.
    post_steps c.args.ids.now w c.args.path.now c.args.body.now c.post_by-outcome.result c.args.core.now c.post_by-outcome.new.core
    c.trim_where.new.core (record {
      stood = h;
      ends = c.post_by-outcome.ensures.ends w h;
      keeps = c.post_by-outcome.ensures.keeps w h;
      ready = c.post_by-outcome.ensures.ready;
      waits = c.post_by-outcome.ensures.waits w h;
      trims = c.trim_where.ensures;
    })
