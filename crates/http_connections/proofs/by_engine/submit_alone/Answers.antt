use Rattle.http_connections.proofs.by_engine.submit_alone.Goals as goal

pub returns : goal.returns
returns g c = record {
  submitted = c.submit_request-submitted.result;
  told = c.submit_request-submitted.new.client;
  first = c.submit_request-submitted.ensures;
  awaits = c.awaited.ensures;
}
