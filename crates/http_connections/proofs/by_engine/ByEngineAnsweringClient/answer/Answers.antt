use Rattle.http_connections.proofs.by_engine.ByEngineAnsweringClient.answer.Goals as goal

pub returns : goal.returns
returns g c = record {
  submitted = c.begin-submitted.result;
  told = c.begin-submitted.new.client;
  first = c.begin-submitted.ensures;
  awaits = c.awaited.ensures;
}
