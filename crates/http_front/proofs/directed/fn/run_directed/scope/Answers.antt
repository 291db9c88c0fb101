use denote.Param.Send.{arg_send, param_send}
use Rattle.http_front.proofs.directed.fn.run_directed.scope.Goals as goal

-- the engine's name may cross, as this closure asks
pub serve_directed-requires-send-L : goal.serve_directed-requires-send-L
serve_directed-requires-send-L g c κs _ = param_send 1 _ (arg_send _ _ _ c.requires.1.1.1.1.1.1.0)
