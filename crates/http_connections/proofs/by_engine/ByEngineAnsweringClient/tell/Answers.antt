use Rattle.std.proofs.Common.{Option, inl, inr, refl, subst}
use Rattle.std.specs.Prelude.{MatchOption}
use Rattle.http_loop.specs.declared.answering.Told.{Told}
use Rattle.http_connections.specs.Engines.{AreQuiet, IsQuiet, Says}
use Rattle.http_connections.proofs.by_engine.ByEngineAnsweringClient.tell.Goals as goal

pub loop-init : goal.loop-init
loop-init g c = AreQuiet.none

pub returns-in-Some-told_next : goal.returns-in-Some-told_next
returns-in-Some-told_next g c = inl (
  c.loop.state,
  c.loop.invariant,
  subst (λ (r : Option Told). MatchOption r (IsQuiet c.args.self.now.events.engine.now.ids c.args.number c.loop.state c.told_next.new.client)
      (λ t. Says c.args.self.now.events.engine.now.ids c.args.number c.loop.state t c.told_next.new.client)) c.in-Some-told_next.is c.told_next.ensures,
)

pub loop-preserved : goal.loop-preserved
loop-preserved g c = AreQuiet.more c.loop.invariant c.in_default.ensures

pub returns-then-has_left : goal.returns-then-has_left
returns-then-has_left g c = inr (refl, c.has_left.ensures c.if-has_left.true, AreQuiet.more c.loop.invariant c.in_default.ensures)
