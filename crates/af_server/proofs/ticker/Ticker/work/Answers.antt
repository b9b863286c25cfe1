use Rattle.std.proofs.Common.{◌∙◌}
use Rattle.af_server.proofs.TickerLemmas.{tries_on}
use Rattle.af_server.proofs.ticker.Ticker.work.Goals as goal

pub loop-preserved : goal.loop-preserved
loop-preserved g c = (
  tries_on g.R.Machine.behaviour.tells g.N.Named.name c.args.scripted.now c.loop.scripted c.args.self.now c.loop.self c.attempt.new.self c.loop.invariant.1 c.loop.invariant.0 c.if-not-attempt.ensures.tried,
  c.attempt.ensures.kept ∙ c.loop.invariant.1,
)
