use Rattle.std.specs.Prelude.{◌≡◌}
use Rattle.af_server.specs.Rounds.{AreRounds}
use Rattle.af_server.proofs.ticker.Ticker.run.Given as goal

-- a round after each wait, by the scripts that there were
abbrev pub invariant-loop : goal.invariant-loop
invariant-loop g l =
    AreRounds g.R.Machine.behaviour.tells g.N.Named.name l.fn.scripted l.fn.stop l.fn.period (g.R.Log.MachineLog.waits l.log) l.fn.self l.self
    × (l.scripted ≡ l.fn.scripted)
    × (g.R.Log.MachineLog.connections l.log ≡ g.R.Log.MachineLog.connections l.fn.log)
