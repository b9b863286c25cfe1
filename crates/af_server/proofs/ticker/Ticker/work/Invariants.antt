use Rattle.std.proofs.Common.{◌≡◌, ℕ}
use Rattle.af_server.specs.Rounds.{HasTriedAll}
use Rattle.af_server.proofs.ticker.Ticker.work.Given as goal

-- so many tries so far, by the scripts that there were
abbrev pub invariant-loop : goal.invariant-loop
invariant-loop g l =
    ((tries : ℕ) × HasTriedAll g.R.Machine.behaviour.tells g.N.Named.name l.fn.scripted tries l.fn.self l.self) × (l.scripted ≡ l.fn.scripted)
