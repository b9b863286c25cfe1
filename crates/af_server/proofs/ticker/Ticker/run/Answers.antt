use Rattle.std.proofs.Common.{◌≡◌, ◌∙◌, List, false, subst, sym}
use Rattle.af_plane.specs.declared.session_log.SessionLog.{SessionLog}
use Rattle.af_plane.specs.Logs.{rows_of}
use Rattle.af_plane.specs.Visits.{SessionRows}
use Rattle.af_server.specs.declared.stop_wait.StopWait.{StopWait}
use Rattle.af_server.specs.Rounds.{AreRounds}
use Rattle.af_server.proofs.TickerLemmas.{rounds_on, wait_is}
use Rattle.af_server.proofs.ticker.Ticker.run.Goals as goal

pub loop-preserved : goal.loop-preserved
loop-preserved g c =
    let inv = c.loop.invariant in
    let done = c.log.result.now in
    let wait = c.wait-wait.result in (
      subst
          (λ (waits : List (StopWait × SessionLog)). AreRounds g.R.Machine.behaviour.tells g.N.Named.name c.args.scripted.now c.args.stop.now c.args.period waits c.args.self.now c.round.new.self)
          (sym c.wait-wait.ensures.waits)
          (rounds_on g.R.Machine.behaviour.tells g.N.Named.name c.args.scripted.now c.loop.scripted c.args.stop.now c.args.period (g.R.Log.MachineLog.waits c.loop.log) c.args.self.now c.loop.self c.round.new.self (wait, done) inv.1 inv.0 (
            wait_is wait c.args.stop.now c.args.period false c.wait-wait.ensures.time.0 c.wait-wait.ensures.time.1 c.if-wait.false,
            subst (λ (session : SessionRows). rows_of session.visit done ≡ session) c.self-in-loop.view_is c.log.ensures,
          ) c.round.ensures.round),
      c.round.ensures.kept ∙ inv.1,
      c.wait-wait.ensures.connections ∙ inv.2,
    )
