use Rattle.std.specs.Prelude.{◌≡◌, length}
use Rattle.af_server.specs.Connections.{AnswersEach, CameAt}
use Rattle.af_server.proofs.serving.Serving.serve_each.Given as goal

-- as many connections as were counted, each of the port, and each answered
abbrev pub invariant-loop-count : goal.invariant-loop-count
invariant-loop-count g l =
    AnswersEach g.S.Service.answers (g.R.Log.MachineLog.connections l.log) l.fn.self l.self
    × (length (g.R.Log.MachineLog.connections l.log) ≡ l.count)
    × CameAt l.fn.listener (g.R.Log.MachineLog.connections l.log)
    × (g.R.Log.MachineLog.waits l.log ≡ g.R.Log.MachineLog.waits l.fn.log)
