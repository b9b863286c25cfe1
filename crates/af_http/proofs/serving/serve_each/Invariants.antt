use Rattle.af_http.proofs.RunLemmas.{Begun}
use Rattle.af_http.proofs.serving.serve_each.Given as goal

abbrev pub invariant-loop-count : goal.invariant-loop-count
invariant-loop-count g l =
    Begun g.S.Service.answers l.count l.fn.service l.service (g.R.Source.given l.fn.reader) (g.R.Source.given l.reader) l.connection.incoming
    (record { sink = g.W.Sink.taken l.fn.writer; waiting = l.fn.connection.outgoing }) (record { sink = g.W.Sink.taken l.writer; waiting = l.connection.outgoing })
