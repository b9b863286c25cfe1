use Rattle.std.proofs.Common.{◌≡◌, ◌∙◌, sym, ap, Bool}
use Rattle.std.specs.Prelude.{Some, None, if◌then◌else◌}
use Rattle.af_trace.specs.Traces.{TraceRows}
use Rattle.af_trace.proofs.AgreeLemmas.{agree}
use Rattle.af_trace.proofs.trace.Trace.agrees.Goals as goal

pub returns-then-self : goal.returns-then-self
returns-then-self c =
    agree c.args.opening.now c.args.self.now _ _ c.check_trace.result
    (ap (λ (t : TraceRows). t.steps) (sym c.self.view_is) ∙ sym c.as_slice.ensures.value)
    (ap (λ (t : TraceRows). t.answers) (sym c.self.view_is)
    ∙ ap (λ (b : Bool). if b then Some c.self.inside.answers.items else None) c.if-self.true
    ∙ ap Some (sym c.as_slice-then-self.ensures.value))
    c.check_trace.ensures
