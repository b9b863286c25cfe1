use Rattle.std.proofs.Common.{◌∙◌, sym, ap, ℕ, List}
use Rattle.std.specs.Prelude.{Option}
use Rattle.af_policy.specs.Grants.{readable_by}
use Rattle.af_policy.specs.Views.{held}
use Rattle.af_ops.specs.Verdicts.{Tells}
use Rattle.af_ops.proofs.DecisionLemmas.{read_told, read_wanted}
use Rattle.af_ops.proofs.deciding.permitted_read.Goals as goal

pub returns-in-Ok : goal.returns-in-Ok
returns-in-Ok c = record {
  verdict = λ limit under.
      read_told (readable_by (held c.args.view.now)) c.args.state.now.rows c.args.op.now c.args.now c.requires limit under c.in-Ok.prepared c.in-Ok.ensures.told
      ∙ ap (λ (reply : Option (List ℕ)). Tells reply) (sym c.into_reply.ensures);
}

pub returns-in-Err : goal.returns-in-Err
returns-in-Err c = record {
  verdict = λ limit under.
      read_wanted (readable_by (held c.args.view.now)) c.args.state.now.rows c.args.op.now c.args.now c.requires limit under c.in-Err.fault c.in-Err.ensures.told;
}
