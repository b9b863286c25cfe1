use Rattle.std.proofs.Common.{ap, ◌∙◌}
use Rattle.af_policy.specs.Views.{is_named}
use Rattle.af_policy.proofs.NamedLemmas.{named_new}
use Rattle.af_policy.proofs.named_dags.add.Goals as goal

pub returns-in_ok-insert_at-in-Err : goal.returns-in_ok-insert_at-in-Err
returns-in_ok-insert_at-in-Err c other =
    let fits = rw c.as_str.ensures.text at c.in-Err.ensures in
    ap (λ ids. is_named ids other) c.in_ok-insert_at-in-Err.ensures.ok
    ∙ named_new c.args.named.now.rows c.args.dag.now c.in-Err.place fits other
