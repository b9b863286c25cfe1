use Rattle.std.proofs.Common.{refl}
use Rattle.form_urlencoded.specs.Form.{raw_pairs, split}
use Rattle.percent_encoding.specs.Percent.{percent_decode}
use Rattle.af_ops.proofs.worked_pages.windows_by_the_rule.Goals as goal

pub returns-clause-dags : goal.returns-clause-dags
unfolding raw_pairs split percent_decode
returns-clause-dags c = refl

pub returns-clause-runs : goal.returns-clause-runs
unfolding raw_pairs split percent_decode
returns-clause-runs c = refl

pub returns-clause-one_dag : goal.returns-clause-one_dag
unfolding raw_pairs split percent_decode
returns-clause-one_dag c = refl

pub returns-clause-instances : goal.returns-clause-instances
unfolding raw_pairs split percent_decode
returns-clause-instances c = refl

pub returns-clause-pools : goal.returns-clause-pools
unfolding raw_pairs split percent_decode
returns-clause-pools c = refl

pub returns-clause-variables : goal.returns-clause-variables
unfolding raw_pairs split percent_decode
returns-clause-variables c = refl
