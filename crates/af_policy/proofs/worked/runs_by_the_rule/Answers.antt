use Rattle.std.proofs.Common.{refl}
use Rattle.af_role.specs.DefaultRoles.{admin_pairs, op_pairs, user_pairs, viewer_pairs}
use Rattle.af_policy.specs.Drafts.{opening}
use Rattle.af_policy.specs.Samples.{sample, sample_with_runs}
use Rattle.af_policy.proofs.worked.runs_by_the_rule.Goals as goal

pub returns-clause-own : goal.returns-clause-own
unfolding viewer_pairs user_pairs op_pairs admin_pairs opening sample sample_with_runs
returns-clause-own c = refl

pub returns-clause-all_runs : goal.returns-clause-all_runs
unfolding viewer_pairs user_pairs op_pairs admin_pairs opening sample sample_with_runs
returns-clause-all_runs c = refl

pub returns-clause-some_runs : goal.returns-clause-some_runs
unfolding viewer_pairs user_pairs op_pairs admin_pairs opening sample sample_with_runs
returns-clause-some_runs c = refl

pub returns-clause-unread : goal.returns-clause-unread
unfolding viewer_pairs user_pairs op_pairs admin_pairs opening sample sample_with_runs
returns-clause-unread c = refl

pub returns-clause-no_such_dag : goal.returns-clause-no_such_dag
unfolding viewer_pairs user_pairs op_pairs admin_pairs opening sample sample_with_runs
returns-clause-no_such_dag c = refl

pub returns-clause-other_action : goal.returns-clause-other_action
unfolding viewer_pairs user_pairs op_pairs admin_pairs opening sample sample_with_runs
returns-clause-other_action c = refl

pub returns-clause-one_dag : goal.returns-clause-one_dag
unfolding viewer_pairs user_pairs op_pairs admin_pairs opening sample sample_with_runs
returns-clause-one_dag c = refl

pub returns-clause-read : goal.returns-clause-read
unfolding viewer_pairs user_pairs op_pairs admin_pairs opening sample sample_with_runs
returns-clause-read c = refl

pub returns-clause-not_read : goal.returns-clause-not_read
unfolding viewer_pairs user_pairs op_pairs admin_pairs opening sample sample_with_runs
returns-clause-not_read c = refl

pub returns-clause-shown : goal.returns-clause-shown
unfolding viewer_pairs user_pairs op_pairs admin_pairs opening sample sample_with_runs
returns-clause-shown c = refl

pub returns-clause-not_shown : goal.returns-clause-not_shown
unfolding viewer_pairs user_pairs op_pairs admin_pairs opening sample sample_with_runs
returns-clause-not_shown c = refl
