use Rattle.std.proofs.Common.{◌≡◌, ◌==◌, rules, true, false}
use Rattle.std.specs.Option.{option_map_or}
use Rattle.af_sched.specs.State.{has_no_step, have_pools}
use Rattle.af_sched.proofs.StandingLemmas.{exists_fault, has_dag-is}
use Rattle.af_sched.proofs.state.State.place_to_add.Goals as goal

pub returns-in-Ok-clause-err : goal.returns-in-Ok-clause-err
returns-in-Ok-clause-err c =
    let stands = rw (c.by_id.ensures, c.definition-dag.ensures.value) at c.in-Ok.ensures in
    let first : (c.args.row.now.dag.max_active_runs == 0) ≡ false = search rules in
    let second : option_map_or (λ schedule. has_no_step schedule.points) c.args.row.now.dag.schedule false ≡ false = search rules in
    let third : have_pools c.args.self.now.rows.pools c.args.row.now.dag.tasks ≡ true = search rules in
    exists_fault c.args.self.now.rows c.args.row.now first second third
    (has_dag-is c.args.self.now.rows.dags c.args.row.now.dag.dag_id c.in-Ok.field-0 stands)
