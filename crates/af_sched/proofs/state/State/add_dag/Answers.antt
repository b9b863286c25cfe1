use Rattle.std.proofs.Common.{◌≡◌, ◌∙◌, sym}
use Rattle.af_sched.specs.State.{with_dag}
use Rattle.af_sched.proofs.StateLemmas.{with_dag-is_insert, AreRows-insert}
use Rattle.af_sched.proofs.state.State.add_dag.Goals as goal

pub invariant_of-self-2 : goal.invariant_of-self-2
invariant_of-self-2 c =
    let can = rw (← c.self.view_is) at c.in_ok-place.ensures.ok in
    rw c.in_ok-insert.ensures.ok (AreRows-insert c.self.inside.dags c.args.row c.in_ok-place.place can.fits c.self.inside.runs.rows can.sound can.few c.self.invariant)

pub returns-clause-ok : goal.returns-clause-ok
returns-clause-ok c =
    let can = rw (← c.self.view_is) at c.in_ok-place.ensures.ok in
    let dags : c.insert.new.self ≡ with_dag c.self.inside.dags c.args.row = c.in_ok-insert.ensures.ok ∙ sym (with_dag-is_insert c.self.inside.dags c.args.row c.in_ok-place.place can.fits) in
    rw (← c.self.view_is) (λ i. record {
      rows = record { dags = dags i; runs = c.self.inside.runs.rows; next_run = c.self.inside.runs.next; pools = c.self.inside.pools.rows; variables = c.self.inside.variables.rows };
      spare_runs = c.self.inside.runs.spare;
      spare_pools = c.self.inside.pools.spare;
      spare_variables = c.self.inside.variables.spare;
    })
