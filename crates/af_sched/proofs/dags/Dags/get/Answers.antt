use Rattle.std.proofs.Common.{sym, ◌∙◌, ap, get_or, List}
use Rattle.std.specs.Prelude.{Some}
use Rattle.af_sched.specs.declared.dag_row.DagRow.{DagRow}
use Rattle.af_sched.proofs.StandingLemmas.{dag_of-is, dag_of-none}
use Rattle.af_sched.proofs.dags.Dags.get.Goals as goal

pub returns-in_default : goal.returns-in_default
returns-in_default c = sym (dag_of-none c.args.self.now c.args.dag_id.now c.in_default.ensures.absent)

pub returns : goal.returns
returns c =
    let row : DagRow = c.index-rows-place.result in
    ap Some (c.index-rows-place.is ∙ ap (λ (rows : List DagRow). get_or rows c.in-Ok.place row) c.rows-rows.ensures) ∙ sym (dag_of-is c.args.self.now c.args.dag_id.now c.in-Ok.place c.in-Ok.ensures row)
