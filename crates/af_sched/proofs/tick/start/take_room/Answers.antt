use Rattle.std.proofs.Common.{◌∙◌, ◌-◌, sym, ap, get_or, set, List, ℕ}
use Rattle.std.specs.Prelude.{nat_lt}
use Rattle.af_sched.proofs.RoomLemmas.{had_at, had_none, less_at, less_none}
use Rattle.af_sched.proofs.tick.start.take_room.Goals as goal

pub returns-in_default-clause-had : goal.returns-in_default-clause-had
returns-in_default-clause-had c = λ room is. sym (had_none room c.args.dag_id.now c.args.dags.now c.in_default.ensures.absent)

pub returns-in_default-clause-left : goal.returns-in_default-clause-left
returns-in_default-clause-left c = λ room is. is ∙ sym (less_none room c.args.dag_id.now c.args.dags.now c.in_default.ensures.absent)

pub returns-clause-had : goal.returns-clause-had
returns-clause-had c = λ room is.
    ap (λ (xs : List ℕ). nat_lt 0 (get_or xs c.in-Ok.place 0)) is ∙ had_at room c.args.dag_id.now c.args.dags.now c.in-Ok.place c.in-Ok.ensures

pub returns-clause-left : goal.returns-clause-left
returns-clause-left c = λ room is.
    ap (set c.args.left.now c.in-Ok.place) c.saturating_sub.ensures
    ∙ ap (λ (xs : List ℕ). set xs c.in-Ok.place (get_or xs c.in-Ok.place 0 - 1)) is
    ∙ less_at room c.args.dag_id.now c.args.dags.now c.in-Ok.place c.in-Ok.ensures
