use Rattle.std.proofs.Common.{◌≡◌, ◌||◌, List, ℕ, take}
use Rattle.af_role.specs.declared.action.Action.TheVariants.{Read}
use Rattle.af_role.specs.declared.dag_part.DagPart.TheVariants.{Itself}
use Rattle.af_role.specs.DagMasks.{dag_has}
use Rattle.af_policy.specs.Views.{is_named}
use Rattle.af_policy.proofs.named_dags.add_readable.Given as goal

abbrev pub invariant-loop-row : goal.invariant-loop-row
invariant-loop-row l =
    (dag : List ℕ) → is_named l.named.rows dag ≡ (is_named l.initial.named.rows dag || dag_has (take l.row-index l.row-items) Itself dag Read)
