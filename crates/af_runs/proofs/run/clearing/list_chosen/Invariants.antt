use Rattle.std.proofs.Common.{◌≡◌, ◌++◌, map, take, ℕ}
use Rattle.std.specs.Prelude.{filter}
use Rattle.std.specs.List.{enumerate_from}
use Rattle.af_runs.specs.Clears.{is_chosen}
use Rattle.af_runs.specs.declared.instance.Instance.{Instance}
use Rattle.af_runs.proofs.run.clearing.list_chosen.Given as goal

abbrev pub invariant-loop-place : goal.invariant-loop-place
invariant-loop-place l =
    l.all.items ≡ l.initial.all.items ++ map (λ (row : ℕ × Instance). record { run = l.run; place = row.0 }) (filter (is_chosen l.selection) (take l.place (enumerate_from 0 l.run.instances)))
