-- Marks of the ids of DAGs: which DAGs are surely not among those whose marks are set.
use Rattle.std.specs.Prelude.{ℕ, ◌+◌, ◌-◌, ◌*◌, ◌%◌, List, Bool, true, false, ◌≡◌, not, get_or, length}
use Rattle.std.specs.List.{list_any}
use Rattle.af_role.specs.declared.dag_mask.DagActions.{DagActions}

-- the mark of a DAG, by the last two bytes of its id
abbrev pub mark_of : List ℕ → ℕ
mark_of id = get_or id (length id - 2) 0 % 16 * 16 + get_or id (length id - 1) 0 % 16

-- the mark of a DAG is set
abbrev pub is_marked : List Bool → List ℕ → Bool
is_marked marks id = get_or marks (mark_of id) true

-- the mark of each row's DAG is set
abbrev pub AreMarked : List Bool → List DagActions → Type 0
AreMarked marks rows = list_any (λ row. not (is_marked marks row.dag)) rows ≡ false
