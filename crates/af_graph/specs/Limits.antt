-- The limits of a definition (this product's own rules).
use Rattle.std.specs.Prelude.{ℕ}

-- the most tasks of a DAG
abbrev pub most_tasks : ℕ
most_tasks = 512

-- the most slots that a pool has, and that an instance of a task occupies
abbrev pub most_slots : ℕ
most_slots = 1_000_000
