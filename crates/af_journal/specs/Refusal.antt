-- Which refusals leave the two files as they were.
use Rattle.std.specs.Prelude.{Bool, true, false}
use Rattle.af_journal.specs.declared.refusal.Refusal.{Refusal}
use Rattle.af_journal.specs.declared.refusal.Refusal.TheVariants.{Foreign, DamagedLogHeader, LogAlone}

-- It is told before anything is written.
abbrev pub only_looks : Refusal → Bool
only_looks Foreign = true
only_looks DamagedLogHeader = true
only_looks LogAlone = true
only_looks _ = false
