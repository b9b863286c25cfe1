use Rattle.std.proofs.Common.{arith}
use Rattle.sqlite_store.specs.FileStore.{state}
use Rattle.sqlite_trees.proofs.Doubt.{clean_of}
use Rattle.af_journal.proofs.opening.make.Goals as goal

pub returns-in-Ok-clause-empty : goal.returns-in-Ok-clause-empty
returns-in-Ok-clause-empty g c clean = c.in-Ok.ensures.empty (clean_of (state c.in-Ok.store).is_clean clean) 0 (omega arith)

pub returns-in-Ok-clause-honest : goal.returns-in-Ok-clause-honest
returns-in-Ok-clause-honest g c clean = c.in-Ok.ensures.honest (clean_of (state c.in-Ok.store).is_clean clean)

pub returns-in-Ok-clause-shielded : goal.returns-in-Ok-clause-shielded
returns-in-Ok-clause-shielded g c clean = c.in-Ok.ensures.guarded (clean_of (state c.in-Ok.store).is_clean clean)
