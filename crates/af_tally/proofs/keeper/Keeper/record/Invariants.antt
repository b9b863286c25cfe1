use Rattle.std.proofs.Common.{[], ◌∷◌}
use Rattle.af_tally.proofs.keeper.Keeper.record.Given as goal

-- the entry that is recorded
abbrev pub ghosts-add : goal.ghosts-add
ghosts-add g a = record { entries = a.entry.now ∷ [] }
