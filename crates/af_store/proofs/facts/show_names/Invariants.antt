use Rattle.std.proofs.Common.{drop}
use Rattle.af_store.specs.Names.{AreNames}
use Rattle.af_store.proofs.facts.show_names.Given as goal

-- if those that are left are names, all are
abbrev pub invariant-loop-name : goal.invariant-loop-name
invariant-loop-name g l = AreNames g.K.NameKind.grammar (drop l.name-index l.names) → AreNames g.K.NameKind.grammar l.names
