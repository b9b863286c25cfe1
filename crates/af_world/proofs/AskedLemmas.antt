-- What is asked of the ledger leaves its version.
use Rattle.std.proofs.Common.{◌≡◌, inl, inr, ap, ℕ, List}
use Rattle.std.specs.Prelude.{Option, Some, None}
use Rattle.af_ops.specs.declared.op.Op.{Op}
use Rattle.af_audit.specs.Answered.{MayEnter}
use Rattle.af_audit.specs.Ledgers.{LedgerRows}

pub version_stays : (who : Option (List ℕ)) (asked : Op) (t : ℕ) (old new : LedgerRows) → MayEnter who asked t old new → new.version ≡ old.version
version_stays who asked t old new (inl same) = ap (λ (l : LedgerRows). l.version) same
version_stays None asked t old new (inr enters) = absurd enters
version_stays (Some user) asked t old new (inr enters) = ap (λ (l : LedgerRows). l.version) enters.ledger
