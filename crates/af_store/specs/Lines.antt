-- What lines say, by their kind (this product's own rule).
use Rattle.std.specs.Prelude.{ℕ, List, Result, Ok}
use Rattle.af_base.specs.Readings.{◌>>=◌}
use Rattle.af_store.specs.ChangeReads.{change_of}
use Rattle.af_store.specs.EntryReads.{entry_of}
use Rattle.af_store.specs.OpeningLines.{opening_of}
use Rattle.af_store.specs.declared.line.Line.{Line}
use Rattle.af_store.specs.declared.line.Line.TheVariants as line
use Rattle.af_store.specs.declared.line_fault.LineFault.{LineFault}
use Rattle.af_store.specs.declared.line_kind.LineKind.{LineKind}
use Rattle.af_store.specs.declared.line_kind.LineKind.TheVariants as kind

-- a body says what it says of its own kind alone
abbrev pub line_of : LineKind → List ℕ → Result Line LineFault
line_of kind.Opened body = opening_of body >>= (λ config. Ok (line.Opened config))
line_of kind.Entry body = entry_of body >>= (λ entry. Ok (line.Entry entry))
line_of kind.Change body = change_of body >>= (λ change. Ok (line.Change change))
