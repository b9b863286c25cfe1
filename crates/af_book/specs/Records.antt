-- What the lines of a book say after the one that opens it: entries of the audit, and changes of the policy (this product's own rule).
use Rattle.std.specs.Prelude.{ℕ, List, [], ◌∷◌, ◌++◌, unwrap_or, Result, Ok, Err, take, length}
use Rattle.std.specs.List.{find}
use Rattle.af_audit.specs.declared.entry.Entry.{Entry}
use Rattle.af_journal.specs.Lines as journal
use Rattle.af_store.specs.Bodies.{same_text}
use Rattle.af_store.specs.Chains.{kind_text, kinds}
use Rattle.af_store.specs.Lines.{line_of}
use Rattle.af_store.specs.declared.change_line.ChangeLine.{ChangeLine}
use Rattle.af_store.specs.declared.line.Line.{Line}
use Rattle.af_store.specs.declared.line.Line.TheVariants as line
use Rattle.af_store.specs.declared.line_fault.LineFault.{LineFault}
use Rattle.af_store.specs.declared.line_kind.LineKind.{LineKind}
use Rattle.af_store.specs.declared.line_kind.LineKind.TheVariants as kind
use Rattle.af_book.specs.declared.record.Record.{Record}
use Rattle.af_book.specs.declared.record.Record.TheVariants as a

-- ---- records

-- the kind of a record's line
abbrev pub kind_of : Record → LineKind
kind_of (a.Entry entry) = kind.Entry
kind_of (a.Change change) = kind.Change

-- what a record's line says
abbrev pub saying : Record → Line
saying (a.Entry entry) = line.Entry entry
saying (a.Change change) = line.Change change

-- the entries among records, in their order
abbrev pub entries_in : List Record → List Entry
entries_in [] = []
entries_in (a.Entry entry ∷ records) = entry ∷ entries_in records
entries_in (a.Change change ∷ records) = entries_in records

-- the changes among them
abbrev pub changes_in : List Record → List ChangeLine
changes_in [] = []
changes_in (a.Entry entry ∷ records) = changes_in records
changes_in (a.Change change ∷ records) = change ∷ changes_in records

-- ---- what is read of a journal's lines, each of which is a mark and a body

-- the kind whose text a mark begins with
abbrev pub kind_in : List ℕ → LineKind
kind_in mark = unwrap_or (find (λ kind. same_text (kind_text kind) (take (length (kind_text kind)) mark)) kinds) kind.Opened

-- what a line says, by the kind that its mark begins with
abbrev pub said : journal.Entry → Result Line LineFault
said stored = line_of (kind_in stored.0) stored.1

abbrev pub record_said : Result Line LineFault → List Record
record_said (Ok (line.Opened config)) = []
record_said (Ok (line.Entry entry)) = a.Entry entry ∷ []
record_said (Ok (line.Change change)) = a.Change change ∷ []
record_said (Err fault) = []

-- the records that lines say
abbrev pub records_in : List journal.Entry → List Record
records_in [] = []
records_in (stored ∷ lines) = record_said (said stored) ++ records_in lines

abbrev pub config_said : Result Line LineFault → List ℕ
config_said (Ok (line.Opened config)) = config
config_said (Ok (line.Entry entry)) = []
config_said (Ok (line.Change change)) = []
config_said (Err fault) = []

-- the configuration that the first line says
abbrev pub config_in : List journal.Entry → List ℕ
config_in [] = []
config_in (stored ∷ lines) = config_said (said stored)
