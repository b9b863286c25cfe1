-- A book: the lines of a server in a journal. The first opens it with a configuration, and each later one says a record; all are chained, and the
-- records are in order (this product's own rule).
use Rattle.std.specs.Prelude.{◌≡◌, ℕ, ◌+◌, ◌<◌, ◌≤◌, List, [], ◌∷◌, Ok}
use Rattle.af_journal.specs.Lines as journal
use Rattle.af_store.specs.Chains.{chained, mark_of, start}
use Rattle.af_store.specs.Lines.{line_of}
use Rattle.af_store.specs.OpeningLines.{opening_body}
use Rattle.af_store.specs.declared.line_kind.LineKind.TheVariants as kind
use Rattle.af_book.specs.declared.place.Place.{Place}
use Rattle.af_book.specs.declared.record.Record.{Record}
use Rattle.af_book.specs.declared.record.Record.TheVariants as a
use Rattle.af_book.specs.Records.{kind_of, saying}

-- ---- one line

-- The record may come next after this place: an entry has the next number and a version of the policy that there is by then; changes are
-- counted in 32 bits.
abbrev pub Follows : Place → Record → Type 0
Follows from (a.Entry entry) = (entry.seq ≡ from.entries + 1) × (entry.version ≤ from.changes)
Follows from (a.Change change) = from.changes < 4_294_967_295

-- The line says this record, next after this place: its mark covers its body and all lines before it.
pub record IsNext (from : Place) (stored : journal.Entry) (it : Record) : Type 0 where
  pub says : line_of (kind_of it) stored.1 ≡ Ok (saying it)
  pub mark : stored.0 ≡ mark_of from.chain stored.1 (kind_of it)
  pub follows : Follows from it

-- the place after a line with this body, which says this record
abbrev pub after : Place → List ℕ → Record → Place
after from body (a.Entry entry) =
    record { chain = chained from.chain (record { kind = kind.Entry; body = body }); entries = from.entries + 1; changes = from.changes }
after from body (a.Change change) =
    record { chain = chained from.chain (record { kind = kind.Change; body = body }); entries = from.entries; changes = from.changes + 1 }

-- ---- lines

-- From a place, lines that say these records, one each and in order, lead to another.
abbrev pub Leads : Place → List journal.Entry → List Record → Place → Type 0
Leads from [] [] to = to ≡ from
Leads from [] (it ∷ records) to = ⊥
Leads from (stored ∷ lines) [] to = ⊥
Leads from (stored ∷ lines) (it ∷ records) to = IsNext from stored it × Leads (after from stored.1 it) lines records to

-- ---- books

-- the line that opens a book with this configuration
abbrev pub opening_line : List ℕ → journal.Entry
opening_line config = (mark_of start (opening_body config) kind.Opened, opening_body config)

-- the place after it
abbrev pub opened : List ℕ → Place
opened config = record { chain = chained start (record { kind = kind.Opened; body = opening_body config }); entries = 0; changes = 0 }

-- The lines are those of a book of this configuration and these records, and lead to this place.
pub record Reaches (lines : List journal.Entry) (config : List ℕ) (records : List Record) (to : Place) : Type 0 where
  pub rest : List journal.Entry
  pub opens : lines ≡ opening_line config ∷ rest
  pub leads : Leads (opened config) rest records to

-- The lines are those of a book of this configuration and these records.
abbrev pub IsBook : List journal.Entry → List ℕ → List Record → Type 0
IsBook lines config records = (to : Place) × Reaches lines config records to
