-- Which line is wrong, where the lines of a journal are not those of a book (this product's own rule).
use Rattle.std.specs.Prelude.{◌≡◌, ◌≢◌, ◌⊎◌, ℕ, ◌+◌, List, ◌∷◌, ◌++◌, Ok, Err, ⊤}
use Rattle.af_journal.specs.Lines as journal
use Rattle.af_store.specs.Chains.{mark_of}
use Rattle.af_store.specs.Lines.{line_of}
use Rattle.af_store.specs.declared.line.Line.{Line}
use Rattle.af_store.specs.declared.line.Line.TheVariants as line
use Rattle.af_store.specs.declared.line_fault.LineFault.TheVariants.{NotALine}
use Rattle.af_store.specs.declared.line_kind.LineKind.{LineKind}
use Rattle.af_book.specs.declared.book_fault.BookFault.{BookFault}
use Rattle.af_book.specs.declared.book_fault.BookFault.TheVariants as fault
use Rattle.af_book.specs.declared.place.Place.{Place}
use Rattle.af_book.specs.declared.record.Record.{Record}
use Rattle.af_book.specs.Books.{Follows, Leads, opened, opening_line}
use Rattle.af_book.specs.Records.{saying}

-- ---- the next line

-- the number of the line after a place: lines are numbered from 1, and the first opens the book
abbrev pub next_number : Place → ℕ
next_number from = from.entries + from.changes + 2

-- The line has the mark of this kind, next after this place.
abbrev pub HasMark : Place → journal.Entry → LineKind → Type 0
HasMark from stored kind = stored.0 ≡ mark_of from.chain stored.1 kind

-- by its mark, the line says this next after this place
pub record Says (from : Place) (stored : journal.Entry) (it : Line) : Type 0 where
  pub kind : LineKind
  pub mark : HasMark from stored kind
  pub body : line_of kind stored.1 ≡ Ok it

-- it opens a book again
abbrev pub OpensAgain : Place → journal.Entry → Type 0
OpensAgain from stored = (config : List ℕ) × Says from stored (line.Opened config)

-- it has the mark of a kind, and a body that is none of that kind
pub record SaysNothing (from : Place) (stored : journal.Entry) : Type 0 where
  pub kind : LineKind
  pub mark : HasMark from stored kind
  pub body : line_of kind stored.1 ≡ Err NotALine

-- it says a record that does not follow
pub record SaysOutOfTurn (from : Place) (stored : journal.Entry) : Type 0 where
  pub it : Record
  pub says : Says from stored (saying it)
  pub fails : ¬ Follows from it

-- what is wrong with the line, next after this place
abbrev pub IsWrongAfter : Place → journal.Entry → BookFault → Type 0
IsWrongAfter from stored (fault.Changed number) = (number ≡ next_number from) × ((kind : LineKind) → ¬ HasMark from stored kind)
IsWrongAfter from stored (fault.NotALine number) = (number ≡ next_number from) × SaysNothing from stored
IsWrongAfter from stored (fault.OutOfOrder number) = (number ≡ next_number from) × (OpensAgain from stored ⊎ SaysOutOfTurn from stored)
IsWrongAfter from stored fault.OutOfMemory = ⊤
IsWrongAfter from stored fault.NotNew = ⊥
IsWrongAfter from stored fault.NoOpening = ⊥
IsWrongAfter from stored (fault.Store error) = ⊥

-- a line of this kind and this body opens a book
abbrev pub Opens : LineKind → List ℕ → Type 0
Opens kind body = (config : List ℕ) × (line_of kind body ≡ Ok (line.Opened config))

-- ---- lines

-- From a place, some lines lead on, and this is wrong with the one after them.
pub record WrongFrom (from : Place) (lines : List journal.Entry) (why : BookFault) : Type 0 where
  pub before : List journal.Entry
  pub stored : journal.Entry
  pub rest : List journal.Entry
  pub split : lines ≡ before ++ stored ∷ rest
  pub records : List Record
  pub to : Place
  pub leads : Leads from before records to
  pub wrong : IsWrongAfter to stored why

-- what is wrong with the first line, where it opens no book
abbrev pub OpensNothing : journal.Entry → BookFault → Type 0
OpensNothing stored fault.NoOpening = (config : List ℕ) → stored ≢ opening_line config
OpensNothing stored fault.OutOfMemory = ⊤
OpensNothing stored why = ⊥

-- The lines are opened with some configuration, and this is wrong with the first that does not go on from there.
pub record WrongInside (lines : List journal.Entry) (why : BookFault) : Type 0 where
  pub config : List ℕ
  pub rest : List journal.Entry
  pub opens : lines ≡ opening_line config ∷ rest
  pub wrong : WrongFrom (opened config) rest why

-- What is wrong with lines that are not those of a book: the first wrong one has this number, or no line opens a book. Want of memory says
-- nothing of them.
abbrev pub IsWrong : List journal.Entry → BookFault → Type 0
IsWrong lines fault.NoOpening = (config : List ℕ) (rest : List journal.Entry) → lines ≢ opening_line config ∷ rest
IsWrong lines fault.OutOfMemory = ⊤
IsWrong lines why = WrongInside lines why
