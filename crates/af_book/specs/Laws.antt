-- Laws of books (this product's own rule).
use Rattle.std.specs.Prelude.{◌≡◌, ℕ, ◌≤◌, List, ◌∷◌, ◌++◌, length, Ok}
use Rattle.af_audit.specs.Entries.{AreNumbered}
use Rattle.af_audit.specs.declared.entry.Entry.{Entry}
use Rattle.af_journal.specs.Lines as journal
use Rattle.af_store.specs.ChangeLines.{change_body}
use Rattle.af_store.specs.EntryLines.{entry_body}
use Rattle.af_store.specs.declared.change_line.ChangeLine.{ChangeLine}
use Rattle.af_book.specs.declared.book_fault.BookFault.{BookFault}
use Rattle.af_book.specs.declared.book_fault.BookFault.TheVariants.{OutOfMemory}
use Rattle.af_book.specs.declared.place.Place.{Place}
use Rattle.af_book.specs.declared.record.Record.{Record}
use Rattle.af_book.specs.declared.record.Record.TheVariants as a
use Rattle.af_book.specs.Books.{IsBook, IsNext}
use Rattle.af_book.specs.Reads.{IsWrong}
use Rattle.af_book.specs.Records.{changes_in, entries_in}

-- Lines are those of one book: of one configuration, and of one list of records.
abbrev pub BooksAreOne : Type 0
BooksAreOne =
    (lines : List journal.Entry) (config other : List ℕ) (records others : List Record) → IsBook lines config records → IsBook lines other others
    → (config ≡ other) × (records ≡ others)

-- In the lines of a book nothing is wrong: only want of memory refuses them.
abbrev pub BooksAreTaken : Type 0
BooksAreTaken =
    (lines : List journal.Entry) (config : List ℕ) (records : List Record) (why : BookFault) → IsBook lines config records → IsWrong lines why → why ≡ OutOfMemory

-- A line that says an entry has just the text by which the entry is told.
abbrev pub EntriesAreTold : Type 0
EntriesAreTold = (from : Place) (stored : journal.Entry) (entry : Entry) → IsNext from stored (a.Entry entry) → entry_body entry ≡ Ok stored.1

-- A line that says a change has just the text by which the change and its author are told.
abbrev pub ChangesAreTold : Type 0
ChangesAreTold = (from : Place) (stored : journal.Entry) (change : ChangeLine) → IsNext from stored (a.Change change) → stored.1 ≡ change_body change

-- The entries of a book have the numbers from 1 on, without gaps.
abbrev pub EntriesAreNumbered : Type 0
EntriesAreNumbered = (lines : List journal.Entry) (config : List ℕ) (records : List Record) → IsBook lines config records → AreNumbered (entries_in records)

-- Each entry was made under a version of the policy that there was by then: 0, or one that a change before it made.
abbrev pub VersionsAreThere : Type 0
VersionsAreThere =
    (lines : List journal.Entry) (config : List ℕ) (before rest : List Record) (entry : Entry) → IsBook lines config (before ++ a.Entry entry ∷ rest)
    → entry.version ≤ length (changes_in before)
