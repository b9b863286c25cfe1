-- What a book shows to its callers.
use Rattle.std.specs.Prelude.{◌≡◌, ◌≢◌, ◌++◌, [], ℕ, Bool, List, IsTrue, Result, Ok, Err, ⊤}
use Rattle.sqlite_trees.specs.Tree.{Trees}
use Rattle.sqlite_trees.specs.declared.error.StoreError.{StoreError}
use Rattle.af_journal.specs.Lines as journal
use Rattle.af_journal.specs.Shown.{Shown}
use Rattle.af_book.specs.declared.book_fault.BookFault.{BookFault}
use Rattle.af_book.specs.declared.book_fault.BookFault.TheVariants.{NotNew, OutOfMemory, Store}
use Rattle.af_book.specs.declared.place.Place.{Place}
use Rattle.af_book.specs.declared.record.Record.{Record}
use Rattle.af_book.specs.Books.{IsBook}

pub record Kept (S : Type 0) : Type 0 where
  -- it can be added to; a failure that only another open mends shuts it
  pub is_open : Bool
  -- the configuration that it was opened with, byte by byte, and its records, which say nothing once it is shut
  pub config : List ℕ
  pub records : List Record
  -- the place after its last line
  pub end : Place
  -- the journal under it, which alone knows what a crash may leave
  pub journal : Shown S

-- a database holds the lines of a book of this configuration and these records
abbrev pub IsStored : Trees → List ℕ → List Record → Type 0
IsStored db config records = (lines : List journal.Entry) × journal.HasEntries db lines × IsBook lines config records

module _ {S : Type 0} where
  -- the records stand after those that were there, in the same book
  pub record Adds (old new : Kept S) (more : List Record) : Type 0 where
    pub opened : IsTrue old.is_open
    pub config : new.config ≡ old.config
    pub records : new.records ≡ old.records ++ more

  -- the book is as it was
  pub record Stays (old new : Kept S) : Type 0 where
    pub opened : IsTrue old.is_open
    pub config : new.config ≡ old.config
    pub records : new.records ≡ old.records
    pub end : new.end ≡ old.end

  -- the journal, of a book or given back with a fault
  abbrev pub journal_of : Result (Kept S) (BookFault × Shown S) → Shown S
  journal_of (Ok book) = book.journal
  journal_of (Err refused) = refused.1

-- Why a journal does not become a new book: it has a line, the store failed, or memory was refused.
abbrev pub IsRefused : {S : Type 0} → Shown S → (StoreError → Type 0) → BookFault → Type 0
IsRefused it failed NotNew = IsTrue it.is_open → it.entries ≢ []
IsRefused it failed (Store error) = failed error
IsRefused it failed OutOfMemory = ⊤
IsRefused it failed _ = ⊥
