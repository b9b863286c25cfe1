-- The two files of a journal, and what an open finds in them.
use Rattle.std.specs.Prelude.{◌≡◌, ◌⊎◌, List, [], ◌∷◌, codes}
use Rattle.sqlite_disk.specs.declared.Disk.{Ghosts as OfDisk}
use Rattle.sqlite_pages.specs.PageMap.{PageMap}
use Rattle.sqlite_pool.specs.File.{in_use}
use Rattle.sqlite_pool.specs.Opening.{IsBlankFile}
use Rattle.sqlite_pool.specs.Stored.{Recovers}
use Rattle.sqlite_store.specs.declared.catalog.Wanted.{Wanted}
use Rattle.sqlite_store.specs.declared.store.FileStore.{FileStore}
use Rattle.sqlite_store.specs.Db.{rows_at}
use Rattle.sqlite_store.specs.FileStore.{view, faults, recovers, is_shielded, IsStep, blamed, NamesFault}
use Rattle.sqlite_store.specs.Listing.{file_trees}
use Rattle.sqlite_trees.specs.declared.store.Shape.TheVariants.{Table}
use Rattle.sqlite_trees.specs.declared.store.Store.{Ghosts}
use Rattle.sqlite_trees.specs.Tree.{Trees}
use Rattle.sqlite_value.specs.declared.value.Value.TheVariants.{Text}
use Rattle.sqlite_wal.specs.Recovery.{Image}
use Rattle.af_journal.specs.Lines.{Entry, HasEntries}
use Rattle.af_journal.specs.LogHeader.{IsShort}

-- the one table, as sqlite_schema lists it
abbrev pub journal_table : Wanted
journal_table = record {
  shape = Table;
  reals = 0;
  row = Text (codes "table") ∷ Text (codes "journal") ∷ Text (codes "journal")
      ∷ Text (codes "CREATE TABLE journal (seq INTEGER PRIMARY KEY, kind TEXT NOT NULL, body TEXT NOT NULL) STRICT") ∷ [];
}

-- No database was made yet, or only the beginning of its first page. The log has no room for a frame.
abbrev pub HasNoDatabase : Image → Type 0
HasNoDatabase image = IsBlankFile 4096 image × IsShort image.log

-- The log and the database file recover to a database that lists no table.
abbrev pub HasNoTable : Image → Type 0
HasNoTable image = (pages : PageMap) × Recovers 4096 image pages × (rows_at 4096 (in_use 4096 pages) Table 1 ≡ [])

-- They recover to a database whose trees are these, read by the journal's one table.
abbrev pub IsReadFrom : Image → Trees → Type 0
IsReadFrom image db = (pages : PageMap) × Recovers 4096 image pages × (db ≡ file_trees 4096 (journal_table ∷ []) pages)

-- The two files hold a journal of these entries.
abbrev pub Holds : Image → List Entry → Type 0
Holds image entries = (HasNoDatabase image × (entries ≡ [])) ⊎ ((HasNoTable image × (entries ≡ [])) ⊎ ((db : Trees) × IsReadFrom image db × HasEntries db entries))

-- the same of a database
abbrev pub IsFoundIn : Image → Trees → Type 0
IsFoundIn image db = (HasNoDatabase image × (db 0 ≡ [])) ⊎ ((HasNoTable image × (db 0 ≡ [])) ⊎ IsReadFrom image db)

-- a store over two files, as a `Store`
abbrev pub over_files : {D : Type 0} {g : OfDisk D} → Ghosts (FileStore D g)
over_files = record { view = view; faults = faults; recovers = recovers; is_shielded = is_shielded; is_step = IsStep; blamed = blamed; names = NamesFault }
