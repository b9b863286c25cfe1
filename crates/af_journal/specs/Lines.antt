-- Lines as the rows of a table.
use Rattle.std.specs.Prelude.{◌≡◌, ℕ, ◌+◌, pos, List, [], ◌∷◌, map}
use Rattle.sqlite_value.specs.declared.value.Value.TheVariants.{Null, Int, Text}
use Rattle.sqlite_value.specs.Order.{Row, column, bytes}
use Rattle.sqlite_trees.specs.Tree.{Trees}
use Rattle.af_journal.specs.declared.line.Line.{Line}

-- the bytes of a kind and of a body
abbrev pub Entry : Type 0
Entry = List ℕ × List ℕ

abbrev pub entry_of : Line → Entry
entry_of line = (line.kind.bytes.items, line.body.bytes.items)

abbrev pub entries_of : List Line → List Entry
entries_of lines = map entry_of lines

-- the row of the entry with this number; the column of the key is NULL, as SQLite stores it
abbrev pub row_of : ℕ → Entry → Row
row_of number entry = Int (pos number) ∷ Null ∷ Text entry.0 ∷ Text entry.1 ∷ []

-- the rows of entries that are numbered on from n
abbrev pub rows_after : ℕ → List Entry → List Row
rows_after n [] = []
rows_after n (entry ∷ entries) = row_of (n + 1) entry ∷ rows_after (n + 1) entries

-- the journal of a database has these entries, numbered from 1
abbrev pub HasEntries : Trees → List Entry → Type 0
HasEntries db entries = db 0 ≡ rows_after 0 entries

-- the entry that a row holds
abbrev pub entry_in : Row → Entry
entry_in row = (bytes (column row 2), bytes (column row 3))

-- the entries that the rows of a database hold
abbrev pub entries_in : Trees → List Entry
entries_in db = map entry_in (db 0)
