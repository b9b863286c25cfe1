-- A group of records that are to be stored in one commit.
use Rattle.std.specs.Prelude.{ℕ, ◌+◌, ◌++◌, ◌&&◌, ◌==◌, List, [], ◌∷◌, length, nat_le, nat_lt, if◌then◌else◌, Result, Ok, Err, ⊤}
use Rattle.af_audit.specs.declared.entry.Entry.{Entry}
use Rattle.af_base.specs.Readings.{seen}
use Rattle.af_store.specs.EntryLines.{entry_body}
use Rattle.af_store.specs.declared.change_line.ChangeLine.{ChangeLine}
use Rattle.af_store.specs.declared.line_fault.LineFault.{LineFault}
use Rattle.af_store.specs.declared.line_fault.LineFault.TheVariants as line
use Rattle.af_book.specs.declared.group_fault.GroupFault.{GroupFault}
use Rattle.af_book.specs.declared.group_fault.GroupFault.TheVariants as group
use Rattle.af_book.specs.declared.place.Place.{Place}
use Rattle.af_book.specs.declared.record.Record.{Record}
use Rattle.af_book.specs.declared.record.Record.TheVariants as a
use Rattle.af_book.specs.Records.{changes_in, entries_in}

-- the place of a book after which the records are to stand
pub record Batch : Type 0 where
  pub start : Place
  pub records : List Record

-- how many entries there are from the start of the book to the end of the group
abbrev pub entry_count : Batch → ℕ
entry_count it = it.start.entries + length (entries_in it.records)

-- how many changes
abbrev pub change_count : Batch → ℕ
change_count it = it.start.changes + length (changes_in it.records)

-- with one record more, the last
abbrev pub with_record : Batch → Record → Batch
with_record it more = record it { records = it.records ++ more ∷ [] }

-- ---- which records are taken, after so many entries and changes

abbrev pub fault_of : LineFault → GroupFault
fault_of line.NotALine = group.NotALine
fault_of line.OutOfMemory = group.OutOfMemory

abbrev pub if_told : Result (List ℕ) LineFault → Result ⊤ GroupFault
if_told (Ok body) = Ok tt
if_told (Err why) = Err group.NotALine

-- an entry that has the next number, and a version of the policy that there is by then, if some line tells it
abbrev pub entry_taken : ℕ → ℕ → Entry → Result ⊤ GroupFault
entry_taken entries changes entry =
    if (entry.seq == entries + 1) && nat_le entry.version changes then if_told (entry_body entry) else Err group.OutOfOrder

-- any change; changes are counted in 32 bits
abbrev pub change_taken : ℕ → Result ⊤ GroupFault
change_taken changes = if nat_lt changes 4_294_967_295 then Ok tt else Err group.TooMany

-- ---- with one record more

-- with one entry more, if it is taken
abbrev pub with_entry : Batch → Entry → Result Batch GroupFault
with_entry it entry = seen (λ done. with_record it (a.Entry entry)) (entry_taken (entry_count it) (change_count it) entry)

-- with one change more, if it is taken
abbrev pub with_change : Batch → ChangeLine → Result Batch GroupFault
with_change it change = seen (λ done. with_record it (a.Change change)) (change_taken (change_count it))
