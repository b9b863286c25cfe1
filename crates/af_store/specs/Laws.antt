-- Laws of lines (this product's own rule).
use Rattle.std.specs.Prelude.{◌≡◌, ◌⊎◌, ℕ, List, [], ◌∷◌, ◌++◌, length, Ok}
use Rattle.af_audit.specs.declared.entry.Entry.{Entry}
use Rattle.af_store.specs.Chains.{Collision, Link, chain, chained, mark_of, taken_as}
use Rattle.af_store.specs.ChangeLines.{IsChangeLine, change_body}
use Rattle.af_store.specs.ChangeReads.{change_of}
use Rattle.af_store.specs.EntryFacts.{IsEntry}
use Rattle.af_store.specs.EntryLines.{entry_body}
use Rattle.af_store.specs.EntryReads.{entry_of}
use Rattle.af_store.specs.OpeningLines.{opening_body, opening_of}
use Rattle.af_store.specs.declared.change_line.ChangeLine.{ChangeLine}
use Rattle.af_store.specs.declared.line_kind.LineKind.{LineKind}

-- Reading back the line of a change gives the change and its author.
abbrev pub ChangesAreReadBack : Type 0
ChangesAreReadBack = (line : ChangeLine) → IsChangeLine line → change_of (change_body line) ≡ Ok line

-- Nothing else is read as a change: a body that is read is just the text of what it is read as.
abbrev pub NothingElseIsAChange : Type 0
NothingElseIsAChange = (body : List ℕ) (line : ChangeLine) → change_of body ≡ Ok line → body ≡ change_body line

-- Reading back the line that opens a store gives the configuration, whatever it is.
abbrev pub OpeningsAreReadBack : Type 0
OpeningsAreReadBack = (config : List ℕ) → opening_of (opening_body config) ≡ Ok config

-- Nothing else is read as such a line: not another format, nor another digest than the configuration's.
abbrev pub NothingElseOpens : Type 0
NothingElseOpens = (body config : List ℕ) → opening_of body ≡ Ok config → body ≡ opening_body config

-- Reading back the line of an entry gives the entry.
abbrev pub EntriesAreReadBack : Type 0
EntriesAreReadBack = (entry : Entry) (body : List ℕ) → IsEntry entry → entry_body entry ≡ Ok body → entry_of body ≡ Ok entry

-- Nothing else is read as an entry: a body that is read is just the text by which what it is read as is told.
abbrev pub NothingElseIsAnEntry : Type 0
NothingElseIsAnEntry = (body : List ℕ) (entry : Entry) → entry_of body ≡ Ok entry → entry_body entry ≡ Ok body

-- The digest of a line covers all lines up to it: two lists of as many lines have one digest only where they are the same lines, unless two
-- messages of one SHA-256 are at hand.
abbrev pub ChainsTellLines : Type 0
ChainsTellLines =
    (before : List ℕ) (lines others : List Link) → length lines ≡ length others → chain before lines ≡ chain before others
    → (lines ≡ others) ⊎ Collision

-- With one line more, the digest is that of this line after the others.
abbrev pub ChainsGrow : Type 0
ChainsGrow = (before : List ℕ) (lines : List Link) (line : Link) → chain before (lines ++ line ∷ []) ≡ chained (chain before lines) line

-- The mark of a line is taken as that of its kind.
abbrev pub MarksAreTaken : Type 0
MarksAreTaken = (before body : List ℕ) (kind : LineKind) → taken_as before (mark_of before body kind) body ≡ Ok kind

-- Nothing else is taken as the mark of a line of that kind and that body after that digest.
abbrev pub NothingElseIsAMark : Type 0
NothingElseIsAMark = (before mark body : List ℕ) (kind : LineKind) → taken_as before mark body ≡ Ok kind → mark ≡ mark_of before body kind
