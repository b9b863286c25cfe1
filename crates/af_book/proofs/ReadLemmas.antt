-- Lines that are read one after another.
use Rattle.std.proofs.Common.{◌≡◌, ◌∙◌, ℕ, ◌+◌, ◌<◌, List, [], ◌∷◌, ◌++◌, length, take, drop, get_or, drop-cons, suc, Option, Some, None, Result, Ok, Err, refl, sym, subst, ap, ap₂, arith}
use Rattle.std.specs.Prelude.{IfNone}
use Rattle.std.proofs.lemmas.List.{map-append, take-append-drop, take_more}
use Rattle.af_audit.specs.declared.entry.Entry.{Entry}
use Rattle.af_base.specs.Readings.{◌>>=◌}
use Rattle.af_journal.specs.Lines as journal
use Rattle.af_journal.specs.declared.line.Line.{Line}
use Rattle.af_store.specs.ChangeReads.{change_of}
use Rattle.af_store.specs.Chains.{mark_of, start, taken_as}
use Rattle.af_store.specs.EntryReads.{entry_of}
use Rattle.af_store.specs.Laws.{NothingElseIsAMark, NothingElseOpens}
use Rattle.af_store.specs.Lines.{line_of}
use Rattle.af_store.specs.OpeningLines.{opening_body, opening_of}
use Rattle.af_store.specs.declared.change_line.ChangeLine.{ChangeLine}
use Rattle.af_store.specs.declared.line.Line.{Line as Said}
use Rattle.af_store.specs.declared.line.Line.TheVariants as line
use Rattle.af_store.specs.declared.line_fault.LineFault.{LineFault}
use Rattle.af_store.specs.declared.line_kind.LineKind.{LineKind}
use Rattle.af_store.specs.declared.line_kind.LineKind.TheVariants as kind
use Rattle.af_book.specs.declared.book_fault.BookFault.{BookFault}
use Rattle.af_book.specs.declared.place.Place.{Place}
use Rattle.af_book.specs.declared.record.Record.{Record}
use Rattle.af_book.specs.declared.record.Record.TheVariants as a
use Rattle.af_book.specs.Books.{Follows, IsNext, Leads, after, opening_line}
use Rattle.af_book.specs.Reads.{HasMark, IsWrongAfter, Opens, OpensAgain, Says, WrongFrom}
use Rattle.af_book.specs.Records.{kind_of, saying}
use Rattle.af_book.proofs.BookLemmas.{Leads-push}

-- the mark says of which kind the line is that opens a book
pub opens_again : (from : Place) (stored : journal.Entry) (kind : LineKind) (found : Option Record) → HasMark from stored kind → IfNone found (Opens kind stored.1) → IfNone found (OpensAgain from stored)
opens_again from stored kind None mark opens = (opens.0, record { kind = kind; mark = mark; body = opens.1 })
opens_again from stored kind (Some it) mark opens = tt

-- ---- the lines so far

-- the line at an index stands between those before it and those after it
pub split_at : (lines : List Line) (i : ℕ) (d : Line) → i < length lines → lines ≡ take i lines ++ get_or lines i d ∷ drop (i + 1) lines
split_at lines i d h =
    let next : suc i ≡ i + 1 = omega arith in
    sym (take-append-drop i lines) ∙ ap (λ (rest : List Line). take i lines ++ rest) (drop-cons lines i d h ∙ ap (λ (n : ℕ). get_or lines i d ∷ drop n lines) next)

module _ (from : Place) (lines : List Line) (i : ℕ) (at : Line) (h : i < length lines) (is : at ≡ get_or lines i at) (records : List Record) (mid : Place)
    (leads : Leads from (journal.entries_of (take i lines)) records mid) where
  -- with the next of them
  pub leads_on : (it : Record) (to : Place) → IsNext mid (journal.entry_of at) it → to ≡ after mid (journal.entry_of at).1 it
      → Leads from (journal.entries_of (take (i + 1) lines)) (records ++ it ∷ []) to
  leads_on it to next ends =
      subst (λ (all : List journal.Entry). Leads from all (records ++ it ∷ []) to)
      (sym (ap journal.entries_of (take_more lines i at h ∙ ap (λ (last : Line). take i lines ++ last ∷ []) (sym is)) ∙ map-append journal.entry_of (take i lines) (at ∷ [])))
      (Leads-push from (journal.entries_of (take i lines)) records mid (journal.entry_of at) it to leads next ends)

  -- the next of them is wrong
  pub wrong_there : (why : BookFault) → IsWrongAfter mid (journal.entry_of at) why → WrongFrom from (journal.entries_of lines) why
  wrong_there why wrong = record {
    before = journal.entries_of (take i lines);
    stored = journal.entry_of at;
    rest = journal.entries_of (drop (i + 1) lines);
    split =
        ap journal.entries_of (split_at lines i at h ∙ ap (λ (mid : Line). take i lines ++ mid ∷ drop (i + 1) lines) (sym is))
        ∙ map-append journal.entry_of (take i lines) (at ∷ drop (i + 1) lines);
    records = records;
    to = mid;
    leads = leads;
    wrong = wrong;
  }

-- ---- the first line

pub opening_there : (chain mark text body config : List ℕ) (its : LineKind) (stored : journal.Entry) → NothingElseIsAMark → NothingElseOpens
    → chain ≡ start → mark ≡ stored.0 → text ≡ stored.1 → its ≡ kind.Opened → taken_as chain mark text ≡ Ok its → body ≡ stored.1 → opening_of body ≡ Ok config
    → stored ≡ opening_line config
opening_there chain mark text body config its stored only_mark only_body begins marked there opens taken same is =
    let taken_here : taken_as start stored.0 stored.1 ≡ Ok kind.Opened =
    subst (λ (c : List ℕ). taken_as c stored.0 stored.1 ≡ Ok kind.Opened) begins
    (subst (λ (m : List ℕ). taken_as chain m stored.1 ≡ Ok kind.Opened) marked
    (subst (λ (t : List ℕ). taken_as chain mark t ≡ Ok kind.Opened) there (subst (λ (k : LineKind). taken_as chain mark text ≡ Ok k) opens taken))) in
    let body_is : stored.1 ≡ opening_body config = only_body stored.1 config (subst (λ (t : List ℕ). opening_of t ≡ Ok config) same is) in
    let mark_is : stored.0 ≡ mark_of start (opening_body config) kind.Opened =
    only_mark start stored.0 stored.1 kind.Opened taken_here ∙ ap (λ (t : List ℕ). mark_of start t kind.Opened) body_is in
    ap₂ (λ (m t : List ℕ). let it : journal.Entry = (m, t) in it) mark_is body_is

-- ---- the next line

-- a line that says a record is of the record's kind
opened_said : (read : Result (List ℕ) LineFault) (it : Record) → (read >>= (λ (config : List ℕ). let told : Result Said LineFault = Ok (line.Opened config) in told)) ≡ Ok (saying it) → ⊥
opened_said (Ok config) (a.Entry entry) e = absurd (cc)
opened_said (Ok config) (a.Change change) e = absurd (cc)
opened_said (Err why) it e = absurd (cc)

entry_said : (read : Result Entry LineFault) (it : Record) → (read >>= (λ (entry : Entry). let told : Result Said LineFault = Ok (line.Entry entry) in told)) ≡ Ok (saying it) → kind.Entry ≡ kind_of it
entry_said (Ok found) (a.Entry entry) e = refl
entry_said (Ok found) (a.Change change) e = absurd (cc)
entry_said (Err why) it e = absurd (cc)

change_said : (read : Result ChangeLine LineFault) (it : Record) → (read >>= (λ (change : ChangeLine). let told : Result Said LineFault = Ok (line.Change change) in told)) ≡ Ok (saying it)
    → kind.Change ≡ kind_of it
change_said (Ok found) (a.Entry entry) e = absurd (cc)
change_said (Ok found) (a.Change change) e = refl
change_said (Err why) it e = absurd (cc)

kind_said : (kind : LineKind) (body : List ℕ) (it : Record) → line_of kind body ≡ Ok (saying it) → kind ≡ kind_of it
kind_said kind.Opened body it e = absurd (opened_said (opening_of body) it e)
kind_said kind.Entry body it e = entry_said (entry_of body) it e
kind_said kind.Change body it e = change_said (change_of body) it e

pub says_next : (from : Place) (stored : journal.Entry) (it : Record) → Says from stored (saying it) → Follows from it → IsNext from stored it
says_next from stored it says follows =
    let same = kind_said says.kind stored.1 it says.body in
    record {
      says = subst (λ (kind : LineKind). line_of kind stored.1 ≡ Ok (saying it)) same says.body;
      mark = subst (λ (kind : LineKind). stored.0 ≡ mark_of from.chain stored.1 kind) same says.mark;
      follows = follows;
    }
