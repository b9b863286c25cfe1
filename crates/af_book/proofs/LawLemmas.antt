-- Laws of books: there is one, and in its lines nothing is wrong.
use Rattle.std.proofs.Common.{◌≡◌, ◌∙◌, ◌⊎◌, inl, inr, ℕ, ◌+◌, ◌≤◌, List, [], ◌∷◌, ◌++◌, length, map, Result, Ok, Err, refl, sym, subst, ap, ap₂, arith}
use Rattle.std.specs.List.{range_with_len}
use Rattle.af_base.specs.Readings.{◌>>=◌}
use Rattle.af_audit.specs.declared.entry.Entry.{Entry}
use Rattle.af_journal.specs.Lines as journal
use Rattle.af_store.specs.ChangeReads.{change_of}
use Rattle.af_store.specs.Chains.{chained}
use Rattle.af_store.specs.EntryReads.{entry_of}
use Rattle.af_store.specs.Lines.{line_of}
use Rattle.af_store.specs.OpeningLines.{opening_body, opening_of}
use Rattle.af_store.specs.declared.change_line.ChangeLine.{ChangeLine}
use Rattle.af_store.specs.declared.line.Line.{Line}
use Rattle.af_store.specs.declared.line.Line.TheVariants as line
use Rattle.af_store.specs.declared.line_fault.LineFault.{LineFault}
use Rattle.af_store.specs.declared.line_fault.LineFault.TheVariants.{NotALine}
use Rattle.af_store.specs.declared.line_kind.LineKind.{LineKind}
use Rattle.af_book.specs.declared.book_fault.BookFault.{BookFault}
use Rattle.af_book.specs.declared.book_fault.BookFault.TheVariants as fault
use Rattle.af_book.specs.declared.place.Place.{Place}
use Rattle.af_book.specs.declared.record.Record.{Record}
use Rattle.af_book.specs.declared.record.Record.TheVariants as a
use Rattle.af_book.specs.Books.{Follows, IsBook, IsNext, Leads, Reaches, after, opened, opening_line}
use Rattle.af_book.specs.Laws.{BooksAreOne, BooksAreTaken}
use Rattle.af_book.specs.Reads.{HasMark, IsWrong, IsWrongAfter, OpensAgain, Says, SaysOutOfTurn, WrongInside}
use Rattle.af_book.specs.Records.{changes_in, entries_in, kind_in, kind_of, saying}
use Rattle.af_book.proofs.BookLemmas.{Reaches-append, config_in-Reaches, kind_in-marked, record_said-said, records_in-Reaches}

-- ---- one book

pub one_book : (lines : List journal.Entry) (config other : List ℕ) (records others : List Record) → opening_of (opening_body config) ≡ Ok config → opening_of (opening_body other) ≡ Ok other
    → IsBook lines config records → IsBook lines other others → (config ≡ other) × (records ≡ others)
one_book lines config other records others read_back other_back book another = (
  sym (config_in-Reaches config read_back lines records book.0 book.1) ∙ config_in-Reaches other other_back lines others another.0 another.1,
  sym (records_in-Reaches config read_back lines records book.0 book.1) ∙ records_in-Reaches other other_back lines others another.0 another.1,
)

-- ---- one line

-- a line has the mark of one kind
one_kind : (from : Place) (stored : journal.Entry) (one other : LineKind) → HasMark from stored one → HasMark from stored other → one ≡ other
one_kind from stored one other first second =
    sym (kind_in-marked one (chained from.chain (record { kind = one; body = stored.1 })))
    ∙ ap kind_in (sym first ∙ second)
    ∙ kind_in-marked other (chained from.chain (record { kind = other; body = stored.1 }))

saying_one : (it other : Record) → saying it ≡ saying other → it ≡ other
saying_one (a.Entry entry) (a.Entry other) e = cc
saying_one (a.Entry entry) (a.Change other) e = absurd (cc)
saying_one (a.Change change) (a.Entry other) e = absurd (cc)
saying_one (a.Change change) (a.Change other) e = cc

no_opening : (it : Record) (config : List ℕ) → saying it ≡ line.Opened config → ⊥
no_opening (a.Entry entry) config e = absurd (cc)
no_opening (a.Change change) config e = absurd (cc)

-- what a line says by its mark is the record that is next
says_one : (from : Place) (stored : journal.Entry) (it : Record) (told : Line) → IsNext from stored it → Says from stored told → saying it ≡ told
says_one from stored it told next says =
    let same : says.kind ≡ kind_of it = one_kind from stored says.kind (kind_of it) says.mark next.mark in
    let body : line_of (kind_of it) stored.1 ≡ Ok told = ap (λ (kind : LineKind). line_of kind stored.1) (sym same) ∙ says.body in
    let own : line_of (kind_of it) stored.1 ≡ Ok (saying it) = next.says in
    cc

-- where it is next, nothing is wrong with it
not_wrong : (from : Place) (stored : journal.Entry) (it : Record) (why : BookFault) → IsNext from stored it → IsWrongAfter from stored why → why ≡ fault.OutOfMemory
not_wrong from stored it fault.NotNew next wrong = absurd wrong
not_wrong from stored it fault.NoOpening next wrong = absurd wrong
not_wrong from stored it (fault.Changed number) next wrong = absurd (wrong.1 (kind_of it) next.mark)
not_wrong from stored it (fault.NotALine number) next wrong =
    let same : wrong.1.kind ≡ kind_of it = one_kind from stored wrong.1.kind (kind_of it) wrong.1.mark next.mark in
    let body : line_of (kind_of it) stored.1 ≡ Err NotALine = ap (λ (kind : LineKind). line_of kind stored.1) (sym same) ∙ wrong.1.body in
    absurd (cc)
not_wrong from stored it (fault.OutOfOrder number) next wrong = absurd (out_of_order wrong.1)
  where
    out_of_order : OpensAgain from stored ⊎ SaysOutOfTurn from stored → ⊥
    out_of_order (inl opens) = no_opening it opens.0 (says_one from stored it (line.Opened opens.0) next opens.1)
    out_of_order (inr says) = says.fails (subst (Follows from) (saying_one it says.it (says_one from stored it (saying says.it) next says.says)) next.follows)
not_wrong from stored it (fault.Store error) next wrong = absurd wrong
not_wrong from stored it fault.OutOfMemory next wrong = refl

-- ---- lines

-- a line says one record
same_next : (from : Place) (stored : journal.Entry) (it other : Record) → IsNext from stored it → IsNext from stored other → it ≡ other
same_next from stored it other first second =
    let both : it ∷ [] ≡ other ∷ [] = sym (record_said-said from stored it first) ∙ record_said-said from stored other second in
    cc

-- in lines that lead on, nothing is wrong with the one after some of them
not_wrong_from : (from : Place) (lines before : List journal.Entry) (stored : journal.Entry) (rest : List journal.Entry) (records others : List Record) (to mid : Place) (why : BookFault)
    → Leads from lines records to → lines ≡ before ++ stored ∷ rest → Leads from before others mid → IsWrongAfter mid stored why → why ≡ fault.OutOfMemory
not_wrong_from from [] [] stored rest records others to mid why leads split first wrong = absurd (cc)
not_wrong_from from [] (x ∷ before) stored rest records others to mid why leads split first wrong = absurd (cc)
not_wrong_from from (y ∷ lines) before stored rest [] others to mid why leads split first wrong = absurd leads
not_wrong_from from (y ∷ lines) [] stored rest (it ∷ records) [] to mid why leads split first wrong =
    let here : y ≡ stored = cc in
    not_wrong from stored it why (subst (λ (s : journal.Entry). IsNext from s it) here leads.0) (subst (λ (place : Place). IsWrongAfter place stored why) first wrong)
not_wrong_from from (y ∷ lines) [] stored rest (it ∷ records) (other ∷ others) to mid why leads split first wrong = absurd first
not_wrong_from from (y ∷ lines) (x ∷ before) stored rest (it ∷ records) [] to mid why leads split first wrong = absurd first
not_wrong_from from (y ∷ lines) (x ∷ before) stored rest (it ∷ records) (other ∷ others) to mid why leads split first wrong =
    let here : y ≡ x = cc in
    let more : lines ≡ before ++ stored ∷ rest = cc in
    let next : IsNext from x it = subst (λ (s : journal.Entry). IsNext from s it) here leads.0 in
    let same : other ≡ it = same_next from x other it first.0 next in
    let leads_on : Leads (after from x.1 it) lines records to = subst (λ (s : journal.Entry). Leads (after from s.1 it) lines records to) here leads.1 in
    not_wrong_from (after from x.1 it) lines before stored rest records others to mid why leads_on more
    (subst (λ (r : Record). Leads (after from x.1 r) before others mid) same first.1) wrong

-- in a book nothing is wrong
module _ (config : List ℕ) (lines : List journal.Entry) (records : List Record) (to : Place) (is : Reaches lines config records to) where
  inside : (why : BookFault) → ((other : List ℕ) → opening_of (opening_body other) ≡ Ok other) → WrongInside lines why → why ≡ fault.OutOfMemory
  inside why read_back wrong =
      let both : opening_line config ∷ is.rest ≡ opening_line wrong.config ∷ wrong.rest = sym is.opens ∙ wrong.opens in
      let rests : is.rest ≡ wrong.rest = cc in
      let firsts : opening_line config ≡ opening_line wrong.config = cc in
      let bodies : opening_body config ≡ opening_body wrong.config = ap (λ (s : journal.Entry). s.1) firsts in
      let one : opening_of (opening_body config) ≡ Ok config = read_back config in
      let other : opening_of (opening_body config) ≡ Ok wrong.config = ap opening_of bodies ∙ read_back wrong.config in
      let configs : config ≡ wrong.config = cc in
      let w = wrong.wrong in
      not_wrong_from (opened config) is.rest w.before w.stored w.rest records w.records to w.to why is.leads (rests ∙ w.split)
      (subst (λ (c : List ℕ). Leads (opened c) w.before w.records w.to) (sym configs) w.leads) w.wrong

  pub nothing_wrong : (why : BookFault) → ((other : List ℕ) → opening_of (opening_body other) ≡ Ok other) → IsWrong lines why → why ≡ fault.OutOfMemory
  nothing_wrong fault.NotNew read_back wrong = inside fault.NotNew read_back wrong
  nothing_wrong fault.NoOpening read_back wrong = absurd (wrong config is.rest is.opens)
  nothing_wrong (fault.Changed number) read_back wrong = inside (fault.Changed number) read_back wrong
  nothing_wrong (fault.NotALine number) read_back wrong = inside (fault.NotALine number) read_back wrong
  nothing_wrong (fault.OutOfOrder number) read_back wrong = inside (fault.OutOfOrder number) read_back wrong
  nothing_wrong (fault.Store error) read_back wrong = inside (fault.Store error) read_back wrong
  nothing_wrong fault.OutOfMemory read_back wrong = refl

-- ---- texts

entry_said : (read : Result Entry LineFault) (entry : Entry) → (read >>= (λ (it : Entry). let told : Result Line LineFault = Ok (line.Entry it) in told)) ≡ Ok (line.Entry entry) → read ≡ Ok entry
entry_said (Ok it) entry e = cc
entry_said (Err why) entry e = absurd (cc)

change_said : (read : Result ChangeLine LineFault) (change : ChangeLine) → (read >>= (λ (it : ChangeLine). let told : Result Line LineFault = Ok (line.Change it) in told)) ≡ Ok (line.Change change)
    → read ≡ Ok change
change_said (Ok it) change e = cc
change_said (Err why) change e = absurd (cc)

pub entry_there : (from : Place) (stored : journal.Entry) (entry : Entry) → IsNext from stored (a.Entry entry) → entry_of stored.1 ≡ Ok entry
entry_there from stored entry next = entry_said (entry_of stored.1) entry next.says

pub change_there : (from : Place) (stored : journal.Entry) (change : ChangeLine) → IsNext from stored (a.Change change) → change_of stored.1 ≡ Ok change
change_there from stored change next = change_said (change_of stored.1) change next.says

-- ---- order

-- each entry's version is at most the changes before it
pub version_there : (from : Place) (lines : List journal.Entry) (before rest : List Record) (entry : Entry) (to : Place) → Leads from lines (before ++ a.Entry entry ∷ rest) to
    → entry.version ≤ from.changes + length (changes_in before)
version_there from [] [] rest entry to leads = absurd leads
version_there from [] (it ∷ before) rest entry to leads = absurd leads
version_there from (stored ∷ lines) [] rest entry to leads = omega (arith, leads.0.follows.1)
version_there from (stored ∷ lines) (a.Entry it ∷ before) rest entry to leads =
    version_there (after from stored.1 (a.Entry it)) lines before rest entry to leads.1
version_there from (stored ∷ lines) (a.Change it ∷ before) rest entry to leads =
    omega (arith, version_there (after from stored.1 (a.Change it)) lines before rest entry to leads.1)

-- the entries have the numbers that follow
pub numbered_from : (from : Place) (lines : List journal.Entry) (records : List Record) (to : Place) → Leads from lines records to
    → map (λ (entry : Entry). entry.seq) (entries_in records) ≡ range_with_len (from.entries + 1) (length (entries_in records))
numbered_from from [] [] to leads = refl
numbered_from from [] (it ∷ records) to leads = absurd leads
numbered_from from (stored ∷ lines) [] to leads = absurd leads
numbered_from from (stored ∷ lines) (a.Entry entry ∷ records) to leads =
    ap₂ (λ (n : ℕ) (ns : List ℕ). n ∷ ns) leads.0.follows.0 (numbered_from (after from stored.1 (a.Entry entry)) lines records to leads.1)
numbered_from from (stored ∷ lines) (a.Change change ∷ records) to leads = numbered_from (after from stored.1 (a.Change change)) lines records to leads.1

-- ---- a restart

-- what is found is the book, or the book with more
pub found_again : (config other : List ℕ) (records more others : List Record) (mid to : Place) (lines added found : List journal.Entry)
    → BooksAreOne → Reaches lines config records mid → Leads mid added more to → IsBook found other others → (found ≡ lines) ⊎ (found ≡ lines ++ added)
    → (other ≡ config) × ((others ≡ records) ⊎ (others ≡ records ++ more))
found_again config other records more others mid to lines added found one book leads is (inl same) =
    let both = one lines other config others records (subst (λ (all : List journal.Entry). IsBook all other others) same is) (mid, book) in
    (both.0, inl both.1)
found_again config other records more others mid to lines added found one book leads is (inr grown) =
    let both = one (lines ++ added) other config others (records ++ more) (subst (λ (all : List journal.Entry). IsBook all other others) grown is)
    (to, Reaches-append lines config records mid added more to book leads) in
    (both.0, inr both.1)

-- so nothing is wrong with it
pub found_right : (config : List ℕ) (records more : List Record) (mid to : Place) (lines added found : List journal.Entry) (why : BookFault)
    → BooksAreTaken → Reaches lines config records mid → Leads mid added more to → IsWrong found why → (found ≡ lines) ⊎ (found ≡ lines ++ added) → why ≡ fault.OutOfMemory
found_right config records more mid to lines added found why taken book leads wrong (inl same) =
    taken lines config records why (mid, book) (subst (λ (all : List journal.Entry). IsWrong all why) same wrong)
found_right config records more mid to lines added found why taken book leads wrong (inr grown) =
    taken (lines ++ added) config (records ++ more) why (to, Reaches-append lines config records mid added more to book leads) (subst (λ (all : List journal.Entry). IsWrong all why) grown wrong)
