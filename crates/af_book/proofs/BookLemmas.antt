-- Lines that lead from place to place are read back as the records that they say.
use Rattle.std.proofs.Common.{◌≡◌, ◌∙◌, ℕ, ◌+◌, List, [], ◌∷◌, ◌++◌, length, Result, Ok, refl, sym, subst, ap, arith, append_assoc}
use Rattle.af_journal.specs.Lines as journal
use Rattle.af_base.specs.Readings.{◌>>=◌}
use Rattle.af_store.specs.Chains.{chained, marked, start}
use Rattle.af_store.specs.Lines.{line_of}
use Rattle.af_store.specs.OpeningLines.{opening_body, opening_of}
use Rattle.af_store.specs.declared.line.Line.{Line}
use Rattle.af_store.specs.declared.line.Line.TheVariants as line
use Rattle.af_store.specs.declared.line_fault.LineFault.{LineFault}
use Rattle.af_store.specs.declared.line_kind.LineKind.{LineKind}
use Rattle.af_store.specs.declared.line_kind.LineKind.TheVariants as kind
use Rattle.af_book.specs.declared.place.Place.{Place}
use Rattle.af_book.specs.declared.record.Record.{Record}
use Rattle.af_book.specs.declared.record.Record.TheVariants as a
use Rattle.af_book.specs.Books.{IsNext, Leads, Reaches, after, opened, opening_line}
use Rattle.af_book.specs.Records.{changes_in, config_in, config_said, entries_in, kind_in, kind_of, record_said, records_in, said, saying}

-- ---- lines as they are read

-- a mark begins with its kind
pub kind_in-marked : (kind : LineKind) (digest : List ℕ) → kind_in (marked kind digest) ≡ kind
kind_in-marked kind.Opened digest = refl
kind_in-marked kind.Entry digest = refl
kind_in-marked kind.Change digest = refl

record_said-saying : (it : Record) → record_said (Ok (saying it)) ≡ it ∷ []
record_said-saying (a.Entry entry) = refl
record_said-saying (a.Change change) = refl

-- a line that says a record is read as it
pub record_said-said : (from : Place) (stored : journal.Entry) (it : Record) → IsNext from stored it → record_said (said stored) ≡ it ∷ []
record_said-said from stored it is =
    ap (λ (mark : List ℕ). record_said (line_of (kind_in mark) stored.1)) is.mark
    ∙ ap (λ (kind : LineKind). record_said (line_of kind stored.1)) (kind_in-marked (kind_of it) (chained from.chain (record { kind = kind_of it; body = stored.1 })))
    ∙ ap record_said is.says
    ∙ record_said-saying it

pub records_in-append : (lines more : List journal.Entry) → records_in (lines ++ more) ≡ records_in lines ++ records_in more
records_in-append [] more = refl
records_in-append (stored ∷ lines) more =
    ap (λ (records : List Record). record_said (said stored) ++ records) (records_in-append lines more)
    ∙ sym (append_assoc (record_said (said stored)) (records_in lines) (records_in more))

-- lines that lead on are read as the records that they say
pub records_in-Leads : (from : Place) (lines : List journal.Entry) (records : List Record) (to : Place) → Leads from lines records to → records_in lines ≡ records
records_in-Leads from [] [] to leads = refl
records_in-Leads from [] (it ∷ records) to leads = absurd leads
records_in-Leads from (stored ∷ lines) [] to leads = absurd leads
records_in-Leads from (stored ∷ lines) (it ∷ records) to leads =
    ap (λ (first : List Record). first ++ records_in lines) (record_said-said from stored it leads.0)
    ∙ ap (λ (rest : List Record). it ∷ rest) (records_in-Leads (after from stored.1 it) lines records to leads.1)

-- ---- lines one after another

-- one way, and then another
pub Leads-append : (from : Place) (lines : List journal.Entry) (records : List Record) (mid : Place) (more : List journal.Entry) (further : List Record) (to : Place)
    → Leads from lines records mid → Leads mid more further to → Leads from (lines ++ more) (records ++ further) to
Leads-append from [] [] mid more further to first then = subst (λ (place : Place). Leads place more further to) first then
Leads-append from [] (it ∷ records) mid more further to first then = absurd first
Leads-append from (stored ∷ lines) [] mid more further to first then = absurd first
Leads-append from (stored ∷ lines) (it ∷ records) mid more further to first then =
    (first.0, Leads-append (after from stored.1 it) lines records mid more further to first.1 then)

-- one line more
pub Leads-push : (from : Place) (lines : List journal.Entry) (records : List Record) (mid : Place) (stored : journal.Entry) (it : Record) (to : Place)
    → Leads from lines records mid → IsNext mid stored it → to ≡ after mid stored.1 it → Leads from (lines ++ stored ∷ []) (records ++ it ∷ []) to
Leads-push from lines records mid stored it to first is end = Leads-append from lines records mid (stored ∷ []) (it ∷ []) to first (is, end)

-- lines that are read as they are, with one line more
module _ (from : Place) (lines : List journal.Entry) (mid : Place) (stored : journal.Entry) (it : Record) where
  pub records_in-push : IsNext mid stored it → records_in (lines ++ stored ∷ []) ≡ records_in lines ++ it ∷ []
  records_in-push is =
      records_in-append lines (stored ∷ [])
      ∙ ap (λ (last : List Record). records_in lines ++ (last ++ [])) (record_said-said mid stored it is)

  pub Leads-read : (to : Place) → Leads from lines (records_in lines) mid → IsNext mid stored it → to ≡ after mid stored.1 it
      → Leads from (lines ++ stored ∷ []) (records_in (lines ++ stored ∷ [])) to
  Leads-read to first is end =
      subst (λ (records : List Record). Leads from (lines ++ stored ∷ []) records to) (sym (records_in-push is))
      (Leads-push from lines (records_in lines) mid stored it to first is end)

-- ---- counts

-- the place reached has so many entries and changes more
pub entries-Leads : (from : Place) (lines : List journal.Entry) (records : List Record) (to : Place) → Leads from lines records to
    → to.entries ≡ from.entries + length (entries_in records)
entries-Leads from [] [] to leads = ap (λ (place : Place). place.entries) leads ∙ omega arith
entries-Leads from [] (it ∷ records) to leads = absurd leads
entries-Leads from (stored ∷ lines) [] to leads = absurd leads
entries-Leads from (stored ∷ lines) (a.Entry entry ∷ records) to leads =
    omega (arith, entries-Leads (after from stored.1 (a.Entry entry)) lines records to leads.1)
entries-Leads from (stored ∷ lines) (a.Change change ∷ records) to leads =
    omega (arith, entries-Leads (after from stored.1 (a.Change change)) lines records to leads.1)

pub changes-Leads : (from : Place) (lines : List journal.Entry) (records : List Record) (to : Place) → Leads from lines records to
    → to.changes ≡ from.changes + length (changes_in records)
changes-Leads from [] [] to leads = ap (λ (place : Place). place.changes) leads ∙ omega arith
changes-Leads from [] (it ∷ records) to leads = absurd leads
changes-Leads from (stored ∷ lines) [] to leads = absurd leads
changes-Leads from (stored ∷ lines) (a.Entry entry ∷ records) to leads =
    omega (arith, changes-Leads (after from stored.1 (a.Entry entry)) lines records to leads.1)
changes-Leads from (stored ∷ lines) (a.Change change ∷ records) to leads =
    omega (arith, changes-Leads (after from stored.1 (a.Change change)) lines records to leads.1)

-- ---- books

-- more lines do not change what the first says
config_in-append : (first : journal.Entry) (lines rest more : List journal.Entry) → lines ≡ first ∷ rest → config_in (lines ++ more) ≡ config_in lines
config_in-append first lines rest more opens = ap (λ (all : List journal.Entry). config_in (all ++ more)) opens ∙ sym (ap config_in opens)

pub Reaches-append : (lines : List journal.Entry) (config : List ℕ) (records : List Record) (mid : Place) (more : List journal.Entry) (further : List Record) (to : Place)
    → Reaches lines config records mid → Leads mid more further to → Reaches (lines ++ more) config (records ++ further) to
Reaches-append lines config records mid more further to first then = record {
  rest = first.rest ++ more;
  opens = ap (λ (all : List journal.Entry). all ++ more) first.opens;
  leads = Leads-append (opened config) first.rest records mid more further to first.leads then;
}

-- a book as it is read, with more lines
module _ (lines : List journal.Entry) (mid : Place) (more : List journal.Entry) (further : List Record) (to : Place)
    (first : Reaches lines (config_in lines) (records_in lines) mid) (then : Leads mid more further to) where
  pub config_in-more : config_in (lines ++ more) ≡ config_in lines
  config_in-more = config_in-append (opening_line (config_in lines)) lines first.rest more first.opens

  pub records_in-more : records_in (lines ++ more) ≡ records_in lines ++ further
  records_in-more = records_in-append lines more ∙ ap (λ (last : List Record). records_in lines ++ last) (records_in-Leads mid more further to then)

  pub Reaches-more : Reaches (lines ++ more) (config_in (lines ++ more)) (records_in (lines ++ more)) to
  Reaches-more =
      subst (λ (config : List ℕ). Reaches (lines ++ more) config (records_in (lines ++ more)) to) (sym config_in-more)
      (subst (λ (records : List Record). Reaches (lines ++ more) (config_in lines) records to) (sym records_in-more)
      (Reaches-append lines (config_in lines) (records_in lines) mid more further to first then))

-- the line that opens a book, which is read back
module _ (config : List ℕ) (read_back : opening_of (opening_body config) ≡ Ok config) where
  said-opening_line : said (opening_line config) ≡ Ok (line.Opened config)
  said-opening_line =
      ap (λ (kind : LineKind). line_of kind (opening_body config)) (kind_in-marked kind.Opened (chained start (record { kind = kind.Opened; body = opening_body config })))
      ∙ ap (λ (read : Result (List ℕ) LineFault). read >>= (λ (it : List ℕ). let said : Result Line LineFault = Ok (line.Opened it) in said)) read_back

  -- what is read of a book is what it is of
  pub config_in-Reaches : (lines : List journal.Entry) (records : List Record) (to : Place) → Reaches lines config records to → config_in lines ≡ config
  config_in-Reaches lines records to reaches = ap config_in reaches.opens ∙ ap config_said said-opening_line

  pub records_in-Reaches : (lines : List journal.Entry) (records : List Record) (to : Place) → Reaches lines config records to → records_in lines ≡ records
  records_in-Reaches lines records to reaches =
      ap records_in reaches.opens ∙ ap (λ (read : Result Line LineFault). record_said read ++ records_in reaches.rest) said-opening_line
      ∙ records_in-Leads (opened config) reaches.rest records to reaches.leads

  -- a book as it is read
  pub Reaches-read : (lines : List journal.Entry) (records : List Record) (to : Place) → Reaches lines config records to → Reaches lines (config_in lines) (records_in lines) to
  Reaches-read lines records to reaches =
      subst (λ (it : List ℕ). Reaches lines it (records_in lines) to) (sym (config_in-Reaches lines records to reaches))
      (subst (λ (it : List Record). Reaches lines config it to) (sym (records_in-Reaches lines records to reaches)) reaches)

  -- a new book
  pub Reaches-opening : Reaches (opening_line config ∷ []) config [] (opened config)
  Reaches-opening = record { rest = []; opens = refl; leads = refl }
