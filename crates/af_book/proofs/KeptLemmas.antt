-- What a book shows of its fields, of its journal, and of a crash.
use Rattle.std.proofs.Common.{◌≡◌, ◌∙◌, ℕ, IsTrue, List, [], ◌∷◌, ◌++◌, length, Ok, refl, sym, subst, ap, arith}
use Rattle.sqlite_trees.specs.Tree.{Trees}
use Rattle.af_journal.specs.Lines as journal
use Rattle.af_journal.specs.Shown.{Shown}
use Rattle.af_store.specs.OpeningLines.{opening_body, opening_of}
use Rattle.af_book.specs.declared.place.Place.{Place}
use Rattle.af_book.specs.declared.record.Record.{Record}
use Rattle.af_book.specs.Books.{Leads, Reaches, opened, opening_line}
use Rattle.af_book.specs.Kept.{Adds, IsStored, Kept, Stays}
use Rattle.af_book.specs.Records.{changes_in, config_in, entries_in, records_in}
use Rattle.af_book.proofs.BookLemmas.{Reaches-more, Reaches-opening, Reaches-read, changes-Leads, config_in-more, config_in-Reaches, entries-Leads, records_in-more, records_in-Reaches}

-- what a book over a journal shows
abbrev pub shown : {S : Type 0} → Shown S → Place → Kept S
shown it end = record { is_open = it.is_open; config = config_in it.entries; records = records_in it.entries; end = end; journal = it }

-- what holds of a journal under a book
abbrev pub IsKept : {S : Type 0} → Shown S → Place → Type 0
IsKept it end = IsTrue it.is_open → Reaches it.entries (config_in it.entries) (records_in it.entries) end

module _ {S : Type 0} (it : Shown S) (end : Place) (now : Kept S) (view_is : shown it end ≡ now) (kept : IsKept it end) where
  pub was_open : IsTrue now.is_open → IsTrue it.is_open
  was_open is_open = ap (λ (k : Kept S). k.is_open) view_is ∙ is_open

  pub is_shown_open : IsTrue it.is_open → IsTrue now.is_open
  is_shown_open is_open = sym (ap (λ (k : Kept S). k.is_open) view_is) ∙ is_open

  pub reached : IsTrue now.is_open → Reaches now.journal.entries now.config now.records now.end
  reached is_open = subst (λ (k : Kept S). Reaches k.journal.entries k.config k.records k.end) view_is (kept (was_open is_open))

  pub entries_are : IsTrue now.is_open → end.entries ≡ length (entries_in now.records)
  entries_are is_open =
      let to = reached is_open in
      ap (λ (k : Kept S). k.end.entries) view_is ∙ entries-Leads (opened now.config) to.rest now.records now.end to.leads ∙ omega arith

  pub changes_are : IsTrue now.is_open → end.changes ≡ length (changes_in now.records)
  changes_are is_open =
      let to = reached is_open in
      ap (λ (k : Kept S). k.end.changes) view_is ∙ changes-Leads (opened now.config) to.rest now.records now.end to.leads ∙ omega arith

  -- a database with the lines of the journal has those of the book
  pub stored : IsTrue now.is_open → (db : Trees) → journal.HasEntries db it.entries → IsStored db now.config now.records
  stored is_open db has =
      (now.journal.entries, subst (λ (k : Kept S). journal.HasEntries db k.journal.entries) view_is has, (now.end, reached is_open))

  -- lines that lead on from its end
  module _ (lines : List journal.Entry) (more : List Record) (start to : Place) (starts : start ≡ now.end) (leads : Leads start lines more to) where
    leads_on : Leads end lines more to
    leads_on = subst (λ (from : Place). Leads from lines more to) (starts ∙ sym (ap (λ (k : Kept S). k.end) view_is)) leads

    pub grown : IsTrue it.is_open → Reaches (it.entries ++ lines) (config_in (it.entries ++ lines)) (records_in (it.entries ++ lines)) to
    grown is_open = Reaches-more it.entries end lines more to (kept is_open) leads_on

    config_stays : IsTrue it.is_open → config_in (it.entries ++ lines) ≡ now.config
    config_stays is_open = config_in-more it.entries end lines more to (kept is_open) leads_on ∙ ap (λ (k : Kept S). k.config) view_is

    records_grow : IsTrue it.is_open → records_in (it.entries ++ lines) ≡ now.records ++ more
    records_grow is_open = records_in-more it.entries end lines more to (kept is_open) leads_on ∙ ap (λ (k : Kept S). k.records ++ more) view_is

    -- a database with all of them
    pub stored_more : IsTrue it.is_open → (db : Trees) → journal.HasEntries db (it.entries ++ lines) → IsStored db now.config (now.records ++ more)
    stored_more is_open db has = (
      it.entries ++ lines,
      has,
      (
        to,
        subst (λ (config : List ℕ). Reaches (it.entries ++ lines) config (now.records ++ more) to) (config_stays is_open)
            (subst (λ (records : List Record). Reaches (it.entries ++ lines) (config_in (it.entries ++ lines)) records to) (records_grow is_open) (grown is_open)),
      ),
    )

    -- the journal with all of them
    pub adds : (new : Shown S) → IsTrue it.is_open → new.entries ≡ it.entries ++ lines → Adds now (shown new to) more
    adds new is_open all = record {
      opened = is_shown_open is_open;
      config = ap config_in all ∙ config_stays is_open;
      records = ap records_in all ∙ records_grow is_open;
    }

    pub kept_more : (new : Shown S) → IsTrue it.is_open → new.entries ≡ it.entries ++ lines → Reaches new.entries (config_in new.entries) (records_in new.entries) to
    kept_more new is_open all =
        subst (λ (entries : List journal.Entry). Reaches entries (config_in entries) (records_in entries) to) (sym all) (grown is_open)

  -- the journal as it was
  pub stays : (new : Shown S) → IsTrue it.is_open → new.entries ≡ it.entries → Stays now (shown new end)
  stays new is_open same = record {
    opened = is_shown_open is_open;
    config = ap config_in same ∙ ap (λ (k : Kept S). k.config) view_is;
    records = ap records_in same ∙ ap (λ (k : Kept S). k.records) view_is;
    end = ap (λ (k : Kept S). k.end) view_is;
  }

  pub kept_same : (new : Shown S) → IsTrue it.is_open → new.entries ≡ it.entries → Reaches new.entries (config_in new.entries) (records_in new.entries) end
  kept_same new is_open same =
      subst (λ (entries : List journal.Entry). Reaches entries (config_in entries) (records_in entries) end) (sym same) (kept is_open)

-- ---- a new book

pub none : (lines : List journal.Entry) → length lines ≡ 0 → lines ≡ []
none [] n = refl
none (stored ∷ lines) n = absurd (omega arith)

module _ (config : List ℕ) (lines all : List journal.Entry) (stored : journal.Entry) (n : length lines ≡ 0) (grows : all ≡ lines ++ stored ∷ []) (is : stored ≡ opening_line config) where
  pub just_opening : all ≡ opening_line config ∷ []
  just_opening = grows ∙ ap (λ (before : List journal.Entry). before ++ stored ∷ []) (none lines n) ∙ ap (λ (it : journal.Entry). let one : List journal.Entry = it ∷ [] in one) is

  pub begun : (to : Place) → opening_of (opening_body config) ≡ Ok config → to ≡ opened config → Reaches all (config_in all) (records_in all) to
  begun to read_back ends =
      subst (λ (entries : List journal.Entry). Reaches entries (config_in entries) (records_in entries) to) (sym just_opening)
      (Reaches-read config read_back (opening_line config ∷ []) [] to (subst (λ (place : Place). Reaches (opening_line config ∷ []) config [] place) (sym ends) (Reaches-opening config read_back)))

  pub begins : opening_of (opening_body config) ≡ Ok config → (config_in all ≡ config) × (records_in all ≡ [])
  begins read_back =
      let first = Reaches-opening config read_back in (
        ap config_in just_opening ∙ config_in-Reaches config read_back (opening_line config ∷ []) [] (opened config) first,
        ap records_in just_opening ∙ records_in-Reaches config read_back (opening_line config ∷ []) [] (opened config) first,
      )
