-- What a group shows of its fields, with one line more.
use Rattle.std.specs.Prelude.{⊤}
use Rattle.std.proofs.Common.{◌≡◌, ◌∙◌, ◌⊎◌, inl, inr, ℕ, IsTrue, Bool, false, List, [], ◌∷◌, ◌++◌, length, Result, Ok, Err, refl, sym, ap, ap₂, arith}
use Rattle.std.specs.Bool.{◌==◌}
use Rattle.std.proofs.lemmas.Bool.Decides.{nat_tests}
use Rattle.af_base.specs.Readings.{seen}
use Rattle.af_journal.specs.Lines as journal
use Rattle.af_book.specs.declared.group_fault.GroupFault.{GroupFault}
use Rattle.af_book.specs.declared.group_fault.GroupFault.TheVariants.{OutOfMemory}
use Rattle.af_book.specs.declared.place.Place.{Place}
use Rattle.af_book.specs.declared.record.Record.{Record}
use Rattle.af_book.specs.Books.{IsNext, Leads, after}
use Rattle.af_book.specs.Groups.{Batch, change_count, entry_count, with_record}
use Rattle.af_book.specs.Records.{records_in}
use Rattle.af_book.proofs.BookLemmas.{Leads-read, changes-Leads, entries-Leads, records_in-push}

-- what a group of these lines shows
abbrev pub shown : Place → List journal.Entry → Batch
shown start lines = record { start = start; records = records_in lines }

module _ (start end : Place) (lines : List journal.Entry) (now : Batch) (view_is : shown start lines ≡ now) (leads : Leads start lines (records_in lines) end) where
  pub entries_are : end.entries ≡ entry_count now
  entries_are = entries-Leads start lines (records_in lines) end leads ∙ ap entry_count view_is

  pub changes_are : end.changes ≡ change_count now
  changes_are = changes-Leads start lines (records_in lines) end leads ∙ ap change_count view_is

  -- what is taken after the last line is what is taken after so many entries and changes
  pub taken_there : (take : ℕ → ℕ → Result ⊤ GroupFault) (got : Result ⊤ GroupFault) → take end.entries end.changes ≡ got → take (entry_count now) (change_count now) ≡ got
  taken_there take got is = ap₂ (λ (entries changes : ℕ). take entries changes) (sym entries_are) (sym changes_are) ∙ is

  -- what a group makes of it, or why it makes nothing
  module _ (take : ℕ → ℕ → Result ⊤ GroupFault) (it : Record) where
    abbrev pub Makes_there : Result Batch GroupFault → Type 0
    Makes_there made = seen (λ (done : ⊤). with_record now it) (take (entry_count now) (change_count now)) ≡ made

    pub made_there : take end.entries end.changes ≡ Ok tt → Makes_there (Ok (with_record now it))
    made_there is = ap (seen (λ (done : ⊤). with_record now it)) (taken_there take (Ok tt) is)

    pub refused_there : (why : GroupFault) → (take end.entries end.changes ≡ Err why) ⊎ (why ≡ OutOfMemory) → Makes_there (Err why) ⊎ (why ≡ OutOfMemory)
    refused_there why (inl is) = inl (ap (seen (λ (done : ⊤). with_record now it)) (taken_there take (Err why) is))
    refused_there why (inr memory) = inr memory

  module _ (stored : journal.Entry) (it : Record) (to : Place) (is : IsNext end stored it) (ends : to ≡ after end stored.1 it) where
    pub shown_more : with_record now it ≡ shown start (lines ++ stored ∷ [])
    shown_more =
        ap (λ (group : Batch). with_record group it) (sym view_is) ∙ ap (λ (records : List Record). let group : Batch = record { start = start; records = records } in group) (sym (records_in-push start lines end stored it is))

    pub leads_more : Leads start (lines ++ stored ∷ []) (records_in (lines ++ stored ∷ [])) to
    leads_more = Leads-read start lines end stored it to leads is ends

-- ---- whether there is any

empty_is : (start end : Place) (lines : List journal.Entry) (records : List Record) → Leads start lines records end → (empty : Bool) → empty ≡ (length lines == 0)
    → (IsTrue empty → records ≡ []) × (records ≡ [] → IsTrue empty)
empty_is start end [] [] leads empty is = (λ _. refl, λ _. is)
empty_is start end [] (it ∷ records) leads empty is = absurd leads
empty_is start end (stored ∷ lines) [] leads empty is = absurd leads
empty_is start end (stored ∷ lines) (it ∷ records) leads empty is =
    let no : empty ≡ false = grind (arith, nat_tests) in (λ (yes : IsTrue empty). absurd (cc), λ (none : it ∷ records ≡ []). absurd (cc))

pub is_empty_if : (start end : Place) (lines : List journal.Entry) (now : Batch) → shown start lines ≡ now → Leads start lines (records_in lines) end → (empty : Bool) → empty ≡ (length lines == 0)
    → (IsTrue empty → now.records ≡ []) × (now.records ≡ [] → IsTrue empty)
is_empty_if start end lines now view_is leads empty is =
    let it = empty_is start end lines (records_in lines) leads empty is in
    let same : records_in lines ≡ now.records = ap (λ (group : Batch). group.records) view_is in
    (λ (yes : IsTrue empty). sym same ∙ it.0 yes, λ (none : now.records ≡ []). it.1 (same ∙ none))
