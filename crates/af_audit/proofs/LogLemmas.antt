-- A page of event logs.
use Rattle.std.proofs.Common.{◌≡◌, ◌∙◌, refl, sym, ap, ap₂, subst, codes, ℕ, ◌+◌, ◌<◌, List, [], ◌∷◌, ◌++◌, length, map, filter, get_or, slice_get, take, ltb, is_some, IfSome, Bool, true}
use Rattle.std.specs.Prelude.{Option, Some, None, Result, Ok, Err}
use Rattle.std.specs.List.{cons_option, filter_map}
use Rattle.std.specs.Option.{option_copied}
use Rattle.std.proofs.Common.{Bor}
use Rattle.std.proofs.lemmas.Bool.{ltb-false, ltb-true}
use Rattle.std.proofs.lemmas.List.{take_more}
use Rattle.std.proofs.lemmas.Option.{slice_get_past, slice_get_read}
use Rattle.std.proofs.lemmas.List.Elements.{All-weaker, filter_map-append, filter_passes}
use Rattle.serde_json.specs.Data.{Data}
use Rattle.serde_json.specs.Written.{compact_text}
use Rattle.af_listing.specs.Laws.{PagesTellShownRows}
use Rattle.af_listing.specs.Pages.{cut, is_shown, page_of}
use Rattle.af_listing.specs.Windows.{Cut}
use Rattle.af_policy.specs.declared.bad_input.Parameter.{Parameter}
use Rattle.af_policy.specs.Grants.{first_unmet, grants, reads, reads_dag}
use Rattle.af_policy.specs.Identity.{bearer_of}
use Rattle.af_policy.specs.Rows.{PolicyRows}
use Rattle.af_role.specs.Pairs.{PairRow}
use Rattle.af_role.specs.declared.need.Need.{Need}
use Rattle.af_ops.specs.declared.answer.Under.{Under}
use Rattle.af_ops.specs.declared.served.Served.TheVariants.{Shown}
use Rattle.af_ops.specs.Fields.{listing_of, object_of}
use Rattle.af_ops.specs.Served.{IsChange, IsServed, reply_told}
use Rattle.af_ops.specs.Verdicts.{Verdict, Tells, dag_ids}
use Rattle.af_audit.specs.declared.entry.Entry.{Entry}
use Rattle.af_audit.specs.Answered.{standing_of}
use Rattle.af_audit.specs.EventLogs.{entries_granted, entries_judged, entries_permitted, entries_told, entries_verdict, log_needs, nameless}
use Rattle.af_audit.specs.Laws.{EventLogsLeaveTheLedger, EventLogsTellWhatIsRead, MayBeTold, TellsPage}
use Rattle.af_audit.specs.Ledgers.{LedgerRows}
use Rattle.af_audit.specs.Logs.{act_dag, entries_data, entry_fields, logs_data, shown_entries}
use Rattle.af_audit.proofs.RequestLemmas.{served_none}

-- what is found at each place is all that is found
pub found_at_each : {X Y : Type 0} (h : X → Option Y) (xs : List X) (ys : List Y) → map h xs ≡ map Some ys → filter_map h xs ≡ ys
found_at_each h [] [] is = refl
found_at_each h [] (y ∷ ys) is = cc
found_at_each h (x ∷ xs) [] is = cc
found_at_each {Y = Y} h (x ∷ xs) (y ∷ ys) is =
    let first : h x ≡ Some y = cc in
    let rest : map h xs ≡ map Some ys = cc in
    ap (λ (o : Option Y). cons_option o (filter_map h xs)) first ∙ ap (λ (l : List Y). y ∷ l) (found_at_each h xs ys rest)

-- what a look-up gives at a place
pub got_at : {X : Type 0} (rows : List X) (place : ℕ) (got : Option (Bor X)) → is_some got ≡ ltb place (length rows) → IfSome got (λ x. x.now ≡ get_or rows place x.now) → option_copied got ≡ slice_get rows place
got_at rows place None tests is = sym (slice_get_past rows place (ltb-false place (length rows) (sym tests)))
got_at rows place (Some x) tests is =
    sym (slice_get_read rows (length rows) place x.now refl (ltb-true place (length rows) (sym tests)) is)

-- what is found at one place more
pub found_more : {X : Type 0} (rows : List X) (places : List ℕ) (i : ℕ) (found : Option X) (was now : List X) → i < length places → found ≡ slice_get rows (get_or places i 0) → was ≡ filter_map (slice_get rows) (take i places) → now ≡ was ++ cons_option found [] → now ≡ filter_map (slice_get rows) (take (i + 1) places)
found_more {X = X} rows places i found was now inside here before grown =
    grown
    ∙ ap (λ (l : List X). l ++ cons_option found []) before
    ∙ ap (λ (o : Option X). filter_map (slice_get rows) (take i places) ++ cons_option o []) here
    ∙ sym (filter_map-append (slice_get rows) (take i places) (get_or places i 0 ∷ []))
    ∙ ap (filter_map (slice_get rows)) (sym (take_more places i 0 inside))

-- what is found at the places of a page is the page
pub told_rows : {X : Type 0} (shown : X → Bool) → PagesTellShownRows shown → (window : Cut) (rows : List X) (places : List ℕ) (told : List X) → places ≡ (page_of shown window rows).places → told ≡ filter_map (slice_get rows) places → told ≡ cut window (filter shown rows)
told_rows shown tells window rows places told here found =
    found ∙ ap (filter_map (slice_get rows)) here
    ∙ found_at_each (slice_get rows) (page_of shown window rows).places (cut window (filter shown rows)) (tells window rows)

-- rows that are borrowed, told as a page with a total
pub borrowed_rows : {X : Type 0} (now : X → Entry) (borrowed : List X) (rows : List Entry) (total count : ℕ) → map now borrowed ≡ rows → total ≡ count → compact_text (listing_of (codes "event_logs") (map (λ x. object_of (entry_fields (now x))) borrowed) total) ≡ compact_text (logs_data rows count)
borrowed_rows {X = X} now borrowed rows total count is counts =
    ap₂ (λ (told : List Data) (n : ℕ). compact_text (listing_of (codes "event_logs") told n)) (each borrowed ∙ ap (map (λ (entry : Entry). object_of (entry_fields entry))) is) counts
  where
    each : (xs : List X) → map (λ x. object_of (entry_fields (now x))) xs ≡ map (λ entry. object_of (entry_fields entry)) (map now xs)
    each [] = refl
    each (x ∷ xs) = ap (λ (told : List Data). object_of (entry_fields (now x)) ∷ told) (each xs)

-- ---- what is served

-- the verdict of a page
pub page_granted : (granted : PairRow → Bool) (ledger : LedgerRows) (asked : Result Cut Parameter) (window : Cut) → first_unmet granted None (dag_ids ledger.state) log_needs ≡ None → asked ≡ Ok window → entries_granted granted ledger asked ≡ Tells (Some (compact_text (entries_data (reads_dag granted) window ledger.audit.entries)))
page_granted granted ledger asked window none is =
    ap (entries_permitted granted ledger asked) none ∙ ap (entries_told (reads_dag granted) ledger.audit.entries) is

-- a page
pub serves_page : (it : Verdict) (ledger : LedgerRows) (under : Under) (text : List ℕ) → it ≡ Tells (Some text) → under ≡ (standing_of ledger).under → IsServed nameless it (standing_of ledger) (Shown (reply_told under (Some text))) (standing_of ledger)
serves_page it ledger under text is here =
    subst (λ (v : Verdict). IsServed nameless v (standing_of ledger) (Shown (reply_told under (Some text))) (standing_of ledger)) (sym is)
    (ap (λ (u : Under). Some (reply_told u (Some text))) (sym here), refl)

-- ---- no change

told_keeps : (reads : List ℕ → Bool) (entries : List Entry) (asked : Result Cut Parameter) → IsChange (entries_told reads entries asked) → ⊥
told_keeps reads entries (Ok window) change = change
told_keeps reads entries (Err parameter) change = change

permitted_keeps : (granted : PairRow → Bool) (ledger : LedgerRows) (asked : Result Cut Parameter) (lacked : Option Need) → IsChange (entries_permitted granted ledger asked lacked) → ⊥
permitted_keeps granted ledger asked (Some need) change = change
permitted_keeps granted ledger asked None change = told_keeps _ ledger.audit.entries asked change

judged_keeps : (policy : PolicyRows) (ledger : LedgerRows) (asked : Result Cut Parameter) (who : Option (List ℕ)) → IsChange (entries_judged policy ledger asked who) → ⊥
judged_keeps policy ledger asked None change = change
judged_keeps policy ledger asked (Some user) change =
    permitted_keeps (grants policy user) ledger asked (first_unmet (grants policy user) None (dag_ids ledger.state) log_needs) change

pub logs_leave : EventLogsLeaveTheLedger
logs_leave policy token asked old gave new is =
    served_none nameless (entries_verdict policy old token asked) (standing_of old) new gave is (judged_keeps policy old asked (bearer_of policy token))

-- ---- what is told

may_be_told : (policy : PolicyRows) (user : List ℕ) (dag : Option (List ℕ)) → is_shown (reads policy user) dag ≡ true → MayBeTold policy user dag
may_be_told policy user None is = tt
may_be_told policy user (Some dag_id) is = is

module _ (policy : PolicyRows) (window : Cut) (ledger : LedgerRows) (reply : Option (List ℕ)) where
  page_told : (user : List ℕ) → entries_told (reads policy user) ledger.audit.entries (Ok window) ≡ Tells reply → TellsPage policy user window ledger.audit.entries reply
  page_told user is = record {
    shown = shown_entries (reads policy user) ledger.audit.entries;
    all = refl;
    each =
        All-weaker (λ (entry : Entry). is_shown (reads policy user) (act_dag entry.act) ≡ true) (λ (entry : Entry). MayBeTold policy user (act_dag entry.act))
        (λ (entry : Entry). may_be_told policy user (act_dag entry.act)) (shown_entries (reads policy user) ledger.audit.entries)
        (filter_passes (λ (entry : Entry). is_shown (reads policy user) (act_dag entry.act)) ledger.audit.entries);
    told = cc;
  }

  permitted_told : (user : List ℕ) (lacked : Option Need) → entries_permitted (grants policy user) ledger (Ok window) lacked ≡ Tells reply → TellsPage policy user window ledger.audit.entries reply
  permitted_told user (Some need) is = cc
  permitted_told user None is = page_told user is

  judged_told : (who : Option (List ℕ)) → entries_judged policy ledger (Ok window) who ≡ Tells reply → (user : List ℕ) × (who ≡ Some user) × TellsPage policy user window ledger.audit.entries reply
  judged_told None is = cc
  judged_told (Some user) is =
      (user, refl, permitted_told user (first_unmet (grants policy user) None (dag_ids ledger.state) log_needs) is)

pub logs_tell : EventLogsTellWhatIsRead
logs_tell policy token window ledger reply is = judged_told policy window ledger reply (bearer_of policy token) is
