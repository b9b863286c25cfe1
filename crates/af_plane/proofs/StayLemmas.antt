-- A session that calls has still seen what it had seen, and its answers name versions that never fall.
use Rattle.std.proofs.Common.{◌≡◌, ◌∙◌, inl, inr, ⊎_elim, refl, sym, ap, subst, ℕ, ◌≤◌, ◌+◌, List, [], ◌∷◌, Bool, true, false, length, arith}
use Rattle.std.specs.Prelude.{Option, Some}
use mathlib.Core.List.{IsPrefix}
use Rattle.af_prefixes.proofs.PrefixLemmas.{prefix_length, prefix_more, prefix_self, prefix_trans}
use Rattle.af_policy.specs.Rows.{PolicyRows}
use Rattle.af_tally.specs.Known.{Known}
use Rattle.af_ops.specs.declared.call.Call.{Call}
use Rattle.af_ops.specs.declared.call.Call.TheVariants as call
use Rattle.af_ops.specs.declared.op.Op.{Op}
use Rattle.af_ops.specs.declared.served.Served.{Served}
use Rattle.af_ops.specs.Endpoints.{endpoint_of}
use Rattle.af_ops.specs.Table.{is_open}
use Rattle.af_audit.specs.declared.entry.Entry.{Entry}
use Rattle.af_audit.specs.Ledgers.{Climb, LedgerRows}
use Rattle.af_board.specs.Marks.{Site, policy_of}
use Rattle.af_plane.specs.declared.grounds.Grounds.TheVariants as grounds
use Rattle.af_plane.specs.Events.{Exchange, named_in}
use Rattle.af_plane.specs.Growth.{IsOneMore}
use Rattle.af_plane.specs.Laws.{NoSessionGoesBack}
use Rattle.af_plane.specs.Looks.{Basis, HasMet, HasRead, Missed, On, Openly, looked}
use Rattle.af_plane.specs.Names.{IsCall, Name}
use Rattle.af_plane.specs.Planes.{Applies}
use Rattle.af_plane.specs.Requests.{RequestRows, only_reads}
use Rattle.af_plane.specs.Shared.{as_solo}
use Rattle.af_plane.specs.Solos.{NamesLast}
use Rattle.af_plane.specs.Stays.{Calls, CallsOn}
use Rattle.af_plane.specs.Turns.{IsActed, IsPlaced}
use Rattle.af_plane.specs.Visits.{PlaneRows, Visit}
use Rattle.af_plane.proofs.ControlLemmas.{placed_so}
use Rattle.af_plane.proofs.NameLemmas.{asked_names, climbs, decided_names}
use Rattle.af_plane.proofs.VersionLemmas.{may_one}

-- ---- a turn shows all entries that there were

begins : (was now : List Entry) → IsOneMore was now → IsPrefix was now
begins was now (inl same) = subst (IsPrefix was) (sym same) (prefix_self was)
begins was now (inr more) = subst (IsPrefix was) (sym more.1) (prefix_more was was more.0 (prefix_self was))

applied_more : (policy : PolicyRows) (old new : LedgerRows) (token : Option (List ℕ)) (it : Call) (t : ℕ) (gave : Served) → Applies policy old token it t (Some gave) new → IsOneMore old.audit.entries new.audit.entries
applied_more policy old new token (call.State asked) t gave is = may_one _ asked t old new is.1
applied_more policy old new token (call.Entries window) t gave is = inl (ap (λ (l : LedgerRows). l.audit.entries) is.1)
applied_more policy old new token (call.Policy asked) t gave is = absurd is

module _ (site : Site) (old new : PlaneRows) (was now : Visit) (gave : Served) (found : old.keeper.entries ≡ old.ledger.audit.entries) (left : new.keeper.entries ≡ new.ledger.audit.entries) where
  met_more : HasMet old was new now → IsPrefix old.ledger.audit.entries new.ledger.audit.entries → IsPrefix was.entries.entries now.entries.entries
  met_more met more =
      let shown : now.entries.entries ≡ new.ledger.audit.entries = ap (λ (k : Known Entry). k.entries) met.entries ∙ left in
      subst (IsPrefix was.entries.entries) (sym shown)
      (prefix_trans was.entries.entries old.ledger.audit.entries new.ledger.audit.entries (subst (IsPrefix was.entries.entries) found met.begins) more)

  read_more : HasRead old was new now → IsPrefix was.entries.entries now.entries.entries
  read_more read =
      let shown : now.entries.entries ≡ old.keeper.entries = ap (λ (k : Known Entry). k.entries) read.entries ∙ ap (λ (p : PlaneRows). p.keeper.entries) read.plane in
      subst (IsPrefix was.entries.entries) (sym shown) read.begins

  acted_more : (asked : RequestRows) (basis : Basis) → IsActed site asked old was gave new now basis → IsPrefix was.entries.entries now.entries.entries
  acted_more asked Openly is = absurd is
  acted_more asked Missed is =
      met_more is.met (subst (λ (l : LedgerRows). IsPrefix old.ledger.audit.entries l.audit.entries) (sym is.ledger) (prefix_self old.ledger.audit.entries))
  acted_more asked (On (grounds.Under m)) is =
      ⊎_elim
      (λ (met : HasMet old was new now). met_more met (begins old.ledger.audit.entries new.ledger.audit.entries
      (applied_more (policy_of site m) (looked m.version old.ledger) new.ledger asked.token asked.call asked.at gave is.applied)))
      (λ (beside : (only_reads asked.call ≡ true) × HasRead old was new now). read_more beside.1)
      is.met
  acted_more asked (On (grounds.Made r)) is = absurd is
  acted_more asked (On (grounds.Overtaken m)) is = absurd is
  acted_more asked (On (grounds.Spent m pushed)) is = absurd is

  opened_more : (asked : RequestRows) (op : Op) (b : Bool) (basis : Basis) → is_open (endpoint_of op) ≡ b → IsPlaced site asked old was gave new now basis (call.State op) → IsPrefix was.entries.entries now.entries.entries
  opened_more asked op true basis opens is =
      subst (λ (v : Visit). IsPrefix was.entries.entries v.entries.entries) (sym (is.1 opens).session) (prefix_self was.entries.entries)
  opened_more asked op false basis closed is = acted_more asked basis (is.0 closed)

  pub placed_more : (asked : RequestRows) (basis : Basis) (it : Call) → IsPlaced site asked old was gave new now basis it → IsPrefix was.entries.entries now.entries.entries
  placed_more asked basis (call.State op) is = opened_more asked op (is_open (endpoint_of op)) basis refl is
  placed_more asked basis (call.Entries window) is = acted_more asked basis is
  placed_more asked basis (call.Policy it) is = absurd is

-- ---- a call of a control

module _ (name : Name) (x : Exchange) (was now : Visit) where
  called_more : IsCall name x.asked was x.served now → IsPrefix was.entries.entries now.entries.entries
  called_more is = placed_more name.site is.old is.new was now x.served is.found.entries is.left.entries x.asked is.turn.0 x.asked.call is.turn.1

  called_names : IsCall name x.asked was x.served now → NamesLast x.served now
  called_names is =
      decided_names (as_solo name.site is.old was) (as_solo name.site is.new now) x.asked x.served is.turn.0
      (placed_so name is.old is.new was now x.asked.token x.asked.at x.served is.turn.0 x.asked.call is.turn.1)

  on_versions : (it : Call) → CallsOn name was x now it → IsPrefix was.pass.places now.pass.places
  on_versions (call.State op) is = is.longer
  on_versions (call.Entries window) is = is.longer
  on_versions (call.Policy asked) is = is.longer

  on_entries : (it : Call) → CallsOn name was x now it → IsPrefix was.entries.entries now.entries.entries
  on_entries (call.State op) is = called_more is
  on_entries (call.Entries window) is = called_more is
  on_entries (call.Policy asked) is =
      subst (λ (k : Known Entry). IsPrefix was.entries.entries k.entries) (sym is.entries) (prefix_self was.entries.entries)

  on_names : (it : Call) → CallsOn name was x now it → NamesLast x.served now
  on_names (call.State op) is = called_names is
  on_names (call.Entries window) is = called_names is
  on_names (call.Policy asked) is = asked_names name.site x.asked.token asked was x.served now is

-- ---- one call after another

all_versions : (name : Name) (was : Visit) (exchanges : List Exchange) (now : Visit) → Calls name was exchanges now → IsPrefix was.pass.places now.pass.places
all_versions name was [] now are = subst (λ (v : Visit). IsPrefix was.pass.places v.pass.places) (sym are) (prefix_self was.pass.places)
all_versions name was (x ∷ xs) now (mid, (first, later)) =
    prefix_trans was.pass.places mid.pass.places now.pass.places (on_versions name x was mid x.asked.call first) (all_versions name mid xs now later)

all_entries : (name : Name) (was : Visit) (exchanges : List Exchange) (now : Visit) → Calls name was exchanges now → IsPrefix was.entries.entries now.entries.entries
all_entries name was [] now are = subst (λ (v : Visit). IsPrefix was.entries.entries v.entries.entries) (sym are) (prefix_self was.entries.entries)
all_entries name was (x ∷ xs) now (mid, (first, later)) =
    prefix_trans was.entries.entries mid.entries.entries now.entries.entries (on_entries name x was mid x.asked.call first) (all_entries name mid xs now later)

all_names : (name : Name) (was : Visit) (exchanges : List Exchange) (now : Visit) (low : ℕ) → low + 1 ≤ length was.pass.places → Calls name was exchanges now → Climb low (named_in exchanges)
all_names name was [] now low le are = tt
all_names name was (x ∷ xs) now low le (mid, (first, later)) =
    climbs mid (named_in xs) (λ n more. all_names name mid xs now n more later) low x.served
    (omega (arith, le, prefix_length was.pass.places mid.pass.places (on_versions name x was mid x.asked.call first))) (on_names name x was mid x.asked.call first)

pub goes_on : NoSessionGoesBack
goes_on name was exchanges now are = record {
  versions = all_versions name was exchanges now are;
  entries = all_entries name was exchanges now are;
  names = λ seen is. all_names name was exchanges now seen (omega (arith, is)) are;
}
