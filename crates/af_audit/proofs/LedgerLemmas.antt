-- What holds of a ledger once an act is done, or once it decides under a later version.
use Rattle.std.proofs.Common.{◌≡◌, refl, ℕ, ◌≤◌, ◌<◌, List, [], ◌∷◌, ◌++◌, true, length, arith}
use Rattle.std.specs.Prelude.{nat_lt}
use Rattle.std.proofs.lemmas.Bool.{ltb-true}
use Rattle.std.proofs.lemmas.List.{map-append}
use Rattle.std.proofs.lemmas.List.Elements.{All-push}
use Rattle.af_sched.specs.State.{StateRows}
use Rattle.af_audit.specs.declared.act.Act.{Act}
use Rattle.af_audit.specs.declared.actor.Actor.{Actor}
use Rattle.af_audit.specs.declared.entry.Entry.{Entry}
use Rattle.af_audit.specs.Acts.{IsAfter, IsState, is_by}
use Rattle.af_audit.specs.Entries.{has_room}
use Rattle.af_audit.specs.Ledgers.{Climb, IsLedger, LedgerRows, entered, entry_of, versions_of}
use Rattle.af_audit.proofs.EntryLemmas.{audit_more}
use Rattle.af_audit.proofs.ReplayLemmas.{replay_more}

-- a later end
climb_later : (low : ℕ) (ns : List ℕ) (m n : ℕ) → m ≤ n → Climb low (ns ++ m ∷ []) → Climb low (ns ++ n ∷ [])
climb_later low [] m n le c = (omega (arith, c.0), tt)
climb_later low (k ∷ ks) m n le c = (c.0, climb_later k ks m n le c.1)

-- the last number once more
climb_again : (low : ℕ) (ns : List ℕ) (n : ℕ) → Climb low (ns ++ n ∷ []) → Climb low ((ns ++ n ∷ []) ++ n ∷ [])
climb_again low [] n c = (c.0, (omega arith, tt))
climb_again low (k ∷ ks) n c = (c.0, climb_again k ks n c.1)

-- one more entry, under the last version
climb_entered : (entries : List Entry) (entry : Entry) (n : ℕ) → entry.version ≡ n → Climb 0 (versions_of entries ++ n ∷ []) → Climb 0 (versions_of (entries ++ entry ∷ []) ++ n ∷ [])
climb_entered entries entry n e c = rw map-append (rw e (climb_again 0 (versions_of entries) n c))

-- there is room for one entry more
room_is : (count limit : ℕ) → nat_lt count limit ≡ true → count < limit
room_is count limit room = ltb-true count limit room

-- a ledger with the entry of one act more, and the state that it makes
pub ledger_grown : (ledger : LedgerRows) (who : Actor) (it : Act) (t : ℕ) (next : StateRows) → IsLedger ledger → has_room ledger.audit ≡ true → is_by who it ≡ true → IsState next → IsAfter it t ledger.state next → IsLedger (entered ledger who it t next)
ledger_grown ledger who it t next is room by state after = record {
  opens = is.opens;
  replays = replay_more ledger.audit.entries (entry_of ledger who it t) ledger.opening ledger.state next is.replays state after;
  audit = audit_more ledger.audit (entry_of ledger who it t) is.audit refl (room_is (length ledger.audit.entries) ledger.audit.limit room);
  acted = All-push (λ (entry : Entry). is_by entry.actor entry.act ≡ true) ledger.audit.entries (entry_of ledger who it t) is.acted by;
  climbs = climb_entered ledger.audit.entries (entry_of ledger who it t) ledger.version refl is.climbs;
}

-- a ledger that decides under a later version
pub ledger_looked : (ledger : LedgerRows) (later : ℕ) → IsLedger ledger → ledger.version ≤ later → IsLedger (record ledger { version = later })
ledger_looked ledger later is le = record {
  opens = is.opens;
  replays = is.replays;
  audit = is.audit;
  acted = is.acted;
  climbs = climb_later 0 (versions_of ledger.audit.entries) ledger.version later le is.climbs;
}
