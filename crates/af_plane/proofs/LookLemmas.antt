-- Turns that read, and turns of a session that has looked before.
use Rattle.std.proofs.Common.{◌≡◌, ◌∙◌, inl, inr, ⊎_elim, refl, sym, ap, subst, ℕ, Bool, true, false, true≢false, ◌&&◌, arith}
use Rattle.std.specs.Prelude.{Some, not}
use mathlib.Core.List.{IsPrefix}
use Rattle.af_prefixes.proofs.PrefixLemmas.{prefix_trans}
use Rattle.af_tally.specs.Known.{Known}
use Rattle.af_ops.specs.declared.call.Call.{Call}
use Rattle.af_ops.specs.declared.call.Call.TheVariants as call
use Rattle.af_ops.specs.declared.served.Served.{Served}
use Rattle.af_ops.specs.Endpoints.{endpoint_of}
use Rattle.af_ops.specs.Table.{is_open, reads_only}
use Rattle.af_audit.specs.declared.entry.Entry.{Entry}
use Rattle.af_audit.specs.Ledgers.{LedgerRows}
use Rattle.af_board.specs.Marks.{IsLast, Marked, Site, policy_of}
use Rattle.af_plane.specs.declared.grounds.Grounds.{Grounds}
use Rattle.af_plane.specs.declared.grounds.Grounds.TheVariants as grounds
use Rattle.af_plane.specs.Blind.{TellsWhatIsRead}
use Rattle.af_plane.specs.Looks.{Basis, HasMet, HasOnlyLooked, HasRead, HasSame, Missed, On, Openly, looked}
use Rattle.af_plane.specs.Names.{IsCall, Name}
use Rattle.af_plane.specs.Planes.{Applies}
use Rattle.af_plane.specs.Requests.{RequestRows, only_reads}
use Rattle.af_plane.specs.Turns.{IsActed, IsActedUnder, IsOfPlane, IsPlaced, IsTurn}
use Rattle.af_plane.specs.Visits.{PlaneRows, Visit}
use Rattle.af_plane.proofs.BlindLemmas.{tells_what_is_read}

-- what only reads is not open
closed : (a b : Bool) → (a && not b) ≡ true → b ≡ true → ⊥
closed true true is opens = true≢false (sym is)
closed true false is opens = true≢false (sym opens)
closed false b is opens = true≢false (sym is)

module _ (site : Site) (asked : RequestRows) (old new : PlaneRows) (was mid now : Visit) (gave : Served) (looked : HasOnlyLooked was mid) where
  begun : IsPrefix mid.entries.entries old.keeper.entries → IsPrefix was.entries.entries old.keeper.entries
  begun begins = subst (λ (k : Known Entry). IsPrefix k.entries old.keeper.entries) looked.entries begins

  met_since : HasMet old mid new now → HasMet old was new now
  met_since met = record {
    places = met.places;
    begins = begun met.begins;
    entries = met.entries;
    steps = met.steps;
    deeds = omega (arith, met.deeds, looked.pass.done);
    given = met.given;
  }

  read_since : HasRead old mid new now → HasRead old was new now
  read_since read = record {
    plane = read.plane;
    version = read.version;
    begins = begun read.begins;
    entries = read.entries;
    looked = omega (arith, read.looked, looked.pass.stepped);
    deeds = omega (arith, read.deeds, looked.pass.done);
  }

  acted_since : (basis : Basis) → IsActed site asked old mid gave new now basis → IsActed site asked old was gave new now basis
  acted_since Openly is = absurd is
  acted_since Missed is = record {
    missed = record { grounds = is.missed.grounds ∙ looked.grounds; later = is.missed.later; told = is.missed.told };
    met = met_since is.met;
    ledger = is.ledger;
  }
  acted_since (On (grounds.Under m)) is = record {
    held = is.held;
    last = is.last;
    met = ⊎_elim (λ (met : HasMet old mid new now). inl (met_since met)) (λ (beside : (only_reads asked.call ≡ true) × HasRead old mid new now). inr (beside.0, read_since beside.1)) is.met;
    same = subst (λ (g : Grounds). HasSame site g m) looked.grounds is.same;
    applied = is.applied;
    blind = is.blind;
  }
  acted_since (On (grounds.Made r)) is = absurd is
  acted_since (On (grounds.Overtaken m)) is = absurd is
  acted_since (On (grounds.Spent m pushed)) is = absurd is

  placed_since : (basis : Basis) (it : Call) → only_reads it ≡ true → IsPlaced site asked old mid gave new now basis it → IsPlaced site asked old was gave new now basis it
  placed_since basis (call.State op) reads is =
      (λ is_closed. acted_since basis (is.0 is_closed), λ opens. absurd (closed (reads_only (endpoint_of op)) (is_open (endpoint_of op)) reads opens))
  placed_since basis (call.Entries window) reads is = acted_since basis is
  placed_since basis (call.Policy it) reads is = absurd is

pub call_after_look : (name : Name) (asked : RequestRows) (was mid : Visit) (gave : Served) (now : Visit) → only_reads asked.call ≡ true → HasOnlyLooked was mid → IsCall name asked mid gave now → IsCall name asked was gave now
call_after_look name asked was mid gave now reads looked is = record {
  old = is.old;
  new = is.new;
  found = is.found;
  left = is.left;
  turn = (is.turn.0, placed_since name.site asked is.old is.new was mid now gave looked is.turn.0 asked.call reads is.turn.1);
  longer = prefix_trans was.pass.places mid.pass.places now.pass.places looked.pass.longer is.longer;
  plane_longer = is.plane_longer;
}

-- what reads is the plane's
pub reads_of_plane : (it : Call) → only_reads it ≡ true → IsOfPlane it
reads_of_plane (call.State op) reads = tt
reads_of_plane (call.Entries window) reads = tt
reads_of_plane (call.Policy asked) reads = absurd (true≢false (sym reads))

-- a session that looked at the version at which the plane looked last, and was shown the entries, has had a turn that reads
module _ (site : Site) (asked : RequestRows) (plane : PlaneRows) (was mid : Visit) (m : Marked) (gave : Served)
    (looked_is : HasOnlyLooked was mid) (last : IsLast site mid.pass m) (same : HasSame site was.grounds m) (here : m.version ≡ plane.ledger.version)
    (begins : IsPrefix mid.entries.entries plane.keeper.entries)
    (applied : Applies (policy_of site m) plane.ledger asked.token asked.call asked.at (Some gave) plane.ledger) where
  abbrev pub then_has : Visit
  then_has = record { pass = mid.pass; entries = plane.keeper; grounds = grounds.Under m }

  under_same : (version : ℕ) → version ≡ plane.ledger.version → looked version plane.ledger ≡ plane.ledger
  under_same version is = ap (λ (v : ℕ). looked v plane.ledger) is

  read_under : only_reads asked.call ≡ true → IsActedUnder site asked plane was gave plane then_has m
  read_under reads = record {
    held = refl;
    last = last;
    met = inr (
      reads,
      record {
        plane = refl;
        version = omega (arith, last.1.last, here);
        begins = subst (λ (k : Known Entry). IsPrefix k.entries plane.keeper.entries) looked_is.entries begins;
        entries = refl;
        looked = omega (arith, looked_is.pass.stepped);
        deeds = omega (arith, looked_is.pass.done);
      },
    );
    same = same;
    applied = subst (λ (l : LedgerRows). Applies (policy_of site m) l asked.token asked.call asked.at (Some gave) plane.ledger) (sym (under_same m.version here)) applied;
    blind = subst (λ (l : LedgerRows). TellsWhatIsRead (policy_of site m) l asked.token asked.call asked.at (Some gave)) (sym (under_same m.version here))
        (tells_what_is_read (policy_of site m) plane.ledger plane.ledger asked.token asked.call asked.at (Some gave) applied);
  }

  read_placed : only_reads asked.call ≡ true → (it : Call) → only_reads it ≡ true → IsPlaced site asked plane was gave plane then_has (On (grounds.Under m)) it
  read_placed all (call.State op) reads =
      (λ is_closed. read_under all, λ opens. absurd (closed (reads_only (endpoint_of op)) (is_open (endpoint_of op)) reads opens))
  read_placed all (call.Entries window) reads = read_under all
  read_placed all (call.Policy it) reads = absurd (true≢false (sym reads))

  pub read_turn : only_reads asked.call ≡ true → (now : Visit) → now ≡ then_has → IsTurn site asked plane was (Some gave) plane now
  read_turn reads now is =
      subst (λ (v : Visit). IsTurn site asked plane was (Some gave) plane v) (sym is) (On (grounds.Under m), read_placed reads asked.call reads)
