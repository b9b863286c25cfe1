-- What a claim leaves of a ledger.
use Rattle.std.proofs.Common.{◌≡◌, ◌∙◌, refl, sym, subst, ℕ, List, [], ◌∷◌, ◌++◌, append_assoc, append-nil, Bool, true, false}
use Rattle.std.specs.Prelude.{Option, Some, None, Err, if◌then◌else◌}
use Rattle.af_runs.specs.Runs.{AreRuns}
use Rattle.af_sched.specs.Claims.{IsNextClaim, IsToldNext, claim_of, is_claimable}
use Rattle.af_sched.specs.Laws.{ClaimTellsTheNext, IsClaim}
use Rattle.af_sched.specs.Placed.{IsFirstOf, NonePasses, Placed, placed_in}
use Rattle.af_sched.specs.State.{StateRows}
use Rattle.af_sched.specs.Steps.{first_with}
use Rattle.af_sched.specs.declared.claim.Claim.{Claim}
use Rattle.af_sched.proofs.PlacedLemmas.{IsFirstOf-none, IsFirstOf-with}
use Rattle.af_audit.specs.declared.act.Act.TheVariants as act
use Rattle.af_audit.specs.declared.actor.Actor.TheVariants.{Executor}
use Rattle.af_audit.specs.declared.audit_fault.AuditFault.{AuditFault}
use Rattle.af_audit.specs.declared.audit_fault.AuditFault.TheVariants.{HistoryFull, OutOfMemory}
use Rattle.af_audit.specs.Claimed.{ClaimsOne, IsClaimed, IsPassedOver}
use Rattle.af_audit.specs.Entries.{AuditRows, has_room, with_entry}
use Rattle.af_audit.specs.Ledgers.{LedgerRows, entry_of}

-- what was told before the claim is what the claim tells
pub claims_one : ClaimTellsTheNext → (t : ℕ) (old : LedgerRows) (next : StateRows) (audit : AuditRows) (claim kept : Claim) (found told : Option Claim) → AreRuns old.state.runs old.state.next_run → IsNextClaim old.state found → found ≡ Some claim → IsClaim t old.state next told → kept ≡ claim → has_room old.audit ≡ true → audit ≡ with_entry old.audit (entry_of old Executor (act.Claim kept) t) → ClaimsOne t old (record old { state = next; audit = audit }) claim
claims_one tells t old next audit claim kept found told runs next_is is claims copy room more =
    let same : found ≡ told = tells t old.state next found told runs next_is claims in
    record {
      room = room;
      claims = subst (λ (said : Option Claim). IsClaim t old.state next said) (sym same ∙ is) claims;
      ledger = rw (more, copy) refl;
    }

-- ---- what is passed over

-- of the instances that pass a test one is the first, or there is none
first_after : (test : Placed → Bool) (more seen : List Placed) (first : Option Placed) → IsFirstOf test seen first → (found : Option Placed) × IsFirstOf test (seen ++ more) found
first_after test [] seen first is = (first, subst (λ (all : List Placed). IsFirstOf test all first) (sym (append-nil seen)) is)
first_after test (next ∷ more) seen first is =
    let rest = first_after test more (seen ++ next ∷ []) (first_with test first next) (IsFirstOf-with test seen first next is) in
    (rest.0, subst (λ (all : List Placed). IsFirstOf test all rest.0) (append_assoc seen (next ∷ []) more) rest.1)

told_first : (state : StateRows) (found : Option Placed) → IsFirstOf is_claimable (placed_in state.dags state.runs) found → (NonePasses is_claimable (placed_in state.dags state.runs) → ⊥) → (claim : Claim) × IsToldNext state claim
told_first state None is some = absurd (some is)
told_first state (Some first) is some = (claim_of first, record { first = first; is_first = is; told = refl })

-- where not every instance is passed over there is a next claim
pub some_next : (state : StateRows) → (NonePasses is_claimable (placed_in state.dags state.runs) → ⊥) → (claim : Claim) × IsToldNext state claim
some_next state some =
    let found = first_after is_claimable (placed_in state.dags state.runs) [] None (IsFirstOf-none is_claimable) in
    told_first state found.0 found.1 some

pub passed : (state : StateRows) (room : Bool) (fault : AuditFault) → (NonePasses is_claimable (placed_in state.dags state.runs) → ⊥) → fault ≡ (if room then OutOfMemory else HistoryFull) → IsPassedOver state room fault
passed state room fault some why =
    let next = some_next state some in
    record { claim = next.0; told = next.1; why = why }

-- what that is told as
pub passed_claim : (t : ℕ) (old new : LedgerRows) (room : Bool) (fault : AuditFault) → has_room old.audit ≡ room → IsPassedOver old.state room fault → new ≡ old → IsClaimed t old new (Err fault)
passed_claim t old new true HistoryFull is over same = (let e = over.why in absurd (cc))
passed_claim t old new true OutOfMemory is over same = record { room = is; claim = over.claim; told = over.told; ledger = same }
passed_claim t old new false HistoryFull is over same = record { full = is; claim = over.claim; told = over.told; ledger = same }
passed_claim t old new false OutOfMemory is over same = (let e = over.why in absurd (cc))
