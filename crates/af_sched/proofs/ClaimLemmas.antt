-- A claim leaves one state, and tells one thing.
use Rattle.std.proofs.Common.{◌≡◌, ◌∙◌, ℕ, ap, sym, refl, true, false, ◌&&◌}
use Rattle.std.specs.Prelude.{Option, Some, None}
use Rattle.std.specs.Ordering.{nat_cmp, int_cmp, ordering_then, ordering_reverse, is_eq, is_lt}
use Rattle.std.specs.Cmp.{unsigned_ties}
use Rattle.std.specs.declared.cmp.Ordering.{Ordering}
use Rattle.std.specs.declared.cmp.Ordering.TheVariants.{Less, Equal, Greater}
use Rattle.std.proofs.lemmas.Bool.{true≢false}
use Rattle.af_runs.specs.Runs.{AreRuns, with_instance}
use Rattle.af_sched.specs.Choosing.{same_seat}
use Rattle.af_sched.specs.Claims.{Claims, IsNextClaim, claim_of, claimed_instance}
use Rattle.af_sched.specs.Laws.{IsClaim}
use Rattle.af_sched.specs.Placed.{Placed, placed_cmp, placed_in}
use Rattle.af_sched.specs.State.{StateRows}
use Rattle.af_sched.specs.declared.claim.Claim.{Claim}
use Rattle.af_sched.proofs.CandidateLemmas.{distinct_in, rise_from}
use Rattle.af_sched.proofs.PassingLemmas.{alike}
use Rattle.af_sched.proofs.PlacedLemmas.{placed_order}

-- neither is before the other
neither : (o p : Ordering) → o ≡ ordering_reverse p → is_lt o ≡ false → is_lt p ≡ false → o ≡ Equal
neither Less p turned first second = absurd (true≢false first)
neither Equal p turned first second = refl
neither Greater Less turned first second = absurd (true≢false second)
neither Greater Equal turned first second = absurd (cc)
neither Greater Greater turned first second = absurd (cc)

last_two : (a b c : Ordering) → ordering_then a (ordering_then b c) ≡ Equal → (b ≡ Equal) × (c ≡ Equal)
last_two Less b c same = absurd (cc)
last_two Equal Less c same = absurd (cc)
last_two Equal Equal c same = (refl, same)
last_two Equal Greater c same = absurd (cc)
last_two Greater b c same = absurd (cc)

one_seat : (a b : Placed) → placed_cmp a b ≡ Equal → same_seat a b ≡ true
one_seat a b same =
    let parts = last_two (int_cmp b.task.priority_weight a.task.priority_weight) (nat_cmp a.run.number b.run.number) (nat_cmp a.place b.place) same in
    let number = unsigned_ties a.run.number b.run.number ∙ ap is_eq parts.0 in
    let place = unsigned_ties a.place b.place ∙ ap is_eq parts.1 in
    λ i. number i && place i

claims_are_one : (t : ℕ) (old one other : StateRows) (first second : Claim) → AreRuns old.runs old.next_run → Claims t old one first → Claims t old other second → (one ≡ other) × (first ≡ second)
claims_are_one t old one other first second are a b =
    let equal = neither (placed_cmp a.first b.first) (placed_cmp b.first a.first) (placed_order.antisymm a.first b.first) (b.is_first.before_others a.first a.is_first.member a.is_first.passes) (a.is_first.before_others b.first b.is_first.member b.is_first.passes) in
    let same : a.first ≡ b.first = alike (placed_in old.dags old.runs) a.first b.first (distinct_in old.dags old.runs (rise_from old.runs are.in_order)) a.is_first.member b.is_first.member (one_seat a.first b.first equal) in (
      a.state ∙ ap (λ (p : Placed). record old { runs = with_instance old.runs p.run.number p.place (claimed_instance t p.instance) }) same ∙ sym b.state,
      a.told ∙ ap claim_of same ∙ sym b.told,
    )

pub claim_is_one : (t : ℕ) (old one other : StateRows) (first second : Option Claim) → AreRuns old.runs old.next_run → IsClaim t old one first → IsClaim t old other second → (one ≡ other) × (first ≡ second)
claim_is_one t old one other None None are a b = (a.state ∙ sym b.state, refl)
claim_is_one t old one other None (Some second) are a b = absurd (true≢false (sym b.is_first.passes ∙ a.none b.first b.is_first.member))
claim_is_one t old one other (Some first) None are a b = absurd (true≢false (sym a.is_first.passes ∙ b.none a.first a.is_first.member))
claim_is_one t old one other (Some first) (Some second) are a b =
    let both = claims_are_one t old one other first second are a b in (both.0, ap Some both.1)

-- where something is told, the state after the claim is the one that it gives
pub next_is_told : (t : ℕ) (old new : StateRows) (next told : Option Claim) → AreRuns old.runs old.next_run → IsNextClaim old next → IsClaim t old new told → next ≡ told
next_is_told t old new None told are next is = (claim_is_one t old old new None told are (record { none = next; state = refl }) is).1
next_is_told t old new (Some claim) told are next is =
    let after : StateRows = record old { runs = with_instance old.runs next.first.run.number next.first.place (claimed_instance t next.first.instance) } in
    (claim_is_one t old after new (Some claim) told are (record { first = next.first; is_first = next.is_first; told = next.told; state = refl }) is).1
