-- What the calls of a control, its operations on the policy, ticks, claims and reports are: events of sessions over its plane.
use Rattle.std.proofs.Common.{refl, sym, subst, ℕ, List}
use Rattle.std.specs.Prelude.{Option}
use Rattle.af_ops.specs.declared.call.Call.{Call}
use Rattle.af_ops.specs.declared.call.Call.TheVariants as call
use Rattle.af_ops.specs.declared.served.Served.{Served}
use Rattle.af_plane.specs.Laws.{CallsAreEvents, DeedsAreEvents, OperationsAreEvents}
use Rattle.af_plane.specs.Looks.{Basis}
use Rattle.af_plane.specs.Names.{Name}
use Rattle.af_plane.specs.Planes.{ClaimIs, ReportIs, TickIs}
use Rattle.af_plane.specs.Shared.{as_solo}
use Rattle.af_plane.specs.Solos.{IsDecidedBy}
use Rattle.af_plane.specs.Turns.{IsPlaced}
use Rattle.af_plane.specs.Visits.{PlaneRows, Visit}

module _ (name : Name) (old new : PlaneRows) (was now : Visit) (token : Option (List ℕ)) (t : ℕ) (gave : Served) (basis : Basis) where
  -- a call that is placed on the plane is decided there
  pub placed_so : (it : Call) → IsPlaced name.site (record { token = token; call = it; at = t }) old was gave new now basis it → IsDecidedBy (as_solo name.site old was) (record { token = token; call = it; at = t }) gave (as_solo name.site new now) basis it
  placed_so (call.State op) is = is
  placed_so (call.Entries window) is = is
  placed_so (call.Policy asked) is = absurd is

pub calls_are_events : CallsAreEvents
calls_are_events name versions old session x was now found it here stands = (
  (
    refl,
    record {
      was = was;
      now = now;
      of = record { found = found; visits = refl };
      decided = subst (λ (p : PlaneRows). IsDecidedBy (as_solo name.site p was) x.asked x.served (as_solo name.site it.new now) it.turn.0 x.asked.call) here
          (placed_so name it.old it.new was now x.asked.token x.asked.at x.served it.turn.0 x.asked.call it.turn.1);
      stands = stands;
    },
  ),
  it.left,
)

pub operations_are_events : OperationsAreEvents
operations_are_events name versions old session x asked was now basis is found named administered stands = (
  (
    refl,
    record {
      was = was;
      now = now;
      of = record { found = found; visits = refl };
      decided = subst (IsDecidedBy (as_solo name.site old.plane was) x.asked x.served (as_solo name.site old.plane now) basis) (sym is) (administered, refl);
      stands = stands;
    },
  ),
  named,
)

pub deeds_are_events : DeedsAreEvents
deeds_are_events name versions old session was now found = (
  λ t told it here. ((refl, record { was = was; now = now; of = record { found = found; visits = refl }; does = subst (λ (p : PlaneRows). TickIs p.ledger t told it.new.ledger) here it.on.does.1 }), it.on.left),
  λ t told it here. ((refl, record { was = was; now = now; of = record { found = found; visits = refl }; does = subst (λ (p : PlaneRows). ClaimIs p.ledger t told it.new.ledger) here it.on.does.1 }), it.on.left),
  λ claim outcome t told it here.
      ((refl, record { was = was; now = now; of = record { found = found; visits = refl }; does = subst (λ (p : PlaneRows). ReportIs p.ledger claim outcome t told it.new.ledger) here it.on.does.1 }), it.on.left),
)
