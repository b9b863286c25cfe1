use Rattle.std.proofs.Common.{◌≡◌, ℕ, ◌&&◌, ◌||◌, length, nat_lt}
use Rattle.af_role.specs.declared.action.Action.{Action}
use Rattle.af_role.specs.KindMasks.{has_at}
use Rattle.af_role.proofs.kind_mask.KindMask.add_all.Given as goal

abbrev pub invariant-loop-place : goal.invariant-loop-place
invariant-loop-place l = record {
  joined : (n : ℕ) (a : Action) → has_at l.self.sets n a ≡ ((nat_lt n l.place && has_at l.more.sets n a) || has_at l.initial.self.sets n a);
  eight : length l.self.sets ≡ 8;
}
