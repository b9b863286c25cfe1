use Rattle.std.proofs.Common.{◌≡◌, take}
use Rattle.af_role.specs.Pairs.{with_pairs}
use Rattle.af_role.specs.Access.{pairs_at}
use Rattle.af_role.proofs.access.add_actions.Given as goal

abbrev pub invariant-loop-text : goal.invariant-loop-text
invariant-loop-text l = l.permissions ≡ with_pairs l.initial.permissions (pairs_at l.part l.dag (take l.text-index l.texts))
