use Rattle.std.proofs.Common.{◌≡◌, ◌++◌, drop}
use Rattle.af_store.proofs.PieceLemmas.{fields_left}
use Rattle.af_store.proofs.told.put_fields.Given as goal

-- with the tokens of the members that are left, all are there
abbrev pub invariant-loop-member : goal.invariant-loop-member
invariant-loop-member l = l.out ++ fields_left (drop l.member-index l.members) ≡ l.initial.out ++ fields_left l.members
