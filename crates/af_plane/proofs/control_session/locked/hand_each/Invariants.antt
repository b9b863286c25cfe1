use Rattle.std.proofs.Common.{drop}
use Rattle.af_plane.specs.Handings.{TakesEach}
use Rattle.af_plane.proofs.control_session.locked.hand_each.Given as goal

-- if the taker takes the entries that are left, it has taken all
abbrev pub invariant-loop-entry : goal.invariant-loop-entry
invariant-loop-entry g l =
    (last : _) → TakesEach g.T.EntryTaker.takes (drop l.entry-index l.entries) l.taker last → TakesEach g.T.EntryTaker.takes l.entries l.initial.taker last
