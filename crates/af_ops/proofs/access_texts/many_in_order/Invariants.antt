use Rattle.std.proofs.Common.{◌≡◌, take}
use Rattle.af_base.specs.JsonValue.{members_view}
use Rattle.af_ops.specs.AccessTexts.{entries_view}
use Rattle.af_ops.proofs.access_texts.many_in_order.Given as goal

-- the entries stand for the members so far
abbrev pub invariant-loop-member : goal.invariant-loop-member
invariant-loop-member l = entries_view l.fields.entries ≡ members_view (take l.member-index l.members)
