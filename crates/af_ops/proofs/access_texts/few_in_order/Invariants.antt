use Rattle.std.proofs.Common.{◌≡◌, take}
use Rattle.af_base.specs.JsonValue.{members_view}
use Rattle.af_ops.specs.AccessTexts.{entries_view}
use Rattle.af_ops.proofs.access_texts.few_in_order.Given as goal

-- the fields stand for the members so far
abbrev pub invariant-loop-member : goal.invariant-loop-member
invariant-loop-member l = entries_view l.fields.items ≡ members_view (take l.member-index l.members)
