use Rattle.std.proofs.Common.{◌∙◌, ◌++◌, List, ap, arith, drop, ◌+◌}
use Rattle.json.specs.Token.{Token}
use Rattle.af_store.proofs.PieceLemmas.{fields_left, next_member, no_member}
use Rattle.af_store.proofs.told.put_fields.Goals as goal

pub loop-member-preserved : goal.loop-member-preserved
loop-member-preserved c =
    ap (λ (ts : List Token). ts ++ fields_left (drop (c.loop-member.member-index + 1) c.args.members.now)) c.in_ok-put_member.ensures
    ∙ next_member c.args.members.now c.loop-member.member-index c.member-item.result c.loop-member.out (omega arith) c.member-item.is
    ∙ c.loop-member.invariant

pub returns : goal.returns
returns c = no_member c.args.members.now c.loop-member.member-index c.loop-member.out (omega arith) ∙ c.loop-member.invariant
