-- The verdict under the latest of the versions, and what is made.
use Rattle.std.proofs.Common.{◌≡◌, refl, ap}
use Rattle.std.specs.Prelude.{Result, Ok, Err, IsOk}
use Rattle.af_policy.specs.Rows.{PolicyRows}
use Rattle.af_policy.specs.Versions.{VersionRows, decided, within}
use Rattle.af_policy.specs.declared.refusal.Refusal.{Refusal}
use Rattle.af_ops.specs.declared.policy_op.PolicyOp.TheVariants as asks
use Rattle.af_ops.specs.PolicyUnder.{VerdictsAreUnderTheLatest, with_room}
use Rattle.af_ops.specs.PolicyVerdicts.{change_verdict, current}

room_within : (versions : VersionRows) (comes : Result PolicyRows Refusal) → within versions comes ≡ with_room (current versions) versions.last comes
room_within versions (Ok policy) = refl
room_within versions (Err fault) = refl

pub under_the_latest : VerdictsAreUnderTheLatest
under_the_latest versions token asks.Me = refl
under_the_latest versions token (asks.Read asked) = refl
under_the_latest versions token (asks.Change ask) =
    ap (change_verdict (current versions) ask) (room_within versions (decided versions.latest token ask))
under_the_latest versions token (asks.Unread kind) = refl

-- what was made is what the definition says
pub made_ok : {X E : Type 0} (told : Result X E) (x : X) → told ≡ Ok x → IsOk told
made_ok (Ok y) x is = refl
made_ok (Err why) x is = cc
