-- What an operation on the policy comes to on a board: it is decided under the last version that the session has then seen, of which the
-- session keeps the mark; a change that is permitted makes the next version, of which it keeps the receipt (this product's own rule).
use Rattle.std.specs.Prelude.{◌≡◌, ◌+◌, ◌<◌, ◌≤◌, ℕ, List, length, Option, Some, None, IsOk}
use mathlib.Core.List.{IsPrefix}
use Rattle.boxcar.specs.Table.{Where}
use Rattle.af_policy.specs.declared.ask.Ask.{Ask}
use Rattle.af_policy.specs.declared.ask.Ask.TheVariants as ask
use Rattle.af_policy.specs.declared.refusal.Refusal.TheVariants as fault
use Rattle.af_policy.specs.Identity.{bearer_of}
use Rattle.af_policy.specs.Rows.{PolicyRows}
use Rattle.af_policy.specs.Versions.{decided}
use Rattle.af_ops.specs.declared.policy_op.PolicyOp.{PolicyOp}
use Rattle.af_ops.specs.declared.policy_op.PolicyOp.TheVariants as asks
use Rattle.af_ops.specs.declared.served.Served.{Served}
use Rattle.af_ops.specs.declared.served.Served.TheVariants as served
use Rattle.af_ops.specs.PolicyFaults.{submit_problem}
use Rattle.af_ops.specs.PolicyServed.{reply_at}
use Rattle.af_ops.specs.PolicyTexts.{change_text}
use Rattle.af_ops.specs.PolicyUnder.{IsToldUnder, verdict_under}
use Rattle.af_ops.specs.PolicyVerdicts.{Refuses}
use Rattle.af_board.specs.declared.submit_fault.SubmitFault.{SubmitFault}
use Rattle.af_board.specs.Drafted.{Received}
use Rattle.af_board.specs.Drafts.{IsReceipt, IsSpent}
use Rattle.af_board.specs.Faults.{mark_of}
use Rattle.af_board.specs.Marks.{IsLast, IsOf, Marked, Site, policy_of}
use Rattle.af_plane.specs.declared.grounds.Grounds.{Grounds}
use Rattle.af_plane.specs.declared.grounds.Grounds.TheVariants.{Made, Overtaken, Spent, Under}
use Rattle.af_plane.specs.Looks.{Basis, HasSame, IsMissed, IsOn, Missed, On, Openly, base_of, held, versions_made}
use Rattle.af_plane.specs.Visits.{Visit}

-- a verdict that makes no version was served under this one
pub record IsToldIn (site : Site) (token : Option (List ℕ)) (asked : PolicyOp) (gave : Served) (now : Visit) (m : Marked) : Type 0 where
  pub last : IsLast site now.pass m
  pub told : IsToldUnder m.version (verdict_under m.version site.word.last (policy_of site m) token asked) gave

-- a change made a version: its author, the token's owner, lacked nothing for it under the version before; what is reported is the change's
-- reply, under the version that it made
pub record IsMade (site : Site) (token : Option (List ℕ)) (asked : PolicyOp) (gave : Served) (now : Visit) (r : Received) : Type 0 where
  pub receipt : IsReceipt site r
  pub room : r.base.version < site.word.last
  pub last : IsLast site now.pass r.mark
  pub author : bearer_of (policy_of site r.base) token ≡ Some r.author
  pub is_asked : asked ≡ asks.Change (ask.Made r.change)
  pub told : gave ≡ served.Shown (reply_at r.mark.version (change_text r.mark.version (policy_of site r.mark) r.change))

-- a change was permitted under this version, and another version was published before it: the number of the last one is reported, under that
-- version
pub record IsOvertaken (site : Site) (token : Option (List ℕ)) (asked : PolicyOp) (gave : Served) (now : Visit) (m : Marked) : Type 0 where
  pub base : IsOf site m
  pub later : m.version + 1 < length now.pass.places
  pub change : Ask
  pub is_asked : asked ≡ asks.Change change
  pub permitted : IsOk (decided (policy_of site m) token change)
  pub version : ℕ
  pub is_last : length now.pass.places ≡ version + 1
  pub told : IsToldUnder version (Refuses (submit_problem change (fault.Moved version))) gave

-- a change was permitted under this version, and there is evidence that the places of the board are used up: it is reported that the
-- versions are full
pub record IsUsedUp (site : Site) (token : Option (List ℕ)) (asked : PolicyOp) (gave : Served) (now : Visit) (m : Marked) (pushed : Where PolicyRows) : Type 0 where
  pub last : IsLast site now.pass m
  pub change : Ask
  pub is_asked : asked ≡ asks.Change change
  pub permitted : IsOk (decided (policy_of site m) token change)
  pub spent : IsSpent site pushed
  pub told : IsToldUnder m.version (Refuses (submit_problem change fault.Full)) gave

-- what a session holds where the versions are full: the evidence, if there is any, that the places of the board are used up
abbrev pub full_ground : Marked → Option (Where PolicyRows) → Grounds
full_ground m None = Under m
full_ground m (Some pushed) = Spent m pushed

-- by what the session then holds
abbrev pub IsGiven : Site → Option (List ℕ) → PolicyOp → Served → Visit → Grounds → Type 0
IsGiven site token asked gave now (Under m) = IsToldIn site token asked gave now m
IsGiven site token asked gave now (Made r) = IsMade site token asked gave now r
IsGiven site token asked gave now (Overtaken m) = IsOvertaken site token asked gave now m
IsGiven site token asked gave now (Spent m pushed) = IsUsedUp site token asked gave now m pushed

-- a change was refused for an error, under the version of which the error has the mark and which is the last that the session has seen
pub record IsRefused (site : Site) (token : Option (List ℕ)) (asked : Ask) (gave : Served) (now : Visit) (error : SubmitFault) : Type 0 where
  pub given : IsGiven site token (asks.Change asked) gave now now.grounds
  pub last : IsLast site now.pass (held now.grounds)
  pub base : held now.grounds ≡ base_of now.grounds
  pub mark : mark_of error ≡ Some (base_of now.grounds)
  pub none_made : versions_made now.grounds ≡ 0

-- it was decided on this grounds, under a version no earlier than all that the session had seen
pub record IsGivenOn (site : Site) (token : Option (List ℕ)) (asked : PolicyOp) (was : Visit) (gave : Served) (now : Visit) (grounds : Grounds) : Type 0 where
  pub held : now.grounds ≡ grounds
  pub since : length was.pass.places ≤ (base_of grounds).version + 1
  pub same : HasSame site was.grounds (base_of grounds)
  -- the version that it says, if any, is all that was published
  pub deeds : now.pass.deeds ≡ was.pass.deeds + versions_made grounds
  -- the session has looked
  pub looked : was.pass.steps < now.pass.steps
  pub given : IsGiven site token asked gave now grounds

-- what it comes to, by what that rests on
abbrev pub IsAdministered : Site → Option (List ℕ) → PolicyOp → Visit → Served → Visit → Basis → Type 0
IsAdministered site token asked was gave now Openly = ⊥
IsAdministered site token asked was gave now Missed = IsMissed was gave now × (now.pass.deeds ≡ was.pass.deeds) × (was.pass.steps < now.pass.steps)
IsAdministered site token asked was gave now (On grounds) = IsGivenOn site token asked was gave now grounds

-- A session asked the board. It is still on that board, has still seen all versions that it had seen, and was shown no entry.
pub record HasAsked (site : Site) (token : Option (List ℕ)) (asked : PolicyOp) (was : Visit) (gave : Served) (now : Visit) : Type 0 where
  pub on : IsOn site now
  pub longer : IsPrefix was.pass.places now.pass.places
  pub entries : now.entries ≡ was.entries
  pub basis : Basis
  pub administered : IsAdministered site token asked was gave now basis
