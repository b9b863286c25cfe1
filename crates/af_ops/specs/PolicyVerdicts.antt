-- The verdict on an operation on the policy, under the latest of its versions (this product's own rule, after Airflow 2, "Access
-- Control"): who asks is the user of the token; the first requirement that this user lacks denies; else it is told or done, or refused.
use Rattle.std.specs.Prelude.{ℕ, ◌+◌, List, length, Option, None, Result, Ok, Err}
use Rattle.serde_json.specs.Written.{compact_text}
use Rattle.af_policy.specs.Reads.{me_of, read_of}
use Rattle.af_policy.specs.Rows.{PolicyRows}
use Rattle.af_policy.specs.Versions.{VersionRows, decided, submitted}
use Rattle.af_policy.specs.declared.ask.Ask.{Ask}
use Rattle.af_policy.specs.declared.ask.Ask.TheVariants.{Made, Bad}
use Rattle.af_policy.specs.declared.bad_input.BadInput.TheVariants as input
use Rattle.af_policy.specs.declared.me.Me.{Me}
use Rattle.af_policy.specs.declared.me_fault.MeFault.{MeFault}
use Rattle.af_policy.specs.declared.policy_read.PolicyRead.{PolicyRead}
use Rattle.af_policy.specs.declared.policy_reply.PolicyReply.{PolicyReply}
use Rattle.af_policy.specs.declared.read_fault.ReadFault.{ReadFault}
use Rattle.af_policy.specs.declared.refusal.Refusal.{Refusal}
use Rattle.af_ops.specs.declared.policy_op.PolicyOp.{PolicyOp}
use Rattle.af_ops.specs.declared.policy_op.PolicyOp.TheVariants as asks
use Rattle.af_ops.specs.Fields.{object_of}
use Rattle.af_ops.specs.PolicyFaults.{me_problem, read_problem, submit_problem, unread_problem}
use Rattle.af_ops.specs.PolicyTexts.{change_text, me_fields, reply_data}
use Rattle.af_ops.specs.Rows.{Problem}

pub data PolicyVerdict : Type 0 where
  -- it is refused with this fault; with none, where there was no memory to read what is asked
  Refuses : (problem : Option Problem) → PolicyVerdict
  -- it leaves the policy as it is
  Tells : (reply : List ℕ) → PolicyVerdict
  -- it makes a version of this policy
  Publishes : (reply : Option (List ℕ)) (policy : PolicyRows) → PolicyVerdict

-- the number of the latest version
abbrev pub current : VersionRows → ℕ
current versions = length versions.earlier

abbrev pub me_verdict : ℕ → Result Me MeFault → PolicyVerdict
me_verdict version (Ok me) = Tells (compact_text (object_of (me_fields (record { me = me; version = version }))))
me_verdict version (Err fault) = Refuses (me_problem fault)

abbrev pub read_verdict : PolicyRead → Result PolicyReply ReadFault → PolicyVerdict
read_verdict asked (Ok reply) = Tells (compact_text (reply_data reply))
read_verdict asked (Err fault) = Refuses (read_problem asked fault)

-- what is told of a policy that a change left as this version; a body that is none makes no policy
abbrev pub asked_text : ℕ → PolicyRows → Ask → Option (List ℕ)
asked_text version later (Made it) = change_text version later it
asked_text version later (Bad kind input) = None

-- a change that is asked for under a version
abbrev pub change_verdict : ℕ → Ask → Result PolicyRows Refusal → PolicyVerdict
change_verdict version ask (Ok later) = Publishes (asked_text (version + 1) later ask) later
change_verdict version ask (Err fault) = Refuses (submit_problem ask fault)

-- a change whose body was not read is refused as one whose body is none is, but for what is told of the body
abbrev pub unread_verdict : Result PolicyRows Refusal → PolicyVerdict
unread_verdict (Ok later) = Refuses None
unread_verdict (Err fault) = Refuses (unread_problem fault)

abbrev pub policy_verdict : VersionRows → Option (List ℕ) → PolicyOp → PolicyVerdict
policy_verdict versions token asks.Me = me_verdict (current versions) (me_of versions.latest token)
policy_verdict versions token (asks.Read asked) = read_verdict asked (read_of versions.latest token asked)
policy_verdict versions token (asks.Change ask) = change_verdict (current versions) ask (submitted versions token ask)
policy_verdict versions token (asks.Unread kind) = unread_verdict (decided versions.latest token (Bad kind input.Body))
