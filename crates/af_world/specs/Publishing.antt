-- What is asked of the policy: readings, under the latest version; and changes that were made under a version, which need not be the
-- latest (this product's own rule).
use Rattle.std.specs.Prelude.{ℕ, List, nat_lt, ◌==◌, Option, Some, None, Result, Ok, Err, if◌then◌else◌}
use Rattle.af_policy.specs.declared.ask.Ask.{Ask}
use Rattle.af_policy.specs.declared.refusal.Refusal.{Refusal}
use Rattle.af_policy.specs.declared.refusal.Refusal.TheVariants.{Moved}
use Rattle.af_policy.specs.Rows.{PolicyRows}
use Rattle.af_policy.specs.Versions.{decided}
use Rattle.af_ops.specs.declared.policy_op.PolicyOp.{PolicyOp}
use Rattle.af_ops.specs.declared.policy_op.PolicyOp.TheVariants as asks
use Rattle.af_ops.specs.PolicyFaults.{submit_problem}
use Rattle.af_ops.specs.PolicyServed.{told_of, versions_after}
use Rattle.af_ops.specs.PolicyVerdicts.{PolicyVerdict, Refuses, policy_verdict}
use Rattle.af_world.specs.Moving.{Move, stays, tells}
use Rattle.af_world.specs.Worlds.{World, has_session, last_version, policy_at, seen_by}

-- the world with the versions after a verdict
abbrev pub with_made : World → PolicyVerdict → World
with_made w it = record w { versions = versions_after it w.versions }

-- decided under the latest version; the session has then seen the one that is the latest after it
abbrev pub made : World → ℕ → PolicyVerdict → Move
made w session it = tells (with_made w it) session (last_version (with_made w it)) (told_of (last_version w) it)

-- who am I, roles and users; a change does not fit
abbrev pub meeting : World → ℕ → Option (List ℕ) → PolicyOp → Move
meeting w session token asks.Me = if has_session w session then made w session (policy_verdict w.versions token asks.Me) else stays w
meeting w session token (asks.Read asked) =
    if has_session w session then made w session (policy_verdict w.versions token (asks.Read asked)) else stays w
meeting w session token (asks.Change ask) = stays w
meeting w session token (asks.Unread kind) = stays w

-- another version was made since: nothing is decided, and the latest version is told
abbrev pub overtaken : World → ℕ → Ask → Move
overtaken w session ask = tells w session (last_version w) (told_of (last_version w) (Refuses (submit_problem ask (Moved (last_version w)))))

-- decided under an earlier version, which has no room for another: only a fault is told under it
abbrev pub lost : World → ℕ → ℕ → Ask → Result PolicyRows Refusal → Move
lost w session at ask (Err fault) = tells w session at (told_of at (Refuses (submit_problem ask fault)))
lost w session at ask (Ok later) = overtaken w session ask

-- a change made under version `at`; the session has seen no later one, where it is decided
abbrev pub handed_in : World → ℕ → ℕ → Option (List ℕ) → Ask → Option PolicyRows → Move
handed_in w session at token ask None = stays w
handed_in w session at token ask (Some policy) =
    if nat_lt at (seen_by w session).version then overtaken w session ask
    else (if at == last_version w then made w session (policy_verdict w.versions token (asks.Change ask))
    else lost w session at ask (decided policy token ask))

-- a version that there is; a reading does not fit, nor a change whose body was not read
abbrev pub publishing : World → ℕ → ℕ → Option (List ℕ) → PolicyOp → Move
publishing w session at token (asks.Change ask) =
    if has_session w session then handed_in w session at token ask (policy_at w at) else stays w
publishing w session at token asks.Me = stays w
publishing w session at token (asks.Read asked) = stays w
publishing w session at token (asks.Unread kind) = stays w
