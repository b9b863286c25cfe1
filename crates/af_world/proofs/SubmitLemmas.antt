-- What an answer to an operation on the policy says of who asked, and what a change that is made follows.
use Rattle.std.proofs.Common.{◌≡◌, ◌∙◌, refl, sym, ap, ℕ, ◌+◌, List, [], ◌∷◌, Bool, true, false, cond}
use Rattle.std.specs.Prelude.{⊤, Option, Some, None, option_map, unwrap_or, Result, Ok, Err}
use Rattle.std.specs.List.{find}
use Rattle.std.specs.Cmp.Lexicographic.{bytes_decides}
use Rattle.af_role.specs.declared.need.Need.{Need}
use Rattle.af_role.specs.Roles.{RoleRow}
use Rattle.af_policy.specs.declared.ask.Ask.{Ask}
use Rattle.af_policy.specs.declared.ask.Ask.TheVariants.{Made, Bad}
use Rattle.af_policy.specs.declared.change.Change.{Change}
use Rattle.af_policy.specs.declared.change_fault.ChangeFault.{ChangeFault}
use Rattle.af_policy.specs.declared.change_fault.ChangeFault.TheVariants as refused
use Rattle.af_policy.specs.declared.policy_read.PolicyRead.{PolicyRead}
use Rattle.af_policy.specs.declared.policy_read.PolicyRead.TheVariants.{Roles, Role, Users, User}
use Rattle.af_policy.specs.declared.policy_read.PolicyRead.TheVariants as read
use Rattle.af_policy.specs.declared.refusal.Refusal.{Refusal}
use Rattle.af_policy.specs.declared.refusal.Refusal.TheVariants.{BadBody}
use Rattle.af_policy.specs.Changes.{changed, kind_of, needs_of}
use Rattle.af_policy.specs.Grants.{first_unmet, grants}
use Rattle.af_policy.specs.Identity.{bearer_of, digest_user}
use Rattle.af_policy.specs.Reads.{me_by, me_of, me_shown, read_by, read_kind, read_of, read_unless, reading_needs, role_told, rows_told, user_told}
use Rattle.af_policy.specs.Rows.{PolicyRows, UserRow, found_user, same_digest, same_name}
use Rattle.af_policy.specs.Tables.{found_role}
use Rattle.af_policy.specs.Versions.{asked_by, asked_kind, decided, made_or_refused, permitted, refused_by, unless_lacked}
use Rattle.af_ops.specs.declared.shown_answer.Shown.{Shown}
use Rattle.af_ops.specs.PolicyFaults.{submit_problem}
use Rattle.af_ops.specs.PolicyServed.{reply_at, told_of}
use Rattle.af_ops.specs.PolicyVerdicts.{PolicyVerdict, Publishes, Refuses, Tells, me_verdict, read_verdict}
use Rattle.af_ops.specs.Served.{status_of}
use Rattle.af_world.specs.Laws.{IsMadeOf}
use Rattle.af_world.proofs.JudgedLemmas.{Granted, IsJudged, Lacking, Nobody, body_told}
use Rattle.af_world.proofs.RuleLemmas.{none_lacked}
use Rattle.af_world.proofs.ToldLemmas.{IsOther, IsOtherProblem, other_told, policy_problem, reply_status, status_told}
use Rattle.af_world.proofs.VerdictLemmas.{Asks}

-- a verdict that is told with neither 401 nor 403
abbrev IsOtherVerdict : PolicyVerdict → Type 0
IsOtherVerdict (Refuses problem) = IsOtherProblem problem
IsOtherVerdict (Tells reply) = ⊤
IsOtherVerdict (Publishes reply policy) = ⊤

pub policy_reply : (version : ℕ) (shown : Shown) (reply : Option (List ℕ)) → Some (reply_at version reply) ≡ Some shown → IsOther shown.status
policy_reply version shown reply e = other_told (status_of reply) shown.status (reply_status reply) (status_told (Some (reply_at version reply)) shown e)

verdict_other : (version : ℕ) (shown : Shown) (it : PolicyVerdict) → IsOtherVerdict it → told_of version it ≡ Some shown → IsOther shown.status
verdict_other version shown (Refuses problem) other e = policy_problem version shown problem other e
verdict_other version shown (Tells reply) other e = policy_reply version shown (Some reply) e
verdict_other version shown (Publishes reply policy) other e = policy_reply (version + 1) shown reply e

-- ---- who am I

none_named : (users : List UserRow) (test : UserRow → Bool) (name : List ℕ) → option_map (λ user. user.name) (find test users) ≡ Some name → find (λ user. same_name name user.name) users ≡ None → ⊥
none_named [] test name is none = absurd (cc)
none_named (user ∷ users) test name is none = by_test (test user) (same_name name user.name) refl (none_named users test name) is none
  where
    by_test : (found same : Bool) → same_name name user.name ≡ same → (option_map (λ user. user.name) (find test users) ≡ Some name → find (λ user. same_name name user.name) users ≡ None → ⊥) → option_map (λ user. user.name) (cond found (Some user) (find test users)) ≡ Some name → cond same (Some user) (find (λ user. same_name name user.name) users) ≡ None → ⊥
    by_test found true at later is none = absurd (cc)
    by_test false false at later is none = later is none
    by_test true false at later is none =
        let here : user.name ≡ name = ap (λ (o : Option (List ℕ)). unwrap_or o name) is in
        let yes : same_name name user.name ≡ true = (bytes_decides name user.name).1 (sym here) in
        (let e : false ≡ true = sym at ∙ yes in absurd (cc))

digest_found : (users : List UserRow) (digest name : List ℕ) → digest_user users digest ≡ Some name → find (λ user. same_name name user.name) users ≡ None → ⊥
digest_found users digest name is none = none_named users (λ user. same_digest digest user.digest) name is none

-- the user behind a token has a row
bearer_found : (policy : PolicyRows) (token : Option (List ℕ)) (name : List ℕ) → bearer_of policy token ≡ Some name → found_user policy.users name ≡ None → ⊥
bearer_found policy None name is none = absurd (cc)
bearer_found policy (Some token) name is none = digest_found policy.users _ name is none

module _ (policy : PolicyRows) (token : Option (List ℕ)) (version : ℕ) (shown : Shown) where
  me_found : (name : List ℕ) → bearer_of policy token ≡ Some name → (row : Option UserRow) → found_user policy.users name ≡ row → told_of version (me_verdict version (me_shown policy row)) ≡ Some shown → IsJudged policy token None [] [] shown
  me_found name is None found e = absurd (bearer_found policy token name is found)
  me_found name is (Some row) found e =
      Granted (verdict_other version shown (me_verdict version (me_shown policy (Some row))) tt e) (record { user = name; bearer = is; lacks = refl })

  me_by_bearer : (bearer : Option (List ℕ)) → bearer_of policy token ≡ bearer → told_of version (me_verdict version (me_by policy bearer)) ≡ Some shown → IsJudged policy token None [] [] shown
  me_by_bearer None is e = Nobody (status_told (told_of version (me_verdict version (me_by policy None))) shown e) is
  me_by_bearer (Some name) is e = me_found name is (found_user policy.users name) refl e

  pub me_judged : told_of version (me_verdict version (me_of policy token)) ≡ Some shown → IsJudged policy token None [] [] shown
  me_judged e = me_by_bearer (bearer_of policy token) refl e

-- ---- roles and users

role_other : (asked : PolicyRead) (row : Option RoleRow) → IsOtherVerdict (read_verdict asked (role_told row))
role_other asked None = (λ e. cc, λ e. cc)
role_other asked (Some row) = tt

user_other : (asked : PolicyRead) (row : Option UserRow) → IsOtherVerdict (read_verdict asked (user_told row))
user_other asked None = (λ e. cc, λ e. cc)
user_other asked (Some row) = tt

rows_other : (policy : PolicyRows) (asked : PolicyRead) → IsOtherVerdict (read_verdict asked (rows_told policy asked))
rows_other policy (Roles span) = tt
rows_other policy (Role name) = role_other (Role name) (found_role policy.roles name)
rows_other policy (Users span) = tt
rows_other policy (User name) = user_other (User name) (found_user policy.users name)
rows_other policy (read.Bad kind input) = (λ e. cc, λ e. cc)

module _ (policy : PolicyRows) (token : Option (List ℕ)) (version : ℕ) (shown : Shown) (asked : PolicyRead) where
  read_lacked : (user : List ℕ) → bearer_of policy token ≡ Some user → (lacked : Option Need) → first_unmet (grants policy user) None [] (reading_needs (read_kind asked)) ≡ lacked → told_of version (read_verdict asked (read_unless policy asked lacked)) ≡ Some shown → IsJudged policy token None [] (reading_needs (read_kind asked)) shown
  read_lacked user is (Some need) lacks e =
      Lacking need (status_told (told_of version (read_verdict asked (read_unless policy asked (Some need)))) shown e)
      (body_told (told_of version (read_verdict asked (read_unless policy asked (Some need)))) shown e) (record { user = user; bearer = is; lacks = lacks })
  read_lacked user is None lacks e =
      Granted (verdict_other version shown (read_verdict asked (rows_told policy asked)) (rows_other policy asked) e) (record { user = user; bearer = is; lacks = lacks })

  read_by_bearer : (bearer : Option (List ℕ)) → bearer_of policy token ≡ bearer → told_of version (read_verdict asked (read_by policy asked bearer)) ≡ Some shown → IsJudged policy token None [] (reading_needs (read_kind asked)) shown
  read_by_bearer None is e = Nobody (status_told (told_of version (read_verdict asked (read_by policy asked None))) shown e) is
  read_by_bearer (Some user) is e = read_lacked user is (first_unmet (grants policy user) None [] (reading_needs (read_kind asked))) refl e

  pub read_judged : told_of version (read_verdict asked (read_of policy token asked)) ≡ Some shown → IsJudged policy token None [] (reading_needs (read_kind asked)) shown
  read_judged e = read_by_bearer (bearer_of policy token) refl e

-- ---- changes

-- what is told of a change that makes no policy
abbrev pub fault_told : ℕ → Ask → Result PolicyRows Refusal → Option Shown
fault_told version ask (Ok later) = None
fault_told version ask (Err fault) = told_of version (Refuses (submit_problem ask fault))

refused_other : (ask : Ask) (it : ChangeFault) → IsOtherProblem (submit_problem ask (refused_by it))
refused_other ask refused.OutOfMemory = tt
refused_other ask it = (λ e. cc, λ e. cc)

module _ (policy : PolicyRows) (token : Option (List ℕ)) (version : ℕ) (shown : Shown) where
  made_judged : (change : Change) → Asks policy token None [] (needs_of (asked_kind (Made change))) None → (comes : Result PolicyRows ChangeFault) → fault_told version (Made change) (made_or_refused comes) ≡ Some shown → IsJudged policy token None [] (needs_of (asked_kind (Made change))) shown
  made_judged change asks (Ok later) e = absurd (cc)
  made_judged change asks (Err fault) e =
      Granted (policy_problem version shown (submit_problem (Made change) (refused_by fault)) (refused_other (Made change) fault) e) asks

  permitted_judged : (ask : Ask) → Asks policy token None [] (needs_of (asked_kind ask)) None → fault_told version ask (permitted policy ask) ≡ Some shown → IsJudged policy token None [] (needs_of (asked_kind ask)) shown
  permitted_judged (Made change) asks e = made_judged change asks (changed policy change) e
  permitted_judged (Bad kind input) asks e =
      Granted (policy_problem version shown (submit_problem (Bad kind input) (BadBody input)) (λ e. cc, λ e. cc) e) asks

  change_lacked : (ask : Ask) (user : List ℕ) → bearer_of policy token ≡ Some user → (lacked : Option Need) → first_unmet (grants policy user) None [] (needs_of (asked_kind ask)) ≡ lacked → fault_told version ask (unless_lacked policy ask lacked) ≡ Some shown → IsJudged policy token None [] (needs_of (asked_kind ask)) shown
  change_lacked ask user is (Some need) lacks e =
      Lacking need (status_told (fault_told version ask (unless_lacked policy ask (Some need))) shown e)
      (body_told (fault_told version ask (unless_lacked policy ask (Some need))) shown e) (record { user = user; bearer = is; lacks = lacks })
  change_lacked ask user is None lacks e = permitted_judged ask (record { user = user; bearer = is; lacks = lacks }) e

  change_by_bearer : (ask : Ask) (bearer : Option (List ℕ)) → bearer_of policy token ≡ bearer → fault_told version ask (asked_by policy ask bearer) ≡ Some shown → IsJudged policy token None [] (needs_of (asked_kind ask)) shown
  change_by_bearer ask None is e = Nobody (status_told (fault_told version ask (asked_by policy ask None)) shown e) is
  change_by_bearer ask (Some user) is e =
      change_lacked ask user is (first_unmet (grants policy user) None [] (needs_of (asked_kind ask))) refl e

  pub change_judged : (ask : Ask) → fault_told version ask (decided policy token ask) ≡ Some shown → IsJudged policy token None [] (needs_of (asked_kind ask)) shown
  change_judged ask e = change_by_bearer ask (bearer_of policy token) refl e

-- a change that is made: who made it, and of what
pub record IsMade (policy : PolicyRows) (token : Option (List ℕ)) (ask : Ask) (later : PolicyRows) : Type 0 where
  pub change : Change
  pub is_change : ask ≡ Made change
  pub asks : Asks policy token None [] (needs_of (kind_of change)) None
  pub makes : changed policy change ≡ Ok later

module _ (policy : PolicyRows) (token : Option (List ℕ)) (later : PolicyRows) where
  made_made : (change : Change) → Asks policy token None [] (needs_of (kind_of change)) None → (comes : Result PolicyRows ChangeFault) → changed policy change ≡ comes → made_or_refused comes ≡ Ok later → IsMade policy token (Made change) later
  made_made change asks (Ok next) is e = record { change = change; is_change = refl; asks = asks; makes = is ∙ (let same : next ≡ later = cc in ap (λ (p : PolicyRows). Ok p) same) }
  made_made change asks (Err fault) is e = absurd (cc)

  permitted_made : (ask : Ask) → Asks policy token None [] (needs_of (asked_kind ask)) None → permitted policy ask ≡ Ok later → IsMade policy token ask later
  permitted_made (Made change) asks e = made_made change asks (changed policy change) refl e
  permitted_made (Bad kind input) asks e = absurd (cc)

  lacked_made : (ask : Ask) (user : List ℕ) → bearer_of policy token ≡ Some user → (lacked : Option Need) → first_unmet (grants policy user) None [] (needs_of (asked_kind ask)) ≡ lacked → unless_lacked policy ask lacked ≡ Ok later → IsMade policy token ask later
  lacked_made ask user is (Some need) lacks e = absurd (cc)
  lacked_made ask user is None lacks e = permitted_made ask (record { user = user; bearer = is; lacks = lacks }) e

  bearer_made : (ask : Ask) (bearer : Option (List ℕ)) → bearer_of policy token ≡ bearer → asked_by policy ask bearer ≡ Ok later → IsMade policy token ask later
  bearer_made ask None is e = absurd (cc)
  bearer_made ask (Some user) is e = lacked_made ask user is (first_unmet (grants policy user) None [] (needs_of (asked_kind ask))) refl e

  pub decided_made : (ask : Ask) → decided policy token ask ≡ Ok later → IsMade policy token ask later
  decided_made ask e = bearer_made ask (bearer_of policy token) refl e

pub follows_made : (policy : PolicyRows) (token : Option (List ℕ)) (ask : Ask) (later : PolicyRows) → IsMade policy token ask later → IsMadeOf policy later
follows_made policy token ask later made = record {
  author = made.asks.user;
  change = made.change;
  granted = none_lacked policy made.asks.user None [] (needs_of (kind_of made.change)) made.asks.lacks;
  made = made.makes;
}
