-- A list of versions with one more, and what a refused change is told as.
use Rattle.std.proofs.Common.{◌≡◌, ◌⊎◌, ◌≤◌, ℕ, length, true, cond, nat_le, le-leb, List, [], ◌∷◌, ◌++◌, Option, Some, None, Result, Ok, Err, refl, sym, ap, subst, ◌∙◌, ⊎_elim}
use Rattle.af_policy.specs.Rows.{PolicyRows}
use Rattle.af_policy.specs.declared.refusal.Refusal.TheVariants.{Full, OutOfMemory}
use Rattle.af_policy.specs.declared.change_fault.ChangeFault.{ChangeFault}
use Rattle.af_policy.specs.declared.change_fault.ChangeFault.TheVariants as change
use Rattle.af_policy.specs.declared.ask.Ask.{Ask}
use Rattle.af_policy.specs.declared.ask.Ask.TheVariants.{Made, Bad}
use Rattle.af_role.specs.declared.need.Need.{Need}
use Rattle.af_policy.specs.Grants.{missing}
use Rattle.af_policy.specs.Identity.{bearer_of}
use Rattle.af_policy.specs.Changes.{changed, may_want_memory, needs_of, wants_memory}
use Rattle.af_policy.specs.Versions.{Follows, IsHistory, VersionRows, asked_by, asked_kind, asked_wants, decided, decided_wants, first_of, made_or_refused, permitted, permitted_wants, refused_by, submitted, unlacked_wants, unless_lacked, within}

first_of-behind : (policies : List PolicyRows) (latest next : PolicyRows) → first_of (policies ++ latest ∷ []) next ≡ first_of policies latest
first_of-behind [] latest next = refl
first_of-behind (policy ∷ policies) latest next = refl

pub history_more : (policies : List PolicyRows) (latest next : PolicyRows) → IsHistory policies latest → Follows latest next → IsHistory (policies ++ latest ∷ []) next
unfolding IsHistory
history_more [] latest next history follows = (follows, tt)
history_more (policy ∷ policies) latest next history follows =
    (subst (Follows policy) (sym (first_of-behind policies latest next)) history.0, history_more policies latest next history.1 follows)

pub history_none : (latest : PolicyRows) → IsHistory [] latest
unfolding IsHistory
history_none latest = tt

pub ok_told : {F : Type 0} (comes : Result PolicyRows F) (later : PolicyRows) (fault : F) → (Ok later ≡ comes) ⊎ (Ok later ≡ Err fault) → comes ≡ Ok later
ok_told comes later fault told = ⊎_elim (λ e. sym e) (λ e. cc) told

pub full_when : (versions : VersionRows) (policy : PolicyRows) → versions.last ≤ length versions.earlier → within versions (Ok policy) ≡ Err Full
full_when versions policy none_left = ap (λ b. cond b (Err Full) (Ok policy)) (le-leb versions.last (length versions.earlier) none_left)

-- ---- out of memory

-- it is told of a change alone that tells it
pub refused_memory : (fault : ChangeFault) → refused_by fault ≡ OutOfMemory → fault ≡ change.OutOfMemory
refused_memory (change.BadAction text) e = cc
refused_memory (change.PairNotAllowed text) e = cc
refused_memory (change.UnknownRole name) e = cc
refused_memory change.NoSuchRole e = cc
refused_memory change.NoSuchUser e = cc
refused_memory change.DefaultRole e = cc
refused_memory change.Exists e = cc
refused_memory change.RoleInUse e = cc
refused_memory change.LastAdmin e = cc
refused_memory change.TooMany e = cc
refused_memory change.OutOfMemory e = refl

permitted_made : (policy later : PolicyRows) (ask : Ask) → permitted policy ask ≡ Ok later → permitted_wants policy ask ≡ true
permitted_made policy later (Bad kind input) e = cc
permitted_made policy later (Made c) e = made (changed policy c) refl e
  where
    made : (r : Result PolicyRows ChangeFault) → changed policy c ≡ r → made_or_refused r ≡ Ok later → may_want_memory policy c ≡ true
    made (Ok p) is f = ap wants_memory is
    made (Err fault) is f = cc

asked_made : (policy later : PolicyRows) (ask : Ask) (user : Option (List ℕ)) → asked_by policy ask user ≡ Ok later → asked_wants policy ask user ≡ true
asked_made policy later ask None e = cc
asked_made policy later ask (Some user) e = lacking (missing policy user (needs_of (asked_kind ask)) None []) e
  where
    lacking : (o : Option Need) → unless_lacked policy ask o ≡ Ok later → unlacked_wants policy ask o ≡ true
    lacking (Some need) f = cc
    lacking None f = permitted_made policy later ask f

-- so does one that is asked for
pub decided_made : (policy later : PolicyRows) (token : Option (List ℕ)) (ask : Ask) → (Ok later ≡ decided policy token ask) ⊎ (Ok later ≡ Err OutOfMemory) → decided_wants policy token ask ≡ true
decided_made policy later token ask told = ⊎_elim (λ e. asked_made policy later ask (bearer_of policy token) (sym e)) (λ e. cc) told

no_room : (versions : VersionRows) (later : PolicyRows) → nat_le versions.last (length versions.earlier) ≡ true → within versions (Ok later) ≡ Err Full
no_room versions later full = ap (λ b. cond b (Err Full) (Ok later)) full

-- a change that is permitted comes to nothing where the last version is made
pub made_full : (versions : VersionRows) (token : Option (List ℕ)) (ask : Ask) (later : PolicyRows) → nat_le versions.last (length versions.earlier) ≡ true → (Ok later ≡ decided versions.latest token ask) ⊎ (Ok later ≡ Err OutOfMemory) → Err Full ≡ submitted versions token ask
made_full versions token ask later full told =
    ⊎_elim (λ e. sym (no_room versions later full) ∙ ap (λ comes. within versions comes) e) (λ e. cc) told
