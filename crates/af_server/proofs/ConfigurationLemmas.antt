-- What is told of a configuration before any memory is wanted.
use Rattle.std.proofs.Common.{◌≡◌, ◌∙◌, ap, List, [], ◌∷◌, Bool, true, false, Option, Some, None, Result, Ok, Err, is_some}
use Rattle.std.specs.Prelude.{codes, ok_or, option_and_then, unwrap_or, if◌then◌else◌}
use Rattle.serde_json.specs.Data.{Data}
use Rattle.serde_json.specs.Find.{as_object}
use Rattle.af_base.specs.Members.{as_list}
use Rattle.af_base.specs.Readings.{◌>>=◌, member_of, optional, seen, taking}
use Rattle.af_policy.specs.Rows.{PolicyRows}
use Rattle.af_policy.specs.Drafts.{opening}
use Rattle.af_server.specs.declared.reason.Reason.{Reason}
use Rattle.af_server.specs.declared.reason.Reason.TheVariants.{Memory, Shape}
use Rattle.af_server.specs.Configurations.{ConfigurationRows, begun_in, configuration_in, draft_in, limits_in, object_or, policy_in, role_taken, some_user, synced_in, user_taken, users_begun, with_admin, with_rows}
use Rattle.af_server.specs.Members.{optional_list_in}

-- a fault alone
abbrev refusal : {X Y : Type 0} → Result X Reason → Result Y Reason
refusal (Ok x) = Err Shape
refusal (Err fault) = Err fault

-- ---- what is told then is what the whole tells

module _ (reason : Reason) where
  from_users : (users : Result (List Data) Reason) → (users >>= some_user) ≡ Err reason → ((users >>= taking user_taken opening) >>= with_admin) ≡ Err reason
  unfolding opening
  from_users (Err fault) is = ap refusal is
  from_users (Ok []) is = ap refusal is
  from_users (Ok (row ∷ rows)) is = absurd (cc)

  from_roles : (config : Data) (roles : Result (List Data) Reason) → (roles >>= users_begun config) ≡ Err reason → ((roles >>= taking role_taken opening) >>= (λ with_roles. with_rows user_taken (codes "users") config with_roles >>= with_admin)) ≡ Err reason
  from_roles config (Err fault) is = ap refusal is
  from_roles config (Ok []) is = from_users (optional_list_in (codes "users") config) is
  from_roles config (Ok (row ∷ rows)) is = absurd (cc)

  -- and then whatever is told of the policy
  module _ (rest : Data → PolicyRows → Result ConfigurationRows Reason) where
    from_object : (value : Result Data Reason) → (value >>= (λ config. optional_list_in (codes "roles") config >>= users_begun config)) ≡ Err reason → (value >>= (λ config. policy_in config >>= rest config)) ≡ Err reason
    from_object (Err fault) is = ap refusal is
    from_object (Ok config) is = ap (λ (r : Result PolicyRows Reason). r >>= rest config) (from_roles config (optional_list_in (codes "roles") config) is)

-- what is told of a policy and the rest of a value
abbrev with_policy : Data → PolicyRows → Result ConfigurationRows Reason
with_policy config policy =
    draft_in config >>= (λ draft. synced_in config policy >>= (λ synced. limits_in config >>= (λ limits.
    Ok (record { policy = synced; state = draft.state; scripts = draft.scripts; limits = limits }))))

pub begun_decides : (value : Data) (reason : Reason) → begun_in value ≡ Err reason → configuration_in value ≡ Err reason
begun_decides value reason is = from_object reason with_policy (object_or value) is

-- ---- it is never out of memory

list_told : (list : Option (List Data)) → seen (λ (it : Option (List Data)). unwrap_or it []) (ok_or (option_and_then (λ (x : List Data). Some (Some x)) list) Shape) ≡ Err Memory → ⊥
list_told None is = absurd (cc)
list_told (Some list) is = absurd (cc)

member_told : (member : Option Data) → seen (λ (it : Option (List Data)). unwrap_or it []) (optional as_list Shape member) ≡ Err Memory → ⊥
member_told None is = absurd (cc)
member_told (Some value) is = list_told (as_list value) is

some_user_told : (users : Result (List Data) Reason) → (users ≡ Err Memory → ⊥) → (users >>= some_user) ≡ Err Memory → ⊥
some_user_told (Err fault) told is = told (ap refusal is)
some_user_told (Ok []) told is = absurd (cc)
some_user_told (Ok (row ∷ rows)) told is = absurd (cc)

users_told : (config : Data) (roles : Result (List Data) Reason) → (roles ≡ Err Memory → ⊥) → (roles >>= users_begun config) ≡ Err Memory → ⊥
users_told config (Err fault) told is = told (ap refusal is)
users_told config (Ok []) told is = some_user_told (optional_list_in (codes "users") config) (member_told (member_of (codes "users") config)) is
users_told config (Ok (row ∷ rows)) told is = absurd (cc)

object_told : (value : Data) (is_object : Bool) → ((if is_object then Ok value else Err Shape) >>= (λ config. optional_list_in (codes "roles") config >>= users_begun config)) ≡ Err Memory → ⊥
object_told value true is = users_told value (optional_list_in (codes "roles") value) (member_told (member_of (codes "roles") value)) is
object_told value false is = absurd (cc)

begun_is_never_memory : (value : Data) → begun_in value ≡ Err Memory → ⊥
begun_is_never_memory value is = object_told value (is_some (as_object value)) is

-- so what is told then is not out of memory
pub begun_is_told : (value : Data) (reason : Reason) → begun_in value ≡ Err reason → reason ≡ Memory → begun_in value ≡ Ok tt
begun_is_told value reason is memory = absurd (begun_is_never_memory value (is ∙ ap (λ (it : Reason). Err it) memory))
