-- What a change asks of a policy, and that some user stays Admin.
use Rattle.std.proofs.Common.{◌≡◌, ℕ, List, [], ◌∷◌, Bool, true, false, not, ◌&&◌, ◌||◌, cond, Option, Some, None, unwrap_or, codes, refl, ap, ◌∙◌}
use Rattle.std.specs.List.{find, list_all, list_any}
use Rattle.std.specs.Ordering.{nat_cmp, match_ordering}
use Rattle.std.specs.declared.cmp.Ordering.{Ordering}
use Rattle.std.specs.declared.cmp.Ordering.TheVariants.{Less, Equal, Greater}
use Rattle.std.specs.Cmp.Lexicographic.{slice_cmp, bytes_decides}
use Rattle.af_role.specs.Roles.{RoleRow}
use Rattle.af_policy.specs.Rows.{NamesAscend, UserRow, digests_differ, found_user, has_admin, has_digest, has_role, has_roles, has_user, roles_exist, same_name, user_names, with_user, without_user}
use Rattle.af_policy.specs.Changes.{is_anothers, patched, replaced, unknown_given, unknown_role}
use Rattle.af_policy.specs.declared.change.UserPatch.{UserPatch}
use Rattle.af_policy.proofs.UserLemmas.{not_tied, or-false_left, or-false_right}
use Rattle.af_policy.proofs.RemovalLemmas.{has_digest-without_user, has_user-without_user, roles_exist-found}

all-unless_found : {X : Type 0} (p : X → Bool) (xs : List X) → find (λ x. not (p x)) xs ≡ None → list_all p xs ≡ true
all-unless_found p [] none = refl
all-unless_found p (x ∷ xs) none = step (p x) none (all-unless_found p xs)
  where
    step : (b : Bool) → cond (not b) (Some x) (find (λ x. not (p x)) xs) ≡ None → (find (λ x. not (p x)) xs ≡ None → list_all p xs ≡ true) → (b && list_all p xs) ≡ true
    step true e later = later e
    step false e later = cc

pub has_roles-known : (roles : List RoleRow) (names : List (List ℕ)) → unknown_role roles names ≡ None → has_roles roles names ≡ true
has_roles-known roles names none = all-unless_found (λ name. has_role roles name) names none

or-swap : (a b c : Bool) → (a || (b || c)) ≡ (b || (a || c))
or-swap true true c = refl
or-swap true false c = refl
or-swap false b c = refl

-- a test of some user, after a user is added
any-with_user : (p : UserRow → Bool) (row : UserRow) (users : List UserRow) → has_user users row.name ≡ false → list_any p (with_user users row) ≡ (p row || list_any p users)
any-with_user p row [] new = refl
any-with_user p row (x ∷ xs) new =
    step (slice_cmp nat_cmp row.name x.name) refl (any-with_user p row xs (or-false_right (same_name row.name x.name) (has_user xs row.name) new))
  where
    step : (o : Ordering) → slice_cmp nat_cmp row.name x.name ≡ o → list_any p (with_user xs row) ≡ (p row || list_any p xs) → list_any p (match_ordering o (row ∷ x ∷ xs) (row ∷ xs) (x ∷ with_user xs row)) ≡ (p row || (p x || list_any p xs))
    step Less is later = refl
    step Equal is later =
        let e : true ≡ false = not_tied row.name x.name (or-false_left (same_name row.name x.name) (has_user xs row.name) new) is
        in cc
    step Greater is later = ap (λ b. p x || b) later ∙ or-swap (p x) (p row) (list_any p xs)

or-true : (b : Bool) → (b || true) ≡ true
or-true true = refl
or-true false = refl

-- a further user leaves some user Admin
pub has_admin-with_user : (row : UserRow) (users : List UserRow) → has_user users row.name ≡ false → has_admin users ≡ true → has_admin (with_user users row) ≡ true
has_admin-with_user row users new admin =
    any-with_user (λ user. list_any (λ role. same_name role (codes "Admin")) user.roles) row users new
    ∙ ap (λ b. list_any (λ role. same_name role (codes "Admin")) row.roles || b) admin
    ∙ or-true (list_any (λ role. same_name role (codes "Admin")) row.roles)

pub has_admin-replaced : (row : UserRow) (users : List UserRow) → has_admin (replaced users row) ≡ (list_any (λ role. same_name role (codes "Admin")) row.roles || has_admin (without_user users row.name))
has_admin-replaced row users =
    any-with_user (λ user. list_any (λ role. same_name role (codes "Admin")) user.roles) row (without_user users row.name) (has_user-without_user row.name users)

module _ (users : List UserRow) (roles : List RoleRow) (patch : UserPatch) (user : UserRow) (found : found_user users patch.name ≡ Some user) where
  pub has_roles-patched : roles_exist (record { users = users; roles = roles }) ≡ true → unknown_given roles patch.roles ≡ None → has_roles roles (patched patch user).roles ≡ true
  has_roles-patched exist none = step patch.roles none
    where
      step : (given : Option (List (List ℕ))) → unknown_given roles given ≡ None → has_roles roles (unwrap_or given user.roles) ≡ true
      step None none = roles_exist-found users roles patch.name user exist found
      step (Some names) none = has_roles-known roles names none

  pub has_digest-patched : NamesAscend (user_names users) → digests_differ users ≡ true → is_anothers users patch.name patch.digest ≡ false → has_digest (without_user users patch.name) (patched patch user).digest ≡ false
  has_digest-patched ascend differ none = step patch.digest none
    where
      step : (given : Option (List ℕ)) → is_anothers users patch.name given ≡ false → has_digest (without_user users patch.name) (unwrap_or given user.digest) ≡ false
      step (Some digest) none = none
      step None none =
          has_digest-without_user patch.name user user.digest users ascend differ found
          ∙ ap (λ b. not b && has_digest users user.digest) ((bytes_decides user.digest user.digest).1 refl)
