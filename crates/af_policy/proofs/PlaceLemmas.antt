-- A row in the place of the row of its key, and how many rows there are then.
use Rattle.std.proofs.Common.{◌≡◌, ◌≤◌, ◌<◌, ◌+◌, ◌⊎◌, ⊎_elim, ℕ, suc, List, [], ◌∷◌, length, map, Bool, true, false, not, cond, Some, is_some, refl, sym, ap, subst, ◌∙◌, arith}
use Rattle.std.specs.List.{AllByRecursion, filter}
use Rattle.std.specs.Ordering.{match_ordering, nat_cmp}
use Rattle.std.specs.declared.cmp.Ordering.{Ordering}
use Rattle.std.specs.declared.cmp.Ordering.TheVariants.{Less, Equal, Greater}
use Rattle.std.specs.Cmp.Lexicographic.{slice_cmp}
use Rattle.std.proofs.lemmas.List.{length-map}
use Rattle.std.proofs.lemmas.Map.Lookups.{exact_bytes}
use Rattle.af_role.specs.declared.access.AccessRow.{AccessRow}
use Rattle.af_role.specs.Access.{synced_role}
use Rattle.af_role.specs.Roles.{RoleRow}
use Rattle.af_policy.specs.Changes.{replaced}
use Rattle.af_policy.specs.Rows.{IsWithinLimits, NamesAscend, UserRow, found_user, has_digest, has_role, most_roles, most_users, role_names, same_name, user_names, with_role, with_user, without_role, without_user}
use Rattle.af_policy.specs.SharedRows.{Ascend, found, with_row, without}
use Rattle.af_policy.specs.Tables.{IsUserTable}
use Rattle.af_policy.proofs.NameLemmas.{is_some-find}
use Rattle.af_policy.proofs.OrderLemmas.{Stands, length_with, stands, with_right, with_within, without_here, without_left, without_right}
use Rattle.af_policy.proofs.RemovalLemmas.{IsUserTable-without, has_user-without_user}
use Rattle.af_policy.proofs.UserLemmas.{IsUserTable-insert}

module _ {T : Type 0} (key : T → List ℕ) where
  -- to put a row among the others is to put it in the place of the row of its key
  pub with_in_place : (row : T) (rows : List T) → Ascend key rows → with_row key rows row ≡ with_row key (without key rows (key row)) row
  with_in_place row [] s = refl
  with_in_place row (x ∷ xs) s = step (slice_cmp nat_cmp (key row) (key x)) refl (with_in_place row xs at.right)
    where
      at : Stands key [] x xs
      at = stands key [] x xs s

      others : List T
      others = without key xs (key row)

      step : (o : Ordering) → slice_cmp nat_cmp (key row) (key x) ≡ o → with_row key xs row ≡ with_row key (without key xs (key row)) row → with_row key (x ∷ xs) row ≡ with_row key (without key (x ∷ xs) (key row)) row
      step Less e later = ap (λ rows. with_row key rows row) (without_left key [] x xs at (key row) e)
      step Equal e later =
          ap (λ o. match_ordering o (row ∷ x ∷ xs) (row ∷ xs) (x ∷ with_row key xs row)) e
          ∙ with_within key row [] xs (subst (λ n. AllByRecursion (λ y. slice_cmp nat_cmp n (key y) ≡ Less) xs) (sym (exact_bytes (key row) (key x) e)) at.above)
          ∙ ap (λ rows. with_row key rows row) (without_here key [] x xs at (key row) e)
      step Greater e later =
          sym (with_right key row [] x xs at e)
          ∙ ap (λ ys. x ∷ ys) later
          ∙ sym (ap (λ o. match_ordering o (row ∷ x ∷ without key xs (key row)) (row ∷ without key xs (key row)) (x ∷ with_row key (without key xs (key row)) row)) e)
          ∙ ap (λ rows. with_row key rows row) (without_right key [] x xs at (key row) e)

  -- where the key is the one that the row before had, its place is that row's
  pub with_same_key : (k : List ℕ) (row : T) (rows : List T) → Ascend key rows → k ≡ key row → with_row key rows row ≡ with_row key (without key rows k) row
  with_same_key k row rows s e = with_in_place row rows s ∙ ap (λ n. with_row key (without key rows n) row) (sym e)

  pub one_more : (row : T) (rows : List T) → length (with_row key rows row) ≤ suc (length rows)
  one_more row [] = omega arith
  one_more row (x ∷ xs) = step (slice_cmp nat_cmp (key row) (key x)) (one_more row xs)
    where
      step : (o : Ordering) → length (with_row key xs row) ≤ suc (length xs) → length (match_ordering o (row ∷ x ∷ xs) (row ∷ xs) (x ∷ with_row key xs row)) ≤ suc (suc (length xs))
      step Less later = omega arith
      step Equal later = omega arith
      step Greater later = omega (arith, later)

  pub no_more : (k : List ℕ) (rows : List T) → length (without key rows k) ≤ length rows
  no_more k rows = fewer (λ row. not (same_name k (key row))) rows
    where
      fewer : (p : T → Bool) (xs : List T) → length (filter p xs) ≤ length xs
      fewer p [] = omega arith
      fewer p (x ∷ xs) = step (p x) (fewer p xs)
        where
          step : (b : Bool) → length (filter p xs) ≤ length xs → length (cond b (x ∷ filter p xs) (filter p xs)) ≤ suc (length xs)
          step true later = omega (arith, later)
          step false later = omega (arith, later)

  -- a row in the place of one that is there
  pub as_many : (row : T) (rows : List T) → Ascend key rows → is_some (found key rows (key row)) ≡ true → length (with_row key rows row) ≡ length rows
  as_many row rows s is = length_with key row rows s ∙ ap (λ b. cond b (length rows) (length rows + 1)) is

-- ---- roles

module _ (users : List UserRow) (roles : List RoleRow) (within : IsWithinLimits (record { users = users; roles = roles })) where
  pub within-with_role : (role : RoleRow) → NamesAscend (role_names roles) → (has_role roles role.name ≡ true) ⊎ (length roles < most_roles) → IsWithinLimits (record { users = users; roles = with_role roles role })
  within-with_role role ascend room = record { users = within.users; roles = ⊎_elim there new room }
    where
      there : has_role roles role.name ≡ true → length (with_role roles role) ≤ most_roles
      there has =
          let same = as_many (λ (r : RoleRow). r.name) role roles ascend (is_some-find (λ r. same_name role.name r.name) roles ∙ has)
          in let few = within.roles
          in omega (arith, same, few)

      new : length roles < most_roles → length (with_role roles role) ≤ most_roles
      new room = let more = one_more (λ (r : RoleRow). r.name) role roles in omega (arith, more, room)

  pub within-new_role : (role : RoleRow) → length roles < most_roles → IsWithinLimits (record { users = users; roles = with_role roles role })
  within-new_role role room = record { users = within.users; roles = let more = one_more (λ (r : RoleRow). r.name) role roles in omega (arith, more, room) }

  pub within-without_role : (name : List ℕ) → IsWithinLimits (record { users = users; roles = without_role roles name })
  within-without_role name = record { users = within.users; roles = let less = no_more (λ (r : RoleRow). r.name) name roles in let few = within.roles in omega (arith, less, few) }

  pub within-synced : (dag : List ℕ) (access : List AccessRow) → IsWithinLimits (record { users = users; roles = map (synced_role dag access) roles })
  within-synced dag access = record { users = within.users; roles = let same = length-map roles (synced_role dag access) in let few = within.roles in omega (arith, same, few) }

  -- ---- users

  pub within-with_user : (user : UserRow) → length users < most_users → IsWithinLimits (record { users = with_user users user; roles = roles })
  within-with_user user room = record { users = let more = one_more (λ (u : UserRow). u.name) user users in omega (arith, more, room); roles = within.roles }

  pub within-without_user : (name : List ℕ) → IsWithinLimits (record { users = without_user users name; roles = roles })
  within-without_user name = record { users = let less = no_more (λ (u : UserRow). u.name) name users in let few = within.users in omega (arith, less, few); roles = within.roles }

  pub within-replaced : (before user : UserRow) → NamesAscend (user_names users) → found_user users user.name ≡ Some before → IsWithinLimits (record { users = replaced users user; roles = roles })
  within-replaced before user ascend is = record {
    users =
        let place = ap (λ (rows : List UserRow). length rows) (with_in_place (λ (u : UserRow). u.name) user users ascend)
        in let same = as_many (λ (u : UserRow). u.name) user users ascend (ap is_some is)
        in let few = within.users
        in omega (arith, place, same, few);
    roles = within.roles;
  }

-- where a user is added or nothing changes
pub within-either : (added : Bool) (users others : List UserRow) (roles : List RoleRow) (user : UserRow) → (added ≡ true → others ≡ with_user users user) → (added ≡ false → others ≡ users) → length users < most_users → IsWithinLimits (record { users = users; roles = roles }) → IsWithinLimits (record { users = others; roles = roles })
within-either true users others roles user new old room within = rw (new refl) (within-with_user users roles within user room)
within-either false users others roles user new old room within = rw (old refl) within

-- the index of digests, after a user is put in the place of another
pub IsUserTable-replaced : (users index : List UserRow) (before user : UserRow) → IsUserTable users index → NamesAscend (user_names users) → found_user users user.name ≡ Some before → has_digest (without_user users user.name) user.digest ≡ false → IsUserTable (replaced users user) (with_row (λ user. user.digest) (without (λ user. user.digest) index before.digest) user)
IsUserTable-replaced users index before user table ascend found differ =
    IsUserTable-insert (without_user users user.name) (without (λ user. user.digest) index before.digest) user
    (IsUserTable-without users index user.name before table ascend found) (has_user-without_user user.name users) differ
