-- How often the users of a policy name a role.
use Rattle.std.specs.Prelude.{◌≡◌, ℕ, List, Bool, true, not, ◌||◌, codes, sum_by, count_by, map, unwrap_or}
use Rattle.std.specs.List.{find}
use Rattle.std.specs.Option.{option_map_or}
use Rattle.std.specs.Ordering.{nat_cmp}
use Rattle.std.specs.Cmp.Lexicographic.{slice_cmp}
use Rattle.std.specs.BTreeMap.{BTreeMap, get}
use Rattle.af_role.specs.Roles.{RoleRow}
use Rattle.af_policy.specs.Rows.{IsWithinLimits, UserRow, roles_exist, same_name}

pub record UseRow : Type 0 where
  pub name : List ℕ
  pub count : ℕ

-- how often a name is counted
abbrev pub count_at : List UseRow → List ℕ → ℕ
count_at uses name = option_map_or (λ entry. entry.count) (find (λ entry. same_name name entry.name) uses) 0

-- how often a name is counted in a map of counts
abbrev pub count_in : BTreeMap (List ℕ) ℕ → List ℕ → ℕ
count_in counts name = unwrap_or (get (slice_cmp nat_cmp) counts name) 0

-- the counts of such a map as rows
abbrev pub use_rows : List (List ℕ × ℕ) → List UseRow
use_rows entries = map (λ e. record { name = e.0; count = e.1 }) entries

-- how often a name stands among these
abbrev pub uses_in : List (List ℕ) → List ℕ → ℕ
uses_in roles name = count_by (λ role. same_name name role) roles

-- how often the users name a role
abbrev pub mentions : List UserRow → List ℕ → ℕ
mentions users name = sum_by (λ user. uses_in user.roles name) users

-- whether it is counted how often users name a role: of the default roles, none of which is ever deleted, only Admin
abbrev pub is_counted : List ℕ → Bool
is_counted name = not (same_name name (codes "Public") || same_name name (codes "Viewer") || same_name name (codes "User") || same_name name (codes "Op"))

-- each role that a user has is there, the counts are those of the users, and there are no more rows than a policy may have
pub record IsTables (users : List UserRow) (roles : List RoleRow) (uses : List UseRow) : Type 0 where
  pub exist : roles_exist (record { users = users; roles = roles }) ≡ true
  pub counted : (name : List ℕ) → is_counted name ≡ true → count_at uses name ≡ mentions users name
  pub within : IsWithinLimits (record { users = users; roles = roles })
