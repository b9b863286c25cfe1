-- What a sync leaves elsewhere, and what a user is shown of the user's own permissions.
use Rattle.std.proofs.Common.{◌≡◌, ℕ, List, [], ◌∷◌, Bool, true, false, not, ◌&&◌, ◌||◌, cond, map, Option, Some, None, Result, Ok, Err, refl, sym, ap, subst, ◌∙◌}
use Rattle.std.specs.List.{filter, flat_map, list_any}
use Rattle.std.specs.List.Sorted.{IsStrictlySortedBy}
use Rattle.std.specs.Option.{option_map, option_map_or}
use Rattle.std.specs.Cmp.Lexicographic.{bytes_decides}
use Rattle.std.proofs.lemmas.List.Folds.{list_any-append}
use Rattle.af_role.specs.declared.access.AccessRow.{AccessRow}
use Rattle.af_role.specs.Pairs.{PairRow, pair_cmp, same_pair}
use Rattle.af_role.specs.Roles.{RoleRow, contains_pair, lists}
use Rattle.af_role.specs.Access.{bad_action, is_about, is_admin_name, kept_pairs, listed_pairs, synced_role}
use Rattle.af_role.proofs.PairLemmas.{same_pair-decides}
use Rattle.af_policy.specs.Rows.{IsPolicy, NamesAscend, PolicyRows, UserRow, found_user, has_role, role_names, same_name}
use Rattle.af_policy.specs.Grants.{grants, role_lists, some_role_lists}
use Rattle.af_policy.specs.Identity.{bearer_of}
use Rattle.af_policy.specs.Tables.{listed_of, pairs_of, permissions_of}
use Rattle.af_policy.specs.Views.{held_by}
use Rattle.af_policy.specs.Changes.{dag_synced, synced_unless, unknown_row}
use Rattle.af_policy.specs.Reads.{me_by, me_shown}
use Rattle.af_policy.specs.declared.me.Me.{Me}
use Rattle.af_policy.specs.declared.me_fault.MeFault.{MeFault}
use Rattle.af_policy.specs.Laws.{MeShowsGrants, SyncAddsNothingElsewhere, SyncIsExact}
use Rattle.af_policy.proofs.LawLemmas.{contains-with_pairs, or-none, sync-lists_exactly}
use Rattle.af_policy.proofs.NameLemmas.{list_any-map}
use Rattle.af_policy.proofs.RemovalLemmas.{find-passes}
use Rattle.af_policy.proofs.RoleLemmas.{sorted-with_pairs}
use Rattle.af_policy.proofs.SyncedRoleLemmas.{listed_other}
use Rattle.af_policy.proofs.ViewLemmas.{held_by-grants, role_lists-pairs_of}

-- ---- a sync

module _ (dag : List ℕ) (pair : PairRow) (other : is_about dag pair ≡ false) where
  same-kept : (pairs : List PairRow) → contains_pair (filter (λ p. not (is_about dag p)) pairs) pair ≡ contains_pair pairs pair
  same-kept [] = refl
  same-kept (x ∷ xs) = step (is_about dag x) (same_pair x pair) refl refl (same-kept xs)
    where
      step : (b s : Bool) → is_about dag x ≡ b → same_pair x pair ≡ s → contains_pair (filter (λ p. not (is_about dag p)) xs) pair ≡ contains_pair xs pair → contains_pair (cond (not b) (x ∷ filter (λ p. not (is_about dag p)) xs) (filter (λ p. not (is_about dag p)) xs)) pair ≡ (s || contains_pair xs pair)
      step true true is same later =
          let e : true ≡ false = sym is ∙ ap (is_about dag) ((same_pair-decides x pair).0 same) ∙ other
          in cc
      step true false is same later = later
      step false s is same later = (λ i. same i || later i)

  same-synced : (access : List AccessRow) (role : RoleRow) → lists (synced_role dag access role) pair ≡ lists role pair
  same-synced access role =
      contains-with_pairs pair (kept_pairs dag role) (listed_pairs dag access role.name)
      ∙ (λ i. listed_other dag role.name pair other access i || kept (is_admin_name role.name) i)
    where
      kept : (admin : Bool) → contains_pair (cond admin role.pairs (filter (λ p. not (is_about dag p)) role.pairs)) pair ≡ contains_pair role.pairs pair
      kept true = refl
      kept false = same-kept role.pairs

pub sync-adds_nothing_elsewhere : SyncAddsNothingElsewhere
sync-adds_nothing_elsewhere dag access role pair other = same-synced dag pair other access role

-- what is the same for each row of a name does not depend on the row
list_any-shared : {R : Type 0} (named : R → Bool) (b : Bool) (rows : List R) → list_any (λ row. named row && b) rows ≡ (list_any named rows && b)
list_any-shared named b [] = refl
list_any-shared named b (row ∷ rows) = ap (λ later. (named row && b) || later) (list_any-shared named b rows) ∙ step (named row) b (list_any named rows)
  where
    step : (x y z : Bool) → ((x && y) || (z && y)) ≡ ((x || z) && y)
    step true true z = refl
    step true false true = refl
    step true false false = refl
    step false y z = refl

module _ (dag : List ℕ) (access : List AccessRow) (name : List ℕ) (pair : PairRow) where
  role_lists-elsewhere : is_about dag pair ≡ false → (roles : List RoleRow) → role_lists (map (synced_role dag access) roles) name pair ≡ role_lists roles name pair
  role_lists-elsewhere other roles =
      list_any-map (λ role. same_name name role.name && lists role pair) (synced_role dag access) roles
      ∙ (λ i. list_any (λ role. same_name name role.name && same-synced dag pair other access role i) roles)

  role_lists-there : is_about dag pair ≡ true → is_admin_name name ≡ false → (roles : List RoleRow) → role_lists (map (synced_role dag access) roles) name pair ≡ (has_role roles name && contains_pair (listed_pairs dag access name) pair)
  role_lists-there about no_admin roles =
      list_any-map (λ role. same_name name role.name && lists role pair) (synced_role dag access) roles
      ∙ (λ i. list_any (λ role. each role (same_name name role.name) refl i) roles)
      ∙ list_any-shared (λ role. same_name name role.name) (contains_pair (listed_pairs dag access name) pair) roles
    where
      each : (role : RoleRow) (b : Bool) → same_name name role.name ≡ b → (b && lists (synced_role dag access role) pair) ≡ (b && contains_pair (listed_pairs dag access name) pair)
      each role false is = refl
      each role true is =
          let e : name ≡ role.name = (bytes_decides name role.name).0 is
          in sync-lists_exactly dag access role pair (ap is_admin_name (sym e) ∙ no_admin) about
          ∙ ap (λ n. contains_pair (listed_pairs dag access n) pair) (sym e)

abbrev Synced : PolicyRows → PolicyRows → List ℕ → List AccessRow → Type 0
Synced policy later dag access = record { users = policy.users; roles = map (synced_role dag access) policy.roles } ≡ later

synced-by : (policy later : PolicyRows) (dag : List ℕ) (access : List AccessRow) (bad unknown : Option (List ℕ)) → synced_unless policy dag access bad unknown ≡ Ok later → Synced policy later dag access
synced-by policy later dag access (Some text) unknown e = cc
synced-by policy later dag access None (Some name) e = cc
synced-by policy later dag access None None e = cc

pub sync-is_exact : SyncIsExact
sync-is_exact policy later input access name pair given e =
    let is : Synced policy later input.dag access =
    synced-by policy later input.dag access (bad_action access) (unknown_row policy.roles access)
    (ap (dag_synced policy input.dag) (sym given) ∙ e)
    in (
      ap (λ (p : PolicyRows). p.users) (sym is),
      λ other. ap (λ (p : PolicyRows). role_lists p.roles name pair) (sym is) ∙ role_lists-elsewhere input.dag access name pair other policy.roles,
      λ about no_admin. ap (λ (p : PolicyRows). role_lists p.roles name pair) (sym is) ∙ role_lists-there input.dag access name pair about no_admin policy.roles,
    )

-- ---- who am I

sorted-none : IsStrictlySortedBy pair_cmp []
unfolding IsStrictlySortedBy
sorted-none = tt

contains-listed_of : (roles : List RoleRow) (name : List ℕ) (pair : PairRow) → NamesAscend (role_names roles) → contains_pair (listed_of roles name) pair ≡ role_lists roles name pair
contains-listed_of roles name pair ascend = each (pairs_of roles name) ∙ sym (role_lists-pairs_of roles name pair ascend)
  where
    each : (o : Option (List PairRow)) → contains_pair (option_map_or (λ pairs. pairs) o []) pair ≡ option_map_or (λ pairs. contains_pair pairs pair) o false
    each None = refl
    each (Some pairs) = refl

contains-listed : (roles : List RoleRow) (names : List (List ℕ)) (pair : PairRow) → NamesAscend (role_names roles) → contains_pair (flat_map (listed_of roles) names) pair ≡ some_role_lists roles names pair
contains-listed roles [] pair ascend = refl
contains-listed roles (name ∷ names) pair ascend =
    list_any-append (λ own. same_pair own pair) (listed_of roles name) (flat_map (listed_of roles) names)
    ∙ (λ i. contains-listed_of roles name pair ascend i || contains-listed roles names pair ascend i)

contains-permissions_of : (roles : List RoleRow) (names : List (List ℕ)) (pair : PairRow) → NamesAscend (role_names roles) → contains_pair (permissions_of roles names) pair ≡ some_role_lists roles names pair
contains-permissions_of roles names pair ascend =
    contains-with_pairs pair [] (flat_map (listed_of roles) names)
    ∙ or-none (contains_pair (flat_map (listed_of roles) names) pair)
    ∙ contains-listed roles names pair ascend

module _ (policy : PolicyRows) (me : Me) (is : IsPolicy policy) where
  shown : (name : List ℕ) (found : Option UserRow) → found_user policy.users name ≡ found → me_shown policy found ≡ Ok me → (me.user.name ≡ name) × ((pair : PairRow) → contains_pair me.permissions pair ≡ grants policy name pair) × IsStrictlySortedBy pair_cmp me.permissions
  shown name None finds e = cc
  shown name (Some user) finds e =
      let told : permissions_of policy.roles user.roles ≡ me.permissions = own e
      in (
        sym (named e) ∙ sym ((bytes_decides name user.name).0 (find-passes (λ (u : UserRow). same_name name u.name) policy.users user finds)),
        λ pair. ap (λ pairs. contains_pair pairs pair) (sym told)
            ∙ contains-permissions_of policy.roles user.roles pair is.role_names_ascend
            ∙ ap (λ found. held_by policy.roles (option_map (λ (u : UserRow). u.roles) found) pair) (sym finds)
            ∙ held_by-grants policy.users policy.roles name pair is.user_names_ascend,
        subst (IsStrictlySortedBy pair_cmp) told (sorted-with_pairs [] (flat_map (listed_of policy.roles) user.roles) sorted-none),
      )
    where
      permissions : Result Me MeFault → List PairRow
      permissions (Ok m) = m.permissions
      permissions (Err fault) = []

      own : me_shown policy (Some user) ≡ Ok me → permissions_of policy.roles user.roles ≡ me.permissions
      own e = ap permissions e

      user_name : Result Me MeFault → List ℕ
      user_name (Ok m) = m.user.name
      user_name (Err fault) = []

      named : me_shown policy (Some user) ≡ Ok me → user.name ≡ me.user.name
      named e = ap user_name e

  by_bearer : (bearer : Option (List ℕ)) → me_by policy bearer ≡ Ok me → (name : List ℕ) × (bearer ≡ Some name) × (me.user.name ≡ name) × ((pair : PairRow) → contains_pair me.permissions pair ≡ grants policy name pair) × IsStrictlySortedBy pair_cmp me.permissions
  by_bearer None e = cc
  by_bearer (Some name) e =
      let all = shown name (found_user policy.users name) refl e
      in (name, refl, all.0, all.1, all.2)

pub me-shows_grants : MeShowsGrants
me-shows_grants policy token me is e = by_bearer policy me is (bearer_of policy token) e
