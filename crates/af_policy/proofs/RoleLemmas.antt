-- The permissions of roles stay in their order, whatever is put in, taken out or taken over.
use Rattle.std.proofs.Common.{◌≡◌, ℕ, List, [], ◌∷◌, Bool, true, false, not, cond, map, refl, ap, ◌∙◌}
use Rattle.std.specs.List.{AllByRecursion, filter}
use Rattle.std.specs.List.Sorted.{IsStrictlySortedBy}
use Rattle.std.specs.Ordering.{match_ordering, nat_cmp, ordering_reverse}
use Rattle.std.specs.declared.cmp.Ordering.{Ordering}
use Rattle.std.specs.declared.cmp.Ordering.TheVariants.{Less, Equal, Greater}
use Rattle.std.specs.Cmp.Lexicographic.{slice_cmp}
use Rattle.std.proofs.lemmas.List.Kept.{IsStrictlySortedBy-filter}
use Rattle.af_role.specs.declared.access.AccessRow.{AccessRow}
use Rattle.af_role.specs.Access.{is_about, is_admin_name, kept_pairs, listed_pairs, synced_role}
use Rattle.af_role.specs.Pairs.{PairRow, pair_cmp, with_pair, with_pairs}
use Rattle.af_role.specs.Roles.{RoleRow}
use Rattle.af_role.proofs.AccessLemmas.{pair_total}
use Rattle.af_policy.specs.Rows.{PermissionsAscend, same_name, with_role, without_role}

-- ---- permissions put among others

all-insert : (P : PairRow → Type 0) (k : PairRow) (xs : List PairRow) → P k → AllByRecursion P xs → AllByRecursion P (with_pair xs k)
all-insert P k [] one all = (one, tt)
all-insert P k (x ∷ xs) one all = step (pair_cmp k x) (all-insert P k xs one all.1)
  where
    step : (o : Ordering) → AllByRecursion P (with_pair xs k) → AllByRecursion P (match_ordering o (k ∷ x ∷ xs) (x ∷ xs) (x ∷ with_pair xs k))
    step Less later = (one, all)
    step Equal later = all
    step Greater later = (all.0, later)

pub all-above : (k x : PairRow) → pair_cmp k x ≡ Less → (xs : List PairRow) → AllByRecursion (λ y. pair_cmp x y ≡ Less) xs → AllByRecursion (λ y. pair_cmp k y ≡ Less) xs
all-above k x below [] all = tt
all-above k x below (y ∷ ys) all = (pair_total.trans k x y below all.0, all-above k x below ys all.1)

sorted-with_pair : (xs : List PairRow) (k : PairRow) → IsStrictlySortedBy pair_cmp xs → IsStrictlySortedBy pair_cmp (with_pair xs k)
unfolding IsStrictlySortedBy
sorted-with_pair [] k s = (tt, tt)
sorted-with_pair (x ∷ xs) k s = step (pair_cmp k x) refl (sorted-with_pair xs k s.1)
  where
    step : (o : Ordering) → pair_cmp k x ≡ o → IsStrictlySortedBy pair_cmp (with_pair xs k) → IsStrictlySortedBy pair_cmp (match_ordering o (k ∷ x ∷ xs) (x ∷ xs) (x ∷ with_pair xs k))
    step Less e later = ((e, all-above k x e xs s.0), s)
    step Equal e later = s
    step Greater e later = (all-insert (λ y. pair_cmp x y ≡ Less) k xs (pair_total.antisymm x k ∙ ap ordering_reverse e) s.0, later)

pub sorted-with_pairs : (xs more : List PairRow) → IsStrictlySortedBy pair_cmp xs → IsStrictlySortedBy pair_cmp (with_pairs xs more)
sorted-with_pairs xs [] s = s
sorted-with_pairs xs (k ∷ ks) s = sorted-with_pairs (with_pair xs k) ks (sorted-with_pair xs k s)

-- ---- each role of a policy

pub ordered-with_role : (role : RoleRow) (roles : List RoleRow) → PermissionsAscend role → AllByRecursion PermissionsAscend roles → AllByRecursion PermissionsAscend (with_role roles role)
ordered-with_role role [] one all = (one, tt)
ordered-with_role role (x ∷ xs) one all = step (slice_cmp nat_cmp role.name x.name) (ordered-with_role role xs one all.1)
  where
    step : (o : Ordering) → AllByRecursion PermissionsAscend (with_role xs role) → AllByRecursion PermissionsAscend (match_ordering o (role ∷ x ∷ xs) (role ∷ xs) (x ∷ with_role xs role))
    step Less later = (one, all)
    step Equal later = (one, all.1)
    step Greater later = (all.0, later)

pub ordered-without_role : (name : List ℕ) (roles : List RoleRow) → AllByRecursion PermissionsAscend roles → AllByRecursion PermissionsAscend (without_role roles name)
ordered-without_role name [] all = tt
ordered-without_role name (x ∷ xs) all = step (same_name name x.name) (ordered-without_role name xs all.1)
  where
    step : (b : Bool) → AllByRecursion PermissionsAscend (without_role xs name) → AllByRecursion PermissionsAscend (cond (not b) (x ∷ without_role xs name) (without_role xs name))
    step true later = later
    step false later = (all.0, later)

-- a role after a sync: of what it keeps, and what comes
pub ordered-synced_role : (dag : List ℕ) (access : List AccessRow) (role : RoleRow) → PermissionsAscend role → PermissionsAscend (synced_role dag access role)
ordered-synced_role dag access role ascend = sorted-with_pairs (kept_pairs dag role) (listed_pairs dag access role.name) (kept (is_admin_name role.name))
  where
    kept : (admin : Bool) → IsStrictlySortedBy pair_cmp (cond admin role.pairs (filter (λ pair. not (is_about dag pair)) role.pairs))
    kept true = ascend
    kept false = IsStrictlySortedBy-filter pair_cmp (λ pair. not (is_about dag pair)) role.pairs ascend

pub ordered-synced : (dag : List ℕ) (access : List AccessRow) (roles : List RoleRow) → AllByRecursion PermissionsAscend roles → AllByRecursion PermissionsAscend (map (synced_role dag access) roles)
ordered-synced dag access [] all = tt
ordered-synced dag access (x ∷ xs) all = (ordered-synced_role dag access x all.0, ordered-synced dag access xs all.1)
