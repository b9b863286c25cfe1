-- What changes leave, in the subject's own words.
use Rattle.std.proofs.Common.{◌≡◌, ℕ, List, [], ◌∷◌, Bool, true, false, not, ◌||◌, nat_le, cond, length, map, Option, Some, None, Result, Ok, Err, refl, sym, ap, ◌∙◌}
use Rattle.std.specs.List.{filter}
use Rattle.std.specs.Ordering.{match_ordering, is_eq}
use Rattle.std.specs.declared.cmp.Ordering.{Ordering}
use Rattle.std.specs.declared.cmp.Ordering.TheVariants.{Less, Equal, Greater}
use Rattle.af_role.specs.Pairs.{PairRow, pair_cmp, same_pair, same_pair-ties, with_pair, with_pairs}
use Rattle.af_role.specs.Roles.{RoleRow, contains_pair}
use Rattle.af_role.specs.PairTexts.{pairs_read}
use Rattle.af_role.specs.Access.{bad_action, is_about, is_admin_name, kept_pairs, listed_pairs, synced_role}
use Rattle.af_role.specs.declared.access.AccessRow.{AccessRow}
use Rattle.af_role.specs.declared.pair_fault.PairFault.{PairFault}
use Rattle.af_role.proofs.PairLemmas.{same_pair-decides}
use Rattle.af_policy.specs.declared.change.Change.TheVariants.{AddRole, SetRole, DropRole, AddUser, SetUser, DropUser, SyncDag}
use Rattle.af_policy.specs.declared.change.UserPatch.{UserPatch}
use Rattle.af_policy.specs.declared.change_fault.ChangeFault.{ChangeFault}
use Rattle.af_policy.specs.declared.change_fault.ChangeFault.TheVariants.{NoSuchRole, DefaultRole, Exists, RoleInUse, LastAdmin, TooMany}
use Rattle.af_policy.specs.Rows.{PolicyRows, UserRow, found_user, has_admin, has_digest, has_role, has_user, most_roles, most_users, role_in_use, with_role, with_user, without_role, without_user}
use Rattle.af_policy.specs.Changes.{after_pairs, dag_synced, is_anothers, is_default, new_user, patched, replaced, role_added, role_set, synced_unless, unknown_given, unknown_role, unknown_row, unless_unknown, user_gone, user_patched}
use Rattle.af_policy.specs.Laws.{SomeAdminStays, SyncKeepsTheRest, SyncListsExactly, UsedRolesStay}
use Rattle.af_policy.proofs.ChangeLemmas.{has_admin-with_user}
use Rattle.af_policy.proofs.UserLemmas.{or-false_left}

-- ---- permissions put into a set

or-twice : (a b : Bool) → (a || b) ≡ (a || (a || b))
or-twice true b = refl
or-twice false b = refl

or-exchange : (a b c : Bool) → (a || (b || c)) ≡ (b || (a || c))
or-exchange true true c = refl
or-exchange true false c = refl
or-exchange false b c = refl

or-regroup : (a b c : Bool) → (a || (b || c)) ≡ ((b || a) || c)
or-regroup true true c = refl
or-regroup true false c = refl
or-regroup false true c = refl
or-regroup false false c = refl

pub or-none : (b : Bool) → (b || false) ≡ b
or-none true = refl
or-none false = refl

or-some : (b : Bool) → (b || true) ≡ true
or-some true = refl
or-some false = refl

pub tied : (k x : PairRow) → pair_cmp k x ≡ Equal → k ≡ x
tied k x is = (same_pair-decides k x).0 (same_pair-ties k x ∙ ap is_eq is)

contains-with_pair : (k pair : PairRow) (pairs : List PairRow) → contains_pair (with_pair pairs k) pair ≡ (same_pair k pair || contains_pair pairs pair)
contains-with_pair k pair [] = refl
contains-with_pair k pair (x ∷ xs) = step (pair_cmp k x) refl (contains-with_pair k pair xs)
  where
    step : (o : Ordering) → pair_cmp k x ≡ o → contains_pair (with_pair xs k) pair ≡ (same_pair k pair || contains_pair xs pair) → contains_pair (match_ordering o (k ∷ x ∷ xs) (x ∷ xs) (x ∷ with_pair xs k)) pair ≡ (same_pair k pair || (same_pair x pair || contains_pair xs pair))
    step Less is later = refl
    step Equal is later =
        or-twice (same_pair x pair) (contains_pair xs pair)
        ∙ ap (λ y. same_pair y pair || (same_pair x pair || contains_pair xs pair)) (sym (tied k x is))
    step Greater is later = ap (λ b. same_pair x pair || b) later ∙ or-exchange (same_pair x pair) (same_pair k pair) (contains_pair xs pair)

pub contains-with_pairs : (pair : PairRow) (pairs more : List PairRow) → contains_pair (with_pairs pairs more) pair ≡ (contains_pair more pair || contains_pair pairs pair)
contains-with_pairs pair pairs [] = refl
contains-with_pairs pair pairs (k ∷ ks) =
    contains-with_pairs pair (with_pair pairs k) ks
    ∙ ap (λ b. contains_pair ks pair || b) (contains-with_pair k pair pairs)
    ∙ or-regroup (contains_pair ks pair) (same_pair k pair) (contains_pair pairs pair)

-- what is about that DAG alone is not among the others
pub contains-others : (dag : List ℕ) (pair : PairRow) → is_about dag pair ≡ true → (pairs : List PairRow) → contains_pair (filter (λ p. not (is_about dag p)) pairs) pair ≡ false
contains-others dag pair about [] = refl
contains-others dag pair about (x ∷ xs) = step (is_about dag x) (same_pair x pair) refl refl (contains-others dag pair about xs)
  where
    step : (b s : Bool) → is_about dag x ≡ b → same_pair x pair ≡ s → contains_pair (filter (λ p. not (is_about dag p)) xs) pair ≡ false → contains_pair (cond (not b) (x ∷ filter (λ p. not (is_about dag p)) xs) (filter (λ p. not (is_about dag p)) xs)) pair ≡ false
    step true s is same later = later
    step false false is same later = (λ i. same i || later i)
    step false true is same later =
        let e : true ≡ false = sym about ∙ ap (is_about dag) (sym ((same_pair-decides x pair).0 same)) ∙ is
        in cc

-- no permission about that DAG is one that is not
pub about_alone : (dag : List ℕ) (pair : PairRow) → is_about dag pair ≡ false → (own : PairRow) → is_about dag own ≡ true → same_pair own pair ≡ false
about_alone dag pair other own about = step (same_pair own pair) refl
  where
    step : (b : Bool) → same_pair own pair ≡ b → same_pair own pair ≡ false
    step false is = is
    step true is =
        let e : true ≡ false = sym about ∙ ap (is_about dag) ((same_pair-decides own pair).0 is) ∙ other
        in cc

-- what is not about it is among the others where it is among all
pub contains-rest : (dag : List ℕ) (pair : PairRow) → is_about dag pair ≡ false → (pairs : List PairRow) → contains_pair (filter (λ p. not (is_about dag p)) pairs) pair ≡ contains_pair pairs pair
contains-rest dag pair other [] = refl
contains-rest dag pair other (x ∷ xs) = step (is_about dag x) refl (contains-rest dag pair other xs)
  where
    step : (b : Bool) → is_about dag x ≡ b → contains_pair (filter (λ p. not (is_about dag p)) xs) pair ≡ contains_pair xs pair → contains_pair (cond (not b) (x ∷ filter (λ p. not (is_about dag p)) xs) (filter (λ p. not (is_about dag p)) xs)) pair ≡ (same_pair x pair || contains_pair xs pair)
    step true is later = later ∙ sym (ap (λ b. b || contains_pair xs pair) (about_alone dag pair other x is))
    step false is later = ap (λ b. same_pair x pair || b) later

pub sync-lists_exactly : SyncListsExactly
sync-lists_exactly dag access role pair no_admin about =
    contains-with_pairs pair (kept_pairs dag role) (listed_pairs dag access role.name)
    ∙ ap (λ b. contains_pair (listed_pairs dag access role.name) pair || b)
    (ap (λ b. contains_pair (cond b role.pairs (filter (λ p. not (is_about dag p)) role.pairs)) pair) no_admin ∙ contains-others dag pair about role.pairs)
    ∙ or-none (contains_pair (listed_pairs dag access role.name) pair)

pub sync-keeps_the_rest : SyncKeepsTheRest
sync-keeps_the_rest dag access role pair other has =
    contains-with_pairs pair (kept_pairs dag role) (listed_pairs dag access role.name)
    ∙ ap (λ b. contains_pair (listed_pairs dag access role.name) pair || b) (kept (is_admin_name role.name) (is_about dag pair) refl other)
    ∙ or-some (contains_pair (listed_pairs dag access role.name) pair)
  where
    kept : (admin about : Bool) → is_about dag pair ≡ about → (admin || not about) ≡ true → contains_pair (cond admin role.pairs (filter (λ p. not (is_about dag p)) role.pairs)) pair ≡ true
    kept true about is e = has
    kept false true is e = cc
    kept false false is e = contains-rest dag pair is role.pairs ∙ has

-- ---- changes

pub unless : {A F : Type 0} (b : Bool) (fault : F) (comes : Result A F) (later : A) → cond b (Err fault) comes ≡ Ok later → (b ≡ false) × (comes ≡ Ok later)
unless true fault comes later e = cc
unless false fault comes later e = (refl, e)

pub not-false : (b : Bool) → not b ≡ false → b ≡ true
not-false true e = refl
not-false false e = cc

abbrev pub okay : PolicyRows → Result PolicyRows ChangeFault
okay policy = Ok policy

module _ (policy later : PolicyRows) (admin : has_admin policy.users ≡ true) where
  same_users : (roles : List RoleRow) → okay (record { users = policy.users; roles = roles }) ≡ Ok later → has_admin later.users ≡ true
  same_users roles e =
      let is : record { users = policy.users; roles = roles } ≡ later = cc
      in ap (λ (p : PolicyRows). has_admin p.users) (sym is) ∙ admin

  other_users : (users : List UserRow) → has_admin users ≡ true → okay (record { users = users; roles = policy.roles }) ≡ Ok later → has_admin later.users ≡ true
  other_users users some e =
      let is : record { users = users; roles = policy.roles } ≡ later = cc
      in ap (λ (p : PolicyRows). has_admin p.users) (sym is) ∙ some

  by_added : (name : List ℕ) (read : Result (List PairRow) PairFault) → after_pairs read (role_added policy name) ≡ Ok later → has_admin later.users ≡ true
  by_added name (Err fault) e = cc
  by_added name (Ok pairs) e =
      let free = unless (has_role policy.roles name) Exists (cond (nat_le most_roles (length policy.roles)) (Err TooMany) (Ok (record { users = policy.users; roles = with_role policy.roles (record { name = name; pairs = pairs }) }))) later e
      in let room = unless (nat_le most_roles (length policy.roles)) TooMany (Ok (record { users = policy.users; roles = with_role policy.roles (record { name = name; pairs = pairs }) })) later free.1
      in same_users (with_role policy.roles (record { name = name; pairs = pairs })) room.1

  by_set : (name : List ℕ) (read : Result (List PairRow) PairFault) → after_pairs read (role_set policy name) ≡ Ok later → has_admin later.users ≡ true
  by_set name (Err fault) e = cc
  by_set name (Ok pairs) e =
      let there = unless (not (has_role policy.roles name)) NoSuchRole (cond (is_default name) (Err DefaultRole) (Ok (record { users = policy.users; roles = with_role policy.roles (record { name = name; pairs = pairs }) }))) later e
      in let own = unless (is_default name) DefaultRole (Ok (record { users = policy.users; roles = with_role policy.roles (record { name = name; pairs = pairs }) })) later there.1
      in same_users (with_role policy.roles (record { name = name; pairs = pairs })) own.1

  by_new : (user : UserRow) (unknown : Option (List ℕ)) → unless_unknown unknown (new_user policy user) ≡ Ok later → has_admin later.users ≡ true
  by_new user (Some name) e = cc
  by_new user None e =
      let free = unless (has_user policy.users user.name || has_digest policy.users user.digest) Exists (cond (nat_le most_users (length policy.users)) (Err TooMany) (Ok (record { users = with_user policy.users user; roles = policy.roles }))) later e
      in let room = unless (nat_le most_users (length policy.users)) TooMany (Ok (record { users = with_user policy.users user; roles = policy.roles })) later free.1
      in other_users (with_user policy.users user) (has_admin-with_user user policy.users (or-false_left (has_user policy.users user.name) (has_digest policy.users user.digest) free.0) admin) room.1

  by_patch : (patch : UserPatch) (unknown : Option (List ℕ)) (found : Option UserRow) → unless_unknown unknown (user_patched policy patch found) ≡ Ok later → has_admin later.users ≡ true
  by_patch patch (Some name) found e = cc
  by_patch patch None None e = cc
  by_patch patch None (Some user) e =
      let own = unless (is_anothers policy.users patch.name patch.digest) Exists (cond (not (has_admin (replaced policy.users (patched patch user)))) (Err LastAdmin) (Ok (record { users = replaced policy.users (patched patch user); roles = policy.roles }))) later e
      in let some = unless (not (has_admin (replaced policy.users (patched patch user)))) LastAdmin (Ok (record { users = replaced policy.users (patched patch user); roles = policy.roles })) later own.1
      in other_users (replaced policy.users (patched patch user)) (not-false (has_admin (replaced policy.users (patched patch user))) some.0) some.1

  by_drop : (name : List ℕ) (found : Option UserRow) → user_gone policy name found ≡ Ok later → has_admin later.users ≡ true
  by_drop name None e = cc
  by_drop name (Some user) e =
      let some = unless (not (has_admin (without_user policy.users name))) LastAdmin (Ok (record { users = without_user policy.users name; roles = policy.roles })) later e
      in other_users (without_user policy.users name) (not-false (has_admin (without_user policy.users name)) some.0) some.1

  by_sync_unless : (dag : List ℕ) (access : List AccessRow) (bad unknown : Option (List ℕ)) → synced_unless policy dag access bad unknown ≡ Ok later → has_admin later.users ≡ true
  by_sync_unless dag access (Some text) unknown e = cc
  by_sync_unless dag access None (Some name) e = cc
  by_sync_unless dag access None None e = same_users (map (synced_role dag access) policy.roles) e

  by_sync : (dag : List ℕ) (access : Option (List AccessRow)) → dag_synced policy dag access ≡ Ok later → has_admin later.users ≡ true
  by_sync dag None e = same_users policy.roles e
  by_sync dag (Some access) e = by_sync_unless dag access (bad_action access) (unknown_row policy.roles access) e

pub used_roles-stay : UsedRolesStay
used_roles-stay policy later name e =
    let gone : Result PolicyRows ChangeFault = Ok (record { users = policy.users; roles = without_role policy.roles name })
    in let there = unless (not (has_role policy.roles name)) NoSuchRole (cond (is_default name) (Err DefaultRole) (cond (role_in_use policy.users name) (Err RoleInUse) gone)) later e
    in let own = unless (is_default name) DefaultRole (cond (role_in_use policy.users name) (Err RoleInUse) gone) later there.1
    in let free = unless (role_in_use policy.users name) RoleInUse gone later own.1
    in (free.0, own.0, not-false (has_role policy.roles name) there.0)

pub some_admin-stays : SomeAdminStays
some_admin-stays policy later (AddRole input) admin e = by_added policy later admin input.name (pairs_read input.actions) e
some_admin-stays policy later (SetRole input) admin e = by_set policy later admin input.name (pairs_read input.actions) e
some_admin-stays policy later (DropRole name) admin e =
    let gone : Result PolicyRows ChangeFault = Ok (record { users = policy.users; roles = without_role policy.roles name })
    in let there = unless (not (has_role policy.roles name)) NoSuchRole (cond (is_default name) (Err DefaultRole) (cond (role_in_use policy.users name) (Err RoleInUse) gone)) later e
    in let own = unless (is_default name) DefaultRole (cond (role_in_use policy.users name) (Err RoleInUse) gone) later there.1
    in let free = unless (role_in_use policy.users name) RoleInUse gone later own.1
    in same_users policy later admin (without_role policy.roles name) free.1
some_admin-stays policy later (AddUser user) admin e = by_new policy later admin user (unknown_role policy.roles user.roles) e
some_admin-stays policy later (SetUser patch) admin e = by_patch policy later admin patch (unknown_given policy.roles patch.roles) (found_user policy.users patch.name) e
some_admin-stays policy later (DropUser name) admin e = by_drop policy later admin name (found_user policy.users name) e
some_admin-stays policy later (SyncDag access) admin e = by_sync policy later admin access.dag access.access e
