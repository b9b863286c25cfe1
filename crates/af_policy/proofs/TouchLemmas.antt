-- What a change leaves as it is, and who may make it.
use Rattle.std.proofs.Common.{◌≡◌, ℕ, List, [], false, not, ◌||◌, nat_le, cond, length, Option, Some, None, Result, Ok, Err, refl, sym, ap, subst, ◌∙◌}
use Rattle.std.specs.Cmp.Lexicographic.{bytes_decides, nat_list_eq_equiv}
use Rattle.sha2.specs.Sha256.{sha256}
use Rattle.af_role.specs.declared.need.Need.{Need}
use Rattle.af_role.specs.declared.pair_fault.PairFault.{PairFault}
use Rattle.af_role.specs.Pairs.{PairRow}
use Rattle.af_role.specs.Roles.{RoleRow}
use Rattle.af_role.specs.PairTexts.{pairs_read}
use Rattle.af_policy.specs.declared.change.Change.TheVariants.{AddRole, SetRole, DropRole, AddUser, SetUser, DropUser, SyncDag}
use Rattle.af_policy.specs.declared.change.UserPatch.{UserPatch}
use Rattle.af_policy.specs.declared.change_fault.ChangeFault.{ChangeFault}
use Rattle.af_policy.specs.declared.change_fault.ChangeFault.TheVariants.{NoSuchRole, DefaultRole, Exists, RoleInUse, LastAdmin, TooMany}
use Rattle.af_policy.specs.declared.ask.Ask.{Ask}
use Rattle.af_policy.specs.Rows.{PolicyRows, UserRow, found_user, has_admin, has_digest, has_role, has_user, most_roles, most_users, role_in_use, same_name, with_role, with_user, without_role, without_user}
use Rattle.af_policy.specs.Changes.{after_pairs, is_anothers, is_default, needs_of, new_user, patched, replaced, role_added, role_dropped, role_set, unknown_given, unknown_role, unless_unknown, user_gone, user_patched}
use Rattle.af_policy.specs.Tables.{found_role}
use Rattle.af_policy.specs.Identity.{bearer_of, digest_user}
use Rattle.af_policy.specs.Grants.{missing}
use Rattle.af_policy.specs.Versions.{asked_by, asked_kind, unless_lacked}
use Rattle.af_policy.specs.Laws.{DefaultRolesStay, LackDecides, OneRoleIsTouched, OneUserIsTouched, RemovedTokenIsNobodys}
use Rattle.af_policy.proofs.FoundLemmas.{found_with, found_without}
use Rattle.af_policy.proofs.LawLemmas.{okay, unless}
use Rattle.af_policy.proofs.RemovalLemmas.{digest_user-without_user}

-- ---- another user

module _ (policy later : PolicyRows) (other : List ℕ) where
  users_to : (users : List UserRow) → found_user users other ≡ found_user policy.users other → okay (record { users = users; roles = policy.roles }) ≡ Ok later → (later.roles ≡ policy.roles) × (found_user later.users other ≡ found_user policy.users other)
  users_to users same e =
      let is : record { users = users; roles = policy.roles } ≡ later = cc
      in (ap (λ (p : PolicyRows). p.roles) (sym is), ap (λ (p : PolicyRows). found_user p.users other) (sym is) ∙ same)

  put_aside : (row : UserRow) (users : List UserRow) → same_name row.name other ≡ false → found_user (with_user users row) other ≡ found_user users other
  put_aside row users apart =
      found_with (λ user. user.name) row users other
      ∙ ap (λ b. cond b (Some row) (found_user users other)) (nat_list_eq_equiv.symm other row.name ∙ apart)

  taken_aside : (name : List ℕ) (users : List UserRow) → same_name name other ≡ false → found_user (without_user users name) other ≡ found_user users other
  taken_aside name users apart =
      found_without (λ user. user.name) name users other ∙ ap (λ b. cond b None (found_user users other)) apart

  by_new : (user : UserRow) (unknown : Option (List ℕ)) → same_name user.name other ≡ false → unless_unknown unknown (new_user policy user) ≡ Ok later → (later.roles ≡ policy.roles) × (found_user later.users other ≡ found_user policy.users other)
  by_new user (Some name) apart e = cc
  by_new user None apart e =
      let free = unless (has_user policy.users user.name || has_digest policy.users user.digest) Exists (cond (nat_le most_users (length policy.users)) (Err TooMany) (Ok (record { users = with_user policy.users user; roles = policy.roles }))) later e
      in let room = unless (nat_le most_users (length policy.users)) TooMany (Ok (record { users = with_user policy.users user; roles = policy.roles })) later free.1
      in users_to (with_user policy.users user) (put_aside user policy.users apart) room.1

  by_patch : (patch : UserPatch) (unknown : Option (List ℕ)) (found : Option UserRow) → same_name patch.name other ≡ false → unless_unknown unknown (user_patched policy patch found) ≡ Ok later → (later.roles ≡ policy.roles) × (found_user later.users other ≡ found_user policy.users other)
  by_patch patch (Some name) found apart e = cc
  by_patch patch None None apart e = cc
  by_patch patch None (Some user) apart e =
      let own = unless (is_anothers policy.users patch.name patch.digest) Exists (cond (not (has_admin (replaced policy.users (patched patch user)))) (Err LastAdmin) (Ok (record { users = replaced policy.users (patched patch user); roles = policy.roles }))) later e
      in let some = unless (not (has_admin (replaced policy.users (patched patch user)))) LastAdmin (Ok (record { users = replaced policy.users (patched patch user); roles = policy.roles })) later own.1
      in users_to (replaced policy.users (patched patch user)) (put_aside (patched patch user) (without_user policy.users patch.name) apart ∙ taken_aside patch.name policy.users apart) some.1

  by_drop : (name : List ℕ) (found : Option UserRow) → same_name name other ≡ false → user_gone policy name found ≡ Ok later → (later.roles ≡ policy.roles) × (found_user later.users other ≡ found_user policy.users other)
  by_drop name None apart e = cc
  by_drop name (Some user) apart e =
      let some = unless (not (has_admin (without_user policy.users name))) LastAdmin (Ok (record { users = without_user policy.users name; roles = policy.roles })) later e
      in users_to (without_user policy.users name) (taken_aside name policy.users apart) some.1

same_some : (a b : List ℕ) → (Some a) ≡ (Some b) → a ≡ b
same_some a b e = cc

pub one_user-touched : OneUserIsTouched
one_user-touched policy later (AddRole input) name other is apart e = cc
one_user-touched policy later (SetRole input) name other is apart e = cc
one_user-touched policy later (DropRole gone) name other is apart e = cc
one_user-touched policy later (SyncDag access) name other is apart e = cc
one_user-touched policy later (AddUser user) name other is apart e =
    by_new policy later other user (unknown_role policy.roles user.roles) (ap (λ n. same_name n other) (same_some user.name name is) ∙ apart) e
one_user-touched policy later (SetUser patch) name other is apart e =
    by_patch policy later other patch (unknown_given policy.roles patch.roles) (found_user policy.users patch.name) (ap (λ n. same_name n other) (same_some patch.name name is) ∙ apart) e
one_user-touched policy later (DropUser gone) name other is apart e =
    by_drop policy later other gone (found_user policy.users gone) (ap (λ n. same_name n other) (same_some gone name is) ∙ apart) e

-- ---- another role

module _ (policy later : PolicyRows) where
  pub added : (name : List ℕ) (read : Result (List PairRow) PairFault) → after_pairs read (role_added policy name) ≡ Ok later → (has_role policy.roles name ≡ false) × ((pairs : List PairRow) × (okay (record { users = policy.users; roles = with_role policy.roles (record { name = name; pairs = pairs }) }) ≡ Ok later))
  added name (Err fault) e = cc
  added name (Ok pairs) e =
      let free = unless (has_role policy.roles name) Exists (cond (nat_le most_roles (length policy.roles)) (Err TooMany) (Ok (record { users = policy.users; roles = with_role policy.roles (record { name = name; pairs = pairs }) }))) later e
      in let room = unless (nat_le most_roles (length policy.roles)) TooMany (Ok (record { users = policy.users; roles = with_role policy.roles (record { name = name; pairs = pairs }) })) later free.1
      in (free.0, (pairs, room.1))

  pub is_set : (name : List ℕ) (read : Result (List PairRow) PairFault) → after_pairs read (role_set policy name) ≡ Ok later → (is_default name ≡ false) × ((pairs : List PairRow) × (okay (record { users = policy.users; roles = with_role policy.roles (record { name = name; pairs = pairs }) }) ≡ Ok later))
  is_set name (Err fault) e = cc
  is_set name (Ok pairs) e =
      let there = unless (not (has_role policy.roles name)) NoSuchRole (cond (is_default name) (Err DefaultRole) (Ok (record { users = policy.users; roles = with_role policy.roles (record { name = name; pairs = pairs }) }))) later e
      in let own = unless (is_default name) DefaultRole (Ok (record { users = policy.users; roles = with_role policy.roles (record { name = name; pairs = pairs }) })) later there.1
      in (own.0, (pairs, own.1))

  pub added_of : (name : List ℕ) (pairs : List PairRow) (read : Result (List PairRow) PairFault) → read ≡ Ok pairs → after_pairs read (role_added policy name) ≡ Ok later → okay (record { users = policy.users; roles = with_role policy.roles (record { name = name; pairs = pairs }) }) ≡ Ok later
  unfolding added
  added_of name pairs (Err fault) is e = cc
  added_of name pairs (Ok others) is e =
      let same : others ≡ pairs = cc
      in subst (λ own. okay (record { users = policy.users; roles = with_role policy.roles (record { name = name; pairs = own }) }) ≡ Ok later) same (added name (Ok others) e).1.1

  pub set_of : (name : List ℕ) (pairs : List PairRow) (read : Result (List PairRow) PairFault) → read ≡ Ok pairs → after_pairs read (role_set policy name) ≡ Ok later → okay (record { users = policy.users; roles = with_role policy.roles (record { name = name; pairs = pairs }) }) ≡ Ok later
  unfolding is_set
  set_of name pairs (Err fault) is e = cc
  set_of name pairs (Ok others) is e =
      let same : others ≡ pairs = cc
      in subst (λ own. okay (record { users = policy.users; roles = with_role policy.roles (record { name = name; pairs = own }) }) ≡ Ok later) same (is_set name (Ok others) e).1.1

  roles_to : (other : List ℕ) (roles : List RoleRow) → found_role roles other ≡ found_role policy.roles other → okay (record { users = policy.users; roles = roles }) ≡ Ok later → (later.users ≡ policy.users) × (found_role later.roles other ≡ found_role policy.roles other)
  roles_to other roles same e =
      let is : record { users = policy.users; roles = roles } ≡ later = cc
      in (ap (λ (p : PolicyRows). p.users) (sym is), ap (λ (p : PolicyRows). found_role p.roles other) (sym is) ∙ same)

  role_aside : (other : List ℕ) (row : RoleRow) → same_name row.name other ≡ false → okay (record { users = policy.users; roles = with_role policy.roles row }) ≡ Ok later → (later.users ≡ policy.users) × (found_role later.roles other ≡ found_role policy.roles other)
  role_aside other row apart e =
      roles_to other (with_role policy.roles row)
      (found_with (λ role. role.name) row policy.roles other ∙ ap (λ b. cond b (Some row) (found_role policy.roles other)) (nat_list_eq_equiv.symm other row.name ∙ apart))
      e

  role_gone : (other name : List ℕ) → same_name name other ≡ false → role_dropped policy name ≡ Ok later → (later.users ≡ policy.users) × (found_role later.roles other ≡ found_role policy.roles other)
  role_gone other name apart e =
      let gone : Result PolicyRows ChangeFault = Ok (record { users = policy.users; roles = without_role policy.roles name })
      in let there = unless (not (has_role policy.roles name)) NoSuchRole (cond (is_default name) (Err DefaultRole) (cond (role_in_use policy.users name) (Err RoleInUse) gone)) later e
      in let own = unless (is_default name) DefaultRole (cond (role_in_use policy.users name) (Err RoleInUse) gone) later there.1
      in let free = unless (role_in_use policy.users name) RoleInUse gone later own.1
      in roles_to other (without_role policy.roles name)
      (found_without (λ role. role.name) name policy.roles other ∙ ap (λ b. cond b None (found_role policy.roles other)) apart)
      free.1

pub one_role-touched : OneRoleIsTouched
one_role-touched policy later (AddUser user) name other is apart e = cc
one_role-touched policy later (SetUser patch) name other is apart e = cc
one_role-touched policy later (DropUser gone) name other is apart e = cc
one_role-touched policy later (SyncDag access) name other is apart e = cc
one_role-touched policy later (AddRole input) name other is apart e =
    let made = added policy later input.name (pairs_read input.actions) e
    in role_aside policy later other (record { name = input.name; pairs = made.1.0 }) (ap (λ n. same_name n other) (same_some input.name name is) ∙ apart) made.1.1
one_role-touched policy later (SetRole input) name other is apart e =
    let made = is_set policy later input.name (pairs_read input.actions) e
    in role_aside policy later other (record { name = input.name; pairs = made.1.0 }) (ap (λ n. same_name n other) (same_some input.name name is) ∙ apart) made.1.1
one_role-touched policy later (DropRole gone) name other is apart e =
    role_gone policy later other gone (ap (λ n. same_name n other) (same_some gone name is) ∙ apart) e

-- ---- what is taken, and what stays

pub default_roles-stay : DefaultRolesStay
default_roles-stay policy later input e = (is_set policy later input.name (pairs_read input.actions) e).0

pub new_one : (policy later : PolicyRows) (user : UserRow) (unknown : Option (List ℕ)) → unless_unknown unknown (new_user policy user) ≡ Ok later → (has_user policy.users user.name || has_digest policy.users user.digest) ≡ false
new_one policy later user (Some name) e = cc
new_one policy later user None e =
    (unless (has_user policy.users user.name || has_digest policy.users user.digest) Exists (cond (nat_le most_users (length policy.users)) (Err TooMany) (Ok (record { users = with_user policy.users user; roles = policy.roles }))) later e).0

pub removed_token-nobodys : RemovedTokenIsNobodys
removed_token-nobodys policy later name token user is found hashed e =
    let some = unless (not (has_admin (without_user policy.users name))) LastAdmin (Ok (record { users = without_user policy.users name; roles = policy.roles })) later (sym (ap (user_gone policy name) found) ∙ e)
    in let gone : record { users = without_user policy.users name; roles = policy.roles } ≡ later = (let made = some.1 in cc)
    in ap (λ (p : PolicyRows). digest_user p.users (sha256 token)) (sym gone)
    ∙ ap (digest_user (without_user policy.users name)) hashed
    ∙ digest_user-without_user name user user.digest policy.users is.user_names_ascend is.digests_differ found
    ∙ ap (λ b. cond b None (digest_user policy.users user.digest)) ((bytes_decides user.digest user.digest).1 refl)

-- ---- who makes a change

module _ (policy later : PolicyRows) (ask : Ask) where
  lacks_none : (user : List ℕ) (lacked : Option Need) → missing policy user (needs_of (asked_kind ask)) None [] ≡ lacked → unless_lacked policy ask lacked ≡ Ok later → missing policy user (needs_of (asked_kind ask)) None [] ≡ None
  lacks_none user (Some need) is e = cc
  lacks_none user None is e = is

  an_author : (token : Option (List ℕ)) (bearer : Option (List ℕ)) → bearer_of policy token ≡ bearer → asked_by policy ask bearer ≡ Ok later → (user : List ℕ) × (bearer_of policy token ≡ Some user) × (missing policy user (needs_of (asked_kind ask)) None [] ≡ None)
  an_author token None is e = cc
  an_author token (Some user) is e = (user, is, lacks_none user (missing policy user (needs_of (asked_kind ask)) None []) refl e)

pub lack-decides : LackDecides
lack-decides = (
  λ policy token ask user need bearer lacked. ap (asked_by policy ask) bearer ∙ ap (unless_lacked policy ask) lacked,
  λ policy later token ask e. an_author policy later ask token (bearer_of policy token) refl e,
)
