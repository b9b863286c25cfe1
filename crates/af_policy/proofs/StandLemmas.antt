-- What stands at the name that a change names.
use Rattle.std.proofs.Common.{◌≡◌, ℕ, List, true, false, not, ◌||◌, nat_le, cond, length, Option, Some, None, Result, Ok, Err, refl, sym, ap, ◌∙◌, is_some, option_map, unwrap_or}
use Rattle.std.specs.Cmp.Lexicographic.{bytes_decides}
use Rattle.sha2.specs.Sha256.{sha256}
use Rattle.af_role.specs.Pairs.{PairRow}
use Rattle.af_role.specs.Roles.{RoleRow}
use Rattle.af_role.specs.PairTexts.{pairs_read}
use Rattle.af_policy.specs.declared.change.Change.TheVariants.{AddRole, SetRole, DropRole, AddUser, SetUser, DropUser, SyncDag}
use Rattle.af_policy.specs.declared.change.UserPatch.{UserPatch}
use Rattle.af_policy.specs.declared.change_fault.ChangeFault.{ChangeFault}
use Rattle.af_policy.specs.declared.change_fault.ChangeFault.TheVariants.{NoSuchRole, DefaultRole, Exists, RoleInUse, LastAdmin, TooMany}
use Rattle.af_policy.specs.declared.change_reply.ChangeReply.TheVariants.{Role, User}
use Rattle.af_policy.specs.Rows.{PolicyRows, UserRow, found_user, has_admin, has_digest, has_role, has_user, most_users, role_in_use, same_digest, with_role, with_user, without_role, without_user}
use Rattle.af_policy.specs.Changes.{is_anothers, is_default, new_user, patched, replaced, role_dropped, unknown_given, unknown_role, unless_unknown, user_gone, user_patched}
use Rattle.af_policy.specs.Shown.{shown_user}
use Rattle.af_policy.specs.Tables.{found_role}
use Rattle.af_policy.specs.Identity.{digest_user}
use Rattle.af_policy.specs.Laws.{ChangedTokenOpens, ChangesAreTold, NamedRowStands, NothingIsDoubled}
use Rattle.af_policy.proofs.FoundLemmas.{found_with, found_without}
use Rattle.af_policy.proofs.LawLemmas.{okay, unless}
use Rattle.af_policy.proofs.RemovalLemmas.{digest_user-without_user, has_user-without_user}
use Rattle.af_policy.proofs.TouchLemmas.{added, added_of, is_set, new_one, set_of}
use Rattle.af_policy.proofs.UserLemmas.{digest_user-with_user, or-false_left, or-false_right}

module _ (policy later : PolicyRows) where
  -- ---- roles

  role_stands : (name : List ℕ) (pairs : List PairRow) → okay (record { users = policy.users; roles = with_role policy.roles (record { name = name; pairs = pairs }) }) ≡ Ok later → found_role later.roles name ≡ Some (record { name = name; pairs = pairs })
  role_stands name pairs e =
      let row : RoleRow = record { name = name; pairs = pairs }
      in let is : record { users = policy.users; roles = with_role policy.roles row } ≡ later = cc
      in ap (λ (p : PolicyRows). found_role p.roles name) (sym is)
      ∙ found_with (λ (role : RoleRow). role.name) row policy.roles name
      ∙ ap (λ b. cond b (Some row) (found_role policy.roles name)) ((bytes_decides name name).1 refl)

  role_is_gone : (name : List ℕ) → role_dropped policy name ≡ Ok later → found_role later.roles name ≡ None
  role_is_gone name e =
      let gone : Result PolicyRows ChangeFault = Ok (record { users = policy.users; roles = without_role policy.roles name })
      in let there = unless (not (has_role policy.roles name)) NoSuchRole (cond (is_default name) (Err DefaultRole) (cond (role_in_use policy.users name) (Err RoleInUse) gone)) later e
      in let own = unless (is_default name) DefaultRole (cond (role_in_use policy.users name) (Err RoleInUse) gone) later there.1
      in let free = unless (role_in_use policy.users name) RoleInUse gone later own.1
      in let is : record { users = policy.users; roles = without_role policy.roles name } ≡ later = (let made = free.1 in cc)
      in ap (λ (p : PolicyRows). found_role p.roles name) (sym is)
      ∙ found_without (λ (role : RoleRow). role.name) name policy.roles name
      ∙ ap (λ b. cond b None (found_role policy.roles name)) ((bytes_decides name name).1 refl)

  -- ---- users

  user_stands : (user : UserRow) (users : List UserRow) → okay (record { users = with_user users user; roles = policy.roles }) ≡ Ok later → found_user later.users user.name ≡ Some user
  user_stands user users e =
      let is : record { users = with_user users user; roles = policy.roles } ≡ later = cc
      in ap (λ (p : PolicyRows). found_user p.users user.name) (sym is)
      ∙ found_with (λ (row : UserRow). row.name) user users user.name
      ∙ ap (λ b. cond b (Some user) (found_user users user.name)) ((bytes_decides user.name user.name).1 refl)

  new_stands : (user : UserRow) (unknown : Option (List ℕ)) → unless_unknown unknown (new_user policy user) ≡ Ok later → found_user later.users user.name ≡ Some user
  new_stands user (Some name) e = cc
  new_stands user None e =
      let free = unless (has_user policy.users user.name || has_digest policy.users user.digest) Exists (cond (nat_le most_users (length policy.users)) (Err TooMany) (Ok (record { users = with_user policy.users user; roles = policy.roles }))) later e
      in let room = unless (nat_le most_users (length policy.users)) TooMany (Ok (record { users = with_user policy.users user; roles = policy.roles })) later free.1
      in user_stands user policy.users room.1

  -- another digest or other roles: the user is there, no other has the digest, and the row is as patched
  by_patch : (patch : UserPatch) (unknown : Option (List ℕ)) (found : Option UserRow) → unless_unknown unknown (user_patched policy patch found) ≡ Ok later → (user : UserRow) × (found ≡ Some user) × (is_anothers policy.users patch.name patch.digest ≡ false) × (found_user later.users patch.name ≡ Some (patched patch user))
  by_patch patch (Some name) found e = cc
  by_patch patch None None e = cc
  by_patch patch None (Some user) e =
      let own = unless (is_anothers policy.users patch.name patch.digest) Exists (cond (not (has_admin (replaced policy.users (patched patch user)))) (Err LastAdmin) (Ok (record { users = replaced policy.users (patched patch user); roles = policy.roles }))) later e
      in let some = unless (not (has_admin (replaced policy.users (patched patch user)))) LastAdmin (Ok (record { users = replaced policy.users (patched patch user); roles = policy.roles })) later own.1
      in (user, refl, own.0, user_stands (patched patch user) (without_user policy.users patch.name) some.1)

  user_is_gone : (name : List ℕ) (found : Option UserRow) → user_gone policy name found ≡ Ok later → found_user later.users name ≡ None
  user_is_gone name None e = cc
  user_is_gone name (Some user) e =
      let some = unless (not (has_admin (without_user policy.users name))) LastAdmin (Ok (record { users = without_user policy.users name; roles = policy.roles })) later e
      in let is : record { users = without_user policy.users name; roles = policy.roles } ≡ later = (let made = some.1 in cc)
      in ap (λ (p : PolicyRows). found_user p.users name) (sym is)
      ∙ found_without (λ (row : UserRow). row.name) name policy.users name
      ∙ ap (λ b. cond b None (found_user policy.users name)) ((bytes_decides name name).1 refl)

patch_stands : (policy later : PolicyRows) (patch : UserPatch) (user : UserRow) → found_user policy.users patch.name ≡ Some user → unless_unknown (unknown_given policy.roles patch.roles) (user_patched policy patch (found_user policy.users patch.name)) ≡ Ok later → found_user later.users patch.name ≡ Some (patched patch user)
patch_stands policy later patch user found e =
    let made = by_patch policy later patch (unknown_given policy.roles patch.roles) (found_user policy.users patch.name) e
    in let both : Some (made.0) ≡ Some user = sym made.1 ∙ found
    in let same : made.0 ≡ user = cc
    in made.3 ∙ ap (λ row. Some (patched patch row)) same

pub named_row-stands : NamedRowStands
named_row-stands = (
  λ policy later input pairs is e. role_stands policy later input.name pairs (added_of policy later input.name pairs (pairs_read input.actions) is e),
  λ policy later input pairs is e. role_stands policy later input.name pairs (set_of policy later input.name pairs (pairs_read input.actions) is e),
  λ policy later user e. new_stands policy later user (unknown_role policy.roles user.roles) e,
  patch_stands,
  λ policy later name e. role_is_gone policy later name e,
  λ policy later name e. user_is_gone policy later name (found_user policy.users name) e,
)

-- ---- what is taken

no_other : (users : List UserRow) (name digest : List ℕ) (given : Option (List ℕ)) → given ≡ Some digest → is_anothers users name given ≡ false → has_digest (without_user users name) digest ≡ false
no_other users name digest None is e = cc
no_other users name digest (Some own) is e =
    let same : own ≡ digest = cc
    in ap (has_digest (without_user users name)) (sym same) ∙ e

pub nothing-doubled : NothingIsDoubled
nothing-doubled = (
  λ policy later input e. (added policy later input.name (pairs_read input.actions) e).0,
  λ policy later user e.
      let free = new_one policy later user (unknown_role policy.roles user.roles) e
      in (or-false_left (has_user policy.users user.name) (has_digest policy.users user.digest) free, or-false_right (has_user policy.users user.name) (has_digest policy.users user.digest) free),
  λ policy later patch digest is e.
      no_other policy.users patch.name digest patch.digest is
      (by_patch policy later patch (unknown_given policy.roles patch.roles) (found_user policy.users patch.name) e).2,
)

-- ---- whom a token opens after another is given

patch_made : (policy later : PolicyRows) (patch : UserPatch) (unknown : Option (List ℕ)) (user : UserRow) → unless_unknown unknown (user_patched policy patch (Some user)) ≡ Ok later → (is_anothers policy.users patch.name patch.digest ≡ false) × (later.users ≡ replaced policy.users (patched patch user))
patch_made policy later patch (Some name) user e = cc
patch_made policy later patch None user e =
    let own = unless (is_anothers policy.users patch.name patch.digest) Exists (cond (not (has_admin (replaced policy.users (patched patch user)))) (Err LastAdmin) (Ok (record { users = replaced policy.users (patched patch user); roles = policy.roles }))) later e
    in let some = unless (not (has_admin (replaced policy.users (patched patch user)))) LastAdmin (Ok (record { users = replaced policy.users (patched patch user); roles = policy.roles })) later own.1
    in let is : record { users = replaced policy.users (patched patch user); roles = policy.roles } ≡ later = (let made = some.1 in cc)
    in (own.0, ap (λ (p : PolicyRows). p.users) (sym is))

pub changed_token-opens : ChangedTokenOpens
changed_token-opens policy later patch user digest token is found given e =
    let made = patch_made policy later patch (unknown_given policy.roles patch.roles) user (sym (ap (λ row. unless_unknown (unknown_given policy.roles patch.roles) (user_patched policy patch row)) found) ∙ e)
    in let row : UserRow = record { name = patch.name; digest = digest; roles = unwrap_or patch.roles user.roles }
    in let is_row : patched patch user ≡ row = ap (λ d. own (unwrap_or d user.digest)) given
    in ap (λ (users : List UserRow). digest_user users (sha256 token)) (made.1 ∙ ap (replaced policy.users) is_row)
    ∙ digest_user-with_user row (sha256 token) (without_user policy.users patch.name) (has_user-without_user patch.name policy.users) (no_other policy.users patch.name digest patch.digest given made.0)
    ∙ ap (cond (same_digest (sha256 token) digest) (Some patch.name)) (digest_user-without_user patch.name user (sha256 token) policy.users is.user_names_ascend is.digests_differ found)
  where
    own : List ℕ → UserRow
    own d = record { name = patch.name; digest = d; roles = unwrap_or patch.roles user.roles }

-- ---- what is told

role_told : (later : PolicyRows) (name : List ℕ) (role : RoleRow) → found_role later.roles name ≡ Some role → is_some (option_map (λ own. Role own) (found_role later.roles name)) ≡ true
role_told later name role is = ap (λ found. is_some (option_map (λ own. Role own) found)) is

user_told : (later : PolicyRows) (name : List ℕ) (user : UserRow) → found_user later.users name ≡ Some user → is_some (option_map (λ own. User (shown_user own)) (found_user later.users name)) ≡ true
user_told later name user is = ap (λ found. is_some (option_map (λ own. User (shown_user own)) found)) is

pub changes-told : ChangesAreTold
changes-told policy later (AddRole input) e =
    let made = added policy later input.name (pairs_read input.actions) e
    in role_told later input.name (record { name = input.name; pairs = made.1.0 }) (role_stands policy later input.name made.1.0 made.1.1)
changes-told policy later (SetRole input) e =
    let made = is_set policy later input.name (pairs_read input.actions) e
    in role_told later input.name (record { name = input.name; pairs = made.1.0 }) (role_stands policy later input.name made.1.0 made.1.1)
changes-told policy later (DropRole name) e = refl
changes-told policy later (AddUser user) e = user_told later user.name user (new_stands policy later user (unknown_role policy.roles user.roles) e)
changes-told policy later (SetUser patch) e =
    let made = by_patch policy later patch (unknown_given policy.roles patch.roles) (found_user policy.users patch.name) e
    in user_told later patch.name (patched patch made.0) made.3
changes-told policy later (DropUser name) e = refl
changes-told policy later (SyncDag access) e = refl
