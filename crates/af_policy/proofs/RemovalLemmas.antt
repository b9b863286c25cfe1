-- Users and roles taken out: who is found then, whose digest is found, and which roles are there.
use Rattle.std.proofs.Common.{◌≡◌, ℕ, List, [], ◌∷◌, Bool, true, false, not, ◌&&◌, ◌||◌, cond, Option, Some, None, refl, sym, ap, ◌∙◌, is_some}
use Rattle.std.specs.List.{AllByRecursion, filter, find, list_all, list_any}
use Rattle.std.specs.Option.{option_map}
use Rattle.std.specs.Ordering.{nat_cmp}
use Rattle.std.specs.Cmp.Lexicographic.{slice_cmp, bytes_decides, nat_list_eq_equiv}
use Rattle.std.proofs.lemmas.Map.Keys.{sorted_tail}
use Rattle.af_role.specs.Roles.{RoleRow}
use Rattle.af_policy.specs.Rows.{NamesAscend, UserRow, digests_differ, found_user, has_digest, has_role, has_roles, has_user, role_in_use, roles_exist, same_digest, same_name, user_names, without_role, without_user}
use Rattle.af_policy.specs.Identity.{digest_user}
use Rattle.af_policy.specs.Tables.{IsUserTable, digest_row}
use Rattle.af_policy.specs.SharedRows.{found, without}
use Rattle.af_policy.proofs.NameLemmas.{fresh, is_some-find}
use Rattle.af_policy.proofs.FoundLemmas.{found_without}
use Rattle.af_policy.proofs.UserLemmas.{and-true_left, and-true_right, is_some-digest_user, not-true, or-false_left, or-false_right}

-- ---- a test among rows of which some are left out

find-kept : {X : Type 0} (p q : X → Bool) (xs : List X) → AllByRecursion (λ x. q x ≡ false → p x ≡ false) xs → find p (filter q xs) ≡ find p xs
find-kept p q [] all = refl
find-kept p q (x ∷ xs) all = step (q x) refl (find-kept p q xs all.1)
  where
    step : (b : Bool) → q x ≡ b → find p (filter q xs) ≡ find p xs → find p (cond b (x ∷ filter q xs) (filter q xs)) ≡ cond (p x) (Some x) (find p xs)
    step true is later = ap (λ o. cond (p x) (Some x) o) later
    step false is later = later ∙ ap (λ b. cond b (Some x) (find p xs)) (sym (all.0 is))

find-gone : {X : Type 0} (p q : X → Bool) (xs : List X) → AllByRecursion (λ x. q x ≡ true → p x ≡ false) xs → find p (filter q xs) ≡ None
find-gone p q [] all = refl
find-gone p q (x ∷ xs) all = step (q x) refl (find-gone p q xs all.1)
  where
    step : (b : Bool) → q x ≡ b → find p (filter q xs) ≡ None → find p (cond b (x ∷ filter q xs) (filter q xs)) ≡ None
    step true is later = (λ i. cond (all.0 is i) (Some x) (later i))
    step false is later = later

any-filter_none : {X : Type 0} (p q : X → Bool) (xs : List X) → list_any p xs ≡ false → list_any p (filter q xs) ≡ false
any-filter_none p q [] none = refl
any-filter_none p q (x ∷ xs) none = step (q x) (any-filter_none p q xs (or-false_right (p x) (list_any p xs) none))
  where
    step : (b : Bool) → list_any p (filter q xs) ≡ false → list_any p (cond b (x ∷ filter q xs) (filter q xs)) ≡ false
    step true later = (λ i. or-false_left (p x) (list_any p xs) none i || later i)
    step false later = later

all-filter : {X : Type 0} (p q : X → Bool) (xs : List X) → list_all p xs ≡ true → list_all p (filter q xs) ≡ true
all-filter p q [] all = refl
all-filter p q (x ∷ xs) all = step (q x) (all-filter p q xs (and-true_right (p x) (list_all p xs) all))
  where
    step : (b : Bool) → list_all p (filter q xs) ≡ true → list_all p (cond b (x ∷ filter q xs) (filter q xs)) ≡ true
    step true later = (λ i. and-true_left (p x) (list_all p xs) all i && later i)
    step false later = later

each-none : {X : Type 0} (p : X → Bool) (Q : X → Type 0) (xs : List X) → list_any p xs ≡ false → AllByRecursion (λ x. p x ≡ true → Q x) xs
each-none p Q [] none = tt
each-none p Q (x ∷ xs) none = (
  λ passes. let e : true ≡ false = sym passes ∙ or-false_left (p x) (list_any p xs) none in cc,
  each-none p Q xs (or-false_right (p x) (list_any p xs) none),
)

pub each : {X : Type 0} (P Q : X → Type 0) → ((x : X) → P x → Q x) → (xs : List X) → AllByRecursion P xs → AllByRecursion Q xs
each P Q f [] all = tt
each P Q f (x ∷ xs) all = (f x all.0, each P Q f xs all.1)

-- what is found passes
pub find-passes : {X : Type 0} (p : X → Bool) (xs : List X) (x : X) → find p xs ≡ Some x → p x ≡ true
find-passes p [] x found = cc
find-passes p (y ∷ ys) x found = step (p y) refl found (find-passes p ys x)
  where
    step : (b : Bool) → p y ≡ b → cond b (Some y) (find p ys) ≡ Some x → (find p ys ≡ Some x → p x ≡ true) → p x ≡ true
    step true is e later = let same : y ≡ x = cc in ap p (sym same) ∙ is
    step false is e later = later e

-- ---- the one user of a name, and of a digest

-- where names ascend, whoever has a name is the one who is found at it
one_named : (name : List ℕ) (row : UserRow) (users : List UserRow) → NamesAscend (user_names users) → found_user users name ≡ Some row → AllByRecursion (λ user. same_name name user.name ≡ true → user ≡ row) users
one_named name row [] ascend found = tt
one_named name row (x ∷ xs) ascend found = step (same_name name x.name) refl found (one_named name row xs (sorted_tail (slice_cmp nat_cmp) x.name (user_names xs) ascend))
  where
    step : (b : Bool) → same_name name x.name ≡ b → cond b (Some x) (found_user xs name) ≡ Some row → (found_user xs name ≡ Some row → AllByRecursion (λ user. same_name name user.name ≡ true → user ≡ row) xs) → (same_name name x.name ≡ true → x ≡ row) × AllByRecursion (λ user. same_name name user.name ≡ true → user ≡ row) xs
    step true is e later = (
      λ _. cc,
      each-none (λ user. same_name name user.name) (λ user. user ≡ row) xs
          (ap (λ n. has_user xs n) ((bytes_decides name x.name).0 is) ∙ fresh (λ user. user.name) x xs ascend),
    )
    step false is e later = (
      λ yes. let f : true ≡ false = sym yes ∙ is in cc,
      later e,
    )

-- whoever is found by name has a digest that somebody has
found-has_digest : (name : List ℕ) (row : UserRow) (users : List UserRow) → found_user users name ≡ Some row → has_digest users row.digest ≡ true
found-has_digest name row [] found = cc
found-has_digest name row (x ∷ xs) found = step (same_name name x.name) found (found-has_digest name row xs)
  where
    or-right : (b c : Bool) → c ≡ true → (b || c) ≡ true
    or-right true c e = refl
    or-right false c e = e

    step : (b : Bool) → cond b (Some x) (found_user xs name) ≡ Some row → (found_user xs name ≡ Some row → has_digest xs row.digest ≡ true) → (same_digest row.digest x.digest || has_digest xs row.digest) ≡ true
    step true e later =
        let same : x ≡ row = cc
        in ap (λ (user : UserRow). same_digest row.digest user.digest || has_digest xs row.digest) same
        ∙ ap (λ b. b || has_digest xs row.digest) ((bytes_decides row.digest row.digest).1 refl)
    step false e later = or-right (same_digest row.digest x.digest) (has_digest xs row.digest) (later e)

one_digest : (name : List ℕ) (row : UserRow) (users : List UserRow) → digests_differ users ≡ true → found_user users name ≡ Some row → AllByRecursion (λ user. same_digest row.digest user.digest ≡ true → user ≡ row) users
one_digest name row [] differ found = tt
one_digest name row (x ∷ xs) differ found =
    step (same_name name x.name) found (one_digest name row xs (and-true_right (not (has_digest xs x.digest)) (digests_differ xs) differ))
  where
    apart : has_digest xs x.digest ≡ false
    apart = not-true (has_digest xs x.digest) (and-true_left (not (has_digest xs x.digest)) (digests_differ xs) differ)

    step : (b : Bool) → cond b (Some x) (found_user xs name) ≡ Some row → (found_user xs name ≡ Some row → AllByRecursion (λ user. same_digest row.digest user.digest ≡ true → user ≡ row) xs) → (same_digest row.digest x.digest ≡ true → x ≡ row) × AllByRecursion (λ user. same_digest row.digest user.digest ≡ true → user ≡ row) xs
    step true e later =
        let same : x ≡ row = cc
        in (
          λ _. same,
          each-none (λ user. same_digest row.digest user.digest) (λ user. user ≡ row) xs
              (ap (λ (user : UserRow). has_digest xs user.digest) (sym same) ∙ apart),
        )
    step false e later = (
      λ yes. let f : true ≡ false = sym (found-has_digest name row xs e) ∙ ap (has_digest xs) ((bytes_decides row.digest x.digest).0 yes) ∙ apart in cc,
      later e,
    )

never_true : (b : Bool) → (b ≡ true → true ≡ false) → b ≡ false
never_true true e = let f : true ≡ false = e refl in cc
never_true false e = refl

-- where names ascend, who has a digest is also the one who is found by name
pub digest_named : (digest : List ℕ) (users : List UserRow) (row : UserRow) → NamesAscend (user_names users) → digest_row users digest ≡ Some row → found_user users row.name ≡ Some row
digest_named digest [] row ascend has = cc
digest_named digest (x ∷ xs) row ascend has =
    step (same_digest digest x.digest) has (digest_named digest xs row (sorted_tail (slice_cmp nat_cmp) x.name (user_names xs) ascend))
  where
    apart : found_user xs row.name ≡ Some row → same_name row.name x.name ≡ false
    apart found = never_true (same_name row.name x.name) (λ yes.
        sym (ap is_some found)
        ∙ is_some-find (λ user. same_name row.name user.name) xs
        ∙ ap (has_user xs) ((bytes_decides row.name x.name).0 yes)
        ∙ fresh (λ user. user.name) x xs ascend)

    step : (b : Bool) → cond b (Some x) (digest_row xs digest) ≡ Some row → (digest_row xs digest ≡ Some row → found_user xs row.name ≡ Some row) → cond (same_name row.name x.name) (Some x) (found_user xs row.name) ≡ Some row
    step true e later =
        let same : x ≡ row = cc
        in ap (λ b. cond b (Some x) (found_user xs row.name)) ((bytes_decides row.name x.name).1 (ap (λ (user : UserRow). user.name) (sym same)))
        ∙ ap Some same
    step false e later = ap (λ b. cond b (Some x) (found_user xs row.name)) (apart (later e)) ∙ later e

not-false : (b : Bool) → not b ≡ false → b ≡ true
not-false true e = refl
not-false false e = cc

-- who has a digest, after a user is taken out
digest_row-without_user : (name : List ℕ) (row : UserRow) (digest : List ℕ) (users : List UserRow) → NamesAscend (user_names users) → digests_differ users ≡ true → found_user users name ≡ Some row → digest_row (without_user users name) digest ≡ cond (same_digest row.digest digest) None (digest_row users digest)
digest_row-without_user name row digest users ascend differ found = step (same_digest row.digest digest) refl
  where
    named : same_name name row.name ≡ true
    named = find-passes (λ user. same_name name user.name) users row found

    step : (b : Bool) → same_digest row.digest digest ≡ b → digest_row (without_user users name) digest ≡ cond b None (digest_row users digest)
    step true is =
        find-gone (λ user. same_digest digest user.digest) (λ user. not (same_name name user.name)) users
        (each (λ user. same_digest row.digest user.digest ≡ true → user ≡ row) (λ user. not (same_name name user.name) ≡ true → same_digest digest user.digest ≡ false)
        (λ user one kept. never_true (same_digest digest user.digest) (λ yes.
        let same : user ≡ row = one (ap (λ d. same_digest d user.digest) ((bytes_decides row.digest digest).0 is) ∙ yes)
        in sym named ∙ ap (λ (u : UserRow). same_name name u.name) (sym same) ∙ not-true (same_name name user.name) kept))
        users (one_digest name row users differ found))
    step false is =
        find-kept (λ user. same_digest digest user.digest) (λ user. not (same_name name user.name)) users
        (each (λ user. same_name name user.name ≡ true → user ≡ row) (λ user. not (same_name name user.name) ≡ false → same_digest digest user.digest ≡ false)
        (λ user one out. ap (λ (u : UserRow). same_digest digest u.digest) (one (not-false (same_name name user.name) out)) ∙ nat_list_eq_equiv.symm digest row.digest ∙ is)
        users (one_named name row users ascend found))

option_map-none : {X Y : Type 0} (f : X → Y) (b : Bool) (o : Option X) → option_map f (cond b None o) ≡ cond b None (option_map f o)
option_map-none f true o = refl
option_map-none f false o = refl

-- whose digest it is, after a user is taken out
pub digest_user-without_user : (name : List ℕ) (row : UserRow) (digest : List ℕ) (users : List UserRow) → NamesAscend (user_names users) → digests_differ users ≡ true → found_user users name ≡ Some row → digest_user (without_user users name) digest ≡ cond (same_digest row.digest digest) None (digest_user users digest)
digest_user-without_user name row digest users ascend differ found =
    ap (option_map (λ (user : UserRow). user.name)) (digest_row-without_user name row digest users ascend differ found)
    ∙ option_map-none (λ (user : UserRow). user.name) (same_digest row.digest digest) (digest_row users digest)

digests_differ-filter : (q : UserRow → Bool) (users : List UserRow) → digests_differ users ≡ true → digests_differ (filter q users) ≡ true
digests_differ-filter q [] differ = refl
digests_differ-filter q (x ∷ xs) differ = step (q x) (digests_differ-filter q xs (and-true_right (not (has_digest xs x.digest)) (digests_differ xs) differ))
  where
    apart : has_digest (filter q xs) x.digest ≡ false
    apart = any-filter_none (λ user. same_digest x.digest user.digest) q xs (not-true (has_digest xs x.digest) (and-true_left (not (has_digest xs x.digest)) (digests_differ xs) differ))

    step : (b : Bool) → digests_differ (filter q xs) ≡ true → digests_differ (cond b (x ∷ filter q xs) (filter q xs)) ≡ true
    step true later = (λ i. not (apart i) && later i)
    step false later = later

-- the table with one user less
pub IsUserTable-without : (users index : List UserRow) (name : List ℕ) (row : UserRow) → IsUserTable users index → NamesAscend (user_names users) → found_user users name ≡ Some row → IsUserTable (without_user users name) (without (λ user. user.digest) index row.digest)
IsUserTable-without users index name row table ascend named = record {
  indexed =
      λ digest. found_without (λ user. user.digest) row.digest index digest
      ∙ ap (cond (same_digest row.digest digest) None) (table.indexed digest)
      ∙ sym (digest_row-without_user name row digest users ascend table.differ named);
  differ = digests_differ-filter (λ user. not (same_name name user.name)) users table.differ;
}

-- somebody else has a digest
pub has_digest-without_user : (name : List ℕ) (row : UserRow) (digest : List ℕ) (users : List UserRow) → NamesAscend (user_names users) → digests_differ users ≡ true → found_user users name ≡ Some row → has_digest (without_user users name) digest ≡ (not (same_digest row.digest digest) && has_digest users digest)
has_digest-without_user name row digest users ascend differ found =
    sym (is_some-digest_user (without_user users name) digest)
    ∙ ap is_some (digest_user-without_user name row digest users ascend differ found)
    ∙ step (same_digest row.digest digest)
  where
    step : (b : Bool) → is_some (cond b None (digest_user users digest)) ≡ (not b && has_digest users digest)
    step true = refl
    step false = is_some-digest_user users digest

-- nobody has the name of the one who is taken out
pub has_user-without_user : (name : List ℕ) (users : List UserRow) → has_user (without_user users name) name ≡ false
has_user-without_user name [] = refl
has_user-without_user name (x ∷ xs) = step (same_name name x.name) refl (has_user-without_user name xs)
  where
    step : (b : Bool) → same_name name x.name ≡ b → has_user (without_user xs name) name ≡ false → has_user (cond (not b) (x ∷ without_user xs name) (without_user xs name)) name ≡ false
    step true is later = later
    step false is later = (λ i. is i || later i)

-- ---- which roles are there

pub roles_exist-without_user : (users : List UserRow) (roles : List RoleRow) (name : List ℕ) → roles_exist (record { users = users; roles = roles }) ≡ true → roles_exist (record { users = without_user users name; roles = roles }) ≡ true
roles_exist-without_user users roles name exist = all-filter (λ user. has_roles roles user.roles) (λ user. not (same_name name user.name)) users exist

-- the roles of one who is found are there
pub roles_exist-found : (users : List UserRow) (roles : List RoleRow) (name : List ℕ) (row : UserRow) → roles_exist (record { users = users; roles = roles }) ≡ true → found_user users name ≡ Some row → has_roles roles row.roles ≡ true
roles_exist-found [] roles name row exist found = cc
roles_exist-found (x ∷ xs) roles name row exist found =
    step (same_name name x.name) found (roles_exist-found xs roles name row (and-true_right (has_roles roles x.roles) (roles_exist (record { users = xs; roles = roles })) exist))
  where
    step : (b : Bool) → cond b (Some x) (found_user xs name) ≡ Some row → (found_user xs name ≡ Some row → has_roles roles row.roles ≡ true) → has_roles roles row.roles ≡ true
    step true e later =
        let same : x ≡ row = cc
        in ap (λ (user : UserRow). has_roles roles user.roles) (sym same) ∙ and-true_left (has_roles roles x.roles) (roles_exist (record { users = xs; roles = roles })) exist
    step false e later = later e

-- a role of another name is there still
has_role-without_role : (gone name : List ℕ) (roles : List RoleRow) → same_name name gone ≡ false → has_role roles name ≡ true → has_role (without_role roles gone) name ≡ true
has_role-without_role gone name [] other has = cc
has_role-without_role gone name (x ∷ xs) other has =
    step (same_name gone x.name) (same_name name x.name) refl refl has (has_role-without_role gone name xs other)
  where
    step : (b d : Bool) → same_name gone x.name ≡ b → same_name name x.name ≡ d → (d || has_role xs name) ≡ true → (has_role xs name ≡ true → has_role (without_role xs gone) name ≡ true) → has_role (cond (not b) (x ∷ without_role xs gone) (without_role xs gone)) name ≡ true
    step true true is_gone is_name e later =
        let f : true ≡ false = sym ((bytes_decides name gone).1 ((bytes_decides name x.name).0 is_name ∙ sym ((bytes_decides gone x.name).0 is_gone))) ∙ other
        in cc
    step true false is_gone is_name e later = later e
    step false true is_gone is_name e later = ap (λ b. b || has_role (without_role xs gone) name) is_name
    step false false is_gone is_name e later = ap (λ b. b || has_role (without_role xs gone) name) is_name ∙ later e

pub roles_exist-without_role : (users : List UserRow) (roles : List RoleRow) (gone : List ℕ) → role_in_use users gone ≡ false → roles_exist (record { users = users; roles = roles }) ≡ true → roles_exist (record { users = users; roles = without_role roles gone }) ≡ true
roles_exist-without_role [] roles gone unused exist = refl
roles_exist-without_role (x ∷ xs) roles gone unused exist =
    (λ i. own x.roles (or-false_left (list_any (λ role. same_name role gone) x.roles) (role_in_use xs gone) unused) (and-true_left (has_roles roles x.roles) (roles_exist (record { users = xs; roles = roles })) exist) i
    && roles_exist-without_role xs roles gone (or-false_right (list_any (λ role. same_name role gone) x.roles) (role_in_use xs gone) unused) (and-true_right (has_roles roles x.roles) (roles_exist (record { users = xs; roles = roles })) exist) i)
  where
    own : (names : List (List ℕ)) → list_any (λ role. same_name role gone) names ≡ false → has_roles roles names ≡ true → has_roles (without_role roles gone) names ≡ true
    own [] none has = refl
    own (n ∷ ns) none has =
        (λ i. has_role-without_role gone n roles (or-false_left (same_name n gone) (list_any (λ role. same_name role gone) ns) none) (and-true_left (has_role roles n) (has_roles roles ns) has) i
        && own ns (or-false_right (same_name n gone) (list_any (λ role. same_name role gone) ns) none) (and-true_right (has_role roles n) (has_roles roles ns) has) i)
