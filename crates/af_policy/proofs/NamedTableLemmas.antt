-- Users found through their names: a name leads to a digest, and the digest to the user.
use Rattle.std.proofs.Common.{◌≡◌, ℕ, zero, suc, List, [], ◌∷◌, Bool, true, false, not, cond, Option, Some, None, refl, sym, ap, subst, ◌∙◌, is_some, map, take, drop}
use Rattle.std.specs.List.{AllByRecursion, drop-map, find, take-map}
use Rattle.std.specs.Option.{option_map, option_map_or}
use Rattle.std.specs.Ordering.{nat_cmp, match_ordering}
use Rattle.std.specs.declared.cmp.Ordering.{Ordering}
use Rattle.std.specs.declared.cmp.Ordering.TheVariants.{Less, Equal, Greater}
use Rattle.std.specs.Cmp.Lexicographic.{slice_cmp, bytes_decides, nat_list_eq_equiv}
use Rattle.af_policy.specs.Rows.{NamesAscend, UserRow, digests_differ, found_user, has_digest, has_user, same_digest, same_name, user_names, with_user, without_user}
use Rattle.af_policy.specs.SharedRows.{Ascend, found, with_row, without}
use Rattle.af_policy.specs.Shown.{page_rows}
use Rattle.af_policy.specs.Tables.{NameRow, IsNamedTable, IsUserTable, digest_row, name_row, user_at, users_at}
use Rattle.af_policy.specs.declared.span.Span.{Span}
use Rattle.af_policy.specs.Changes.{replaced}
use Rattle.af_policy.proofs.PlaceLemmas.{IsUserTable-replaced, with_in_place}
use Rattle.af_policy.proofs.RemovalLemmas.{IsUserTable-without, each, find-passes}
use Rattle.af_policy.proofs.UserLemmas.{IsUserTable-insert, and-true_left, and-true_right, not-true, or-false_left, or-false_right}

-- ---- each user is the one who has the user's digest

with_one_before : (x : UserRow) (xs users : List UserRow) → has_digest users x.digest ≡ false → AllByRecursion (λ user. digest_row xs user.digest ≡ Some user) users → AllByRecursion (λ user. digest_row (x ∷ xs) user.digest ≡ Some user) users
with_one_before x xs [] none all = tt
with_one_before x xs (y ∷ ys) none all = (
  ap (λ b. cond b (Some x) (digest_row xs y.digest)) (nat_list_eq_equiv.symm y.digest x.digest ∙ or-false_left (same_digest x.digest y.digest) (has_digest ys x.digest) none) ∙ all.0,
  with_one_before x xs ys (or-false_right (same_digest x.digest y.digest) (has_digest ys x.digest) none) all.1,
)

own_digests : (users : List UserRow) → digests_differ users ≡ true → AllByRecursion (λ user. digest_row users user.digest ≡ Some user) users
own_digests [] differ = tt
own_digests (x ∷ xs) differ = (
  ap (λ b. cond b (Some x) (digest_row xs x.digest)) ((bytes_decides x.digest x.digest).1 refl),
  with_one_before x xs xs (not-true (has_digest xs x.digest) (and-true_left (not (has_digest xs x.digest)) (digests_differ xs) differ))
      (own_digests xs (and-true_right (not (has_digest xs x.digest)) (digests_differ xs) differ)),
)

all-found : {X : Type 0} (P : X → Type 0) (p : X → Bool) (xs : List X) (x : X) → AllByRecursion P xs → find p xs ≡ Some x → P x
all-found P p [] x all is = cc
all-found P p (y ∷ ys) x all is = step (p y) is (all-found P p ys x all.1)
  where
    step : (b : Bool) → cond b (Some y) (find p ys) ≡ Some x → (find p ys ≡ Some x → P x) → P x
    step true is later = let same : y ≡ x = cc in subst P same all.0
    step false is later = later is

-- ---- users who are put together from their names and an index of digests

users_again : (index users : List UserRow) → ((digest : List ℕ) → digest_row index digest ≡ digest_row users digest) → (rows : List UserRow) → AllByRecursion (λ user. digest_row users user.digest ≡ Some user) rows → users_at index (map name_row rows) ≡ rows
users_again index users indexed [] all = refl
users_again index users indexed (x ∷ xs) all =
    (λ i. option_map_or (λ user. user) (one i) (record { name = x.name; digest = x.digest; roles = [] }) ∷ users_again index users indexed xs all.1 i)
  where
    one : digest_row index x.digest ≡ Some x
    one = indexed x.digest ∙ all.0

module _ (users index : List UserRow) (names : List NameRow) (table : IsUserTable users index) (is : names ≡ map name_row users) where
  pub users_of_names : users_at index names ≡ users
  users_of_names = ap (users_at index) is ∙ users_again index users table.indexed users (own_digests users table.differ)

  pub IsNamedTable-of : IsNamedTable names index
  IsNamedTable-of = record {
    table = subst (λ rows. IsUserTable rows index) (sym users_of_names) table;
    named = ap (map name_row) users_of_names ∙ sym is;
  }

-- ---- names after a change, and what is found by name

pub names-with : (row : UserRow) (users : List UserRow) → map name_row (with_user users row) ≡ with_row (λ (own : NameRow). own.name) (map name_row users) (name_row row)
names-with row [] = refl
names-with row (x ∷ xs) = step (slice_cmp nat_cmp row.name x.name) (names-with row xs)
  where
    step : (o : Ordering) → map name_row (with_user xs row) ≡ with_row (λ (own : NameRow). own.name) (map name_row xs) (name_row row) → map name_row (match_ordering o (row ∷ x ∷ xs) (row ∷ xs) (x ∷ with_user xs row)) ≡ match_ordering o (name_row row ∷ name_row x ∷ map name_row xs) (name_row row ∷ map name_row xs) (name_row x ∷ with_row (λ (own : NameRow). own.name) (map name_row xs) (name_row row))
    step Less later = refl
    step Equal later = refl
    step Greater later = ap (λ rows. name_row x ∷ rows) later

pub names-without : (name : List ℕ) (users : List UserRow) → map name_row (without_user users name) ≡ without (λ (own : NameRow). own.name) (map name_row users) name
names-without name [] = refl
names-without name (x ∷ xs) = step (same_name name x.name) (names-without name xs)
  where
    step : (b : Bool) → map name_row (without_user xs name) ≡ without (λ (own : NameRow). own.name) (map name_row xs) name → map name_row (cond (not b) (x ∷ without_user xs name) (without_user xs name)) ≡ cond (not b) (name_row x ∷ without (λ (own : NameRow). own.name) (map name_row xs) name) (without (λ (own : NameRow). own.name) (map name_row xs) name)
    step true later = later
    step false later = ap (λ rows. name_row x ∷ rows) later

pub names-found : (name : List ℕ) (users : List UserRow) → found (λ (own : NameRow). own.name) (map name_row users) name ≡ option_map name_row (found_user users name)
names-found name [] = refl
names-found name (x ∷ xs) = step (same_name name x.name) (names-found name xs)
  where
    step : (b : Bool) → found (λ (own : NameRow). own.name) (map name_row xs) name ≡ option_map name_row (found_user xs name) → cond b (Some (name_row x)) (found (λ (own : NameRow). own.name) (map name_row xs) name) ≡ option_map name_row (cond b (Some x) (found_user xs name))
    step true later = refl
    step false later = later

pub names-replaced : (row : UserRow) (users : List UserRow) → Ascend (λ (own : NameRow). own.name) (map name_row users) → map name_row (replaced users row) ≡ with_row (λ (own : NameRow). own.name) (map name_row users) (name_row row)
names-replaced row users ascend =
    names-with row (without_user users row.name)
    ∙ ap (λ rows. with_row (λ (own : NameRow). own.name) rows (name_row row)) (names-without row.name users)
    ∙ sym (with_in_place (λ (own : NameRow). own.name) (name_row row) (map name_row users) ascend)

-- the digest of whoever has a name is that user's
pub digest_of_named : (users : List UserRow) (name : List ℕ) (user : UserRow) → digests_differ users ≡ true → found_user users name ≡ Some user → digest_row users user.digest ≡ Some user
digest_of_named users name user differ is = all-found (λ user. digest_row users user.digest ≡ Some user) (λ user. same_name name user.name) users user (own_digests users differ) is

names_of_names : (users : List UserRow) → map (λ (own : NameRow). own.name) (map name_row users) ≡ user_names users
names_of_names [] = refl
names_of_names (x ∷ xs) = ap (λ names. x.name ∷ names) (names_of_names xs)

module _ (users : List UserRow) (names : List NameRow) (is : names ≡ map name_row users) where
  -- names ascend
  pub ascend_by_names : Ascend (λ (own : NameRow). own.name) names → NamesAscend (user_names users)
  ascend_by_names ascend = subst NamesAscend (ap (map (λ (own : NameRow). own.name)) is ∙ names_of_names users) ascend

  pub ascend_of_names : NamesAscend (user_names users) → Ascend (λ (own : NameRow). own.name) names
  ascend_of_names ascend = subst NamesAscend (sym (ap (map (λ (own : NameRow). own.name)) is ∙ names_of_names users)) ascend

  pub found_names : (name : List ℕ) → found (λ (own : NameRow). own.name) names name ≡ option_map name_row (found_user users name)
  found_names name = ap (λ rows. found (λ (own : NameRow). own.name) rows name) is ∙ names-found name users

  -- nobody has a name that leads to no digest
  pub nobody_named : (name : List ℕ) → None ≡ found (λ (own : NameRow). own.name) names name → found_user users name ≡ None
  nobody_named name none = step (found_user users name) (sym (found_names name) ∙ sym none)
    where
      step : (o : Option UserRow) → option_map name_row o ≡ None → o ≡ None
      step None e = refl
      step (Some user) e = cc

  -- what a name leads to, where somebody has it
  pub name_leads : (name : List ℕ) (user : UserRow) → found_user users name ≡ Some user → found (λ (own : NameRow). own.name) names name ≡ Some (record { name = name; digest = user.digest })
  name_leads name user has =
      let same : name ≡ user.name = (bytes_decides name user.name).0 (find-passes (λ user. same_name name user.name) users user has)
      in found_names name ∙ ap (option_map name_row) has ∙ (λ i. Some (record { name = sym same i; digest = user.digest }))

  -- the index without the digest that a name leads to
  pub IsUserTable-gone : (index : List UserRow) (name : List ℕ) (own : NameRow) → IsUserTable users index → NamesAscend (user_names users) → Some own ≡ found (λ (own : NameRow). own.name) names name → IsUserTable (without_user users name) (without (λ (user : UserRow). user.digest) index own.digest)
  IsUserTable-gone index name own table ascend leads = step (found_user users name) refl (sym (found_names name) ∙ sym leads)
    where
      step : (o : Option UserRow) → found_user users name ≡ o → option_map name_row o ≡ Some own → IsUserTable (without_user users name) (without (λ (user : UserRow). user.digest) index own.digest)
      step None f e = cc
      step (Some user) f e =
          let same : name_row user ≡ own = cc
          in subst (λ (row : NameRow). IsUserTable (without_user users name) (without (λ (user : UserRow). user.digest) index row.digest)) same
          (IsUserTable-without users index name user table ascend f)

  -- whoever a name leads to has that name and that digest
  pub named_user : (name : List ℕ) (own : NameRow) → digests_differ users ≡ true → Some own ≡ found (λ (own : NameRow). own.name) names name → digest_row users own.digest ≡ found_user users name
  named_user name own differ leads = step (found_user users name) refl (sym (found_names name) ∙ sym leads)
    where
      step : (o : Option UserRow) → found_user users name ≡ o → option_map name_row o ≡ Some own → digest_row users own.digest ≡ o
      step None f e = cc
      step (Some user) f e =
          let same : name_row user ≡ own = cc
          in ap (λ (row : NameRow). digest_row users row.digest) (sym same)
          ∙ all-found (λ user. digest_row users user.digest ≡ Some user) (λ user. same_name name user.name) users user (own_digests users differ) f

-- ---- a table after a change

-- names and an index that make up a table of these users
pub record Shows (users index : List UserRow) (names : List NameRow) : Type 0 where
  pub named : IsNamedTable names index
  pub shown : users_at index names ≡ users

pub shows : (users index : List UserRow) (names : List NameRow) → IsUserTable users index → names ≡ map name_row users → Shows users index names
shows users index names table is = record { named = IsNamedTable-of users index names table is; shown = users_of_names users index names table is }

module _ (index : List UserRow) (names : List NameRow) (named : IsNamedTable names index) where
  abbrev users : List UserRow
  users = users_at index names

  pub shows-with : (user : UserRow) (index' : List UserRow) (names' : List NameRow) → has_user users user.name ≡ false → has_digest users user.digest ≡ false → names' ≡ with_row (λ (own : NameRow). own.name) names (name_row user) → index' ≡ with_row (λ (user : UserRow). user.digest) index user → Shows (with_user users user) index' names'
  shows-with user index' names' new_name new_digest put_name put_digest =
      shows (with_user users user) index' names'
      (subst (IsUserTable (with_user users user)) (sym put_digest) (IsUserTable-insert users index user named.table new_name new_digest))
      (put_name ∙ ap (λ rows. with_row (λ (own : NameRow). own.name) rows (name_row user)) (sym named.named) ∙ sym (names-with user users))

  pub shows-replaced : (before user : UserRow) (index' : List UserRow) (names' : List NameRow) → Ascend (λ (own : NameRow). own.name) names → found_user users user.name ≡ Some before → has_digest (without_user users user.name) user.digest ≡ false → names' ≡ with_row (λ (own : NameRow). own.name) names (name_row user) → index' ≡ with_row (λ (user : UserRow). user.digest) (without (λ (user : UserRow). user.digest) index before.digest) user → Shows (replaced users user) index' names'
  shows-replaced before user index' names' ascend is differ put_name put_digest =
      shows (replaced users user) index' names'
      (subst (IsUserTable (replaced users user)) (sym put_digest) (IsUserTable-replaced users index before user named.table (ascend_by_names users names (sym named.named) ascend) is differ))
      (put_name ∙ ap (λ rows. with_row (λ (own : NameRow). own.name) rows (name_row user)) (sym named.named) ∙ sym (names-replaced user users (subst (Ascend (λ (own : NameRow). own.name)) (sym named.named) ascend)))

  pub shows-without : (name : List ℕ) (own : NameRow) (index' : List UserRow) (names' : List NameRow) → Ascend (λ (own : NameRow). own.name) names → Some own ≡ found (λ (own : NameRow). own.name) names name → names' ≡ without (λ (own : NameRow). own.name) names name → index' ≡ without (λ (user : UserRow). user.digest) index own.digest → Shows (without_user users name) index' names'
  shows-without name own index' names' ascend leads left_name left_digest =
      shows (without_user users name) index' names'
      (subst (IsUserTable (without_user users name)) (sym left_digest) (IsUserTable-gone users names (sym named.named) index name own named.table (ascend_by_names users names (sym named.named) ascend) leads))
      (left_name ∙ ap (λ rows. without (λ (own : NameRow). own.name) rows name) (sym named.named) ∙ sym (names-without name users))

-- ---- a page of names

all_take : {X : Type 0} (P : X → Type 0) (n : ℕ) (xs : List X) → AllByRecursion P xs → AllByRecursion P (take n xs)
all_take P zero xs all = tt
all_take P (suc n) [] all = tt
all_take P (suc n) (x ∷ xs) all = (all.0, all_take P n xs all.1)

all_drop : {X : Type 0} (P : X → Type 0) (n : ℕ) (xs : List X) → AllByRecursion P xs → AllByRecursion P (drop n xs)
all_drop P zero xs all = all
all_drop P (suc n) [] all = tt
all_drop P (suc n) (x ∷ xs) all = all_drop P n xs all.1

all_led : (index rows : List UserRow) → AllByRecursion (λ user. digest_row index user.digest ≡ Some user) rows → AllByRecursion (λ (own : NameRow). is_some (digest_row index own.digest) ≡ true) (map name_row rows)
all_led index [] all = tt
all_led index (x ∷ xs) all = (ap is_some all.0, all_led index xs all.1)

module _ (names : List NameRow) (index : List UserRow) (named : IsNamedTable names index) (span : Span) where
  -- each name of a page leads to a user
  pub page_led : AllByRecursion (λ (own : NameRow). is_some (digest_row index own.digest) ≡ true) (page_rows span names)
  page_led =
      all_take (λ (own : NameRow). is_some (digest_row index own.digest) ≡ true) span.limit (drop span.offset names)
      (all_drop (λ (own : NameRow). is_some (digest_row index own.digest) ≡ true) span.offset names
      (subst (AllByRecursion (λ (own : NameRow). is_some (digest_row index own.digest) ≡ true)) named.named
      (all_led index (users_at index names)
      (each (λ user. digest_row (users_at index names) user.digest ≡ Some user) (λ user. digest_row index user.digest ≡ Some user)
      (λ user own. named.table.indexed user.digest ∙ own) (users_at index names) (own_digests (users_at index names) named.table.differ)))))

pub page_of_names : (index : List UserRow) (names : List NameRow) (span : Span) → users_at index (page_rows span names) ≡ page_rows span (users_at index names)
page_of_names index names span =
    sym (ap (take span.limit) (drop-map (user_at index) span.offset names) ∙ take-map (user_at index) span.limit (drop span.offset names))
