-- Users put at their places, and the index of their digests.
use Rattle.std.proofs.Common.{◌≡◌, ℕ, List, [], ◌∷◌, Bool, true, false, ◌&&◌, ◌||◌, cond, not, Option, Some, None, refl, sym, ap, ◌∙◌, is_some, is_eq, Bor}
use Rattle.std.specs.List.{find}
use Rattle.std.specs.Option.{option_copied, option_map}
use Rattle.std.specs.Ordering.{nat_cmp, match_ordering}
use Rattle.std.specs.declared.cmp.Ordering.{Ordering}
use Rattle.std.specs.declared.cmp.Ordering.TheVariants.{Less, Equal, Greater}
use Rattle.std.specs.Cmp.Lexicographic.{slice_cmp, texts_ties, nat_list_eq_equiv, bytes_decides}
use Rattle.af_policy.specs.Rows.{UserRow, digests_differ, has_digest, has_user, same_digest, same_name, with_user}
use Rattle.af_policy.specs.Identity.{digest_user}
use Rattle.af_policy.specs.Tables.{IsUserTable, digest_row}
use Rattle.af_policy.proofs.NameLemmas.{is_some-find}
use Rattle.af_policy.specs.SharedRows.{with_row}
use Rattle.af_policy.proofs.FoundLemmas.{found_with}

pub or-false_left : (a b : Bool) → (a || b) ≡ false → a ≡ false
or-false_left true b e = e
or-false_left false b e = refl

pub or-false_right : (a b : Bool) → (a || b) ≡ false → b ≡ false
or-false_right true b e = cc
or-false_right false b e = e

pub and-true_left : (a b : Bool) → (a && b) ≡ true → a ≡ true
and-true_left true b e = refl
and-true_left false b e = e

pub and-true_right : (a b : Bool) → (a && b) ≡ true → b ≡ true
and-true_right true b e = e
and-true_right false b e = cc

pub not-true : (b : Bool) → not b ≡ true → b ≡ false
not-true true e = cc
not-true false e = refl

option_map-cond : {X Y : Type 0} (f : X → Y) (b : Bool) (x : X) (o : Option X) → option_map f (cond b (Some x) o) ≡ cond b (Some (f x)) (option_map f o)
option_map-cond f true x o = refl
option_map-cond f false x o = refl

pub is_some-option_map : {X Y : Type 0} (f : X → Y) (o : Option X) → is_some (option_map f o) ≡ is_some o
is_some-option_map f None = refl
is_some-option_map f (Some x) = refl

-- of two tests that do not both pass, it does not matter which is asked first
cond-swap : {X : Type 0} (a b : Bool) (x y z : X) → (a && b) ≡ false → cond a x (cond b y z) ≡ cond b y (cond a x z)
cond-swap true true x y z e = cc
cond-swap true false x y z e = refl
cond-swap false b x y z e = refl

-- one digest is not that of two that differ
not_both : (d a b : List ℕ) → same_digest a b ≡ false → (same_digest d b && same_digest d a) ≡ false
not_both d a b apart = step (same_digest d b) (same_digest d a) refl refl
  where
    step : (s t : Bool) → same_digest d b ≡ s → same_digest d a ≡ t → (s && t) ≡ false
    step false t is_b is_a = refl
    step true false is_b is_a = refl
    step true true is_b is_a =
        let e : a ≡ b = sym ((bytes_decides d a).0 is_a) ∙ (bytes_decides d b).0 is_b
        in sym ((bytes_decides a b).1 e) ∙ apart

-- a name that nobody has does not tie
pub not_tied : (name other : List ℕ) → same_name name other ≡ false → slice_cmp nat_cmp name other ≡ Equal → true ≡ false
not_tied name other apart is = sym (ap is_eq is) ∙ sym (texts_ties name other) ∙ apart

-- who has a digest, after a user is added
digest_row-with_user : (row : UserRow) (digest : List ℕ) (rows : List UserRow) → has_user rows row.name ≡ false → has_digest rows row.digest ≡ false → digest_row (with_user rows row) digest ≡ cond (same_digest digest row.digest) (Some row) (digest_row rows digest)
digest_row-with_user row digest [] new_name new_digest = refl
digest_row-with_user row digest (x ∷ xs) new_name new_digest =
    step (slice_cmp nat_cmp row.name x.name) refl
    (digest_row-with_user row digest xs (or-false_right (same_name row.name x.name) (has_user xs row.name) new_name)
    (or-false_right (same_digest row.digest x.digest) (has_digest xs row.digest) new_digest))
  where
    step : (o : Ordering) → slice_cmp nat_cmp row.name x.name ≡ o → digest_row (with_user xs row) digest ≡ cond (same_digest digest row.digest) (Some row) (digest_row xs digest) → digest_row (match_ordering o (row ∷ x ∷ xs) (row ∷ xs) (x ∷ with_user xs row)) digest ≡ cond (same_digest digest row.digest) (Some row) (digest_row (x ∷ xs) digest)
    step Less is later = refl
    step Equal is later =
        let e : true ≡ false = not_tied row.name x.name (or-false_left (same_name row.name x.name) (has_user xs row.name) new_name) is
        in cc
    step Greater is later =
        ap (λ o. cond (same_digest digest x.digest) (Some x) o) later
        ∙ cond-swap (same_digest digest x.digest) (same_digest digest row.digest) (Some x) (Some row) (digest_row xs digest)
        (not_both digest row.digest x.digest (or-false_left (same_digest row.digest x.digest) (has_digest xs row.digest) new_digest))

-- whose digest it is, after a user is added
pub digest_user-with_user : (row : UserRow) (digest : List ℕ) (rows : List UserRow) → has_user rows row.name ≡ false → has_digest rows row.digest ≡ false → digest_user (with_user rows row) digest ≡ cond (same_digest digest row.digest) (Some row.name) (digest_user rows digest)
digest_user-with_user row digest rows new_name new_digest =
    ap (option_map (λ (user : UserRow). user.name)) (digest_row-with_user row digest rows new_name new_digest)
    ∙ option_map-cond (λ user. user.name) (same_digest digest row.digest) row (digest_row rows digest)

pub is_some-option_copied : {X : Type 0} (o : Option (Bor X)) → is_some o ≡ is_some (option_copied o)
is_some-option_copied None = refl
is_some-option_copied (Some x) = refl

-- a digest is somebody's exactly where a user is found
pub is_some-digest_user : (rows : List UserRow) (digest : List ℕ) → is_some (digest_user rows digest) ≡ has_digest rows digest
is_some-digest_user rows digest =
    is_some-option_map (λ user. user.name) (find (λ user. same_digest digest user.digest) rows)
    ∙ is_some-find (λ user. same_digest digest user.digest) rows

-- a digest that is neither the new user's nor anybody's is nobody's then
has_digest-with_user : (row : UserRow) (digest : List ℕ) (rows : List UserRow) → has_user rows row.name ≡ false → has_digest rows row.digest ≡ false → same_digest digest row.digest ≡ false → has_digest rows digest ≡ false → has_digest (with_user rows row) digest ≡ false
has_digest-with_user row digest rows new_name new_digest apart nobody =
    sym (is_some-digest_user (with_user rows row) digest)
    ∙ ap is_some (digest_user-with_user row digest rows new_name new_digest)
    ∙ ap (λ b. is_some (cond b (Some row.name) (digest_user rows digest))) apart
    ∙ is_some-digest_user rows digest
    ∙ nobody

-- digests that differ still do
pub digests_differ-with_user : (row : UserRow) (rows : List UserRow) → has_user rows row.name ≡ false → has_digest rows row.digest ≡ false → digests_differ rows ≡ true → digests_differ (with_user rows row) ≡ true
digests_differ-with_user row [] new_name new_digest differ = refl
digests_differ-with_user row (x ∷ xs) new_name new_digest differ =
    step (slice_cmp nat_cmp row.name x.name) refl
    (digests_differ-with_user row xs (or-false_right (same_name row.name x.name) (has_user xs row.name) new_name)
    (or-false_right (same_digest row.digest x.digest) (has_digest xs row.digest) new_digest)
    (and-true_right (not (has_digest xs x.digest)) (digests_differ xs) differ))
  where
    step : (o : Ordering) → slice_cmp nat_cmp row.name x.name ≡ o → digests_differ (with_user xs row) ≡ true → digests_differ (match_ordering o (row ∷ x ∷ xs) (row ∷ xs) (x ∷ with_user xs row)) ≡ true
    step Less is later = (λ i. not (new_digest i) && differ i)
    step Equal is later =
        let e : true ≡ false = not_tied row.name x.name (or-false_left (same_name row.name x.name) (has_user xs row.name) new_name) is
        in cc
    step Greater is later =
        let name_left : has_user xs row.name ≡ false = or-false_right (same_name row.name x.name) (has_user xs row.name) new_name
        in let digest_left : has_digest xs row.digest ≡ false = or-false_right (same_digest row.digest x.digest) (has_digest xs row.digest) new_digest
        in let apart : same_digest x.digest row.digest ≡ false = nat_list_eq_equiv.symm x.digest row.digest ∙ or-false_left (same_digest row.digest x.digest) (has_digest xs row.digest) new_digest
        in let nobody : has_digest xs x.digest ≡ false = not-true (has_digest xs x.digest) (and-true_left (not (has_digest xs x.digest)) (digests_differ xs) differ)
        in let first : has_digest (with_user xs row) x.digest ≡ false = has_digest-with_user row x.digest xs name_left digest_left apart nobody
        in (λ i. not (first i) && later i)

-- the table with one more user
pub IsUserTable-insert : (users index : List UserRow) (row : UserRow) → IsUserTable users index → has_user users row.name ≡ false → has_digest users row.digest ≡ false → IsUserTable (with_user users row) (with_row (λ user. user.digest) index row)
IsUserTable-insert users index row table new_name new_digest = record {
  indexed =
      λ digest. found_with (λ user. user.digest) row index digest
      ∙ ap (cond (same_digest digest row.digest) (Some row)) (table.indexed digest)
      ∙ sym (digest_row-with_user row digest users new_name new_digest);
  differ = digests_differ-with_user row users new_name new_digest table.differ;
}

pub IsUserTable-none : IsUserTable [] []
IsUserTable-none = record { indexed = λ digest. refl; differ = refl }
