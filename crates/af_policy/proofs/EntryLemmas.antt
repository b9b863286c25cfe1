-- Rows that are kept as entries at their keys, while a policy is put together.
use Rattle.std.proofs.Common.{◌≡◌, ℕ, List, [], ◌∷◌, Bool, true, false, cond, Some, None, refl, sym, ap, ◌∙◌, map, is_some, not, ◌||◌}
use Rattle.std.specs.List.{AllByRecursion}
use Rattle.std.specs.Ordering.{nat_cmp, is_eq, match_ordering}
use Rattle.std.specs.declared.cmp.Ordering.{Ordering}
use Rattle.std.specs.declared.cmp.Ordering.TheVariants.{Less, Equal, Greater}
use Rattle.std.specs.Cmp.Lexicographic.{slice_cmp, texts_ties, bytes_decides}
use Rattle.std.specs.Map.{keys_of, values_of, lookup, remove_entry}
use Rattle.std.specs.BTreeMap.{insert_entry, is_at}
use Rattle.std.proofs.lemmas.Map.Lookups.{exact_bytes}
use Rattle.af_policy.specs.SharedRows.{found, same_key, with_row}
use Rattle.af_policy.specs.Rows.{UserRow, has_digest, has_user, same_digest, same_name, with_user}
use Rattle.af_policy.specs.Tables.{IsUserDraft}
use Rattle.af_policy.proofs.NameLemmas.{is_some-find}
use Rattle.af_policy.proofs.UserLemmas.{IsUserTable-insert}

at_itself : (k : List ℕ) → is_eq (slice_cmp nat_cmp k k) ≡ true
at_itself k = sym (texts_ties k k) ∙ (bytes_decides k k).1 refl

module _ {T : Type 0} (key : T → List ℕ) where
  -- the entries' keys are those of the rows
  pub keys_of-keyed : (es : List (List ℕ × T)) → AllByRecursion (λ e. e.0 ≡ key e.1) es → keys_of es ≡ map key (values_of es)
  keys_of-keyed [] all = refl
  keys_of-keyed (e ∷ es) all = (λ i. all.0 i ∷ keys_of-keyed es all.1 i)

  -- what is looked up at a key is the row of the key
  pub lookup-keyed : (k : List ℕ) (es : List (List ℕ × T)) → AllByRecursion (λ e. e.0 ≡ key e.1) es → lookup (is_at (slice_cmp nat_cmp k)) es ≡ found key (values_of es) k
  lookup-keyed k [] all = refl
  lookup-keyed k (e ∷ es) all =
      let same : is_eq (slice_cmp nat_cmp k e.0) ≡ same_key k (key e.1) = sym (texts_ties k e.0) ∙ ap (same_key k) all.0
      in (λ i. cond (same i) (Some e.1) (lookup-keyed k es all.1 i))

  module _ (k : List ℕ) (x : T) (is : k ≡ key x) where
    -- what is inserted at its key is the row put at its place
    pub values_of-insert_entry : (es : List (List ℕ × T)) → AllByRecursion (λ e. e.0 ≡ key e.1) es → values_of (insert_entry (slice_cmp nat_cmp) es k x) ≡ with_row key (values_of es) x
    values_of-insert_entry [] all = refl
    values_of-insert_entry (e ∷ es) all =
        step (slice_cmp nat_cmp k e.0) (values_of-insert_entry es all.1)
        ∙ (λ i. match_ordering (slice_cmp nat_cmp (is i) (all.0 i)) (x ∷ e.1 ∷ values_of es) (x ∷ values_of es) (e.1 ∷ with_row key (values_of es) x))
      where
        step : (o : Ordering) → values_of (insert_entry (slice_cmp nat_cmp) es k x) ≡ with_row key (values_of es) x → values_of (match_ordering o ((k, x) ∷ e ∷ es) ((e.0, x) ∷ es) (e ∷ insert_entry (slice_cmp nat_cmp) es k x)) ≡ match_ordering o (x ∷ e.1 ∷ values_of es) (x ∷ values_of es) (e.1 ∷ with_row key (values_of es) x)
        step Less later = refl
        step Equal later = refl
        step Greater later = ap (λ rows. e.1 ∷ rows) later

    pub keyed-insert_entry : (es : List (List ℕ × T)) → AllByRecursion (λ e. e.0 ≡ key e.1) es → AllByRecursion (λ e. e.0 ≡ key e.1) (insert_entry (slice_cmp nat_cmp) es k x)
    keyed-insert_entry [] all = (is, tt)
    keyed-insert_entry (e ∷ es) all = step (slice_cmp nat_cmp k e.0) refl (keyed-insert_entry es all.1)
      where
        step : (o : Ordering) → slice_cmp nat_cmp k e.0 ≡ o → AllByRecursion (λ e. e.0 ≡ key e.1) (insert_entry (slice_cmp nat_cmp) es k x) → AllByRecursion (λ e. e.0 ≡ key e.1) (match_ordering o ((k, x) ∷ e ∷ es) ((e.0, x) ∷ es) (e ∷ insert_entry (slice_cmp nat_cmp) es k x))
        step Less at later = (is, all)
        step Equal at later = (sym (exact_bytes k e.0 at) ∙ is, all.1)
        step Greater at later = (all.0, later)

-- what is inserted at a new key and taken out again leaves the entries
pub remove_entry-insert_entry : {T : Type 0} (k : List ℕ) (x : T) (es : List (List ℕ × T)) → lookup (is_at (slice_cmp nat_cmp k)) es ≡ None → remove_entry (is_at (slice_cmp nat_cmp k)) (insert_entry (slice_cmp nat_cmp) es k x) ≡ es
remove_entry-insert_entry k x [] none = ap (λ b. cond b [] ((k, x) ∷ [])) (at_itself k)
remove_entry-insert_entry {T} k x (e ∷ es) none = step (slice_cmp nat_cmp k e.0) refl (remove_entry-insert_entry k x es) none
  where
    test : List ℕ → Bool
    test = is_at (slice_cmp nat_cmp k)

    step : (o : Ordering) → slice_cmp nat_cmp k e.0 ≡ o → (lookup test es ≡ None → remove_entry test (insert_entry (slice_cmp nat_cmp) es k x) ≡ es) → cond (is_eq o) (Some e.1) (lookup test es) ≡ None → remove_entry test (match_ordering o ((k, x) ∷ e ∷ es) ((e.0, x) ∷ es) (e ∷ insert_entry (slice_cmp nat_cmp) es k x)) ≡ e ∷ es
    step Less at later none = ap (λ b. cond b (e ∷ es) ((k, x) ∷ remove_entry test (e ∷ es))) (at_itself k)
    step Equal at later none = cc
    step Greater at later none =
        ap (λ o. cond (is_eq o) (insert_entry (slice_cmp nat_cmp) es k x) (e ∷ remove_entry test (insert_entry (slice_cmp nat_cmp) es k x))) at
        ∙ ap (λ rest. e ∷ rest) (later none)

-- a digest is found exactly where a user has it
pub is_some-digest_entry : (names digests : List (List ℕ × UserRow)) (digest : List ℕ) → IsUserDraft names digests → is_some (lookup (is_at (slice_cmp nat_cmp digest)) digests) ≡ has_digest (values_of names) digest
is_some-digest_entry names digests digest draft =
    ap is_some (lookup-keyed (λ (user : UserRow). user.digest) digest digests draft.digested)
    ∙ ap is_some (draft.table.indexed digest)
    ∙ is_some-find (λ (user : UserRow). same_digest digest user.digest) (values_of names)

-- a name is found exactly where a user has it
pub is_some-name_entry : (names : List (List ℕ × UserRow)) (name : List ℕ) → AllByRecursion (λ e. e.0 ≡ e.1.name) names → is_some (lookup (is_at (slice_cmp nat_cmp name)) names) ≡ has_user (values_of names) name
is_some-name_entry names name named =
    ap is_some (lookup-keyed (λ (user : UserRow). user.name) name names named)
    ∙ is_some-find (λ (user : UserRow). same_name name user.name) (values_of names)

-- what is new is not found
pub not_found : (new found has : Bool) → new ≡ not found → found ≡ has → new ≡ true → has ≡ false
not_found new true has is same sure = cc
not_found new false has is same sure = sym same

-- what is not new is found
pub is_found : (new found has : Bool) → new ≡ not found → found ≡ has → new ≡ false → has ≡ true
is_found new true has is same sure = sym same
is_found new false has is same sure = cc

-- a user is new where neither the name nor the digest is found
pub neither_found : (name digest : Bool) → name ≡ false → digest ≡ false → true ≡ not (name || digest)
neither_found name digest no_name no_digest = (λ i. not (sym no_name i || sym no_digest i))

pub name_found : (name digest : Bool) → name ≡ true → false ≡ not (name || digest)
name_found name digest has = ap (λ b. not (b || digest)) (sym has)

pub digest_found : (name digest : Bool) → digest ≡ true → false ≡ not (name || digest)
digest_found true digest has = refl
digest_found false digest has = ap not (sym has)

-- the entries of one more user
pub IsUserDraft-insert : (names digests : List (List ℕ × UserRow)) (n d : List ℕ) (x y : UserRow) → n ≡ x.name → d ≡ y.digest → y ≡ x → IsUserDraft names digests → has_user (values_of names) x.name ≡ false → has_digest (values_of names) x.digest ≡ false → IsUserDraft (insert_entry (slice_cmp nat_cmp) names n x) (insert_entry (slice_cmp nat_cmp) digests d y)
IsUserDraft-insert names digests n d x y named digested same draft new_name new_digest =
    let by_name : values_of (insert_entry (slice_cmp nat_cmp) names n x) ≡ with_user (values_of names) x =
    values_of-insert_entry (λ (user : UserRow). user.name) n x named names draft.named
    in let by_digest : values_of (insert_entry (slice_cmp nat_cmp) digests d y) ≡ with_row (λ (user : UserRow). user.digest) (values_of digests) x =
    values_of-insert_entry (λ (user : UserRow). user.digest) d y digested digests draft.digested ∙ ap (with_row (λ (user : UserRow). user.digest) (values_of digests)) same
    in record {
      named = keyed-insert_entry (λ (user : UserRow). user.name) n x named names draft.named;
      digested = keyed-insert_entry (λ (user : UserRow). user.digest) d y digested digests draft.digested;
      table = rw (by_name, by_digest) (IsUserTable-insert (values_of names) (values_of digests) x draft.table new_name new_digest);
    }
