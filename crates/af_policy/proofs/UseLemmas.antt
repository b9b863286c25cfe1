-- How often a role is counted after a change, and how often users name it.
use Rattle.std.proofs.Common.{◌≡◌, ℕ, is_some, ◌+◌, ◌-◌, ◌<◌, length, take, get_or, List, [], ◌∷◌, Bool, true, false, not, ◌&&◌, ◌||◌, cond, Option, Some, None, refl, sym, ap, ◌∙◌, eqb, map, unwrap_or, arith}
use Rattle.std.specs.List.{find, list_all, list_any}
use Rattle.std.specs.Option.{option_map_or}
use Rattle.std.specs.Ordering.{nat_cmp, match_ordering}
use Rattle.std.specs.declared.cmp.Ordering.{Ordering}
use Rattle.std.specs.declared.cmp.Ordering.TheVariants.{Less, Equal, Greater}
use Rattle.std.specs.Cmp.Lexicographic.{slice_cmp, bytes_decides, nat_list_eq_equiv, texts_ties}
use Rattle.std.specs.BTreeMap.{BTreeMap, get, is_at}
use Rattle.std.specs.Map.{keys_of, lookup}
use Rattle.std.proofs.lemmas.List.Sums.{sum_by-cons, sum_by-append}
use Rattle.std.proofs.lemmas.List.Folds.{sum_by-zero}
use Rattle.std.proofs.lemmas.Bool.Decides.{Decides-eqb}
use Rattle.std.specs.Cmp.{both_ways}
use Rattle.std.proofs.lemmas.Map.Keys.{sorted_tail}
use Rattle.af_role.proofs.AccessLemmas.{take_more}
use Rattle.af_policy.specs.Rows.{NamesAscend, UserRow, found_user, has_user, role_in_use, same_name, user_names, with_user, without_user}
use Rattle.af_policy.specs.Uses.{UseRow, count_at, count_in, is_counted, mentions, use_rows, uses_in}
use Rattle.af_policy.proofs.NameLemmas.{fresh, is_some-find}
use Rattle.af_policy.proofs.FoundLemmas.{found_with, found_without}
use Rattle.af_policy.proofs.OrderLemmas.{none_from, none_without}
use Rattle.af_policy.proofs.RemovalLemmas.{find-passes}
use Rattle.af_policy.proofs.RemovalLemmas.{find-passes}
use Rattle.af_policy.proofs.UserLemmas.{not_tied, or-false_left, or-false_right}
use Rattle.af_policy.specs.SharedRows.{found, with_row, without}

-- a count put at a name
pub count_at-put : (row : UseRow) (uses : List UseRow) (name : List ℕ) → count_at (with_row (λ entry. entry.name) uses row) name ≡ cond (same_name name row.name) row.count (count_at uses name)
count_at-put row uses name =
    ap (λ o. option_map_or (λ entry. entry.count) o 0) (found_with (λ entry. entry.name) row uses name)
    ∙ step (same_name name row.name)
  where
    step : (b : Bool) → option_map_or (λ (entry : UseRow). entry.count) (cond b (Some row) (find (λ entry. same_name name entry.name) uses)) 0 ≡ cond b row.count (count_at uses name)
    step true = refl
    step false = refl

-- no count at a name
pub count_at-remove : (gone : List ℕ) (uses : List UseRow) (name : List ℕ) → count_at (without (λ entry. entry.name) uses gone) name ≡ cond (same_name name gone) 0 (count_at uses name)
count_at-remove gone uses name =
    ap (λ o. option_map_or (λ entry. entry.count) o 0) (found_without (λ entry. entry.name) gone uses name)
    ∙ step (same_name gone name)
    ∙ ap (λ b. cond b 0 (count_at uses name)) (nat_list_eq_equiv.symm gone name)
  where
    step : (b : Bool) → option_map_or (λ (entry : UseRow). entry.count) (cond b None (find (λ entry. same_name name entry.name) uses)) 0 ≡ cond b 0 (count_at uses name)
    step true = refl
    step false = refl

-- what stands at a name that is the changed one is what stood there
pub at_same : {X : Type 0} (f : List ℕ → X) (other name : List ℕ) (rest : X) (g : X → X) → cond (same_name other name) (g (f name)) rest ≡ cond (same_name other name) (g (f other)) rest
at_same f other name rest g = step (same_name other name) refl
  where
    step : (b : Bool) → same_name other name ≡ b → cond b (g (f name)) rest ≡ cond b (g (f other)) rest
    step true is = ap (λ n. g (f n)) (sym ((bytes_decides other name).0 is))
    step false is = refl

pub count_put : (g : ℕ → ℕ) (uses made : List UseRow) (row : UseRow) (name : List ℕ) → made ≡ with_row (λ entry. entry.name) uses row → row.name ≡ name → row.count ≡ g (count_at uses name) → (other : List ℕ) → count_at made other ≡ cond (same_name other name) (g (count_at uses other)) (count_at uses other)
count_put g uses made row name put is counts other =
    ap (λ rows. count_at rows other) put
    ∙ count_at-put row uses other
    ∙ (λ i. cond (same_name other (is i)) (counts i) (count_at uses other))
    ∙ at_same (count_at uses) other name (count_at uses other) g

pub count_removed : (g : ℕ → ℕ) (uses made : List UseRow) (gone name : List ℕ) → made ≡ without (λ entry. entry.name) uses gone → gone ≡ name → 0 ≡ g (count_at uses name) → (other : List ℕ) → count_at made other ≡ cond (same_name other name) (g (count_at uses other)) (count_at uses other)
count_removed g uses made gone name out is counts other =
    ap (λ rows. count_at rows other) out
    ∙ count_at-remove gone uses other
    ∙ (λ i. cond (same_name other (is i)) (counts i) (count_at uses other))
    ∙ at_same (count_at uses) other name (count_at uses other) g

-- one more counted at a name of a map
pub counted_in : (counts made : BTreeMap (List ℕ) ℕ) (name other : List ℕ) (more : ℕ) → ((q : List ℕ) → get (slice_cmp nat_cmp) made q ≡ cond (is_at (slice_cmp nat_cmp name) q) (Some more) (get (slice_cmp nat_cmp) counts q)) → more ≡ count_in counts name + 1 → count_in made other ≡ cond (same_name other name) (count_in counts other + 1) (count_in counts other)
counted_in counts made name other more put is =
    ap (λ o. unwrap_or o 0) (put other)
    ∙ ap (λ b. unwrap_or (cond b (Some more) (get (slice_cmp nat_cmp) counts other)) 0) (sym (texts_ties name other) ∙ nat_list_eq_equiv.symm name other)
    ∙ step (same_name other name)
    ∙ (λ i. cond (same_name other name) (is i) (count_in counts other))
    ∙ at_same (count_in counts) other name (count_in counts other) (λ n. n + 1)
  where
    step : (b : Bool) → unwrap_or (cond b (Some more) (get (slice_cmp nat_cmp) counts other)) 0 ≡ cond b more (count_in counts other)
    step true = refl
    step false = refl

-- the rows of a map of counts have its names and its counts
pub names_of-use_rows : (es : List (List ℕ × ℕ)) → map (λ (row : UseRow). row.name) (use_rows es) ≡ keys_of es
names_of-use_rows [] = refl
names_of-use_rows (e ∷ es) = ap (λ names. e.0 ∷ names) (names_of-use_rows es)

pub count_at-use_rows : (name : List ℕ) (es : List (List ℕ × ℕ)) → count_at (use_rows es) name ≡ unwrap_or (lookup (is_at (slice_cmp nat_cmp name)) es) 0
count_at-use_rows name [] = refl
count_at-use_rows name (e ∷ es) =
    step (same_name name e.0) (count_at-use_rows name es)
    ∙ ap (λ b. unwrap_or (cond b (Some e.1) (lookup (is_at (slice_cmp nat_cmp name)) es)) 0) (texts_ties name e.0)
  where
    step : (b : Bool) → count_at (use_rows es) name ≡ unwrap_or (lookup (is_at (slice_cmp nat_cmp name)) es) 0 → option_map_or (λ (entry : UseRow). entry.count) (cond b (Some (record { name = e.0; count = e.1 })) (find (λ (entry : UseRow). same_name name entry.name) (use_rows es))) 0 ≡ unwrap_or (cond b (Some e.1) (lookup (is_at (slice_cmp nat_cmp name)) es)) 0
    step true later = refl
    step false later = later

-- one name more among these
uses_in-more : (names : List (List ℕ)) (i : ℕ) (name other : List ℕ) → name ≡ get_or names i name → i < length names → uses_in (take (i + 1) names) other ≡ uses_in (take i names) other + cond (same_name other name) 1 0
uses_in-more names i name other is below =
    ap (λ some. uses_in some other) (take_more names i name is below)
    ∙ sum_by-append (λ role. cond (same_name other role) 1 0) (take i names) (name ∷ [])
    ∙ ap (λ n. uses_in (take i names) other + n) (sum_by-cons (λ role. cond (same_name other role) 1 0) name [] ∙ omega arith)

pub counted_more : (names : List (List ℕ)) (i : ℕ) (name other : List ℕ) (start now after : ℕ) → name ≡ get_or names i name → i < length names → now ≡ start + uses_in (take i names) other → after ≡ cond (same_name other name) (now + 1) now → after ≡ start + uses_in (take (i + 1) names) other
counted_more names i name other start now after is below so then_after =
    then_after ∙ step (same_name other name) ∙ ap (λ n. start + n) (sym (uses_in-more names i name other is below))
  where
    step : (b : Bool) → cond b (now + 1) now ≡ start + (uses_in (take i names) other + cond b 1 0)
    step true = omega (arith, so)
    step false = omega (arith, so)

pub counted_less : (names : List (List ℕ)) (i : ℕ) (name other : List ℕ) (start now after : ℕ) → name ≡ get_or names i name → i < length names → now ≡ start - uses_in (take i names) other → after ≡ cond (same_name other name) (now - 1) now → after ≡ start - uses_in (take (i + 1) names) other
counted_less names i name other start now after is below so then_after =
    then_after ∙ step (same_name other name) ∙ ap (λ n. start - n) (sym (uses_in-more names i name other is below))
  where
    step : (b : Bool) → cond b (now - 1) now ≡ start - (uses_in (take i names) other + cond b 1 0)
    step true = omega (arith, so)
    step false = omega (arith, so)

-- one user more among these
pub mentions_more : (users : List UserRow) (i : ℕ) (user : UserRow) (role : List ℕ) (now after : ℕ) → user ≡ get_or users i user → i < length users → now ≡ mentions (take i users) role → after ≡ now + uses_in user.roles role → after ≡ mentions (take (i + 1) users) role
mentions_more users i user role now after is below so then_after =
    then_after
    ∙ (λ j. so j + uses_in user.roles role)
    ∙ sym (ap (λ some. mentions some role) (take_more users i user is below)
    ∙ sum_by-append (λ one. uses_in one.roles role) (take i users) (user ∷ [])
    ∙ ap (λ n. mentions (take i users) role + n) (sum_by-cons (λ one. uses_in one.roles role) user [] ∙ omega arith))

-- a user more
pub mentions-with_user : (row : UserRow) (name : List ℕ) (users : List UserRow) → has_user users row.name ≡ false → mentions (with_user users row) name ≡ mentions users name + uses_in row.roles name
mentions-with_user row name [] new = omega arith
mentions-with_user row name (x ∷ xs) new =
    step (slice_cmp nat_cmp row.name x.name) refl
    (mentions-with_user row name xs (or-false_right (same_name row.name x.name) (has_user xs row.name) new))
  where
    f : UserRow → ℕ
    f user = uses_in user.roles name

    step : (o : Ordering) → slice_cmp nat_cmp row.name x.name ≡ o → mentions (with_user xs row) name ≡ mentions xs name + uses_in row.roles name → mentions (match_ordering o (row ∷ x ∷ xs) (row ∷ xs) (x ∷ with_user xs row)) name ≡ mentions (x ∷ xs) name + uses_in row.roles name
    step Less is later = sum_by-cons (λ user. uses_in user.roles name) row (x ∷ xs) ∙ omega arith
    step Equal is later =
        let e : true ≡ false = not_tied row.name x.name (or-false_left (same_name row.name x.name) (has_user xs row.name) new) is
        in cc
    step Greater is later =
        let whole : mentions (x ∷ xs) name ≡ uses_in x.roles name + mentions xs name = sum_by-cons (λ user. uses_in user.roles name) x xs
        in let made : mentions (x ∷ with_user xs row) name ≡ uses_in x.roles name + mentions (with_user xs row) name = sum_by-cons (λ user. uses_in user.roles name) x (with_user xs row)
        in omega (arith, whole, made, later)

-- no user of a name that ascends above
pub absent_after : (x : UserRow) (xs : List UserRow) (name : List ℕ) → NamesAscend (user_names (x ∷ xs)) → same_name name x.name ≡ true → found_user xs name ≡ None
absent_after x xs name ascend is =
    none_from (found_user xs name)
    (is_some-find (λ user. same_name name user.name) xs
    ∙ ap (λ n. has_user xs n) ((bytes_decides name x.name).0 is)
    ∙ fresh (λ user. user.name) x xs ascend)

-- a user less
pub mentions-without_user : (row : UserRow) (gone name : List ℕ) (users : List UserRow) → NamesAscend (user_names users) → found_user users gone ≡ Some row → mentions users name ≡ mentions (without_user users gone) name + uses_in row.roles name
mentions-without_user row gone name [] ascend found = cc
mentions-without_user row gone name (x ∷ xs) ascend found =
    step (same_name gone x.name) refl found (mentions-without_user row gone name xs (sorted_tail (slice_cmp nat_cmp) x.name (user_names xs) ascend))
  where
    whole : mentions (x ∷ xs) name ≡ uses_in x.roles name + mentions xs name
    whole = sum_by-cons (λ user. uses_in user.roles name) x xs

    step : (b : Bool) → same_name gone x.name ≡ b → cond b (Some x) (found_user xs gone) ≡ Some row → (found_user xs gone ≡ Some row → mentions xs name ≡ mentions (without_user xs gone) name + uses_in row.roles name) → mentions (x ∷ xs) name ≡ mentions (cond (not b) (x ∷ without_user xs gone) (without_user xs gone)) name + uses_in row.roles name
    step true is e later =
        let same : x ≡ row = cc
        in let rest : mentions (without_user xs gone) name ≡ mentions xs name = ap (λ users. mentions users name) (none_without (λ user. user.name) gone xs (absent_after x xs gone ascend is))
        in let roles : uses_in x.roles name ≡ uses_in row.roles name = ap (λ (user : UserRow). uses_in user.roles name) same
        in omega (arith, whole, rest, roles)
    step false is e later =
        let made : mentions (x ∷ without_user xs gone) name ≡ uses_in x.roles name + mentions (without_user xs gone) name = sum_by-cons (λ user. uses_in user.roles name) x (without_user xs gone)
        in let rest : mentions xs name ≡ mentions (without_user xs gone) name + uses_in row.roles name = later e
        in omega (arith, whole, made, rest)

-- ---- a role is in use exactly where it is named

not_all : {X : Type 0} (p q : X → Bool) → ((x : X) → p x ≡ not (q x)) → (xs : List X) → list_any p xs ≡ not (list_all q xs)
not_all p q each [] = refl
not_all p q each (x ∷ xs) = step (q x) (each x) (not_all p q each xs)
  where
    step : (b : Bool) → p x ≡ not b → list_any p xs ≡ not (list_all q xs) → (p x || list_any p xs) ≡ not (b && list_all q xs)
    step true is later = (λ i. is i || later i)
    step false is later = (λ i. is i || list_any p xs)

one_or_none : (b : Bool) → b ≡ not (eqb (cond b 1 0) 0)
one_or_none true = refl
one_or_none false = refl

named_in : (roles : List (List ℕ)) (name : List ℕ) → list_any (λ role. same_name role name) roles ≡ not (eqb (uses_in roles name) 0)
named_in roles name =
    not_all (λ role. same_name role name) (λ role. eqb (cond (same_name name role) 1 0) 0)
    (λ role. nat_list_eq_equiv.symm role name ∙ one_or_none (same_name name role)) roles
    ∙ ap not (sym (sum_by-zero (λ role. cond (same_name name role) 1 0) roles))

pub role_in_use-mentions : (users : List UserRow) (name : List ℕ) → role_in_use users name ≡ not (eqb (mentions users name) 0)
role_in_use-mentions users name =
    not_all (λ user. list_any (λ role. same_name role name) user.roles) (λ user. eqb (uses_in user.roles name) 0)
    (λ user. named_in user.roles name) users
    ∙ ap not (sym (sum_by-zero (λ user. uses_in user.roles name) users))

-- all are of one and others exactly where the others are none
pub others_count : (all own others : ℕ) → all ≡ others + own → not (eqb all own) ≡ not (eqb others 0)
others_count all own others is =
    ap not (both_ways (eqb all own) (eqb others 0)
    (λ e. let same : all ≡ own = (Decides-eqb all own).0 e in (Decides-eqb others 0).1 (omega (arith, same, is)))
    (λ e. let none : others ≡ 0 = (Decides-eqb others 0).0 e in (Decides-eqb all own).1 (omega (arith, none, is))))

-- ---- the row of a role that is counted

module _ (uses : List UseRow) (name bytes : List ℕ) (same : bytes ≡ name) where
  at_bytes : found (λ (row : UseRow). row.name) uses bytes ≡ found (λ (row : UseRow). row.name) uses name
  at_bytes = ap (found (λ (row : UseRow). row.name) uses) same

  module _ (row : UseRow) (is : Some row ≡ found (λ (row : UseRow). row.name) uses bytes) where
    pub use_named : row.name ≡ name
    use_named = sym ((bytes_decides name row.name).0 (find-passes (λ row. same_name name row.name) uses row (sym (is ∙ at_bytes))))

    pub use_found : is_some (found (λ (row : UseRow). row.name) uses row.name) ≡ true
    use_found = ap (λ n. is_some (found (λ (row : UseRow). row.name) uses n)) use_named ∙ ap is_some (sym (is ∙ at_bytes))

    pub use_counted : count_at uses name ≡ row.count
    use_counted = ap (λ (o : Option UseRow). option_map_or (λ (row : UseRow). row.count) o 0) (sym (is ∙ at_bytes))

  module _ (is : None ≡ found (λ (row : UseRow). row.name) uses bytes) where
    pub not_counted : count_at uses name ≡ 0
    not_counted = ap (λ (o : Option UseRow). option_map_or (λ (row : UseRow). row.count) o 0) (sym (is ∙ at_bytes))

    pub none_taken : (other : List ℕ) → count_at uses other ≡ cond (same_name other name) (count_at uses other - 1) (count_at uses other)
    none_taken other = step (same_name other name) refl
      where
        step : (b : Bool) → same_name other name ≡ b → count_at uses other ≡ cond b (count_at uses other - 1) (count_at uses other)
        step false e = refl
        step true e =
            let none : count_at uses other ≡ 0 = ap (count_at uses) ((bytes_decides other name).0 e) ∙ not_counted
            in none ∙ ap (λ n. n - 1) (sym none)

-- a name that is not counted is none that is
pub uncounted : (after now : ℕ) (name other : List ℕ) → false ≡ is_counted name → is_counted other ≡ true → now ≡ cond (same_name other name) after now
uncounted after now name other none counted = step (same_name other name) refl
  where
    step : (b : Bool) → same_name other name ≡ b → now ≡ cond b after now
    step false e = refl
    step true e =
        let same : true ≡ false = sym counted ∙ ap is_counted ((bytes_decides other name).0 e) ∙ sym none
        in cc
