-- Roles put in their places one by one, each as it is after a sync.
use Rattle.std.proofs.Common.{◌≡◌, ◌⊎◌, true, ℕ, suc, ◌+◌, ◌<◌, length, take, drop, get_or, List, [], ◌∷◌, ◌++◌, refl, sym, ap, subst, ◌∙◌, map, Bor, ⊎_elim, drop-cons, add-one, append_assoc}
use Rattle.std.specs.Ordering.{nat_cmp, ordering_reverse}
use Rattle.std.specs.declared.cmp.Ordering.{Ordering}
use Rattle.std.specs.declared.cmp.Ordering.TheVariants.{Less, Equal, Greater}
use Rattle.std.specs.Cmp.Lexicographic.{slice_cmp}
use Rattle.std.proofs.lemmas.Cmp.{nat_list_cmp_total}
use Rattle.af_role.proofs.AccessLemmas.{take_more}
use Rattle.std.specs.List.{list_all}
use Rattle.af_role.specs.Roles.{RoleRow}
use Rattle.af_role.specs.Access.{synced_role}
use Rattle.af_role.specs.declared.access.AccessRow.{AccessRow}
use Rattle.af_policy.specs.Rows.{UserRow, roles_exist, same_name}
use Rattle.af_policy.proofs.NameLemmas.{list_any-map}
use Rattle.af_policy.specs.SharedRows.{Ascend, seen, with_row}
use Rattle.af_policy.proofs.OrderLemmas.{stands, with_here}
use Rattle.std.proofs.lemmas.List.{map-append}

module _ {T : Type 0} (key : T → List ℕ) (f : T → T) (keeps : (x : T) → slice_cmp nat_cmp (key (f x)) (key x) ≡ Equal) where
  -- one row more is in its place
  pub put_each : (refs : List (Bor T)) (i : ℕ) (x : Bor T) (now after : List T) → x ≡ get_or refs i x → i < length refs → now ≡ map f (seen (take i refs)) ++ seen (drop i refs) → Ascend key now → (after ≡ with_row key now (f x.now)) ⊎ ((after ≡ now) × (f x.now ≡ x.now)) → after ≡ map f (seen (take (i + 1) refs)) ++ seen (drop (i + 1) refs)
  put_each refs i x now after is below so ascend put = ⊎_elim first second put ∙ ends
    where
      rest : seen (drop i refs) ≡ x.now ∷ (seen (drop (suc i) refs))
      rest = ap seen (drop-cons refs i x below ∙ ap (λ y. y ∷ drop (suc i) refs) (sym is))

      whole : now ≡ (map f (seen (take i refs))) ++ x.now ∷ (seen (drop (suc i) refs))
      whole = so ∙ ap (λ xs. map f (seen (take i refs)) ++ xs) rest

      first : after ≡ with_row key now (f x.now) → after ≡ (map f (seen (take i refs))) ++ f x.now ∷ (seen (drop (suc i) refs))
      first e =
          e ∙ ap (λ rows. with_row key rows (f x.now)) whole
          ∙ sym (with_here key (f x.now) (map f (seen (take i refs))) x.now (seen (drop (suc i) refs)) (stands key (map f (seen (take i refs))) x.now (seen (drop (suc i) refs)) (subst (Ascend key) whole ascend)) (keeps x.now))

      second : (after ≡ now) × (f x.now ≡ x.now) → after ≡ (map f (seen (take i refs))) ++ f x.now ∷ (seen (drop (suc i) refs))
      second e = e.0 ∙ whole ∙ ap (λ y. (map f (seen (take i refs))) ++ y ∷ (seen (drop (suc i) refs))) (sym e.1)

      more : map f (seen (take (i + 1) refs)) ≡ (map f (seen (take i refs))) ++ f x.now ∷ []
      more = ap (λ rows. map f (seen rows)) (take_more refs i x is below) ∙ ap (map f) (map-append _ (take i refs) (x ∷ [])) ∙ map-append f (seen (take i refs)) (x.now ∷ [])

      ends : (map f (seen (take i refs))) ++ f x.now ∷ (seen (drop (suc i) refs)) ≡ map f (seen (take (i + 1) refs)) ++ seen (drop (i + 1) refs)
      ends =
          sym (append_assoc (map f (seen (take i refs))) (f x.now ∷ []) (seen (drop (suc i) refs)))
          ∙ (λ j. sym more j ++ seen (drop (sym (add-one i) j) refs))

same_self : (o : Ordering) → o ≡ ordering_reverse o → o ≡ Equal
same_self Less e = cc
same_self Equal e = refl
same_self Greater e = cc

pub equal_self : (name : List ℕ) → slice_cmp nat_cmp name name ≡ Equal
equal_self name = same_self (slice_cmp nat_cmp name name) (nat_list_cmp_total.antisymm name name)

-- the roles of users are there still, since no name changes
pub roles_exist-synced : (users : List UserRow) (roles : List RoleRow) (dag : List ℕ) (access : List AccessRow) → roles_exist (record { users = users; roles = roles }) ≡ true → roles_exist (record { users = users; roles = map (synced_role dag access) roles }) ≡ true
roles_exist-synced users roles dag access exist =
    (λ i. list_all (λ user. list_all (λ name. list_any-map (λ role. same_name name role.name) (synced_role dag access) roles i) user.roles) users)
    ∙ exist
