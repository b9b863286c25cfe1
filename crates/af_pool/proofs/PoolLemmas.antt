-- The rows of the pools stay few, bounded and with the default pool.
use Rattle.std.proofs.Common.{◌≡◌, refl, sym, ◌∙◌, ap, ℕ, ◌<◌, ◌≤◌, List, [], ◌∷◌, map, length, get_or, set, Bool, true, false, not, nat_eq, subst, inl, inr, ◌⊎◌, arith}
use Rattle.std.specs.List.{Any, Contains, list_any}
use Rattle.std.specs.Cmp.Lexicographic.{pointwise, nat_list_eq_equiv, same_text}
use Rattle.std.specs.List.Sorted.{IsStrictlySortedBy}
use Rattle.std.proofs.lemmas.List.Elements.{All-set, All-filter, All-cons, All-nil}
use Rattle.std.proofs.lemmas.List.Edits.{length-insert}
use Rattle.std.proofs.lemmas.List.Folds.{list_any-from_Any}
use Rattle.std.proofs.lemmas.Map.Views.{any-filter_same}
use Rattle.std.proofs.Math.Seq.{map-set_same}
use Rattle.std.proofs.Math.ListN.{length-set}
use Rattle.af_base.specs.Ordered.{has_key}
use Rattle.af_base.specs.Places.{StandsAt, FitsAt}
use Rattle.af_base.proofs.OrderedLemmas.{order-insert, order-set, order-without, with_row-is_insert, with_change-is_set}
use Rattle.af_names.proofs.OrderLemmas.{list_any-inserted, All-inserted, list_any-map, length-filter_le}
use Rattle.af_graph.specs.Limits.{most_slots}
use Rattle.af_pool.specs.declared.pool.Pool.{Pool}
use Rattle.af_pool.specs.Pools.{ArePools, name_of, with_pool, with_slots, without_pool, default_name, most_pools, is_named, is_in_use, NeededStay}

-- the one pool that is there at first
pub default_alone : (slots : ℕ) → slots ≤ most_slots → ArePools (record { name = default_name; slots = slots } ∷ [])
unfolding IsStrictlySortedBy
default_alone slots bounded = record {
  in_order = (tt, tt);
  few = omega arith;
  bounded = All-cons (λ (pool : Pool). pool.slots ≤ most_slots) record { name = default_name; slots = slots } [] bounded (All-nil (λ (pool : Pool). pool.slots ≤ most_slots));
  has_default = refl;
}

-- one more pool, where its row fits
pub ArePools-with : (pools : List Pool) (pool : Pool) (place : ℕ) → FitsAt name_of pools pool.name place → ArePools pools → pool.slots ≤ most_slots → length pools < most_pools → ArePools (with_pool pools pool)
ArePools-with pools pool place fits are bounded few = rw (with_row-is_insert name_of pools pool place fits) record {
  in_order = order-insert name_of pools pool place fits are.in_order;
  few = rw (length-insert pools place pool fits.within) (omega arith);
  bounded = All-inserted (λ (other : Pool). other.slots ≤ most_slots) pools pool place are.bounded bounded;
  has_default = list_any-inserted (has_key name_of default_name) pools pool place are.has_default;
}

-- the row that stands at a place has other slots
pub ArePools-with_slots : (pools : List Pool) (name : List ℕ) (place slots : ℕ) → StandsAt name_of pools name place → ArePools pools → slots ≤ most_slots → ArePools (with_slots pools name slots)
ArePools-with_slots pools name place slots stands are bounded =
    let d : Pool = record { name = []; slots = 0 } in
    let row : Pool = record (get_or pools place d) { slots = slots } in
    let names : map name_of (set pools place row) ≡ map name_of pools = map-set_same name_of pools place row d refl in
    rw (with_change-is_set name_of pools name place stands (λ (pool : Pool). record pool { slots = slots }) d) record {
      in_order = order-set name_of pools place row d refl are.in_order;
      few = rw (length-set pools place row) are.few;
      bounded = All-set (λ (other : Pool). other.slots ≤ most_slots) pools place row bounded are.bounded;
      has_default =
          sym (list_any-map name_of (λ (n : List ℕ). pointwise nat_eq n default_name) (set pools place row))
          ∙ ap (list_any (λ (n : List ℕ). pointwise nat_eq n default_name)) names
          ∙ list_any-map name_of (λ (n : List ℕ). pointwise nat_eq n default_name) pools
          ∙ are.has_default;
    }

-- the rows without that of a pool that is not the default pool
pub ArePools-without : (pools : List Pool) (name : List ℕ) → ArePools pools → pointwise nat_eq name default_name ≡ false → ArePools (without_pool pools name)
ArePools-without pools name are other = record {
  in_order = order-without name_of pools name are.in_order;
  few = let le = length-filter_le (λ (pool : Pool). not (has_key name_of name pool)) pools in omega (arith, are.few, le);
  bounded = All-filter (λ (pool : Pool). not (has_key name_of name pool)) (λ (pool : Pool). pool.slots ≤ most_slots) pools are.bounded;
  has_default =
      any-filter_same (has_key name_of default_name) (λ pool. not (has_key name_of name pool)) true
      (λ pool is. ap not (nat_list_eq_equiv.congr pool.name default_name name is ∙ nat_list_eq_equiv.symm default_name name ∙ other)) pools
      ∙ are.has_default;
}

-- a text that is among the names is named
named : (names : List (List ℕ)) (name : List ℕ) → Contains names name → is_named names name ≡ true
named names name among =
    list_any-from_Any (λ (pool : List ℕ). pointwise nat_eq pool name) names (among.0, name, among.1, among.2, nat_list_eq_equiv.refl name)

-- what passes where another test, which fails, would
fails_too : (passes other : Bool) → (passes ≡ true → other ≡ true) → other ≡ false → passes ≡ false
fails_too false other follows fails = refl
fails_too true other follows fails = sym (follows refl) ∙ fails

-- where a pool that isn't needed is taken out, each that is needed stays
module _ {X : Type 0} (pools_of : X → List (List ℕ)) (rows : List X) where
  in_use : (name : List ℕ) → Any (λ row. Contains (pools_of row) name) rows → is_in_use pools_of rows name ≡ true
  in_use name some =
      list_any-from_Any (λ row. is_named (pools_of row) name) rows (some.0, some.1, some.2, some.3, named (pools_of some.1) name some.4)

  pub needed_stay : (pools : List Pool) (name : List ℕ) → pointwise nat_eq name default_name ≡ false → is_in_use pools_of rows name ≡ false → NeededStay pools_of rows pools (without_pool pools name)
  needed_stay pools name other free kept needed there =
      any-filter_same (has_key name_of kept) (λ pool. not (has_key name_of name pool)) true
      (λ pool is. ap not (nat_list_eq_equiv.congr pool.name kept name is ∙ apart needed)) pools
      ∙ there
    where
      apart : (kept ≡ default_name) ⊎ Any (λ row. Contains (pools_of row) kept) rows → pointwise nat_eq kept name ≡ false
      apart (inl is) = rw is (nat_list_eq_equiv.symm default_name name ∙ other)
      apart (inr used) =
          fails_too (pointwise nat_eq kept name) (is_in_use pools_of rows name)
          (λ same. subst (λ n. is_in_use pools_of rows n ≡ true) (same_text kept name (sym same)) (in_use kept used)) free
