-- Lists of which some rows are kept: what is found, filtered and cut of them.
use Rattle.std.proofs.Common.{◌≡◌, ◌∙◌, refl, ap, Bool, true, false, cond, List, [], ◌∷◌, map, take, drop}
use Rattle.std.specs.Prelude.{◌||◌, Some, filter, find, option_map}
use Rattle.std.specs.List.{list_any}
use Rattle.std.proofs.lemmas.List.{drop-map, take-map}
use Rattle.af_listing.specs.Pages.{cut}
use Rattle.af_listing.specs.Windows.{Cut}

module _ {X : Type 0} (p q : X → Bool) (implies : (x : X) → p x ≡ true → q x ≡ true) where
  -- what is found is among the rows kept
  pub find_kept : (xs : List X) → find p xs ≡ find p (filter q xs)
  find_kept [] = refl
  find_kept (x ∷ xs) = by (p x) (q x) refl refl (find_kept xs)
    where
      by : (b c : Bool) → p x ≡ b → q x ≡ c → find p xs ≡ find p (filter q xs) → cond b (Some x) (find p xs) ≡ find p (cond c (x ∷ filter q xs) (filter q xs))
      by true true is keeps rest = rw is refl
      by true false is keeps rest = absurd (cc (implies x is))
      by false true is keeps rest = rw is rest
      by false false is keeps rest = rest

  -- what passes is kept
  pub filter_kept : (xs : List X) → filter p xs ≡ filter p (filter q xs)
  filter_kept [] = refl
  filter_kept (x ∷ xs) = by (p x) (q x) refl refl (filter_kept xs)
    where
      by : (b c : Bool) → p x ≡ b → q x ≡ c → filter p xs ≡ filter p (filter q xs) → cond b (x ∷ filter p xs) (filter p xs) ≡ filter p (cond c (x ∷ filter q xs) (filter q xs))
      by true true is keeps rest = rw is (ap (λ (ys : List X). x ∷ ys) rest)
      by true false is keeps rest = absurd (cc (implies x is))
      by false true is keeps rest = rw is rest
      by false false is keeps rest = rest

module _ {X Y : Type 0} (f : X → Y) (p : Y → Bool) where
  pub find_map : (xs : List X) → find p (map f xs) ≡ option_map f (find (λ (x : X). p (f x)) xs)
  find_map [] = refl
  find_map (x ∷ xs) = by (p (f x)) (find_map xs)
    where
      by : (b : Bool) → find p (map f xs) ≡ option_map f (find (λ (z : X). p (f z)) xs) → cond b (Some (f x)) (find p (map f xs)) ≡ option_map f (cond b (Some x) (find (λ (z : X). p (f z)) xs))
      by true rest = refl
      by false rest = rest

  pub filter_map : (xs : List X) → filter p (map f xs) ≡ map f (filter (λ (x : X). p (f x)) xs)
  filter_map [] = refl
  filter_map (x ∷ xs) = by (p (f x)) (filter_map xs)
    where
      by : (b : Bool) → filter p (map f xs) ≡ map f (filter (λ (z : X). p (f z)) xs) → cond b (f x ∷ filter p (map f xs)) (filter p (map f xs)) ≡ map f (cond b (x ∷ filter (λ (z : X). p (f z)) xs) (filter (λ (z : X). p (f z)) xs))
      by true rest = ap (λ (ys : List Y). f x ∷ ys) rest
      by false rest = rest

  -- a page of rows, each of which a function changed
  pub cut_map : (window : Cut) (xs : List X) → cut window (map f xs) ≡ map f (cut window xs)
  cut_map window xs = ap (take window.limit) (drop-map f window.offset xs) ∙ take-map f window.limit (drop window.offset xs)

-- some row that is kept passes exactly if some row does
pub any_kept : {X K : Type 0} (test : K → Bool) (key : X → K) (q : X → Bool) → ((x : X) → test (key x) ≡ true → q x ≡ true) → (xs : List X) → list_any test (map key xs) ≡ list_any test (map key (filter q xs))
any_kept test key q implies [] = refl
any_kept {X} test key q implies (x ∷ xs) = by (test (key x)) (q x) refl refl (any_kept test key q implies xs)
  where
    by : (b c : Bool) → test (key x) ≡ b → q x ≡ c → list_any test (map key xs) ≡ list_any test (map key (filter q xs)) → (b || list_any test (map key xs)) ≡ list_any test (map key (cond c (x ∷ filter q xs) (filter q xs)))
    by true true is keeps rest = rw is refl
    by true false is keeps rest = absurd (cc (implies x is))
    by false true is keeps rest = rw is rest
    by false false is keeps rest = rest
