-- What one item more decides of what items make, where those that are left decide the whole: for loops over items that are seen
-- as others.
use Rattle.std.proofs.Common.{◌≡◌, ◌∙◌, ◌<◌, ◌≤◌, ◌+◌, ℕ, List, ◌∷◌, length, get_or, drop, map, sym, ap, Result, Ok, Err}
use Rattle.std.proofs.lemmas.List.{at_drop_all, at_drop_more}
use Rattle.af_base.specs.Readings.{◌>>=◌, taking}

module _ {S E X Y : Type 0} (see : X → Y) (take_item : S → Y → Result S E) (items : List X) (whole : Result S E) (i : ℕ) where
  -- what the items that are left make of what is made
  abbrev left : S → Result S E
  left made = taking take_item made (map see (drop i items))

  abbrev after : S → Result S E
  after made = taking take_item made (map see (drop (i + 1) items))

  -- the item that is next decides as it is taken
  next_item : (item : X) (made : S) (step : Result S E) → i < length items → item ≡ get_or items i item → take_item made (see item) ≡ step → left made ≡ (step >>= after)
  next_item item made step inside is taken =
      at_drop_more (λ (xs : List X). taking take_item made (map see xs)) items i item inside
      ∙ ap (λ (x : X). taking take_item made (see x ∷ map see (drop (i + 1) items))) (sym is)
      ∙ ap (λ (r : Result S E). r >>= after) taken

  -- after an item that is taken those that are left decide
  pub seen_taken : (item : X) (made more : S) → i < length items → item ≡ get_or items i item → take_item made (see item) ≡ Ok more → left made ≡ whole → after more ≡ whole
  seen_taken item made more inside is taken decide = sym (next_item item made (Ok more) inside is taken) ∙ decide

  -- an item that can't be taken decides the whole
  pub seen_refused : (item : X) (made : S) (fault : E) → i < length items → item ≡ get_or items i item → take_item made (see item) ≡ Err fault → left made ≡ whole → whole ≡ Err fault
  seen_refused item made fault inside is refused decide = sym decide ∙ next_item item made (Err fault) inside is refused

  -- where no item is left, the whole is what was made
  pub all_taken : (made : S) → length items ≤ i → left made ≡ whole → whole ≡ Ok made
  all_taken made past decide = sym decide ∙ at_drop_all (λ (xs : List X). taking take_item made (map see xs)) items i past
