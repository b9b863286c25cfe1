-- What one item more decides of what items make, where those that are left decide the whole: for loops over JSON values.
use Rattle.std.proofs.Common.{◌≡◌, ◌∙◌, ◌<◌, ◌≤◌, ◌+◌, ℕ, List, ◌∷◌, length, get_or, drop, map, sym, ap, Result, Ok, Err}
use Rattle.std.proofs.lemmas.List.{at_drop_all, at_drop_more}
use Rattle.serde_json.specs.Data.{Data}
use Rattle.af_base.specs.JsonValue.{view}
use Rattle.af_base.specs.declared.json_value.Json.{Json}
use Rattle.af_base.specs.Readings.{◌>>=◌, taking}

module _ {S E : Type 0} (take_item : S → Data → Result S E) (items : List Json) (whole : Result S E) (i : ℕ) where
  -- what the items that are left make of what is made
  abbrev left : S → Result S E
  left made = taking take_item made (map view (drop i items))

  abbrev after : S → Result S E
  after made = taking take_item made (map view (drop (i + 1) items))

  -- the item that is next decides as it is taken
  next_item : (item : Json) (made : S) (step : Result S E) → i < length items → item ≡ get_or items i item → take_item made (view item) ≡ step → left made ≡ (step >>= after)
  next_item item made step inside is taken =
      at_drop_more (λ (xs : List Json). taking take_item made (map view xs)) items i item inside
      ∙ ap (λ (x : Json). taking take_item made (view x ∷ map view (drop (i + 1) items))) (sym is)
      ∙ ap (λ (r : Result S E). r >>= after) taken

  -- after an item that is taken those that are left decide
  pub item_taken : (item : Json) (made more : S) → i < length items → item ≡ get_or items i item → take_item made (view item) ≡ Ok more → left made ≡ whole → after more ≡ whole
  item_taken item made more inside is taken decide = sym (next_item item made (Ok more) inside is taken) ∙ decide

  -- an item that can't be taken decides the whole
  pub item_refused : (item : Json) (made : S) (fault : E) → i < length items → item ≡ get_or items i item → take_item made (view item) ≡ Err fault → left made ≡ whole → whole ≡ Err fault
  item_refused item made fault inside is refused decide = sym decide ∙ next_item item made (Err fault) inside is refused

  -- where no item is left, the whole is what was made
  pub items_taken : (made : S) → length items ≤ i → left made ≡ whole → whole ≡ Ok made
  items_taken made past decide = sym decide ∙ at_drop_all (λ (xs : List Json). taking take_item made (map view xs)) items i past
