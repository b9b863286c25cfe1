-- The text of a value reads back as the value: where no number is below 0, none is past 64 bits, members stand in order, and nothing nests too deep.
use Rattle.std.proofs.Common.{◌≡◌, ◌∙◌, ℕ, zero, suc, ◌^◌, ◌<◌, ◌≤◌, List, [], Option, Some, option_and_then, option_map, refl, sym, ap, arith, append-nil}
use Rattle.std.specs.Prelude.{⊤}
use Rattle.json.specs.Token.{Token}
use Rattle.json.specs.Lex.{tokens}
use Rattle.json.specs.Json as json
use Rattle.json.specs.Tree as tree
use Rattle.json.specs.Tree.{HasNumbers, ItemsHaveNumbers, MembersHaveNumbers, json_tokens}
use Rattle.json.proofs.Printed.Decimals.{IsNumber-decimal}
use Rattle.json.proofs.Printed.Tokens.{tokens-print}
use Rattle.json.proofs.Printed.Trees.{ArePrintable-json_tokens, value-json_tokens}
use Rattle.serde_json.specs.Data.{unsigned, negative, float, Data, null, boolean, number, string, array, object, Items, no_items, item, Members, no_members, member, put}
use Rattle.serde_json.specs.Read.{max_depth, of_items, of_json, of_members, read}
use Rattle.serde_json.specs.Written.{compact_text, items_outline, members_outline, outline}
use Rattle.serde_json.proofs.Numbers.{number_of-decimal}
use Rattle.serde_json.proofs.Texts.{print-outline}

-- members put among others, one after another
abbrev pub put_each : Members → Members → Members
put_each no_members found = found
put_each (member name value members) found = put_each members (put name value found)

abbrev mutual
  -- it reads back, and nests at most so deep
  pub IsTold : ℕ → Data → Type 0
  IsTold n null = ⊤
  IsTold n (boolean b) = ⊤
  IsTold n (number (unsigned k)) = k < 2 ^ 64
  IsTold n (number (negative z)) = ⊥
  IsTold n (number (float x)) = ⊥
  IsTold n (string s) = ⊤
  IsTold zero (array ds) = ⊥
  IsTold (suc n) (array ds) = ItemsAreTold n ds
  IsTold zero (object ms) = ⊥
  IsTold (suc n) (object ms) = (put_each ms no_members ≡ ms) × MembersAreTold n ms

  pub ItemsAreTold : ℕ → Items → Type 0
  ItemsAreTold n no_items = ⊤
  ItemsAreTold n (item d ds) = IsTold n d × ItemsAreTold n ds

  pub MembersAreTold : ℕ → Members → Type 0
  MembersAreTold n no_members = ⊤
  MembersAreTold n (member k d ms) = IsTold n d × MembersAreTold n ms

mutual
  depth-outline : (n : ℕ) (d : Data) → IsTold n d → tree.depth (outline d) ≤ n
  depth-outline n null h = omega arith
  depth-outline n (boolean b) h = omega arith
  depth-outline n (number (unsigned k)) h = omega arith
  depth-outline n (number (negative z)) h = absurd h
  depth-outline n (number (float x)) h = absurd h
  depth-outline n (string s) h = omega arith
  depth-outline zero (array ds) h = absurd h
  depth-outline (suc n) (array ds) h = let e = items_depth-outline n ds h in omega arith
  depth-outline zero (object ms) h = absurd h
  depth-outline (suc n) (object ms) h = let e = members_depth-outline n ms h.1 in omega arith

  items_depth-outline : (n : ℕ) (ds : Items) → ItemsAreTold n ds → tree.items_depth (items_outline ds) ≤ n
  items_depth-outline n no_items h = omega arith
  items_depth-outline n (item d ds) h = let e = depth-outline n d h.0 in let f = items_depth-outline n ds h.1 in omega arith

  members_depth-outline : (n : ℕ) (ms : Members) → MembersAreTold n ms → tree.members_depth (members_outline ms) ≤ n
  members_depth-outline n no_members h = omega arith
  members_depth-outline n (member k d ms) h = let e = depth-outline n d h.0 in let f = members_depth-outline n ms h.1 in omega arith

mutual
  HasNumbers-outline : (n : ℕ) (d : Data) → IsTold n d → HasNumbers (outline d)
  HasNumbers-outline n null h = tt
  HasNumbers-outline n (boolean b) h = tt
  HasNumbers-outline n (number (unsigned k)) h = IsNumber-decimal k h
  HasNumbers-outline n (number (negative z)) h = absurd h
  HasNumbers-outline n (number (float x)) h = absurd h
  HasNumbers-outline n (string s) h = tt
  HasNumbers-outline zero (array ds) h = absurd h
  HasNumbers-outline (suc n) (array ds) h = ItemsHaveNumbers-outline n ds h
  HasNumbers-outline zero (object ms) h = absurd h
  HasNumbers-outline (suc n) (object ms) h = MembersHaveNumbers-outline n ms h.1

  ItemsHaveNumbers-outline : (n : ℕ) (ds : Items) → ItemsAreTold n ds → ItemsHaveNumbers (items_outline ds)
  ItemsHaveNumbers-outline n no_items h = tt
  ItemsHaveNumbers-outline n (item d ds) h = (HasNumbers-outline n d h.0, ItemsHaveNumbers-outline n ds h.1)

  MembersHaveNumbers-outline : (n : ℕ) (ms : Members) → MembersAreTold n ms → MembersHaveNumbers (members_outline ms)
  MembersHaveNumbers-outline n no_members h = tt
  MembersHaveNumbers-outline n (member k d ms) h = (HasNumbers-outline n d h.0, MembersHaveNumbers-outline n ms h.1)

mutual
  of_json-outline : (n : ℕ) (d : Data) → IsTold n d → of_json (outline d) ≡ Some d
  of_json-outline n null h = refl
  of_json-outline n (boolean b) h = refl
  of_json-outline n (number (unsigned k)) h = ap (option_map number) (number_of-decimal k h)
  of_json-outline n (number (negative z)) h = absurd h
  of_json-outline n (number (float x)) h = absurd h
  of_json-outline n (string s) h = refl
  of_json-outline zero (array ds) h = absurd h
  of_json-outline (suc n) (array ds) h = ap (option_map array) (of_items-outline n ds h)
  of_json-outline zero (object ms) h = absurd h
  of_json-outline (suc n) (object ms) h =
      ap (option_map object) (of_members-outline n ms no_members h.1) ∙ ap (λ (found : Members). Some (object found)) h.0

  of_items-outline : (n : ℕ) (ds : Items) → ItemsAreTold n ds → of_items (items_outline ds) ≡ Some ds
  of_items-outline n no_items h = refl
  of_items-outline n (item d ds) h =
      ap (option_and_then (λ (e : Data). option_map (item e) (of_items (items_outline ds)))) (of_json-outline n d h.0)
      ∙ ap (option_map (item d)) (of_items-outline n ds h.1)

  of_members-outline : (n : ℕ) (ms found : Members) → MembersAreTold n ms → of_members (members_outline ms) found ≡ Some (put_each ms found)
  of_members-outline n no_members found h = refl
  of_members-outline n (member k d ms) found h =
      ap (option_and_then (λ (e : Data). of_members (members_outline ms) (put k e found))) (of_json-outline n d h.0)
      ∙ of_members-outline n ms (put k d found) h.1

abbrev whole : Option (json.Json × List Token) → Option Data
whole read_whole = option_and_then of_json (option_and_then (λ p. json.if_last p.0 p.1) read_whole)

-- the text of a value reads back as the value
pub read-compact_text : (n : ℕ) (d : Data) → IsTold n d → n ≤ 127 → read (compact_text d) ≡ Some d
read-compact_text n d told shallow =
    let ts = json_tokens (outline d) in
    let lexed : tokens (compact_text d) ≡ ts =
    ap tokens (sym (print-outline d)) ∙ tokens-print ts (ArePrintable-json_tokens (outline d) (HasNumbers-outline n d told)) in
    let low = depth-outline n d told in
    ap whole (ap (json.value max_depth) (lexed ∙ sym (append-nil ts)) ∙ value-json_tokens (outline d) max_depth [] (omega arith))
    ∙ of_json-outline n d told
