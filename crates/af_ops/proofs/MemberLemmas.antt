-- A test of the names of an object's members, each once, is one of the members as the text has them.
use Rattle.std.proofs.Common.{◌≡◌, ◌∙◌, ℕ, List, [], ◌∷◌, Bool, true, false, ◌&&◌, Bor, Ordering, Less, Equal, Greater, nat_cmp, refl, sym, ap}
use Rattle.std.specs.List.{list_all}
use Rattle.std.specs.Cmp.Lexicographic.{bytes_decides, slice_cmp, texts_ties}
use Rattle.std.specs.Ordering.{is_eq, match_ordering}
use Rattle.serde_json.specs.Data.{Data, Members, no_members, member, put}
use Rattle.af_base.specs.JsonValue.{members_view, put_all, seen_members, view}
use Rattle.af_base.specs.declared.json_value.Json.{Json}
use Rattle.af_ops.specs.AccessTexts.{fields_of}

and_turn : (a b c : Bool) → (a && (b && c)) ≡ (b && (a && c))
and_turn true b c = refl
and_turn false true c = refl
and_turn false false c = refl

and_again : (a b : Bool) → (a && b) ≡ (a && (a && b))
and_again true b = refl
and_again false b = refl

and_moved : (a b c : Bool) → (a && (b && c)) ≡ ((b && a) && c)
and_moved true true c = refl
and_moved true false c = refl
and_moved false true c = refl
and_moved false false c = refl

and_all : (a : Bool) → (a && true) ≡ a
and_all true = refl
and_all false = refl

module _ (test : List ℕ → Bool) where
  abbrev All : Members → Bool
  All members = list_all (λ (field : List ℕ × Data). test field.0) (fields_of members)

  all_put : (name : List ℕ) (value : Data) (members : Members) → All (put name value members) ≡ (test name && All members)
  all_put name value no_members = refl
  all_put name value (member own held rest) = step (slice_cmp nat_cmp name own) refl (all_put name value rest)
    where
      step : (o : Ordering) → slice_cmp nat_cmp name own ≡ o → All (put name value rest) ≡ (test name && All rest)
          → All (match_ordering o (member name value (member own held rest)) (member own value rest) (member own held (put name value rest))) ≡ (test name && (test own && All rest))
      step Less is later = refl
      step Equal is later =
          let same : name ≡ own = (bytes_decides name own).0 (texts_ties name own ∙ ap is_eq is) in
          and_again (test own) (All rest) ∙ ap (λ (n : List ℕ). test n && (test own && All rest)) (sym same)
      step Greater is later = ap (λ (b : Bool). test own && b) later ∙ and_turn (test own) (test name) (All rest)

  all_put_all : (members : List (Bor (List ℕ) × Json)) (found : Members) → All (put_all (seen_members members) found) ≡ (list_all (λ (field : Bor (List ℕ) × Json). test field.0.now) members && All found)
  all_put_all [] found = refl
  all_put_all (field ∷ members) found =
      all_put_all members (put field.0.now (view field.1) found)
      ∙ ap (λ (b : Bool). list_all (λ (it : Bor (List ℕ) × Json). test it.0.now) members && b) (all_put field.0.now (view field.1) found)
      ∙ and_moved (list_all (λ (it : Bor (List ℕ) × Json). test it.0.now) members) (test field.0.now) (All found)

  pub all_names : (members : List (Bor (List ℕ) × Json)) → list_all (λ (field : Bor (List ℕ) × Json). test field.0.now) members ≡ All (members_view members)
  all_names members = sym (all_put_all members no_members ∙ and_all (list_all (λ (field : Bor (List ℕ) × Json). test field.0.now) members))
