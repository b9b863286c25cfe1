-- The entries of a map of names and values stand for the members of an object, as they go in one after another.
use Rattle.std.proofs.Common.{◌≡◌, ◌∙◌, ℕ, List, [], ◌∷◌, ◌++◌, Bor, Ordering, Less, Equal, Greater, nat_cmp, refl, ap}
use Rattle.std.specs.Cmp.Lexicographic.{slice_cmp}
use Rattle.std.specs.Ordering.{match_ordering}
use Rattle.std.specs.BTreeMap.{insert_entry}
use Rattle.serde_json.specs.Data.{Data, Members, no_members, put}
use Rattle.af_base.specs.JsonValue.{members_view, put_all, seen_members, view}
use Rattle.af_base.specs.declared.json_value.Json.{Json}
use Rattle.af_ops.specs.AccessTexts.{entries_view, fields_of, object_of}

abbrev pub Entry : Type 0
Entry = Bor (List ℕ) × Bor Json

pub fields_of-object_of : (members : List (List ℕ × Data)) → fields_of (object_of members) ≡ members
fields_of-object_of [] = refl
fields_of-object_of (it ∷ rest) = ap (λ (more : List (List ℕ × Data)). it ∷ more) (fields_of-object_of rest)

entries_view-match_ordering : (o : Ordering) (a b c : List Entry) → entries_view (match_ordering o a b c) ≡ match_ordering o (entries_view a) (entries_view b) (entries_view c)
entries_view-match_ordering Less a b c = refl
entries_view-match_ordering Equal a b c = refl
entries_view-match_ordering Greater a b c = refl

-- an entry that goes in is a member that goes in
pub entries_view-insert_entry : (es : List Entry) (name : Bor (List ℕ)) (value : Bor Json)
    → entries_view (insert_entry (λ x y. slice_cmp nat_cmp x.now y.now) es name value) ≡ put name.now (view value.now) (entries_view es)
entries_view-insert_entry [] name value = refl
entries_view-insert_entry (e ∷ es) name value =
    entries_view-match_ordering (slice_cmp nat_cmp name.now e.0.now) _ _ _ ∙ rw (entries_view-insert_entry es name value)

-- entries behind none
pub entries_view-behind : (before es made : List Entry) → before ≡ [] → made ≡ before ++ es → entries_view made ≡ entries_view es
entries_view-behind before es made none is = ap entries_view (is ∙ ap (λ (first : List Entry). first ++ es) none)

-- ---- an object that grows at its end

one_more_put : (es : List (Bor (List ℕ) × Json)) (e : Bor (List ℕ) × Json) (found : Members) → put_all (seen_members (es ++ e ∷ [])) found ≡ put e.0.now (view e.1) (put_all (seen_members es) found)
one_more_put [] e found = refl
one_more_put (first ∷ es) e found = one_more_put es e (put first.0.now (view first.1) found)

pub one_more_member : (es : List (Bor (List ℕ) × Json)) (e : Bor (List ℕ) × Json) → members_view (es ++ e ∷ []) ≡ put e.0.now (view e.1) (members_view es)
one_more_member es e = one_more_put es e no_members
