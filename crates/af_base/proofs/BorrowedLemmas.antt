-- A JSON value over borrowed text: its levels, its lists and objects as they grow, and the last member of a name.
use Rattle.std.proofs.Common.{◌≡◌, ◌∙◌, ℕ, List, [], ◌∷◌, ◌++◌, Option, Some, None, Bool, true, false, cond, map, Vec, Global, Bor, refl, sym, ap, rules, true≢false}
use Rattle.std.proofs.lemmas.Slice.Eq.{bytes_eq-Decides}
use Rattle.std.specs.Str.{bytes_eq}
use Rattle.json.specs.Json.{parse_map}
use Rattle.json.specs.Token.{Token}
use Rattle.serde_json.specs.Data.{Data, array, object, Items, no_items, item, Members, no_members, put}
use Rattle.serde_json.specs.Find.{get_member}
use Rattle.serde_json.specs.View.{items_of}
use Rattle.serde_json.proofs.Views.{get_member-put, get_member-put_other}
use Rattle.af_base.specs.JsonValue.{view, put_all, seen_members, members_view}
use Rattle.af_base.specs.declared.json_value.Json.{Json, Array, Object, the_lemmas}

abbrev pub Entry : Type 0
Entry = Bor (List ℕ) × Json

pub view-Array : (v : Vec Json Global) → view (Array v) ≡ array (items_of (map view v.items))
view-Array v = search (rules, the_lemmas)

pub view-Object : (v : Vec Entry Global) → view (Object v) ≡ object (members_view v.items)
view-Object v = search (rules, the_lemmas)

-- ---- a list that grows at its end

abbrev pub items_before : List Json → Items → Items
items_before [] rest = rest
items_before (v ∷ vs) rest = item (view v) (items_before vs rest)

pub items_before-no_items : (vs : List Json) → items_before vs no_items ≡ items_of (map view vs)
items_before-no_items [] = refl
items_before-no_items (v ∷ vs) = ap (item (view v)) (items_before-no_items vs)

items_push : (vs : List Json) (v : Json) (rest : Items) → items_before vs (item (view v) rest) ≡ items_before (vs ++ v ∷ []) rest
items_push [] v rest = refl
items_push (w ∷ vs) v rest = ap (item (view w)) (items_push vs v rest)

pub one_more_item : (vs : List Json) (v : Json) (r : Option (Items × List Token)) → parse_map (items_before vs) (parse_map (item (view v)) r) ≡ parse_map (items_before (vs ++ v ∷ [])) r
one_more_item vs v None = refl
one_more_item vs v (Some p) = ap (λ ds. Some (ds, p.1)) (items_push vs v p.0)

pub none_before : (r : Option (Items × List Token)) → r ≡ parse_map (λ a. a) r
none_before None = refl
none_before (Some p) = refl

-- ---- an object that grows at its end

one_more_put : (es : List Entry) (e : Entry) (found : Members) → put_all (seen_members (es ++ e ∷ [])) found ≡ put e.0.now (view e.1) (put_all (seen_members es) found)
one_more_put [] e found = refl
one_more_put (first ∷ es) e found = one_more_put es e (put first.0.now (view first.1) found)

pub one_more_member : (es : List Entry) (e : Entry) → members_view (es ++ e ∷ []) ≡ put e.0.now (view e.1) (members_view es)
one_more_member es e = one_more_put es e no_members

-- ---- the last member of a name

last_by : (b : Bool) (name key : List ℕ) (d : Data) (members : Members) → bytes_eq key name ≡ b
    → get_member name (put key d members) ≡ cond b (Some d) (get_member name members)
last_by true name key d members is =
    let same : key ≡ name = (bytes_eq-Decides key name).0 is in
    rw same (get_member-put name d members)
last_by false name key d members is =
    get_member-put_other name key d members (λ same. true≢false (sym ((bytes_eq-Decides key name).1 (sym same)) ∙ is))

pub get_member-one_more : (name : List ℕ) (es : List Entry) (e : Entry)
    → get_member name (members_view (es ++ e ∷ [])) ≡ cond (bytes_eq e.0.now name) (Some (view e.1)) (get_member name (members_view es))
get_member-one_more name es e =
    ap (get_member name) (one_more_member es e) ∙ last_by (bytes_eq e.0.now name) name e.0.now (view e.1) (members_view es) refl
