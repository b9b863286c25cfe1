-- The texts of a path's parts, while they are gathered, for private clauses.
use Rattle.std.specs.Prelude.{ℕ, ◌≡◌, ◌+◌, List, [], ◌∷◌, ◌++◌, Bool, true, false, length, nat_lt, Option, Some, None, option_map, ⊤}
use Rattle.std.specs.List.{list_any}
use Rattle.af_ops.specs.Table.{Segment, Text, Part, segments_of}
use Rattle.af_ops.specs.declared.path_template.PathTemplate.{PathTemplate}
use Rattle.af_http.specs.Limits.{name_limit}
use Rattle.af_http.specs.Routes.{decoded, has_form, parts_in, template_of}
use Rattle.af_http.specs.declared.fit.Fit.{Fit}
use Rattle.af_http.specs.declared.fit.Fit.TheVariants.{Other, Unfit, Fits}

abbrev pub with_all : List (List ℕ) → Option (List (List ℕ)) → Option (List (List ℕ))
with_all parts more = option_map (λ rest. parts ++ rest) more

-- how many parts a path of these segments has
abbrev pub part_count : List Segment → ℕ
part_count [] = 0
part_count (Text text ∷ segments) = part_count segments
part_count (Part name ∷ segments) = 1 + part_count segments

-- it is too long for a name of any kind
abbrev pub is_long : List ℕ → Bool
is_long text = nat_lt name_limit (length text)

-- a part has no text, or one that is too long for a name
abbrev pub IsUnfitPart : Option (List ℕ) → Type 0
IsUnfitPart None = ⊤
IsUnfitPart (Some text) = is_long text ≡ true

-- the text of a part stands behind those before; a text of the table is no part
abbrev pub IsPut : Segment → List ℕ → List (List ℕ) → List (List ℕ) → Type 0
IsPut (Text text) piece old new = new ≡ old
IsPut (Part name) piece old new = (text : List ℕ) × (decoded piece ≡ Some text) × (new ≡ old ++ text ∷ [])

-- it is a part that has no text, or one that is too long for a name
abbrev pub IsLeftOut : Segment → List ℕ → Type 0
IsLeftOut (Text text) piece = ⊥
IsLeftOut (Part name) piece = IsUnfitPart (decoded piece)

-- one of a path's parts has no text, or one that is too long for a name
abbrev pub IsUnfit : Option (List (List ℕ)) → Type 0
IsUnfit None = ⊤
IsUnfit (Some texts) = list_any is_long texts ≡ true

-- what a path is to these segments; the texts of its parts stand behind those before
abbrev pub IsFit : List Segment → List ℕ → List (List ℕ) → List (List ℕ) → Fit → Type 0
IsFit segments path old new Other = has_form segments path ≡ false
IsFit segments path old new Unfit = (has_form segments path ≡ true) × IsUnfit (parts_in segments path)
IsFit segments path old new Fits = (has_form segments path ≡ true) × (with_all old (parts_in segments path) ≡ Some new)

-- the same where a part before has no text, or one that is too long for a name
abbrev pub unfit : Bool → Fit
unfit true = Unfit
unfit false = Other

-- this path of the table, with these texts of its parts; or none has them
abbrev pub IsFound : List ℕ → List (List ℕ) → Option PathTemplate → Type 0
IsFound path texts (Some template) = (template_of path ≡ Some template) × (parts_in (segments_of template) path ≡ Some texts)
IsFound path texts None = (template : PathTemplate) → template_of path ≡ Some template → IsUnfit (parts_in (segments_of template) path)
