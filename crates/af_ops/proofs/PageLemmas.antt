-- What is told of borrowed rows is told of the rows.
use Rattle.std.proofs.Common.{◌≡◌, ℕ, zero, suc, List, [], ◌∷◌, refl, ap, ap₂, sym, ◌∙◌, map, take, drop, length}
use Rattle.std.proofs.lemmas.List.{length-map}
use Rattle.serde_json.specs.Data.{Data}
use Rattle.serde_json.specs.Written.{compact_text}
use Rattle.af_listing.specs.Pages.{cut}
use Rattle.af_listing.specs.Windows.{Cut}
use Rattle.af_ops.specs.Fields.{Field, late_listing_of, list_of, listing_of, object_of}

pub map_now : {X Y Z : Type 0} (now : X → Y) (f : Y → Z) (xs : List X) → map (λ x. f (now x)) xs ≡ map f (map now xs)
map_now now f [] = refl
map_now now f (x ∷ xs) = ap (λ ys. f (now x) ∷ ys) (map_now now f xs)

map_take : {X Y : Type 0} (f : X → Y) (n : ℕ) (xs : List X) → map f (take n xs) ≡ take n (map f xs)
map_take f zero xs = refl
map_take f (suc n) [] = refl
map_take f (suc n) (x ∷ xs) = ap (λ ys. f x ∷ ys) (map_take f n xs)

map_drop : {X Y : Type 0} (f : X → Y) (n : ℕ) (xs : List X) → map f (drop n xs) ≡ drop n (map f xs)
map_drop f zero xs = refl
map_drop f (suc n) [] = refl
map_drop f (suc n) (x ∷ xs) = map_drop f n xs

-- a page of borrowed rows
pub page_now : {X Y Z : Type 0} (now : X → Y) (f : Y → Z) (window : Cut) (xs : List X) (ys : List Y) → map now xs ≡ ys → map (λ x. f (now x)) (cut window xs) ≡ map f (cut window ys)
page_now now f window xs ys is =
    map_now now f (cut window xs)
    ∙ ap (map f) (map_take now window.limit (drop window.offset xs) ∙ ap (take window.limit) (map_drop now window.offset xs ∙ ap (drop window.offset) is))

-- a listing of a page of borrowed rows
pub listing_now : {X Y : Type 0} (name : List ℕ) (now : X → Y) (f : Y → List Field) (window : Cut) (shown xs : List X) (ys : List Y) (total : ℕ) → shown ≡ cut window xs → map now xs ≡ ys → total ≡ length xs
    → compact_text (listing_of name (map (λ x. object_of (f (now x))) shown) total) ≡ compact_text (listing_of name (map (λ y. object_of (f y)) (cut window ys)) (length ys))
listing_now name now f window shown xs ys total page is count =
    ap₂ (λ (rows : List Data) (n : ℕ). compact_text (listing_of name rows n))
    (ap (map (λ x. object_of (f (now x)))) page ∙ page_now now (λ y. object_of (f y)) window xs ys is)
    (count ∙ sym (length-map xs now) ∙ ap length is)

-- a listing of all of some borrowed rows
pub all_now : {X Y : Type 0} (name : List ℕ) (now : X → Y) (f : Y → List Field) (xs : List X) (ys : List Y) (total count : ℕ) → map now xs ≡ ys → total ≡ count
    → compact_text (listing_of name (map (λ x. object_of (f (now x))) xs) total) ≡ compact_text (listing_of name (map (λ y. object_of (f y)) ys) count)
all_now name now f xs ys total count is counts =
    ap₂ (λ (rows : List Data) (n : ℕ). compact_text (listing_of name rows n)) (map_now now (λ y. object_of (f y)) xs ∙ ap (map (λ y. object_of (f y))) is) counts

-- a listing of rows that are those
pub all_same : {Y : Type 0} (name : List ℕ) (f : Y → List Field) (xs ys : List Y) (total count : ℕ) → xs ≡ ys → total ≡ count
    → compact_text (listing_of name (map (λ y. object_of (f y)) xs) total) ≡ compact_text (listing_of name (map (λ y. object_of (f y)) ys) count)
all_same {Y} name f xs ys total count is counts = ap₂ (λ (rows : List Y) (n : ℕ). compact_text (listing_of name (map (λ y. object_of (f y)) rows) n)) is counts

-- a list that is told whole of some borrowed rows
pub list_now : {X Y : Type 0} (name : List ℕ) (now : X → Y) (f : Y → List Field) (xs : List X) (ys : List Y) → map now xs ≡ ys
    → compact_text (list_of name (map (λ x. object_of (f (now x))) xs)) ≡ compact_text (list_of name (map (λ y. object_of (f y)) ys))
list_now name now f xs ys is =
    ap (λ (rows : List Data). compact_text (list_of name rows)) (map_now now (λ y. object_of (f y)) xs ∙ ap (map (λ y. object_of (f y))) is)

-- a listing whose rows' name stands after the total's, of some borrowed rows
pub late_now : {X Y : Type 0} (name : List ℕ) (now : X → Y) (f : Y → List Field) (xs : List X) (ys : List Y) (total count : ℕ) → map now xs ≡ ys → total ≡ count
    → compact_text (late_listing_of name (map (λ x. object_of (f (now x))) xs) total) ≡ compact_text (late_listing_of name (map (λ y. object_of (f y)) ys) count)
late_now name now f xs ys total count is counts =
    ap₂ (λ (rows : List Data) (n : ℕ). compact_text (late_listing_of name rows n)) (map_now now (λ y. object_of (f y)) xs ∙ ap (map (λ y. object_of (f y))) is) counts
