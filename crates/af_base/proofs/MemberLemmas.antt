-- The values of a list are those that its view was made of.
use Rattle.std.proofs.Common.{◌≡◌, List, [], ◌∷◌, refl, ap}
use Rattle.serde_json.specs.Data.{Data}
use Rattle.serde_json.specs.View.{items_of}
use Rattle.af_base.specs.Members.{values_of}

pub values_of-items_of : (values : List Data) → values_of (items_of values) ≡ values
values_of-items_of [] = refl
values_of-items_of (value ∷ values) = ap (λ (rest : List Data). value ∷ rest) (values_of-items_of values)
