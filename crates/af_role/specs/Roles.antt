-- What contracts see of a role (Airflow 2, "Access Control": a role is a set of permissions).
use Rattle.std.specs.Prelude.{ℕ, List, Bool}
use Rattle.std.specs.List.{list_any}
use Rattle.af_role.specs.Pairs.{PairRow, same_pair}

-- the permissions stand in the order in which they are shown, each once
pub record RoleRow : Type 0 where
  pub name : List ℕ
  pub pairs : List PairRow

abbrev pub contains_pair : List PairRow → PairRow → Bool
contains_pair pairs pair = list_any (λ own. same_pair own pair) pairs

abbrev pub lists : RoleRow → PairRow → Bool
lists role pair = contains_pair role.pairs pair
