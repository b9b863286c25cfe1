-- The rows of a tree, from left to right.
use Rattle.std.specs.Prelude.{List, [], ◌∷◌, ◌++◌, Option, Some, None}
use Rattle.std.specs.declared.sync.Arc.{Arc}
use Rattle.af_policy.specs.declared.shared.node.Node.{Node, Node', Held-Node-left, None', Some'}

abbrev mutual
  pub rows : {T : Type 0} → Node T → List T
  rows (Node' low rest left right height) = rows_behind left ++ low ∷ (rest ++ rows_behind right)

  pub rows_behind : {T : Type 0} → Held-Node-left T → List T
  rows_behind None' = []
  rows_behind (Some' p n) = rows n

abbrev pub link_rows : {T Z : Type 0} → Option (Arc (Node T) Z) → List T
link_rows None = []
link_rows (Some arc) = rows arc.value
