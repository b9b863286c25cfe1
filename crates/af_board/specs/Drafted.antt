-- What contracts see of a draft and of a receipt. This product's own rule.
use Rattle.std.specs.Prelude.{ℕ, List}
use Rattle.boxcar.specs.Table.{Where}
use Rattle.af_policy.specs.Rows.{PolicyRows}
use Rattle.af_policy.specs.declared.change.Change.{Change}
use Rattle.af_board.specs.Marks.{Marked}

-- a draft: the author, the change, the version under which it was decided, and the place and the token of the policy that it makes
pub record Drafted : Type 0 where
  pub author : List ℕ
  pub change : Change
  pub base : Marked
  pub place : ℕ
  pub pushed : Where PolicyRows

-- a receipt: the author, the change, the version under which it was decided, and the version that it made
pub record Received : Type 0 where
  pub author : List ℕ
  pub change : Change
  pub base : Marked
  pub mark : Marked
