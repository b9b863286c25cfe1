-- Sets of actions, as bits.
use Rattle.std.specs.Prelude.{ℕ, Bool, ◌==◌}
use Rattle.std.specs.Int.RustNames.{bit_and}
use Rattle.af_role.specs.declared.actions.Actions.{Actions}
use Rattle.af_role.specs.declared.action.Action.{Action}
use Rattle.af_role.specs.declared.action.Action.TheVariants.{Create, Read, Edit, Delete}

abbrev pub bit_of : Action → ℕ
bit_of Create = 1
bit_of Read = 2
bit_of Edit = 4
bit_of Delete = 8

abbrev pub bits_of : Actions → ℕ
bits_of set = set.0

abbrev pub has : Actions → Action → Bool
has set action = bit_and (bits_of set) (bit_of action) == bit_of action
