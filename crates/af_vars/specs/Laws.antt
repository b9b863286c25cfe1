-- Laws about variables, in words of their own: what was written last is what is read, and a write touches one key alone.
use Rattle.std.specs.Prelude.{ℕ, ◌≡◌, List, Some, None, option_map, nat_eq, if◌then◌else◌}
use Rattle.std.specs.Cmp.Lexicographic.{pointwise}
use Rattle.af_vars.specs.declared.variable.Variable.{Variable}
use Rattle.af_vars.specs.Variables.{value_of, with_variable, with_value, without_variable}

-- a variable that was added holds its text, and each other one what it held
abbrev pub TheAddedIsRead : Type 0
TheAddedIsRead = (variables : List Variable) (variable : Variable) (key : List ℕ) → value_of (with_variable variables variable) key ≡ (if pointwise nat_eq variable.key key then Some variable.value else value_of variables key)

-- a variable that was there holds the text that it got, and each other one what it held
abbrev pub TheLastTextIsRead : Type 0
TheLastTextIsRead = (variables : List Variable) (key value other : List ℕ) → value_of (with_value variables key value) other ≡ (if pointwise nat_eq key other then option_map (λ _. value) (value_of variables other) else value_of variables other)

-- a variable that was removed holds nothing, and each other one what it held
abbrev pub TheRemovedIsGone : Type 0
TheRemovedIsGone = (variables : List Variable) (key other : List ℕ) → value_of (without_variable variables key) other ≡ (if pointwise nat_eq key other then None else value_of variables other)
