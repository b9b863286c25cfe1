-- The methods of the API (RFC 9110, section 9; RFC 5789), by their names, which are case-sensitive.
use Rattle.std.specs.Prelude.{ℕ, List, [], ◌∷◌, Bool, Option, nat_eq, codes}
use Rattle.std.specs.List.{find}
use Rattle.std.specs.Cmp.Lexicographic.{pointwise}
use Rattle.std.specs.Ordering.{on}
use Rattle.af_ops.specs.declared.method.Method.{Method}
use Rattle.af_ops.specs.declared.method.Method.TheVariants.{Get, Post, Patch, Delete}

-- in the order in which `Allow` lists them
abbrev pub methods : List Method
methods = Get ∷ Post ∷ Patch ∷ Delete ∷ []

abbrev pub method_name : Method → List ℕ
method_name Get = codes "GET"
method_name Post = codes "POST"
method_name Patch = codes "PATCH"
method_name Delete = codes "DELETE"

-- a method's place in that order
abbrev pub method_rank : Method → ℕ
method_rank Get = 0
method_rank Post = 1
method_rank Patch = 2
method_rank Delete = 3

abbrev pub same_method : Method → Method → Bool
same_method = on method_rank nat_eq

-- the method of that name
abbrev pub method_of : List ℕ → Option Method
method_of name = find (λ it. pointwise nat_eq name (method_name it)) methods
