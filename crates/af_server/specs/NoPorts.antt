-- Why a server gets no port, and the line that says so (this product's own rule).
use Rattle.std.specs.Prelude.{ℕ, List, [], ◌∷◌, ◌++◌, codes, decimal}
use Rattle.std.specs.declared.io.ErrorKind.{ErrorKind}
use Rattle.std.specs.declared.io.ErrorKind.TheVariants.{AddrInUse, AddrNotAvailable, PermissionDenied}

-- the port that was asked for, and the error of the machine
pub record NoPortRows : Type 0 where
  pub port : ℕ
  pub error : ErrorKind

abbrev pub why_text : ErrorKind → List ℕ
why_text AddrInUse = codes "the port is in use"
why_text AddrNotAvailable = codes "the address is not available"
why_text PermissionDenied = codes "permission denied"
why_text _ = codes "the system gives no listener"

abbrev pub no_port_line : ℕ → ErrorKind → List ℕ
no_port_line port error = codes "afplane: cannot listen on 127.0.0.1:" ++ (decimal port ++ (codes ": " ++ (why_text error ++ 10 ∷ [])))
