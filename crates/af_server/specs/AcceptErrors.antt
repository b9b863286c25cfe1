-- What an error of accept says of the connections that come after it (accept(2) and errno(3) of Linux).
use Rattle.std.specs.Prelude.{ℕ, List, [], ◌∷◌, ◌==◌, ℤ, pos, negsuc, Option, Some, None, cond}
use Rattle.std.specs.List.{list_any}
use Rattle.af_server.specs.declared.host.accept_error.AcceptError.{AcceptError}
use Rattle.af_server.specs.declared.host.accept_error.AcceptError.TheVariants.{Gone, Short, Final}

-- ENOMEM, ENFILE, EMFILE and ENOBUFS: what is short comes back
abbrev pub short_numbers : List ℕ
short_numbers = 12 ∷ 23 ∷ 24 ∷ 105 ∷ []

-- EPERM, EINTR, ENONET, EPROTO, ENOPROTOOPT, EOPNOTSUPP, ENETDOWN, ENETUNREACH, ECONNABORTED, ETIMEDOUT, EHOSTDOWN and EHOSTUNREACH: one
-- connection failed before it was accepted
abbrev pub gone_numbers : List ℕ
gone_numbers = 1 ∷ 4 ∷ 64 ∷ 71 ∷ 92 ∷ 95 ∷ 100 ∷ 101 ∷ 103 ∷ 110 ∷ 112 ∷ 113 ∷ []

abbrev pub by_number : ℕ → AcceptError
by_number n = cond (list_any (λ k. n == k) short_numbers) Short (cond (list_any (λ k. n == k) gone_numbers) Gone Final)

abbrev pub accept_error_of : Option ℤ → AcceptError
accept_error_of None = Final
accept_error_of (Some (negsuc n)) = Final
accept_error_of (Some (pos n)) = by_number n
