-- What is asked (this product's own rule).
use Rattle.std.specs.Prelude.{ℕ, List, Option, Bool, true, false, not, ◌&&◌}
use Rattle.af_ops.specs.declared.call.Call.{Call}
use Rattle.af_ops.specs.declared.call.Call.TheVariants as call
use Rattle.af_ops.specs.Endpoints.{endpoint_of}
use Rattle.af_ops.specs.Table.{is_open, reads_only}

-- Whether a call only reads: it is a GET on the state that is decided under a version, or a request for event logs. An open operation is
-- decided under none. Other calls may change nothing too, as a dry run does.
abbrev pub only_reads : Call → Bool
only_reads (call.State op) = reads_only (endpoint_of op) && not (is_open (endpoint_of op))
only_reads (call.Entries window) = true
only_reads (call.Policy asked) = false

-- a call, the token that came with it, and the time at which it is decided
pub record RequestRows : Type 0 where
  pub token : Option (List ℕ)
  pub call : Call
  pub at : ℕ
