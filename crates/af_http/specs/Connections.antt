-- A connection, from one moment of its reader, its writer and its service to another.
use Rattle.std.specs.Prelude.{◌≡◌, ◌+◌, ◌*◌, ◌≤◌, ℕ, Bool, List, ◌++◌, Option}
use Rattle.std.specs.Io.KnownBytes.{Appends}
use Rattle.af_ops.specs.declared.call.Call.{Call}
use Rattle.af_ops.specs.declared.served.Served.{Served}
use Rattle.af_http.specs.Limits.{read_limit, request_limit}
use Rattle.af_http.specs.Streams.{Given, Taken}
use Rattle.af_http.specs.Run.{Run, write_faults}
use Rattle.af_http.specs.Reads.{Reads}
use Rattle.af_http.specs.declared.ended.Ended.{Ended}

module _ {S : Type 0} (answers : S → Option (List ℕ) → Call → Served → S → Type 0) where
  -- The bytes that were read in it, those that were written, and how it ended, are those of a run. Each request of it was
  -- awaited in at most 65,536 reads, as was its end, and there are at most as many for each of 1,000 requests. A fault of
  -- the reader or the writer is told where one call of it failed, and there alone.
  pub record Connects (before after : Given) (start finish : Taken) (old new : S) (e : Ended) : Type 0 where
    pub text : List ℕ
    pub out : List ℕ
    -- a read found the end of the input
    pub ended : Bool
    pub came : after.bytes ≡ before.bytes ++ text
    pub went : finish.bytes ≡ start.bytes ++ out
    pub held : Appends start.contents finish.contents out
    pub run : Run answers old ended text e out finish new
    pub reads : Reads before after run.exchanges ended e
    pub few : after.reads ≤ before.reads + read_limit * request_limit
    pub faults : finish.failures ≡ start.failures + write_faults e
