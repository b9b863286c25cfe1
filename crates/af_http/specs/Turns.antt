-- What the parts of a turn do, over the bytes that they are given.
use Rattle.std.specs.Prelude.{◌≡◌, ◌+◌, ◌*◌, ◌≤◌, ◌<◌, ◌⊎◌, ℕ, Bool, true, false, cond, List, [], ◌++◌, length, take, drop, Option, Some, None, Ok}
use Rattle.httparse.specs.Grammar.{RequestHead}
use Rattle.af_ops.specs.declared.call.Call.{Call}
use Rattle.af_ops.specs.declared.served.Served.{Served}
use Rattle.af_http.specs.Limits.{read_limit, request_limit}
use Rattle.af_http.specs.Streams.{Given, Waiting, Grew, one_if}
use Rattle.af_http.specs.Requests.{Asked, asked_by, body_length, is_head}
use Rattle.af_http.specs.Reading.{Begins, Parses, IsUnread, IsRefused, IsEmpty, IsOpen, at_end, refusal_text, status_of}
use Rattle.af_http.specs.Run.{Exchange, asked_in, exchange_text, exchanges_text, end_after, IsLeft, EndsOr, Makes, Answered}
use Rattle.af_http.specs.Reading.{Stand}
use Rattle.af_http.specs.Reads.{Awaits, Reads, read_faults}
use Rattle.af_http.specs.Sending.{Outlet, all_put, Broke, Puts}
use Rattle.af_http.specs.Fronts.{front_of}
use Rattle.af_http.specs.Gathering.{Holds, ends_of, failures_of}
use Rattle.af_http.specs.declared.gathering.Gathered.{Gathered}
use Rattle.af_http.specs.declared.refusal.Refusal.{Refusal}
use Rattle.af_http.specs.declared.handled.Handled.{Handled}
use Rattle.af_http.specs.declared.handled.Handled.TheVariants.{Over, Short}
use Rattle.af_http.specs.declared.ended.Ended.{Ended}
use Rattle.af_http.specs.declared.ended.Ended.TheVariants as end

-- what a part of a turn comes to: nothing yet or an end; a failed write is one
abbrev pub or_fault : Bool → Option Ended → Option Ended
or_fault failed e = cond failed (Some end.WriteFault) e

-- no request is answered, this is put, and the run ends so, unless a write fails; ended: a read found the end
abbrev pub Stops : Waiting → Bool → List ℕ → List ℕ → Ended → Type 0
Stops w ended text all end.Closed = IsEmpty text × (ended ≡ true) × (all ≡ [])
Stops w ended text all end.ReadFault = IsOpen text × (ended ≡ false) × (all ≡ []) × (w.bytes ≡ []) × (w.failed ≡ false)
Stops w ended text all end.Turns = IsOpen text × (ended ≡ false) × (all ≡ [])
Stops w ended text all (end.Refused status) =
    (refusal : Refusal) × IsRefused text refusal × (ended ≡ at_end refusal) × (all ≡ refusal_text refusal) × (status ≡ status_of refusal)
Stops w ended text all end.WriteFault = (ended ≡ false) × (all ≡ []) × (w.failed ≡ true)
Stops w ended text all end.NoMemory = ⊥

-- A head was awaited in so many reads, some of which found the end or failed; nothing was read where a write failed.
abbrev pub AwaitsHead : Option Gathered → ℕ → Given → Given → List ℕ → List ℕ → Type 0
AwaitsHead None count before after held held' = (after ≡ before) × ((tail : List ℕ) → front_of (held ++ tail) ≡ front_of (held' ++ tail))
AwaitsHead (Some g) count before after held held' =
    (more : List ℕ) × (awaits : Awaits 0 (ends_of g) (failures_of g) before after held more) × (awaits.count ≡ count) × Holds before after held held' more

-- a head is held whose body, of so many bytes, is not whole
pub record WantsBody (held : List ℕ) (size length_is : ℕ) (head_only : Bool) : Type 0 where
  pub parsed : RequestHead
  pub parses : Parses (take size held) parsed
  pub sized : body_length parsed ≡ Ok length_is
  pub short : length (drop size held) < length_is
  pub method : head_only ≡ is_head parsed.method

-- what is left of what is held, once the message at its front was answered or refused
abbrev pub left_by : Handled → List ℕ → List ℕ
left_by (Over outcome total) held = drop total held
left_by (Short n head_only) held = held

-- the run ends before a request, where so many reads had been made for it
pub record Stopped (used : ℕ) (before after : Given) (held : List ℕ) (p q : Outlet) (outcome : Option Ended) : Type 0 where
  pub more : List ℕ
  pub ended : Bool
  pub all : List ℕ
  pub e : Ended
  pub awaits : Awaits used (one_if ended) (read_faults e) before after held more
  pub stops : Stops q.waiting ended (held ++ more) all e
  pub puts : Puts 0 p q all
  pub outcome_is : outcome ≡ or_fault q.waiting.failed (Some e)
  pub turns : e ≡ end.Turns → used + awaits.count ≡ read_limit

-- What was put in a run: all of it was taken or waits, or a write failed.
abbrev pub WentAll : Bool → Outlet → Outlet → List Exchange → List ℕ → Ended → Type 0
WentAll false p q exchanges closing e =
    (all_put q ≡ all_put p ++ (exchanges_text 0 exchanges ++ closing)) × (q.sink.failures ≡ p.sink.failures) × (e ≡ end.WriteFault → ⊥)
    × (e ≡ end.ReadFault → q.waiting.bytes ≡ [])
WentAll true p q exchanges closing e =
    (left : List ℕ) × Broke q.sink (all_put p ++ (exchanges_text 0 exchanges ++ closing)) left × IsLeft exchanges closing left
    × (q.sink.failures ≡ p.sink.failures + 1) × (e ≡ end.WriteFault)

module _ {S : Type 0} (answers : S → Option (List ℕ) → Call → Served → S → Type 0) where
  -- a request, which so many went before, is answered so
  pub record Answers (count : ℕ) (old : S) (asked : Asked) (p q : Outlet) (new : S) (outcome : Option Ended) : Type 0 where
    pub exchange : Exchange
    pub asks : exchange.asked ≡ asked
    pub makes : Makes answers old exchange.asked exchange.reply new
    pub puts : Puts 1 p q (exchange_text count exchange)
    pub outcome_is : outcome ≡ or_fault q.waiting.failed (end_after count exchange)

  -- a head is refused
  pub record Refuses (head : List ℕ) (old : S) (p q : Outlet) (new : S) (outcome : Option Ended) : Type 0 where
    pub refusal : Refusal
    pub bad : IsUnread head refusal
    pub early : at_end refusal ≡ false
    pub puts : Puts 0 p q (refusal_text refusal)
    pub kept : new ≡ old
    pub outcome_is : outcome ≡ or_fault q.waiting.failed (Some (end.Refused (status_of refusal)))

  -- what comes of the message at the front of what is held, whose head has so many bytes: its request is answered, or its
  -- head is refused, or its body is not whole
  abbrev pub Messages : ℕ → S → List ℕ → ℕ → Outlet → Outlet → S → Handled → Type 0
  Messages count old held size p q new (Over outcome total) =
      ((h : RequestHead) × (n : ℕ) × Parses (take size held) h × (body_length h ≡ Ok n) × (n ≤ length (drop size held)) × (total ≡ size + n)
      × Answers count old (asked_by h (take n (drop size held))) p q new outcome)
      ⊎ (Refuses (take size held) old p q new outcome × (total ≡ size))
  Messages count old held size p q new (Short n head_only) = WantsBody held size n head_only × (new ≡ old) × (q ≡ p)

  -- the turn answers a request, whatever follows the bytes that are held with those that came; they are what is left, with it
  pub record Exchanges (used count : ℕ) (old : S) (before after : Given) (held left : List ℕ) (p q : Outlet) (new : S) (outcome : Option Ended) : Type 0 where
    pub more : List ℕ
    pub exchange : Exchange
    pub awaits : Awaits used 0 0 before after held more
    pub begins : (tail : List ℕ) → Begins ((held ++ more) ++ tail) exchange.asked (left ++ tail)
    pub makes : Makes answers old exchange.asked exchange.reply new
    pub puts : Puts 1 p q (exchange_text count exchange)
    pub outcome_is : outcome ≡ or_fault q.waiting.failed (end_after count exchange)

  -- a turn: a request is answered, or none is and the run ends
  abbrev pub Turned : ℕ → ℕ → S → Given → Given → List ℕ → List ℕ → Outlet → Outlet → S → Option Ended → Type 0
  Turned used count old before after held left p q new outcome =
      Exchanges used count old before after held left p q new outcome ⊎ (Stopped used before after held p q outcome × (new ≡ old))

  -- a run, of which all was put, and what is left may wait
  pub record Ran (old : S) (before after : Given) (p q : Outlet) (new : S) (e : Ended) : Type 0 where
    pub exchanges : List Exchange
    pub text : List ℕ
    pub rest : List ℕ
    pub closing : List ℕ
    pub ended : Bool
    pub came : after.bytes ≡ before.bytes ++ text
    pub stand : Stand text (asked_in exchanges) rest
    pub answered : Answered answers old exchanges new
    pub ends : EndsOr exchanges ended text rest closing e
    pub reads : Reads before after exchanges ended e
    pub few : after.reads ≤ before.reads + read_limit * request_limit
    pub grew : Grew p.sink q.sink
    pub went : WentAll q.waiting.failed p q exchanges closing e
