-- A connection from its first byte to its last: what is made of the requests that stand in its text, and what is written.
use Rattle.std.specs.Prelude.{◌≡◌, ◌+◌, ◌<◌, ◌≤◌, ◌⊎◌, ℕ, Bool, true, false, List, [], ◌∷◌, ◌++◌, length, map, Option, Some, None, Ok, Err, cond}
use Rattle.af_ops.specs.declared.call.Call.{Call}
use Rattle.af_ops.specs.declared.served.Served.{Served}
use Rattle.af_http.specs.Requests.{Asked, is_head}
use Rattle.af_http.specs.Routes.{IsRouted, call_of}
use Rattle.af_http.specs.Answers.{memory_text}
use Rattle.af_http.specs.Replies.{reply_text, wants_memory}
use Rattle.af_http.specs.Reading.{Stand, IsRefused, IsEmpty, IsOpen, at_end, closes_after, status_of, refusal_text}
use Rattle.af_http.specs.Streams.{Taken, Grew}
use Rattle.af_http.specs.Sending.{Writes}
use Rattle.af_http.specs.declared.refusal.Refusal.{Refusal}
use Rattle.af_http.specs.declared.reply.Reply.{Reply}
use Rattle.af_http.specs.declared.reply.Reply.TheVariants as reply
use Rattle.af_http.specs.declared.ended.Ended.{Ended}
use Rattle.af_http.specs.declared.ended.Ended.TheVariants as end

-- a request, and what is made of it
pub record Exchange : Type 0 where
  pub asked : Asked
  pub reply : Reply

abbrev pub asked_in : List Exchange → List Asked
asked_in exchanges = map (λ (x : Exchange). x.asked) exchanges

-- the bytes that answer one request, which so many went before
abbrev pub exchange_text : ℕ → Exchange → List ℕ
exchange_text count x = reply_text x.reply (is_head x.asked.method) (closes_after count x.asked)

-- the bytes that answer these requests, in order
abbrev pub exchanges_text : ℕ → List Exchange → List ℕ
exchanges_text count [] = []
exchanges_text count (x ∷ xs) = exchange_text count x ++ exchanges_text (count + 1) xs

-- how the connection ends after a request, if it does: for lack of memory, or because it closes
abbrev pub end_by : Bool → Bool → Option Ended
end_by wants closes = cond wants (Some end.NoMemory) (cond closes (Some end.Closed) None)

abbrev pub end_after : ℕ → Exchange → Option Ended
end_after count x = end_by (wants_memory x.reply) (closes_after count x.asked)

-- the connection goes on after each of them
abbrev pub AllGoOn : ℕ → List Exchange → Type 0
AllGoOn count [] = Unit {0}
AllGoOn count (x ∷ xs) = (end_after count x ≡ None) × AllGoOn (count + 1) xs

-- it goes on after each but the last, and ends so after that
abbrev pub LastEnds : ℕ → List Exchange → Ended → Type 0
LastEnds count [] e = ⊥
LastEnds count (x ∷ []) e = end_after count x ≡ Some e
LastEnds count (x ∷ y ∷ xs) e = (end_after count x ≡ None) × LastEnds (count + 1) (y ∷ xs) e

-- nothing came before the memory of the connection was wanted
abbrev pub IsUnopened : List Exchange → List ℕ → List ℕ → Type 0
IsUnopened exchanges text closing = (exchanges ≡ []) × (text ≡ []) × (closing ≡ memory_text)

-- How a connection ends after these exchanges, where rest is what stands behind them, and the text that it closes with.
-- ended: the input ended, and no byte follows the text. A run that found the end of the input ends for that.
abbrev pub Ends : List Exchange → Bool → List ℕ → List ℕ → List ℕ → Ended → Type 0
-- the input ended between requests, or a request closed the connection
Ends exchanges ended text rest closing end.Closed =
    ((AllGoOn 0 exchanges × IsEmpty rest × (ended ≡ true)) ⊎ (LastEnds 0 exchanges end.Closed × (ended ≡ false))) × (closing ≡ [])
-- a refusal
Ends exchanges ended text rest closing (end.Refused status) =
    (refusal : Refusal) × AllGoOn 0 exchanges × IsRefused rest refusal × (ended ≡ at_end refusal) × (closing ≡ refusal_text refusal)
    × (status ≡ status_of refusal)
-- out of memory at the opening, before anything was read, or for a request
Ends exchanges ended text rest closing end.NoMemory =
    (IsUnopened exchanges text closing ⊎ (LastEnds 0 exchanges end.NoMemory × (closing ≡ []))) × (ended ≡ false)
-- a read that failed, or too many reads for one request: all requests that are whole have been answered
Ends exchanges ended text rest closing end.ReadFault = AllGoOn 0 exchanges × IsOpen rest × (ended ≡ false) × (closing ≡ [])
Ends exchanges ended text rest closing end.Turns = AllGoOn 0 exchanges × IsOpen rest × (ended ≡ false) × (closing ≡ [])
-- a write that failed, while the connection went on
Ends exchanges ended text rest closing end.WriteFault = AllGoOn 0 exchanges × (ended ≡ false) × (closing ≡ [])

-- the same, where the last write may have failed, wherever the connection had come to
abbrev pub EndsOr : List Exchange → Bool → List ℕ → List ℕ → List ℕ → Ended → Type 0
EndsOr exchanges ended text rest closing end.WriteFault = (e : Ended) × Ends exchanges ended text rest closing e
EndsOr exchanges ended text rest closing e = Ends exchanges ended text rest closing e

-- the text that answers the last of these requests
abbrev pub last_text : ℕ → List Exchange → List ℕ
last_text count [] = []
last_text count (x ∷ []) = exchange_text count x
last_text count (x ∷ y ∷ xs) = last_text (count + 1) (y ∷ xs)

-- When a write failed, the writer had been given all but these bytes: a part of the text that the connection closes with,
-- or of the last answer, of which it had been given some. So every answer before was given to it whole, and after the
-- failure no request was answered.
abbrev pub IsLeft : List Exchange → List ℕ → List ℕ → Type 0
IsLeft exchanges closing left =
    (length left ≤ length closing) ⊎ ((closing ≡ []) × (length left < length (last_text 0 exchanges)))

-- What was written is the answers and the text that it closes with. Where a write failed, that write was given what
-- follows, and more may be left.
abbrev pub IsWritten : Ended → List Exchange → List ℕ → Taken → List ℕ → Type 0
IsWritten end.WriteFault exchanges closing new out =
    (left : List ℕ) × (exchanges_text 0 exchanges ++ closing ≡ out ++ (new.refused ++ left)) × IsLeft exchanges closing left
IsWritten end.Closed exchanges closing new out = out ≡ exchanges_text 0 exchanges ++ closing
IsWritten end.ReadFault exchanges closing new out = out ≡ exchanges_text 0 exchanges ++ closing
IsWritten (end.Refused status) exchanges closing new out = out ≡ exchanges_text 0 exchanges ++ closing
IsWritten end.Turns exchanges closing new out = out ≡ exchanges_text 0 exchanges ++ closing
IsWritten end.NoMemory exchanges closing new out = out ≡ exchanges_text 0 exchanges ++ closing

-- one write failed where the run ended for that, and none elsewhere
abbrev pub write_faults : Ended → ℕ
write_faults end.WriteFault = 1
write_faults end.Closed = 0
write_faults end.ReadFault = 0
write_faults (end.Refused status) = 0
write_faults end.Turns = 0
write_faults end.NoMemory = 0

-- the text for lack of memory was written, and the connection ended for that; or a write of it failed
abbrev pub IsMemoryText : Taken → Taken → Ended → Type 0
IsMemoryText old new end.NoMemory = Grew old new × Writes old new memory_text false
IsMemoryText old new end.WriteFault = Grew old new × Writes old new memory_text true
IsMemoryText old new end.Closed = ⊥
IsMemoryText old new end.ReadFault = ⊥
IsMemoryText old new end.Turns = ⊥
IsMemoryText old new (end.Refused status) = ⊥

module _ {S : Type 0} (answers : S → Option (List ℕ) → Call → Served → S → Type 0) where
  -- what is made of a request: the fault of its route, with the service as it was, or the service's answer
  abbrev pub Makes : S → Asked → Reply → S → Type 0
  Makes old asked (reply.Fault fault) new = IsRouted (call_of asked.method asked.target asked.body) (Err fault) × (new ≡ old)
  Makes old asked (reply.Served served) new =
      (call : Call) × IsRouted (call_of asked.method asked.target asked.body) (Ok call) × answers old asked.token call served new

  -- these replies are made of these requests, in order
  abbrev pub Answered : S → List Exchange → S → Type 0
  Answered old [] new = new ≡ old
  Answered old (x ∷ xs) new = (mid : S) × Makes old x.asked x.reply mid × Answered mid xs new

  -- A whole run over a text: the requests that stand in it are answered in order; how it ends; and what is written is
  -- the bytes of the answers, in order, then the text that it closes with, and nothing else.
  pub record Run (old : S) (ended : Bool) (text : List ℕ) (e : Ended) (out : List ℕ) (writer : Taken) (new : S) : Type 0 where
    pub exchanges : List Exchange
    pub rest : List ℕ
    pub closing : List ℕ
    pub stand : Stand text (asked_in exchanges) rest
    pub answered : Answered old exchanges new
    pub ends : EndsOr exchanges ended text rest closing e
    pub written : IsWritten e exchanges closing writer out
