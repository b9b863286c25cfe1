-- What the definitions come to: a text has one reading.
use Rattle.std.specs.Prelude.{◌≡◌, ℕ, Bool, List, Option, Some}
use Rattle.af_ops.specs.declared.call.Call.{Call}
use Rattle.af_ops.specs.declared.served.Served.{Served}
use Rattle.af_ops.specs.declared.served.Served.TheVariants as served
use Rattle.af_ops.specs.declared.shown_answer.Shown.{Shown}
use Rattle.af_ops.specs.Calls.{IsRead, unread}
use Rattle.af_http.specs.Streams.{Taken}
use Rattle.af_http.specs.Requests.{Asked}
use Rattle.af_http.specs.Reading.{Begins}
use Rattle.af_http.specs.Run.{Run}
use Rattle.af_http.specs.declared.ended.Ended.{Ended}
use Rattle.af_http.specs.declared.ended.Ended.TheVariants as end

-- One request at most begins a text, and it leaves one rest.
abbrev pub OneRequest : Type 0
OneRequest =
    (text : List ℕ) (a b : Asked) (r q : List ℕ) → Begins text a r → Begins text b q → (a ≡ b) × (r ≡ q)

-- The connection ended for what stands in its text: neither reader nor writer failed, the reads were few enough, and no
-- memory was wanted.
abbrev pub IsByText : Ended → Type 0
IsByText end.Closed = Unit {0}
IsByText (end.Refused status) = Unit {0}
IsByText end.NoMemory = ⊥
IsByText end.ReadFault = ⊥
IsByText end.WriteFault = ⊥
IsByText end.Turns = ⊥

module _ {S : Type 0} (answers : S → Option (List ℕ) → Call → Served → S → Type 0) where
  -- the service answers in one way, where it has the memory to, also where there was none to read the body of a request
  abbrev pub IsFunction : Type 0
  IsFunction =
      (old : S) (token : Option (List ℕ)) (wanted call other : Call) (x y : Shown) (a b : S)
      → IsRead (Some wanted) (Some call) → IsRead (Some wanted) (Some other)
      → answers old token call (served.Shown x) a → answers old token other (served.Shown y) b → (x ≡ y) × (a ≡ b)

  -- What the service tells of a call, and how that leaves it, is what this function says, where it has the memory to; and of a call whose
  -- body was not read, for lack of memory, the function says what it says of the whole one, or nothing.
  pub record TellsBy (told : S → Option (List ℕ) → Call → Option (Shown × S)) : Type 0 where
    pub tells :
        (old : S) (token : Option (List ℕ)) (call : Call) (shown : Shown) (new : S)
        → answers old token call (served.Shown shown) new → told old token call ≡ Some (shown, new)
    pub alike :
        (old : S) (token : Option (List ℕ)) (wanted : Call) (shown : Shown) (new : S)
        → told old token (unread wanted) ≡ Some (shown, new) → told old token wanted ≡ Some (shown, new)

  -- A service that tells by a function answers in one way.
  abbrev pub OneAnswer : Type 0
  OneAnswer = (told : S → Option (List ℕ) → Call → Option (Shown × S)) → TellsBy told → IsFunction

  -- The end of a run, what it writes, and how it leaves the service, are determined by the text, by whether the input ended
  -- behind it, and by the service at its start, where no memory was wanted.
  abbrev pub IsReadOnce : Type 0
  IsReadOnce =
      (old : S) (ended : Bool) (text : List ℕ) (e d : Ended) (out written : List ℕ) (w v : Taken) (a b : S)
      → Run answers old ended text e out w a → Run answers old ended text d written v b → IsByText e → IsByText d
      → (e ≡ d) × (out ≡ written) × (a ≡ b)

  -- That is so where the service answers in one way.
  abbrev pub OneReading : Type 0
  OneReading = IsFunction → IsReadOnce
