-- Which answer to a step a trace records (this product's own rule).
use Rattle.std.specs.Prelude.{ℕ, List, [], ◌∷◌, nat_le, ◌==◌, codes, find, is_some, if◌then◌else◌, Option, Some, None, option_and_then, option_map, Result, Ok}
use Rattle.serde_json.specs.Data.{Data}
use Rattle.serde_json.specs.Find.{as_null}
use Rattle.af_base.specs.Readings.{◌>>=◌}
use Rattle.af_ops.specs.Statuses.{code_of}
use Rattle.af_ops.specs.declared.shown_answer.Shown.{Shown}
use Rattle.af_ops.specs.declared.status.Status.{Status}
use Rattle.af_ops.specs.declared.status.Status.TheVariants as status
use Rattle.af_trace.specs.Members.{count_in, optional_count_in, text_in}
use Rattle.af_trace.specs.declared.answers.Numbers.{Numbers}
use Rattle.af_trace.specs.declared.trace_fault.TraceFault.{TraceFault}

-- every status that an answer has
abbrev pub statuses : List Status
statuses =
    status.Ok ∷ status.NoContent ∷ status.BadRequest ∷ status.Unauthorized ∷ status.Forbidden ∷ status.NotFound
    ∷ status.MethodNotAllowed ∷ status.Conflict ∷ status.ContentTooLarge ∷ status.HeadTooLarge ∷ status.InternalError
    ∷ status.NotImplemented ∷ status.Unavailable ∷ status.InsufficientStorage ∷ []

-- the status of a number
abbrev pub status_of : ℕ → Option Status
status_of number = find (λ it. code_of it == number) statuses

-- a version or a number of entries, where there is one: it has 32 bits
abbrev pub short : Option ℕ → Option (Option ℕ)
short None = Some None
short (Some number) = if nat_le number 4_294_967_295 then Some (Some number) else None

-- the content: 204 has none (RFC 9110, section 15.3.5), and then the text is empty
abbrev pub content_of : Status → List ℕ → Option (List ℕ)
content_of it [] = if code_of it == 204 then None else Some []
content_of it (byte ∷ text) = Some (byte ∷ text)

-- the answer that is recorded by these numbers and this text; none where it is one that nothing gives
abbrev pub answer_of : Numbers → List ℕ → Option Shown
answer_of numbers text =
    option_and_then (λ it. option_and_then (λ version. option_map (λ seq.
    record { status = it; version = version; seq = seq; body = content_of it text }
    ) (short numbers.seq)) (short numbers.version)) (status_of numbers.status)

-- the status, and the version and the number of entries that it names
abbrev pub numbers_in : Data → Result Numbers TraceFault
numbers_in row = do
  number ← count_in (codes "status") row
  version ← optional_count_in (codes "version") row
  seq ← optional_count_in (codes "seq") row
  Ok (record { status = number; version = version; seq = seq })

abbrev pub shown_in : Data → Result (Option Shown) TraceFault
shown_in row = do
  numbers ← numbers_in row
  text ← text_in (codes "body") row
  Ok (answer_of numbers text)

abbrev pub or_none : Option Shown → Option (Option Shown)
or_none answer = option_map (λ shown. Some shown) answer

-- null where the step gives none; none where it is an answer that nothing gives
abbrev pub answer_in : Data → Result (Option (Option Shown)) TraceFault
answer_in value =
    if is_some (as_null value) then Ok (Some None) else (shown_in value >>= (λ answer. Ok (or_none answer)))
