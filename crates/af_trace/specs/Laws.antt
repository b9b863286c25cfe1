-- Laws of what a trace records (this product's own rule).
use Rattle.std.specs.Prelude.{◌≡◌, ℕ, List, [], Some, unwrap_or}
use Rattle.af_ops.specs.Statuses.{code_of}
use Rattle.af_ops.specs.declared.shown_answer.Shown.{Shown}
use Rattle.af_trace.specs.Answers.{answer_of}
use Rattle.af_trace.specs.declared.answers.Numbers.{Numbers}

-- the numbers and the text that record an answer
abbrev pub numbers_told : Shown → Numbers
numbers_told shown = record { status = code_of shown.status; version = shown.version; seq = shown.seq }

abbrev pub text_told : Shown → List ℕ
text_told shown = unwrap_or shown.body []

-- An answer is recorded in one way: what is read as an answer is just what is told of it. So a record with another number, another
-- status or another byte is that of another answer, or of one that nothing gives.
abbrev pub RecordsAreOne : Type 0
RecordsAreOne =
    (numbers : Numbers) (text : List ℕ) (shown : Shown) → answer_of numbers text ≡ Some shown
    → (numbers ≡ numbers_told shown) × (text ≡ text_told shown)
