-- An answer is recorded in one way.
use Rattle.std.proofs.Common.{◌≡◌, ◌∙◌, refl, sym, ap, ℕ, ◌==◌, nat_le, List, [], ◌∷◌, Bool, true, false, cond}
use Rattle.std.specs.Prelude.{Option, Some, None, find, if◌then◌else◌, option_and_then, option_map, unwrap_or}
use Rattle.std.proofs.lemmas.Bool.Decides.{Decides-eqb}
use Rattle.af_ops.specs.Statuses.{code_of}
use Rattle.af_ops.specs.declared.shown_answer.Shown.{Shown}
use Rattle.af_ops.specs.declared.status.Status.{Status}
use Rattle.af_trace.specs.Answers.{content_of, short, status_of, statuses}
use Rattle.af_trace.specs.Laws.{RecordsAreOne, numbers_told, text_told}
use Rattle.af_trace.specs.declared.answers.Numbers.{Numbers}

none_some : {X : Type 0} {x : X} → None ≡ Some x → ⊥
none_some same = cc

some_same : {X : Type 0} {x y : X} → Some x ≡ Some y → x ≡ y
some_same is = cc

-- what is found passes
module _ {X : Type 0} (test : X → Bool) where
  passes_by : (b : Bool) (x : X) (xs : List X) (found : X) → test x ≡ b → (find test xs ≡ Some found → test found ≡ true) → cond b (Some x) (find test xs) ≡ Some found → test found ≡ true
  passes_by true x xs found at rest is = ap test (sym (some_same is)) ∙ at
  passes_by false x xs found at rest is = rest is

  found_passes : (xs : List X) (found : X) → find test xs ≡ Some found → test found ≡ true
  found_passes [] found is = absurd (none_some is)
  found_passes (x ∷ xs) found is = passes_by (test x) x xs found refl (found_passes xs found) is

number_is : (n m : ℕ) → (n == m) ≡ true → n ≡ m
number_is n m same = (Decides-eqb n m).0 same

status_is : (number : ℕ) (it : Status) → status_of number ≡ Some it → code_of it ≡ number
status_is number it is = number_is (code_of it) number (found_passes (λ (it : Status). code_of it == number) statuses it is)

short_by : (number : ℕ) (b : Bool) (kept : Option ℕ) → cond b (Some (Some number)) None ≡ Some kept → Some number ≡ kept
short_by number true kept is = some_same is
short_by number false kept is = absurd (none_some is)

short_is : (number kept : Option ℕ) → short number ≡ Some kept → number ≡ kept
short_is None kept is = some_same is
short_is (Some number) kept is = short_by number (nat_le number 4_294_967_295) kept is

content_by : (b : Bool) → unwrap_or {T = List ℕ} (if b then None else Some []) [] ≡ []
content_by true = refl
content_by false = refl

content_is : (it : Status) (text : List ℕ) → text ≡ unwrap_or (content_of it text) []
content_is it [] = sym (content_by (code_of it == 204))
content_is it (byte ∷ text) = refl

abbrev numbers_of : ℕ → Option ℕ → Option ℕ → Numbers
numbers_of status version seq = record { status = status; version = version; seq = seq }

abbrev made : List ℕ → Status → Option ℕ → Option ℕ → Shown
made text it version seq = record { status = it; version = version; seq = seq; body = content_of it text }

module _ (numbers : Numbers) (text : List ℕ) (shown : Shown) where
  abbrev Told : Type 0
  Told = (numbers ≡ numbers_told shown) × (text ≡ text_told shown)

  recorded : (it : Status) (version seq : Option ℕ) → status_of numbers.status ≡ Some it → short numbers.version ≡ Some version → short numbers.seq ≡ Some seq → made text it version seq ≡ shown → Told
  recorded it version seq is_status is_version is_seq is = (
    ap (λ (n : ℕ). numbers_of n numbers.version numbers.seq) (sym (status_is numbers.status it is_status))
        ∙ ap (λ (v : Option ℕ). numbers_of (code_of it) v numbers.seq) (short_is numbers.version version is_version)
        ∙ ap (λ (q : Option ℕ). numbers_of (code_of it) version q) (short_is numbers.seq seq is_seq)
        ∙ ap numbers_told is,
    content_is it text ∙ ap text_told is,
  )

  by_seq : (it : Status) (version : Option ℕ) (q : Option (Option ℕ)) → status_of numbers.status ≡ Some it → short numbers.version ≡ Some version → short numbers.seq ≡ q → option_map (λ (seq : Option ℕ). made text it version seq) q ≡ Some shown → Told
  by_seq it version None is_status is_version is_seq e = absurd (none_some e)
  by_seq it version (Some seq) is_status is_version is_seq e = recorded it version seq is_status is_version is_seq (some_same e)

  by_version : (it : Status) (v : Option (Option ℕ)) → status_of numbers.status ≡ Some it → short numbers.version ≡ v → option_and_then (λ (version : Option ℕ). option_map (λ (seq : Option ℕ). made text it version seq) (short numbers.seq)) v ≡ Some shown → Told
  by_version it None is_status is_version e = absurd (none_some e)
  by_version it (Some version) is_status is_version e = by_seq it version (short numbers.seq) is_status is_version refl e

  by_status : (s : Option Status) → status_of numbers.status ≡ s → option_and_then (λ (it : Status). option_and_then (λ (version : Option ℕ). option_map (λ (seq : Option ℕ). made text it version seq) (short numbers.seq)) (short numbers.version)) s ≡ Some shown → Told
  by_status None is_status e = absurd (none_some e)
  by_status (Some it) is_status e = by_version it (short numbers.version) is_status refl e

pub records_one : RecordsAreOne
records_one numbers text shown e = by_status numbers text shown (status_of numbers.status) refl e
