-- How values are read one after another: in their order, and the first fault decides (this product's own rule).
use Rattle.std.specs.Prelude.{◌≡◌, ◌⊎◌, ℕ, List, [], ◌∷◌, is_some, if◌then◌else◌, Option, Some, None, option_and_then, ok_or, Result, Ok, Err, ⊤}
use Rattle.serde_json.specs.Data.{Data}
use Rattle.serde_json.specs.Find.{get, as_null}

-- what is read, and then what is read of it; the first fault decides
infixl 10 ◌>>=◌
abbrev pub ◌>>=◌ : {X Y E : Type 0} → Result X E → (X → Result Y E) → Result Y E
Ok x >>= read = read x
Err fault >>= read = Err fault

-- what is read, seen as another value; a fault stays
abbrev pub seen : {X Y E : Type 0} → (X → Y) → Result X E → Result Y E
seen f (Ok x) = Ok (f x)
seen f (Err fault) = Err fault

-- what is read where memory suffices, or out of memory
abbrev pub OrMemory : {X E : Type 0} → E → Result X E → Result X E → Type 0
OrMemory memory expected (Ok x) = expected ≡ Ok x
OrMemory memory expected (Err fault) = (expected ≡ Err fault) ⊎ (fault ≡ memory)

-- what is made in place where memory suffices, or out of memory
abbrev pub Makes : {S E : Type 0} → E → Result S E → S → Result ⊤ E → Type 0
Makes memory expected made (Ok done) = expected ≡ Ok made
Makes memory expected made (Err fault) = (expected ≡ Err fault) ⊎ (fault ≡ memory)

-- items taken in order into what they make; the first that can't be taken decides the fault
abbrev pub taking : {S X E : Type 0} → (S → X → Result S E) → S → List X → Result S E
taking take_item made [] = Ok made
taking take_item made (item ∷ items) = take_item made item >>= (λ more. taking take_item more items)

-- whether each of several can be read; the fault of the first that can't
abbrev pub tested : {X Y E : Type 0} → (X → Result Y E) → ⊤ → X → Result ⊤ E
tested read done item = read item >>= (λ value. Ok tt)

abbrev pub first_fault : {X Y E : Type 0} → (X → Result Y E) → List X → Result ⊤ E
first_fault read items = taking (tested read) tt items

abbrev pub unless_null : Data → Option Data
unless_null value = if is_some (as_null value) then None else Some value

-- the member of that name, the last of several, unless it is absent or null
abbrev pub member_of : List ℕ → Data → Option Data
member_of name row = option_and_then unless_null (get name row)

-- what is read of a member that has to be there
abbrev pub required : {X E : Type 0} → (Data → Option X) → E → Option Data → Result X E
required read fault None = Err fault
required read fault (Some value) = ok_or (read value) fault

-- what is read of a member that may be absent
abbrev pub optional : {X E : Type 0} → (Data → Option X) → E → Option Data → Result (Option X) E
optional read fault None = Ok None
optional read fault (Some value) = required (λ it. option_and_then (λ x. Some (Some x)) (read it)) fault (Some value)
