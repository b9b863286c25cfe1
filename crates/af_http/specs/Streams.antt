-- What a reader has given and a writer has taken, from the first call to a moment.
use Rattle.std.specs.Prelude.{◌≡◌, ◌+◌, ℕ, Bool, ◌&&◌, ◌==◌, ◌<◌, cond, nat_lt, List, [], ◌∷◌, ◌++◌, length, take, map, sum, Option, Some}
use Rattle.std.specs.Io.KnownBytes.{Appends}
use Rattle.af_http.specs.Limits.{read_room}

-- a reader
pub record Given : Type 0 where
  -- all bytes that reads gave
  pub bytes : List ℕ
  -- the reads; those that gave a byte; those that had room and gave none, since the input had ended; those that failed;
  -- those that had room for fewer bytes than a read of a connection has
  pub reads : ℕ
  pub fruitful : ℕ
  pub ends : ℕ
  pub failures : ℕ
  pub narrow : ℕ
  -- how many bytes each read gave, one after another
  pub sizes : List ℕ
  -- all bytes that come before the input ends, where they are known
  pub whole : Option (List ℕ)

-- a writer
pub record Taken : Type 0 where
  -- all bytes that writes took
  pub bytes : List ℕ
  -- the writes that failed, one that takes no byte of some among them, and the bytes that the last of them was given
  pub failures : ℕ
  pub refused : List ℕ
  -- what it holds, where that is known
  pub contents : Option (List ℕ)

-- no byte was moved, though there was room for one, or one to move: the input has ended, or the writer takes nothing
abbrev pub is_end : ℕ → ℕ → Bool
is_end moved room = moved == 0 && nat_lt 0 room

-- whether a read has room for fewer bytes than one of a connection has
abbrev pub is_narrow : ℕ → Bool
is_narrow room = nat_lt room read_room

-- one, where this is so
abbrev pub one_if : Bool → ℕ
one_if so = cond so 1 0

-- what is known of all bytes that come stays known
abbrev pub StaysKnown : Option (List ℕ) → Option (List ℕ) → Type 0
StaysKnown old new = (all : List ℕ) → old ≡ Some all → new ≡ Some all

-- all bytes that come have come, where they are known
abbrev pub IsWhole : Given → Type 0
IsWhole g = (all : List ℕ) → g.whole ≡ Some all → all ≡ g.bytes

-- These are what reads gave, one after another: each gave a byte but for the last, if one gave none.
abbrev pub IsSilentLast : ℕ → List ℕ → Type 0
IsSilentLast silent [] = silent ≡ 0
IsSilentLast silent (n ∷ []) = silent ≡ one_if (n == 0)
IsSilentLast silent (n ∷ m ∷ sizes) = (0 < n) × IsSilentLast silent (m ∷ sizes)

-- So many reads from one moment to another: so many of them found the end, so many failed, and each other gave a byte; none
-- came after one that gave none. Each had room for as many bytes as one of a connection has, so that no message is read in
-- many where few would do. What came is what these reads gave: so the first moment is the one at which the reader had given
-- just what was there before.
pub record Took (count ends failures : ℕ) (old new : Given) : Type 0 where
  pub sizes : List ℕ
  pub sizes_are : new.sizes ≡ old.sizes ++ sizes
  pub so_many : length sizes ≡ count
  pub silent_last : IsSilentLast (ends + failures) sizes
  pub gave : length new.bytes ≡ length old.bytes + sum sizes
  pub reads_are : new.reads ≡ old.reads + count
  pub each_gave : new.fruitful + ends + failures ≡ old.fruitful + count
  pub ends_are : new.ends ≡ old.ends + ends
  pub failed : new.failures ≡ old.failures + failures
  pub wide : new.narrow ≡ old.narrow
  pub known : StaysKnown old.whole new.whole
  pub whole : old.ends < new.ends → IsWhole new

-- At each read between two moments this was so of what had come by then, since the first of them: of as many of these bytes
-- as the reads before it gave.
abbrev pub EachWhile : (List ℕ → Type 0) → Given → Given → List ℕ → Type 0
EachWhile so old new came =
    (earlier later : List ℕ) (n : ℕ) → new.sizes ≡ old.sizes ++ (earlier ++ n ∷ later) → so (take (sum earlier) came)

-- a writer took more bytes, and holds them, where what it holds is known
pub record Grew (old new : Taken) : Type 0 where
  pub more : List ℕ
  pub bytes_are : new.bytes ≡ old.bytes ++ more
  pub added : Appends old.contents new.contents more

-- the bytes of a history
abbrev pub bytes_of : List (ℕ × ℕ) → List ℕ
bytes_of items = map (λ (p : ℕ × ℕ). p.0) items

-- the numbers of another
abbrev pub numbers_of : List (ℕ × ℕ) → List ℕ
numbers_of items = map (λ (p : ℕ × ℕ). p.0) items

-- what waits for a writer, and whether a write of it has failed
pub record Waiting : Type 0 where
  pub bytes : List ℕ
  pub failed : Bool
