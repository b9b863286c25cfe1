-- A chain of digests over lines: that of a line is the SHA-256 (FIPS 180-4) of the digest before it, of the line's kind and of its body, so it
-- covers all lines up to it. A line's mark is its kind with its digest (both are this product's own rule).
use Rattle.std.specs.Prelude.{◌≡◌, ◌≢◌, ℕ, List, [], ◌∷◌, ◌++◌, codes, ok_or, Result}
use Rattle.std.specs.List.{find}
use Rattle.hex.specs.Hex.{encode_lower}
use Rattle.sha2.specs.Sha256.{sha256}
use Rattle.af_store.specs.Bodies.{same_text}
use Rattle.af_store.specs.declared.line_fault.LineFault.{LineFault}
use Rattle.af_store.specs.declared.line_fault.LineFault.TheVariants.{NotALine}
use Rattle.af_store.specs.declared.line_kind.LineKind.{LineKind}
use Rattle.af_store.specs.declared.line_kind.LineKind.TheVariants.{Opened, Entry, Change}

-- ---- kinds

abbrev pub kind_text : LineKind → List ℕ
kind_text Opened = codes "opened"
kind_text Entry = codes "entry"
kind_text Change = codes "change"

abbrev pub kinds : List LineKind
kinds = Entry ∷ Change ∷ Opened ∷ []

-- ---- digests

-- a line: its kind and its body
pub record Link : Type 0 where
  pub kind : LineKind
  pub body : List ℕ

-- the bytes whose digest is that of a line: the digest before it, its kind, an end of line, and its body
abbrev pub linked : List ℕ → Link → List ℕ
linked before line = before ++ (kind_text line.kind ++ 10 ∷ line.body)

-- the digest of a line, where the line before it has this one
abbrev pub chained : List ℕ → Link → List ℕ
chained before line = sha256 (linked before line)

-- the digest of the last of some lines
abbrev pub chain : List ℕ → List Link → List ℕ
chain before [] = before
chain before (line ∷ lines) = chain (chained before line) lines

-- before the first line: 32 zeros
abbrev pub start : List ℕ
start =
    0 ∷ 0 ∷ 0 ∷ 0 ∷ 0 ∷ 0 ∷ 0 ∷ 0 ∷ 0 ∷ 0 ∷ 0 ∷ 0 ∷ 0 ∷ 0 ∷ 0 ∷ 0 ∷ 0 ∷ 0 ∷ 0 ∷ 0 ∷ 0 ∷ 0 ∷ 0 ∷ 0 ∷ 0 ∷ 0 ∷ 0 ∷ 0 ∷ 0 ∷ 0 ∷ 0 ∷ 0 ∷ []

-- two messages of one digest
pub record Collision : Type 0 where
  pub one : List ℕ
  pub other : List ℕ
  pub differ : one ≢ other
  pub agree : sha256 one ≡ sha256 other

-- ---- marks

-- `entry 2cf24dba...`: the kind, a space, and the 64 digits of the line's digest
abbrev pub marked : LineKind → List ℕ → List ℕ
marked kind digest = kind_text kind ++ 32 ∷ encode_lower digest

-- the mark of a line of this kind
abbrev pub mark_of : List ℕ → List ℕ → LineKind → List ℕ
mark_of before body kind = marked kind (chained before (record { kind = kind; body = body }))

-- the kind of the line whose mark this is, where the line before it has this digest: a line with another body, kind or digest, or after
-- another line, has another mark
abbrev pub taken_as : List ℕ → List ℕ → List ℕ → Result LineKind LineFault
taken_as before mark body = ok_or (find (λ kind. same_text (mark_of before body kind) mark) kinds) NotALine
