-- The line that opens a store: the format of its lines, and the configuration that it was opened with, byte by byte, with its SHA-256 (FIPS 180-4;
-- the members are this product's own rule).
use Rattle.std.specs.Prelude.{ℕ, List, [], ◌∷◌, codes, Result}
use Rattle.hex.specs.Hex.{encode_lower}
use Rattle.serde_json.specs.Data.{Data, number, unsigned, string}
use Rattle.sha2.specs.Sha256.{sha256}
use Rattle.af_base.specs.Readings.{◌>>=◌}
use Rattle.af_store.specs.Bodies.{Field, body_of}
use Rattle.af_store.specs.Members.{required_in, row_in, text_value, told_as}
use Rattle.af_store.specs.declared.line_fault.LineFault.{LineFault}

-- the format that this page and its neighbours define
abbrev pub format : ℕ
format = 1

abbrev pub opening_fields : List ℕ → List Field
opening_fields config =
    (codes "config", string config) ∷ (codes "config_sha256", string (encode_lower (sha256 config)))
    ∷ (codes "format", number (unsigned format)) ∷ []

-- the body of the line that opens a store with this configuration
abbrev pub opening_body : List ℕ → List ℕ
opening_body config = body_of (opening_fields config)

-- the configuration that a body's members say
abbrev pub opening_in : Data → Result (List ℕ) LineFault
opening_in row = required_in text_value (codes "config") row

-- the configuration that a body says, if it is just the text by which that is told: so the format is this one, and the digest is the
-- configuration's
abbrev pub opening_of : List ℕ → Result (List ℕ) LineFault
opening_of body = do
  row ← row_in body
  config ← opening_in row
  told_as opening_body body config
