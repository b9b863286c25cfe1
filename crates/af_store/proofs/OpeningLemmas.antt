-- The line that opens a store is read back as the configuration.
use Rattle.std.proofs.Common.{◌≡◌, ◌∙◌, ℕ, List, Ok, refl, arith}
use Rattle.af_store.specs.Bodies.{object_of}
use Rattle.af_store.specs.Members.{told_as}
use Rattle.af_store.specs.OpeningLines.{opening_body, opening_fields, opening_in, opening_of}
use Rattle.af_store.proofs.TextLemmas.{IsTold}
use Rattle.af_store.proofs.ReadLemmas.{read_body, told_as-told}

told : (config : List ℕ) → IsTold 9 (object_of (opening_fields config))
told config = (refl, (tt, (tt, (omega arith, tt))))

pub opening_of-opening_body : (config : List ℕ) → opening_of (opening_body config) ≡ Ok config
opening_of-opening_body config =
    read_body opening_in (told_as opening_body (opening_body config)) (object_of (opening_fields config)) (told config) config refl ∙ told_as-told opening_body config
