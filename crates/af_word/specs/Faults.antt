-- What a fault of publishing says.
use Rattle.std.specs.Prelude.{◌≡◌, ℕ, ◌<◌}
use Rattle.af_word.specs.declared.fault.PublishFault.{PublishFault}
use Rattle.af_word.specs.declared.fault.PublishFault.TheVariants.{Last, Moved}
use Rattle.af_word.specs.Places.{Sight, EndsAt}
use Rattle.af_word.specs.Calls.{Looked}

-- the version is the last one, and nothing was done; or the pass has looked, and the list ends at a later version
abbrev pub Explains : ℕ → ℕ → Sight → Sight → PublishFault → Type 0
Explains last at before after Last = (at ≡ last) × (after ≡ before)
Explains last at before after (Moved version index) = (at < version) × Looked before after × EndsAt after.places version index
