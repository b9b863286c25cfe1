-- The schedules with a name, and their texts (Airflow 2, "DAG Runs", cron presets).
use Rattle.std.specs.Prelude.{ℕ, List, [], ◌∷◌, Option, nat_eq, codes}
use Rattle.std.specs.List.{find}
use Rattle.std.specs.Cmp.Lexicographic.{pointwise}
use Rattle.af_names.specs.declared.preset.Preset.{Preset}
use Rattle.af_names.specs.declared.preset.Preset.TheVariants.{Hourly, Daily, Weekly, Monthly}

abbrev pub presets : List Preset
presets = Hourly ∷ Daily ∷ Weekly ∷ Monthly ∷ []

abbrev pub preset_text : Preset → List ℕ
preset_text Hourly = codes "@hourly"
preset_text Daily = codes "@daily"
preset_text Weekly = codes "@weekly"
preset_text Monthly = codes "@monthly"

-- the preset whose text this is
abbrev pub preset_of : List ℕ → Option Preset
preset_of text = find (λ preset. pointwise nat_eq (preset_text preset) text) presets
