-- Of which kind a step is: it has a member of just one of their names (this product's own rule).
use Rattle.std.specs.Prelude.{ℕ, List, [], ◌∷◌, Bool, codes, filter, find, is_some, length, ◌==◌, ok_or, Result, Err, if◌then◌else◌}
use Rattle.serde_json.specs.Data.{Data}
use Rattle.af_base.specs.Readings.{member_of}
use Rattle.af_trace.specs.declared.kind.Kind.{Kind}
use Rattle.af_trace.specs.declared.kind.Kind.TheVariants.{Look, Act, Me, Publish, Tick, Claim, Report}
use Rattle.af_trace.specs.declared.trace_fault.TraceFault.{TraceFault}
use Rattle.af_trace.specs.declared.trace_fault.TraceFault.TheVariants.{Form}

abbrev pub kind_text : Kind → List ℕ
kind_text Look = codes "look"
kind_text Act = codes "act"
kind_text Me = codes "me"
kind_text Publish = codes "publish"
kind_text Tick = codes "tick"
kind_text Claim = codes "claim"
kind_text Report = codes "report"

abbrev pub kinds : List Kind
kinds = Look ∷ Act ∷ Me ∷ Publish ∷ Tick ∷ Claim ∷ Report ∷ []

-- whether a step has the member that steps of this kind have
abbrev pub has_kind : Data → Kind → Bool
has_kind step kind = is_some (member_of (kind_text kind) step)

-- how many kinds it could be of
abbrev pub kind_count : Data → ℕ
kind_count step = length (filter (has_kind step) kinds)

abbrev pub kind_in : Data → Result Kind TraceFault
kind_in step = if kind_count step == 1 then ok_or (find (has_kind step) kinds) Form else Err Form
