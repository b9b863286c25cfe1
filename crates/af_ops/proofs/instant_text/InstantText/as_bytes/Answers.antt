use Rattle.std.proofs.Common.{◌≡◌, true, List, ℕ, subst, sym, arith}
use Rattle.std.specs.List.{list_all}
use Rattle.json.specs.Run.{is_plain}
use Rattle.af_ops.proofs.InstantLemmas.{instants_are_plain}
use Rattle.af_ops.proofs.instant_text.InstantText.as_bytes.Goals as goal

pub returns-clause-plain : goal.returns-clause-plain
returns-clause-plain c =
    subst (λ (text : List ℕ). list_all is_plain text ≡ true) (sym c.self.invariant.1)
    (instants_are_plain c.self.inside.instant (omega (arith, c.micros-last.ensures.value, c.micros-last.ensures.bound)))
