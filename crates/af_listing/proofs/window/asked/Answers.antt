use Rattle.std.proofs.Common.{ap, sym, ◌∙◌}
use Rattle.std.specs.Prelude.{None, Option, Some, ok_or, ℕ}
use Rattle.std.specs.Option.{option_map}
use Rattle.form_urlencoded.specs.Form.{pair_text}
use Rattle.af_listing.proofs.DecodeLemmas.{asked_found}
use Rattle.af_listing.proofs.window.asked.Goals as goal

pub returns-in-Some : goal.returns-in-Some
returns-in-Some c =
    c.ok_or.ensures.value
    ∙ ap (λ (number : Option ℕ). ok_or number c.args.parameter) c.number_in.ensures
    ∙ asked_found c.args.parameter c.args.absent c.args.query.now (Some (pair_text c.in-Some.pair)) (sym (ap (option_map pair_text) c.in-Some.is) ∙ c.found.ensures)

pub returns-in-None : goal.returns-in-None
returns-in-None c = asked_found c.args.parameter c.args.absent c.args.query.now None (sym (ap (option_map pair_text) c.in-None.is) ∙ c.found.ensures)
