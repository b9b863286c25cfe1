use Rattle.std.proofs.Common.{◌∙◌, sym}
use Rattle.af_http.proofs.FitLemmas.{found_there, none_there}
use Rattle.af_http.proofs.routes.Routes.search.Goals as goal

pub returns-in-Fits : goal.returns-in-Fits
returns-in-Fits c = found_there c.in-Some.template c.args.path.now c.read_parts.new.self.parts c.in-Fits.ensures

pub returns-in_default : goal.returns-in_default
returns-in_default c =
    none_there c.in-Some.template c.args.path.now c.read_parts.new.self.parts c.read_parts.result (sym c.template_of.ensures ∙ c.in-Some.is) c.in_default.not-Fits c.read_parts.ensures
