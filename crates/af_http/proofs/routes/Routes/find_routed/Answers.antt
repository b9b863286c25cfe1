use Rattle.af_http.proofs.FitLemmas.{found_there, none_fits}
use Rattle.af_http.proofs.routes.Routes.find_routed.Goals as goal

pub returns-in-Fits : goal.returns-in-Fits
returns-in-Fits c = found_there c.in-Some.template c.args.path.now c.read_parts.new.self.parts c.in-Fits.ensures

pub returns-in-Unfit : goal.returns-in-Unfit
returns-in-Unfit c = none_fits c.in-Some.template c.args.path.now c.read_parts.new.self.parts c.in-Unfit.ensures
