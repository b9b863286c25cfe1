use Rattle.std.proofs.Common.{◌∙◌, subst, sym}
use Rattle.std.specs.Prelude.{Result}
use Rattle.af_ops.specs.declared.call.Call.{Call}
use Rattle.af_http.specs.declared.route_fault.RouteFault.{RouteFault}
use Rattle.af_http.specs.Routes.{IsRouted}
use Rattle.af_http.proofs.OperationLemmas.{named_read}
use Rattle.af_http.proofs.routes.named.Goals as goal

pub returns-in-Some : goal.returns-in-Some
returns-in-Some c =
    let same = named_read c.args.method.now c.args.query.now c.args.body.now c.args.template _ c.in-Some.endpoint (sym c.endpoint_of.ensures ∙ c.in-Some.is) in
    subst (λ (expected : Result Call RouteFault). IsRouted expected c.read.result) (sym same) c.read.ensures
