use Rattle.std.proofs.Common.{◌≡◌, inl, inr, map, rules, string_bytes, subst, Option, Some, None}
use Rattle.std.specs.Prelude.{ok_or}
use Rattle.af_ops.specs.declared.call.Call.{Call}
use Rattle.af_ops.specs.Calls.{IsRead, call_of_row}
use Rattle.af_http.specs.Routes.{IsAsked}
use Rattle.af_http.specs.declared.route_fault.RouteFault.TheVariants.{NoPath}
use Rattle.af_http.proofs.routes.read.Goals as goal

-- what was read is asked for
asked : (expected : Option Call) (it : Call) → IsRead expected (Some it) → IsAsked (ok_or expected NoPath) it
asked None it (inl is) = cc
asked None it (inr is) = cc
asked (Some wanted) it is = is

pub returns-in-Ok-Some : goal.returns-in-Ok-Some
returns-in-Ok-Some c =
    let wanted = call_of_row c.args.endpoint (map (λ part. string_bytes part) c.args.parts.now) c.args.query.now c.args.body.now in
    let same : c.in-Ok-Some.field-0 ≡ Some c.in-Ok-Some.call = search rules in
    asked wanted c.in-Ok-Some.call (subst (λ (found : Option Call). IsRead wanted found) same c.in-Ok-Some.ensures.ok)
