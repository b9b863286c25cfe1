use Rattle.std.proofs.Common.{◌≡◌, ◌∙◌, ap, map, string_bytes, subst, sym, List, ℕ, Some}
use Rattle.std.specs.Prelude.{Option, Err}
use Rattle.af_ops.specs.Table.{segments_of}
use Rattle.af_ops.specs.declared.path_template.PathTemplate.{PathTemplate}
use Rattle.af_http.specs.Routes.{IsRouted, at_template, parts_in, template_of, query_of, with_parts}
use Rattle.af_http.specs.declared.route_fault.RouteFault.TheVariants.{NoPath}
use Rattle.af_http.proofs.FitLemmas.{no_path}
use Rattle.af_http.proofs.routes.Routes.read_call.Goals as goal

pub returns-in-Some : goal.returns-in-Some
returns-in-Some c =
    let method = c.args.method.now in
    let body = c.args.body.now in
    let path = c.parted.result.0.now in
    let query = c.parted.result.1.now in
    let found = c.in-Some.ensures in
    let texts : parts_in (segments_of c.in-Some.template) path ≡ Some (map (λ part. string_bytes part) c.as_slice.result.now) = found.1 ∙ ap Some (sym c.as_slice.ensures) in
    subst (λ (p : List ℕ). IsRouted (at_template method p (query_of c.args.target.now) body (template_of p)) c.named.result) c.parted.ensures.path
    (subst (λ (q : List ℕ). IsRouted (at_template method path q body (template_of path)) c.named.result) c.parted.ensures.query
    (subst (λ (template : Option PathTemplate). IsRouted (at_template method path query body template) c.named.result) (sym found.0)
    (subst (λ (parts : Option (List (List ℕ))). IsRouted (with_parts method query body c.in-Some.template parts) c.named.result) (sym texts) c.named.ensures)))

pub returns-in-None : goal.returns-in-None
returns-in-None c =
    let path = c.parted.result.0.now in
    let query = query_of c.args.target.now in
    subst (λ (p : List ℕ). at_template c.args.method.now p query c.args.body.now (template_of p) ≡ Err NoPath) c.parted.ensures.path
    (no_path c.args.method.now path query c.args.body.now (template_of path) c.in-None.ensures)
