-- What is found of a path: a path of the table, with the texts of its parts.
use Rattle.std.proofs.Common.{◌≡◌, ℕ, Bool, true, false, cond, List, [], ◌∷◌, refl, sym, ap, subst, ◌∙◌, Option, Some, None}
use Rattle.std.specs.Prelude.{Err}
use Rattle.af_ops.specs.declared.path_template.PathTemplate.{PathTemplate}
use Rattle.std.specs.List.{find}
use Rattle.af_ops.specs.Table.{templates, segments_of}
use Rattle.af_http.specs.Parts.{IsFit, IsUnfit}
use Rattle.af_http.specs.Routes.{at_template, has_form, parts_in, template_of}
use Rattle.af_http.specs.declared.fit.Fit.{Fit}
use Rattle.af_http.specs.declared.fit.Fit.TheVariants.{Other, Unfit, Fits}
use Rattle.af_http.specs.declared.route_fault.RouteFault.TheVariants.{NoPath}
use Rattle.af_http.proofs.PartLemmas.{none_before}
use Rattle.af_http.proofs.NameLemmas.{unfit_path}
use Rattle.af_http.proofs.RouteLemmas.{one_template}

-- the path has its form, and these texts
pub found_there : (template : PathTemplate) (path : List ℕ) (texts : List (List ℕ)) → IsFit (segments_of template) path [] texts Fits → (template_of path ≡ Some template) × (parts_in (segments_of template) path ≡ Some texts)
found_there template path texts (is, all) = (one_template path template is, sym (none_before (parts_in (segments_of template) path)) ∙ all)

same_template : {o : Option PathTemplate} {p q : PathTemplate} → o ≡ Some p → o ≡ Some q → p ≡ q
same_template {p = p} {q = q} a b = let e : Some p ≡ Some q = sym a ∙ b in cc

-- or its form and no texts that fit
pub none_fits : (template : PathTemplate) (path : List ℕ) (texts : List (List ℕ)) → IsFit (segments_of template) path [] texts Unfit
    → (other : PathTemplate) → template_of path ≡ Some other → IsUnfit (parts_in (segments_of other) path)
none_fits template path texts (is, bad) other found =
    subst (λ (p : PathTemplate). IsUnfit (parts_in (segments_of p) path)) (same_template (one_template path template is) found) bad

never_both : true ≡ false → ⊥
never_both e = cc

-- a path that was found has the form
found_has : (ps : List PathTemplate) (path : List ℕ) (template : PathTemplate) → find (λ p. has_form (segments_of p) path) ps ≡ Some template → has_form (segments_of template) path ≡ true
found_has [] path template is = cc
found_has (p ∷ ps) path template is = by (has_form (segments_of p) path) refl is (λ later. found_has ps path template later)
  where
    by : (c : Bool) → has_form (segments_of p) path ≡ c → cond c (Some p) (find (λ q. has_form (segments_of q) path) ps) ≡ Some template
        → (find (λ q. has_form (segments_of q) path) ps ≡ Some template → has_form (segments_of template) path ≡ true) → has_form (segments_of template) path ≡ true
    by true e is more = ap (λ (q : PathTemplate). has_form (segments_of q) path) (sym (same_template refl is)) ∙ e
    by false e is more = more is

-- what was found and has not these texts has none that fit
pub none_there : (template : PathTemplate) (path : List ℕ) (texts : List (List ℕ)) (fit : Fit) → template_of path ≡ Some template → (fit ≡ Fits → ⊥) → IsFit (segments_of template) path [] texts fit
    → (other : PathTemplate) → template_of path ≡ Some other → IsUnfit (parts_in (segments_of other) path)
none_there template path texts Fits there not is other found = absurd (not refl)
none_there template path texts Unfit there not is other found = none_fits template path texts is other found
none_there template path texts Other there not is other found = absurd (never_both (sym (found_has templates path template there) ∙ is))

-- then there is no such path
pub no_path : (method path query body : List ℕ) (found : Option PathTemplate) → ((template : PathTemplate) → found ≡ Some template → IsUnfit (parts_in (segments_of template) path))
    → at_template method path query body found ≡ Err NoPath
no_path method path query body None bad = refl
no_path method path query body (Some template) bad = unfit_path method query body template path (bad template refl)
