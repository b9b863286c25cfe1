-- The text of a refusal is that of its answer.
use Rattle.std.proofs.Common.{◌≡◌, ℕ, Bool, true, List, Some, None, ap, ◌∙◌}
use Rattle.af_ops.specs.declared.status.Status.{Status}
use Rattle.af_http.specs.Answers.{Told, problem_body, answer_text}
use Rattle.af_http.specs.Reading.{status_of, detail_of, leaves_out, refusal_text}
use Rattle.af_http.specs.declared.refusal.Refusal.{Refusal}

abbrev plain : Status → List ℕ → Told
plain s b = record { status = s; allow = None; version = None; seq = None; body = Some b }

pub refusal_is : (t : Told) (s : Status) (b : List ℕ) (h : Bool) (r : Refusal) → t ≡ plain s b → s ≡ status_of r
    → b ≡ problem_body (status_of r) (detail_of r) → h ≡ leaves_out r → answer_text t h true ≡ refusal_text r
refusal_is t s b h r t_is s_is b_is h_is =
    ap (λ x. answer_text x h true) t_is
    ∙ ap (λ x. answer_text (plain x b) h true) s_is
    ∙ ap (λ x. answer_text (plain (status_of r) x) h true) b_is
    ∙ ap (λ x. answer_text (plain (status_of r) (problem_body (status_of r) (detail_of r))) x true) h_is
