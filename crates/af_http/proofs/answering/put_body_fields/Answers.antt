use Rattle.std.proofs.Common.{◌∙◌, ap, length}
use Rattle.std.proofs.lemmas.List.{append_assoc}
use Rattle.af_http.specs.Answers.{type_line_of, number_line}
use Rattle.std.specs.Prelude.{codes, List, ℕ}
use Rattle.af_http.proofs.SendLemmas.{put_as}
use Rattle.af_http.proofs.answering.put_body_fields.Goals as goal

pub returns-in-Some : goal.returns-in-Some
returns-in-Some g c =
    rw (c.in-Some.is) (
    put_as (ap (λ (name : List ℕ). number_line name (length c.in-Some.bytes.now)) c.body_line.ensures ∙ append_assoc (type_line_of c.args.status) (codes "Content-Length: ") _) c.put_number.ensures
    )
