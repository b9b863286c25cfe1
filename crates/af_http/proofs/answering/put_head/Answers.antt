use Rattle.std.specs.Prelude.{codes}
use Rattle.af_http.specs.Answers.{close_line}
use Rattle.af_http.proofs.SendLemmas.{put_also, put_as, put_pair}
use Rattle.af_http.proofs.answering.put_head.Goals as goal

pub returns : goal.returns
returns g c =
    put_pair (close_line c.args.closes) (codes "\r\n")
    (put_also (put_also (put_also (put_also (put_also
    (put_as c.status_line.ensures.text c.begin.ensures)
    c.put_body_fields.ensures)
    c.put_allow.ensures)
    c.put_auth.ensures)
    c.put_number_of.ensures)
    c.put_number_of-2.ensures)
    (put_as c.last_lines.ensures c.put.ensures.all)
