use Rattle.std.proofs.Common.{◌∙◌, sym}
use Rattle.af_http.proofs.ConnectLemmas.{connects_fine, connects_fault}
use Rattle.af_http.proofs.serving.serve_all.Goals as goal

pub returns-then-has_failed : goal.returns-then-has_failed
returns-then-has_failed g c =
    connects_fault g.S.Service.answers _ _ _ _ _ _ _ _ c.serve_each-ended.ensures c.requires.empty c.flush.ensures.sent
    (sym c.has_failed.ensures ∙ c.if-has_failed.true) c.flush.ensures.idle

pub returns : goal.returns
returns g c =
    connects_fine g.S.Service.answers _ _ _ _ _ _ _ _ c.serve_each-ended.ensures c.requires.empty c.flush.ensures.sent
    (sym c.has_failed.ensures ∙ c.if-has_failed.false) (c.flush.ensures.none_waits (sym c.has_failed.ensures ∙ c.if-has_failed.false))
