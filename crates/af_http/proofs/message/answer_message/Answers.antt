use Rattle.std.proofs.Common.{◌∙◌, inl, inr, refl, [], ap, subst, List, ℕ, length, take, arith}
use Rattle.af_http.specs.Requests.{Asked, asked_by, is_head}
use Rattle.af_http.specs.Reading.{Parses, IsUnread}
use Rattle.af_http.proofs.LengthLemmas.{unread_early}
use Rattle.af_http.proofs.message.answer_message.Goals as goal

pub returns-in-Ok : goal.returns-in-Ok
returns-in-Ok g c =
    let f = c.in-Ok.ensures.found in
    let n = c.in-Ok.request.length in
    let back = c.split_at.ensures.back in
    let a = c.answer_request-ended.ensures in
    let P : List ℕ → Type 0 = λ t. Parses t f.0 in
    inl (
      f.0,
      n,
      subst P c.split_at.ensures.front f.1,
      f.2,
      omega (arith, c.if-request-after.true, ap length back),
      refl,
      record {
        exchange = a.exchange;
        asks = a.asks ∙ f.3 c.split_at-in-Ok.result.0.now ∙ ap (asked_by f.0) (c.split_at-in-Ok.ensures.front ∙ ap (take n) back);
        makes = a.makes;
        puts = a.puts;
        outcome_is = a.outcome_is;
      },
    )

pub returns-in-Ok-2 : goal.returns-in-Ok-2
returns-in-Ok-2 g c =
    let f = c.in-Ok.ensures.found in
    let back = c.split_at.ensures.back in
    let P : List ℕ → Type 0 = λ t. Parses t f.0 in (
      record {
        parsed = f.0;
        parses = subst P c.split_at.ensures.front f.1;
        sized = f.2;
        short = omega (arith, c.if-request-after.false, ap length back);
        method = c.is_head.ensures ∙ ap (λ (a : Asked). is_head a.method) (f.3 []);
      },
      refl,
      refl,
    )

pub returns-in-Err : goal.returns-in-Err
returns-in-Err g c =
    let P : List ℕ → Type 0 = λ t. IsUnread t c.in-Err.refusal in
    inr (
      record {
        refusal = c.in-Err.refusal;
        bad = subst P c.split_at.ensures.front c.in-Err.ensures.bad;
        early = unread_early _ c.in-Err.refusal c.in-Err.ensures.bad;
        puts = c.end_refused.ensures.put;
        kept = refl;
        outcome_is = c.end_refused.ensures.ends;
      },
      refl,
    )
