use Rattle.std.proofs.Common.{◌<◌, length, ap, ◌∙◌, arith, Bool}
use Rattle.af_listing.specs.Pages.{Told, shows_row, with_row}
use Rattle.af_listing.proofs.PageLemmas.{page_next, total_next}
use Rattle.af_listing.proofs.paging.shown_page.Goals as goal

pub loop-place-preserved : goal.loop-place-preserved
loop-place-preserved g c =
    let shown = shows_row (g.R.Reader.reads c.args.reader.now) g.T.Listed.named g.T.Listed.of_run in
    let inside : c.loop-place.place < length c.args.rows.now = omega arith in
    let grown = total_next c.args.window c.loop-place.place c.is_shown.result c.loop-place.page in
    let total = ap (λ (page : Told). page.total) c.in_ok-see.ensures in (
      c.in_ok-see.ensures
          ∙ ap (λ (t : Bool). with_row c.args.window c.loop-place.place t c.loop-place.page) c.is_shown.ensures
          ∙ ap (with_row c.args.window c.loop-place.place (shown c.index-rows-place.result)) c.loop-place.invariant.0
          ∙ page_next shown c.args.window c.args.rows.now c.loop-place.place c.index-rows-place.result inside c.index-rows-place.is,
      omega (arith, grown, total, c.loop-place.invariant.1),
    )
