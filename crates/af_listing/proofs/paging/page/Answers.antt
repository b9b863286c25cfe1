use Rattle.std.proofs.Common.{◌∙◌}
use Rattle.af_listing.specs.Pages.{shows_row}
use Rattle.af_listing.proofs.WholeLemmas.{page_of_all}
use Rattle.af_listing.proofs.paging.page.Goals as goal

pub returns-then-shows_all : goal.returns-then-shows_all
returns-then-shows_all g c =
    let reads = g.R.Reader.reads c.args.reader.now
    in c.in_ok-page.ensures
    ∙ page_of_all (shows_row reads g.T.Listed.named g.T.Listed.of_run) (c.shows_all.ensures c.if-shows_all.true) c.args.window c.args.rows.now
