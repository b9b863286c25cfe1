use Rattle.std.proofs.Common.{◌≡◌, ◌≤◌, take}
use Rattle.af_listing.specs.Pages.{page_of, shows_row}
use Rattle.af_listing.proofs.paging.shown_page.Given as goal

abbrev pub invariant-loop-place : goal.invariant-loop-place
invariant-loop-place g l = (l.page ≡ page_of (shows_row (g.R.Reader.reads l.reader) g.T.Listed.named g.T.Listed.of_run) l.window (take l.place l.rows)) × (l.page.total ≤ l.place)
