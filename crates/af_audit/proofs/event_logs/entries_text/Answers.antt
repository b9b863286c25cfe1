use Rattle.std.proofs.Common.{◌≡◌, ◌∙◌, ap, length, map, List, Bool, ℕ}
use Rattle.af_listing.specs.Pages.{Told, cut, shows}
use Rattle.af_audit.specs.declared.entry.Entry.{Entry}
use Rattle.af_audit.specs.Logs.{act_dag, shown_entries}
use Rattle.af_audit.proofs.LogLemmas.{borrowed_rows, told_rows}
use Rattle.af_audit.proofs.event_logs.entries_text.Goals as goal

pub returns : goal.returns
returns g c =
    let reads : List ℕ → Bool = (g.R.Reader.reads c.args.reader.now).dags in
    let shown : List Entry = shown_entries reads c.args.entries.now in
    let told : map (λ entry. entry.now) c.as_slice.result.now ≡ cut c.args.window shown =
    told_rows (shows reads (λ entry. act_dag entry.act)) (c.pages_tell_shown_rows.ensures (shows reads (λ entry. act_dag entry.act))) c.args.window c.args.entries.now c.places.result.now (map (λ entry. entry.now) c.as_slice.result.now)
    (c.places.ensures ∙ ap (λ (page : Told). page.places) c.in_ok-page.ensures)
    (ap (map (λ entry. entry.now)) c.as_slice.ensures.value ∙ c.in_ok-told.ensures) in
    let total : c.total.result ≡ length shown = c.total.ensures ∙ ap (λ (page : Told). page.total) c.in_ok-page.ensures in
    c.in_ok-text.ensures ∙ borrowed_rows (λ entry. entry.now) c.as_slice.result.now (cut c.args.window shown) c.total.result (length shown) told total
