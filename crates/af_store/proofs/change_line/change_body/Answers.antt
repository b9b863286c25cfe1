use Rattle.std.proofs.Common.{◌∙◌, ap}
use Rattle.af_store.specs.ChangeReads.{change_of}
use Rattle.af_store.proofs.ChangeLemmas.{change_of-change_body}
use Rattle.af_store.proofs.change_line.change_body.Goals as goal

pub returns-clause-read_back : goal.returns-clause-read_back
returns-clause-read_back c =
    ap change_of c.in_ok-text.ensures
    ∙ change_of-change_body (record { by = c.args.by.now; change = c.args.change.now }) (c.show_name.ensures, c.show_change.ensures)
