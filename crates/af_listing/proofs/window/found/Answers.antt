use Rattle.std.proofs.Common.{ℕ, List, rules, bytes_eq, tests}
use Rattle.std.proofs.lemmas.Iterator.Consumers.{YieldsList-from_first}
use Rattle.std.proofs.lemmas.Iterator.Search.{find_from_yields_List}
use Rattle.form_urlencoded.specs.Form.{decode, pair_text, raw_pairs}
use Rattle.form_urlencoded.specs.Parse.{raw_pairs_left}
use Rattle.af_listing.specs.Windows.{name_of}
use Rattle.af_listing.proofs.window.found.Goals as goal

pub returns : goal.returns
returns c =
    find_from_yields_List (λ (pair : List ℕ × List ℕ). bytes_eq (decode pair.0) (name_of c.args.parameter)) c.find.new.self _ c.find.result c.find.ensures.ran
    (YieldsList-from_first pair_text raw_pairs_left (raw_pairs c.args.query.now) c.raw_pairs.ensures.value)
    (λ x b q k. search (rules, tests))
