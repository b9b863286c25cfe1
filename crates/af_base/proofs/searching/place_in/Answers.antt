use Rattle.std.proofs.Common.{rules}
use Rattle.std.specs.Ordering.{nat_cmp}
use Rattle.std.specs.Cmp.Lexicographic.{slice_cmp}
use Rattle.std.proofs.lemmas.Fn.{always_returns_same}
use Rattle.af_base.proofs.OrderedLemmas.{place_from_search}
use Rattle.af_base.proofs.searching.place_in.Goals as goal

-- the closure gives how a row's key stands to the key sought
pub returns : goal.returns
returns g c =
    let facts = c.binary_search_by.ensures in
    let by_key = facts.position (λ row. slice_cmp nat_cmp (g.T.Keyed.key_of row) c.args.key.now) (always_returns_same _ _ _ (λ a r f' called. search rules)) in
    place_from_search _ _ _ _ c.requires facts.bound by_key
