use Rattle.std.proofs.Common.{◌≡◌, [], None, take}
use Rattle.std.specs.List.{filter_map}
use Rattle.af_role.specs.Pairs.{with_pairs}
use Rattle.af_role.specs.PairTexts.{pair_read, refused_pair}
use Rattle.af_role.proofs.pair_texts.read_each.Given as goal

abbrev pub invariant-loop-text : goal.invariant-loop-text
invariant-loop-text l = record {
  put : l.permissions ≡ with_pairs [] (filter_map pair_read (take l.text-index l.texts));
  allowed : refused_pair (take l.text-index l.texts) ≡ None;
}
