use Rattle.std.proofs.Common.{◌∙◌}
use Rattle.af_ops.specs.AccessTexts.{is_part_name}
use Rattle.af_ops.proofs.MemberLemmas.{all_names}
use Rattle.af_ops.proofs.access_value.are_parts.Goals as goal

pub returns : goal.returns
returns c = c.all_parts.ensures ∙ all_names is_part_name c.args.members.now
