-- Permissions as texts: which set they are, or why they are none (the faults and their order are this product's own rule).
use Rattle.std.specs.Prelude.{ℕ, List, [], not, Option, Some, None, Result, Ok, Err, option_map}
use Rattle.std.specs.List.{filter_map, find}
use Rattle.std.specs.Option.{is_some}
use Rattle.af_role.specs.declared.action.Action.{Action}
use Rattle.af_role.specs.declared.resource.Resource.{Resource}
use Rattle.af_role.specs.declared.pair_text.PairText.{PairText}
use Rattle.af_role.specs.declared.pair_fault.PairFault.{PairFault}
use Rattle.af_role.specs.declared.pair_fault.PairFault.TheVariants.{BadAction, NotAllowed}
use Rattle.af_role.specs.Resources.{action_of, resource_of}
use Rattle.af_role.specs.Pairs.{PairRow, pair_of, with_pairs}

-- the permission of an action and a resource, where both are there
abbrev pub pair_of_both : Option Action → Option Resource → Option PairRow
pair_of_both None resource = None
pair_of_both (Some action) None = None
pair_of_both (Some action) (Some resource) = pair_of action resource

abbrev pub pair_read : PairText → Option PairRow
pair_read text = pair_of_both (action_of text.action) (resource_of text.resource)

-- the first text that is none of the four actions
abbrev pub bad_pair_action : List PairText → Option (List ℕ)
bad_pair_action texts = option_map (λ text. text.action) (find (λ text. not (is_some (action_of text.action))) texts)

-- the first that is no permission
abbrev pub refused_pair : List PairText → Option PairText
refused_pair texts = find (λ text. not (is_some (pair_read text))) texts

abbrev pub pairs_unless : List PairText → Option PairText → Result (List PairRow) PairFault
pairs_unless texts (Some text) = Err (NotAllowed text)
pairs_unless texts None = Ok (with_pairs [] (filter_map pair_read texts))

-- the set of these permissions, or the first that is none
abbrev pub pairs_read_at : List PairText → Result (List PairRow) PairFault
pairs_read_at texts = pairs_unless texts (refused_pair texts)

abbrev pub pairs_of_actions : List PairText → Option (List ℕ) → Result (List PairRow) PairFault
pairs_of_actions texts (Some text) = Err (BadAction text)
pairs_of_actions texts None = pairs_read_at texts

-- a text that is no action is told before a permission that is not there, wherever they stand
abbrev pub pairs_read : List PairText → Result (List PairRow) PairFault
pairs_read texts = pairs_of_actions texts (bad_pair_action texts)
