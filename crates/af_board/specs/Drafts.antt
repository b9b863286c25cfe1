-- When a draft is one of a board, and what a receipt says. This product's own rule.
use Rattle.std.specs.Prelude.{◌≡◌, ◌+◌, ◌<◌, [], Option, Some, None, Ok}
use Rattle.boxcar.specs.Table.{Where, Shows}
use Rattle.af_policy.specs.Rows.{PolicyRows}
use Rattle.af_policy.specs.Grants.{missing}
use Rattle.af_policy.specs.Changes.{changed, kind_of, needs_of}
use Rattle.af_board.specs.Drafted.{Drafted, Received}
use Rattle.af_board.specs.Marks.{Site, Marked, IsOf, place_of, policy_of}

-- a draft of this board: a version is left after its base; under the base's policy no requirement of the change is missing for its author,
-- and the change makes the policy that was pushed; the draft's place is that of the push
pub record IsDraft (site : Site) (d : Drafted) : Type 0 where
  pub base : IsOf site d.base
  pub room : d.base.version < site.word.last
  pub lacks_nothing : missing (policy_of site d.base) d.author (needs_of (kind_of d.change)) None [] ≡ None
  pub made : changed (policy_of site d.base) d.change ≡ Ok d.pushed.value
  pub pushed : Shows site.table d.pushed
  pub place : d.place ≡ d.pushed.index + 1

-- a receipt of a draft: author, change and base are the draft's; the version is the one after the base, and has the draft's place and
-- policy
pub record Publishes (site : Site) (d : Drafted) (r : Received) : Type 0 where
  pub author : r.author ≡ d.author
  pub change : r.change ≡ d.change
  pub base : r.base ≡ d.base
  pub mark : IsOf site r.mark
  pub version : r.mark.version ≡ d.base.version + 1
  pub place : place_of r.mark ≡ d.place
  pub policy : policy_of site r.mark ≡ d.pushed.value

-- a receipt of this board: the version is the one after the base; under the base's policy no requirement of the change is missing for its
-- author, and the change makes the version's policy
pub record IsReceipt (site : Site) (r : Received) : Type 0 where
  pub base : IsOf site r.base
  pub mark : IsOf site r.mark
  pub version : r.mark.version ≡ r.base.version + 1
  pub lacks_nothing : missing (policy_of site r.base) r.author (needs_of (kind_of r.change)) None [] ≡ None
  pub made : changed (policy_of site r.base) r.change ≡ Ok (policy_of site r.mark)

-- evidence that the table's places are used up: a push to it whose place is above the highest that the word can name
abbrev pub IsSpent : Site → Where PolicyRows → Type 0
IsSpent site pushed = Shows site.table pushed × (4_294_967_295 < pushed.index + 1)

-- a board is full at a mark: its version is the last possible one, or there is evidence that the table's places are used up
abbrev pub FullBy : Site → Marked → Option (Where PolicyRows) → Type 0
FullBy site m None = m.version ≡ site.word.last
FullBy site m (Some pushed) = IsSpent site pushed
