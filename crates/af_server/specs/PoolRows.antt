-- A pool of a configuration: `name` and `slots`. The default pool may stand among them once, and then it has these slots (this
-- product's own rule).
use Rattle.std.specs.Prelude.{codes, true, if◌then◌else◌, Result, Ok, Err}
use Rattle.serde_json.specs.Data.{Data}
use Rattle.af_names.specs.Names.{row_name_grammar}
use Rattle.af_graph.specs.Graph.{same_name}
use Rattle.af_graph.specs.Limits.{most_slots}
use Rattle.af_pool.specs.Pools.{add_fault, default_name, set_fault, with_pool, with_slots}
use Rattle.af_pool.specs.declared.pool.Pool.{Pool}
use Rattle.af_base.specs.Readings.{◌>>=◌}
use Rattle.af_server.specs.declared.reason.Reason.{Reason}
use Rattle.af_server.specs.declared.reason.Reason.TheVariants as reason
use Rattle.af_server.specs.Drafts.{Draft, unless_fault}
use Rattle.af_server.specs.Members.{name_in, required_number_in}
use Rattle.af_server.specs.Reasons.{pool_reason}

abbrev pub pool_in : Data → Result Pool Reason
pool_in row = do
  name ← name_in row_name_grammar (codes "name") row
  slots ← required_number_in (codes "slots") 0 most_slots row
  Ok (record { name = name; slots = slots })

-- the pools with one more, in its place by name
abbrev pub further_pool : Draft → Pool → Result Draft Reason
further_pool draft pool =
    unless_fault pool_reason (add_fault draft.state.pools pool.name pool.slots) (
    record draft { state = record draft.state { pools = with_pool draft.state.pools pool } }
    )

-- the default pool with these slots
abbrev pub set_default : Draft → Pool → Result Draft Reason
set_default draft pool =
    if draft.has_default then Err reason.Duplicate
    else unless_fault pool_reason (set_fault draft.state.pools pool.name pool.slots) (record draft {
      state = record draft.state { pools = with_slots draft.state.pools pool.name pool.slots };
      has_default = true;
    })

abbrev pub placed_pool : Draft → Pool → Result Draft Reason
placed_pool draft pool =
    if same_name pool.name default_name then set_default draft pool else further_pool draft pool

abbrev pub pool_taken : Draft → Data → Result Draft Reason
pool_taken draft row = pool_in row >>= placed_pool draft
