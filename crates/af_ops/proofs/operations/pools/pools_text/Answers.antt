use Rattle.std.proofs.Common.{◌∙◌, ap, codes, length, map, rules, sym}
use Rattle.std.specs.Prelude.{List}
use Rattle.serde_json.specs.Data.{Data}
use Rattle.serde_json.specs.Written.{compact_text}
use Rattle.af_listing.specs.Pages.{cut}
use Rattle.af_pool.specs.declared.pool.Pool.{Pool}
use Rattle.af_ops.specs.Fields.{listing_of, object_of}
use Rattle.af_ops.specs.PoolEffects.{pool_told}
use Rattle.af_ops.specs.Rows.{PoolTold, pool_fields}
use Rattle.af_ops.proofs.PageLemmas.{all_same, map_now}
use Rattle.af_ops.proofs.PoolLemmas.{listed_told}
use Rattle.af_ops.proofs.operations.pools.pools_text.Goals as goal

pub returns : goal.returns
returns c =
    let state = c.args.state.now.rows in
    let shown = cut c.args.window state.pools in
    c.in_ok-body.ensures
    ∙ all_same (codes "pools") pool_fields c.as_slice-2.result.now (map (λ (pool : Pool). pool_told state pool.name pool.slots) shown) _ (length state.pools) (search rules ∙ listed_told state shown) (search rules)
    ∙ ap (λ (rows : List Data). compact_text (listing_of (codes "pools") rows (length state.pools)))
    (sym (map_now (λ (pool : Pool). pool_told state pool.name pool.slots) (λ (it : PoolTold). object_of (pool_fields it)) shown))
