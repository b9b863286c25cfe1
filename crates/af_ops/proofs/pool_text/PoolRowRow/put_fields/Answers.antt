use Rattle.af_ops.proofs.pool_text.PoolRowRow.put_fields.Goals as goal

pub returns : goal.returns
returns c = rw (← c.self.view_is, ← c.as_str.ensures.text) c.put_pool.ensures
