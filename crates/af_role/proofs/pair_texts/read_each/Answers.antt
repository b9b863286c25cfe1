use Rattle.std.proofs.Common.{inl, refl}
use Rattle.af_role.proofs.PairTextLemmas.{allowed_more, read_more, read_refused}
use Rattle.af_role.proofs.pair_texts.read_each.Goals as goal

pub returns-in-None-clause-refused : goal.returns-in-None-clause-refused
returns-in-None-clause-refused c =
    rw (read_refused c.args.texts.now c.loop-text.text-index c.text-item.result c.text-item.is c.loop-text-test.true c.loop-text.invariant.allowed c.in_ok-pair.field-0 c.in_ok-pair.ensures c.in_ok-copied-in-None.field-0 c.in_ok-copied-in-None.ensures c.in-None.is) (inl refl)

pub returns-in-None-clause-fault : goal.returns-in-None-clause-fault
returns-in-None-clause-fault c =
    inl (read_refused c.args.texts.now c.loop-text.text-index c.text-item.result c.text-item.is c.loop-text-test.true c.loop-text.invariant.allowed c.in_ok-pair.field-0 c.in_ok-pair.ensures c.in_ok-copied-in-None.field-0 c.in_ok-copied-in-None.ensures c.in-None.is)

pub loop-text-preserved : goal.loop-text-preserved
loop-text-preserved c = record {
  put = read_more c.args.texts.now c.loop-text.text-index c.text-item.result c.text-item.is c.loop-text-test.true c.loop-text.invariant.allowed c.in_ok-pair.field-0 c.in_ok-pair.ensures c.in-Some.pair c.in-Some.is c.loop-text.permissions c.add.new.self c.loop-text.invariant.put c.in_ok-add-in-Some.ensures.ok;
  allowed = allowed_more c.args.texts.now c.loop-text.text-index c.text-item.result c.text-item.is c.loop-text-test.true c.loop-text.invariant.allowed c.in_ok-pair.field-0 c.in_ok-pair.ensures c.in-Some.pair c.in-Some.is;
}
