use Rattle.std.proofs.Common.{arith}
use Rattle.af_runs.proofs.index.Index.reserve.Goals as goal

pub returns-in_err-reserve-clause-room : goal.returns-in_err-reserve-clause-room
returns-in_err-reserve-clause-room c = λ rows has. record {
  ids = c.reserve.ensures.room rows has.ids;
  dates = has.dates;
  busy = omega (arith, has.busy, c.reserve.ensures.len);
  holders = omega (arith, has.holders, c.reserve.ensures.len);
}

pub returns-in_err-reserve-2-clause-room : goal.returns-in_err-reserve-2-clause-room
returns-in_err-reserve-2-clause-room c = λ rows has. record {
  ids = c.reserve.ensures.room rows has.ids;
  dates = c.reserve-2.ensures.room rows has.dates;
  busy = omega (arith, has.busy, c.reserve.ensures.len);
  holders = omega (arith, has.holders, c.reserve.ensures.len);
}

pub returns-in_err-reserve_all-clause-room : goal.returns-in_err-reserve_all-clause-room
returns-in_err-reserve_all-clause-room c = λ rows has. record {
  ids = c.reserve.ensures.room rows has.ids;
  dates = c.reserve-2.ensures.room rows has.dates;
  busy = omega (arith, has.busy, c.reserve.ensures.len, c.reserve_all.ensures.capacity);
  holders = omega (arith, has.holders, c.reserve.ensures.len);
}

pub returns-clause-room : goal.returns-clause-room
returns-clause-room c = λ rows has. record {
  ids = c.reserve.ensures.room rows has.ids;
  dates = c.reserve-2.ensures.room rows has.dates;
  busy = omega (arith, has.busy, c.reserve.ensures.len, c.reserve_all.ensures.capacity);
  holders = omega (arith, has.holders, c.reserve.ensures.len, c.reserve_all-2.ensures.capacity);
}
