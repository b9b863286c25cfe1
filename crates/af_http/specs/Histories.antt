-- What is known of a reader or a writer by its history alone (this product's own rule).
use Rattle.std.specs.Prelude.{None, length}
use Rattle.af_http.specs.declared.counted.Counted.{Counted}
use Rattle.af_http.specs.Streams.{Given, Taken, bytes_of, numbers_of}

-- what was moved, without the reader or writer
abbrev pub history_of : {T : Type 0} → Counted T → Counted (Unit {0})
history_of c = record {
  inner = tt;
  moved = c.moved;
  refused = c.refused;
  calls = c.calls;
  fruitful = c.fruitful;
  ends = c.ends;
  failures = c.failures;
  narrow = c.narrow;
  sizes = c.sizes;
}

-- what a reader has given; what comes after is not known
abbrev pub given_by : {T : Type 0} → Counted T → Given
given_by c = record {
  bytes = bytes_of c.moved.items;
  reads = length c.calls.items;
  fruitful = length c.fruitful.items;
  ends = length c.ends.items;
  failures = length c.failures.items;
  narrow = length c.narrow.items;
  sizes = numbers_of c.sizes.items;
  whole = None;
}

-- what a writer has taken; what it holds is not known
abbrev pub taken_by : {T : Type 0} → Counted T → Taken
taken_by c = record {
  bytes = bytes_of c.moved.items;
  failures = length c.failures.items;
  refused = bytes_of c.refused.items;
  contents = None;
}
