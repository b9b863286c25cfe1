use Rattle.std.proofs.Common.{◌≡◌, map, drop}
use Rattle.std.specs.List.{list_any}
use Rattle.httparse.specs.Spans.{header_bytes}
use Rattle.af_http.specs.Requests.{says_close}
use Rattle.af_http.proofs.reading.asks_to_close.Given as goal

abbrev pub invariant-loop-field : goal.invariant-loop-field
invariant-loop-field l =
    list_any says_close (map (header_bytes l.head) (drop l.field-index l.fields)) ≡ list_any says_close (map (header_bytes l.head) l.fields)
