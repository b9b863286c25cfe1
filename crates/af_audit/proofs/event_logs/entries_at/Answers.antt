use Rattle.std.proofs.Common.{◌≡◌, get_or, map, slice_get}
use Rattle.std.specs.Option.{option_copied}
use Rattle.af_audit.proofs.LogLemmas.{found_more, got_at}
use Rattle.af_audit.proofs.event_logs.entries_at.Goals as goal

pub loop-place-preserved : goal.loop-place-preserved
loop-place-preserved c =
    let found : option_copied c.get.result ≡ slice_get c.args.entries.now (get_or c.args.places.now c.loop-place.place-index 0) =
    got_at c.args.entries.now (get_or c.args.places.now c.loop-place.place-index 0) c.get.result c.get.ensures.lookup.0 c.get.ensures.lookup.1 in
    found_more c.args.entries.now c.args.places.now c.loop-place.place-index (option_copied c.get.result) (map (λ entry. entry.now) c.loop-place.told.items) (map (λ entry. entry.now) c.add_found.new.told.items) c.loop-place-test.true found c.loop-place.invariant c.in_ok-add_found.ensures
