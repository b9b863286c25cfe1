use Rattle.std.proofs.Common.{◌≡◌, map, slice_get, take}
use Rattle.std.specs.List.{filter_map}
use Rattle.af_audit.proofs.event_logs.entries_at.Given as goal

-- the entries at the places so far
abbrev pub invariant-loop-place : goal.invariant-loop-place
invariant-loop-place l =
    map (λ entry. entry.now) l.told.items ≡ filter_map (slice_get l.entries) (take l.place-index l.places)
