use Rattle.std.proofs.Common.{◌≡◌, ◌≤◌, ◌-◌, ◌+◌, ◌++◌, length}
use Rattle.af_http.specs.Streams.{StaysKnown}
use Rattle.af_server.specs.Configurations.{longest}
use Rattle.af_server.proofs.files.read_whole.Given as goal

-- what came so far stands in the bytes, and they are not too many; what is known of all that comes stays known
abbrev pub invariant-loop-bytes : goal.invariant-loop-bytes
invariant-loop-bytes g l =
    ((g.F.Source.given l.file).bytes ≡ (g.F.Source.given l.fn.file).bytes ++ l.bytes.items)
    × ((g.F.Source.given l.fn.file).ends ≤ (g.F.Source.given l.file).ends)
    × ((g.F.Source.given l.file).failures ≡ (g.F.Source.given l.fn.file).failures)
    × (length l.bytes.items ≤ longest)
    × StaysKnown (g.F.Source.given l.fn.file).whole (g.F.Source.given l.file).whole

abbrev pub decreases-loop-bytes : goal.decreases-loop-bytes
decreases-loop-bytes g l = longest + 1 - length l.bytes.items
