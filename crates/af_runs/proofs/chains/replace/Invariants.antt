use Rattle.std.proofs.Common.{◌≡◌, ◌++◌, map, take, drop}
use Rattle.af_runs.specs.Chains.{out}
use Rattle.af_runs.proofs.chains.replace.Given as goal

abbrev pub invariant-loop-number : goal.invariant-loop-number
invariant-loop-number l = l.numbers ≡ map (out l.from l.to) (take l.number-index l.fn.numbers) ++ drop l.number-index l.fn.numbers
