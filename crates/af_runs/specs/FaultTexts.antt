-- What is told of the faults of runs. This product's own words.
use Rattle.std.specs.Prelude.{ℕ, List, codes}
use Rattle.af_runs.specs.declared.run_fault.RunFault.{RunFault}
use Rattle.af_runs.specs.declared.run_fault.RunFault.TheVariants.{RunExists, DateTaken, Full, OutOfMemory}

abbrev pub run_text : RunFault → List ℕ
run_text RunExists = codes "the DAG has a run of that id"
run_text DateTaken = codes "the DAG has a run of that logical date"
run_text Full = codes "the DAG has as many runs as it may have"
run_text OutOfMemory = codes "out of memory"
