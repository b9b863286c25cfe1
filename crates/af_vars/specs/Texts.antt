-- What is told of the faults of variables. This product's own words.
use Rattle.std.specs.Prelude.{ℕ, List, codes}
use Rattle.af_vars.specs.declared.fault.VariableFault.{VariableFault}
use Rattle.af_vars.specs.declared.fault.VariableFault.TheVariants.{NoSuchVariable, Exists, Full, OutOfMemory}

abbrev pub fault_text : VariableFault → List ℕ
fault_text NoSuchVariable = codes "no such variable"
fault_text Exists = codes "a variable of that key is there"
fault_text Full = codes "65536 variables are there"
fault_text OutOfMemory = codes "out of memory"
