-- What is told of the faults of pools. This product's own words.
use Rattle.std.specs.Prelude.{ℕ, List, codes}
use Rattle.af_pool.specs.declared.fault.PoolFault.{PoolFault}
use Rattle.af_pool.specs.declared.fault.PoolFault.TheVariants.{BadSlots, NoSuchPool, Exists, DefaultPool, InUse, Full, OutOfMemory}

abbrev pub fault_text : PoolFault → List ℕ
fault_text BadSlots = codes "more than 1000000 slots"
fault_text NoSuchPool = codes "no such pool"
fault_text Exists = codes "a pool of that name is there"
fault_text DefaultPool = codes "the default pool stays"
fault_text InUse = codes "a task names the pool"
fault_text Full = codes "65536 pools are there"
fault_text OutOfMemory = codes "out of memory"
