-- The texts of faults (this product's own rule).
use Rattle.std.specs.Prelude.{ℕ, List, codes}
use Rattle.af_sched.specs.declared.add_dag_fault.AddDagFault.{AddDagFault}
use Rattle.af_sched.specs.declared.add_dag_fault.AddDagFault.TheVariants.{NoActiveRuns, NoStep, NoSuchPool, Exists, Full, OutOfMemory}
use Rattle.af_sched.specs.declared.report_fault.ReportFault.{ReportFault}
use Rattle.af_sched.specs.declared.report_fault.ReportFault.TheVariants.{NoSuchInstance, NotRunning, WrongTry}

abbrev pub add_dag_text : AddDagFault → List ℕ
add_dag_text NoActiveRuns = codes "none of the DAG's runs may be running"
add_dag_text NoStep = codes "the schedule is of 0 seconds"
add_dag_text NoSuchPool = codes "a task's pool is not there"
add_dag_text Exists = codes "a DAG has the id"
add_dag_text Full = codes "there are 1,024 DAGs"
add_dag_text OutOfMemory = codes "out of memory"

abbrev pub report_text : ReportFault → List ℕ
report_text NoSuchInstance = codes "no such instance"
report_text NotRunning = codes "the instance is not running"
report_text WrongTry = codes "the instance runs another try"
