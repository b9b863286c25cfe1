use Rattle.std.proofs.Common.{◌≡◌, ℕ, List, Some, None, sym, ap, ◌∙◌, arith}
use Rattle.std.specs.List.{find}
use Rattle.std.specs.Option.{option_map}
use Rattle.af_graph.specs.Rows.{places}
use Rattle.af_graph.specs.Definition.{id_at, is_repeated, at_place, names_nobody, is_never_taken, has_bad_slots, no_task, too_many}
use Rattle.af_graph.specs.declared.task_spec.TaskSpec.{TaskSpec}
use Rattle.af_graph.specs.declared.dag_fault.DagFault.TheVariants as fault
use Rattle.af_graph.proofs.WiringLemmas.{some_task, few_tasks, tell_duplicate, tell_unknown, tell_cycle, tell_bad_slots, found_below}
use Rattle.af_graph.proofs.plain.first_misfit.Goals as goal

pub returns-in-Some : goal.returns-in-Some
returns-in-Some c =
    let tasks : List TaskSpec = c.args.tasks.now in
    let first : no_task tasks ≡ None = some_task tasks (sym c.is_empty.ensures ∙ c.if-is_empty.false) in
    let second : too_many tasks ≡ None = few_tasks tasks (omega arith) in
    let place : ℕ = c.in-Some.place in
    let is : find (is_repeated tasks) (places tasks) ≡ Some place = sym c.in-Some.ensures in
    (tell_duplicate tasks first second (fault.Duplicate (id_at tasks place)) (ap (option_map (λ p. fault.Duplicate (id_at tasks p))) is), found_below tasks (is_repeated tasks) place is)

pub returns-in-Some-first_unknown : goal.returns-in-Some-first_unknown
returns-in-Some-first_unknown c =
    let tasks : List TaskSpec = c.args.tasks.now in
    let first : no_task tasks ≡ None = some_task tasks (sym c.is_empty.ensures ∙ c.if-is_empty.false) in
    let second : too_many tasks ≡ None = few_tasks tasks (omega arith) in
    let place : ℕ = c.in-Some-first_unknown.place in
    let is : find (at_place tasks (names_nobody tasks)) (places tasks) ≡ Some place = sym c.in-Some-first_unknown.ensures in
    (tell_unknown tasks first second (sym c.in_default.ensures) (fault.UnknownUpstream (id_at tasks place)) (ap (option_map (λ p. fault.UnknownUpstream (id_at tasks p))) is), found_below tasks (at_place tasks (names_nobody tasks)) place is)

pub returns-in-Some-first_never_taken : goal.returns-in-Some-first_never_taken
returns-in-Some-first_never_taken c =
    let tasks : List TaskSpec = c.args.tasks.now in
    let first : no_task tasks ≡ None = some_task tasks (sym c.is_empty.ensures ∙ c.if-is_empty.false) in
    let second : too_many tasks ≡ None = few_tasks tasks (omega arith) in
    let place : ℕ = c.in-Some-first_never_taken.place in
    let is : find (is_never_taken tasks) (places tasks) ≡ Some place = sym c.in-Some-first_never_taken.ensures in
    (tell_cycle tasks first second (sym c.in_default.ensures) (sym c.in_default-first_unknown.ensures) place is, found_below tasks (is_never_taken tasks) place is)

pub returns : goal.returns
returns c =
    let tasks : List TaskSpec = c.args.tasks.now in
    let first : no_task tasks ≡ None = some_task tasks (sym c.is_empty.ensures ∙ c.if-is_empty.false) in
    let second : too_many tasks ≡ None = few_tasks tasks (omega arith) in
    let place : ℕ = c.in_ok-place.place in
    let is : find (at_place tasks has_bad_slots) (places tasks) ≡ Some place = sym c.in_ok-place.ensures in
    (tell_bad_slots tasks first second (sym c.in_default.ensures) (sym c.in_default-first_unknown.ensures) (sym c.in_default-first_never_taken.ensures) place is, found_below tasks (at_place tasks has_bad_slots) place is)
