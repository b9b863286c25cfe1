use Rattle.std.proofs.Common.{◌≡◌, ◌∙◌, refl, rules}
use Rattle.std.specs.Prelude.{nat_eq}
use denote.Enum.Bare.{sameb}
use denote.Enum.Declared.{tag_of}
use Rattle.af_ops.specs.contracts.path_template.PathTemplate as contract
use Rattle.af_ops.specs.declared.path_template.PathTemplate.{PathTemplate}
use Rattle.af_ops.specs.declared.path_template.PathTemplate.TheVariants as template
use Rattle.af_ops.specs.Table.{same_template, template_rank}
use Rattle.af_ops.proofs.table.is_route.Goals as goal

-- the place of a template among the variants is its rank
tag_is_rank : (it : PathTemplate) → tag_of contract.the_type it ≡ template_rank it
tag_is_rank template.Version = refl
tag_is_rank template.Dags = refl
tag_is_rank template.Dag = refl
tag_is_rank template.Tasks = refl
tag_is_rank template.Runs = refl
tag_is_rank template.Run = refl
tag_is_rank template.RunClear = refl
tag_is_rank template.Instances = refl
tag_is_rank template.Instance = refl
tag_is_rank template.Clear = refl
tag_is_rank template.Pools = refl
tag_is_rank template.Pool = refl
tag_is_rank template.Variables = refl
tag_is_rank template.Variable = refl
tag_is_rank template.Entries = refl
tag_is_rank template.Roles = refl
tag_is_rank template.Role = refl
tag_is_rank template.Users = refl
tag_is_rank template.User = refl
tag_is_rank template.Me = refl
tag_is_rank template.Sync = refl
tag_is_rank template.Backfills = refl

same : (one other : PathTemplate) → sameb contract.the_type one other ≡ same_template one other
same one other = λ i. nat_eq (tag_is_rank one i) (tag_is_rank other i)

pub returns-then-eq : goal.returns-then-eq
returns-then-eq c = (c.eq-then-eq.ensures ∙ same c.row.inside.template c.args.template) ∙ search rules
