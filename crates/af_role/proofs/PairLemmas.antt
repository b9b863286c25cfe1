-- The tests of actions, resources and permissions decide that they are the same.
use Rattle.std.proofs.Common.{◌≡◌, ℕ, List, get_or, ◌==◌, cond, refl, sym, ap, ◌∙◌}
use Rattle.std.specs.Bool.{Decides}
use Rattle.std.specs.Cmp.Lexicographic.{bytes_decides}
use Rattle.std.proofs.lemmas.Bool.Decides.{Decides-and, Decides-eqb, Decides-like}
use Rattle.af_role.specs.declared.action.Action.{Action}
use Rattle.af_role.specs.declared.action.Action.TheVariants.{Create, Read, Edit, Delete}
use Rattle.af_role.specs.declared.resource.ResourceKind.TheVariants.{Dags, DagRuns, TaskInstances, Pools, Variables, AuditLogs, Roles, Users}
use Rattle.af_role.specs.declared.dag_part.DagPart.TheVariants.{Itself, Runs}
use Rattle.af_role.specs.declared.resource.Resource.{Resource}
use Rattle.af_role.specs.declared.resource.Resource.TheVariants.{Kind, Dag}
use Rattle.af_role.specs.Resources.{action_rank, actions, kinds, resource_id, resource_rank, same_action, same_resource}
use Rattle.af_role.specs.Pairs.{PairRow, same_pair}

-- the action at a place in their order
action_at : ℕ → Action
action_at n = get_or actions n Create

action_at-rank : (a : Action) → action_at (action_rank a) ≡ a
unfolding action_at
action_at-rank Create = refl
action_at-rank Read = refl
action_at-rank Edit = refl
action_at-rank Delete = refl

pub same_action-decides : (a b : Action) → Decides (same_action a b) (a ≡ b)
same_action-decides a b = (
  λ e. sym (action_at-rank a) ∙ ap action_at ((Decides-eqb (action_rank a) (action_rank b)).0 e) ∙ action_at-rank b,
  λ e. (Decides-eqb (action_rank a) (action_rank b)).1 (ap action_rank e),
)

-- the resource at a place in their order, where single DAGs come after the eight kinds, and their runs after them
resource_at : ℕ → List ℕ → Resource
resource_at n id = cond (n == 8) (Dag Itself id) (cond (n == 9) (Dag Runs id) (Kind (get_or kinds n Dags)))

resource_at-rank : (r : Resource) → resource_at (resource_rank r) (resource_id r) ≡ r
unfolding resource_at
resource_at-rank (Dag Itself d) = refl
resource_at-rank (Dag Runs d) = refl
resource_at-rank (Kind Dags) = refl
resource_at-rank (Kind DagRuns) = refl
resource_at-rank (Kind TaskInstances) = refl
resource_at-rank (Kind Pools) = refl
resource_at-rank (Kind Variables) = refl
resource_at-rank (Kind AuditLogs) = refl
resource_at-rank (Kind Roles) = refl
resource_at-rank (Kind Users) = refl

pub same_resource-decides : (a b : Resource) → Decides (same_resource a b) (a ≡ b)
same_resource-decides a b =
    Decides-like (same_resource a b)
    (λ e. sym (resource_at-rank a) ∙ (λ i. resource_at (e.0 i) (e.1 i)) ∙ resource_at-rank b)
    (λ e. (ap resource_rank e, ap resource_id e))
    (Decides-and _ _ (Decides-eqb (resource_rank a) (resource_rank b)) (bytes_decides (resource_id a) (resource_id b)))

pub same_pair-decides : (p q : PairRow) → Decides (same_pair p q) (p ≡ q)
same_pair-decides p q =
    Decides-like (same_pair p q)
    (λ e. λ i. record { action = e.1 i; resource = e.0 i })
    (λ e. (ap (λ (r : PairRow). r.resource) e, ap (λ (r : PairRow). r.action) e))
    (Decides-and _ _ (same_resource-decides p.resource q.resource) (same_action-decides p.action q.action))
