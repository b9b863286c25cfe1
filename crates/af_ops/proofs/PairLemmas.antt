-- The text of a permission goes into JSON as it is: no byte of a kind, of a DAG's id or of an action wants an escape.
use Rattle.std.proofs.Common.{◌≡◌, ◌&&◌, ℕ, Bool, true, List, [], ◌∷◌, ◌++◌, refl, ap, ap₂, sym, ◌∙◌, append_assoc, codes}
use Rattle.std.specs.List.{list_all}
use Rattle.std.proofs.lemmas.List.Folds.{list_all-append}
use Rattle.json.specs.Run.{is_plain}
use Rattle.serde_json.specs.Data.{string}
use Rattle.serde_json.specs.Written.{compact_text}
use Rattle.af_names.specs.Names.{is_id_byte}
use Rattle.af_role.specs.declared.action.Action.{Action}
use Rattle.af_role.specs.declared.action.Action.TheVariants.{Create, Read, Edit, Delete}
use Rattle.af_role.specs.declared.resource.ResourceKind.{ResourceKind}
use Rattle.af_role.specs.declared.resource.ResourceKind.TheVariants.{Dags, DagRuns, TaskInstances, Pools, Variables, AuditLogs, Roles, Users}
use Rattle.af_role.specs.declared.dag_part.DagPart.{DagPart}
use Rattle.af_role.specs.declared.dag_part.DagPart.TheVariants.{Itself, Runs}
use Rattle.af_role.specs.Pairs.{on_kind, on_part, pair_text}
use Rattle.af_role.specs.Resources.{action_text, kind_text, part_prefix}
use Rattle.af_ops.proofs.TextLemmas.{ids_are_plain, plain_is}

action_plain : (action : Action) → list_all is_plain (codes "." ++ action_text action) ≡ true
action_plain Create = refl
action_plain Read = refl
action_plain Edit = refl
action_plain Delete = refl

kind_plain : (kind : ResourceKind) → list_all is_plain (kind_text kind) ≡ true
kind_plain Dags = refl
kind_plain DagRuns = refl
kind_plain TaskInstances = refl
kind_plain Pools = refl
kind_plain Variables = refl
kind_plain AuditLogs = refl
kind_plain Roles = refl
kind_plain Users = refl

-- a resource and an action in quotation marks
spelled : (resource : List ℕ) (action : Action) → list_all is_plain resource ≡ true
    → 34 ∷ (resource ++ (codes "." ++ (action_text action ++ 34 ∷ []))) ≡ compact_text (string (resource ++ (codes "." ++ action_text action)))
spelled resource action plain =
    let both = list_all-append is_plain resource (codes "." ++ action_text action) ∙ ap₂ (λ (a b : Bool). a && b) plain (action_plain action) in
    ap (λ s. 34 ∷ s) (sym (append_assoc resource (codes "." ++ action_text action) (34 ∷ [])))
    ∙ ap (λ s. 34 ∷ (s ++ 34 ∷ [])) (sym (plain_is (resource ++ (codes "." ++ action_text action)) both))

pub kind_spelled : (kind : ResourceKind) (action : Action) → (34 ∷ []) ++ (kind_text kind ++ (codes "." ++ (action_text action ++ 34 ∷ []))) ≡ compact_text (string (pair_text (on_kind action kind)))
kind_spelled kind action = spelled (kind_text kind) action (kind_plain kind)

pub dag_spelled : (part : DagPart) (dag : List ℕ) (action : Action) → list_all is_id_byte dag ≡ true
    → (34 ∷ part_prefix part) ++ (dag ++ (codes "." ++ (action_text action ++ 34 ∷ []))) ≡ compact_text (string (pair_text (on_part part action dag)))
dag_spelled Itself dag action ids = spelled (codes "DAG:" ++ dag) action (ids_are_plain dag ids)
dag_spelled Runs dag action ids = spelled (codes "DAG Run:" ++ dag) action (ids_are_plain dag ids)
