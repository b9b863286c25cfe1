-- A part that is too long is no name, so there is no such path.
use Rattle.std.proofs.Common.{◌≡◌, ◌≤◌, ◌+◌, ◌&&◌, ℕ, Bool, true, false, not, List, [], ◌∷◌, length, refl, ap, ◌∙◌, Option, Some, None, arith}
use Rattle.std.specs.Prelude.{◌||◌, IfSome, if◌then◌else◌, is_some, nat_eq, nat_lt, Ok, Err}
use Rattle.std.specs.List.{list_any}
use Rattle.std.specs.Result.{result_ok}
use Rattle.std.proofs.lemmas.Bool.{lt-ltb, ltb-true}
use Rattle.af_names.specs.Names.{Grammar, account_name_grammar, id_grammar, is_spelled, is_tilde, named as name_in, row_name_grammar, run_id_grammar}
use Rattle.af_names.specs.declared.name_error.NameError.TheVariants.{BadName, TooLong}
use Rattle.af_ops.specs.declared.method.Method.{Method}
use Rattle.af_ops.specs.declared.path_template.PathTemplate.{PathTemplate}
use Rattle.af_ops.specs.declared.path_template.PathTemplate.TheVariants as template
use Rattle.af_ops.specs.Endpoints.{account_name_in, are_names, dag_id_in, is_get, row_name_in, run_id_in, task_id_in}
use Rattle.af_ops.specs.Methods.{method_of}
use Rattle.af_ops.specs.Table.{Segment, Text, Part, segments_of}
use Rattle.af_http.specs.Limits.{name_limit}
use Rattle.af_http.specs.Parts.{IsUnfit, is_long, part_count}
use Rattle.af_http.specs.Routes.{before, by_method, decoded, onward, parts_in, with_first, with_parts}
use Rattle.af_http.specs.declared.route_fault.RouteFault.TheVariants as fault

either_false : (b : Bool) → (b || false) ≡ true → b ≡ true
either_false true it = it
either_false false it = it

both_false : (b : Bool) → (b && false) ≡ false
both_false true = refl
both_false false = refl

-- a path has no more parts than its segments say
first_few : (part : Option (List ℕ)) (more : Option (List (List ℕ))) (n : ℕ) → IfSome more (λ texts. length texts ≤ n) → IfSome (with_first part more) (λ texts. length texts ≤ 1 + n)
first_few None more n few = tt
first_few (Some text) None n few = tt
first_few (Some text) (Some texts) n few = omega (arith, few)

parts_few : (segments : List Segment) (path : List ℕ) → IfSome (parts_in segments path) (λ texts. length texts ≤ part_count segments)
parts_few [] path = omega arith
parts_few (segment ∷ segments) [] = omega arith
parts_few (Text text ∷ segments) (b ∷ path) = parts_few segments (onward 47 path)
parts_few (Part name ∷ segments) (b ∷ path) =
    first_few (decoded (before 47 path)) (parts_in segments (onward 47 path)) (part_count segments) (parts_few segments (onward 47 path))

no_name : (grammar : Grammar) (text : List ℕ) → nat_lt grammar.longest (length text) ≡ true → result_ok (name_in grammar text) ≡ None
no_name grammar text long = by (not (is_spelled grammar text) || grammar.reserved text)
  where
    by : (b : Bool) → result_ok (if b then Err BadName else (if nat_lt grammar.longest (length text) then Err TooLong else Ok text)) ≡ None
    by true = refl
    by false = ap (λ (c : Bool). result_ok (if c then Err TooLong else Ok text)) long

no_dag : (text : List ℕ) (more : List (List ℕ)) → is_long text ≡ true → is_some (dag_id_in (text ∷ more)) ≡ false
no_dag text more long = ap (λ (o : Option (List ℕ)). is_some o) (no_name id_grammar text long)

no_run : (first text : List ℕ) (more : List (List ℕ)) → is_long text ≡ true → is_some (run_id_in (first ∷ text ∷ more)) ≡ false
no_run first text more long = ap (λ (o : Option (List ℕ)). is_some o) (no_name run_id_grammar text long)

no_tilde : (text : List ℕ) → is_long text ≡ true → is_tilde text ≡ false
no_tilde [] long = cc
no_tilde (a ∷ []) long = cc
no_tilde (a ∷ b ∷ text) long = both_false (nat_eq a 126)

no_task : (first second text : List ℕ) (more : List (List ℕ)) → is_long text ≡ true → is_some (task_id_in (first ∷ second ∷ text ∷ more)) ≡ false
no_task first second text more long = ap (λ (o : Option (List ℕ)). is_some o) (no_name id_grammar text long)

-- a DAG and a run
no_two : (texts : List (List ℕ)) → length texts ≤ 2 → list_any is_long texts ≡ true → (is_some (dag_id_in texts) && is_some (run_id_in texts)) ≡ false
no_two [] few long = cc
no_two (t ∷ []) few long = ap (λ (b : Bool). b && is_some (run_id_in (t ∷ []))) (no_dag t [] (either_false (is_long t) long))
no_two (t ∷ u ∷ []) few long = by (is_long t) refl long
  where
    by : (b : Bool) → is_long t ≡ b → (b || (is_long u || false)) ≡ true → (is_some (dag_id_in (t ∷ u ∷ [])) && is_some (run_id_in (t ∷ u ∷ []))) ≡ false
    by true it or = ap (λ (b : Bool). b && is_some (run_id_in (t ∷ u ∷ []))) (no_dag t (u ∷ []) it)
    by false it or =
        ap (λ (b : Bool). is_some (dag_id_in (t ∷ u ∷ [])) && b) (no_run t u [] (either_false (is_long u) or))
        ∙ both_false (is_some (dag_id_in (t ∷ u ∷ [])))
no_two (t ∷ u ∷ v ∷ ts) few long = absurd (omega (arith, few))

-- a DAG, a run and a task
abbrev are_three : List (List ℕ) → Bool
are_three texts = is_some (dag_id_in texts) && (is_some (run_id_in texts) && is_some (task_id_in texts))

no_first : (texts : List (List ℕ)) → is_some (dag_id_in texts) ≡ false → are_three texts ≡ false
no_first texts none = ap (λ (b : Bool). b && (is_some (run_id_in texts) && is_some (task_id_in texts))) none

no_second : (texts : List (List ℕ)) → is_some (run_id_in texts) ≡ false → are_three texts ≡ false
no_second texts none =
    ap (λ (b : Bool). is_some (dag_id_in texts) && (b && is_some (task_id_in texts))) none
    ∙ both_false (is_some (dag_id_in texts))

no_third : (texts : List (List ℕ)) → is_some (task_id_in texts) ≡ false → are_three texts ≡ false
no_third texts none =
    ap (λ (b : Bool). is_some (dag_id_in texts) && (is_some (run_id_in texts) && b)) none
    ∙ ap (λ (b : Bool). is_some (dag_id_in texts) && b) (both_false (is_some (run_id_in texts)))
    ∙ both_false (is_some (dag_id_in texts))

no_three : (texts : List (List ℕ)) → length texts ≤ 3 → list_any is_long texts ≡ true → are_three texts ≡ false
no_three [] few long = cc
no_three (t ∷ []) few long = no_first (t ∷ []) (no_dag t [] (either_false (is_long t) long))
no_three (t ∷ u ∷ []) few long = no_third (t ∷ u ∷ []) refl
no_three (t ∷ u ∷ v ∷ []) few long = by (is_long t) (is_long u) refl refl long
  where
    by : (b d : Bool) → is_long t ≡ b → is_long u ≡ d → (b || (d || (is_long v || false))) ≡ true → are_three (t ∷ u ∷ v ∷ []) ≡ false
    by true d first second or = no_first (t ∷ u ∷ v ∷ []) (no_dag t (u ∷ v ∷ []) first)
    by false true first second or = no_second (t ∷ u ∷ v ∷ []) (no_run t u (v ∷ []) second)
    by false false first second or = no_third (t ∷ u ∷ v ∷ []) (no_task t u v [] (either_false (is_long v) or))
no_three (t ∷ u ∷ v ∷ w ∷ ts) few long = absurd (omega (arith, few))

-- a DAG alone
no_one : (texts : List (List ℕ)) → length texts ≤ 1 → list_any is_long texts ≡ true → is_some (dag_id_in texts) ≡ false
no_one [] few long = cc
no_one (t ∷ []) few long = no_dag t [] (either_false (is_long t) long)
no_one (t ∷ u ∷ ts) few long = absurd (omega (arith, few))

-- a pool or a variable alone
no_row : (texts : List (List ℕ)) → length texts ≤ 1 → list_any is_long texts ≡ true → is_some (row_name_in texts) ≡ false
no_row [] few long = cc
no_row (t ∷ []) few long = ap (λ (o : Option (List ℕ)). is_some o) (no_name row_name_grammar t (either_false (is_long t) long))
no_row (t ∷ u ∷ ts) few long = absurd (omega (arith, few))

-- a role or a user alone, whose names are shorter
too_long : (text : List ℕ) → is_long text ≡ true → nat_lt account_name_grammar.longest (length text) ≡ true
too_long text long = let over = ltb-true name_limit (length text) long in lt-ltb account_name_grammar.longest (length text) (omega (arith, over))

no_account : (texts : List (List ℕ)) → length texts ≤ 1 → list_any is_long texts ≡ true → is_some (account_name_in texts) ≡ false
no_account [] few long = cc
no_account (t ∷ []) few long =
    ap (λ (o : Option (List ℕ)). is_some o) (no_name account_name_grammar t (too_long t (either_false (is_long t) long)))
no_account (t ∷ u ∷ ts) few long = absurd (omega (arith, few))

no_part : (texts : List (List ℕ)) → length texts ≤ 0 → list_any is_long texts ≡ true → ⊥
no_part [] few long = cc
no_part (t ∷ ts) few long = omega (arith, few)

-- where a text is too long, the parts are no names
no_names : (method : Option Method) (p : PathTemplate) (texts : List (List ℕ)) → length texts ≤ part_count (segments_of p) → list_any is_long texts ≡ true → are_names method p texts ≡ false
no_names method template.Version texts few long = absurd (no_part texts few long)
no_names method template.Dags texts few long = absurd (no_part texts few long)
no_names method template.Dag texts few long = no_one texts few long
no_names method template.Tasks texts few long = no_one texts few long
no_names method template.Runs [] few long = cc
no_names method template.Runs (t ∷ []) few long =
    ap (λ (b : Bool). b || (is_get method && is_tilde t)) (no_dag t [] (either_false (is_long t) long))
    ∙ ap (λ (b : Bool). is_get method && b) (no_tilde t (either_false (is_long t) long))
    ∙ both_false (is_get method)
no_names method template.Runs (t ∷ u ∷ ts) few long = absurd (omega (arith, few))
no_names method template.Run texts few long = no_two texts few long
no_names method template.RunClear texts few long = no_two texts few long
no_names method template.Instances texts few long = no_two texts few long
no_names method template.Instance texts few long = no_three texts few long
no_names method template.Clear texts few long = no_one texts few long
no_names method template.Pools texts few long = absurd (no_part texts few long)
no_names method template.Pool texts few long = no_row texts few long
no_names method template.Variables texts few long = absurd (no_part texts few long)
no_names method template.Variable texts few long = no_row texts few long
no_names method template.Entries texts few long = absurd (no_part texts few long)
no_names method template.Roles texts few long = absurd (no_part texts few long)
no_names method template.Role texts few long = no_account texts few long
no_names method template.Users texts few long = absurd (no_part texts few long)
no_names method template.User texts few long = no_account texts few long
no_names method template.Me texts few long = absurd (no_part texts few long)
no_names method template.Sync texts few long = no_one texts few long
no_names method template.Backfills texts few long = no_one texts few long

-- so there is no such path
pub unfit_path : (method query body : List ℕ) (p : PathTemplate) (path : List ℕ) → IsUnfit (parts_in (segments_of p) path) → with_parts method query body p (parts_in (segments_of p) path) ≡ Err fault.NoPath
unfit_path method query body p path unfit = by (parts_in (segments_of p) path) (parts_few (segments_of p) path) unfit
  where
    by : (parts : Option (List (List ℕ))) → IfSome parts (λ texts. length texts ≤ part_count (segments_of p)) → IsUnfit parts → with_parts method query body p parts ≡ Err fault.NoPath
    by None few unfit = refl
    by (Some texts) few unfit = ap (λ (b : Bool). if b then by_method method p texts query body else Err fault.NoPath) (no_names (method_of method) p texts few unfit)
