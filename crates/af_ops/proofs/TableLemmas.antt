-- A method and a path name one row of the table at most: no two rows of one method have patterns that share a path.
use Rattle.std.proofs.Common.{◌≡◌, ◌<◌, ◌∙◌, ℕ, zero, suc, Bool, true, false, List, [], ◌∷◌, length, get_or, refl, sym, ap, arith, not, ◌&&◌, subst}
use Rattle.std.specs.List.{list_all}
use Rattle.std.specs.Cmp.Lexicographic.{pointwise, bytes_decides}
use Rattle.std.specs.Prelude.{nat_eq}
use Rattle.std.proofs.lemmas.Bool.{and_from, and_parts, false≢true, not-true}
use Rattle.af_ops.specs.declared.endpoint.Endpoint.{Endpoint}
use Rattle.af_ops.specs.declared.endpoint.Endpoint.TheVariants as endpoint
use Rattle.af_ops.specs.declared.method.Method.{Method}
use Rattle.af_ops.specs.declared.method.Method.TheVariants.{Get, Post, Patch, Delete}
use Rattle.af_ops.specs.Laws.{EachIsFound, Matches, OneRowAtMost}
use Rattle.af_ops.specs.Methods.{same_method}
use Rattle.af_ops.specs.Table.{Segment, Text, Part, endpoints, route_of, segments_of}

-- whether some path may be of both patterns
overlap : List Segment → List Segment → Bool
overlap [] [] = true
overlap [] (other ∷ others) = false
overlap (one ∷ ones) [] = false
overlap (Text a ∷ ones) (Text b ∷ others) = pointwise nat_eq a b && overlap ones others
overlap (Text a ∷ ones) (Part n ∷ others) = overlap ones others
overlap (Part m ∷ ones) (Text b ∷ others) = overlap ones others
overlap (Part m ∷ ones) (Part n ∷ others) = overlap ones others

matched : (ones others : List Segment) (path : List (List ℕ)) → Matches ones path → Matches others path → overlap ones others ≡ true
unfolding overlap
matched [] [] path one other = refl
matched [] (o ∷ others) [] one other = absurd other
matched [] (o ∷ others) (text ∷ path) one other = absurd one
matched (o ∷ ones) [] [] one other = absurd one
matched (o ∷ ones) [] (text ∷ path) one other = absurd other
matched (o ∷ ones) (p ∷ others) [] one other = absurd one
matched (Text a ∷ ones) (Text b ∷ others) (text ∷ path) one other =
    and_from (pointwise nat_eq a b) (overlap ones others) ((bytes_decides a b).1 (sym one.0 ∙ other.0)) (matched ones others path one.1 other.1)
matched (Text a ∷ ones) (Part n ∷ others) (text ∷ path) one other = matched ones others path one.1 other.1
matched (Part m ∷ ones) (Text b ∷ others) (text ∷ path) one other = matched ones others path one.1 other.1
matched (Part m ∷ ones) (Part n ∷ others) (text ∷ path) one other = matched ones others path one.1 other.1

-- whether some request may be of both rows
clash : Endpoint → Endpoint → Bool
clash one other = same_method (route_of one).method (route_of other).method && overlap (segments_of (route_of one).template) (segments_of (route_of other).template)

-- no element clashes with a later one, nor a later one with it
all_apart : {X : Type 0} → (X → X → Bool) → List X → Bool
all_apart test [] = true
all_apart test (x ∷ xs) = list_all (λ y. not (test x y) && not (test y x)) xs && all_apart test xs

all_at : {X : Type 0} (test : X → Bool) (xs : List X) (i : ℕ) (d : X) → list_all test xs ≡ true → i < length xs → test (get_or xs i d) ≡ true
all_at test [] i d all inside = absurd (omega arith)
all_at test (x ∷ xs) zero d all inside = (and_parts (test x) (list_all test xs) all).0
all_at test (x ∷ xs) (suc i) d all inside = all_at test xs i d (and_parts (test x) (list_all test xs) all).1 (omega arith)

apart_at : {X : Type 0} (test : X → X → Bool) (xs : List X) (i j : ℕ) (d : X) → all_apart test xs ≡ true → i < length xs → j < length xs → test (get_or xs i d) (get_or xs j d) ≡ true → i ≡ j
unfolding all_apart
apart_at test [] i j d apart here there both = absurd (omega arith)
apart_at test (x ∷ xs) zero zero d apart here there both = refl
apart_at test (x ∷ xs) zero (suc j) d apart here there both =
    let parts = and_parts (list_all (λ y. not (test x y) && not (test y x)) xs) (all_apart test xs) apart in
    let none = and_parts (not (test x (get_or xs j d))) (not (test (get_or xs j d) x)) (all_at (λ y. not (test x y) && not (test y x)) xs j d parts.0 (omega arith)) in
    absurd (false≢true (sym (not-true (test x (get_or xs j d)) none.0) ∙ both))
apart_at test (x ∷ xs) (suc i) zero d apart here there both =
    let parts = and_parts (list_all (λ y. not (test x y) && not (test y x)) xs) (all_apart test xs) apart in
    let none = and_parts (not (test x (get_or xs i d))) (not (test (get_or xs i d) x)) (all_at (λ y. not (test x y) && not (test y x)) xs i d parts.0 (omega arith)) in
    absurd (false≢true (sym (not-true (test (get_or xs i d) x) none.1) ∙ both))
apart_at test (x ∷ xs) (suc i) (suc j) d apart here there both =
    let parts = and_parts (list_all (λ y. not (test x y) && not (test y x)) xs) (all_apart test xs) apart in
    ap suc (apart_at test xs i j d parts.1 (omega arith) (omega arith) both)

-- where an operation stands in the table
rank : Endpoint → ℕ
rank endpoint.Version = 0
rank endpoint.ListDags = 1
rank endpoint.GetDag = 2
rank endpoint.PauseDag = 3
rank endpoint.ListTasks = 4
rank endpoint.ListRuns = 5
rank endpoint.TriggerRun = 6
rank endpoint.GetRun = 7
rank endpoint.MarkRun = 8
rank endpoint.DeleteRun = 9
rank endpoint.ClearRun = 10
rank endpoint.ListInstances = 11
rank endpoint.GetInstance = 12
rank endpoint.ClearInstances = 13
rank endpoint.ListPools = 14
rank endpoint.AddPool = 15
rank endpoint.GetPool = 16
rank endpoint.ChangePool = 17
rank endpoint.DeletePool = 18
rank endpoint.ListVariables = 19
rank endpoint.AddVariable = 20
rank endpoint.GetVariable = 21
rank endpoint.ChangeVariable = 22
rank endpoint.DeleteVariable = 23
rank endpoint.ListEntries = 24
rank endpoint.ListRoles = 25
rank endpoint.AddRole = 26
rank endpoint.GetRole = 27
rank endpoint.ChangeRole = 28
rank endpoint.DeleteRole = 29
rank endpoint.ListUsers = 30
rank endpoint.AddUser = 31
rank endpoint.GetUser = 32
rank endpoint.ChangeUser = 33
rank endpoint.DeleteUser = 34
rank endpoint.GetMe = 35
rank endpoint.SyncDag = 36
rank endpoint.BackfillDag = 37

stands : (it d : Endpoint) → get_or endpoints (rank it) d ≡ it
unfolding rank
stands endpoint.Version d = refl
stands endpoint.ListDags d = refl
stands endpoint.GetDag d = refl
stands endpoint.PauseDag d = refl
stands endpoint.ListTasks d = refl
stands endpoint.ListRuns d = refl
stands endpoint.TriggerRun d = refl
stands endpoint.GetRun d = refl
stands endpoint.MarkRun d = refl
stands endpoint.DeleteRun d = refl
stands endpoint.ClearRun d = refl
stands endpoint.ListInstances d = refl
stands endpoint.GetInstance d = refl
stands endpoint.ClearInstances d = refl
stands endpoint.ListPools d = refl
stands endpoint.AddPool d = refl
stands endpoint.GetPool d = refl
stands endpoint.ChangePool d = refl
stands endpoint.DeletePool d = refl
stands endpoint.ListVariables d = refl
stands endpoint.AddVariable d = refl
stands endpoint.GetVariable d = refl
stands endpoint.ChangeVariable d = refl
stands endpoint.DeleteVariable d = refl
stands endpoint.ListEntries d = refl
stands endpoint.ListRoles d = refl
stands endpoint.AddRole d = refl
stands endpoint.GetRole d = refl
stands endpoint.ChangeRole d = refl
stands endpoint.DeleteRole d = refl
stands endpoint.ListUsers d = refl
stands endpoint.AddUser d = refl
stands endpoint.GetUser d = refl
stands endpoint.ChangeUser d = refl
stands endpoint.DeleteUser d = refl
stands endpoint.GetMe d = refl
stands endpoint.SyncDag d = refl
stands endpoint.BackfillDag d = refl

inside : (it : Endpoint) → rank it < length endpoints
unfolding rank
inside endpoint.Version = omega arith
inside endpoint.ListDags = omega arith
inside endpoint.GetDag = omega arith
inside endpoint.PauseDag = omega arith
inside endpoint.ListTasks = omega arith
inside endpoint.ListRuns = omega arith
inside endpoint.TriggerRun = omega arith
inside endpoint.GetRun = omega arith
inside endpoint.MarkRun = omega arith
inside endpoint.DeleteRun = omega arith
inside endpoint.ClearRun = omega arith
inside endpoint.ListInstances = omega arith
inside endpoint.GetInstance = omega arith
inside endpoint.ClearInstances = omega arith
inside endpoint.ListPools = omega arith
inside endpoint.AddPool = omega arith
inside endpoint.GetPool = omega arith
inside endpoint.ChangePool = omega arith
inside endpoint.DeletePool = omega arith
inside endpoint.ListVariables = omega arith
inside endpoint.AddVariable = omega arith
inside endpoint.GetVariable = omega arith
inside endpoint.ChangeVariable = omega arith
inside endpoint.DeleteVariable = omega arith
inside endpoint.ListEntries = omega arith
inside endpoint.ListRoles = omega arith
inside endpoint.AddRole = omega arith
inside endpoint.GetRole = omega arith
inside endpoint.ChangeRole = omega arith
inside endpoint.DeleteRole = omega arith
inside endpoint.ListUsers = omega arith
inside endpoint.AddUser = omega arith
inside endpoint.GetUser = omega arith
inside endpoint.ChangeUser = omega arith
inside endpoint.DeleteUser = omega arith
inside endpoint.GetMe = omega arith
inside endpoint.SyncDag = omega arith
inside endpoint.BackfillDag = omega arith

same-refl : (method : Method) → same_method method method ≡ true
same-refl Get = refl
same-refl Post = refl
same-refl Patch = refl
same-refl Delete = refl

table_apart : all_apart clash endpoints ≡ true
unfolding all_apart clash overlap
table_apart = refl

pub one_row : OneRowAtMost
unfolding clash
one_row path one other method at_one at_other =
    let same : same_method (route_of one).method (route_of other).method ≡ true = subst (λ (m : Method). same_method (route_of one).method m ≡ true) method (same-refl (route_of one).method) in
    let both : clash one other ≡ true = and_from (same_method (route_of one).method (route_of other).method) (overlap (segments_of (route_of one).template) (segments_of (route_of other).template)) same (matched (segments_of (route_of one).template) (segments_of (route_of other).template) path at_one at_other) in
    let at : rank one ≡ rank other = apart_at clash endpoints (rank one) (rank other) one table_apart (inside one) (inside other) (rw (stands one one, stands other one) both) in
    sym (stands one one) ∙ ap (λ n. get_or endpoints n one) at ∙ stands other one

pub each_found : EachIsFound
each_found endpoint.Version = refl
each_found endpoint.ListDags = refl
each_found endpoint.GetDag = refl
each_found endpoint.PauseDag = refl
each_found endpoint.ListTasks = refl
each_found endpoint.ListRuns = refl
each_found endpoint.TriggerRun = refl
each_found endpoint.GetRun = refl
each_found endpoint.MarkRun = refl
each_found endpoint.DeleteRun = refl
each_found endpoint.ClearRun = refl
each_found endpoint.ListInstances = refl
each_found endpoint.GetInstance = refl
each_found endpoint.ClearInstances = refl
each_found endpoint.ListPools = refl
each_found endpoint.AddPool = refl
each_found endpoint.GetPool = refl
each_found endpoint.ChangePool = refl
each_found endpoint.DeletePool = refl
each_found endpoint.ListVariables = refl
each_found endpoint.AddVariable = refl
each_found endpoint.GetVariable = refl
each_found endpoint.ChangeVariable = refl
each_found endpoint.DeleteVariable = refl
each_found endpoint.ListEntries = refl
each_found endpoint.ListRoles = refl
each_found endpoint.AddRole = refl
each_found endpoint.GetRole = refl
each_found endpoint.ChangeRole = refl
each_found endpoint.DeleteRole = refl
each_found endpoint.ListUsers = refl
each_found endpoint.AddUser = refl
each_found endpoint.GetUser = refl
each_found endpoint.ChangeUser = refl
each_found endpoint.DeleteUser = refl
each_found endpoint.GetMe = refl
each_found endpoint.SyncDag = refl
each_found endpoint.BackfillDag = refl
