-- A text cut at the first of some bytes; one path of the table at most has a path's form.
use Rattle.std.proofs.Common.{◌≡◌, ◌≢◌, ◌<◌, ◌==◌, ◌&&◌, ℕ, zero, suc, Bool, true, false, cond, not, List, [], ◌∷◌, length, take, drop, get_or, refl, sym, ap, ◌∙◌, Some, arith}
use Rattle.std.specs.Prelude.{bytes_eq, ◌||◌}
use Rattle.std.specs.List.{find}
use Rattle.std.proofs.lemmas.Bool.{eq-eqb, ne_eqb, eqb-true, and_parts}
use Rattle.std.proofs.lemmas.Slice.Eq.{bytes_eq-Decides}
use Rattle.af_ops.specs.declared.path_template.PathTemplate.{PathTemplate}
use Rattle.af_ops.specs.declared.path_template.PathTemplate.TheVariants as template
use Rattle.af_ops.specs.Table.{Segment, Text, Part, segments_of, templates, template_rank}
use Rattle.af_http.specs.Routes.{before, onward, has_form, template_of, stands_for}

-- ---- cutting

pub before_found : (byte : ℕ) (text : List ℕ) (n : ℕ) → n < length text → ((k : ℕ) → k < n → get_or text k 0 ≢ byte) → get_or text n 0 ≡ byte
    → before byte text ≡ take n text
before_found byte [] n within none here = absurd (omega arith)
before_found byte (b ∷ text) zero within none here = ap (λ t. cond t [] (b ∷ before byte text)) (eq-eqb b byte here)
before_found byte (b ∷ text) (suc n) within none here =
    ap (λ t. cond t [] (b ∷ before byte text)) (ne_eqb b byte (none 0 (omega arith)))
    ∙ ap (λ t. b ∷ t) (before_found byte text n (omega arith) (λ k h. none (suc k) (omega arith)) here)

pub onward_found : (byte : ℕ) (text : List ℕ) (n : ℕ) → n < length text → ((k : ℕ) → k < n → get_or text k 0 ≢ byte) → get_or text n 0 ≡ byte
    → onward byte text ≡ drop n text
onward_found byte [] n within none here = absurd (omega arith)
onward_found byte (b ∷ text) zero within none here = ap (λ t. cond t (b ∷ text) (onward byte text)) (eq-eqb b byte here)
onward_found byte (b ∷ text) (suc n) within none here =
    ap (λ t. cond t (b ∷ text) (onward byte text)) (ne_eqb b byte (none 0 (omega arith)))
    ∙ onward_found byte text n (omega arith) (λ k h. none (suc k) (omega arith)) here

pub before_none : (byte : ℕ) (text : List ℕ) → ((k : ℕ) → k < length text → get_or text k 0 ≢ byte) → before byte text ≡ text
before_none byte [] none = refl
before_none byte (b ∷ text) none =
    ap (λ t. cond t [] (b ∷ before byte text)) (ne_eqb b byte (none 0 (omega arith)))
    ∙ ap (λ t. b ∷ t) (before_none byte text (λ k h. none (suc k) (omega arith)))

pub onward_none : (byte : ℕ) (text : List ℕ) → ((k : ℕ) → k < length text → get_or text k 0 ≢ byte) → onward byte text ≡ []
onward_none byte [] none = refl
onward_none byte (b ∷ text) none =
    ap (λ t. cond t (b ∷ text) (onward byte text)) (ne_eqb b byte (none 0 (omega arith)))
    ∙ onward_none byte text (λ k h. none (suc k) (omega arith))

-- ---- one path of the table at most

-- no path has both forms: they differ in a text, or in their number of segments
abbrev apart : List Segment → List Segment → Bool
apart [] [] = false
apart [] (segment ∷ segments) = true
apart (segment ∷ segments) [] = true
apart (Text one ∷ segments) (Text other ∷ others) = not (bytes_eq one other) || apart segments others
apart (Text one ∷ segments) (Part name ∷ others) = apart segments others
apart (Part name ∷ segments) (segment ∷ others) = apart segments others

-- the last two of three tests
two_of : (x y z : Bool) → (x && (y && z)) ≡ true → (y ≡ true) × (z ≡ true)
two_of x y z all = and_parts y z (and_parts x (y && z) all).1

or_last : (c d : Bool) → c ≡ true → (not c || d) ≡ true → d ≡ true
or_last true d is it = it
or_last false d is it = cc

never : (segments others : List Segment) (path : List ℕ) → apart segments others ≡ true → has_form segments path ≡ true → has_form others path ≡ true → ⊥
never [] [] path a f g = cc
never [] (s ∷ ss) [] a f g = cc
never [] (s ∷ ss) (b ∷ path) a f g = cc
never (s ∷ ss) [] [] a f g = cc
never (s ∷ ss) [] (b ∷ path) a f g = cc
never (s ∷ ss) (u ∷ us) [] a f g = cc
never (Text t ∷ ss) (Text u ∷ us) (b ∷ path) a f g =
    let one = two_of (b == 47) (bytes_eq (before 47 path) t) (has_form ss (onward 47 path)) f in
    let two = two_of (b == 47) (bytes_eq (before 47 path) u) (has_form us (onward 47 path)) g in
    let same : t ≡ u = sym ((bytes_eq-Decides (before 47 path) t).0 one.0) ∙ (bytes_eq-Decides (before 47 path) u).0 two.0 in
    never ss us (onward 47 path) (or_last (bytes_eq t u) (apart ss us) ((bytes_eq-Decides t u).1 same) a) one.1 two.1
never (Text t ∷ ss) (Part n ∷ us) (b ∷ path) a f g =
    never ss us (onward 47 path) a (two_of (b == 47) (stands_for (Text t) (before 47 path)) (has_form ss (onward 47 path)) f).1
    (two_of (b == 47) (stands_for (Part n) (before 47 path)) (has_form us (onward 47 path)) g).1
never (Part n ∷ ss) (u ∷ us) (b ∷ path) a f g =
    never ss us (onward 47 path) a (two_of (b == 47) (stands_for (Part n) (before 47 path)) (has_form ss (onward 47 path)) f).1
    (two_of (b == 47) (stands_for u (before 47 path)) (has_form us (onward 47 path)) g).1

-- a template by its rank
abbrev template_at : ℕ → PathTemplate
template_at rank = get_or templates rank template.Version

ranked : (p : PathTemplate) → template_at (template_rank p) ≡ p
ranked template.Version = refl
ranked template.Dags = refl
ranked template.Dag = refl
ranked template.Tasks = refl
ranked template.Runs = refl
ranked template.Run = refl
ranked template.RunClear = refl
ranked template.Instances = refl
ranked template.Instance = refl
ranked template.Clear = refl
ranked template.Pools = refl
ranked template.Pool = refl
ranked template.Variables = refl
ranked template.Variable = refl
ranked template.Entries = refl
ranked template.Roles = refl
ranked template.Role = refl
ranked template.Users = refl
ranked template.User = refl
ranked template.Me = refl
ranked template.Sync = refl
ranked template.Backfills = refl

-- the template is in the list, and those before it are apart from it
abbrev is_first : List PathTemplate → PathTemplate → Bool
is_first [] p = false
is_first (q ∷ qs) p = (template_rank q == template_rank p) || (apart (segments_of q) (segments_of p) && is_first qs p)

first_template : (p : PathTemplate) → is_first templates p ≡ true
first_template template.Version = refl
first_template template.Dags = refl
first_template template.Dag = refl
first_template template.Tasks = refl
first_template template.Runs = refl
first_template template.Run = refl
first_template template.RunClear = refl
first_template template.Instances = refl
first_template template.Instance = refl
first_template template.Clear = refl
first_template template.Pools = refl
first_template template.Pool = refl
first_template template.Variables = refl
first_template template.Variable = refl
first_template template.Entries = refl
first_template template.Roles = refl
first_template template.Role = refl
first_template template.Users = refl
first_template template.User = refl
first_template template.Me = refl
first_template template.Sync = refl
first_template template.Backfills = refl

abbrev Finds : List PathTemplate → List ℕ → PathTemplate → Type 0
Finds ps path p = find (λ q. has_form (segments_of q) path) ps ≡ Some p

found_at : (q : PathTemplate) (qs : List PathTemplate) (p : PathTemplate) (path : List ℕ) (c : Bool) → (template_rank q == template_rank p) ≡ c
    → (c || (apart (segments_of q) (segments_of p) && is_first qs p)) ≡ true → has_form (segments_of p) path ≡ true
    → (is_first qs p ≡ true → Finds qs path p) → Finds (q ∷ qs) path p
found_at q qs p path true e j h more =
    let same : q ≡ p = sym (ranked q) ∙ ap template_at (eqb-true (template_rank q) (template_rank p) e) ∙ ranked p in
    ap (λ t. cond t (Some q) (find (λ r. has_form (segments_of r) path) qs)) (ap (λ r. has_form (segments_of r) path) same ∙ h) ∙ ap Some same
found_at q qs p path false e j h more =
    let both = and_parts (apart (segments_of q) (segments_of p)) (is_first qs p) j in
    skipped (has_form (segments_of q) path) refl both.0 both.1
  where
    skipped : (c : Bool) → has_form (segments_of q) path ≡ c → apart (segments_of q) (segments_of p) ≡ true → is_first qs p ≡ true
        → cond c (Some q) (find (λ r. has_form (segments_of r) path) qs) ≡ Some p
    skipped true e a k = absurd (never (segments_of q) (segments_of p) path a e h)
    skipped false e a k = more k

found : (ps : List PathTemplate) (p : PathTemplate) (path : List ℕ) → is_first ps p ≡ true → has_form (segments_of p) path ≡ true → Finds ps path p
found [] p path i h = cc
found (q ∷ qs) p path i h = found_at q qs p path (template_rank q == template_rank p) refl i h (λ j. found qs p path j h)

pub one_template : (path : List ℕ) (p : PathTemplate) → has_form (segments_of p) path ≡ true → template_of path ≡ Some p
one_template path p h = found templates p path (first_template p) h
