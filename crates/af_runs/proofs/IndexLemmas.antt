-- The index of the runs: after one more, one less, or one changed.
use Rattle.std.proofs.Common.{◌≡◌, refl, sym, ◌∙◌, ap, subst, ℕ, zero, suc, ◌<◌, ◌≤◌, List, [], ◌∷◌, ◌++◌, map, length, get_or, set, take, Bool, true, false, cond, arith}
use Rattle.std.specs.Prelude.{filter}
use Rattle.std.specs.List.{remove}
use Rattle.std.specs.List.Sorted.{IsStrictlySortedBy}
use Rattle.std.specs.Ordering.{nat_cmp}
use Rattle.std.proofs.lemmas.List.{get_or-map, length-map}
use Rattle.std.proofs.lemmas.List.Elements.{filter-append}
use Rattle.std.proofs.Math.Seq.{map-set_same}
use Rattle.af_names.proofs.OrderLemmas.{length-filter_le}
use Rattle.af_runs.specs.Codes.{ids_code, date_code, by_ids, by_date}
use Rattle.af_runs.specs.DagLists.{AreDagLists}
use Rattle.af_runs.specs.Chains.{HasRoom}
use Rattle.af_runs.specs.Index.{HasRoomFor}
use Rattle.af_runs.specs.Runs.{HasKeyOf, is_of, runs_of}
use Rattle.af_runs.specs.declared.dag_lists.DagLists.{DagLists}
use Rattle.af_runs.specs.declared.chains.Chains.{Chains}
use Rattle.af_runs.specs.declared.index.Index.{Index}
use Rattle.af_runs.specs.declared.run.Run.{Run}

-- ---- what each row is known by
module _ (by : Run → ℕ × ℕ) (numbered : (run : Run) → (by run).0 ≡ run.number) where
  pub keys-push : (runs : List Run) (run : Run) → map by (runs ++ run ∷ []) ≡ map by runs ++ by run ∷ []
  keys-push [] run = refl
  keys-push (other ∷ runs) run = ap (λ (rows : List (ℕ × ℕ)). by other ∷ rows) (keys-push runs run)

  pub keys-remove : (runs : List Run) (place : ℕ) → map by (remove runs place) ≡ remove (map by runs) place
  keys-remove [] zero = refl
  keys-remove [] (suc place) = refl
  keys-remove (run ∷ runs) zero = refl
  keys-remove (run ∷ runs) (suc place) = ap (λ (rows : List (ℕ × ℕ)). by run ∷ rows) (keys-remove runs place)

  pub keys-numbers : (runs : List Run) → map (λ (row : ℕ × ℕ). row.0) (map by runs) ≡ map (λ (run : Run). run.number) runs
  keys-numbers [] = refl
  keys-numbers (run ∷ runs) = λ i. numbered run i ∷ keys-numbers runs i

  pub keys-order : (runs : List Run) → IsStrictlySortedBy nat_cmp (map (λ (run : Run). run.number) runs) → IsStrictlySortedBy nat_cmp (map (λ (row : ℕ × ℕ). row.0) (map by runs))
  keys-order runs order = subst (IsStrictlySortedBy nat_cmp) (sym (keys-numbers runs)) order

  pub key-here : (runs : List Run) (place : ℕ) (run : Run) (row : ℕ × ℕ) → place < length runs → ((d : Run) → get_or runs place d ≡ run) → by run ≡ row → (e : ℕ × ℕ) → get_or (map by runs) place e ≡ row
  key-here runs place run row within here is e = get_or-map by runs place run e within ∙ ap by (here run) ∙ is

  pub keys-long : (runs : List Run) (place : ℕ) → place < length runs → place < length (map by runs)
  keys-long runs place within = omega (arith, length-map runs by)

  pub keys-set : (runs : List Run) (place : ℕ) (run d : Run) → by run ≡ by (get_or runs place d) → map by (set runs place run) ≡ map by runs
  keys-set runs place run d same = map-set_same by runs place run d same

pub same_ids_key : (run other : Run) → HasKeyOf run other → by_ids other ≡ by_ids run
same_ids_key run other same = λ i. (same.number i, ids_code (same.dag_id i) (same.run_id i))

pub same_date_key : (run other : Run) → HasKeyOf run other → by_date other ≡ by_date run
same_date_key run other same = λ i. (same.number i, date_code (same.dag_id i) (same.date i))

-- ---- the runs that pass a test
cond_map : (b : Bool) (run : Run) → map (λ (other : Run). other.number) (cond b (run ∷ []) []) ≡ cond b (run.number ∷ []) []
cond_map true run = refl
cond_map false run = refl

map-append : (xs ys : List Run) → map (λ (run : Run). run.number) (xs ++ ys) ≡ map (λ (run : Run). run.number) xs ++ map (λ (run : Run). run.number) ys
map-append [] ys = refl
map-append (x ∷ xs) ys = ap (λ (ns : List ℕ). x.number ∷ ns) (map-append xs ys)

module _ (p : Run → Bool) where
  abbrev numbers_of : List Run → List ℕ
  numbers_of runs = map (λ (run : Run). run.number) (filter p runs)

  pub numbers-push : (runs : List Run) (run : Run) → numbers_of (runs ++ run ∷ []) ≡ numbers_of runs ++ cond (p run) (run.number ∷ []) []
  numbers-push runs run =
      ap (map (λ (other : Run). other.number)) (filter-append p runs (run ∷ []))
      ∙ map-append (filter p runs) (filter p (run ∷ []))
      ∙ ap (λ (ns : List ℕ). numbers_of runs ++ ns) (cond_map (p run) run)

  pub numbers-few : (runs : List Run) → length (numbers_of runs) ≤ length runs
  numbers-few runs = omega (arith, length-map (filter p runs) (λ (run : Run). run.number), length-filter_le p runs)

-- ---- the runs of each DAG
numbers_set : (q : List ℕ) (n : ℕ) (runs : List Run) (place : ℕ) (run d : Run) → run.dag_id ≡ (get_or runs place d).dag_id → run.number ≡ (get_or runs place d).number → map (λ (other : Run). other.number) (runs_of (take n (set runs place run)) q) ≡ map (λ (other : Run). other.number) (runs_of (take n runs) q)
numbers_set q zero runs place run d dag number = refl
numbers_set q (suc n) [] place run d dag number = refl
numbers_set q (suc n) (old ∷ runs) zero run d dag number = swap_step (is_of q run) (is_of q old) old run (runs_of (take n runs) q) (ap (λ (id : List ℕ). is_of q (record run { dag_id = id })) dag) number
  where
    swap_step : (b c : Bool) (old run : Run) (some : List Run) → b ≡ c → run.number ≡ old.number → map (λ (other : Run). other.number) (cond b (run ∷ some) some) ≡ map (λ (other : Run). other.number) (cond c (old ∷ some) some)
    swap_step b true old run some is same = rw is (λ i. same i ∷ map (λ (other : Run). other.number) some)
    swap_step b false old run some is same = rw is refl
numbers_set q (suc n) (old ∷ runs) (suc place) run d dag number =
    keep_step (is_of q old) old (runs_of (take n (set runs place run)) q) (runs_of (take n runs) q) (numbers_set q n runs place run d dag number)
  where
    keep_step : (b : Bool) (old : Run) (some others : List Run) → map (λ (other : Run). other.number) some ≡ map (λ (other : Run). other.number) others → map (λ (other : Run). other.number) (cond b (old ∷ some) some) ≡ map (λ (other : Run). other.number) (cond b (old ∷ others) others)
    keep_step true old some others same = ap (λ (ns : List ℕ). old.number ∷ ns) same
    keep_step false old some others same = same

pub length_set : (runs : List Run) (place : ℕ) (run : Run) → length (set runs place run) ≡ length runs
length_set [] place run = refl
length_set (old ∷ runs) zero run = refl
length_set (old ∷ runs) (suc place) run = ap suc (length_set runs place run)

pub AreDagLists-set : (runs : List Run) (place : ℕ) (run d : Run) (lists : DagLists) → HasKeyOf (get_or runs place d) run → AreDagLists runs lists → AreDagLists (set runs place run) lists
AreDagLists-set runs place run d lists same are = record {
  within = omega (arith, are.within, length_set runs place run);
  numbers = λ q. are.numbers q ∙ sym (numbers_set q lists.listed runs place run d same.dag_id same.number);
}

-- ---- room for fewer
HasRoom-less : (more fewer : ℕ) (chains : Chains) → fewer ≤ more → HasRoom more chains → HasRoom fewer chains
HasRoom-less more fewer chains less has = record {
  last = omega (arith, has.last);
  earlier = omega (arith, has.earlier);
}

pub HasRoomFor-less : (more fewer : ℕ) (index : Index) → fewer ≤ more → HasRoomFor more index → HasRoomFor fewer index
HasRoomFor-less more fewer index less has = record {
  ids = HasRoom-less more fewer index.ids less has.ids;
  dates = HasRoom-less more fewer index.dates less has.dates;
  busy = omega (arith, has.busy);
  holders = omega (arith, has.holders);
}
