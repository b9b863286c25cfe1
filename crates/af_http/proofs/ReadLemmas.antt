-- The reads of a run, one turn at a time.
use Rattle.std.proofs.Common.{◌≡◌, ◌≤◌, ◌+◌, ◌*◌, ℕ, Bool, false, List, [], ◌∷◌, ◌++◌, length, refl, sym, ap, ◌∙◌, subst, arith}
use Rattle.std.proofs.lemmas.List.{length_push, map-append}
use Rattle.af_http.specs.Limits.{read_limit}
use Rattle.af_http.specs.Streams.{Given, Took, one_if}
use Rattle.af_http.specs.Requests.{Asked}
use Rattle.af_http.specs.Reading.{Begins}
use Rattle.af_http.specs.Run.{Exchange, asked_in}
use Rattle.af_http.specs.Reads.{Awaits, Awaited, Reads, read_faults}
use Rattle.af_http.proofs.StreamLemmas.{took_none, took_more}
use Rattle.af_http.proofs.AwaitLemmas.{awaits_none}
use Rattle.af_http.specs.declared.ended.Ended.{Ended}
use Rattle.af_http.specs.declared.ended.Ended.TheVariants as end

-- one exchange more asks for one request more
pub asked_push : (xs : List Exchange) (x : Exchange) → asked_in (xs ++ x ∷ []) ≡ asked_in xs ++ x.asked ∷ []
asked_push xs x = map-append (λ (y : Exchange). y.asked) xs (x ∷ [])

-- one request more was awaited
pub awaited_push : (start : Given) (left : List ℕ) (xs : List Asked) (now : Given) (rest : List ℕ) (next : Given) (came after : List ℕ) (asked : Asked)
    → Awaited start left xs now rest → Awaits 0 0 0 now next rest came → Begins (rest ++ came) asked after
    → Awaited start left (xs ++ asked ∷ []) next after
awaited_push start left [] now rest next came after asked (same, none) a b =
    let P : Given → Type 0 = λ r. Awaits 0 0 0 r next left came in
    let Q : List ℕ → Type 0 = λ t. Awaits 0 0 0 now next t came in
    let B : List ℕ → Type 0 = λ t. Begins (t ++ came) asked after in
    (next, came, after, subst P same (subst Q none a), subst B none b, (refl, refl))
awaited_push start left (x ∷ xs) now rest next came after asked (mid, came1, left1, first, begins, more) a b =
    (mid, came1, left1, first, begins, awaited_push mid left1 xs now rest next came after asked more a b)

no_fault : (e : Ended) (n : ℕ) (old new : Given) → read_faults e ≡ 0 → Took n 0 0 old new → Took n 0 (read_faults e) old new
no_fault e n old new none t = let P : ℕ → Type 0 = λ f. Took n 0 f old new in subst P (sym none) t

-- a run whose last write fails was read so
pub reads_anyway : (old new : Given) (xs : List Exchange) (ended : Bool) (e : Ended) → read_faults e ≡ 0 → Reads old new xs ended e → Reads old new xs ended end.WriteFault
reads_anyway old new xs ended e none r =
    let P : ℕ → Type 0 = λ f. Awaits 0 (one_if ended) f r.last new r.left r.came in
    let Q : ℕ → Type 0 = λ f. Took r.count (one_if ended) f old new in
    record {
      last = r.last;
      left = r.left;
      came = r.came;
      each = r.each;
      after = subst P none r.after;
      too_many = λ same. cc;
      count = r.count;
      all = subst Q none r.all;
      few = r.few;
    }

-- a run that reads nothing
pub reads_none : (r : Given) (e : Ended) → read_faults e ≡ 0 → (e ≡ end.Turns → ⊥) → Reads r r [] false e
reads_none r e none other =
    let P : ℕ → Type 0 = λ f. Awaits 0 0 f r r [] [] in
    record {
      last = r;
      left = [];
      came = [];
      each = (refl, refl);
      after = subst P (sym none) (awaits_none 0 r [] (omega arith));
      too_many = λ same. absurd (other same);
      count = 0;
      all = no_fault e 0 r r none (took_none r);
      few = omega arith;
    }

-- a run that ends at a request
pub reads_at : (old before new : Given) (xs : List Exchange) (count calls : ℕ) (x : Exchange) (held more left : List ℕ) (e : Ended)
    → Awaited old [] (asked_in xs) before held → Awaits 0 0 0 before new held more → Begins (held ++ more) x.asked left
    → length xs ≡ count → Took calls 0 0 old before → calls ≤ read_limit * count → read_faults e ≡ 0 → (e ≡ end.Turns → ⊥)
    → Reads old new (xs ++ x ∷ []) false e
reads_at old before new xs count calls x held more left e was a b counted took few none other =
    let P : List Asked → Type 0 = λ q. Awaited old [] q new left in
    let A : ℕ → Type 0 = λ f. Awaits 0 0 f new new left [] in
    let k : length (xs ++ x ∷ []) ≡ count + 1 = length_push xs x ∙ ap (λ u. u + 1) counted in
    let n = a.few in
    record {
      last = new;
      left = left;
      came = [];
      each = subst P (sym (asked_push xs x)) (awaited_push old [] (asked_in xs) before held new more left x.asked was a b);
      after = subst A (sym none) (awaits_none 0 new left (omega arith));
      too_many = λ same. absurd (other same);
      count = calls + a.count;
      all = no_fault e (calls + a.count) old new none (took_more took a.took);
      few = omega (arith, k, few, n);
    }

-- or at what is none
pub reads_then : (old before new : Given) (xs : List Exchange) (count calls : ℕ) (held more : List ℕ) (ended : Bool) (e : Ended)
    → Awaited old [] (asked_in xs) before held → Awaits 0 (one_if ended) (read_faults e) before new held more
    → length xs ≡ count → Took calls 0 0 old before → calls ≤ read_limit * count → (e ≡ end.Turns → new.reads ≡ before.reads + read_limit)
    → Reads old new xs ended e
reads_then old before new xs count calls held more ended e was a counted took few many =
    let n = a.few in
    record {
      last = before;
      left = held;
      came = more;
      each = was;
      after = a;
      too_many = many;
      count = calls + a.count;
      all = took_more took a.took;
      few = omega (arith, counted, few, n);
    }
