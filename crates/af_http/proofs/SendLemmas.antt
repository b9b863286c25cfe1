-- Texts that are put, one after another.
use Rattle.std.proofs.Common.{◌≡◌, ◌==◌, ◌≤◌, ◌<◌, ◌+◌, ℕ, Bool, true, false, List, [], ◌∷◌, ◌++◌, length, take, drop, Option, Some, None, refl, sym, ap, ◌∙◌, subst, arith}
use Rattle.std.specs.Prelude.{IfSome, IsErr, Result, Ok, Err}
use Rattle.std.specs.Io.KnownBytes.{Appends}
use Rattle.std.proofs.lemmas.Bool.{eqb-true}
use Rattle.std.proofs.lemmas.List.{append-nil, append_assoc, length-append, take-append-drop}
use Rattle.af_http.specs.Streams.{Taken, Waiting, Grew}
use Rattle.af_http.specs.Sending.{Outlet, all_put, Broke, Went, Puts, Writes, has_failed}
use Rattle.af_http.specs.declared.stream.Failed.{Failed}

-- a writer that took nothing
appends_none : (x : Option (List ℕ)) → Appends x x []
appends_none None = tt
appends_none (Some xs) = sym (append-nil xs)

appends_also : (x y z : Option (List ℕ)) (a b : List ℕ) → Appends x y a → Appends y z b → Appends x z (a ++ b)
appends_also None y z a b p q = tt
appends_also (Some xs) None z a b p q = absurd p
appends_also (Some xs) (Some ys) None a b p q = absurd q
appends_also (Some xs) (Some ys) (Some zs) a b p q = q ∙ ap (λ t. t ++ b) p ∙ append_assoc xs a b

pub grew_none : (t : Taken) → Grew t t
grew_none t = record { more = []; bytes_are = sym (append-nil t.bytes); added = appends_none t.contents }

pub grew_also : {a b c : Taken} → Grew a b → Grew b c → Grew a c
grew_also {a} {b} {c} x y = record {
  more = x.more ++ y.more;
  bytes_are = y.bytes_are ∙ ap (λ t. t ++ y.more) x.bytes_are ∙ append_assoc a.bytes x.more y.more;
  added = appends_also a.contents b.contents c.contents x.more y.more x.added y.added;
}

broke_more : (p q : Outlet) (a b left : List ℕ) (n : Taken) → n ≡ q.sink → Broke q.sink (all_put p ++ a) left → Broke n (all_put p ++ (a ++ b)) (left ++ b)
broke_more p q a b left n same k = record {
  failed_at =
      sym (append_assoc (all_put p) a b)
      ∙ ap (λ t. t ++ b) k.failed_at
      ∙ append_assoc q.sink.bytes (q.sink.refused ++ left) b
      ∙ ap (λ t. q.sink.bytes ++ t) (append_assoc q.sink.refused left b)
      ∙ ap (λ (t : Taken). t.bytes ++ (t.refused ++ (left ++ b))) (sym same);
}

broke_after : (p q : Outlet) (a b left : List ℕ) (n : Taken) → all_put q ≡ all_put p ++ a → Broke n (all_put q ++ b) left → Broke n (all_put p ++ (a ++ b)) left
broke_after p q a b left n e k = record { failed_at = sym (append_assoc (all_put p) a b) ∙ ap (λ t. t ++ b) (sym e) ∙ k.failed_at }

went_also : (some : ℕ) (f g h : Bool) (p q r : Outlet) (a b : List ℕ) → some ≤ length a → Went some f g p q a → Went 0 g h q r b → Went some f h p r (a ++ b)
went_also some false false false p q r a b enough x y = (y.0 ∙ ap (λ t. t ++ b) x.0 ∙ append_assoc (all_put p) a b, y.1 ∙ x.1)
went_also some false false true p q r a b enough x (left, short, broke, n) = (
  left,
  omega (arith, short, enough, length-append a b),
  broke_after p q a b left r.sink x.0 broke,
  n ∙ ap (λ k. k + 1) x.1,
)
went_also some false true true p q r a b enough (left, short, broke, n) y = (
  left ++ b,
  omega (arith, short, length-append a b, length-append left b),
  broke_more p q a b left r.sink y broke,
  ap (λ (t : Taken). t.failures) y ∙ n,
)
went_also some false true false p q r a b enough x y = absurd y
went_also some true true true p q r a b enough x y = y ∙ x
went_also some true true false p q r a b enough x y = absurd y
went_also some true false h p q r a b enough x y = absurd x

pub put_also : {some : ℕ} {p q r : Outlet} {a b : List ℕ} → Puts some p q a → Puts 0 q r b → Puts some p r (a ++ b)
put_also {some} {p} {q} {r} {a} {b} x y = record {
  enough = let k = x.enough in omega (arith, k, length-append a b);
  grew = grew_also x.grew y.grew;
  went = went_also some p.waiting.failed q.waiting.failed r.waiting.failed p q r a b x.enough x.went y.went;
}

-- the same text under another name
pub put_as : {some : ℕ} {p q : Outlet} {a b : List ℕ} → a ≡ b → Puts some p q a → Puts some p q b
put_as {some} {p} {q} e x = subst (λ t. Puts some p q t) e x

-- one text, which is two
pub put_pair : {some : ℕ} {p q r : Outlet} {t : List ℕ} (a b : List ℕ) → Puts some p q t → Puts 0 q r (a ++ b) → Puts some p r ((t ++ a) ++ b)
put_pair {some} {p} {q} {r} {t} a b x y = put_as (sym (append_assoc t a b)) (put_also x y)

-- nothing more
went_none : (f : Bool) (p : Outlet) → Went 0 f f p p []
went_none false p = (sym (append-nil (all_put p)), refl)
went_none true p = refl

pub put_nothing : (p : Outlet) → Puts 0 p p []
put_nothing p = record { enough = omega arith; grew = grew_none p.sink; went = went_none p.waiting.failed p }

-- of which less may be left out than is asked
fewer : (some : ℕ) (f g : Bool) (p q : Outlet) (a : List ℕ) → Went some f g p q a → Went 0 f g p q a
fewer some false false p q a x = x
fewer some false true p q a (left, short, broke, n) = (left, omega (arith, short), broke, n)
fewer some true true p q a x = x
fewer some true false p q a x = x

pub put_any : {some : ℕ} {p q : Outlet} {a : List ℕ} → Puts some p q a → Puts 0 p q a
put_any {some} {p} {q} {a} x = record { enough = omega arith; grew = x.grew; went = fewer some p.waiting.failed q.waiting.failed p q a x.went }

-- bytes wait
pub put_held : (some : ℕ) (p : Outlet) (w : Waiting) (a : List ℕ) → some ≤ length a → p.waiting.failed ≡ false → w.bytes ≡ p.waiting.bytes ++ a
    → w.failed ≡ p.waiting.failed → Puts some p (record { sink = p.sink; waiting = w }) a
put_held some p w a enough sound e same = record { enough = enough; grew = grew_none p.sink; went = by p.waiting.failed w.failed sound (same ∙ sound) }
  where
    by : (f g : Bool) → f ≡ false → g ≡ false → Went some f g p (record { sink = p.sink; waiting = w }) a
    by false false x y = (ap (λ t. p.sink.bytes ++ t) e ∙ sym (append_assoc p.sink.bytes p.waiting.bytes a), refl)
    by false true x y = cc
    by true g x y = cc

-- bytes wait as far as there is room, all are written, and the rest is put
pub put_over : {some : ℕ} {p q r s : Outlet} (front rest bytes : List ℕ) → front ++ rest ≡ bytes → Puts some p q front → Puts 0 q r [] → Puts 0 r s rest → Puts some p s bytes
put_over front rest bytes e x y z = put_as (ap (λ t. t ++ rest) (append-nil front) ∙ e) (put_also (put_also x y) z)

-- where a first byte found room
pub put_strict : (p q : Outlet) (a : List ℕ) (room : ℕ) → 0 < length a → (p.waiting.failed ≡ false → length p.waiting.bytes < room)
    → (0 < length a → length p.waiting.bytes < room → Puts 1 p q a) → Puts 0 p q a → Puts 1 p q a
put_strict p q a room some has first x = by p.waiting.failed refl
  where
    went_any : (f g : Bool) → f ≡ true → Went 0 f g p q a → Went 1 f g p q a
    went_any true true e w = w
    went_any true false e w = w
    went_any false g e w = cc

    by : (f : Bool) → p.waiting.failed ≡ f → Puts 1 p q a
    by false e = first some (has e)
    by true e = record { enough = omega (arith, some); grew = x.grew; went = went_any p.waiting.failed q.waiting.failed e x.went }

-- ---- one write after another

-- part of the bytes was written, and this is left
abbrev pub Wrote : Taken → Taken → List ℕ → List ℕ → Type 0
Wrote old new bytes rest =
    ((front : List ℕ) × (bytes ≡ front ++ rest) × (new.bytes ≡ old.bytes ++ front)) × (new.failures ≡ old.failures) × Grew old new

pub wrote_more : (a b c : Taken) (bytes rest after : List ℕ) (n : ℕ) → Wrote a b bytes rest → Writes b c (take n rest) false → Grew b c → after ≡ drop n rest → Wrote a c bytes after
wrote_more a b c bytes rest after n ((front, e, w), f, grew) (more, fine) grown left = (
  (
    front ++ take n rest,
    e
        ∙ ap (λ t. front ++ t) (sym (take-append-drop n rest))
        ∙ sym (append_assoc front (take n rest) (drop n rest))
        ∙ ap (λ t. (front ++ take n rest) ++ t) (sym left),
    more ∙ ap (λ t. t ++ take n rest) w ∙ append_assoc a.bytes front (take n rest),
  ),
  fine ∙ f,
  grew_also grew grown,
)

pub wrote_all : (a b : Taken) (bytes rest : List ℕ) → true ≡ (length rest == 0) → Wrote a b bytes rest → Writes a b bytes false
wrote_all a b bytes [] none ((front, e, w), f, grew) = (w ∙ ap (λ t. a.bytes ++ t) (sym (e ∙ append-nil front)), f)
wrote_all a b bytes (x ∷ rest) none wrote = let size = eqb-true (length (x ∷ rest)) 0 (sym none) in absurd (omega (arith, size))

pub wrote_fault : (a b c : Taken) (bytes rest : List ℕ) (result : Result (Unit {0}) Failed) → IsErr result → Wrote a b bytes rest → Writes b c rest true → Writes a c bytes (has_failed result)
wrote_fault a b c bytes rest (Ok done) bad wrote failed = cc
wrote_fault a b c bytes rest (Err why) bad ((front, e, w), f, grew) (refused, more) = (
  ap (λ t. a.bytes ++ t) e ∙ sym (append_assoc a.bytes front rest) ∙ ap (λ t. t ++ rest) (sym w) ∙ refused,
  more ∙ ap (λ n. n + 1) f,
)

pub some_left : (bytes front rest : List ℕ) → bytes ≡ front ++ rest → false ≡ (length rest == 0) → bytes ≡ [] → ⊥
some_left bytes front [] e some none = cc
some_left bytes [] (x ∷ rest) e some none = let bad : [] ≡ x ∷ rest = sym none ∙ e in cc
some_left bytes (y ∷ front) (x ∷ rest) e some none = let bad : [] ≡ y ∷ (front ++ x ∷ rest) = sym none ∙ e in cc

-- what follows from a fact of each value
pub if_some : {A : Type 0} (P Q : Type 0) (o : Option A) → IfSome o (λ x. P) → (P → Q) → IfSome o (λ x. Q)
if_some P Q None none more = tt
if_some P Q (Some x) is more = more is
