-- Reads, one after another.
use Rattle.std.proofs.Common.{◌≡◌, ◌+◌, ◌<◌, ◌==◌, ◌⊎◌, inl, inr, ℕ, zero, suc, List, [], ◌∷◌, ◌++◌, length, take, sum, Option, Some, None, refl, sym, ap, ◌∙◌, subst, arith}
use Rattle.std.proofs.lemmas.List.{append-nil, append_assoc, append_cancel_left, length-append, take-append-le}
use Rattle.std.proofs.lemmas.List.Sums.{sum_by-append}
use Rattle.std.proofs.Math.Seq.{take-append-add}
use Rattle.std.specs.Io.KnownBytes.{prepend_known, Consumes, Keeps, IsAtEnd}
use Rattle.af_http.specs.Streams.{Given, Took, EachWhile, StaysKnown, IsSilentLast, one_if}

gave_some : (n : ℕ) → 0 ≡ one_if (n == 0) → 0 < n
gave_some zero e = absurd (omega (arith, e))
gave_some (suc n) e = omega arith

-- reads that each gave a byte, and then others
silent_more : (silent : ℕ) (xs ys : List ℕ) → IsSilentLast 0 xs → IsSilentLast silent ys → IsSilentLast silent (xs ++ ys)
silent_more silent [] ys x y = y
silent_more silent (n ∷ []) [] x y = y ∙ x
silent_more silent (n ∷ []) (m ∷ ys) x y = (gave_some n x, y)
silent_more silent (n ∷ m ∷ xs) ys x y = (x.0, silent_more silent (m ∷ xs) ys x.1 y)

pub took_none : (g : Given) → Took 0 0 0 g g
took_none g = record {
  sizes = [];
  sizes_are = sym (append-nil g.sizes);
  so_many = refl;
  silent_last = refl;
  gave = omega arith;
  reads_are = omega arith;
  each_gave = omega arith;
  ends_are = omega arith;
  failed = omega arith;
  wide = refl;
  known = λ all e. e;
  whole = λ less. absurd (omega (arith, less));
}

pub took_more : {n m ends failures : ℕ} {a b c : Given} → Took n 0 0 a b → Took m ends failures b c → Took (n + m) ends failures a c
took_more {n} {m} {ends} {failures} {a} {b} {c} x y =
    let r1 = x.reads_are in
    let r2 = y.reads_are in
    let g1 = x.each_gave in
    let g2 = y.each_gave in
    let e1 = x.ends_are in
    let e2 = y.ends_are in
    let f1 = x.failed in
    let f2 = y.failed in
    let s1 = x.gave in
    let s2 = y.gave in
    let n1 = x.so_many in
    let n2 = y.so_many in
    let l = length-append x.sizes y.sizes in
    let s = sum_by-append (λ n. n) x.sizes y.sizes in
    record {
      sizes = x.sizes ++ y.sizes;
      sizes_are = y.sizes_are ∙ ap (λ t. t ++ y.sizes) x.sizes_are ∙ append_assoc a.sizes x.sizes y.sizes;
      so_many = omega (arith, l, n1, n2);
      silent_last = silent_more (ends + failures) x.sizes y.sizes x.silent_last y.silent_last;
      gave = omega (arith, s, s1, s2);
      reads_are = omega (arith, r1, r2);
      each_gave = omega (arith, g1, g2);
      ends_are = omega (arith, e1, e2);
      failed = omega (arith, f1, f2);
      wide = y.wide ∙ x.wide;
      known = λ all e. y.known all (x.known all e);
      whole = λ less. y.whole (omega (arith, less, e1));
    }

-- so many reads, under another name of their number
pub took_as : {n m ends failures : ℕ} {a b : Given} → n ≡ m → Took n ends failures a b → Took m ends failures a b
took_as {ends = ends} {failures = failures} {a = a} {b = b} same x = subst (λ (k : ℕ). Took k ends failures a b) same x

-- one of two lists, one behind the other, has the place of a number in both
parted : (xs ys before after : List ℕ) (n : ℕ) → xs ++ ys ≡ before ++ n ∷ after
    → ((mid : List ℕ) × (xs ≡ before ++ n ∷ mid)) ⊎ ((mid : List ℕ) × (before ≡ xs ++ mid) × (ys ≡ mid ++ n ∷ after))
parted [] ys before after n e = inr (before, refl, e)
parted (x ∷ xs) ys [] after n e = let p : x ≡ n = cc in inl (xs, ap (λ k. k ∷ xs) p)
parted (x ∷ xs) ys (b ∷ before) after n e =
    let p : x ≡ b = cc in
    let q : xs ++ ys ≡ before ++ n ∷ after = cc in
    elim (parted xs ys before after n q) [
      | inl (mid, is) ↦ inl (mid, ap (λ t. x ∷ t) is ∙ ap (λ k. k ∷ (before ++ n ∷ mid)) p)
      | inr (mid, is, rest) ↦ inr (mid, ap (λ t. b ∷ t) is ∙ ap (λ k. k ∷ (xs ++ mid)) (sym p), rest)
    ]

-- where no read was made
pub each_none : (so : List ℕ → Type 0) (r : Given) → EachWhile so r r []
each_none so r earlier later n is =
    let size = ap length is ∙ length-append r.sizes (earlier ++ n ∷ later) in
    let more = length-append earlier (n ∷ later) in
    absurd (omega (arith, size, more))

-- where one was
pub each_one : (so : List ℕ → Type 0) {ends failures : ℕ} {a b : Given} (came : List ℕ) → Took 1 ends failures a b → so [] → EachWhile so a b came
each_one so {ends} {failures} {a} {b} came t now earlier later n is =
    let same : t.sizes ≡ earlier ++ n ∷ later = append_cancel_left a.sizes t.sizes (earlier ++ n ∷ later) (sym t.sizes_are ∙ is) in
    let size = sym t.so_many ∙ ap length same ∙ length-append earlier (n ∷ later) in
    by earlier (omega (arith, size))
  where
    by : (earlier : List ℕ) → length earlier ≡ 0 → so (take (sum earlier) came)
    by [] e = now
    by (m ∷ earlier) e = absurd (omega (arith, e))

-- reads, and then others
pub each_more : (so : List ℕ → Type 0) {k m ends failures : ℕ} {a b c : Given} (x y : List ℕ) → Took k 0 0 a b → b.bytes ≡ a.bytes ++ x → Took m ends failures b c
    → EachWhile so a b x → EachWhile (λ t. so (x ++ t)) b c y → EachWhile so a c (x ++ y)
each_more so {k} {m} {ends} {failures} {a} {b} {c} x y t came u first then earlier later n is =
    let all : c.sizes ≡ a.sizes ++ (t.sizes ++ u.sizes) = u.sizes_are ∙ ap (λ s. s ++ u.sizes) t.sizes_are ∙ append_assoc a.sizes t.sizes u.sizes in
    let same : t.sizes ++ u.sizes ≡ earlier ++ n ∷ later = append_cancel_left a.sizes (t.sizes ++ u.sizes) (earlier ++ n ∷ later) (sym all ∙ is) in
    let gave = t.gave in
    let long = ap length came ∙ length-append a.bytes x in
    let size : length x ≡ sum t.sizes = omega (arith, gave, long) in
    elim (parted t.sizes u.sizes earlier later n same) [
      | inl (mid, at) ↦
          let total = size ∙ ap sum at ∙ sum_by-append (λ n. n) earlier (n ∷ mid) in
          subst so (sym (take-append-le (sum earlier) x y (omega (arith, total)))) (first earlier mid n (t.sizes_are ∙ ap (λ s. a.sizes ++ s) at))
      | inr (mid, at, rest) ↦
          let total : sum earlier ≡ length x + sum mid = ap sum at ∙ sum_by-append (λ n. n) t.sizes mid ∙ ap (λ k. k + sum mid) (sym size) in
          let cut : take (sum earlier) (x ++ y) ≡ x ++ take (sum mid) y = ap (λ k. take k (x ++ y)) total ∙ take-append-add x y (sum mid) in
          subst so (sym cut) (then mid later n (u.sizes_are ∙ ap (λ s. b.sizes ++ s) rest))
    ]

-- what std says of a reader's bytes, as what is known of all that come
pub consumed : (x y : Option (List ℕ)) (given bytes : List ℕ) → Consumes x y bytes → StaysKnown (prepend_known given x) (prepend_known (given ++ bytes) y)
consumed None y given bytes k = λ all e. cc
consumed (Some xs) None given bytes k = absurd k
consumed (Some xs) (Some ys) given bytes k = λ all e. ap Some (append_assoc given bytes ys ∙ ap (λ t. given ++ t) (sym k)) ∙ e

pub kept : (x y : Option (List ℕ)) (given : List ℕ) → Keeps x y → StaysKnown (prepend_known given x) (prepend_known given y)
kept None y given k = λ all e. cc
kept (Some xs) None given k = absurd k
kept (Some xs) (Some ys) given k = λ all e. ap (λ t. Some (given ++ t)) k ∙ e

pub at_end : (x : Option (List ℕ)) (given : List ℕ) → IsAtEnd x → (all : List ℕ) → prepend_known given x ≡ Some all → all ≡ given
at_end None given k all e = cc
at_end (Some xs) given k all e = some_same (sym e) ∙ ap (λ t. given ++ t) k ∙ append-nil given
  where
    some_same : {a b : List ℕ} → Some a ≡ Some b → a ≡ b
    some_same e = cc
