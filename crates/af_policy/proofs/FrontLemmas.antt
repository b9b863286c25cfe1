-- Texts are in the order of their fronts.
use Rattle.std.proofs.Common.{◌≡◌, ℕ, zero, suc, ◌+◌, ◌*◌, ◌<◌, ◌≤◌, List, [], ◌∷◌, refl, sym, ap, subst, ◌∙◌, get_or, nat_cmp, arith}
use Rattle.std.specs.Int.{from_be_bytes, w64}
use Rattle.std.specs.Slice.Scan.{big_endian}
use Rattle.std.specs.Ordering.{MatchOrdering, ordering_then, ordering_reverse}
use Rattle.std.specs.declared.cmp.Ordering.{Ordering}
use Rattle.std.specs.declared.cmp.Ordering.TheVariants.{Less, Equal, Greater}
use Rattle.std.specs.Cmp.{ranks}
use Rattle.std.specs.Cmp.Lexicographic.{slice_cmp, nat_list_cmp_total}
use Rattle.af_policy.specs.Fronts.{padded, front_of}

-- each is a byte
abbrev pub Bytes : List ℕ → Type 0
Bytes xs = (k : ℕ) → get_or xs k 0 < 256

-- eight bytes as a number
pub eight : (a b c d e f g h : ℕ) → from_be_bytes w64 (a ∷ b ∷ c ∷ d ∷ e ∷ f ∷ g ∷ h ∷ []) ≡ big_endian 0 (a ∷ b ∷ c ∷ d ∷ e ∷ f ∷ g ∷ h ∷ [])
eight a b c d e f g h = omega arith

-- the first eight bytes, read one after another
pub eight_padded : (xs : List ℕ) → get_or xs 0 0 ∷ get_or xs 1 0 ∷ get_or xs 2 0 ∷ get_or xs 3 0 ∷ get_or xs 4 0 ∷ get_or xs 5 0 ∷ get_or xs 6 0 ∷ get_or xs 7 0 ∷ [] ≡ padded 8 xs
eight_padded [] = refl
eight_padded (a ∷ []) = refl
eight_padded (a ∷ b ∷ []) = refl
eight_padded (a ∷ b ∷ c ∷ []) = refl
eight_padded (a ∷ b ∷ c ∷ d ∷ []) = refl
eight_padded (a ∷ b ∷ c ∷ d ∷ e ∷ []) = refl
eight_padded (a ∷ b ∷ c ∷ d ∷ e ∷ f ∷ []) = refl
eight_padded (a ∷ b ∷ c ∷ d ∷ e ∷ f ∷ g ∷ []) = refl
eight_padded (a ∷ b ∷ c ∷ d ∷ e ∷ f ∷ g ∷ h ∷ xs) = refl

-- the higher the bytes before, the higher the number, whatever follows
rises : (n a b : ℕ) (us vs : List ℕ) → Bytes us → a < b → big_endian a (padded n us) < big_endian b (padded n vs)
rises zero a b us vs bytes l = l
rises (suc n) a b [] [] bytes l = rises n (a * 256 + 0) (b * 256 + 0) [] [] bytes (omega arith)
rises (suc n) a b [] (v ∷ vs) bytes l = rises n (a * 256 + 0) (b * 256 + v) [] vs bytes (omega arith)
rises (suc n) a b (u ∷ us) [] bytes l =
    let small : u < 256 = bytes 0
    in rises n (a * 256 + u) (b * 256 + 0) us [] (λ k. bytes (suc k)) (omega arith)
rises (suc n) a b (u ∷ us) (v ∷ vs) bytes l =
    let small : u < 256 = bytes 0
    in rises n (a * 256 + u) (b * 256 + v) us vs (λ k. bytes (suc k)) (omega arith)

-- zeros are the least
least : (n a b : ℕ) (us : List ℕ) → a ≤ b → big_endian a (padded n []) ≤ big_endian b (padded n us)
least zero a b us l = l
least (suc n) a b [] l = least n (a * 256 + 0) (b * 256 + 0) [] (omega arith)
least (suc n) a b (u ∷ us) l = least n (a * 256 + 0) (b * 256 + u) us (omega arith)

below : (n a : ℕ) (us vs : List ℕ) → Bytes us → Bytes vs → big_endian a (padded n us) < big_endian a (padded n vs) → slice_cmp nat_cmp us vs ≡ Less
below zero a us vs p q l = absurd (omega arith)
below (suc n) a [] [] p q l = absurd (omega arith)
below (suc n) a [] (v ∷ vs) p q l = refl
below (suc n) a (u ∷ us) [] p q l =
    let over : big_endian (a * 256 + 0) (padded n []) ≤ big_endian (a * 256 + u) (padded n us) = least n (a * 256 + 0) (a * 256 + u) us (omega arith)
    in let under : big_endian (a * 256 + u) (padded n us) < big_endian (a * 256 + 0) (padded n []) = l
    in absurd (omega (arith, over, under))
below (suc n) a (u ∷ us) (v ∷ vs) p q l = by (below n (a * 256 + u) us vs (λ k. p (suc k)) (λ k. q (suc k))) (nat_cmp u v) refl (ranks u v)
  where
    by : (big_endian (a * 256 + u) (padded n us) < big_endian (a * 256 + u) (padded n vs) → slice_cmp nat_cmp us vs ≡ Less) → (o : Ordering) → nat_cmp u v ≡ o → MatchOrdering o (u < v) (u ≡ v) (v < u) → slice_cmp nat_cmp (u ∷ us) (v ∷ vs) ≡ Less
    by later Less e h = ap (λ o. ordering_then o (slice_cmp nat_cmp us vs)) e
    by later Equal e h =
        let level : u ≡ v = h
        in let rest : big_endian (a * 256 + u) (padded n us) < big_endian (a * 256 + u) (padded n vs) =
        subst (λ w. big_endian (a * 256 + u) (padded n us) < big_endian (a * 256 + w) (padded n vs)) (sym level) l
        in ap (λ o. ordering_then o (slice_cmp nat_cmp us vs)) e ∙ later rest
    by later Greater e h =
        let over : v < u = h
        in let more : big_endian (a * 256 + v) (padded n vs) < big_endian (a * 256 + u) (padded n us) = rises n (a * 256 + v) (a * 256 + u) vs us (λ k. q (suc k)) (omega arith)
        in let less : big_endian (a * 256 + u) (padded n us) < big_endian (a * 256 + v) (padded n vs) = l
        in absurd (omega (arith, more, less))

pub front_below : (xs ys : List ℕ) → Bytes xs → Bytes ys → front_of xs < front_of ys → Less ≡ slice_cmp nat_cmp xs ys
front_below xs ys p q l = sym (below 8 0 xs ys p q l)

pub front_above : (xs ys : List ℕ) → Bytes xs → Bytes ys → front_of ys < front_of xs → Greater ≡ slice_cmp nat_cmp xs ys
front_above xs ys p q l = ap ordering_reverse (front_below ys xs q p l) ∙ sym (nat_list_cmp_total.antisymm xs ys)
