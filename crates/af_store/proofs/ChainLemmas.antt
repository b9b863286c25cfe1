-- One digest for two lists of lines is a collision of SHA-256, unless they are one.
use Rattle.std.proofs.Common.{◌≡◌, ◌⊎◌, inl, inr, ◌∙◌, ℕ, Bool, true, false, List, [], ◌∷◌, ◌++◌, drop, length, refl, sym, subst, ap, ap₂, arith, cond, Option, Some, None, ok_or, Ok}
use Rattle.std.specs.List.{find}
use Rattle.std.proofs.lemmas.Bool.{false≢true}
use Rattle.std.proofs.lemmas.Slice.Eq.{bytes_eq-Decides}
use Rattle.sha2.proofs.Facts256.{length-sha256}
use Rattle.af_store.specs.Bodies.{same_text}
use Rattle.af_store.specs.Chains.{Collision, Link, chain, chained, kind_text, kinds, linked, mark_of, taken_as}
use Rattle.af_store.specs.declared.line_fault.LineFault.TheVariants.{NotALine}
use Rattle.af_store.specs.declared.line_kind.LineKind.{LineKind}
use Rattle.af_store.specs.declared.line_kind.LineKind.TheVariants.{Opened, Entry, Change}
use Rattle.af_store.proofs.ReadLemmas.{same}

-- what two lists begin with, of one length, and what follows
parts : (a b x y : List ℕ) → length a ≡ length b → a ++ x ≡ b ++ y → (a ≡ b) × (x ≡ y)
parts [] [] x y n e = (refl, e)
parts [] (c ∷ b) x y n e = absurd (omega arith)
parts (c ∷ a) [] x y n e = absurd (omega arith)
parts (c ∷ a) (d ∷ b) x y n e =
    let rest : a ++ x ≡ b ++ y = cc in
    let head : c ≡ d = cc in
    let both = parts a b x y (omega arith) rest in
    (ap₂ (λ (m : ℕ) (ms : List ℕ). m ∷ ms) head both.0, both.1)

abbrev first : List ℕ → ℕ
first [] = 0
first (x ∷ xs) = x

heads : (xs ys : List ℕ) → xs ≡ ys → first xs ≡ first ys
heads xs ys e = ap first e

-- a kind and a body, of what stands between and after them
kinds_differ : (one other : LineKind) (x y : List ℕ) → kind_text one ++ 10 ∷ x ≡ kind_text other ++ 10 ∷ y → (one ≡ other) × (x ≡ y)
kinds_differ Opened Opened x y e = (refl, ap (λ (s : List ℕ). drop 7 s) e)
kinds_differ Opened Entry x y e = absurd (omega (arith, heads (kind_text Opened ++ 10 ∷ x) (kind_text Entry ++ 10 ∷ y) e))
kinds_differ Opened Change x y e = absurd (omega (arith, heads (kind_text Opened ++ 10 ∷ x) (kind_text Change ++ 10 ∷ y) e))
kinds_differ Entry Opened x y e = absurd (omega (arith, heads (kind_text Entry ++ 10 ∷ x) (kind_text Opened ++ 10 ∷ y) e))
kinds_differ Entry Entry x y e = (refl, ap (λ (s : List ℕ). drop 6 s) e)
kinds_differ Entry Change x y e = absurd (omega (arith, heads (kind_text Entry ++ 10 ∷ x) (kind_text Change ++ 10 ∷ y) e))
kinds_differ Change Opened x y e = absurd (omega (arith, heads (kind_text Change ++ 10 ∷ x) (kind_text Opened ++ 10 ∷ y) e))
kinds_differ Change Entry x y e = absurd (omega (arith, heads (kind_text Change ++ 10 ∷ x) (kind_text Entry ++ 10 ∷ y) e))
kinds_differ Change Change x y e = (refl, ap (λ (s : List ℕ). drop 7 s) e)

-- the bytes that are digested tell all three apart
pub linked_one : (a b : List ℕ) (l m : Link) → length a ≡ length b → linked a l ≡ linked b m → (a ≡ b) × (l ≡ m)
linked_one a b l m n e =
    let outer = parts a b (kind_text l.kind ++ 10 ∷ l.body) (kind_text m.kind ++ 10 ∷ m.body) n e in
    let inner = kinds_differ l.kind m.kind l.body m.body outer.1 in
    (outer.0, ap₂ (λ (kind : LineKind) (body : List ℕ). record { kind = kind; body = body }) inner.0 inner.1)

step : (a b : List ℕ) (l m : Link) (same_bytes : Bool) → same_text (linked a l) (linked b m) ≡ same_bytes → length a ≡ length b → chained a l ≡ chained b m
    → ((a ≡ b) × (l ≡ m)) ⊎ Collision
step a b l m true is n e = inl (linked_one a b l m n ((bytes_eq-Decides (linked a l) (linked b m)).0 is))
step a b l m false is n e =
    inr (record {
      one = linked a l;
      other = linked b m;
      differ = λ (one : linked a l ≡ linked b m). false≢true (sym is ∙ (bytes_eq-Decides (linked a l) (linked b m)).1 one);
      agree = e;
    })

joined : (a b : List ℕ) (l m : Link) (ls ms : List Link) → ((a ≡ b) × (l ≡ m)) ⊎ Collision → ls ≡ ms → ((a ≡ b) × (l ∷ ls ≡ m ∷ ms)) ⊎ Collision
joined a b l m ls ms (inl both) rest = inl (both.0, ap₂ (λ (k : Link) (ks : List Link). k ∷ ks) both.1 rest)
joined a b l m ls ms (inr found) rest = inr found

chain_more : (a b : List ℕ) (l m : Link) (ls ms : List Link) → length a ≡ length b → ((chained a l ≡ chained b m) × (ls ≡ ms)) ⊎ Collision → ((a ≡ b) × (l ∷ ls ≡ m ∷ ms)) ⊎ Collision
chain_more a b l m ls ms n (inl both) = joined a b l m ls ms (step a b l m (same_text (linked a l) (linked b m)) refl n both.0) both.1
chain_more a b l m ls ms n (inr found) = inr found

chain_one : (a b : List ℕ) (ls ms : List Link) → length a ≡ length b → length ls ≡ length ms → chain a ls ≡ chain b ms → ((a ≡ b) × (ls ≡ ms)) ⊎ Collision
chain_one a b [] [] n k e = inl (e, refl)
chain_one a b [] (m ∷ ms) n k e = absurd (omega arith)
chain_one a b (l ∷ ls) [] n k e = absurd (omega arith)
chain_one a b (l ∷ ls) (m ∷ ms) n k e =
    chain_more a b l m ls ms n
    (chain_one (chained a l) (chained b m) ls ms (length-sha256 (linked a l) ∙ sym (length-sha256 (linked b m))) (omega arith) e)

-- a line more
pub chain_push : (a : List ℕ) (ls : List Link) (l : Link) → chain a (ls ++ l ∷ []) ≡ chained (chain a ls) l
chain_push a [] l = refl
chain_push a (k ∷ ls) l = chain_push (chained a k) ls l

-- a mark is taken as the kind of its line
pub taken_as-mark_of : (before body : List ℕ) (kind : LineKind) → taken_as before (mark_of before body kind) body ≡ Ok kind
taken_as-mark_of before body Opened = rw (same (mark_of before body Opened))
taken_as-mark_of before body Entry = rw (same (mark_of before body Entry))
taken_as-mark_of before body Change = rw (same (mark_of before body Change))

pub chains_tell : (before : List ℕ) (lines others : List Link) → length lines ≡ length others → chain before lines ≡ chain before others → (lines ≡ others) ⊎ Collision
chains_tell before lines others n e = lines_of (chain_one before before lines others refl n e)
  where
    lines_of : ((before ≡ before) × (lines ≡ others)) ⊎ Collision → (lines ≡ others) ⊎ Collision
    lines_of (inl both) = inl both.1
    lines_of (inr found) = inr found

-- ---- nothing else is taken as a mark

found_at : (test : LineKind → Bool) (kind own : LineKind) (rest : Option LineKind) (b : Bool) → test own ≡ b → (rest ≡ Some kind → test kind ≡ true)
    → cond b (Some own) rest ≡ Some kind → test kind ≡ true
found_at test kind own rest true is later e = let one : own ≡ kind = cc in subst (λ (it : LineKind). test it ≡ true) one is
found_at test kind own rest false is later e = later e

found : (test : LineKind → Bool) (kinds : List LineKind) (kind : LineKind) → find test kinds ≡ Some kind → test kind ≡ true
found test [] kind e = absurd (cc)
found test (own ∷ kinds) kind e = found_at test kind own (find test kinds) (test own) refl (found test kinds kind) e

some_of : (o : Option LineKind) (kind : LineKind) → ok_or o NotALine ≡ Ok kind → o ≡ Some kind
some_of None kind e = absurd (cc)
some_of (Some own) kind e = cc

pub taken_as-only : (before mark body : List ℕ) (kind : LineKind) → taken_as before mark body ≡ Ok kind → mark ≡ mark_of before body kind
taken_as-only before mark body kind e =
    let test = λ (it : LineKind). same_text (mark_of before body it) mark in
    sym ((bytes_eq-Decides (mark_of before body kind) mark).0 (found test kinds kind (some_of (find test kinds) kind e)))
