-- The first text that is no permission, found while texts are read one by one.
use Rattle.std.proofs.Common.{◌≡◌, ℕ, suc, ◌+◌, ◌<◌, length, take, drop, get_or, List, [], ◌∷◌, ◌++◌, Bool, true, false, not, cond, Option, Some, None, Err, sym, ap, ◌∙◌, drop-cons}
use Rattle.std.specs.List.{cons_option, filter_map, find}
use Rattle.std.specs.Option.{is_some, option_or}
use Rattle.std.proofs.lemmas.List.{take-append-drop}
use Rattle.std.proofs.lemmas.List.Folds.{find-append}
use Rattle.std.proofs.lemmas.List.Sums.{fold-append}
use Rattle.std.proofs.lemmas.List.Elements.{filter_map-append}
use Rattle.af_role.specs.declared.pair_text.PairText.{PairText}
use Rattle.af_role.specs.declared.pair_fault.PairFault.TheVariants.{NotAllowed}
use Rattle.af_role.specs.Pairs.{PairRow, with_pair, with_pairs}
use Rattle.af_role.specs.PairTexts.{pair_read, pairs_read_at, pairs_unless, refused_pair}
use Rattle.af_role.proofs.AccessLemmas.{take_more}

find_at : {X : Type 0} (test : X → Bool) (xs : List X) (i : ℕ) (x : X) → x ≡ get_or xs i x → i < length xs → find test (take i xs) ≡ None → test x ≡ true → find test xs ≡ Some x
find_at test xs i x is below none passes =
    ap (find test) (sym (take-append-drop i xs))
    ∙ find-append test (take i xs) (drop i xs)
    ∙ (λ j. option_or (none j) (find test ((drop-cons xs i x below ∙ ap (λ y. y ∷ drop (suc i) xs) (sym is)) j)))
    ∙ ap (λ b. cond b (Some x) (find test (drop (suc i) xs))) passes

find_none_more : {X : Type 0} (test : X → Bool) (xs : List X) (i : ℕ) (x : X) → x ≡ get_or xs i x → i < length xs → find test (take i xs) ≡ None → test x ≡ false → find test (take (i + 1) xs) ≡ None
find_none_more test xs i x is below none fails =
    ap (find test) (take_more xs i x is below)
    ∙ find-append test (take i xs) (x ∷ [])
    ∙ (λ j. option_or (none j) (cond (fails j) (Some x) None))

module _ (texts : List PairText) (i : ℕ) (text : PairText) (is : text ≡ get_or texts i text) (below : i < length texts) (allowed : refused_pair (take i texts) ≡ None) (read : Option PairRow) (gives : read ≡ pair_read text) where
  pub read_refused : (copy : PairText) → copy ≡ text → read ≡ None → pairs_read_at texts ≡ Err (NotAllowed copy)
  read_refused copy same none =
      ap (pairs_unless texts) (find_at (λ t. not (is_some (pair_read t))) texts i text is below allowed (ap (λ p. not (is_some p)) (sym gives ∙ none)))
      ∙ ap (λ t. Err (NotAllowed t)) (sym same)

  module _ (pair : PairRow) (some : read ≡ Some pair) where
    pub read_more : (now after : List PairRow) → now ≡ with_pairs [] (filter_map pair_read (take i texts)) → after ≡ with_pair now pair → after ≡ with_pairs [] (filter_map pair_read (take (i + 1) texts))
    read_more now after so put =
        put
        ∙ ap (λ pairs. with_pair pairs pair) so
        ∙ sym (fold-append with_pair [] (filter_map pair_read (take i texts)) (pair ∷ []))
        ∙ ap (λ found. with_pairs [] (filter_map pair_read (take i texts) ++ found)) (ap (λ o. cons_option o []) (sym some ∙ gives))
        ∙ ap (with_pairs []) (sym (filter_map-append pair_read (take i texts) (text ∷ [])) ∙ ap (filter_map pair_read) (sym (take_more texts i text is below)))

    pub allowed_more : refused_pair (take (i + 1) texts) ≡ None
    allowed_more = find_none_more (λ t. not (is_some (pair_read t))) texts i text is below allowed (ap (λ p. not (is_some p)) (sym gives ∙ some))
