-- What a run comes to by a request more, and how it ends.
use Rattle.std.proofs.Common.{◌≡◌, ◌<◌, ◌+◌, ◌||◌, ◌⊎◌, inl, inr, ℕ, Bool, true, false, List, [], ◌∷◌, ◌++◌, length, refl, sym, ap, ◌∙◌, subst, Option, Some, None, arith}
use Rattle.std.proofs.lemmas.List.{append-nil, append_assoc}
use Rattle.std.proofs.lemmas.Bool.{eq-eqb, cases_eq}
use Rattle.af_http.specs.Streams.{Waiting}
use Rattle.af_http.specs.Requests.{Asked}
use Rattle.af_http.specs.Replies.{wants_memory}
use Rattle.af_http.specs.Reading.{Begins, Stand, closes_after}
use Rattle.af_http.specs.Run.{Exchange, asked_in, exchange_text, exchanges_text, end_by, end_after, AllGoOn, LastEnds, last_text, Ends, EndsOr}
use Rattle.af_http.specs.Reads.{read_faults}
use Rattle.af_http.specs.Sending.{Outlet, all_put, Went}
use Rattle.af_http.specs.Turns.{or_fault, Stops}
use Rattle.af_http.proofs.ReadLemmas.{asked_push}
use Rattle.af_http.specs.declared.ended.Ended.{Ended}
use Rattle.af_http.specs.declared.ended.Ended.TheVariants as end

-- one request more stands in the text
stand_push : (text : List ℕ) (before : List Asked) (rest : List ℕ) (asked : Asked) (after : List ℕ) → Stand text before rest → Begins rest asked after
    → Stand text (before ++ asked ∷ []) after
stand_push text [] rest asked after e b = let P : List ℕ → Type 0 = λ t. Begins t asked after in (after, subst P (sym e) b, refl)
stand_push text (x ∷ before) rest asked after (mid, first, more) b = (mid, first, stand_push mid before rest asked after more b)

-- one exchange more
text_push : (n : ℕ) (xs : List Exchange) (x : Exchange) → exchanges_text n (xs ++ x ∷ []) ≡ exchanges_text n xs ++ exchange_text (n + length xs) x
text_push n [] x = append-nil (exchange_text n x) ∙ ap (λ k. exchange_text k x) (omega arith)
text_push n (y ∷ xs) x =
    let k : (n + 1) + length xs ≡ n + length (y ∷ xs) = omega arith in
    ap (λ t. exchange_text n y ++ t) (text_push (n + 1) xs x)
    ∙ sym (append_assoc (exchange_text n y) (exchanges_text (n + 1) xs) (exchange_text ((n + 1) + length xs) x))
    ∙ ap (λ k. (exchange_text n y ++ exchanges_text (n + 1) xs) ++ exchange_text k x) k

pub on_push : (n : ℕ) (xs : List Exchange) (x : Exchange) → AllGoOn n xs → end_after (n + length xs) x ≡ None → AllGoOn n (xs ++ x ∷ [])
on_push n [] x on e = let k : n ≡ n + length {A = Exchange} [] = omega arith in (ap (λ k. end_after k x) k ∙ e, tt)
on_push n (y ∷ xs) x on e =
    let k : (n + 1) + length xs ≡ n + length (y ∷ xs) = omega arith in
    (on.0, on_push (n + 1) xs x on.1 (ap (λ k. end_after k x) k ∙ e))

pub last_push : (n : ℕ) (xs : List Exchange) (x : Exchange) (e : Ended) → AllGoOn n xs → end_after (n + length xs) x ≡ Some e → LastEnds n (xs ++ x ∷ []) e
last_push n [] x e on is = let k : n ≡ n + length {A = Exchange} [] = omega arith in ap (λ k. end_after k x) k ∙ is
last_push n (y ∷ []) x e on is =
    let k : n + 1 ≡ n + length (y ∷ []) = omega arith in
    (on.0, ap (λ k. end_after k x) k ∙ is)
last_push n (y ∷ z ∷ xs) x e on is =
    let k : (n + 1) + length (z ∷ xs) ≡ n + length (y ∷ z ∷ xs) = omega arith in
    (on.0, last_push (n + 1) (z ∷ xs) x e on.1 (ap (λ k. end_after k x) k ∙ is))

-- the last request ends the run
or_true : (b c : Bool) → c ≡ true → (b || c) ≡ true
or_true true c same = refl
or_true false c same = same

last_ends : (w c : Bool) → c ≡ true → end_by w c ≡ None → ⊥
last_ends true c same goes = cc
last_ends false true same goes = cc
last_ends false false same goes = cc

pub goes_few : (n : ℕ) (xs : List Exchange) → n < 1000 → AllGoOn n xs → n + length xs < 1000
goes_few n [] low on = omega arith
goes_few n (x ∷ xs) low on =
    let next : n + 1 < 1000 = elim (cases_eq (n + 1) 1000) [
      | inl e ↦ absurd (last_ends (wants_memory x.reply) (closes_after n x.asked) (or_true x.asked.closes _ (eq-eqb (n + 1) 1000 e)) on.0)
      | inr ne ↦ omega arith
    ] in
    let h = goes_few (n + 1) xs next on.1 in
    omega arith

pub last_text_push : (n : ℕ) (xs : List Exchange) (x : Exchange) → last_text n (xs ++ x ∷ []) ≡ exchange_text (n + length xs) x
last_text_push n [] x = let k : n ≡ n + length {A = Exchange} [] = omega arith in ap (λ k. exchange_text k x) k
last_text_push n (y ∷ []) x = let k : n + 1 ≡ n + length (y ∷ []) = omega arith in ap (λ k. exchange_text k x) k
last_text_push n (y ∷ z ∷ xs) x =
    let k : (n + 1) + length (z ∷ xs) ≡ n + length (y ∷ z ∷ xs) = omega arith in
    last_text_push (n + 1) (z ∷ xs) x ∙ ap (λ k. exchange_text k x) k

-- how a run ends at a request
pub never_by : (w c : Bool) (e : Ended) → Some e ≡ end_by w c → (e ≡ end.NoMemory) ⊎ (e ≡ end.Closed)
never_by true c e p = inl (some_same p)
  where
    some_same : {a b : Ended} → Some a ≡ Some b → a ≡ b
    some_same e = cc
never_by false true e p = inr (some_same p)
  where
    some_same : {a b : Ended} → Some a ≡ Some b → a ≡ b
    some_same e = cc
never_by false false e p = cc

pub ends_last : (xs : List Exchange) (text rest : List ℕ) (e : Ended) → (e ≡ end.NoMemory) ⊎ (e ≡ end.Closed) → LastEnds 0 xs e → Ends xs false text rest [] e
ends_last xs text rest end.Closed by last = (inr (last, refl), refl)
ends_last xs text rest end.NoMemory by last = (inr (last, refl), refl)
ends_last xs text rest end.ReadFault by last = elim by [ inl p ↦ cc | inr p ↦ cc ]
ends_last xs text rest end.WriteFault by last = elim by [ inl p ↦ cc | inr p ↦ cc ]
ends_last xs text rest end.Turns by last = elim by [ inl p ↦ cc | inr p ↦ cc ]
ends_last xs text rest (end.Refused s) by last = elim by [ inl p ↦ cc | inr p ↦ cc ]

-- an end that is not a failed write
pub ends_or : (xs : List Exchange) (ended : Bool) (text rest closing : List ℕ) (e : Ended) → (e ≡ end.WriteFault → ⊥) → Ends xs ended text rest closing e → EndsOr xs ended text rest closing e
ends_or xs ended text rest closing end.Closed other s = s
ends_or xs ended text rest closing end.ReadFault other s = s
ends_or xs ended text rest closing end.Turns other s = s
ends_or xs ended text rest closing (end.Refused status) other s = s
ends_or xs ended text rest closing end.NoMemory other s = s
ends_or xs ended text rest closing end.WriteFault other s = absurd (other refl)

pub or_ends : (xs : List Exchange) (ended : Bool) (text rest closing : List ℕ) (e : Ended) → EndsOr xs ended text rest closing e → EndsOr xs ended text rest closing end.WriteFault
or_ends xs ended text rest closing end.Closed s = (end.Closed, s)
or_ends xs ended text rest closing end.ReadFault s = (end.ReadFault, s)
or_ends xs ended text rest closing end.Turns s = (end.Turns, s)
or_ends xs ended text rest closing (end.Refused status) s = (end.Refused status, s)
or_ends xs ended text rest closing end.NoMemory s = (end.NoMemory, s)
or_ends xs ended text rest closing end.WriteFault s = s

-- an end at a request, or none
pub at_request : (xs : List Exchange) (x : Exchange) (text rest : List ℕ) (n : ℕ) → n ≡ 0 + length xs → AllGoOn 0 xs → (w c : Bool) → end_by w c ≡ end_after n x
    → (e : Ended) × Ends (xs ++ x ∷ []) false text rest [] e
at_request xs x text rest n k on w c is = by (end_by w c) refl
  where
    by : (o : Option Ended) → end_by w c ≡ o → (e : Ended) × Ends (xs ++ x ∷ []) false text rest [] e
    by None e = (end.WriteFault, (on_push 0 xs x on (ap (λ u. end_after u x) (sym k) ∙ sym is ∙ e), refl, refl))
    by (Some s) e = (s, ends_last (xs ++ x ∷ []) text rest s (never_by w c s (sym e)) (last_push 0 xs x s on (ap (λ u. end_after u x) (sym k) ∙ sym is ∙ e)))

-- how a run ends before a request
pub ends_stopped : (w : Waiting) (xs : List Exchange) (ended : Bool) (text rest all : List ℕ) (e : Ended) → AllGoOn 0 xs → Stops w ended rest all e
    → (k : Ended) × Ends xs ended text rest all k × ((e ≡ end.WriteFault → ⊥) → EndsOr xs ended text rest all e)
ends_stopped w xs ended text rest all end.Closed on (empty, is, none) = let s : Ends xs ended text rest all end.Closed = (inl (on, empty, is), none) in (end.Closed, s, λ other. s)
ends_stopped w xs ended text rest all end.ReadFault on (unread, is, none, idle, sound) = let s : Ends xs ended text rest all end.ReadFault = (on, unread, is, none) in (end.ReadFault, s, λ other. s)
ends_stopped w xs ended text rest all end.Turns on (unread, is, none) = let s : Ends xs ended text rest all end.Turns = (on, unread, is, none) in (end.Turns, s, λ other. s)
ends_stopped w xs ended text rest all (end.Refused status) on (refusal, refused, is, closing, same) =
    let s : Ends xs ended text rest all (end.Refused status) = (refusal, on, refused, is, closing, same) in (end.Refused status, s, λ other. s)
ends_stopped w xs ended text rest all end.WriteFault on (is, none, failed) = (end.WriteFault, (on, is, none), λ other. absurd (other refl))
ends_stopped w xs ended text rest all end.NoMemory on s = absurd s

-- what a failed write says of the end
pub or_is : (f : Bool) (e k : Ended) → Some e ≡ or_fault f (Some k) → (f ≡ false → e ≡ k) × (f ≡ true → e ≡ end.WriteFault)
or_is true e k is = (λ f. cc, λ f. cc)
or_is false e k is = (λ f. cc, λ f. cc)

pub or_none : (f : Bool) (o p : Option Ended) → p ≡ None → p ≡ or_fault f o → (f ≡ false) × (o ≡ None)
or_none true o p none is = let no : None ≡ Some end.WriteFault = sym none ∙ is in cc
or_none false o p none is = (refl, sym is ∙ none)

pub quiet : (e : Ended) → (e ≡ end.NoMemory) ⊎ (e ≡ end.Closed) → (read_faults e ≡ 0) × (e ≡ end.Turns → ⊥) × (e ≡ end.WriteFault → ⊥) × (e ≡ end.ReadFault → ⊥)
quiet end.NoMemory by = (refl, λ s. cc, λ s. cc, λ s. cc)
quiet end.Closed by = (refl, λ s. cc, λ s. cc, λ s. cc)
quiet end.ReadFault by = elim by [ inl p ↦ cc | inr p ↦ cc ]
quiet end.WriteFault by = elim by [ inl p ↦ cc | inr p ↦ cc ]
quiet end.Turns by = elim by [ inl p ↦ cc | inr p ↦ cc ]
quiet (end.Refused s) by = elim by [ inl p ↦ cc | inr p ↦ cc ]

-- the same of an end that a failed write may have made
pub fault_quiet : (read_faults end.WriteFault ≡ 0) × (end.WriteFault ≡ end.Turns → ⊥)
fault_quiet = (refl, λ s. cc)

-- what was put in all
pub put_all : (p q : Outlet) (xs : List Exchange) (x : Exchange) (count : ℕ) → length xs ≡ count → all_put q ≡ all_put p ++ exchanges_text 0 xs
    → all_put q ++ exchange_text count x ≡ all_put p ++ exchanges_text 0 (xs ++ x ∷ [])
put_all p q xs x count counted went =
    let k : count ≡ 0 + length xs = omega (arith, counted) in
    ap (λ t. t ++ exchange_text count x) went
    ∙ append_assoc (all_put p) (exchanges_text 0 xs) (exchange_text count x)
    ∙ ap (λ n. all_put p ++ (exchanges_text 0 xs ++ exchange_text n x)) k
    ∙ ap (λ t. all_put p ++ t) (sym (text_push 0 xs x))

-- a sound start
pub went_from : (some : ℕ) (f g : Bool) (p q : Outlet) (a : List ℕ) → f ≡ false → Went some f g p q a → Went some false g p q a
went_from some false g p q a sound w = w
went_from some true g p q a sound w = cc

pub went_well : (some : ℕ) (f g : Bool) (p q : Outlet) (a : List ℕ) → f ≡ false → g ≡ false → Went some f g p q a → (all_put q ≡ all_put p ++ a) × (q.sink.failures ≡ p.sink.failures)
went_well some false false p q a sound well w = w
went_well some false true p q a sound well w = cc
went_well some true g p q a sound well w = cc

pub stand_more : (xs : List Exchange) (x : Exchange) (before more held left tail : List ℕ)
    → Stand (before ++ (more ++ tail)) (asked_in xs) (held ++ (more ++ tail)) → Begins ((held ++ more) ++ tail) x.asked (left ++ tail)
    → Stand ((before ++ more) ++ tail) (asked_in (xs ++ x ∷ [])) (left ++ tail)
stand_more xs x before more held left tail was b =
    let P : List ℕ → Type 0 = λ t. Begins t x.asked (left ++ tail) in
    let Q : List ℕ → Type 0 = λ t. Stand t (asked_in xs ++ x.asked ∷ []) (left ++ tail) in
    let R : List Asked → Type 0 = λ q. Stand ((before ++ more) ++ tail) q (left ++ tail) in
    subst R (sym (asked_push xs x))
    (subst Q (sym (append_assoc before more tail))
    (stand_push (before ++ (more ++ tail)) (asked_in xs) (held ++ (more ++ tail)) x.asked (left ++ tail) was (subst P (append_assoc held more tail) b)))

pub begins_now : (held more left : List ℕ) (asked : Asked) → ((tail : List ℕ) → Begins ((held ++ more) ++ tail) asked (left ++ tail)) → Begins (held ++ more) asked left
begins_now held more left asked b =
    let P : List ℕ → Type 0 = λ t. Begins t asked (left ++ []) in
    let Q : List ℕ → Type 0 = λ t. Begins (held ++ more) asked t in
    subst Q (append-nil left) (subst P (append-nil (held ++ more)) (b []))

-- the same where nothing follows
pub stand_here : (xs : List Exchange) (x : Exchange) (before more held left : List ℕ)
    → ((tail : List ℕ) → Stand (before ++ tail) (asked_in xs) (held ++ tail)) → ((tail : List ℕ) → Begins ((held ++ more) ++ tail) x.asked (left ++ tail))
    → Stand (before ++ more) (asked_in (xs ++ x ∷ [])) (left ++ [])
stand_here xs x before more held left was b =
    let P : List ℕ → Type 0 = λ t. Stand t (asked_in (xs ++ x ∷ [])) (left ++ []) in
    subst P (append-nil (before ++ more)) (stand_more xs x before more held left [] (was (more ++ [])) (b []))
