-- A text has one reading.
use Rattle.std.proofs.Common.{◌≡◌, ◌+◌, arith, length, take, drop, ◌⊎◌, inl, inr, ℕ, Bool, true, false, List, [], ◌∷◌, ◌++◌, refl, sym, ap, ◌∙◌, subst, Option, Some, None}
use Rattle.std.specs.Prelude.{Result, Ok, Err}
use Rattle.httparse.specs.Grammar.{RequestHead, ReadsRequest}
use Rattle.httparse.proofs.GrammarLemmas.{request_unique}
use Rattle.af_ops.specs.declared.call.Call.{Call}
use Rattle.af_ops.specs.declared.served.Served.{Served}
use Rattle.af_http.specs.Fronts.{nothing, part, large, whole, front_of}
use Rattle.af_http.specs.Requests.{Asked, asked_by, body_length, is_head}
use Rattle.af_http.specs.Reading.{Begins, Stand, Parses, IsUnread, IsRefused, closes_after, status_of, refusal_text}
use Rattle.af_http.specs.Run.{Exchange, asked_in, exchanges_text, end_by, end_after, AllGoOn, LastEnds, EndsOr, IsWritten, Makes, Answered, Run}
use Rattle.af_http.specs.Streams.{Taken}
use Rattle.af_http.specs.Replies.{wants_memory}
use Rattle.af_http.specs.Routes.{IsRouted}
use Rattle.af_http.specs.declared.route_fault.RouteFault.{RouteFault}
use Rattle.af_http.specs.declared.route_fault.RouteFault.TheVariants as fault
use Rattle.af_ops.specs.Calls.{IsRead}
use Rattle.af_ops.specs.declared.served.Served.TheVariants as served
use Rattle.af_http.specs.Laws.{IsByText, IsFunction}
use Rattle.af_http.specs.declared.reply.Reply.{Reply}
use Rattle.af_http.specs.declared.reply.Reply.TheVariants as reply
use Rattle.af_http.specs.declared.refusal.Refusal.{Refusal}
use Rattle.af_http.specs.declared.refusal.Refusal.TheVariants.{Incomplete}
use Rattle.af_http.specs.declared.ended.Ended.{Ended}
use Rattle.af_http.specs.declared.ended.Ended.TheVariants as end

-- one head is parsed in one way
parses_one : (a b : List ℕ) (h k : RequestHead) → a ≡ b → Parses a h → Parses b k → h ≡ k
parses_one a b h k e x y =
    let P : List ℕ → Type 0 = λ t. ReadsRequest t h [] in
    (request_unique b h k [] [] (subst P e x.0) y.0).0

whole_same : {a b r q : List ℕ} → whole a r ≡ whole b q → (a ≡ b) × (r ≡ q)
whole_same e = (cc, cc)

ok_err : {A B : Type 0} {a : A} {b : B} {r : Result A B} → r ≡ Ok a → r ≡ Err b → ⊥
ok_err p q = let e = sym p ∙ q in cc

ok_one : {A B : Type 0} {a b : A} {r : Result A B} → r ≡ Ok a → r ≡ Ok b → a ≡ b
ok_one p q = let e = sym p ∙ q in cc

err_one : {A B : Type 0} {a b : B} {r : Result A B} → r ≡ Err a → r ≡ Err b → a ≡ b
err_one p q = let e = sym p ∙ q in cc

pub begins_one : (text : List ℕ) (a b : Asked) (r q : List ℕ) → Begins text a r → Begins text b q → (a ≡ b) × (r ≡ q)
begins_one text a b r q x y =
    let same = whole_same (sym x.framed ∙ y.framed) in
    let one = parses_one x.head y.head x.parsed y.parsed same.0 x.parses y.parses in
    let size : x.size ≡ y.size = ok_one x.sized (ap body_length one ∙ y.sized) in (
      x.asks
          ∙ ap (λ (h : RequestHead). asked_by h (take x.size x.after)) one
          ∙ ap (λ n. asked_by y.parsed (take n x.after)) size
          ∙ ap (λ t. asked_by y.parsed (take y.size t)) same.1
          ∙ sym y.asks,
      x.rest_is ∙ ap (λ n. drop n x.after) size ∙ ap (drop y.size) same.1 ∙ sym y.rest_is,
    )

-- a head that is refused says no length
unread_not : (a b : List ℕ) (refusal : Refusal) (h : RequestHead) (n : ℕ) → a ≡ b → IsUnread a refusal → Parses b h → body_length h ≡ Ok n → ⊥
unread_not a b refusal h n e (inl (is, none)) parses sized = let P : List ℕ → Type 0 = λ t. Parses t h in none h (subst P (sym e) parses)
unread_not a b refusal h n e (inr (k, parses2, bad)) parses sized = ok_err sized (sym (ap body_length (parses_one a b k h e parses2 parses)) ∙ bad)

refused_begins : (text : List ℕ) (refusal : Refusal) (a : Asked) (r : List ℕ) → IsRefused text refusal → Begins text a r → ⊥
refused_begins text refusal a r (inl (e, is)) x = let c : large ≡ whole x.head x.after = sym e ∙ x.framed in cc
refused_begins text refusal a r (inr (inl (head, after, e, bad))) x =
    unread_not head x.head refusal x.parsed x.size (whole_same (sym e ∙ x.framed)).0 bad x.parses x.sized
refused_begins text refusal a r (inr (inr (inl (e, is)))) x = let c : part ≡ whole x.head x.after = sym e ∙ x.framed in cc
refused_begins text refusal a r (inr (inr (inr (head_only, k, is)))) x =
    let same = whole_same (sym k.framed ∙ x.framed) in
    let one = parses_one k.head x.head k.parsed x.parsed same.0 k.parses x.parses in
    let size : k.size ≡ x.size = ok_one k.sized (ap body_length one ∙ x.sized) in
    let short = k.short in
    let fits = x.fits in
    let after = ap length same.1 in
    absurd (omega (arith, size, short, fits, after))

bad_one : (a b : List ℕ) (x y : Refusal) → a ≡ b → IsUnread a x → IsUnread b y → x ≡ y
bad_one a b x y e (inl (p, none)) (inl (q, none2)) = p ∙ sym q
bad_one a b x y e (inl (p, none)) (inr (k, parses, bad)) = let P : List ℕ → Type 0 = λ t. Parses t k in absurd (none k (subst P (sym e) parses))
bad_one a b x y e (inr (h, parses, bad)) (inl (q, none)) = let P : List ℕ → Type 0 = λ t. Parses t h in absurd (none h (subst P e parses))
bad_one a b x y e (inr (h, px, p)) (inr (k, py, q)) = err_one p (ap body_length (parses_one a b h k e px py) ∙ q)

refusal_one : (text : List ℕ) (x y : Refusal) → IsRefused text x → IsRefused text y → x ≡ y
refusal_one text x y (inl (e, is)) (inl (e2, is2)) = is ∙ sym is2
refusal_one text x y (inl (e, is)) (inr (inl (head, after, e2, bad))) = let c : large ≡ whole head after = sym e ∙ e2 in cc
refusal_one text x y (inl (e, is)) (inr (inr (inl (e2, is2)))) = let c : large ≡ part = sym e ∙ e2 in cc
refusal_one text x y (inl (e, is)) (inr (inr (inr (h, k, is2)))) = let c : large ≡ whole k.head k.after = sym e ∙ k.framed in cc
refusal_one text x y (inr (inl (head, after, e, bad))) (inl (e2, is2)) = let c : whole head after ≡ large = sym e ∙ e2 in cc
refusal_one text x y (inr (inl (head, after, e, bad))) (inr (inl (head2, after2, e2, bad2))) = bad_one head head2 x y (whole_same (sym e ∙ e2)).0 bad bad2
refusal_one text x y (inr (inl (head, after, e, bad))) (inr (inr (inl (e2, is2)))) = let c : whole head after ≡ part = sym e ∙ e2 in cc
refusal_one text x y (inr (inl (head, after, e, bad))) (inr (inr (inr (h, k, is2)))) =
    absurd (unread_not head k.head x k.parsed k.size (whole_same (sym e ∙ k.framed)).0 bad k.parses k.sized)
refusal_one text x y (inr (inr (inl (e, is)))) (inl (e2, is2)) = let c : part ≡ large = sym e ∙ e2 in cc
refusal_one text x y (inr (inr (inl (e, is)))) (inr (inl (head, after, e2, bad))) = let c : part ≡ whole head after = sym e ∙ e2 in cc
refusal_one text x y (inr (inr (inl (e, is)))) (inr (inr (inl (e2, is2)))) = is ∙ sym is2
refusal_one text x y (inr (inr (inl (e, is)))) (inr (inr (inr (h, k, is2)))) = let c : part ≡ whole k.head k.after = sym e ∙ k.framed in cc
refusal_one text x y (inr (inr (inr (h, k, is)))) (inl (e2, is2)) = let c : whole k.head k.after ≡ large = sym k.framed ∙ e2 in cc
refusal_one text x y (inr (inr (inr (h, k, is)))) (inr (inl (head, after, e, bad))) =
    absurd (unread_not head k.head y k.parsed k.size (whole_same (sym e ∙ k.framed)).0 bad k.parses k.sized)
refusal_one text x y (inr (inr (inr (h, k, is)))) (inr (inr (inl (e2, is2)))) = let c : whole k.head k.after ≡ part = sym k.framed ∙ e2 in cc
refusal_one text x y (inr (inr (inr (h, k, is)))) (inr (inr (inr (h2, k2, is2)))) =
    let one = parses_one k.head k2.head k.parsed k2.parsed (whole_same (sym k.framed ∙ k2.framed)).0 k.parses k2.parses in
    is ∙ ap Incomplete (k.method ∙ ap (λ (t : RequestHead). is_head t.method) one ∙ sym k2.method) ∙ sym is2

over_refused : (text : List ℕ) (refusal : Refusal) → front_of text ≡ nothing → IsRefused text refusal → ⊥
over_refused text refusal none (inl (e, is)) = let c : nothing ≡ large = sym none ∙ e in cc
over_refused text refusal none (inr (inl (head, after, e, bad))) = let c : nothing ≡ whole head after = sym none ∙ e in cc
over_refused text refusal none (inr (inr (inl (e, is)))) = let c : nothing ≡ part = sym none ∙ e in cc
over_refused text refusal none (inr (inr (inr (h, k, is)))) = let c : nothing ≡ whole k.head k.after = sym none ∙ k.framed in cc

-- an end before a request, for what stands there
pub data Halt : Type 0 where
  over : Halt
  turned_away : Refusal → Halt

abbrev Halts : List ℕ → List ℕ → Ended → Halt → Type 0
Halts text closing e over = (front_of text ≡ nothing) × (closing ≡ []) × (e ≡ end.Closed)
Halts text closing e (turned_away refusal) = IsRefused text refusal × (closing ≡ refusal_text refusal) × (e ≡ end.Refused (status_of refusal))

halts_begins : (text closing : List ℕ) (e : Ended) (h : Halt) (a : Asked) (r : List ℕ) → Halts text closing e h → Begins text a r → ⊥
halts_begins text closing e over a r s x = let c : nothing ≡ whole x.head x.after = sym s.0 ∙ x.framed in cc
halts_begins text closing e (turned_away refusal) a r s x = refused_begins text refusal a r s.0 x

halts_one : (text c d : List ℕ) (e f : Ended) (h k : Halt) → Halts text c e h → Halts text d f k → (e ≡ f) × (c ≡ d)
halts_one text c d e f over over x y = (x.2 ∙ sym y.2, x.1 ∙ sym y.1)
halts_one text c d e f over (turned_away r) x y = absurd (over_refused text r x.0 y.0)
halts_one text c d e f (turned_away r) over x y = absurd (over_refused text r y.0 x.0)
halts_one text c d e f (turned_away r) (turned_away q) x y =
    let same = refusal_one text r q x.0 y.0 in
    (x.2 ∙ ap (λ t. end.Refused (status_of t)) same ∙ sym y.2, x.1 ∙ ap refusal_text same ∙ sym y.1)

-- how a run ends after these exchanges, for what stands in the text
abbrev Done : ℕ → List Exchange → List ℕ → List ℕ → Ended → Type 0
Done n xs rest closing e =
    (AllGoOn n xs × (h : Halt) × Halts rest closing e h) ⊎ (LastEnds n xs e × (closing ≡ []))

ends_done : (xs : List Exchange) (ended : Bool) (text rest closing : List ℕ) (e : Ended) → IsByText e → EndsOr xs ended text rest closing e → Done 0 xs rest closing e
ends_done xs ended text rest closing end.Closed by (inl (on, empty, is), none) = inl (on, over, (empty, none, refl))
ends_done xs ended text rest closing end.Closed by (inr (last, is), none) = inr (last, none)
ends_done xs ended text rest closing (end.Refused status) by (refusal, on, refused, is, same, s) = inl (on, turned_away refusal, (refused, same, ap end.Refused s))
ends_done xs ended text rest closing end.NoMemory by is = absurd by
ends_done xs ended text rest closing end.ReadFault by is = absurd by
ends_done xs ended text rest closing end.WriteFault by is = absurd by
ends_done xs ended text rest closing end.Turns by is = absurd by

-- after the first exchange: the run goes on, or ends there
abbrev Next : ℕ → Exchange → List Exchange → List ℕ → List ℕ → Ended → Type 0
Next n x xs rest closing e =
    ((end_after n x ≡ None) × Done (n + 1) xs rest closing e) ⊎ ((end_after n x ≡ Some e) × (xs ≡ []) × (closing ≡ []))

next : (n : ℕ) (x : Exchange) (xs : List Exchange) (rest closing : List ℕ) (e : Ended) → Done n (x ∷ xs) rest closing e → Next n x xs rest closing e
next n x xs rest closing e (inl (on, h, s)) = inl (on.0, inl (on.1, h, s))
next n x [] rest closing e (inr (last, none)) = inr (last, refl, none)
next n x (y ∷ xs) rest closing e (inr (last, none)) = inl (last.0, inr (last.1, none))

none_some : {A : Type 0} {o : Option A} {x : A} → o ≡ None → o ≡ Some x → ⊥
none_some p q = let e = sym p ∙ q in cc

some_one : {o : Option Ended} {a b : Ended} → o ≡ Some a → o ≡ Some b → a ≡ b
some_one {a = a} {b = b} p q = let e : Some a ≡ Some b = sym p ∙ q in cc

-- a fault that is not out of memory is that of the definition
fault_is : (r : Result Call RouteFault) (f : RouteFault) → wants_memory (reply.Fault f) ≡ false → IsRouted r (Err f) → r ≡ Err f
fault_is r fault.NoPath fine it = it
fault_is r (fault.BadMethod methods) fine it = it
fault_is r fault.OutOfMemory fine it = cc

-- a call that was read is that of the definition, or that without its body
record Found (r : Result Call RouteFault) (call : Call) : Type 0 where
  pub wanted : Call
  pub is : r ≡ Ok wanted
  pub read : IsRead (Some wanted) (Some call)

call_is : (r : Result Call RouteFault) (call : Call) → IsRouted r (Ok call) → Found r call
call_is (Ok wanted) call it = record { wanted = wanted; is = refl; read = it }
call_is (Err _) call it = elim it [ ]

module _ {S : Type 0} (answers : S → Option (List ℕ) → Call → Served → S → Type 0) (one : IsFunction answers) where
  makes_one : (old : S) (a : Asked) (x y : Reply) (m k : S) → wants_memory x ≡ false → wants_memory y ≡ false → Makes answers old a x m → Makes answers old a y k → (x ≡ y) × (m ≡ k)
  makes_one old a (reply.Fault f) (reply.Fault g) m k wx wy x y =
      let same : f ≡ g = err_one (fault_is _ f wx x.0) (fault_is _ g wy y.0) in
      (ap reply.Fault same, x.1 ∙ sym y.1)
  makes_one old a (reply.Fault f) (reply.Served s) m k wx wy x y = absurd (ok_err (call_is _ y.0 y.1).is (fault_is _ f wx x.0))
  makes_one old a (reply.Served s) (reply.Fault g) m k wx wy x y = absurd (ok_err (call_is _ x.0 x.1).is (fault_is _ g wy y.0))
  makes_one old a (reply.Served (served.Shown s)) (reply.Served (served.Shown t)) m k wx wy x y =
      let this = call_is _ x.0 x.1 in
      let that = call_is _ y.0 y.1 in
      let same : this.wanted ≡ that.wanted = ok_one this.is that.is in
      let P : Call → Type 0 = λ call. IsRead (Some call) (Some x.0) in
      let both = one old a.token that.wanted x.0 y.0 s t m k (subst P same this.read) that.read x.2 y.2 in
      (ap (λ t. reply.Served (served.Shown t)) both.0, both.1)
  makes_one old a (reply.Served (served.Shown s)) (reply.Served served.NothingDone) m k wx wy x y = cc
  makes_one old a (reply.Served served.NothingDone) (reply.Served t) m k wx wy x y = cc

  -- a run that ends for its text wanted no memory
  next_fine : (n : ℕ) (x : Exchange) (xs : List Exchange) (rest closing : List ℕ) (e : Ended) → IsByText e → Next n x xs rest closing e → wants_memory x.reply ≡ false
  next_fine n x xs rest closing e text (inl (go, more)) = by (wants_memory x.reply) go
    where
      by : (w : Bool) → end_by w (closes_after n x.asked) ≡ None → w ≡ false
      by false go = refl
      by true go = cc
  next_fine n x xs rest closing e text (inr (stop, none, is)) = by (wants_memory x.reply) stop
    where
      never : (e : Ended) → IsByText e → Some end.NoMemory ≡ Some e → ⊥
      never end.Closed text is = cc
      never (end.Refused status) text is = cc
      never end.NoMemory text is = text
      never end.ReadFault text is = text
      never end.WriteFault text is = text
      never end.Turns text is = text

      by : (w : Bool) → end_by w (closes_after n x.asked) ≡ Some e → w ≡ false
      by false stop = refl
      by true stop = absurd (never e text stop)

  abbrev Agree : List Exchange → List Exchange → S → S → Ended → Ended → List ℕ → List ℕ → Type 0
  Agree xs ys a b e f c d = (xs ≡ ys) × (a ≡ b) × (e ≡ f) × (c ≡ d)

  agree : (n : ℕ) (old : S) (text : List ℕ) (xs ys : List Exchange) (r q c d : List ℕ) (e f : Ended) (a b : S)
      → Stand text (asked_in xs) r → Stand text (asked_in ys) q → Answered answers old xs a → Answered answers old ys b
      → IsByText e → IsByText f → Done n xs r c e → Done n ys q d f → Agree xs ys a b e f c d
  agree n old text [] [] r q c d e f a b sx sy ax ay te tf (inl (on, h, x)) (inl (on2, k, y)) =
      let P : List ℕ → Type 0 = λ t. Halts t c e h in
      let same = halts_one q c d e f h k (subst P (sym sx ∙ sy) x) y in
      (refl, ax ∙ sym ay, same.0, same.1)
  agree n old text [] [] r q c d e f a b sx sy ax ay te tf (inr x) dy = absurd x.0
  agree n old text [] [] r q c d e f a b sx sy ax ay te tf (inl x) (inr y) = absurd y.0
  agree n old text [] (y ∷ ys) r q c d e f a b sx sy ax ay te tf (inr x) dy = absurd x.0
  agree n old text [] (y ∷ ys) r q c d e f a b sx sy ax ay te tf (inl (on, h, x)) dy =
      let P : List ℕ → Type 0 = λ t. Halts t c e h in
      absurd (halts_begins text c e h y.asked sy.0 (subst P (sym sx) x) sy.1)
  agree n old text (x ∷ xs) [] r q c d e f a b sx sy ax ay te tf dx (inr y) = absurd y.0
  agree n old text (x ∷ xs) [] r q c d e f a b sx sy ax ay te tf dx (inl (on, h, y)) =
      let P : List ℕ → Type 0 = λ t. Halts t d f h in
      absurd (halts_begins text d f h x.asked sx.0 (subst P (sym sy) y) sx.1)
  agree n old text (x ∷ xs) (y ∷ ys) r q c d e f a b sx sy ax ay te tf dx dy =
      let first = begins_one text x.asked y.asked sx.0 sy.0 sx.1 sy.1 in
      let P : Asked → Type 0 = λ t. Makes answers old t x.reply ax.0 in
      let nx = next n x xs r c e dx in
      let ny = next n y ys q d f dy in
      let made = makes_one old y.asked x.reply y.reply ax.0 ay.0 (next_fine n x xs r c e te nx) (next_fine n y ys q d f tf ny) (subst P first.0 ax.1) ay.1 in
      let same : x ≡ y = exchange_same x y first.0 made.0 in
      by same first.1 made.1 nx ny
      (λ dx2 dy2.
      let Q : List ℕ → Type 0 = λ t. Stand t (asked_in xs) r in
      let R : S → Type 0 = λ t. Answered answers t xs a in
      agree (n + 1) ay.0 sy.0 xs ys r q c d e f a b (subst Q first.1 sx.2) sy.2 (subst R made.1 ax.2) ay.2 te tf dx2 dy2)
    where
      exchange_same : (x y : Exchange) → x.asked ≡ y.asked → x.reply ≡ y.reply → x ≡ y
      exchange_same x y p q = λ i. record { asked = p i; reply = q i }

      by : x ≡ y → sx.0 ≡ sy.0 → ax.0 ≡ ay.0 → Next n x xs r c e → Next n y ys q d f
          → (Done (n + 1) xs r c e → Done (n + 1) ys q d f → Agree xs ys a b e f c d)
          → Agree (x ∷ xs) (y ∷ ys) a b e f c d
      by same after mid (inl (go, dx2)) (inl (go2, dy2)) more =
          let m = more dx2 dy2 in
          ((λ i. same i ∷ m.0 i), m.1, m.2, m.3)
      by same after mid (inl (go, dx2)) (inr (stop, none, is)) more = absurd (none_some (sym (ap (end_after n) same) ∙ go) stop)
      by same after mid (inr (stop, none, is)) (inl (go, dy2)) more = absurd (none_some (ap (end_after n) same ∙ go) stop)
      by same after mid (inr (stop, none, is)) (inr (stop2, none2, is2)) more =
          let P : List Exchange → Type 0 = λ t. Answered answers ax.0 t a in
          let Q : List Exchange → Type 0 = λ t. Answered answers ay.0 t b in (
            (λ i. same i ∷ (none ∙ sym none2) i),
            subst P none ax.2 ∙ mid ∙ sym (subst Q none2 ay.2),
            some_one stop (ap (end_after n) same ∙ stop2),
            is ∙ sym is2,
          )

  written_all : (xs : List Exchange) (closing : List ℕ) (w : Taken) (out : List ℕ) (e : Ended) → IsByText e → IsWritten e xs closing w out → out ≡ exchanges_text 0 xs ++ closing
  written_all xs closing w out end.Closed by is = is
  written_all xs closing w out (end.Refused status) by is = is
  written_all xs closing w out end.NoMemory by is = absurd by
  written_all xs closing w out end.ReadFault by is = absurd by
  written_all xs closing w out end.WriteFault by is = absurd by
  written_all xs closing w out end.Turns by is = absurd by

  pub runs_one : (old : S) (ended : Bool) (text : List ℕ) (e d : Ended) (out written : List ℕ) (w v : Taken) (a b : S)
      → Run answers old ended text e out w a → Run answers old ended text d written v b → IsByText e → IsByText d
      → (e ≡ d) × (out ≡ written) × (a ≡ b)
  runs_one old ended text e d out written w v a b x y p q =
      let same = agree 0 old text x.exchanges y.exchanges x.rest y.rest x.closing y.closing e d a b x.stand y.stand x.answered y.answered p q
      (ends_done x.exchanges ended text x.rest x.closing e p x.ends) (ends_done y.exchanges ended text y.rest y.closing d q y.ends) in (
        same.2,
        written_all x.exchanges x.closing w out e p x.written
            ∙ ap (λ t. exchanges_text 0 t ++ x.closing) same.0
            ∙ ap (λ t. exchanges_text 0 y.exchanges ++ t) same.3
            ∙ sym (written_all y.exchanges y.closing v written d q y.written),
        same.1,
      )
