-- A run, one turn at a time.
use Rattle.std.proofs.Common.{◌≡◌, ◌<◌, ◌≤◌, ◌+◌, ◌*◌, inl, inr, ℕ, Bool, true, false, List, [], ◌∷◌, ◌++◌, length, refl, sym, ap, ◌∙◌, subst, Option, Some, None, arith}
use Rattle.std.proofs.lemmas.List.{append-nil, append_assoc, length_push}
use Rattle.af_ops.specs.declared.call.Call.{Call}
use Rattle.af_ops.specs.declared.served.Served.{Served}
use Rattle.af_http.specs.Limits.{read_limit}
use Rattle.af_http.specs.Streams.{Given, Waiting, Took, Grew}
use Rattle.af_http.specs.Requests.{Asked}
use Rattle.af_http.specs.Replies.{wants_memory}
use Rattle.af_http.specs.Reading.{Stand, closes_after}
use Rattle.af_http.specs.Run.{Exchange, asked_in, exchange_text, exchanges_text, end_after, AllGoOn, last_text, EndsOr, Makes, Answered}
use Rattle.af_http.specs.Reads.{Awaited, Reads, read_faults}
use Rattle.af_http.specs.Sending.{Outlet, all_put, Went}
use Rattle.af_http.specs.Turns.{or_fault, Stops, Stopped, Exchanges, Turned, WentAll, Ran}
use Rattle.af_http.proofs.StreamLemmas.{took_none, took_more}
use Rattle.af_http.proofs.SendLemmas.{grew_none, grew_also}
use Rattle.af_http.proofs.ReadLemmas.{asked_push, awaited_push, reads_anyway, reads_at, reads_then}
use Rattle.af_http.specs.declared.ended.Ended.{Ended}
use Rattle.af_http.specs.declared.ended.Ended.TheVariants as end
use Rattle.af_http.proofs.EndLemmas.{on_push, last_push, last_text_push, never_by, ends_last, ends_or, at_request, ends_stopped, or_is, or_none, quiet, fault_quiet, put_all, went_from, went_well, stand_more, begins_now, stand_here}

module _ {S : Type 0} (answers : S → Option (List ℕ) → Call → Served → S → Type 0) where
  answered_push : (old : S) (xs : List Exchange) (mid : S) (x : Exchange) (new : S) → Answered answers old xs mid → Makes answers mid x.asked x.reply new
      → Answered answers old (xs ++ x ∷ []) new
  answered_push old [] mid x new e m = let P : S → Type 0 = λ s. Makes answers s x.asked x.reply new in (new, subst P e m, refl)
  answered_push old (y ∷ xs) mid x new (next, first, more) m = (next, first, answered_push next xs mid x new more m)

  -- so far: these bytes came, and were read as requests, whatever follows; what answers them was put, and no write failed
  pub record Begun (count : ℕ) (old now : S) (first before : Given) (held : List ℕ) (p q : Outlet) : Type 0 where
    pub more : List ℕ
    pub exchanges : List Exchange
    pub came : before.bytes ≡ first.bytes ++ more
    pub counted : length exchanges ≡ count
    pub stand : (tail : List ℕ) → Stand (more ++ tail) (asked_in exchanges) (held ++ tail)
    pub awaited : Awaited first [] (asked_in exchanges) before held
    pub calls : ℕ
    pub took : Took calls 0 0 first before
    pub few : calls ≤ read_limit * count
    pub answered : Answered answers old exchanges now
    pub on : AllGoOn 0 exchanges
    pub grew : Grew p.sink q.sink
    pub went : all_put q ≡ all_put p ++ exchanges_text 0 exchanges
    pub well : q.sink.failures ≡ p.sink.failures
    pub sound : q.waiting.failed ≡ false

  pub begun_none : (old : S) (first : Given) (held : List ℕ) (p : Outlet) → held ≡ [] → p.waiting.failed ≡ false → Begun 0 old old first first held p p
  begun_none old first held p empty sound = record {
    more = [];
    exchanges = [];
    came = sym (append-nil first.bytes);
    counted = refl;
    stand = λ tail. ap (λ t. t ++ tail) (sym empty);
    awaited = (refl, empty);
    calls = 0;
    took = took_none first;
    few = omega arith;
    answered = refl;
    on = tt;
    grew = grew_none p.sink;
    went = sym (append-nil (all_put p));
    well = refl;
    sound = sound;
  }

  pub begun_more : (count : ℕ) (old now new : S) (first before after : Given) (held held2 : List ℕ) (p q q2 : Outlet) (o : Option Ended)
      → Begun count old now first before held p q → Turned answers 0 count now before after held held2 q q2 new o → o ≡ None
      → Begun (count + 1) old new first after held2 p q2
  begun_more count old now new first before after held held2 p q q2 o b (inr (s, kept)) none =
      let no = or_none q2.waiting.failed (Some s.e) o none s.outcome_is in
      let bad : Some s.e ≡ None = no.1 in cc
  begun_more count old now new first before after held held2 p q q2 o b (inl x) none =
      let goes = or_none q2.waiting.failed (end_after count x.exchange) o none x.outcome_is in
      let k : count ≡ 0 + length b.exchanges = omega (arith, b.counted) in
      let w = went_well 1 q.waiting.failed q2.waiting.failed q q2 (exchange_text count x.exchange) b.sound goes.0 x.puts.went in
      let n = x.awaits.few in
      let m = b.few in
      record {
        more = b.more ++ x.more;
        exchanges = b.exchanges ++ x.exchange ∷ [];
        came = x.awaits.came_is ∙ ap (λ u. u ++ x.more) b.came ∙ append_assoc first.bytes b.more x.more;
        counted = length_push b.exchanges x.exchange ∙ ap (λ u. u + 1) b.counted;
        stand = λ tail. stand_more b.exchanges x.exchange b.more x.more held held2 tail (b.stand (x.more ++ tail)) (x.begins tail);
        awaited =
            let P : List Asked → Type 0 = λ t. Awaited first [] t after held2 in
            let here = begins_now held x.more held2 x.exchange.asked x.begins in
            subst P (sym (asked_push b.exchanges x.exchange))
            (awaited_push first [] (asked_in b.exchanges) before held after x.more held2 x.exchange.asked b.awaited x.awaits here);
        calls = b.calls + x.awaits.count;
        took = took_more b.took x.awaits.took;
        few = omega (arith, n, m);
        answered = answered_push old b.exchanges now x.exchange new b.answered x.makes;
        on = on_push 0 b.exchanges x.exchange b.on (ap (λ u. end_after u x.exchange) (sym k) ∙ goes.1);
        grew = grew_also b.grew x.puts.grew;
        went = w.0 ∙ put_all p q b.exchanges x.exchange count b.counted b.went;
        well = w.1 ∙ b.well;
        sound = goes.0;
      }

  -- a run that ends at a request
  ends_at : (count : ℕ) (old now new : S) (first before after : Given) (held held2 : List ℕ) (p q q2 : Outlet) (e : Ended)
      → (b : Begun count old now first before held p q) (x : Exchanges answers 0 count now before after held held2 q q2 new (Some e)) → count < 1000
      → (f : Bool) → f ≡ q2.waiting.failed → Some e ≡ or_fault f (end_after count x.exchange)
      → EndsOr (b.exchanges ++ x.exchange ∷ []) false (b.more ++ x.more) (held2 ++ []) [] e × (read_faults e ≡ 0) × (e ≡ end.Turns → ⊥)
      × WentAll f p q2 (b.exchanges ++ x.exchange ∷ []) [] e
  ends_at count old now new first before after held held2 p q q2 e b x low false f_is is =
      let k : count ≡ 0 + length b.exchanges = omega (arith, b.counted) in
      let w = wants_memory x.exchange.reply in
      let c = closes_after count x.exchange.asked in
      let by = never_by w c e is in
      let calm = quiet e by in
      let xs = b.exchanges ++ x.exchange ∷ [] in
      let went = went_well 1 q.waiting.failed q2.waiting.failed q q2 (exchange_text count x.exchange) b.sound (sym f_is) x.puts.went in (
        ends_or xs false (b.more ++ x.more) (held2 ++ []) [] e calm.2
            (ends_last xs (b.more ++ x.more) (held2 ++ []) e by (last_push 0 b.exchanges x.exchange e b.on (ap (λ u. end_after u x.exchange) (sym k) ∙ sym is))),
        calm.0,
        calm.1,
        (
          went.0 ∙ put_all p q b.exchanges x.exchange count b.counted b.went ∙ ap (λ t. all_put p ++ t) (sym (append-nil (exchanges_text 0 xs))),
          went.1 ∙ b.well,
          calm.2,
          λ same. absurd (calm.3 same),
        ),
      )
  ends_at count old now new first before after held held2 p q q2 e b x low true f_is is =
      let k : count ≡ 0 + length b.exchanges = omega (arith, b.counted) in
      let e_is : e ≡ end.WriteFault = some_same is in
      let xs = b.exchanges ++ x.exchange ∷ [] in
      let P : Ended → Type 0 = λ t. EndsOr xs false (b.more ++ x.more) (held2 ++ []) [] t in
      let Q : Ended → Type 0 = λ t. (read_faults t ≡ 0) × (t ≡ end.Turns → ⊥) in
      let calm = subst Q (sym e_is) fault_quiet in
      let W : Bool → Type 0 = λ t. Went 1 false t q q2 (exchange_text count x.exchange) in
      let went = subst W (sym f_is) (went_from 1 q.waiting.failed q2.waiting.failed q q2 (exchange_text count x.exchange) b.sound x.puts.went) in
      let all = put_all p q b.exchanges x.exchange count b.counted b.went ∙ ap (λ t. all_put p ++ t) (sym (append-nil (exchanges_text 0 xs))) in
      let last : exchange_text count x.exchange ≡ last_text 0 xs = ap (λ n. exchange_text n x.exchange) k ∙ sym (last_text_push 0 b.exchanges x.exchange) in
      let short = went.1 in
      let size = ap length last in (
        subst P (sym e_is) (at_request b.exchanges x.exchange (b.more ++ x.more) (held2 ++ []) count k b.on (wants_memory x.exchange.reply) (closes_after count x.exchange.asked) refl),
        calm.0,
        calm.1,
        (
          went.0,
          record { failed_at = sym all ∙ went.2.failed_at },
          inr (refl, omega (arith, short, size)),
          went.3 ∙ ap (λ n. n + 1) b.well,
          e_is,
        ),
      )
    where
      some_same : {a b : Ended} → Some a ≡ Some b → a ≡ b
      some_same e = cc

  -- or before one
  stops_at : (count : ℕ) (old now : S) (first before after : Given) (held : List ℕ) (p q q2 : Outlet) (e : Ended)
      → (b : Begun count old now first before held p q) (s : Stopped 0 before after held q q2 (Some e))
      → (f : Bool) → f ≡ q2.waiting.failed → Some e ≡ or_fault f (Some s.e)
      → EndsOr b.exchanges s.ended (b.more ++ s.more) (held ++ s.more) s.all e × Reads first after b.exchanges s.ended e × WentAll f p q2 b.exchanges s.all e
  stops_at count old now first before after held p q q2 e b s false f_is is =
      let same : e ≡ s.e = (or_is false e s.e is).0 refl in
      let went = went_well 0 q.waiting.failed q2.waiting.failed q q2 s.all b.sound (sym f_is) s.puts.went in
      let how = ends_stopped q2.waiting b.exchanges s.ended (b.more ++ s.more) (held ++ s.more) s.all s.e b.on s.stops in
      let other = no_write q2.waiting s.ended (held ++ s.more) s.all s.e (sym f_is) s.stops in
      let P : Ended → Type 0 = λ t. EndsOr b.exchanges s.ended (b.more ++ s.more) (held ++ s.more) s.all t in
      let Q : Ended → Type 0 = λ t. Reads first after b.exchanges s.ended t in
      let N : Ended → Type 0 = λ t. t ≡ end.WriteFault → ⊥ in
      let I : Ended → Type 0 = λ t. t ≡ end.ReadFault → q2.waiting.bytes ≡ [] in (
        subst P (sym same) (how.2 other),
        subst Q (sym same) (reads_then first before after b.exchanges count b.calls held s.more s.ended s.e b.awaited s.awaits b.counted b.took b.few (λ t. let k = s.turns t in let r = s.awaits.took.reads_are in omega (arith, k, r))),
        (
          went.0 ∙ ap (λ t. t ++ s.all) b.went ∙ append_assoc (all_put p) (exchanges_text 0 b.exchanges) s.all,
          went.1 ∙ b.well,
          subst N (sym same) other,
          subst I (sym same) (idle q2.waiting s.ended (held ++ s.more) s.all s.e s.stops),
        ),
      )
    where
      no_write : (w : Waiting) (ended : Bool) (text all : List ℕ) (e : Ended) → w.failed ≡ false → Stops w ended text all e → e ≡ end.WriteFault → ⊥
      no_write w ended text all end.WriteFault sound s is = let no : true ≡ false = sym s.2 ∙ sound in cc
      no_write w ended text all end.Closed sound s is = cc
      no_write w ended text all end.ReadFault sound s is = cc
      no_write w ended text all end.Turns sound s is = cc
      no_write w ended text all (end.Refused status) sound s is = cc
      no_write w ended text all end.NoMemory sound s is = cc

      idle : (w : Waiting) (ended : Bool) (text all : List ℕ) (e : Ended) → Stops w ended text all e → e ≡ end.ReadFault → w.bytes ≡ []
      idle w ended text all end.ReadFault s is = s.3
      idle w ended text all end.WriteFault s is = cc
      idle w ended text all end.Closed s is = cc
      idle w ended text all end.Turns s is = cc
      idle w ended text all (end.Refused status) s is = cc
      idle w ended text all end.NoMemory s is = cc
  stops_at count old now first before after held p q q2 e b s true f_is is =
      let same : e ≡ end.WriteFault = (or_is true e s.e is).1 refl in
      let how = ends_stopped q2.waiting b.exchanges s.ended (b.more ++ s.more) (held ++ s.more) s.all s.e b.on s.stops in
      let W : Bool → Type 0 = λ t. Went 0 false t q q2 s.all in
      let went = subst W (sym f_is) (went_from 0 q.waiting.failed q2.waiting.failed q q2 s.all b.sound s.puts.went) in
      let all : all_put q ++ s.all ≡ all_put p ++ (exchanges_text 0 b.exchanges ++ s.all) = ap (λ t. t ++ s.all) b.went ∙ append_assoc (all_put p) (exchanges_text 0 b.exchanges) s.all in
      let P : Ended → Type 0 = λ t. EndsOr b.exchanges s.ended (b.more ++ s.more) (held ++ s.more) s.all t in
      let Q : Ended → Type 0 = λ t. Reads first after b.exchanges s.ended t in
      let read = reads_then first before after b.exchanges count b.calls held s.more s.ended s.e b.awaited s.awaits b.counted b.took b.few (λ t. let k = s.turns t in let r = s.awaits.took.reads_are in omega (arith, k, r)) in
      let short = went.1 in (
        subst P (sym same) (how.0, how.1),
        subst Q (sym same) (reads_anyway first after b.exchanges s.ended s.e (no_read q2.waiting s.ended (held ++ s.more) s.all s.e (sym f_is) s.stops) read),
        (
          went.0,
          record { failed_at = sym all ∙ went.2.failed_at },
          inl (omega (arith, short)),
          went.3 ∙ ap (λ n. n + 1) b.well,
          same,
        ),
      )
    where
      no_read : (w : Waiting) (ended : Bool) (text all : List ℕ) (e : Ended) → w.failed ≡ true → Stops w ended text all e → read_faults e ≡ 0
      no_read w ended text all end.ReadFault bad s = let no : true ≡ false = sym bad ∙ s.4 in cc
      no_read w ended text all end.WriteFault bad s = refl
      no_read w ended text all end.Closed bad s = refl
      no_read w ended text all end.Turns bad s = refl
      no_read w ended text all (end.Refused status) bad s = refl
      no_read w ended text all end.NoMemory bad s = refl

  pub begun_ends : (count : ℕ) (old now new : S) (first before after : Given) (held held2 : List ℕ) (p q q2 : Outlet) (e : Ended)
      → count < 1000 → Begun count old now first before held p q → Turned answers 0 count now before after held held2 q q2 new (Some e)
      → Ran answers old first after p q2 new e
  begun_ends count old now new first before after held held2 p q q2 e low b (inl x) =
      let how = ends_at count old now new first before after held held2 p q q2 e b x low q2.waiting.failed refl x.outcome_is in
      let read = reads_at first before after b.exchanges count b.calls x.exchange held x.more held2 e b.awaited x.awaits
      (begins_now held x.more held2 x.exchange.asked x.begins) b.counted b.took b.few how.1 how.2 in
      let n = x.awaits.few in
      let m = b.few in
      let r = x.awaits.took.reads_are in
      let r2 = b.took.reads_are in
      record {
        exchanges = b.exchanges ++ x.exchange ∷ [];
        text = b.more ++ x.more;
        rest = held2 ++ [];
        closing = [];
        ended = false;
        came = x.awaits.came_is ∙ ap (λ u. u ++ x.more) b.came ∙ append_assoc first.bytes b.more x.more;
        stand = stand_here b.exchanges x.exchange b.more x.more held held2 b.stand x.begins;
        answered = answered_push old b.exchanges now x.exchange new b.answered x.makes;
        ends = how.0;
        reads = read;
        few = omega (arith, n, m, r, r2, low);
        grew = grew_also b.grew x.puts.grew;
        went = how.3;
      }
  begun_ends count old now new first before after held held2 p q q2 e low b (inr (s, kept)) =
      let how = stops_at count old now first before after held p q q2 e b s q2.waiting.failed refl s.outcome_is in
      let P : S → Type 0 = λ u. Answered answers old b.exchanges u in
      let n = s.awaits.few in
      let m = b.few in
      let r = s.awaits.took.reads_are in
      let r2 = b.took.reads_are in
      record {
        exchanges = b.exchanges;
        text = b.more ++ s.more;
        rest = held ++ s.more;
        closing = s.all;
        ended = s.ended;
        came = s.awaits.came_is ∙ ap (λ u. u ++ s.more) b.came ∙ append_assoc first.bytes b.more s.more;
        stand = b.stand s.more;
        answered = subst P (sym kept) b.answered;
        ends = how.0;
        reads = how.1;
        few = omega (arith, n, m, r, r2, low);
        grew = grew_also b.grew s.puts.grew;
        went = how.2;
      }
