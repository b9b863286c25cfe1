-- A turn over the bytes that are held is one over the text.
use Rattle.std.proofs.Common.{◌≡◌, ◌+◌, inl, inr, arith, ℕ, Bool, true, false, List, [], ◌++◌, length, take, drop, refl, sym, ap, ◌∙◌, subst, Option, Some}
use Rattle.std.proofs.lemmas.List.{append-nil, append_assoc, length-append, take-append-le, drop-append-le, drop-drop}
use Rattle.af_ops.specs.declared.call.Call.{Call}
use Rattle.af_ops.specs.declared.served.Served.{Served}
use Rattle.af_http.specs.Streams.{Given, one_if}
use Rattle.af_http.specs.Fronts.{whole, front_of}
use Rattle.af_http.specs.Gathering.{IsGathered}
use Rattle.af_http.specs.Requests.{asked_by}
use Rattle.af_http.specs.Reading.{Parses, IsUnread, refusal_text, status_of}
use Rattle.af_http.specs.Reads.{Awaits, read_faults}
use Rattle.af_http.specs.Sending.{Outlet, all_put, Went, Puts}
use Rattle.af_http.specs.Turns.{AwaitsHead, Messages, Turned}
use Rattle.af_http.proofs.SendLemmas.{put_also, grew_also}
use Rattle.af_http.specs.declared.handled.Handled.TheVariants.{Over}
use Rattle.af_http.specs.declared.gathering.Gathered.TheVariants as gathered
use Rattle.af_http.specs.declared.ended.Ended.{Ended}
use Rattle.af_http.specs.declared.ended.Ended.TheVariants as end
use Rattle.af_http.proofs.AwaitLemmas.{begins_same, stops_same, awaits_both, front_on, front_on_now}

-- a text was put after nothing, where no write failed
went_then : (some : ℕ) (f g h : Bool) (p q r : Outlet) (a : List ℕ) → g ≡ false → Went 0 f g p q [] → Went some g h q r a → Went some f h p r a
went_then some false false false p q r a sound x y = (y.0 ∙ ap (λ t. t ++ a) (x.0 ∙ append-nil (all_put p)), y.1 ∙ x.1)
went_then some false false true p q r a sound x (left, short, broke, n) = (
  left,
  short,
  record { failed_at = ap (λ t. t ++ a) (sym (x.0 ∙ append-nil (all_put p))) ∙ broke.failed_at },
  n ∙ ap (λ k. k + 1) x.1,
)
went_then some true false h p q r a sound x y = absurd x
went_then some f true h p q r a sound x y = cc

pub put_then : {some : ℕ} {p q r : Outlet} {a : List ℕ} → Puts 0 p q [] → q.waiting.failed ≡ false → Puts some q r a → Puts some p r a
put_then {some} {p} {q} {r} {a} x sound y = record {
  enough = y.enough;
  grew = grew_also x.grew y.grew;
  went = went_then some p.waiting.failed q.waiting.failed r.waiting.failed p q r a sound x.went y.went;
}

module _ {S : Type 0} (answers : S → Option (List ℕ) → Call → Served → S → Type 0) where
  -- a message is held, with its body
  pub message_turn : (used count : ℕ) (old : S) (before after : Given) (held more held2 : List ℕ) (p q r : Outlet) (new : S) (n total : ℕ) (o : Option Ended)
      → IsGathered held (gathered.Head n) → held2 ≡ held ++ more → Awaits used 0 0 before after held more → Puts 0 p q [] → q.waiting.failed ≡ false
      → Messages answers count old held2 n q r new (Over o total)
      → Turned answers used count old before after held (drop total held2) p r new o
  message_turn used count old before after held more held2 p q r new n total o found is a x sound (inl (h, m, parses, sized, fits, total_is, b)) =
      let within = found.0 in
      let size = ap length is ∙ length-append held more in
      let rest : drop n held2 ≡ drop n held ++ more = ap (drop n) is ∙ drop-append-le n held more within in
      let head : take n held2 ≡ take n held = ap (take n) is ∙ take-append-le n held more within in
      let P : List ℕ → Type 0 = λ t. Parses t h in
      inl (record {
        more = more;
        exchange = b.exchange;
        awaits = a;
        begins = λ tail. record {
          head = take n held;
          parsed = h;
          after = drop n held2 ++ tail;
          size = m;
          framed = ap front_of (append_assoc held more tail) ∙ found.2 (more ++ tail) ∙ ap (whole (take n held)) (sym (append_assoc (drop n held) more tail) ∙ ap (λ t. t ++ tail) (sym rest));
          parses = subst P head parses;
          sized = sized;
          fits = let k = length-append (drop n held2) tail in omega (arith, fits, k);
          asks = b.asks ∙ ap (asked_by h) (sym (take-append-le m (drop n held2) tail fits));
          rest_is = ap (λ t. t ++ tail) (ap (λ k. drop k held2) total_is ∙ sym (drop-drop m n held2)) ∙ sym (drop-append-le m (drop n held2) tail fits);
        };
        makes = b.makes;
        puts = put_then x sound b.puts;
        outcome_is = b.outcome_is;
      })
  message_turn used count old before after held more held2 p q r new n total o found is a x sound (inr (b, total_is)) =
      let within = found.0 in
      let head : take n held2 ≡ take n held = ap (take n) is ∙ take-append-le n held more within in
      let P : List ℕ → Type 0 = λ t. IsUnread t b.refusal in
      inr (
        record {
          more = more;
          ended = false;
          all = refusal_text b.refusal;
          e = end.Refused (status_of b.refusal);
          awaits = a;
          stops = (b.refusal, inr (inl (take n held, drop n held ++ more, found.2 more, subst P head b.bad)), sym b.early, refl, refl);
          puts = put_also x b.puts;
          outcome_is = b.outcome_is;
          turns = λ e. cc;
        },
        b.kept,
      )

  -- a turn over what is held after its head was awaited
  pub turned_after : (used count : ℕ) (old : S) (before mid after : Given) (held held' left : List ℕ) (p q r : Outlet) (new : S) (n : ℕ) (o : Option Ended)
      → AwaitsHead (Some (gathered.Head n)) used before mid held held' → Puts 0 p q [] → q.waiting.failed ≡ false → Turned answers used count old mid after held' left q r new o
      → Turned answers 0 count old before after held left p r new o
  turned_after used count old before mid after held held' left p q r new n o (more, a, is, h) x sound (inl b) = inl (record {
    more = more ++ b.more;
    exchange = b.exchange;
    awaits = (awaits_both used 0 0 before mid after held held' more b.more a is h b.awaits).0;
    begins = λ tail. begins_same ((held' ++ b.more) ++ tail) ((held ++ (more ++ b.more)) ++ tail) b.exchange.asked (left ++ tail) (front_on before mid held more held' b.more tail h) (b.begins tail);
    makes = b.makes;
    puts = put_then x sound b.puts;
    outcome_is = b.outcome_is;
  })
  turned_after used count old before mid after held held' left p q r new n o (more, a, is, h) x sound (inr (s, kept)) =
      let both = awaits_both used (one_if s.ended) (read_faults s.e) before mid after held held' more s.more a is h s.awaits in
      inr (
        record {
          more = more ++ s.more;
          ended = s.ended;
          all = s.all;
          e = s.e;
          awaits = both.0;
          stops = stops_same r.waiting s.ended (held' ++ s.more) (held ++ (more ++ s.more)) s.all s.e (front_on_now before mid held more held' s.more h) s.stops;
          puts = put_also x s.puts;
          outcome_is = s.outcome_is;
          turns = λ e. let k = s.turns e in let n = both.1 in omega (arith, k, n);
        },
        kept,
      )
