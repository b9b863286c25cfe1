-- A whole run, when all that waits has been written.
use Rattle.std.proofs.Common.{◌≡◌, ◌+◌, inl, ℕ, Bool, true, false, List, [], ◌++◌, refl, sym, ap, ◌∙◌, subst, Option, arith}
use Rattle.std.proofs.lemmas.List.{append-nil, append_assoc, append_cancel_left}
use Rattle.af_ops.specs.declared.call.Call.{Call}
use Rattle.af_ops.specs.declared.served.Served.{Served}
use Rattle.af_http.specs.Streams.{Given, Taken}
use Rattle.af_http.specs.Answers.{memory_text}
use Rattle.af_http.specs.Run.{Exchange, exchanges_text, EndsOr, IsWritten, write_faults, IsMemoryText}
use Rattle.af_http.specs.Reads.{Reads, read_faults}
use Rattle.af_http.specs.Connections.{Connects}
use Rattle.af_http.specs.Sending.{Outlet, all_put, Broke, Went, Puts}
use Rattle.af_http.specs.Turns.{WentAll, Ran}
use Rattle.af_http.proofs.SendLemmas.{grew_also}
use Rattle.af_http.proofs.ReadLemmas.{reads_none, reads_anyway}
use Rattle.af_http.specs.declared.ended.Ended.{Ended}
use Rattle.af_http.specs.declared.ended.Ended.TheVariants as end
use Rattle.af_http.proofs.EndLemmas.{or_ends}

module _ {S : Type 0} (answers : S → Option (List ℕ) → Call → Served → S → Type 0) where
  -- the whole text was written
  all_written : (xs : List Exchange) (closing : List ℕ) (w : Taken) (out : List ℕ) (e : Ended) → (e ≡ end.WriteFault → ⊥) → out ≡ exchanges_text 0 xs ++ closing
      → IsWritten e xs closing w out × (write_faults e ≡ 0)
  all_written xs closing w out end.Closed other same = (same, refl)
  all_written xs closing w out end.ReadFault other same = (same, refl)
  all_written xs closing w out (end.Refused status) other same = (same, refl)
  all_written xs closing w out end.Turns other same = (same, refl)
  all_written xs closing w out end.NoMemory other same = (same, refl)
  all_written xs closing w out end.WriteFault other same = absurd (other refl)

  -- where none waits, what was put from a start on is what was taken
  taken_all : (p r : Outlet) (out text : List ℕ) → p.waiting.bytes ≡ [] → r.waiting.bytes ≡ [] → all_put r ≡ all_put p ++ text → r.sink.bytes ≡ p.sink.bytes ++ out → out ≡ text
  taken_all p r out text none left all took =
      append_cancel_left p.sink.bytes out text (
      sym took
      ∙ sym (append-nil r.sink.bytes)
      ∙ ap (λ t. r.sink.bytes ++ t) (sym left)
      ∙ all
      ∙ ap (λ t. (p.sink.bytes ++ t) ++ text) none
      ∙ ap (λ t. t ++ text) (append-nil p.sink.bytes))

  -- or was given to a write that failed
  given_all : (p : Outlet) (r : Taken) (out text left : List ℕ) → p.waiting.bytes ≡ [] → Broke r (all_put p ++ text) left → r.bytes ≡ p.sink.bytes ++ out
      → text ≡ out ++ (r.refused ++ left)
  given_all p r out text left none broke took =
      append_cancel_left p.sink.bytes text (out ++ (r.refused ++ left)) (
      ap (λ t. t ++ text) (sym (append-nil p.sink.bytes))
      ∙ ap (λ t. (p.sink.bytes ++ t) ++ text) (sym none)
      ∙ broke.failed_at
      ∙ ap (λ t. t ++ (r.refused ++ left)) took
      ∙ append_assoc p.sink.bytes out (r.refused ++ left))

  -- a whole run, when all that waits has been written
  pub connects_fine : (old : S) (before after : Given) (p q r : Outlet) (new : S) (e : Ended) → Ran answers old before after p q new e
      → p.waiting.bytes ≡ [] → Puts 0 q r [] → r.waiting.failed ≡ false → r.waiting.bytes ≡ []
      → Connects answers before after p.sink r.sink old new e
  connects_fine old before after p q r new e ran none x sound left = by q.waiting.failed r.waiting.failed sound ran.went x.went
    where
      by : (f g : Bool) → g ≡ false → WentAll f p q ran.exchanges ran.closing e → Went 0 f g q r [] → Connects answers before after p.sink r.sink old new e
      by f true well w v = cc
      by true false well w v = absurd v
      by false false well w v =
          let grew = grew_also ran.grew x.grew in
          let text = exchanges_text 0 ran.exchanges ++ ran.closing in
          let same = taken_all p r grew.more text none left (v.0 ∙ append-nil (all_put q) ∙ w.0) grew.bytes_are in
          let written = all_written ran.exchanges ran.closing r.sink grew.more e w.2 same in
          let fine = v.1 in
          let fine2 = w.1 in
          let zero = written.1 in
          record {
            text = ran.text;
            out = grew.more;
            ended = ran.ended;
            came = ran.came;
            went = grew.bytes_are;
            held = grew.added;
            run = record {
              exchanges = ran.exchanges;
              rest = ran.rest;
              closing = ran.closing;
              stand = ran.stand;
              answered = ran.answered;
              ends = ran.ends;
              written = written.0;
            };
            reads = ran.reads;
            few = ran.few;
            faults = omega (arith, fine, fine2, zero);
          }

  -- or when a write has failed, then or before
  pub connects_fault : (old : S) (before after : Given) (p q r : Outlet) (new : S) (e : Ended) → Ran answers old before after p q new e
      → p.waiting.bytes ≡ [] → Puts 0 q r [] → r.waiting.failed ≡ true → (q.waiting.failed ≡ false → q.waiting.bytes ≡ [] → r.waiting.failed ≡ false)
      → Connects answers before after p.sink r.sink old new end.WriteFault
  connects_fault old before after p q r new e ran none x bad idle = by q.waiting.failed r.waiting.failed refl bad ran.went x.went
    where
      no_read : (e : Ended) → (e ≡ end.ReadFault → ⊥) → read_faults e ≡ 0
      no_read end.ReadFault other = absurd (other refl)
      no_read end.WriteFault other = refl
      no_read end.Closed other = refl
      no_read end.Turns other = refl
      no_read (end.Refused status) other = refl
      no_read end.NoMemory other = refl

      by : (f g : Bool) → q.waiting.failed ≡ f → g ≡ true → WentAll f p q ran.exchanges ran.closing e → Went 0 f g q r [] → Connects answers before after p.sink r.sink old new end.WriteFault
      by f false was well w v = cc
      by true true was well w v =
          let grew = grew_also ran.grew x.grew in
          let text = exchanges_text 0 ran.exchanges ++ ran.closing in
          let B : Taken → Type 0 = λ t. Broke t (all_put p ++ text) w.0 in
          let broke = subst B (sym v) w.1 in
          let P : Ended → Type 0 = λ t. EndsOr ran.exchanges ran.ended ran.text ran.rest ran.closing t in
          let Q : Ended → Type 0 = λ t. Reads before after ran.exchanges ran.ended t in
          record {
            text = ran.text;
            out = grew.more;
            ended = ran.ended;
            came = ran.came;
            went = grew.bytes_are;
            held = grew.added;
            run = record {
              exchanges = ran.exchanges;
              rest = ran.rest;
              closing = ran.closing;
              stand = ran.stand;
              answered = ran.answered;
              ends = subst P w.4 ran.ends;
              written = (w.0, given_all p r.sink grew.more text w.0 none broke grew.bytes_are, w.2);
            };
            reads = subst Q w.4 ran.reads;
            few = ran.few;
            faults = ap (λ (t : Taken). t.failures) v ∙ w.3;
          }
      by false true was well w v =
          let grew = grew_also ran.grew x.grew in
          let text = exchanges_text 0 ran.exchanges ++ ran.closing in
          let all : all_put p ++ text ≡ all_put q ++ [] = sym w.0 ∙ sym (append-nil (all_put q)) in
          let broke : Broke r.sink (all_put p ++ text) v.0 = record { failed_at = all ∙ v.2.failed_at } in
          let calm = no_read e (λ same. let no : true ≡ false = sym bad ∙ idle was (w.3 same) in cc) in
          let short = v.1 in
          record {
            text = ran.text;
            out = grew.more;
            ended = ran.ended;
            came = ran.came;
            went = grew.bytes_are;
            held = grew.added;
            run = record {
              exchanges = ran.exchanges;
              rest = ran.rest;
              closing = ran.closing;
              stand = ran.stand;
              answered = ran.answered;
              ends = or_ends ran.exchanges ran.ended ran.text ran.rest ran.closing e ran.ends;
              written = (v.0, given_all p r.sink grew.more text v.0 none broke grew.bytes_are, inl (omega (arith, short)));
            };
            reads = reads_anyway before after ran.exchanges ran.ended e calm ran.reads;
            few = ran.few;
            faults = v.3 ∙ ap (λ n. n + 1) w.1;
          }

  -- a run without memory to begin with reads nothing
  pub turned_away : (old : S) (r : Given) (a b : Taken) (e : Ended) → IsMemoryText a b e → Connects answers r r a b old old e
  turned_away old r a b end.NoMemory (grew, wrote) =
      let out : grew.more ≡ memory_text = append_cancel_left a.bytes grew.more memory_text (sym grew.bytes_are ∙ wrote.0) in
      let fine = wrote.1 in
      record {
        text = [];
        out = grew.more;
        ended = false;
        came = sym (append-nil r.bytes);
        went = grew.bytes_are;
        held = grew.added;
        run = record { exchanges = []; rest = []; closing = memory_text; stand = refl; answered = refl; ends = (inl (refl, refl, refl), refl); written = out };
        reads = reads_none r end.NoMemory refl (λ e. cc);
        few = omega arith;
        faults = omega (arith, fine);
      }
  turned_away old r a b end.WriteFault (grew, wrote) =
      let out : memory_text ≡ grew.more ++ (b.refused ++ []) =
      append_cancel_left a.bytes memory_text (grew.more ++ (b.refused ++ [])) (
      wrote.0 ∙ ap (λ t. t ++ b.refused) grew.bytes_are ∙ append_assoc a.bytes grew.more b.refused ∙ ap (λ t. a.bytes ++ (grew.more ++ t)) (sym (append-nil b.refused))) in
      record {
        text = [];
        out = grew.more;
        ended = false;
        came = sym (append-nil r.bytes);
        went = grew.bytes_are;
        held = grew.added;
        run = record {
          exchanges = [];
          rest = [];
          closing = memory_text;
          stand = refl;
          answered = refl;
          ends = (end.NoMemory, (inl (refl, refl, refl), refl));
          written = ([], out, inl (omega arith));
        };
        reads = reads_none r end.WriteFault refl (λ e. cc);
        few = omega arith;
        faults = wrote.1;
      }
  turned_away old r a b end.Closed is = absurd is
  turned_away old r a b end.ReadFault is = absurd is
  turned_away old r a b end.Turns is = absurd is
  turned_away old r a b (end.Refused status) is = absurd is
