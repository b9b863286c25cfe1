-- A turn that answers no request: the run ends there.
use Rattle.std.proofs.Common.{◌≡◌, ◌≤◌, ◌+◌, ◌<◌, inl, inr, arith, ℕ, Bool, true, false, List, [], ◌++◌, length, take, drop, sum, refl, sym, ap, ◌∙◌, subst, Option, Some}
use Rattle.std.specs.Prelude.{Result, Ok}
use Rattle.std.proofs.lemmas.List.{length-append, length-drop, take-append-le}
use Rattle.httparse.specs.Grammar.{RequestHead, ReadsRequest}
use Rattle.httparse.proofs.GrammarLemmas.{request_unique}
use Rattle.af_http.specs.Limits.{read_limit}
use Rattle.af_http.specs.Streams.{Given, Took, EachWhile, one_if}
use Rattle.af_http.specs.Gathering.{Fills, Holds, IsGathered, ends_of, failures_of, body_ends, body_failures}
use Rattle.af_http.specs.Requests.{Asked, body_length, is_head}
use Rattle.af_http.specs.Replies.{reply_text, wants_memory}
use Rattle.af_http.specs.Reading.{Cut, IsOpen, Parses, closes_after, refusal_text, status_of}
use Rattle.af_http.specs.Run.{exchange_text, end_by, end_after}
use Rattle.af_http.specs.Reads.{Awaits, read_faults}
use Rattle.af_http.specs.Sending.{Outlet, Puts}
use Rattle.af_http.specs.Turns.{or_fault, Stops, AwaitsHead, WantsBody, Stopped}
use Rattle.af_http.proofs.SendLemmas.{put_nothing, put_also}
use Rattle.af_http.specs.declared.gathering.BodyGathered.{BodyGathered}
use Rattle.af_http.specs.declared.gathering.Gathered.{Gathered}
use Rattle.af_http.specs.declared.gathering.Gathered.TheVariants as gathered
use Rattle.af_http.specs.declared.reply.Reply.{Reply}
use Rattle.af_http.specs.declared.refusal.Refusal.TheVariants.{Incomplete, HeadTooLarge}
use Rattle.af_http.specs.declared.ended.Ended.{Ended}
use Rattle.af_http.specs.declared.ended.Ended.TheVariants as end
use Rattle.af_http.proofs.AwaitLemmas.{front_now, open_now, awaits_none}

both : {A B C : Type 0} (f : A → B → C) {a b : A} {x y : B} → a ≡ b → x ≡ y → f a x ≡ f b y
both f {a} {b} {x} {y} p q = ap (λ t. f t x) p ∙ ap (f b) q

-- the text of a reply and the end after it, by what the code found
pub text_is : (asked : Asked) (reply : Reply) (count : ℕ) (h c : Bool) → h ≡ is_head asked.method → c ≡ closes_after count asked
    → reply_text reply h c ≡ exchange_text count (record { asked = asked; reply = reply })
text_is asked reply count h c p q = both (reply_text reply) p q

pub end_is : (asked : Asked) (reply : Reply) (count : ℕ) (failed : Bool) (o e : Option Ended) (w c : Bool) → o ≡ or_fault failed e → e ≡ end_by w c
    → w ≡ wants_memory reply → c ≡ closes_after count asked → o ≡ or_fault failed (end_after count (record { asked = asked; reply = reply }))
end_is asked reply count failed o e w c k p q r = k ∙ ap (or_fault failed) (p ∙ both end_by q r)

pub or_fine : (failed : Bool) (o : Option Ended) → failed ≡ false → o ≡ or_fault failed o
or_fine false o e = refl
or_fine true o e = cc

or_failed : (failed : Bool) (o : Option Ended) → failed ≡ true → Some end.WriteFault ≡ or_fault failed o
or_failed true o e = refl
or_failed false o e = cc

-- no request is answered, and a refusal or nothing is put
pub stops_so : (before after : Given) (held held' : List ℕ) (p q r : Outlet) (g : Gathered) (n : ℕ) (ended : Bool) (all : List ℕ) (e : Ended) (o : Option Ended)
    → AwaitsHead (Some g) n before after held held' → ends_of g ≡ one_if ended → failures_of g ≡ read_faults e
    → ((more : List ℕ) → Holds before after held held' more → Stops r.waiting ended (held ++ more) all e)
    → Puts 0 p q [] → Puts 0 q r all → o ≡ or_fault r.waiting.failed (Some e) → (e ≡ end.Turns → n ≡ read_limit)
    → Stopped 0 before after held p r o
stops_so before after held held' p q r g n ended all e o (more, a, is_n, h) ends fails stops x y is turns =
    let P : ℕ → Type 0 = λ t. (b : Awaits 0 t (failures_of g) before after held more) × (b.count ≡ n) in
    let Q : ℕ → Type 0 = λ t. (b : Awaits 0 (one_if ended) t before after held more) × (b.count ≡ n) in
    let b = subst Q fails (subst P ends (a, is_n)) in
    let same = b.1 in
    record {
      more = more;
      ended = ended;
      all = all;
      e = e;
      awaits = b.0;
      stops = stops more h;
      puts = put_also x y;
      outcome_is = is;
      turns = λ t. let k = turns t in omega (arith, k, same);
    }

pub large_stops : (before after : Given) (held held' : List ℕ) (p q r : Outlet) (n : ℕ) (o : Option Ended) → AwaitsHead (Some gathered.Large) n before after held held'
    → IsGathered held' gathered.Large → Puts 0 p q [] → Puts 0 q r (refusal_text HeadTooLarge) → o ≡ or_fault r.waiting.failed (Some (end.Refused (status_of HeadTooLarge)))
    → Stopped 0 before after held p r o
large_stops before after held held' p q r n o a found x y is =
    stops_so before after held held' p q r gathered.Large n false (refusal_text HeadTooLarge) (end.Refused (status_of HeadTooLarge)) o a refl refl
    (λ more h. (HeadTooLarge, inl (front_now before after held more held' h ∙ found, refl), refl, refl, refl)) x y is (λ e. cc)

pub incomplete_stops : (before after : Given) (held held' : List ℕ) (p q r : Outlet) (n : ℕ) (o : Option Ended) → AwaitsHead (Some gathered.Incomplete) n before after held held'
    → IsGathered held' gathered.Incomplete → Puts 0 p q [] → Puts 0 q r (refusal_text (Incomplete false)) → o ≡ or_fault r.waiting.failed (Some (end.Refused (status_of (Incomplete false))))
    → Stopped 0 before after held p r o
incomplete_stops before after held held' p q r n o a found x y is =
    stops_so before after held held' p q r gathered.Incomplete n true (refusal_text (Incomplete false)) (end.Refused (status_of (Incomplete false))) o a refl refl
    (λ more h. (Incomplete false, inr (inr (inl (front_now before after held more held' h ∙ found, refl))), refl, refl, refl)) x y is (λ e. cc)

pub closed_stops : (before after : Given) (held held' : List ℕ) (p q : Outlet) (n : ℕ) → AwaitsHead (Some gathered.Closed) n before after held held'
    → IsGathered held' gathered.Closed → Puts 0 p q [] → q.waiting.failed ≡ false → Stopped 0 before after held p q (Some end.Closed)
closed_stops before after held held' p q n a found x sound =
    stops_so before after held held' p q q gathered.Closed n true [] end.Closed (Some end.Closed) a refl refl
    (λ more h. (front_now before after held more held' h ∙ found, refl, refl)) x (put_nothing q) (or_fine q.waiting.failed (Some end.Closed) sound) (λ e. cc)

pub fault_stops : (before after : Given) (held held' : List ℕ) (p q : Outlet) (n : ℕ) → AwaitsHead (Some gathered.ReadFailed) n before after held held'
    → IsGathered held' gathered.ReadFailed → Puts 0 p q [] → q.waiting.failed ≡ false → q.waiting.bytes ≡ [] → Stopped 0 before after held p q (Some end.ReadFault)
fault_stops before after held held' p q n a found x sound none =
    stops_so before after held held' p q q gathered.ReadFailed n false [] end.ReadFault (Some end.ReadFault) a refl refl
    (λ more h. (open_now before after held more held' h found, refl, refl, none, sound)) x (put_nothing q) (or_fine q.waiting.failed (Some end.ReadFault) sound) (λ e. cc)

pub turns_stops : (before after : Given) (held held' : List ℕ) (p q : Outlet) (n : ℕ) → AwaitsHead (Some gathered.Turns) n before after held held'
    → IsGathered held' gathered.Turns → Puts 0 p q [] → q.waiting.failed ≡ false → n ≡ read_limit → Stopped 0 before after held p q (Some end.Turns)
turns_stops before after held held' p q n a found x sound many =
    stops_so before after held held' p q q gathered.Turns n false [] end.Turns (Some end.Turns) a refl refl
    (λ more h. (open_now before after held more held' h found, refl, refl)) x (put_nothing q) (or_fine q.waiting.failed (Some end.Turns) sound) (λ e. many)

-- a write failed before anything was awaited
pub write_stops : (used : ℕ) (before after : Given) (held : List ℕ) (p q : Outlet) → used ≤ read_limit → after ≡ before → Puts 0 p q [] → q.waiting.failed ≡ true
    → Stopped used before after held p q (Some end.WriteFault)
write_stops used before after held p q few same x failed =
    let P : Given → Type 0 = λ t. Awaits used 0 0 before t held [] in
    record {
      more = [];
      ended = false;
      all = [];
      e = end.WriteFault;
      awaits = subst P (sym same) (awaits_none used before held few);
      stops = (refl, refl, failed);
      puts = x;
      outcome_is = or_failed q.waiting.failed (Some end.WriteFault) failed;
      turns = λ e. cc;
    }

-- one head says one length
same_length : (a b : List ℕ) (h k : RequestHead) (n m : ℕ) → a ≡ b → Parses a h → Parses b k → body_length h ≡ Ok n → body_length k ≡ Ok m → n ≡ m
same_length a b h k n m e x y p q =
    let P : List ℕ → Type 0 = λ t. ReadsRequest t h [] in
    let same = (request_unique b h k [] [] (subst P e x.0) y.0).0 in
    ok_one p (ap body_length same ∙ q)
  where
    ok_one : {A B : Type 0} {a b : A} {r : Result A B} → r ≡ Ok a → r ≡ Ok b → a ≡ b
    ok_one p q = let e = sym p ∙ q in cc

-- the body of a held head is cut, whatever came of it
cut_held : (held more held2 : List ℕ) (n length_is : ℕ) (head_only : Bool) → IsGathered held (gathered.Head n) → WantsBody held n length_is head_only → held2 ≡ held ++ more
    → length held2 < n + length_is → Cut (held ++ more) head_only
cut_held held more held2 n length_is head_only found w is short =
    let size = length-append held more in
    let size2 = ap length is in
    let left = length-append (drop n held) more in
    let dropped = length-drop n held in
    let within = found.0 in
    record {
      head = take n held;
      parsed = w.parsed;
      after = drop n held ++ more;
      size = length_is;
      framed = found.2 more;
      parses = w.parses;
      sized = w.sized;
      short = omega (arith, size, size2, left, dropped, within, short);
      method = w.method;
    }

-- each read of a body was made while it was cut
body_needed : (before after : Given) (held more : List ℕ) (n length_is : ℕ) (head_only : Bool) → IsGathered held (gathered.Head n) → WantsBody held n length_is head_only
    → EachWhile (λ brought. length (held ++ brought) < n + length_is) before after more → EachWhile (λ brought. IsOpen (held ++ brought)) before after more
body_needed before after held more n length_is head_only found w each earlier later k is =
    let brought = take (sum earlier) more in
    inr (inr (head_only, cut_held held brought (held ++ brought) n length_is head_only found w refl (each earlier later k is)))

-- the input ended within a body, a read failed, or there were too many
pub body_stops : (used : ℕ) (before after : Given) (held held2 : List ℕ) (p q r : Outlet) (n length_is count : ℕ) (head_only : Bool) (g : BodyGathered) (ended : Bool) (all : List ℕ) (e : Ended) (o : Option Ended)
    → (more : List ℕ) × Fills before after held held2 more × EachWhile (λ brought. length (held ++ brought) < n + length_is) before after more
    → IsGathered held (gathered.Head n) → WantsBody held n length_is head_only → length held2 < n + length_is
    → Took count (body_ends g) (body_failures g) before after → used + count ≤ read_limit → body_ends g ≡ one_if ended → body_failures g ≡ read_faults e
    → ((text : List ℕ) → Cut text head_only → Stops r.waiting ended text all e) → Puts 0 p q [] → Puts 0 q r all → o ≡ or_fault r.waiting.failed (Some e)
    → (e ≡ end.Turns → used + count ≡ read_limit) → Stopped used before after held p r o
body_stops used before after held held2 p q r n length_is count head_only g ended all e o (more, f, each) found w short took few ends fails stops x y is turns =
    let cut = cut_held held more held2 n length_is head_only found w f.kept short in
    let P : ℕ → Type 0 = λ t. Took count t (body_failures g) before after in
    let Q : ℕ → Type 0 = λ t. Took count (one_if ended) t before after in
    record {
      more = more;
      ended = ended;
      all = all;
      e = e;
      awaits = record {
        count = count;
        took = subst Q fails (subst P ends took);
        few = few;
        came_is = f.came;
        needed = body_needed before after held more n length_is head_only found w each;
      };
      stops = stops (held ++ more) cut;
      puts = put_also x y;
      outcome_is = is;
      turns = turns;
    }

-- a body was read whole
pub body_awaits : (used : ℕ) (before after : Given) (held held2 more : List ℕ) (n length_is count : ℕ) (head_only : Bool) → Fills before after held held2 more
    → EachWhile (λ brought. length (held ++ brought) < n + length_is) before after more → IsGathered held (gathered.Head n) → WantsBody held n length_is head_only → Took count 0 0 before after → used + count ≤ read_limit → Awaits used 0 0 before after held more
body_awaits used before after held held2 more n length_is count head_only f each found w took few =
    record { count = count; took = took; few = few; came_is = f.came; needed = body_needed before after held more n length_is head_only found w each }

-- the same head is not short again, where its body is whole
pub never_short : (held more held2 : List ℕ) (n length_is m : ℕ) (head_only again : Bool) → IsGathered held (gathered.Head n)
    → held2 ≡ held ++ more → WantsBody held n length_is head_only → n + length_is ≤ length held2 → WantsBody held2 n m again → ⊥
never_short held more held2 n length_is m head_only again found is w whole_is s =
    let within = found.0 in
    let head : take n held2 ≡ take n held = ap (take n) is ∙ take-append-le n held more within in
    let size = ap length is ∙ length-append held more in
    let one = same_length (take n held) (take n held2) w.parsed s.parsed length_is m (sym head) w.parses s.parses w.sized s.sized in
    let short = s.short in
    let dropped = length-drop n held2 in
    absurd (omega (arith, one, short, dropped, whole_is, size, within))
