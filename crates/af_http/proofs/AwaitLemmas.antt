-- A head is awaited, and then its body; texts that read the same.
use Rattle.std.proofs.Common.{◌≡◌, ◌≤◌, ◌+◌, inl, inr, arith, ℕ, Bool, List, [], ◌∷◌, ◌++◌, take, sum, refl, sym, ap, ◌∙◌, subst, Option, Some, None}
use Rattle.std.specs.Prelude.{IfSome}
use Rattle.std.proofs.lemmas.List.{append-nil, append_assoc}
use Rattle.af_http.specs.Limits.{read_limit}
use Rattle.af_http.specs.Streams.{Given, Waiting, Took, EachWhile}
use Rattle.af_http.specs.Fronts.{front_of}
use Rattle.af_http.specs.Extents.{open_front}
use Rattle.af_http.specs.Gathering.{Holds, ends_of, failures_of}
use Rattle.af_http.specs.Requests.{Asked}
use Rattle.af_http.specs.Reading.{Begins, Cut, IsRefused, IsOpen}
use Rattle.af_http.specs.Reads.{Awaits}
use Rattle.af_http.specs.Turns.{Stops, AwaitsHead}
use Rattle.af_http.proofs.StreamLemmas.{took_none, took_more, each_none, each_more}
use Rattle.af_http.specs.declared.gathering.Gathered.{Gathered}
use Rattle.af_http.specs.declared.refusal.Refusal.{Refusal}
use Rattle.af_http.specs.declared.ended.Ended.{Ended}
use Rattle.af_http.specs.declared.ended.Ended.TheVariants as end

-- what is held reads as the text does, whatever follows
pub front_now : (before after : Given) (held more held' : List ℕ) → Holds before after held held' more → front_of (held ++ more) ≡ front_of held'
front_now before after held more held' s = ap front_of (sym (append-nil (held ++ more))) ∙ s.same [] ∙ ap front_of (append-nil held')

is_open : (text u : List ℕ) → front_of text ≡ open_front u → IsOpen text
is_open text [] e = inl e
is_open text (b ∷ u) e = inr (inl e)

pub open_now : (before after : Given) (held more held' : List ℕ) → Holds before after held held' more → front_of held' ≡ open_front held' → IsOpen (held ++ more)
open_now before after held more held' s e = is_open (held ++ more) held' (front_now before after held more held' s ∙ e)

-- texts that read the same
cut_same : (t u : List ℕ) (head_only : Bool) → front_of u ≡ front_of t → Cut t head_only → Cut u head_only
cut_same t u head_only e x = record {
  head = x.head;
  parsed = x.parsed;
  after = x.after;
  size = x.size;
  framed = e ∙ x.framed;
  parses = x.parses;
  sized = x.sized;
  short = x.short;
  method = x.method;
}

open_same : (t u : List ℕ) → front_of u ≡ front_of t → IsOpen t → IsOpen u
open_same t u e (inl x) = inl (e ∙ x)
open_same t u e (inr (inl x)) = inr (inl (e ∙ x))
open_same t u e (inr (inr (h, x))) = inr (inr (h, cut_same t u h e x))

refused_same : (t u : List ℕ) (refusal : Refusal) → front_of u ≡ front_of t → IsRefused t refusal → IsRefused u refusal
refused_same t u refusal e (inl (x, is)) = inl (e ∙ x, is)
refused_same t u refusal e (inr (inl (head, after, x, bad))) = inr (inl (head, after, e ∙ x, bad))
refused_same t u refusal e (inr (inr (inl (x, is)))) = inr (inr (inl (e ∙ x, is)))
refused_same t u refusal e (inr (inr (inr (h, x, is)))) = inr (inr (inr (h, cut_same t u h e x, is)))

pub begins_same : (t u : List ℕ) (asked : Asked) (rest : List ℕ) → front_of u ≡ front_of t → Begins t asked rest → Begins u asked rest
begins_same t u asked rest e x = record {
  head = x.head;
  parsed = x.parsed;
  after = x.after;
  size = x.size;
  framed = e ∙ x.framed;
  parses = x.parses;
  sized = x.sized;
  fits = x.fits;
  asks = x.asks;
  rest_is = x.rest_is;
}

pub stops_same : (w : Waiting) (ended : Bool) (t u all : List ℕ) (e : Ended) → front_of u ≡ front_of t → Stops w ended t all e → Stops w ended u all e
stops_same w ended t u all end.Closed f (x, s, n) = (f ∙ x, s, n)
stops_same w ended t u all end.ReadFault f (x, s, n, i, k) = (open_same t u f x, s, n, i, k)
stops_same w ended t u all end.Turns f (x, s, n) = (open_same t u f x, s, n)
stops_same w ended t u all (end.Refused status) f (refusal, x, s, n, k) = (refusal, refused_same t u refusal f x, s, n, k)
stops_same w ended t u all end.WriteFault f s = s
stops_same w ended t u all end.NoMemory f s = s

-- where nothing is awaited
pub awaits_none : (used : ℕ) (r : Given) (left : List ℕ) → used ≤ read_limit → Awaits used 0 0 r r left []
awaits_none used r left few =
    record { count = 0; took = took_none r; few = omega (arith, few); came_is = sym (append-nil r.bytes); needed = each_none (λ brought. IsOpen (left ++ brought)) r }

awaits_as : (r : Given) (left : List ℕ) (e f : ℕ) → e ≡ 0 → f ≡ 0 → (a : Awaits 0 e f r r left []) × (a.count ≡ 0)
awaits_as r left e f p q =
    let P : ℕ → Type 0 = λ t. (a : Awaits 0 t f r r left []) × (a.count ≡ 0) in
    let Q : ℕ → Type 0 = λ t. (a : Awaits 0 0 t r r left []) × (a.count ≡ 0) in
    let none : (a : Awaits 0 0 0 r r left []) × (a.count ≡ 0) = (
      record { count = 0; took = took_none r; few = omega arith; came_is = sym (append-nil r.bytes); needed = each_none (λ brought. IsOpen (left ++ brought)) r },
      refl,
    ) in
    subst P (sym p) (subst Q (sym q) none)

-- what stands at the front is known without a read
pub not_gathered : (r : Given) (held settled : List ℕ) (o : Option Gathered) (found : Gathered) → IfSome o (λ g. g ≡ found) → ends_of found ≡ 0 → failures_of found ≡ 0
    → ((tail : List ℕ) → front_of (held ++ tail) ≡ front_of (settled ++ tail)) → AwaitsHead o 0 r r held settled
not_gathered r held settled None found is none fine same = (refl, same)
not_gathered r held settled (Some g) found is none fine same =
    let a = awaits_as r held (ends_of g) (failures_of g) (ap ends_of is ∙ none) (ap failures_of is ∙ fine) in (
      [],
      a.0,
      a.1,
      record { came = sym (append-nil r.bytes); same = λ tail. ap (λ (t : List ℕ). front_of (t ++ tail)) (append-nil held) ∙ same tail },
    )

-- or it is read on, from less than a head
pub gathered_more : (before after : Given) (held settled now : List ℕ) (g : Gathered) (n : ℕ) → ((tail : List ℕ) → front_of (held ++ tail) ≡ front_of (settled ++ tail))
    → (more : List ℕ) × Holds before after settled now more × EachWhile (λ brought. IsOpen (settled ++ brought)) before after more
    → Took n (ends_of g) (failures_of g) before after → n ≤ read_limit
    → AwaitsHead (Some g) n before after held now
gathered_more before after held settled now g n same (more, h, each) took few = (
  more,
  record {
    count = n;
    took = took;
    few = omega (arith, few);
    came_is = h.came;
    needed = λ earlier later k is.
        let brought = take (sum earlier) more in
        open_same (settled ++ brought) (held ++ brought) (same brought) (each earlier later k is);
  },
  refl,
  record {
    came = h.came;
    same = λ tail.
        ap front_of (append_assoc held more tail) ∙ same (more ++ tail) ∙ ap front_of (sym (append_assoc settled more tail)) ∙ h.same tail;
  },
)

-- what is held reads as the text does, with more behind
pub front_on : (before mid : Given) (held more held' came tail : List ℕ) → Holds before mid held held' more → front_of ((held ++ (more ++ came)) ++ tail) ≡ front_of ((held' ++ came) ++ tail)
front_on before mid held more held' came tail h =
    ap (λ (t : List ℕ). front_of (t ++ tail)) (sym (append_assoc held more came))
    ∙ ap front_of (append_assoc (held ++ more) came tail)
    ∙ h.same (came ++ tail)
    ∙ ap front_of (sym (append_assoc held' came tail))

pub front_on_now : (before mid : Given) (held more held' came : List ℕ) → Holds before mid held held' more → front_of (held ++ (more ++ came)) ≡ front_of (held' ++ came)
front_on_now before mid held more held' came h =
    ap front_of (sym (append-nil (held ++ (more ++ came)))) ∙ front_on before mid held more held' came [] h ∙ ap front_of (append-nil (held' ++ came))

-- a head was awaited, and then its body
pub awaits_both : (used ends failures : ℕ) (before mid after : Given) (held held' more came : List ℕ) → (a : Awaits 0 0 0 before mid held more) → a.count ≡ used
    → Holds before mid held held' more → (b : Awaits used ends failures mid after held' came) → (x : Awaits 0 ends failures before after held (more ++ came)) × (x.count ≡ used + b.count)
awaits_both used ends failures before mid after held held' more came a is h b =
    let few = b.few in (
      record {
        count = a.count + b.count;
        took = took_more a.took b.took;
        few = omega (arith, few, is);
        came_is = b.came_is ∙ ap (λ t. t ++ came) a.came_is ∙ append_assoc before.bytes more came;
        needed = each_more (λ brought. IsOpen (held ++ brought)) more came a.took a.came_is b.took a.needed (λ earlier later k is.
            let brought = take (sum earlier) came in
            open_same (held' ++ brought) (held ++ (more ++ brought)) (front_on_now before mid held more held' brought h) (b.needed earlier later k is));
      },
      ap (λ k. k + b.count) is,
    )
