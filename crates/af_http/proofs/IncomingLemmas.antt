-- The bytes between two places of a buffer, when more are read behind them.
use Rattle.std.proofs.Common.{◌≡◌, ◌+◌, ◌≤◌, ◌<◌, ℕ, List, [], ◌++◌, length, take, drop, sym, ap, ◌∙◌, subst, arith}
use Rattle.std.proofs.lemmas.List.{append-nil, append_assoc, take-append-drop, drop-append-le, length-take-le}
use Rattle.af_http.specs.Streams.{Given, Took, EachWhile}
use Rattle.af_http.specs.Fronts.{front_of}
use Rattle.af_http.specs.Extents.{open_front}
use Rattle.af_http.specs.Gathering.{Fills, Holds}
use Rattle.af_http.specs.Reading.{IsOpen}
use Rattle.af_http.proofs.StreamLemmas.{each_none, each_one, each_more}
use Rattle.af_http.proofs.AwaitLemmas.{open_now}
use Rattle.std.proofs.Math.Seq.{take-append-add}

take_longer : (bytes : List ℕ) (e n : ℕ) → e ≤ length bytes → take (e + n) bytes ≡ take e bytes ++ take n (drop e bytes)
take_longer bytes e n within =
    ap (take (e + n)) (sym (take-append-drop e bytes))
    ∙ ap (λ k. take (k + n) (take e bytes ++ drop e bytes)) (sym (length-take-le e bytes within))
    ∙ take-append-add (take e bytes) (drop e bytes) n

pub fill_more : (old new : List ℕ) (s e n : ℕ) → s ≤ e → e ≤ length new → take e new ≡ take e old
    → drop s (take (e + n) new) ≡ drop s (take e old) ++ take n (drop e new)
fill_more old new s e n ordered within same =
    ap (drop s) (take_longer new e n within)
    ∙ drop-append-le s (take e new) (take n (drop e new)) (omega (arith, length-take-le e new within))
    ∙ ap (λ t. drop s t ++ take n (drop e new)) same

-- more came in another read, and reads as what is held, whatever follows; what was held before was less than a head
pub holds_more : {k ends failures : ℕ} {a b c : Given} {held now new : List ℕ}
    → (more : List ℕ) × Holds a b held now more × EachWhile (λ brought. IsOpen (held ++ brought)) a b more → Took k 0 0 a b
    → front_of now ≡ open_front now → (more : List ℕ) × Holds b c now new more → Took 1 ends failures b c
    → (more : List ℕ) × Holds a c held new more × EachWhile (λ brought. IsOpen (held ++ brought)) a c more
holds_more {k} {ends} {failures} {a} {b} {c} {held} {now} {new} (x, h, each) took unread (y, f) more =
    let still : IsOpen (held ++ (x ++ [])) = subst (λ (t : List ℕ). IsOpen (held ++ t)) (sym (append-nil x)) (open_now a b held x now h unread) in (
      x ++ y,
      record {
        came = f.came ∙ ap (λ t. t ++ y) h.came ∙ append_assoc a.bytes x y;
        same = λ tail.
            ap (λ (t : List ℕ). front_of (t ++ tail)) (sym (append_assoc held x y))
            ∙ ap front_of (append_assoc (held ++ x) y tail)
            ∙ h.same (y ++ tail)
            ∙ ap front_of (sym (append_assoc now y tail))
            ∙ f.same tail;
      },
      each_more (λ brought. IsOpen (held ++ brought)) x y took h.came more each (each_one (λ t. IsOpen (held ++ (x ++ t))) y more still),
    )

-- the same of a body, of which less was held
pub fills_more : {k ends failures wanted : ℕ} {a b c : Given} {held now new : List ℕ}
    → (more : List ℕ) × Fills a b held now more × EachWhile (λ brought. length (held ++ brought) < wanted) a b more → Took k 0 0 a b
    → length now < wanted → (more : List ℕ) × Fills b c now new more → Took 1 ends failures b c
    → (more : List ℕ) × Fills a c held new more × EachWhile (λ brought. length (held ++ brought) < wanted) a c more
fills_more {k} {ends} {failures} {wanted} {a} {b} {c} {held} {now} {new} (x, h, each) took short (y, f) more =
    let still : length (held ++ (x ++ [])) < wanted = subst (λ (t : List ℕ). length t < wanted) (h.kept ∙ ap (λ t. held ++ t) (sym (append-nil x))) short in (
      x ++ y,
      record {
        came = f.came ∙ ap (λ t. t ++ y) h.came ∙ append_assoc a.bytes x y;
        kept = f.kept ∙ ap (λ t. t ++ y) h.kept ∙ append_assoc held x y;
      },
      each_more (λ brought. length (held ++ brought) < wanted) x y took h.came more each (each_one (λ t. length (held ++ (x ++ t)) < wanted) y more still),
    )

-- no more came yet
pub holds_none : (r : Given) (held : List ℕ) → (more : List ℕ) × Holds r r held held more × EachWhile (λ brought. IsOpen (held ++ brought)) r r more
holds_none r held = (
  [],
  record { came = sym (append-nil r.bytes); same = λ tail. ap (λ (t : List ℕ). front_of (t ++ tail)) (append-nil held) },
  each_none (λ brought. IsOpen (held ++ brought)) r,
)

pub fills_none : (wanted : ℕ) (r : Given) (held : List ℕ) → (more : List ℕ) × Fills r r held held more × EachWhile (λ brought. length (held ++ brought) < wanted) r r more
fills_none wanted r held =
    ([], record { came = sym (append-nil r.bytes); kept = sym (append-nil held) }, each_none (λ brought. length (held ++ brought) < wanted) r)
