-- What sessions have seen after a look, and after one has seen all entries.
use Rattle.std.proofs.Common.{◌≡◌, ◌≢◌, ◌∙◌, inl, inr, refl, sym, ap, subst, ℕ, ◌≤◌, ◌<◌, List, [], ◌∷◌, ◌++◌, Bool, true, false, cond, ◌==◌, max, length, arith}
use Rattle.std.specs.Prelude.{Option, Some, None, option_to_list, slice_set, unwrap_or, if◌then◌else◌}
use Rattle.std.proofs.lemmas.Bool.Decides.{Decides-eqb, not_from_Decides}
use Rattle.af_sched.specs.State.{StateRows}
use Rattle.af_ops.specs.declared.shown_answer.Shown.{Shown}
use Rattle.af_audit.specs.Ledgers.{Climb}
use Rattle.af_audit.proofs.LedgerLemmas.{ledger_looked}
use Rattle.af_world.specs.declared.session.Seen.{Seen}
use Rattle.af_world.specs.declared.step.Step.{Step}
use Rattle.af_world.specs.declared.step.Step.TheVariants as step
use Rattle.af_world.specs.Asked.{acts}
use Rattle.af_world.specs.Laws.{IsAsSeen}
use Rattle.af_world.specs.Moving.{looked, move_of, tells}
use Rattle.af_world.specs.Runs.{session_of, told_by}
use Rattle.af_world.specs.Worlds.{World, frees, is_held, last_version, seen_by, sees, sees_entries}
use Rattle.af_world.proofs.SeenLemmas.{seen, seen_set}
use Rattle.af_world.proofs.ToldLemmas.{Names}
use Rattle.af_world.proofs.WorldLemmas.{Goes, IsWorld, either}

-- a later version in sight bounds what is seen
pub seen_below : (xs : List Seen) (i n : ℕ) (x : Seen) → i < length xs → ((t : ℕ) → seen xs t ≤ n) → x.version ≤ n → (t : ℕ) → seen (slice_set xs i x) t ≤ n
seen_below xs i n x lt below here t =
    elim (seen_set xs i t x lt) as (λ _. seen (slice_set xs i x) t ≤ n) [
      | inl p ↦ (let e = p.1 in omega arith)
      | inr p ↦ (let e = p.1 in let b = below t in omega arith)
    ]

-- what a session has seen after a version came in sight
abbrev pub sight : World → ℕ → ℕ → Seen
sight w s v = record { version = max (seen_by w s).version v; entries = (seen_by w s).entries }

pub goes_look : (opening : StateRows) (w : World) (s : ℕ) → IsWorld opening w → s < length w.sessions → Goes opening w (step.Look s) (move_of None (looked w s))
goes_look opening w s kept lt =
    let plane = kept.plane in
    let b = kept.sights s in
    record {
      kept = record {
        opens = kept.opens;
        plane = omega arith;
        sights = seen_below w.sessions s (last_version w) (sight w s (last_version w)) lt kept.sights (omega arith);
        held = λ t h. elim (seen_set w.sessions s t (sight w s (last_version w)) lt) [
          | inl p ↦ (let e = p.1 in omega arith)
          | inr p ↦ absurd (p.0 ((Decides-eqb s t).0 h))
        ];
        ledger = ledger_looked w.ledger (last_version w) kept.ledger plane;
        state = kept.state;
        granted = kept.granted;
        follow = kept.follow;
      };
      climbs = λ t. elim (seen_set w.sessions s t (sight w s (last_version w)) lt) [
        | inl p ↦ (let e = p.1 in let b = kept.sights t in (omega arith, tt))
        | inr p ↦ (let e = p.1 in (omega arith, tt))
      ];
      as_seen = λ t shown e of. absurd (cc);
    }

-- no session has seen another version after one has seen all entries
pub same_sights : (w : World) (s t n : ℕ) → s < length w.sessions → seen (slice_set w.sessions s (record { version = (seen_by w s).version; entries = n })) t ≡ seen w.sessions t
same_sights w s t n lt =
    elim (seen_set w.sessions s t (record { version = (seen_by w s).version; entries = n }) lt) [
      | inl p ↦ p.1 ∙ ap (seen w.sessions) p.0
      | inr p ↦ p.1
    ]

-- a session has seen all entries, and nobody holds
pub kept_entries : (opening : StateRows) (w : World) (s : ℕ) → IsWorld opening w → w.holder ≡ None → s < length w.sessions → IsWorld opening (sees_entries w s)
kept_entries opening w s kept free lt = record {
  opens = kept.opens;
  plane = kept.plane;
  sights = λ t. rw (same_sights w s t (length w.ledger.audit.entries) lt) (kept.sights t);
  held = λ t h. let none : is_held None t ≡ true = subst (λ (o : Option ℕ). is_held o t ≡ true) free h in absurd (cc);
  ledger = kept.ledger;
  state = kept.state;
  granted = kept.granted;
  follow = kept.follow;
}

-- ---- a session is told a version

-- the hold that is left is another's
held_other : (holder : Option ℕ) (s t : ℕ) (own : Bool) → is_held holder s ≡ own → is_held (cond own None holder) t ≡ true → (is_held holder t ≡ true) × (s ≢ t)
held_other holder s t true is h = absurd (cc)
held_other holder s t false is h = (h, λ e. let q : is_held holder t ≡ false = subst (λ (u : ℕ). is_held holder u ≡ false) e is in absurd (cc))

pub kept_told : (opening : StateRows) (w : World) (s v : ℕ) → IsWorld opening w → s < length w.sessions → v ≤ last_version w → IsWorld opening (frees (sees w s v) s)
kept_told opening w s v kept lt below = record {
  opens = kept.opens;
  plane = kept.plane;
  sights = seen_below w.sessions s (last_version w) (sight w s v) lt kept.sights (let b = kept.sights s in omega arith);
  held = λ t h.
      let other = held_other w.holder s t (is_held w.holder s) refl h in
      let now = kept.held t other.0 in
      elim (seen_set w.sessions s t (sight w s v) lt) [ inl p ↦ absurd (other.1 p.0) | inr p ↦ p.1 ∙ now ];
  ledger = kept.ledger;
  state = kept.state;
  granted = kept.granted;
  follow = kept.follow;
}

-- a session that is told a version, no earlier than what it had seen, has then seen it
told_climbs : (w : World) (s t v : ℕ) (x : Step) (answer : Option Shown) → session_of x ≡ Some s → Names v answer → s < length w.sessions → seen w.sessions s ≤ v → Climb (seen w.sessions t) (told_by t x answer ++ seen (sees w s v).sessions t ∷ [])
told_climbs w s t v x None of names lt le =
    elim (seen_set w.sessions s t (sight w s v) lt) [
      | inl p ↦ (let q = p.1 in let u : seen w.sessions s ≡ seen w.sessions t = ap (seen w.sessions) p.0 in (omega arith, tt))
      | inr p ↦ (let q = p.1 in (omega arith, tt))
    ]
told_climbs w s t v x (Some shown) of names lt le =
    subst (λ (o : Option ℕ). Climb (seen w.sessions t) ((if is_held o t then option_to_list shown.version else []) ++ seen (sees w s v).sessions t ∷ [])) (sym of)
    (either (λ (vs : List ℕ). Climb (seen w.sessions t) (vs ++ seen (sees w s v).sessions t ∷ [])) (s == t) (option_to_list shown.version) []
    (λ own.
    let e = (Decides-eqb s t).0 own in
    subst (λ (o : Option ℕ). Climb (seen w.sessions t) (option_to_list o ++ seen (sees w s v).sessions t ∷ [])) (sym names)
    (elim (seen_set w.sessions s t (sight w s v) lt) [
      | inl p ↦ (let q = p.1 in let u : seen w.sessions s ≡ seen w.sessions t = ap (seen w.sessions) e in (omega arith, (omega arith, tt)))
      | inr p ↦ absurd (p.0 e)
    ]))
    (λ other. elim (seen_set w.sessions s t (sight w s v) lt) [
      | inl p ↦ absurd (not_from_Decides (s == t) (Decides-eqb s t) other p.0)
      | inr p ↦ (let q = p.1 in (omega arith, tt))
    ]))

-- two names of one session
pub same_session : (x : Step) (s t : ℕ) → session_of x ≡ Some s → session_of x ≡ Some t → s ≡ t
same_session x s t one other = ap (λ (o : Option ℕ). unwrap_or o s) (sym one ∙ other)

-- it is told so as it has seen, to no act
told_as_seen : (w : World) (s t v : ℕ) (x : Step) (shown : Shown) → acts x ≡ false → s ≡ t → shown.version ≡ Some v → s < length w.sessions → seen w.sessions s ≤ v → IsAsSeen w x t shown (frees (sees w s v) s)
told_as_seen w s t v x shown quiet same names lt le =
    elim (seen_set w.sessions s t (sight w s v) lt) as (λ _. IsAsSeen w x t shown (frees (sees w s v) s)) [
      | inl p ↦
          (let q = p.1 in
          let u : seen w.sessions s ≡ seen w.sessions t = ap (seen w.sessions) same in
          let low : seen w.sessions t ≤ v = omega arith in
          let here : seen (sees w s v).sessions t ≡ v = omega arith in
          record { version = v; names = names; later = low; seen = here; looked = λ yes. (let both : false ≡ true = sym quiet ∙ yes in absurd (cc)) })
      | inr p ↦ absurd (p.0 same)
    ]

-- the session is told a version that it sees, and holds no more
pub goes_told : (opening : StateRows) (w : World) (s v : ℕ) (x : Step) (answer : Option Shown) → session_of x ≡ Some s → acts x ≡ false → Names v answer → IsWorld opening w → s < length w.sessions → v ≤ last_version w → seen w.sessions s ≤ v → Goes opening w x (tells w s v answer)
goes_told opening w s v x answer of quiet names kept lt below le = record {
  kept = kept_told opening w s v kept lt below;
  climbs = λ t. told_climbs w s t v x answer of names lt le;
  as_seen = λ t shown e here. told_as_seen w s t v x shown quiet (same_session x s t of here) (subst (Names v) e names) lt le;
}
