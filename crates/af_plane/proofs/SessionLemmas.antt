-- What a session holds after a change of the policy.
use Rattle.std.proofs.Common.{◌≡◌, ◌∙◌, refl, sym, ap, subst, ℕ, ◌<◌, ◌≤◌, ◌+◌, List, [], Bool, true, nat_le, length, arith}
use Rattle.std.specs.Prelude.{Option, Some, None, Result, Ok, Err, IsOk, IfOk, IfErr, IfSome, if◌then◌else◌}
use mathlib.Core.List.{IsPrefix}
use Rattle.af_prefixes.proofs.PrefixLemmas.{prefix_get, prefix_length}
use Rattle.af_word.specs.Places.{Sight}
use Rattle.std.proofs.lemmas.Bool.{le-leb}
use Rattle.af_policy.specs.declared.ask.Ask.{Ask}
use Rattle.af_policy.specs.declared.ask.Ask.TheVariants as ask
use Rattle.af_policy.specs.declared.change.Change.{Change}
use Rattle.af_policy.specs.declared.refusal.Refusal.{Refusal}
use Rattle.af_policy.specs.declared.refusal.Refusal.TheVariants as fault
use Rattle.af_policy.specs.Changes.{changed, kind_of, needs_of}
use Rattle.af_policy.specs.Grants.{missing}
use Rattle.af_policy.specs.Identity.{bearer_of}
use Rattle.af_policy.specs.Rows.{PolicyRows}
use Rattle.af_policy.specs.Versions.{decided}
use Rattle.af_ops.specs.declared.policy_op.PolicyOp.TheVariants as asks
use Rattle.af_ops.specs.declared.served.Served.{Served}
use Rattle.af_ops.specs.declared.served.Served.TheVariants as served
use Rattle.af_ops.specs.PolicyFaults.{submit_problem}
use Rattle.af_ops.specs.PolicyServed.{reply_at}
use Rattle.af_ops.specs.PolicyTexts.{change_text}
use Rattle.af_ops.specs.PolicyUnder.{IsToldUnder, with_room}
use Rattle.af_ops.specs.PolicyVerdicts.{Refuses, asked_text, change_verdict}
use Rattle.af_board.specs.declared.fault.NotFound.{NotFound}
use Rattle.af_board.specs.declared.submit_fault.SubmitFault.{SubmitFault}
use Rattle.af_board.specs.declared.submit_fault.SubmitFault.TheVariants as board
use Rattle.af_board.specs.Drafted.{Drafted, Received}
use Rattle.af_board.specs.Drafts.{IsDraft, IsReceipt, Publishes}
use Rattle.af_board.specs.Faults.{Explains, MovedPast, mark_of}
use Rattle.af_board.specs.Marks.{HasSeen, IsLast, IsOf, Marked, Site, policy_of}
use Rattle.af_plane.specs.declared.grounds.Grounds.{Grounds}
use Rattle.af_plane.specs.declared.grounds.Grounds.TheVariants as grounds
use Rattle.af_plane.specs.Administered.{IsGiven, IsGivenOn, IsMade, IsRefused, IsToldIn}
use Rattle.af_plane.specs.Looks.{HasSame, IsOn, base_of, held}
use Rattle.af_plane.specs.Visits.{Visit}
use Rattle.af_plane.proofs.AskedLemmas.{decided_ok}

-- ---- what is refused

-- a change is refused under a version for what is decided there
pub refused_in : (site : Site) (token : Option (List ℕ)) (asked : Ask) (gave : Served) (now : Visit) (m : Marked) (why : Refusal) → IsLast site now.pass m → decided (policy_of site m) token asked ≡ Err why → IsToldUnder m.version (Refuses (submit_problem asked why)) gave → IsToldIn site token (asks.Change asked) gave now m
refused_in site token asked gave now m why last is told = record {
  last = last;
  told = subst (λ (comes : Result PolicyRows Refusal). IsToldUnder m.version (change_verdict m.version asked (with_room m.version site.word.last comes)) gave) (sym is) told;
}

no_room : (version last : ℕ) → version ≡ last → nat_le last version ≡ true
no_room version last same = le-leb last version (omega (arith, same))

full_so : (version last : ℕ) (asked : Ask) (gave : Served) (comes : Result PolicyRows Refusal) → version ≡ last → IsOk comes → IsToldUnder version (Refuses (submit_problem asked fault.Full)) gave → IsToldUnder version (change_verdict version asked (with_room version last comes)) gave
full_so version last asked gave (Ok policy) same is told =
    subst (λ (b : Bool). IsToldUnder version (change_verdict version asked (if b then Err fault.Full else Ok policy)) gave) (sym (no_room version last same)) told
full_so version last asked gave (Err why) same is told = absurd (cc)

-- or for it being the last possible one
pub full_in : (site : Site) (token : Option (List ℕ)) (asked : Ask) (gave : Served) (now : Visit) (m : Marked) → IsLast site now.pass m → IsOk (decided (policy_of site m) token asked) → m.version ≡ site.word.last → IsToldUnder m.version (Refuses (submit_problem asked fault.Full)) gave → IsToldIn site token (asks.Change asked) gave now m
full_in site token asked gave now m last is same told = record {
  last = last;
  told = full_so m.version site.word.last asked gave (decided (policy_of site m) token asked) same is told;
}

-- ---- what is made

is_ok : {X E : Type 0} (comes : Result X E) (x : X) → comes ≡ Ok x → IsOk comes
is_ok (Ok y) x is = refl
is_ok (Err why) x is = cc

-- the change of a draft is permitted to its author
pub permitted : (site : Site) (d : Drafted) (token : Option (List ℕ)) (asked : Ask) → IsDraft site d → asked ≡ ask.Made d.change → bearer_of (policy_of site d.base) token ≡ Some d.author → IsOk (decided (policy_of site d.base) token asked)
permitted site d token asked draft is author =
    subst (λ (it : Ask). IsOk (decided (policy_of site d.base) token it)) (sym is)
    (is_ok _ d.pushed.value (decided_ok (policy_of site d.base) d.pushed.value d.change token d.author author draft.lacks_nothing draft.made))

module _ (site : Site) (d : Drafted) (r : Received) (draft : IsDraft site d) (published : Publishes site d r) where
  -- the base's policy is that of the draft
  same_base : policy_of site r.base ≡ policy_of site d.base
  same_base = ap (policy_of site) published.base

  receipt_of : IsReceipt site r
  receipt_of = record {
    base = subst (IsOf site) (sym published.base) draft.base;
    mark = published.mark;
    version = published.version ∙ ap (λ (m : Marked). m.version + 1) (sym published.base);
    lacks_nothing = ap (λ (p : PolicyRows). missing p r.author (needs_of (kind_of r.change)) None []) same_base
        ∙ ap (λ (a : List ℕ). missing (policy_of site d.base) a (needs_of (kind_of r.change)) None []) published.author
        ∙ ap (λ (c : Change). missing (policy_of site d.base) d.author (needs_of (kind_of c)) None []) published.change ∙ draft.lacks_nothing;
    made = ap (λ (p : PolicyRows). changed p r.change) same_base ∙ ap (changed (policy_of site d.base)) published.change ∙ draft.made ∙ ap Ok (sym published.policy);
  }

  -- what was made of a draft of what was asked, and told
  pub made_of : (token : Option (List ℕ)) (asked : Ask) (gave : Served) (now : Visit) (version : ℕ) (reply : Option (List ℕ)) → asked ≡ ask.Made d.change → bearer_of (policy_of site d.base) token ≡ Some d.author → IsLast site now.pass r.mark → version ≡ d.base.version + 1 → reply ≡ asked_text version d.pushed.value asked → gave ≡ served.Shown (reply_at r.mark.version reply) → IsMade site token (asks.Change asked) gave now r
  made_of token asked gave now version reply is author last number text told =
      let change : asked ≡ ask.Made r.change = is ∙ ap ask.Made (sym published.change) in
      let base : r.base.version ≡ d.base.version = ap (λ (m : Marked). m.version) published.base in
      let counted : version ≡ r.mark.version = number ∙ sym published.version in
      record {
        receipt = receipt_of;
        room = omega (arith, base, draft.room);
        last = last;
        author = ap (λ (p : PolicyRows). bearer_of p token) same_base ∙ author ∙ ap Some (sym published.author);
        is_asked = ap asks.Change change;
        told = told ∙ ap (λ (t : Option (List ℕ)). served.Shown (reply_at r.mark.version t))
            (text ∙ ap (asked_text version d.pushed.value) change
            ∙ ap (λ (v : ℕ). change_text v d.pushed.value r.change) counted
            ∙ ap (λ (p : PolicyRows). change_text r.mark.version p r.change) (sym published.policy));
      }

-- ---- what was asked

pub no_earlier : (was now : List ℕ) (version : ℕ) → IsPrefix was now → length now ≡ version + 1 → length was ≤ version + 1
no_earlier was now version longer ends = omega (arith, prefix_length was now longer, ends)

-- ---- on a board

module _ (site : Site) (was now : Visit) (word : now.pass.word ≡ site.word) where
  -- what was held is still, where more was seen
  pub still_on : IsOn site was → IsPrefix was.pass.places now.pass.places → now.grounds ≡ was.grounds → IsOn site now
  still_on on longer same = record {
    word = word;
    mark = subst (λ (g : Grounds). IsOf site (held g)) (sym same) on.mark;
    seen = subst (λ (g : Grounds). HasSeen now.pass (held g)) (sym same) (prefix_get was.pass.places now.pass.places _ _ longer on.seen);
  }

  -- the last that was seen is held
  pub last_on : IsLast site now.pass (held now.grounds) → IsOn site now
  last_on last = record { word = word; mark = last.0; seen = last.1.place }

  -- after a change without a draft
  pub refused_on : (token : Option (List ℕ)) (asked : Ask) (error : SubmitFault) (gave : Result Served NotFound) → IsOn site was → IsPrefix was.pass.places now.pass.places → IfOk gave (λ it. IsRefused site token asked it now error) → IfErr gave (λ _. (now.grounds ≡ was.grounds) × (error ≡ board.NotFound)) → IsOn site now
  refused_on token asked error (Ok it) on longer refused missed = last_on refused.last
  refused_on token asked error (Err why) on longer refused missed = still_on on longer missed.0

  -- a refusal rests on what the session holds then
  pub refused_given : (token : Option (List ℕ)) (asked : Ask) (error : SubmitFault) (gave : Result Served NotFound) → IsPrefix was.pass.places now.pass.places → now.pass.deeds ≡ was.pass.deeds → was.pass.steps < now.pass.steps → IfSome (mark_of error) (λ m. HasSame site was.grounds m) → IfOk gave (λ it. IsRefused site token asked it now error) → IfOk gave (λ it. IsGivenOn site token (asks.Change asked) was it now now.grounds)
  refused_given token asked error (Ok it) longer quiet looked same refused = record {
    held = refl;
    since = no_earlier was.pass.places now.pass.places (base_of now.grounds).version longer (subst (λ (m : Marked). length now.pass.places ≡ m.version + 1) refused.base refused.last.1.last);
    same = subst (λ (o : Option Marked). IfSome o (λ m. HasSame site was.grounds m)) refused.mark same;
    deeds = omega (arith, quiet, refused.none_made);
    looked = looked;
    given = refused.given;
  }
  refused_given token asked error (Err why) longer quiet looked same refused = tt

-- the mark of an error is of the board, and seen
pub explained_mark : (site : Site) (token : Option (List ℕ)) (asked : Ask) (pass : Sight) (error : SubmitFault) → Explains site token asked pass error → IfSome (mark_of error) (λ m. IsOf site m × HasSeen pass m)
explained_mark site token asked pass board.NotFound is = tt
explained_mark site token asked pass (board.Unauthenticated m) is = (is.0.0, is.0.1.place)
explained_mark site token asked pass (board.Denied m need) is = (is.0.0, is.0.1.place)
explained_mark site token asked pass (board.BadBody m input) is = (is.0.0, is.0.1.place)
explained_mark site token asked pass (board.Refused m why) is = (is.0.0, is.0.1.place)
explained_mark site token asked pass (board.Full m spent) is = (is.0.0, is.0.1.place)
explained_mark site token asked pass (board.OutOfMemory m) is = (is.0.0, is.0.1.place)
explained_mark site token asked pass (board.Moved version) is = absurd is

-- a draft that was not published was overtaken by a later version
pub moved_past : (d : Drafted) (pass : Sight) (error : SubmitFault) (version : ℕ) → MovedPast d pass error → length pass.places ≡ version + 1 → d.base.version < version
moved_past d pass board.NotFound version is ends = absurd is
moved_past d pass (board.Unauthenticated m) version is ends = absurd is
moved_past d pass (board.Denied m need) version is ends = absurd is
moved_past d pass (board.BadBody m input) version is ends = absurd is
moved_past d pass (board.Refused m why) version is ends = absurd is
moved_past d pass (board.Full m spent) version is ends = absurd is
moved_past d pass (board.OutOfMemory m) version is ends = absurd is
moved_past d pass (board.Moved last) version is ends = omega (arith, is.0, is.1, ends)

-- a draft was not published: what the session then holds, and what was told
module _ (site : Site) (d : Drafted) (was now : Visit) (error : SubmitFault) (last : IsLast site was.pass d.base) (longer : IsPrefix was.pass.places now.pass.places) (is : now.grounds ≡ grounds.Overtaken d.base) where
  pub overtaken_on : now.pass.word ≡ site.word → IsOn site now
  overtaken_on word = record {
    word = word;
    mark = subst (λ (g : Grounds). IsOf site (held g)) (sym is) last.0;
    seen = subst (λ (g : Grounds). HasSeen now.pass (held g)) (sym is) (prefix_get was.pass.places now.pass.places _ _ longer last.1.place);
  }

  pub overtaken_in : (token : Option (List ℕ)) (asked : Ask) (gave : Served) (version : ℕ) → IsDraft site d → asked ≡ ask.Made d.change → bearer_of (policy_of site d.base) token ≡ Some d.author → MovedPast d now.pass error → length now.pass.places ≡ version + 1 → IsToldUnder version (Refuses (submit_problem asked (fault.Moved version))) gave → IsGiven site token (asks.Change asked) gave now now.grounds
  overtaken_in token asked gave version draft made author moved ends told =
      subst (λ (g : Grounds). IsGiven site token (asks.Change asked) gave now g) (sym is)
      (record {
        base = last.0;
        later = omega (arith, moved_past d now.pass error version moved ends, ends);
        change = asked;
        is_asked = refl;
        permitted = permitted site d token asked draft made author;
        version = version;
        is_last = ends;
        told = told;
      })
