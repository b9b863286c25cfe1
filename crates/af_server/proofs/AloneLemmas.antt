-- Where a session sees no version but those that it makes, what a desk answers, and what that leaves, is one function of the call and of what
-- its answers depend on.
use Rattle.std.proofs.Common.{◌≡◌, ◌∙◌, refl, sym, ap, subst, ℕ, ◌<◌, ◌+◌, List, [], ◌∷◌, Bool, true, false, length, arith}
use Rattle.std.specs.Prelude.{Option, Some, None, option_map, Result, Ok, Err, if◌then◌else◌}
use Rattle.std.proofs.lemmas.Bool.{lt-leb}
use Rattle.af_policy.specs.Identity.{bearer_of}
use Rattle.af_policy.specs.Rows.{PolicyRows}
use Rattle.af_policy.specs.Versions.{decided}
use Rattle.af_policy.specs.declared.ask.Ask.TheVariants as ask
use Rattle.af_policy.specs.declared.refusal.Refusal.{Refusal}
use Rattle.af_policy.specs.declared.refusal.Refusal.TheVariants as fault
use Rattle.af_ops.specs.declared.call.Call.{Call}
use Rattle.af_ops.specs.declared.call.Call.TheVariants as call
use Rattle.af_ops.specs.declared.endpoint.Endpoint.{Endpoint}
use Rattle.af_ops.specs.declared.op.Op.{Op}
use Rattle.af_ops.specs.declared.policy_op.PolicyOp.{PolicyOp}
use Rattle.af_ops.specs.declared.policy_op.PolicyOp.TheVariants as asks
use Rattle.af_ops.specs.declared.served.Served.{Served}
use Rattle.af_ops.specs.declared.served.Served.TheVariants as served
use Rattle.af_ops.specs.declared.shown_answer.Shown.{Shown}
use Rattle.af_ops.specs.Calls.{unread}
use Rattle.af_ops.specs.Effects.{effect_of, nothing_readable}
use Rattle.af_ops.specs.Endpoints as operations
use Rattle.af_ops.specs.Endpoints.{endpoint_of}
use Rattle.af_ops.specs.PolicyServed.{reply_at}
use Rattle.af_ops.specs.PolicyTexts.{change_text}
use Rattle.af_ops.specs.PolicyUnder.{IsTold, verdict_under, with_room}
use Rattle.af_ops.specs.PolicyVerdicts.{PolicyVerdict, Publishes, Refuses, Tells, change_verdict}
use Rattle.af_ops.specs.Served.{answer_of}
use Rattle.af_ops.specs.Table.{is_open}
use Rattle.af_ops.specs.Verdicts.{judged, opened}
use Rattle.af_audit.specs.Answered.{ledger_left, standing_of, verdict_on}
use Rattle.af_audit.specs.EventLogs.{entries_verdict, nameless}
use Rattle.af_audit.specs.Ledgers as ledgers
use Rattle.af_audit.specs.Ledgers.{LedgerRows}
use Rattle.af_audit.proofs.RequestLemmas.{leave_one}
use Rattle.af_board.specs.Drafted.{Received}
use Rattle.af_board.specs.Marks.{Marked, Site, policy_of}
use Rattle.af_plane.specs.declared.grounds.Grounds.{Grounds}
use Rattle.af_plane.specs.declared.grounds.Grounds.TheVariants.{Made, Overtaken, Spent, Under}
use Rattle.af_plane.specs.Administered.{IsAdministered, IsMade, IsToldIn}
use Rattle.af_plane.specs.Alone.{IsClosed}
use Rattle.af_plane.specs.Looks.{Basis, HasSame, Missed, On, Openly, held, looked}
use Rattle.af_plane.specs.Planes.{Applies}
use Rattle.af_plane.specs.Solos.{IsDecidedBy, first_mark}
use Rattle.af_plane.specs.Turns.{IsActed, IsLeft, IsOpenly, IsPlaced}
use Rattle.af_plane.specs.Visits.{PlaneRows, Visit}
use Rattle.af_plane.proofs.ActLemmas.{open_left}
use Rattle.af_plane.proofs.AskedLemmas.{decided_ok}
use Rattle.af_ops.proofs.UnreadLemmas.{unread_is}
use Rattle.af_http.specs.Laws.{IsFunction, TellsBy}
use Rattle.af_http.specs.Requests.{Asked}
use Rattle.af_http.specs.Run.{Answered, Exchange, Makes, Run}
use Rattle.af_http.specs.Streams.{Taken}
use Rattle.af_http.specs.declared.ended.Ended.{Ended}
use Rattle.af_http.specs.declared.reply.Reply.{Reply}
use Rattle.af_http.specs.declared.reply.Reply.TheVariants as reply
use Rattle.af_http.proofs.LawLemmas.{runs_one}
use Rattle.af_http.proofs.ToldLemmas.{answers_once}
use Rattle.af_server.specs.Alone.{DecidesAlone, HoldsLast, IsOwn, Stand, stand_at, stand_of}
use Rattle.af_server.specs.Configurations.{ConfigurationRows}
use Rattle.af_server.specs.Desks.{DeskRows, IsOpened, asked_at}
use Rattle.af_server.specs.Laws.{DesksAnswerAlike, DesksOpenAlike, OneReading}
use Rattle.af_server.proofs.AnswerLemmas.{policy_unread, told_op, told_policy, unread_told, with_left}

-- ---- what is told of a call, with what is left

abbrev with_ledger : Stand → LedgerRows → Stand
with_ledger at ledger = record at { ledger = ledger }

-- a version more, of this policy
abbrev with_policy : Stand → Option PolicyRows → Stand
with_policy at None = at
with_policy at (Some policy) = record at { version = at.version + 1; policy = policy }

abbrev looked_at : Stand → LedgerRows
looked_at at = looked at.version at.ledger

-- of an operation that is decided on this ledger
abbrev told_on : Stand → Option (List ℕ) → Op → LedgerRows → Option (Shown × Stand)
told_on at token op ledger =
    told_op (with_ledger at) at.policy ledger token at.now op (verdict_on at.policy ledger token op at.now)

abbrev stand_told : Stand → Option (List ℕ) → Call → Option (Shown × Stand)
stand_told at token (call.State op) =
    told_on at token op (if is_open (endpoint_of op) then at.ledger else looked_at at)
stand_told at token (call.Entries window) =
    option_map (with_left (with_ledger at (looked_at at))) (answer_of nameless (standing_of (looked_at at)).under (entries_verdict at.policy (looked_at at) token window))
stand_told at token (call.Policy asked) =
    told_policy (with_policy at) at.version at.last at.policy (verdict_under at.version at.last at.policy token asked)

-- an answer that is told, with what it leaves
told_left : {o : Option Shown} {shown : Shown} (one new : Stand) → o ≡ Some shown → one ≡ new → option_map (with_left one) o ≡ Some (shown, new)
told_left {shown = shown} one new told same =
    ap (option_map (with_left one)) told ∙ ap (λ (d : Stand). Some (shown, d)) same

-- ---- where the body was not read

pub alike_unread : (at : Stand) (token : Option (List ℕ)) (wanted : Call) (p : Shown × Stand) → stand_told at token (unread wanted) ≡ Some p → stand_told at token wanted ≡ Some p
alike_unread at token (call.State op) p told =
    unread_told (with_ledger at) at.policy (if is_open (endpoint_of op) then at.ledger else looked_at at) token at.now op p
    (subst (λ (e : Endpoint). told_on at token (operations.unread op) (if is_open e then at.ledger else looked_at at) ≡ Some p) (unread_is op).endpoint told)
alike_unread at token (call.Entries window) p told = told
alike_unread at token (call.Policy asked) p told = policy_unread (with_policy at) at.version at.last at.policy token p asked told

-- ---- what a desk tells

-- this is told of a call under one mark, and leaves what stands under another
abbrev TellsSo : Stand → Option (List ℕ) → Call → Served → Stand → Type 0
TellsSo at token asked (served.Shown shown) left = stand_told at token asked ≡ Some (shown, left)
TellsSo at token asked served.NothingDone left = Unit {0}

-- what stands under one mark of a version stands under each other
same_stand : (site : Site) (ledger : LedgerRows) (now : ℕ) (m k : Marked) → m.version ≡ k.version → policy_of site m ≡ policy_of site k → stand_at site ledger now m ≡ stand_at site ledger now k
same_stand site ledger now m k version policy =
    ap (λ (v : ℕ). record { version = v; policy = policy_of site m; last = site.word.last; ledger = ledger; now = now }) version
    ∙ ap (λ (p : PolicyRows). record { version = k.version; policy = p; last = site.word.last; ledger = ledger; now = now }) policy

-- the stand of a desk that is left
left_stand : (site : Site) (new : DeskRows) (ledger : LedgerRows) (now : ℕ) (m : Marked) → new.solo.site ≡ site → new.solo.plane.ledger ≡ ledger → new.now ≡ now → held new.solo.session.grounds ≡ m → stand_at site ledger now m ≡ stand_of new
left_stand site new ledger now m s l n h =
    ap (λ (x : Site). stand_at x ledger now m) (sym s)
    ∙ ap (λ (x : LedgerRows). stand_at new.solo.site x now m) (sym l)
    ∙ ap (λ (x : ℕ). stand_at new.solo.site new.solo.plane.ledger x m) (sym n)
    ∙ ap (stand_at new.solo.site new.solo.plane.ledger new.now) (sym h)

-- what is told of a call, and the session then holds the last version that it has seen
pub record Told (old new : DeskRows) (token : Option (List ℕ)) (asked : Call) (gave : Served) : Type 0 where
  pub tells : TellsSo (stand_of old) token asked gave (stand_of new)
  pub holds : HoldsLast new

-- ---- an open operation

module _ (old new : DeskRows) (token : Option (List ℕ)) (op : Op) (opens : is_open (endpoint_of op) ≡ true) (same : stand_of old ≡ stand_of new) where
  abbrev there : Stand
  there = stand_of old

  open_verdict : (shown : Shown) → answer_of op (standing_of there.ledger).under (opened (effect_of nothing_readable there.ledger.state op there.now)) ≡ Some shown → answer_of op (standing_of there.ledger).under (verdict_on there.policy there.ledger token op there.now) ≡ Some shown
  open_verdict shown told =
      ap (λ (b : Bool). answer_of op (standing_of there.ledger).under (if b then opened (effect_of nothing_readable there.ledger.state op there.now) else judged there.ledger.audit.limit there.policy (standing_of there.ledger) op there.now (bearer_of there.policy token))) opens
      ∙ told

  told_openly : (gave : Served) → IsOpenly op old.now old.solo.plane.ledger gave → TellsSo there token (call.State op) gave (stand_of new)
  told_openly (served.Shown shown) is =
      ap (λ (b : Bool). told_on there token op (if b then there.ledger else looked_at there)) opens
      ∙ told_left (with_ledger there (ledger_left (bearer_of there.policy token) op there.now there.ledger (verdict_on there.policy there.ledger token op there.now))) (stand_of new) (open_verdict shown is.0)
      (ap (with_ledger there) (open_left there.policy there.ledger token op there.now opens) ∙ same)
  told_openly served.NothingDone is = tt

left_openly : (old new : DeskRows) (token : Option (List ℕ)) (op : Op) (gave : Served) (basis : Basis) → is_open (endpoint_of op) ≡ true → new.solo.site ≡ old.solo.site → new.now ≡ old.now → HoldsLast old → IsLeft op old.now old.solo.plane old.solo.session gave new.solo.plane new.solo.session basis → Told old new token (call.State op) gave
left_openly old new token op gave basis opens here moment holds left =
    let same : stand_of old ≡ stand_of new =
    left_stand old.solo.site new old.solo.plane.ledger old.now (held old.solo.session.grounds) here (ap (λ (p : PlaneRows). p.ledger) left.plane) moment (ap (λ (v : Visit). held v.grounds) left.session) in
    record {
      tells = told_openly old new token op opens same gave left.served;
      holds = subst (λ (v : Visit). length v.pass.places ≡ (held v.grounds).version + 1) (sym left.session) holds;
    }

-- ---- a turn on the plane, under a mark

module _ (site : Site) (old : LedgerRows) (now : ℕ) (m : Marked) (token : Option (List ℕ)) (new : DeskRows) (here : new.solo.site ≡ site) (moment : new.now ≡ now) (holds : held new.solo.session.grounds ≡ m) where
  abbrev under : Stand
  under = stand_at site old now m

  -- the ledger that is left
  with_it : (ledger : LedgerRows) → new.solo.plane.ledger ≡ ledger → with_ledger under ledger ≡ stand_of new
  with_it ledger is = left_stand site new ledger now m here is moment holds

  applied_told : (it : Call) (gave : Served) → IsClosed it → Applies (policy_of site m) (looked m.version old) token it now (Some gave) new.solo.plane.ledger → TellsSo under token it gave (stand_of new)
  applied_told (call.State op) (served.Shown shown) closed is =
      let left = leave_one (policy_of site m) token op now (looked m.version old) new.solo.plane.ledger shown is.0 is.1 in
      let ledger : LedgerRows = ledger_left (bearer_of (policy_of site m) token) op now (looked m.version old) (verdict_on (policy_of site m) (looked m.version old) token op now) in
      ap (λ (b : Bool). told_on under token op (if b then old else looked m.version old)) closed
      ∙ told_left (with_ledger under ledger) (stand_of new) is.0.0 (with_it ledger left)
  applied_told (call.Entries window) (served.Shown shown) closed is =
      told_left (with_ledger under (looked m.version old)) (stand_of new) is.0.0 (with_it (looked m.version old) is.1)
  applied_told (call.Policy asked) (served.Shown shown) closed is = absurd closed
  applied_told (call.State op) served.NothingDone closed is = tt
  applied_told (call.Entries window) served.NothingDone closed is = tt
  applied_told (call.Policy asked) served.NothingDone closed is = tt

-- the mark under which it was decided is of the version of which the session held the mark, and has its policy
same_mark : (old : DeskRows) (m : Marked) → HoldsLast old → length old.solo.session.pass.places ≡ m.version + 1 → HasSame old.solo.site old.solo.session.grounds m → stand_at old.solo.site old.solo.plane.ledger old.now m ≡ stand_of old
same_mark old m holds own same =
    let version : m.version ≡ (held old.solo.session.grounds).version = omega (arith, holds, own) in
    same_stand old.solo.site old.solo.plane.ledger old.now m (held old.solo.session.grounds) version (same version)

-- the session holds the mark of the last version, where that is one of its grounds
then_holds : (new : DeskRows) (grounds : Grounds) → new.solo.session.grounds ≡ grounds → length new.solo.session.pass.places ≡ (held grounds).version + 1 → HoldsLast new
then_holds new grounds is ends = subst (λ (g : Grounds). length new.solo.session.pass.places ≡ (held g).version + 1) (sym is) ends

acted_told : (old new : DeskRows) (token : Option (List ℕ)) (it : Call) (gave : Served) (basis : Basis) → new.solo.site ≡ old.solo.site → new.now ≡ old.now → HoldsLast old → IsOwn old.solo.session basis → IsClosed it → IsActed old.solo.site (asked_at old.now token it) old.solo.plane old.solo.session gave new.solo.plane new.solo.session basis → Told old new token it gave
acted_told old new token it gave Openly here moment holds own closed is = absurd is
acted_told old new token it gave Missed here moment holds own closed is = absurd own
acted_told old new token it gave (On (Under m)) here moment holds own closed is = record {
  tells = subst (λ (at : Stand). TellsSo at token it gave (stand_of new)) (same_mark old m holds own is.same)
      (applied_told old.solo.site old.solo.plane.ledger old.now m token new here moment (ap held is.held) it gave closed is.applied);
  holds = then_holds new (Under m) is.held is.last.1.last;
}
acted_told old new token it gave (On (Made r)) here moment holds own closed is = absurd is
acted_told old new token it gave (On (Overtaken m)) here moment holds own closed is = absurd is
acted_told old new token it gave (On (Spent m pushed)) here moment holds own closed is = absurd is

placed_told : (old new : DeskRows) (token : Option (List ℕ)) (op : Op) (gave : Served) (basis : Basis) (b : Bool) → is_open (endpoint_of op) ≡ b → new.solo.site ≡ old.solo.site → new.now ≡ old.now → HoldsLast old → IsOwn old.solo.session basis → IsPlaced old.solo.site (asked_at old.now token (call.State op)) old.solo.plane old.solo.session gave new.solo.plane new.solo.session basis (call.State op) → Told old new token (call.State op) gave
placed_told old new token op gave basis true opens here moment holds own is =
    left_openly old new token op gave basis opens here moment holds (is.1 opens)
placed_told old new token op gave basis false closed here moment holds own is =
    acted_told old new token (call.State op) gave basis here moment holds own closed (is.0 closed)

-- ---- an operation on the policy, under a mark

-- a verdict that makes no version
told_calm : (at left : Stand) (it : PolicyVerdict) (shown : Shown) → IsTold at.version it shown → at ≡ left → told_policy (with_policy at) at.version at.last at.policy it ≡ Some (shown, left)
told_calm at left (Refuses problem) shown is same = told_left at left is same
told_calm at left (Tells reply) shown is same = told_left at left is same
told_calm at left (Publishes reply policy) shown is same = absurd is

room_for : (version last : ℕ) (later : PolicyRows) (comes : Result PolicyRows Refusal) → version < last → comes ≡ Ok later → with_room version last comes ≡ Ok later
room_for version last later comes room is =
    ap (with_room version last) is ∙ ap (λ (b : Bool). if b then Err fault.Full else Ok later) (lt-leb last version room)

module _ (site : Site) (ledger : LedgerRows) (now : ℕ) (token : Option (List ℕ)) (new : DeskRows) (here : new.solo.site ≡ site) (kept : new.solo.plane.ledger ≡ ledger) (moment : new.now ≡ now) where
  -- what stands under a mark that the session holds then
  stand_then : (m : Marked) → held new.solo.session.grounds ≡ m → stand_at site ledger now m ≡ stand_of new
  stand_then m holds = left_stand site new ledger now m here kept moment holds

  read_told : (m : Marked) (asked : PolicyOp) (gave : Served) → held new.solo.session.grounds ≡ m → IsToldIn site token asked gave new.solo.session m → TellsSo (stand_at site ledger now m) token (call.Policy asked) gave (stand_of new)
  read_told m asked (served.Shown shown) holds is =
      told_calm (stand_at site ledger now m) (stand_of new) (verdict_under m.version site.word.last (policy_of site m) token asked) shown is.told (stand_then m holds)
  read_told m asked served.NothingDone holds is = tt

  made_told : (r : Received) (asked : PolicyOp) (gave : Served) → held new.solo.session.grounds ≡ r.mark → IsMade site token asked gave new.solo.session r → TellsSo (stand_at site ledger now r.base) token (call.Policy asked) gave (stand_of new)
  made_told r asked gave holds is =
      let later : PolicyRows = policy_of site r.mark in
      let version : ℕ = r.base.version in
      let change : PolicyOp = asks.Change (ask.Made r.change) in
      let at : Stand = stand_at site ledger now r.base in
      let under : decided (policy_of site r.base) token (ask.Made r.change) ≡ Ok later =
      decided_ok (policy_of site r.base) later r.change token r.author is.author is.receipt.lacks_nothing is.receipt.made in
      let verdict : verdict_under version site.word.last (policy_of site r.base) token change ≡ Publishes (change_text (version + 1) later r.change) later =
      ap (change_verdict version (ask.Made r.change)) (room_for version site.word.last later (decided (policy_of site r.base) token (ask.Made r.change)) is.room under) in
      let told : stand_told at token (call.Policy change) ≡ Some (reply_at r.mark.version (change_text r.mark.version later r.change), stand_of new) =
      ap (told_policy (with_policy at) at.version at.last at.policy) verdict
      ∙ ap (λ (n : ℕ). Some (reply_at n (change_text n later r.change), record at { version = n; policy = later })) (sym is.receipt.version)
      ∙ ap (λ (s : Stand). Some (reply_at r.mark.version (change_text r.mark.version later r.change), s)) (stand_then r.mark holds) in
      subst (λ (op : PolicyOp). TellsSo at token (call.Policy op) gave (stand_of new)) (sym is.is_asked)
      (subst (λ (g : Served). TellsSo at token (call.Policy change) g (stand_of new)) (sym is.told) told)

administered_told : (old new : DeskRows) (token : Option (List ℕ)) (asked : PolicyOp) (gave : Served) (basis : Basis) → new.solo.site ≡ old.solo.site → new.now ≡ old.now → new.solo.plane ≡ old.solo.plane → HoldsLast old → IsOwn old.solo.session basis → IsAdministered old.solo.site token asked old.solo.session gave new.solo.session basis → Told old new token (call.Policy asked) gave
administered_told old new token asked gave Openly here moment kept holds own is = absurd is
administered_told old new token asked gave Missed here moment kept holds own is = absurd own
administered_told old new token asked gave (On (Under m)) here moment kept holds own is = record {
  tells = subst (λ (at : Stand). TellsSo at token (call.Policy asked) gave (stand_of new)) (same_mark old m holds own is.same)
      (read_told old.solo.site old.solo.plane.ledger old.now token new here (ap (λ (p : PlaneRows). p.ledger) kept) moment m asked gave (ap held is.held) is.given);
  holds = then_holds new (Under m) is.held is.given.last.1.last;
}
administered_told old new token asked gave (On (Made r)) here moment kept holds own is = record {
  tells = subst (λ (at : Stand). TellsSo at token (call.Policy asked) gave (stand_of new)) (same_mark old r.base holds own is.same)
      (made_told old.solo.site old.solo.plane.ledger old.now token new here (ap (λ (p : PlaneRows). p.ledger) kept) moment r asked gave (ap held is.held) is.given);
  holds = then_holds new (Made r) is.held is.given.last.1.last;
}
administered_told old new token asked gave (On (Overtaken m)) here moment kept holds own is = absurd own
administered_told old new token asked gave (On (Spent m pushed)) here moment kept holds own is = absurd own

-- ---- every call

decided_told : (old new : DeskRows) (token : Option (List ℕ)) (it : Call) (gave : Served) (basis : Basis) → new.solo.site ≡ old.solo.site → new.now ≡ old.now → HoldsLast old → IsOwn old.solo.session basis → IsDecidedBy old.solo (asked_at old.now token it) gave new.solo basis it → Told old new token it gave
decided_told old new token (call.State op) gave basis here moment holds own is =
    placed_told old new token op gave basis (is_open (endpoint_of op)) refl here moment holds own is
decided_told old new token (call.Entries window) gave basis here moment holds own is =
    acted_told old new token (call.Entries window) gave basis here moment holds own tt is
decided_told old new token (call.Policy asked) gave basis here moment holds own is =
    administered_told old new token asked gave basis here moment is.1 holds own is.0

pub told_alone : (old new : DeskRows) (token : Option (List ℕ)) (it : Call) (gave : Served) → HoldsLast old → DecidesAlone old token it gave new → Told old new token it gave
told_alone old new token it gave holds (basis, answered, moment, own) =
    decided_told old new token it gave basis answered.site moment holds own answered.decided

-- ---- in one way

-- one function tells: what it says of a call, also of one whose body was not read, is what it says of the whole one
tells_by : TellsBy TellsSo stand_told
tells_by = record {
  tells = λ at token asked shown left is. is;
  alike = λ at token wanted shown left is. alike_unread at token wanted (shown, left) is;
}

pub one_way : IsFunction TellsSo
one_way = answers_once TellsSo stand_told tells_by

pub desks_answer_alike : DesksAnswerAlike
desks_answer_alike old other new next token wanted asked it x y alike read read' decides decides' =
    let first = told_alone old new token asked (served.Shown x) alike.one_holds decides in
    let second = told_alone other next token it (served.Shown y) alike.other_holds decides' in
    let here : TellsSo (stand_of old) token it (served.Shown y) (stand_of next) =
    subst (λ (at : Stand). TellsSo at token it (served.Shown y) (stand_of next)) (sym alike.stand) second.tells in
    let same = one_way (stand_of old) token wanted asked it x y (stand_of new) (stand_of next) read read' first.tells here in
    (same.0, record { stand = same.1; one_holds = first.holds; other_holds = second.holds })

-- ---- all exchanges

pub record AllTold (old : DeskRows) (exchanges : List Exchange) (left : DeskRows) : Type 0 where
  pub answered : Answered TellsSo (stand_of old) exchanges (stand_of left)
  pub holds : HoldsLast left

-- of one request
pub record OneTold (old : DeskRows) (asked : Asked) (it : Reply) (new : DeskRows) : Type 0 where
  pub made : Makes TellsSo (stand_of old) asked it (stand_of new)
  pub holds : HoldsLast new

one_told : (old : DeskRows) (asked : Asked) (it : Reply) (new : DeskRows) → HoldsLast old → Makes DecidesAlone old asked it new → OneTold old asked it new
one_told old asked (reply.Fault fault) new holds (routed, same) = record {
  made = (routed, ap stand_of same);
  holds = subst HoldsLast (sym same) holds;
}
one_told old asked (reply.Served gave) new holds (it, routed, decides) =
    let told = told_alone old new asked.token it gave holds decides in record {
      made = (it, routed, told.tells);
      holds = told.holds;
    }

all_told : (old : DeskRows) (exchanges : List Exchange) (left : DeskRows) → HoldsLast old → Answered DecidesAlone old exchanges left → AllTold old exchanges left
all_told old [] left holds same = record { answered = ap stand_of same; holds = subst HoldsLast (sym same) holds }
all_told old (x ∷ xs) left holds (mid, made, later) =
    let first = one_told old x.asked x.reply mid holds made in
    let rest = all_told mid xs left first.holds later in record {
      answered = (stand_of mid, first.made, rest.answered);
      holds = rest.holds;
    }

-- ---- a text

-- a run of a desk as one of what its answers depend on
run_told : (old left : DeskRows) (ended : Bool) (text : List ℕ) (end : Ended) (out : List ℕ) (writer : Taken) → (run : Run DecidesAlone old ended text end out writer left) → AllTold old run.exchanges left → Run TellsSo (stand_of old) ended text end out writer (stand_of left)
run_told old left ended text end out writer run told = record {
  exchanges = run.exchanges;
  rest = run.rest;
  closing = run.closing;
  stand = run.stand;
  answered = told.answered;
  ends = run.ends;
  written = run.written;
}

pub one_reading : OneReading
one_reading old other left next before after before' after' start finish start' finish' end end' alike one two text ended by by' =
    let first = all_told old one.run.exchanges left alike.one_holds one.run.answered in
    let second = all_told other two.run.exchanges next alike.other_holds two.run.answered in
    let mine : Run TellsSo (stand_of old) one.ended one.text end one.out finish (stand_of left) = run_told old left one.ended one.text end one.out finish one.run first in
    let yours : Run TellsSo (stand_of other) two.ended two.text end' two.out finish' (stand_of next) = run_told other next two.ended two.text end' two.out finish' two.run second in
    let moved : Run TellsSo (stand_of old) one.ended one.text end' two.out finish' (stand_of next) =
    subst (λ (at : Stand). Run TellsSo at one.ended one.text end' two.out finish' (stand_of next)) (sym alike.stand)
    (subst (λ (b : Bool). Run TellsSo (stand_of other) b one.text end' two.out finish' (stand_of next)) ended
    (subst (λ (t : List ℕ). Run TellsSo (stand_of other) two.ended t end' two.out finish' (stand_of next)) text yours)) in
    let same = runs_one TellsSo one_way (stand_of old) one.ended one.text end end' one.out two.out finish finish' (stand_of left) (stand_of next) mine moved by by' in
    (same.0, same.1, record { stand = same.2; one_holds = first.holds; other_holds = second.holds })

-- ---- under one configuration

opens_so : (configuration : ConfigurationRows) (now : ℕ) (desk : DeskRows) → IsOpened configuration now desk → stand_of desk ≡ record { version = 0; policy = configuration.policy; last = configuration.limits.versions; ledger = ledgers.opened configuration.state configuration.limits.history; now = now }
opens_so configuration now desk opens =
    let first : held desk.solo.session.grounds ≡ first_mark = ap (λ (v : Visit). held v.grounds) opens.solo.session in
    let ledger : LedgerRows = ledgers.opened configuration.state configuration.limits.history in
    ap (stand_at desk.solo.site desk.solo.plane.ledger desk.now) first
    ∙ ap (λ (p : PolicyRows). record { version = 0; policy = p; last = desk.solo.site.word.last; ledger = desk.solo.plane.ledger; now = desk.now }) opens.solo.policy
    ∙ ap (λ (n : ℕ). record { version = 0; policy = configuration.policy; last = n; ledger = desk.solo.plane.ledger; now = desk.now }) opens.solo.last
    ∙ ap (λ (p : PlaneRows). record { version = 0; policy = configuration.policy; last = configuration.limits.versions; ledger = p.ledger; now = desk.now }) opens.solo.plane
    ∙ ap (λ (t : ℕ). record { version = 0; policy = configuration.policy; last = configuration.limits.versions; ledger = ledger; now = t }) opens.now

pub opens_holding : (configuration : ConfigurationRows) (now : ℕ) (desk : DeskRows) → IsOpened configuration now desk → HoldsLast desk
opens_holding configuration now desk opens =
    subst (λ (v : Visit). length v.pass.places ≡ (held v.grounds).version + 1) (sym opens.solo.session) refl

pub desks_open_alike : DesksOpenAlike
desks_open_alike configuration now one other opens opens' = record {
  stand = opens_so configuration now one opens ∙ sym (opens_so configuration now other opens');
  one_holds = opens_holding configuration now one opens;
  other_holds = opens_holding configuration now other opens';
}
