-- What follows from a server's report.
use Rattle.std.proofs.Common.{◌≡◌, refl, ap, subst, ℕ, zero, suc, List, [], ◌∷◌, ◌++◌, Option, Some, All, slice_get}
use Rattle.std.proofs.lemmas.List.Elements.{All-head, All-tail}
use Rattle.af_ops.specs.declared.call.Call.{Call}
use Rattle.af_ops.specs.declared.call.Call.TheVariants as calls
use Rattle.af_ops.specs.declared.served.Served.{Served}
use Rattle.af_plane.specs.Closings.{IsWithin}
use Rattle.af_plane.specs.Events as events
use Rattle.af_plane.specs.Laws.{SessionsAgree}
use Rattle.af_plane.specs.Names.{Name}
use Rattle.af_plane.specs.Stays.{Calls}
use Rattle.af_plane.specs.Visits.{SessionRows, Visit}
use Rattle.af_http.specs.Requests.{Asked}
use Rattle.af_http.specs.Run.{Answered, Exchange, Makes}
use Rattle.af_http.specs.declared.reply.Reply.{Reply}
use Rattle.af_http.specs.declared.reply.Reply.TheVariants as reply
use Rattle.af_server.specs.Connections.{AnswersEach, ConnectionRows}
use Rattle.af_server.specs.Desks.{asked_at}
use Rattle.af_server.specs.ReportLaws.{ConnectionsAreCalls, WorkersAgree}
use Rattle.af_server.specs.Machines.{Behaviour}
use Rattle.af_server.specs.Reports.{WorkerRows}
use Rattle.af_server.specs.Servers.{name_of}
use Rattle.af_server.specs.Workers.{Works}

-- a session has called from one moment to another
pub record HasAsked (name : Name) (was now : Visit) : Type 0 where
  pub exchanges : List events.Exchange
  pub calls : Calls name was exchanges now

module _ (name : Name) where
  calls_append : (xs ys : List events.Exchange) (was mid now : Visit) → Calls name was xs mid → Calls name mid ys now → Calls name was (xs ++ ys) now
  calls_append [] ys was mid now same later = subst (λ (v : Visit). Calls name v ys now) same later
  calls_append (x ∷ xs) ys was mid now (next, (first, more)) later = (next, (first, calls_append xs ys next mid now more later))

  joined : (was mid now : Visit) → HasAsked name was mid → HasAsked name mid now → HasAsked name was now
  joined was mid now a b = record { exchanges = a.exchanges ++ b.exchanges; calls = calls_append a.exchanges b.exchanges was mid now a.calls b.calls }

  silent : (was now : Visit) → now ≡ was → HasAsked name was now
  silent was now same = record { exchanges = []; calls = same }

  module _ (tells : ℕ → Type 0) where
    one_call : (token : Option (List ℕ)) (it : Call) (gave : Served) (old new : SessionRows) → Works tells name old token it gave new → HasAsked name old.visit new.visit
    one_call token (calls.State op) gave old new turn = record {
      exchanges = record { asked = asked_at turn.at token (calls.State op); served = gave } ∷ [];
      calls = (new.visit, (turn.call, refl));
    }
    one_call token (calls.Entries window) gave old new turn = record {
      exchanges = record { asked = asked_at turn.at token (calls.Entries window); served = gave } ∷ [];
      calls = (new.visit, (turn.call, refl));
    }
    one_call token (calls.Policy asked) gave old new it = record {
      exchanges = record { asked = asked_at 0 token (calls.Policy asked); served = gave } ∷ [];
      calls = (new.visit, (it.asks, refl));
    }

    made : (old new : SessionRows) (asked : Asked) (it : Reply) → Makes (Works tells name) old asked it new → HasAsked name old.visit new.visit
    made old new asked (reply.Fault fault) (routed, same) = silent old.visit new.visit (ap (λ (s : SessionRows). s.visit) same)
    made old new asked (reply.Served gave) (it, routed, works) = one_call asked.token it gave old new works

    answered : (xs : List Exchange) (old new : SessionRows) → Answered (Works tells name) old xs new → HasAsked name old.visit new.visit
    answered [] old new same = silent old.visit new.visit (ap (λ (s : SessionRows). s.visit) same)
    answered (x ∷ xs) old new (mid, first, later) = joined old.visit mid.visit new.visit (made old mid x.asked x.reply first) (answered xs mid new later)

    pub each : (connections : List ConnectionRows) (old new : SessionRows) → AnswersEach (Works tells name) connections old new → HasAsked name old.visit new.visit
    each [] old new same = silent old.visit new.visit (ap (λ (s : SessionRows). s.visit) same)
    each (c ∷ cs) old new (mid, (first, later)) =
        joined old.visit mid.visit new.visit (answered first.connects.run.exchanges old mid first.connects.run.answered) (each cs mid new later)

pub connections_are_calls : (tells : ℕ → Type 0) → ConnectionsAreCalls tells
connections_are_calls tells name connections old new answers =
    let it = each name tells connections old new answers in
    (it.exchanges, it.calls)

-- what holds of all holds of each
of_each : {A : Type 0} (P : A → Type 0) (xs : List A) (i : ℕ) (x : A) → All P xs → slice_get xs i ≡ Some x → P x
of_each P [] i x all is = absurd cc
of_each P (y ∷ ys) zero x all is =
    let same : y ≡ x = cc is in
    subst P same (All-head P y ys all)
of_each P (y ∷ ys) (suc i) x all is = of_each P ys i x (All-tail P y ys all) is

pub workers_agree : (behaviour : Behaviour) → SessionsAgree → WorkersAgree behaviour
workers_agree behaviour law count port server report i j one other here there it a b first second =
    let mine = each (name_of server) behaviour.tells first.later here one.session first.after in
    let theirs = each (name_of server) behaviour.tells second.later there other.session second.after in
    let within = λ (w : WorkerRows). IsWithin report.plane w.session.visit in
    law (name_of server) report.plane here.visit there.visit one.session.visit other.session.visit mine.exchanges theirs.exchanges mine.calls theirs.calls
    (of_each within report.workers i one it.workers_within a) (of_each within report.workers j other it.workers_within b)
