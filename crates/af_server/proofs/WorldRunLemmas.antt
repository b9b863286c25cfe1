-- The calls of a connection, with what others publish between them, are one run of the world.
use Rattle.std.proofs.Common.{◌≡◌, ◌∙◌, refl, sym, ap, subst, ℕ, List, [], ◌∷◌, ◌++◌}
use Rattle.af_audit.specs.Acts.{IsState}
use Rattle.af_audit.specs.Ledgers.{Climb}
use Rattle.af_plane.specs.Events as events
use Rattle.af_plane.specs.Events.{AreAnswered, named_by}
use Rattle.af_plane.specs.Laws as plane
use Rattle.af_plane.proofs.EventLemmas.{events_are_one_run}
use Rattle.af_http.specs.Requests.{Asked}
use Rattle.af_http.specs.Run.{Answered, Exchange, Makes}
use Rattle.af_http.specs.declared.reply.Reply.{Reply}
use Rattle.af_http.specs.declared.reply.Reply.TheVariants as reply
use Rattle.af_server.specs.Configurations.{ConfigurationRows}
use Rattle.af_server.specs.Desks.{Decides, DeskRows, IsOpened, asked_at}
use Rattle.af_server.specs.Laws.{AnsweredVersionsClimb, named_in, named_to}
use Rattle.af_server.specs.WorldRuns.{AnsweredCall, AreCalls, AreOneRun, IsCalls, call_at}

-- ---- the calls

-- what a request was
pub record Called (old : DeskRows) (asked : Asked) (it : Reply) (new : DeskRows) : Type 0 where
  pub calls : List AnsweredCall
  pub told : IsCalls old asked it calls new

called : (old : DeskRows) (asked : Asked) (it : Reply) (new : DeskRows) → Makes Decides old asked it new → Called old asked it new
called old asked (reply.Fault fault) new (routed, same) = record { calls = []; told = (refl, same) }
called old asked (reply.Served gave) new (it, routed, (basis, answered, moment)) = record {
  calls = call_at old asked.token it gave basis ∷ [];
  told = (it, routed, (basis, answered, moment, refl));
}

-- what all requests were
pub record AllCalled (old : DeskRows) (exchanges : List Exchange) (left : DeskRows) : Type 0 where
  pub calls : List AnsweredCall
  pub told : AreCalls old exchanges calls left

pub all_called : (old : DeskRows) (exchanges : List Exchange) (left : DeskRows) → Answered Decides old exchanges left → AllCalled old exchanges left
all_called old [] left same = record { calls = []; told = (refl, same) }
all_called old (x ∷ xs) left (mid, made, later) =
    let first = called old x.asked x.reply mid made in
    let rest = all_called mid xs left later in record {
      calls = first.calls ++ rest.calls;
      told = (mid, (first.calls, (rest.calls, first.told, rest.told, refl)));
    }

-- ---- one run

pub one_run : (configuration : ConfigurationRows) (now : ℕ) (old : DeskRows) (exchanges : List Exchange) (left : DeskRows) → IsState configuration.state → IsOpened configuration now old → Answered Decides old exchanges left → AreOneRun configuration old exchanges left
one_run configuration now old exchanges left state opens answered =
    let all = all_called old exchanges left answered in record {
      calls = all.calls;
      told = all.told;
      leads = λ them turns versions happens. events_are_one_run configuration.policy configuration.limits.versions configuration.state configuration.limits.history old.solo them turns versions left.solo state opens.solo happens.are_events;
    }

-- ---- the versions that are named

-- the calls as those of a server for one thread, which name the same versions
pub record Answers (old : DeskRows) (exchanges : List Exchange) (left : DeskRows) : Type 0 where
  pub calls : List events.Exchange
  pub answered : AreAnswered old.solo calls left.solo
  pub named : events.named_in calls ≡ named_in exchanges

-- a request was no call
unasked : (old mid left : DeskRows) (asked : Asked) (fault : Reply) (xs : List Exchange) → mid ≡ old → named_to fault ≡ [] → Answers mid xs left → Answers old (record { asked = asked; reply = fault } ∷ xs) left
unasked old mid left asked fault xs same none rest = record {
  calls = rest.calls;
  answered = subst (λ (d : DeskRows). AreAnswered d.solo rest.calls left.solo) same rest.answered;
  named = rest.named ∙ sym (ap (λ (l : List ℕ). l ++ named_in xs) none);
}

-- a request and those after it
and_then : (old mid left : DeskRows) (asked : Asked) (it : Reply) (xs : List Exchange) → Makes Decides old asked it mid → Answers mid xs left → Answers old (record { asked = asked; reply = it } ∷ xs) left
and_then old mid left asked (reply.Fault fault) xs (routed, same) rest = unasked old mid left asked (reply.Fault fault) xs same refl rest
and_then old mid left asked (reply.Served gave) xs (it, routed, (basis, answered, moment)) rest = record {
  calls = record { asked = asked_at old.now asked.token it; served = gave } ∷ rest.calls;
  answered = (mid.solo, (basis, answered, rest.answered));
  named = ap (λ (l : List ℕ). named_by gave ++ l) rest.named;
}

answers_of : (old : DeskRows) (exchanges : List Exchange) (left : DeskRows) → Answered Decides old exchanges left → Answers old exchanges left
answers_of old [] left same = record { calls = []; answered = ap (λ (d : DeskRows). d.solo) same; named = refl }
answers_of old (x ∷ xs) left (mid, made, later) = and_then old mid left x.asked x.reply xs made (answers_of mid xs left later)

pub named_versions_climb : plane.NamedVersionsNeverFall → AnsweredVersionsClimb
named_versions_climb law old exchanges left seen had answered =
    let all = answers_of old exchanges left answered in
    subst (Climb seen) all.named (law old.solo all.calls left.solo seen had all.answered)
