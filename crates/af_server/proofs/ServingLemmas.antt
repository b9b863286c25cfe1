-- One connection more that was answered.
use Rattle.std.proofs.Common.{◌≡◌, sym, subst, refl, ◌∙◌, ap, ℕ, ◌+◌, List, [], ◌∷◌, ◌++◌, length, Option, All}
use Rattle.std.proofs.lemmas.List.{length-append}
use Rattle.std.proofs.lemmas.List.Elements.{All-cons, All-nil, All-append}
use Rattle.af_ops.specs.declared.call.Call.{Call}
use Rattle.af_ops.specs.declared.served.Served.{Served}
use Rattle.af_http.specs.Connections.{Connects}
use Rattle.af_http.specs.Streams.{Given, Taken}
use Rattle.af_http.specs.declared.ended.Ended.{Ended}
use Rattle.af_server.specs.Connections.{Answers, AnswersEach, CameAt, ConnectionRows, HasHandled}

module _ {S : Type 0} (answers : S → Option (List ℕ) → Call → Served → S → Type 0) where
  -- a connection more
  answers_on : (connections : List ConnectionRows) (one : ConnectionRows) (old mid new : S)
      → AnswersEach answers connections old mid → Answers answers one mid new → AnswersEach answers (connections ++ one ∷ []) old new
  answers_on [] one old mid new same it = (new, (subst (λ (s : S). Answers answers one s new) same it, refl))
  answers_on (c ∷ cs) one old mid new (next, (first, later)) it = (next, (first, answers_on cs one next mid new later it))

  abbrev Handles : S → Given → Given → Taken → Taken → Ended → S → Type 0
  Handles old before after start finish ended new = Connects answers before after start finish old new ended

  -- what a machine has handed to a service is one connection more that it has answered
  pub one_more : (port count : ℕ) (was now : List ConnectionRows) (old mid new : S)
      → HasHandled Handles port mid new was now → AnswersEach answers was old mid → length was ≡ count → CameAt port was
      → AnswersEach answers now old new × (length now ≡ count + 1) × CameAt port now
  one_more port count was now old mid new it so_far so_many came =
      let one : Answers answers it.connection mid new = record { before = it.before; start = it.start; fresh = it.fresh; connects = it.handled } in
      let P : ConnectionRows → Type 0 = λ c. c.port ≡ port in
      let last : All P (it.connection ∷ []) = All-cons P it.connection [] it.came (All-nil P) in (
        subst (λ (l : List ConnectionRows). AnswersEach answers l old new) (sym it.noted) (answers_on was it.connection old mid new so_far one),
        ap length it.noted ∙ (length-append was (it.connection ∷ []) ∙ ap (λ (n : ℕ). n + 1) so_many),
        subst (λ (l : List ConnectionRows). CameAt port l) (sym it.noted) (All-append P was (it.connection ∷ []) came last),
      )
