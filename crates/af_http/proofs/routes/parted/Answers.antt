use Rattle.std.proofs.Common.{◌∙◌, List, ℕ, ap, arith, drop, sym}
use Rattle.std.proofs.lemmas.Bool.{eqb-true, eq-eqb}
use Rattle.af_http.proofs.RouteLemmas.{before_found, before_none, onward_found, onward_none}
use Rattle.af_http.proofs.routes.parted.Goals as goal

pub returns-in-Some-clause-path : goal.returns-in-Some-clause-path
returns-in-Some-clause-path c =
    let found = c.in-Some.ensures in
    c.split_at.ensures.front
    ∙ sym (before_found 63 c.args.target.now c.in-Some.at found.0.high (λ k h e. found.0.before k (omega arith) h (eq-eqb _ 63 e)) (eqb-true _ 63 found.1))

pub returns-in-Some-clause-query : goal.returns-in-Some-clause-query
returns-in-Some-clause-query c =
    let found = c.in-Some.ensures in
    c.split_at-in-Some.ensures.back
    ∙ ap (λ (text : List ℕ). drop 1 text) (c.split_at.ensures.back ∙ sym (onward_found 63 c.args.target.now c.in-Some.at found.0.high (λ k h e. found.0.before k (omega arith) h (eq-eqb _ 63 e)) (eqb-true _ 63 found.1)))

pub returns-in-None-clause-path : goal.returns-in-None-clause-path
returns-in-None-clause-path c = sym (before_none 63 c.args.target.now (λ k h e. c.in-None.ensures k (omega arith) h (eq-eqb _ 63 e)))

pub returns-in-None-clause-query : goal.returns-in-None-clause-query
returns-in-None-clause-query c = ap (λ (text : List ℕ). drop 1 text) (sym (onward_none 63 c.args.target.now (λ k h e. c.in-None.ensures k (omega arith) h (eq-eqb _ 63 e))))
