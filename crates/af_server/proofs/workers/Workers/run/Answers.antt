use Rattle.std.proofs.Common.{rules, refl, ◌≡◌, length, arith, ◌∙◌, ap}
use Rattle.af_server.proofs.ReportLemmas.{nobody, filled-front}
use Rattle.af_server.proofs.workers.Workers.run.Goals as goal

pub returns-clause-all : goal.returns-clause-all
returns-clause-all g c =
    let so_many : length c.fill.new.slots ≡ c.args.self.now.count = grind (arith, rules) in
    let front = filled-front _ c.fill.new.slots c.args.self.now.count (nobody _) refl (λ i below. c.fill.ensures i (omega (arith, below, so_many))) in
    ap length c.of.ensures ∙ (front.1 ∙ so_many)

pub returns-clause-each : goal.returns-clause-each
returns-clause-each g c =
    let so_many : length c.fill.new.slots ≡ c.args.self.now.count = grind (arith, rules) in
    rw c.of.ensures (filled-front _ c.fill.new.slots c.args.self.now.count (nobody _) refl (λ i below. c.fill.ensures i (omega (arith, below, so_many)))).0
