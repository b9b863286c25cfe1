use Rattle.af_policy.proofs.shared.building.+built.Given as goal

abbrev pub decreases-built : goal.decreases-built
decreases-built g l = l.count
