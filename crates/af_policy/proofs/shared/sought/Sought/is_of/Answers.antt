use Rattle.std.proofs.Common.{◌∙◌, sym, ap}
use Rattle.std.specs.Ordering.{is_eq}
use Rattle.std.specs.Cmp.Lexicographic.{texts_ties}
use Rattle.af_policy.proofs.shared.sought.Sought.is_of.Goals as goal

pub returns-in-Less : goal.returns-in-Less
returns-in-Less g c = sym (texts_ties c.args.self.now (g.T.Row.key c.args.row.now) ∙ ap is_eq (sym c.in-Less.ensures))

pub returns-in-Equal : goal.returns-in-Equal
returns-in-Equal g c = sym (texts_ties c.args.self.now (g.T.Row.key c.args.row.now) ∙ ap is_eq (sym c.in-Equal.ensures))

pub returns-in-Greater : goal.returns-in-Greater
returns-in-Greater g c = sym (texts_ties c.args.self.now (g.T.Row.key c.args.row.now) ∙ ap is_eq (sym c.in-Greater.ensures))
