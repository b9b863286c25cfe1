use Rattle.std.specs.Option.{option_copied}
use Rattle.af_policy.specs.Reads.{read_of}
use Rattle.af_policy.specs.Versions.{decided}
use Rattle.af_policy.specs.declared.ask.Ask.TheVariants.{Bad}
use Rattle.af_policy.specs.declared.bad_input.BadInput.TheVariants as input
use Rattle.af_ops.specs.PolicyVerdicts.{read_verdict, unread_verdict}
use Rattle.af_world.proofs.ServedLemmas.{told_served}
use Rattle.af_world.proofs.policy_answering.answer_presented.Goals as goal

pub returns-in-Read : goal.returns-in-Read
returns-in-Read c = record {
  served =
      rw (c.in-Read.is) (told_served c.args.versions.now c.serve_read.result
      (read_verdict c.in-Read.asked (read_of c.args.versions.now.latest (option_copied c.args.token) c.in-Read.asked))
      (rw (← c.current-in-Read.ensures, ← c.latest-in-Read.ensures) c.serve_read.ensures));
}

pub returns-in-Unread : goal.returns-in-Unread
returns-in-Unread c = record {
  served =
      rw (c.in-Unread.is) (told_served c.args.versions.now c.serve_unread.result
      (unread_verdict (decided c.args.versions.now.latest (option_copied c.args.token) (Bad c.in-Unread.kind input.Body)))
      (rw (← c.current-in-Unread.ensures, ← c.latest-in-Unread.ensures) c.serve_unread.ensures));
}
