use Rattle.af_plane.proofs.NameLemmas.{decided_names}
use Rattle.af_plane.proofs.solo.Solo.answer.Goals as goal

pub returns : goal.returns
returns g c =
    let it = c.decide-served.ensures.decided in (
      it.0,
      record {
        decided = it.1;
        site = c.decide-served.ensures.site;
        longer = c.decide-served.ensures.longer;
        names = decided_names c.args.self.now c.decide-served.new.self c.args.request.now c.decide-served.result it.0 it.1;
        state = c.conditions.ensures.state;
      },
    )
