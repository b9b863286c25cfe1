use Rattle.std.proofs.Common.{rules}
use Rattle.af_server.proofs.DeskLemmas.{connects_kept}
use Rattle.af_server.proofs.once.once.Goals as goal

pub returns-clause-once : goal.returns-clause-once
returns-clause-once g c =
    let configuration = c.in_ok-configuration.configuration in
    let opened = c.in_ok-desk.desk in
    let kept = connects_kept configuration c.args.now _ _ _ _ opened c.converse-ended.new.desk c.converse-ended.result c.in_ok-desk.ensures c.conditions.ensures c.converse-ended.ensures c.conditions-2.ensures in
    (configuration, search rules, (opened, (c.converse-ended.new.desk, kept.0, kept.1)))
