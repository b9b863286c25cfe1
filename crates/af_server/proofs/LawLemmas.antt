-- What the laws of all runs of the world come to for a connection.
use Rattle.af_plane.specs.Laws as plane
use Rattle.af_server.specs.Laws.{EntriesAreGranted, ExchangesAreOneRun, VersionsFollow}
use Rattle.af_server.specs.Openings.{opening_of}
use Rattle.af_server.proofs.WorldRunLemmas.{one_run}

pub exchanges_are_one_run : ExchangesAreOneRun
exchanges_are_one_run = one_run

pub entries_are_granted : plane.EntriesAreGranted → EntriesAreGranted
entries_are_granted law configuration old exchanges left run all turns versions happens =
    law (opening_of configuration 2) turns versions left.solo (run.leads all turns versions happens)

pub versions_follow : plane.VersionsFollow → VersionsFollow
versions_follow law configuration old exchanges left run all turns versions happens =
    law (opening_of configuration 2) turns versions left.solo (run.leads all turns versions happens)
