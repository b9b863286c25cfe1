-- What sessions that one plane has taken in know of versions and entries.
use Rattle.std.proofs.Common.{sym, subst}
use mathlib.Core.List.{IsPrefix}
use Rattle.af_prefixes.proofs.PrefixLemmas.{prefix_trans, prefixes_agree}
use Rattle.af_audit.specs.declared.entry.Entry.{Entry}
use Rattle.af_tally.specs.Known.{Known}
use Rattle.af_plane.specs.Closings.{AgreeWith, IsWithin}
use Rattle.af_plane.specs.Laws.{SessionsAgree, SessionsStayWithin}
use Rattle.af_plane.specs.Visits.{PlaneRows, Visit}
use Rattle.af_plane.proofs.StayLemmas.{goes_on}

-- what a session had seen earlier begins what the plane has seen
pub earlier_within : (plane : PlaneRows) (was now : Visit) → IsPrefix was.pass.places now.pass.places → IsPrefix was.entries.entries now.entries.entries
    → IsWithin plane now → IsWithin plane was
earlier_within plane was now versions entries it = record {
  versions = prefix_trans was.pass.places now.pass.places plane.pass.places versions it.versions;
  entries = prefix_trans was.entries.entries now.entries.entries plane.keeper.entries entries it.entries;
}

pub agree_within : (plane : PlaneRows) (one other : Visit) → IsWithin plane one → IsWithin plane other → AgreeWith one other
agree_within plane one other a b = record {
  entries = prefixes_agree one.entries.entries other.entries.entries plane.keeper.entries a.entries b.entries;
  versions = prefixes_agree one.pass.places other.pass.places plane.pass.places a.versions b.versions;
}

pub sessions_agree : SessionsAgree
sessions_agree name plane one other left right exchanges others calls also a b =
    let went = goes_on name one exchanges left calls in
    let came = goes_on name other others right also in
    agree_within plane one other
    (earlier_within plane one left went.versions went.entries a)
    (earlier_within plane other right came.versions came.entries b)

pub sessions_stay_within : SessionsStayWithin
sessions_stay_within old new visit it taken = record {
  versions = prefix_trans visit.pass.places old.pass.places new.pass.places it.versions taken.versions;
  entries = subst (λ (k : Known Entry). IsPrefix visit.entries.entries k.entries) (sym taken.keeper) it.entries;
}
