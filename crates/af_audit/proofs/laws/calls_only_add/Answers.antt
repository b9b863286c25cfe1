use Rattle.af_audit.proofs.FollowLemmas.{claims_follow, followers_follow, looks_follow, reports_follow, requests_follow, ticks_follow}
use Rattle.af_audit.proofs.laws.calls_only_add.Goals as goal

pub returns : goal.returns
returns c = record {
  looks = looks_follow;
  requests = requests_follow;
  ticks = ticks_follow;
  claims = claims_follow;
  reports = reports_follow;
  all = followers_follow;
}
