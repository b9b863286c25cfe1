-- Ledgers that follow one another.
use Rattle.std.proofs.Common.{◌≡◌, ◌∙◌, refl, sym, ap, subst, ℕ, zero, suc, ◌≤◌, ◌<◌, List, [], ◌∷◌, ◌++◌, length, get_or, take, append_assoc, append-nil, arith, inl, inr}
use Rattle.std.proofs.lemmas.List.{length-map}
use Rattle.std.specs.Prelude.{Option, Some, None, Ok, Err, true, false}
use Rattle.std.proofs.Math.ListN.{get_or-map}
use Rattle.std.proofs.Math.Seq.{take-append_seam}
use Rattle.af_sched.specs.State.{StateRows}
use Rattle.af_ops.specs.declared.op.Op.{Op}
use Rattle.af_audit.specs.declared.act.Act.{Act}
use Rattle.af_audit.specs.declared.actor.Actor.{Actor}
use Rattle.af_audit.specs.declared.audit_fault.AuditFault.TheVariants.{HistoryFull, OutOfMemory}
use Rattle.af_audit.specs.declared.entry.Entry.{Entry}
use Rattle.af_audit.specs.declared.report_refusal.ReportRefusal.TheVariants as refusal
use Rattle.af_audit.specs.Answered.{EntersFor}
use Rattle.af_audit.specs.Entries.{IsReplay}
use Rattle.af_audit.specs.Laws.{ClaimsFollow, FollowersFollow, FrontsMakeTheStateThatStood, LooksFollow, ReplayIsOne, ReportsFollow, RequestsFollow, TicksFollow, VersionsNeverFall}
use Rattle.af_audit.specs.Ledgers.{Climb, Follows, LedgerRows, entered, entry_of, versions_of}

-- ---- what each call leaves

-- the same ledger
follows_same : (old new : LedgerRows) → new ≡ old → Follows old new
follows_same old new same =
    let version : new.version ≡ old.version = ap (λ (l : LedgerRows). l.version) same in
    record {
      opening = ap (λ (l : LedgerRows). l.opening) same;
      limit = ap (λ (l : LedgerRows). l.audit.limit) same;
      more = [];
      entries = ap (λ (l : LedgerRows). l.audit.entries) same ∙ sym (append-nil old.audit.entries);
      version = omega (arith, version);
    }

-- one entry more
follows_entered : (old new : LedgerRows) (who : Actor) (it : Act) (t : ℕ) (next : StateRows) → new ≡ entered old who it t next → Follows old new
follows_entered old new who it t next is =
    let version : new.version ≡ old.version = ap (λ (l : LedgerRows). l.version) is in
    record {
      opening = ap (λ (l : LedgerRows). l.opening) is;
      limit = ap (λ (l : LedgerRows). l.audit.limit) is;
      more = entry_of old who it t ∷ [];
      entries = ap (λ (l : LedgerRows). l.audit.entries) is;
      version = omega (arith, version);
    }

pub looks_follow : LooksFollow
looks_follow old version le = record {
  opening = refl;
  limit = refl;
  more = [];
  entries = sym (append-nil old.audit.entries);
  version = le;
}

enters_follow : (who : Option (List ℕ)) (asked : Op) (t : ℕ) (old new : LedgerRows) → EntersFor who asked t old new → Follows old new
enters_follow None asked t old new enters = absurd enters
enters_follow (Some user) asked t old new enters = follows_entered old new _ _ t new.state enters.ledger

pub requests_follow : RequestsFollow
requests_follow who asked t old new (inl same) = follows_same old new same
requests_follow who asked t old new (inr enters) = enters_follow who asked t old new enters

pub ticks_follow : TicksFollow
ticks_follow t old new (Ok true) is = follows_entered old new _ _ t new.state is.ledger
ticks_follow t old new (Ok false) is = follows_same old new is.ledger
ticks_follow t old new (Err HistoryFull) is = follows_same old new is.ledger
ticks_follow t old new (Err OutOfMemory) is = follows_same old new is

pub claims_follow : ClaimsFollow
claims_follow t old new (Ok None) is = follows_same old new is.ledger
claims_follow t old new (Ok (Some claim)) is = follows_entered old new _ _ t new.state is.ledger
claims_follow t old new (Err HistoryFull) is = follows_same old new is.ledger
claims_follow t old new (Err OutOfMemory) is = follows_same old new is.ledger

pub reports_follow : ReportsFollow
reports_follow t claim outcome old new (Ok done) is = follows_entered old new _ _ t _ is.ledger
reports_follow t claim outcome old new (Err (refusal.Fault fault)) is = follows_same old new is.1
reports_follow t claim outcome old new (Err (refusal.Audit HistoryFull)) is = follows_same old new is.ledger
reports_follow t claim outcome old new (Err (refusal.Audit OutOfMemory)) is = follows_same old new is.ledger

pub followers_follow : FollowersFollow
followers_follow first second third one two =
    let low = one.version in
    let high = two.version in
    record {
      opening = two.opening ∙ one.opening;
      limit = two.limit ∙ one.limit;
      more = one.more ++ two.more;
      entries =
          two.entries ∙ ap (λ (entries : List Entry). entries ++ two.more) one.entries
          ∙ append_assoc first.audit.entries one.more two.more;
      version = omega (arith, low, high);
    }

-- ---- versions

-- the last number is no lower than the first bound
climb_end : (low : ℕ) (ns : List ℕ) (n : ℕ) → Climb low (ns ++ n ∷ []) → low ≤ n
climb_end low [] n c = c.0
climb_end low (k ∷ ks) n c =
    let first = c.0 in
    let rest : k ≤ n = climb_end k ks n c.1 in
    omega (arith, first, rest)

-- each number lies between the first bound and the last number
climb_at : (low : ℕ) (ns : List ℕ) (n i d : ℕ) → Climb low (ns ++ n ∷ []) → i < length ns → (low ≤ get_or ns i d) × (get_or ns i d ≤ n)
climb_at low [] n i d c inside = absurd (omega (arith, inside))
climb_at low (k ∷ ks) n zero d c inside = (c.0, climb_end k ks n c.1)
climb_at low (k ∷ ks) n (suc i) d c inside =
    let first = c.0 in
    let rest = climb_at k ks n i d c.1 (omega (arith, inside)) in
    let above : k ≤ get_or ks i d = rest.0 in
    (omega (arith, first, above), rest.1)

climb_between : (low : ℕ) (ns : List ℕ) (n i j d : ℕ) → Climb low (ns ++ n ∷ []) → i ≤ j → j < length ns → get_or ns i d ≤ get_or ns j d
climb_between low [] n i j d c le inside = absurd (omega (arith, inside))
climb_between low (k ∷ ks) n zero zero d c le inside = omega arith
climb_between low (k ∷ ks) n zero (suc j) d c le inside = (climb_at k ks n j d c.1 (omega (arith, inside))).0
climb_between low (k ∷ ks) n (suc i) zero d c le inside = absurd (omega (arith, le))
climb_between low (k ∷ ks) n (suc i) (suc j) d c le inside = climb_between k ks n i j d c.1 (omega (arith, le)) (omega (arith, inside))

-- the version of the entry at a place
version_at : (entries : List Entry) (i : ℕ) (d : Entry) → get_or (versions_of entries) i d.version ≡ (get_or entries i d).version
version_at entries i d = get_or-map (λ (entry : Entry). entry.version) entries i d

pub never_fall : VersionsNeverFall
never_fall ledger place later d is le inside =
    let entries : List Entry = ledger.audit.entries in
    let long : length (versions_of entries) ≡ length entries = length-map entries (λ (entry : Entry). entry.version) in
    let one = version_at entries place d in
    let other = version_at entries later d in
    let between : get_or (versions_of entries) place d.version ≤ get_or (versions_of entries) later d.version =
    climb_between 0 (versions_of entries) ledger.version place later d.version is.climbs le (omega (arith, long, inside)) in
    let at = climb_at 0 (versions_of entries) ledger.version later d.version is.climbs (omega (arith, long, inside)) in
    let most : get_or (versions_of entries) later d.version ≤ ledger.version = at.1 in
    (omega (arith, one, other, between), omega (arith, other, most))

-- ---- the state that stood

pub fronts_stood : ReplayIsOne → FrontsMakeTheStateThatStood
fronts_stood one old new was is follows made =
    let front : take (length old.audit.entries) new.audit.entries ≡ old.audit.entries =
    ap (take (length old.audit.entries)) follows.entries ∙ take-append_seam old.audit.entries follows.more in
    let first : IsReplay new.opening old.audit.entries was = subst (λ (entries : List Entry). IsReplay new.opening entries was) front made in
    one old.audit.entries old.opening was old.state is.opens
    (subst (λ (s : StateRows). IsReplay s old.audit.entries was) follows.opening first) is.replays
