use Rattle.std.proofs.Common.{◌≡◌, length, sym, ◌∙◌, subst, inl, inr, rules, arith}
use Rattle.std.proofs.lemmas.Bool.{false≢true}
use Rattle.sqlite_wal.specs.Format.{IsSigned}
use Rattle.sqlite_wal.specs.Recovery.{header}
use Rattle.sqlite_wal.proofs.PartLemmas.{held_is_part}
use Rattle.af_journal.specs.LogHeader.{IsBeingEmptied}
use Rattle.af_journal.proofs.log_header.examine.Goals as goal

pub returns-then-is_signed-clause-ok : goal.returns-then-is_signed-clause-ok
returns-then-is_signed-clause-ok g c clean =
    let log = g.D.Disk.seen c.args.log.now in
    let len : length c.read_at.new.buf ≡ 32 = search rules in
    let head : header log ≡ c.read_at.new.buf = held_is_part log _ 0 32 (rw (← c.len.ensures.seen) (c.in_ok-read_at.ensures.read (search rules) (omega arith))) len in
    (search rules, inl (subst IsSigned (sym head) (c.is_signed.ensures.0 c.if-is_signed.true)))

pub returns-then-is_being_emptied-clause-ok : goal.returns-then-is_being_emptied-clause-ok
returns-then-is_being_emptied-clause-ok g c clean =
    let log = g.D.Disk.seen c.args.log.now in
    let len : length c.read_at.new.buf ≡ 32 = search rules in
    let head : header log ≡ c.read_at.new.buf = held_is_part log _ 0 32 (rw (← c.len.ensures.seen) (c.in_ok-read_at.ensures.read (search rules) (omega arith))) len in
    (search rules, inr (subst IsBeingEmptied (sym head) (c.is_being_emptied.ensures.0 c.if-is_being_emptied.true)))

pub returns-clause-ok : goal.returns-clause-ok
returns-clause-ok g c clean =
    let log = g.D.Disk.seen c.args.log.now in
    let len : length c.read_at.new.buf ≡ 32 = search rules in
    let head : header log ≡ c.read_at.new.buf = held_is_part log _ 0 32 (rw (← c.len.ensures.seen) (c.in_ok-read_at.ensures.read (search rules) (omega arith))) len in
    record {
      long = search rules;
      unsigned = λ signed. false≢true (sym c.if-is_signed.false ∙ c.is_signed.ensures.1 (subst IsSigned head signed));
      stays = λ emptied. false≢true (sym c.if-is_being_emptied.false ∙ c.is_being_emptied.ensures.1 (subst IsBeingEmptied head emptied));
    }
