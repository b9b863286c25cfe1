use Rattle.std.proofs.Common.{◌∙◌, arith, subst, sym}
use Rattle.sqlite_trees.specs.View.{IsClean}
use Rattle.af_journal.proofs.StepLemmas.{clean_if_open}
use Rattle.af_journal.proofs.restart.crash_and_read.Goals as goal

pub over-requires : goal.over-requires
over-requires g c =
    let new = c.crash_and_reopen.new.self in
    let fresh = c.in_ok-crash_and_reopen.ensures.fresh in
    record { fresh = λ is_open. (fresh.clean, fresh.sound (clean_if_open (g.S.Store.view new) (g.met.S.Store.shut_if_dirty new, g.met.S.Store.broken_if_shut new) is_open)) }

pub returns-in-Ok-clause-found : goal.returns-in-Ok-clause-found
returns-in-Ok-clause-found g c is_open =
    let mid = c.crash_and_reopen.new.self in
    let new = c.in-Ok.opened.0.store in
    let clean = clean_if_open (g.S.Store.view new) (g.met.S.Store.shut_if_dirty new, g.met.S.Store.broken_if_shut new) (sym c.in-Ok.ensures.open ∙ is_open) in
    let was : IsClean (g.S.Store.view mid) = omega (arith, c.in-Ok.ensures.quiet.clean, clean) in
    ((g.S.Store.view mid).committed, subst (λ s. g.S.Store.recovers s (g.S.Store.view mid).committed) c.into_store-store.ensures (c.in_ok-crash_and_reopen.ensures.found was), c.in-Ok.ensures.held is_open)
