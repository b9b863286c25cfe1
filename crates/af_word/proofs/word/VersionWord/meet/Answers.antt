use Rattle.std.proofs.Common.{◌≡◌, arith, sym, ap, ◌∙◌, length, ℕ}
use Rattle.atomic_table.specs.Table.{Me}
use Rattle.af_word.specs.declared.view.View.{View}
use Rattle.af_word.specs.Places.{Sight, WordId}
use Rattle.af_word.proofs.StepLemmas.{joins, looks}
use Rattle.af_word.proofs.word.VersionWord.meet.Goals as goal

pub join_seat-requires : goal.join_seat-requires
join_seat-requires c = (
  ap (λ (p : Sight). p.word.table) c.pass.view_is ∙ (ap (λ (w : WordId). w.table) c.requires.pass ∙ sym (ap (λ (w : WordId). w.table) c.self.view_is)),
  ap (λ (p : Sight). p.word.table) c.other.view_is ∙ (ap (λ (w : WordId). w.table) c.requires.other ∙ sym (ap (λ (w : WordId). w.table) c.self.view_is)),
  c.other.invariant.0,
  omega (arith, c.self.invariant.0),
  joins _ _ _ _ _ _,
)

pub load-found-requires : goal.load-found-requires
load-found-requires c =
    let seen : length c.join_seat.new.seat.me.0.seen ≡ length c.pass.inside.seat.me.0.seen = ap (λ (m : Me ℕ View). length m.0.seen) c.join_seat.ensures.2 in (
      c.join_seat.ensures.0
          ∙ (ap (λ (p : Sight). p.word.table) c.pass.view_is ∙ (ap (λ (w : WordId). w.table) c.requires.pass ∙ sym (ap (λ (w : WordId). w.table) c.self.view_is))),
      omega (arith, c.self.invariant.0),
      looks _ _ _ _ _ (omega (arith, seen, c.pass.invariant.3.last)),
    )
