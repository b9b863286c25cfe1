use Rattle.std.proofs.Common.{◌≡◌, ℕ, arith, sym, ap, subst, ◌∙◌, length, List}
use Rattle.af_word.specs.Places.{Sight, WordId, EndsAt, Names}
use Rattle.af_word.proofs.RunLemmas.{names_word}
use Rattle.af_word.proofs.StepLemmas.{publishes}
use Rattle.af_word.proofs.word.VersionWord.publish.Goals as goal

-- the pass has seen the list that ends at `at`, and the word that would follow names the version behind it
pub compare_exchange-stood-requires : goal.compare_exchange-stood-requires
compare_exchange-stood-requires c =
    let places : List ℕ = c.pass.inside.seat.me.0.seen in
    let version : ℕ = c.seen-seen.result.version in
    let index : ℕ = c.seen-seen.result.index in
    let ends : EndsAt places version index = subst (λ (p : Sight). EndsAt p.places version index) (sym c.pass.view_is) c.seen-seen.ensures.seen in
    let same : length places ≡ length c.args.pass.now.places = ap (λ (p : Sight). length p.places) c.pass.view_is in
    let at : version ≡ c.args.at = omega (arith, same, ends.last, c.requires.seen, c.if-seen-at.false) in
    let whose : c.pass.inside.seat.me.0.last ≡ c.self.inside.last = ap (λ (p : Sight). p.word.last) c.pass.view_is ∙ (ap (λ (w : WordId). w.last) c.requires.word ∙ sym (ap (λ (w : WordId). w.last) c.self.view_is)) in (
      ap (λ (p : Sight). p.word.table) c.pass.view_is ∙ (ap (λ (w : WordId). w.table) c.requires.word ∙ sym (ap (λ (w : WordId). w.table) c.self.view_is)),
      omega (arith, c.self.invariant.0),
      publishes _ _ _ _ _ _ _
          (subst (λ (n : ℕ). Names n places) (sym c.packed.ensures) (names_word places version index (omega (arith, c.seen-seen.type_inv)) ends))
          (omega (arith, c.packed.ensures, c.packed-2.ensures, c.ranges.index.fits))
          (omega (arith, c.packed.ensures, c.pass.invariant.2.short, ends.last, at, whose, c.if-at-self.false)),
    )
