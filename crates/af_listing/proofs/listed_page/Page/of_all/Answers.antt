use Rattle.std.proofs.Common.{◌≡◌, ℕ, ◌+◌, ◌-◌, List, ap, ◌∙◌, arith}
use Rattle.std.specs.Prelude.{min}
use Rattle.std.specs.List.{range_with_len}
use Rattle.af_listing.specs.Pages.{Told}
use Rattle.af_listing.proofs.WholeLemmas.{numbers_cut}
use Rattle.af_listing.proofs.listed_page.Page.of_all.Goals as goal

abbrev told : ℕ → List ℕ → Told
told total places = record { places = places; total = total }

pub returns : goal.returns
returns c =
    let first : c.min-first.result ≡ min c.args.window.offset c.args.total = c.min-first.ensures ∙ ap (λ n. min n c.args.total) c.offset.ensures
    in let count : c.min-count.result ≡ min c.args.window.limit (c.args.total - min c.args.window.offset c.args.total) =
    c.min-count.ensures ∙ (λ i. min (c.limit.ensures.value i) (c.args.total - first i))
    in let long : (c.min-first.result + c.min-count.result) - c.min-first.result ≡ c.min-count.result = omega arith
    in ap (told c.args.total)
    (c.in_ok-places.ensures ∙ ap (range_with_len c.min-first.result) long ∙ (λ i. range_with_len (first i) (count i))
    ∙ numbers_cut c.args.window.limit c.args.window.offset c.args.total)
