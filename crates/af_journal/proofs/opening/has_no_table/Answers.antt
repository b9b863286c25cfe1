use Rattle.std.proofs.Common.{◌≡◌, List, [], ◌∷◌, length, refl, rules}
use Rattle.sqlite_value.specs.Order.{Row}
use Rattle.af_journal.proofs.opening.has_no_table.Goals as goal

none : (rows : List Row) → length rows ≡ 0 → rows ≡ []
none [] h = refl
none (x ∷ xs) h = absurd (cc)

pub returns-then-is_empty-clause-ok : goal.returns-then-is_empty-clause-ok
returns-then-is_empty-clause-ok g c clean =
    let count : length c.in_ok-rows.rows.items ≡ 0 = search rules in
    (c.in_ok-rows.rows.items, c.in_ok-rows.ensures.ok clean, λ _. none c.in_ok-rows.rows.items count)
