-- What is known of a list of entries, and of which keeper. This product's own rule.
use Rattle.std.specs.Prelude.{List, refl}
use Rattle.std.specs.Coded.{Coded, code_by, coded×, coded_list}
use Rattle.atomic_table.specs.Seated.{TableId, table_id_coded}

-- the entries that were seen, and which keeper they are of: the table whose word counts them
pub record Known (E : Type 0) : Type 0 where
  pub keeper : TableId
  pub entries : List E

abbrev pub known_coded : {E : Type 0} → Coded E → Coded (Known E)
known_coded {E} c =
    code_by (TableId × List E) (coded× table_id_coded (coded_list c)) (λ k. (k.keeper, k.entries)) (λ p. record { keeper = p.0; entries = p.1 }) (λ _. refl)
