-- Columns by numbers that may be others.
use Rattle.std.specs.Prelude.{◌≡◌, ℕ, true, nat_eq, List}
use Rattle.mv_base.specs.Names.{among}
use Rattle.mv_rows.specs.declared.column.Column.{Column}

-- for one word after the other, columns with as many values, of which the same are of one net
pub record AreRenumbered (f g : List ℕ → Column) (ws : List (List ℕ)) : Type 0 where
  pub counts : (u : List ℕ) → among u ws ≡ true → (f u).count ≡ (g u).count
  pub nets : (u w : List ℕ) → among u ws ≡ true → among w ws ≡ true
      → nat_eq (f u).net.0 (f w).net.0 ≡ nat_eq (g u).net.0 (g w).net.0
