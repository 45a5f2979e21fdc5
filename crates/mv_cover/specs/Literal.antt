-- Literals.
use Rattle.std.specs.Prelude.{ℕ, refl}
use Rattle.std.specs.Coded.{Coded, code_by, coded×, coded_ℕ}
use Rattle.mv_base.specs.declared.number.NetId.{NetId}

-- a net, and the values of which it has one
pub record Lit : Type 0 where
  pub net : NetId
  pub set : ℕ

abbrev pub lit_code : Coded Lit
lit_code = code_by (ℕ × ℕ) (coded× coded_ℕ coded_ℕ) (λ l. (l.net.0, l.set))
    (λ p. record { net = record { 0 = p.0 }; set = p.1 }) (λ _. refl)
