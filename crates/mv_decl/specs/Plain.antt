-- What a line `.mv` may look like, in the words of the format.
use Rattle.std.specs.Prelude.{◌≡◌, ℕ, ◌<◌, not, List, ◌∷◌, ◌++◌, length, drop, IsTrue}
use Rattle.std.specs.List.{list_all}
use Rattle.mv_base.specs.Names.{is_net_name, is_value_name}
use Rattle.mv_design.specs.declared.design.Decl.{Decl}
use Rattle.mv_decl.specs.Line.{is_digits, nets_said, values_said, decl_faults}

-- the words are names of nets, of which none behind the first has digits only, then the count in
-- digits, then names of values
pub record IsPlainLine (words nets : List (List ℕ)) (count : List ℕ) (values : List (List ℕ))
    : Type 0 where
  pub parts : words ≡ nets ++ count ∷ values
  pub some : 0 < length nets
  pub lawful : IsTrue (list_all is_net_name nets)
  pub behind : IsTrue (list_all (λ w. not (is_digits w)) (drop 1 nets))
  pub digits : IsTrue (is_digits count)
  pub counted : 0 < length count
  pub spelled : IsTrue (list_all is_value_name values)

-- two lines give the same nets the same values, and have the same faults wherever they stand
pub record SayTheSame (words others : List (List ℕ)) : Type 0 where
  pub nets : nets_said words ≡ nets_said others
  pub values : values_said words ≡ values_said others
  pub faults : (n : ℕ) (word : List ℕ) (ds : List Decl)
      → decl_faults n word ds words ≡ decl_faults n word ds others

-- words made of the names of two nets, of which the second has more than digits, say the same as
-- the two names
abbrev pub SayTwoNames : (List ℕ → List ℕ → List (List ℕ)) → Type 0
SayTwoNames made =
    (a : List (List ℕ)) (w x : List ℕ) (b : List (List ℕ)) → IsTrue (is_net_name w)
    → IsTrue (is_net_name x) → IsTrue (not (is_digits x))
    → SayTheSame (a ++ (made w x ++ b)) (a ++ w ∷ x ∷ b)
