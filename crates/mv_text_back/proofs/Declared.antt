-- The line that declares one net: it says the net and its values, and has no fault where the net is new.
use Rattle.std.proofs.Common.{◌≡◌, ◌∙◌, ℕ, ◌^◌, ◌<◌, ◌≤◌, true, false, List, [], ◌∷◌, ◌++◌, length, decimal, refl, ap, arith}
use Rattle.std.specs.List.{list_all}
use Rattle.std.proofs.lemmas.Bool.{and_from, le-ltb, ne_eqb, eq-eqb}
use Rattle.mv_base.specs.Names.{among, is_net_name, is_value_name}
use Rattle.mv_base.specs.declared.limits.TheConstants.{MAX_VALUES}
use Rattle.mv_base.proofs.Lists.{all-weaker}
use Rattle.mv_design.specs.declared.design.Decl.{Decl}
use Rattle.mv_design.specs.Values.{declared_of}
use Rattle.mv_decl.specs.Line.{commas_apart, Front, front_said, net_name_faults, front_faults, value_names, named_values, count_faults, length_faults, is_redeclared, redeclared_faults, values_from, nets_said, values_said, decls_said, count_line_faults, decl_faults}
use Rattle.mv_net.specs.Nets.{spelled_values}
use Rattle.mv_net.specs.Formed.{IsNamed}
use Rattle.mv_decl.proofs.Decimals.{decimal-value_name}
use Rattle.mv_decl.proofs.Words.{is_piece, pieces, no_word, net_piece, value_piece, names_kept}
use Rattle.mv_text_back.proofs.Counts.{decimal-digits, number-decimal}
use Rattle.mv_text_back.proofs.NewNames.{names-none}

values_pieces : (ws : List (List ℕ)) → list_all is_value_name ws ≡ true → list_all is_piece ws ≡ true
values_pieces ws e = all-weaker is_value_name is_piece value_piece ws e

-- ---- the line

abbrev pub declared_words : List ℕ → ℕ → List (List ℕ) → List (List ℕ)
declared_words name values names = name ∷ decimal values ∷ names

-- a lawful net, with some values and their names
pub record IsSaid (name : List ℕ) (values : ℕ) (names : List (List ℕ)) : Type 0 where
  pub net : is_net_name name ≡ true
  pub some : 0 < values
  pub few : values ≤ MAX_VALUES
  pub named : IsNamed values names

module _ (name : List ℕ) (values : ℕ) (names : List (List ℕ)) (is : IsSaid name values names) where
  small : values < 2 ^ 64
  small = omega (arith, is.few)

  name_piece : is_piece name ≡ true
  name_piece = net_piece name is.net

  count_piece : is_piece (decimal values) ≡ true
  count_piece = value_piece (decimal values) (decimal-value_name values small)

  apart : commas_apart (declared_words name values names) ≡ declared_words name values names
  apart = pieces (declared_words name values names) (and_from (is_piece name) _ name_piece (and_from (is_piece (decimal values)) _ count_piece (values_pieces names is.named.lawful)))

  one_front : front_said (declared_words name values names) ≡ record { nets = name ∷ []; rest = decimal values ∷ names }
  one_front = rw (apart, no_word name name_piece, no_word (decimal values) count_piece, decimal-digits values small) refl

  one_net : nets_said (declared_words name values names) ≡ name ∷ []
  unfolding nets_said
  one_net = ap (λ (f : Front). f.nets) one_front

  kept : value_names names ≡ names
  kept = names_kept names (values_pieces names is.named.lawful)

  same_names : (ws : List (List ℕ)) → named_values values ws ≡ spelled_values values ws
  same_names [] = refl
  same_names (w ∷ ws) = refl

  one_said : values_said (declared_words name values names) ≡ spelled_values values names
  unfolding values_said
  one_said = ap (λ (f : Front). values_from f.rest) one_front ∙ rw (kept, number-decimal values small) (same_names names)

  -- it says the net with its values
  pub declares : decls_said (declared_words name values names) ≡ record { net = name; values = spelled_values values names } ∷ []
  unfolding decls_said
  declares = rw (one_net, one_said) refl

  count_none : (n : ℕ) → count_faults n (decimal values) ≡ []
  unfolding count_faults
  count_none n = rw (number-decimal values small, ne_eqb values 0 (λ e. omega (arith, is.some)), le-ltb MAX_VALUES values is.few) refl

  length_none : (n : ℕ) (ws : List (List ℕ)) → (0 < length ws → length ws ≡ values) → length_faults n values ws ≡ []
  length_none n [] each = refl
  length_none n (w ∷ ws) each = rw (eq-eqb (length (w ∷ ws)) values (each (omega arith))) refl

  new_none : (n : ℕ) (ds : List Decl) (said : List (List ℕ)) → among name (declared_of ds) ≡ false → redeclared_faults n ds said (name ∷ []) ≡ []
  unfolding is_redeclared
  new_none n ds said new = rw new refl

  -- and has no fault behind other nets
  pub declared-none : (n : ℕ) (word : List ℕ) (ds : List Decl) → among name (declared_of ds) ≡ false → decl_faults n word ds (declared_words name values names) ≡ []
  unfolding decl_faults net_name_faults
  declared-none n word ds new =
      ap (λ (f : Front). front_faults n word f ++ count_line_faults n ds f.nets f.rest) one_front
      ∙ rw (is.net, kept, number-decimal values small, count_none n, names-none n [] names is.named.lawful is.named.differ, length_none n names is.named.each, new_none n ds (named_values values names) new) refl
