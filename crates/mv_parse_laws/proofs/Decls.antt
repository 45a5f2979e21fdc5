-- A line of declarations without a fault declares lawful nets, with lawful values.
use Rattle.std.proofs.Common.{◌≡◌, ◌≢◌, ℕ, ◌<◌, ◌≤◌, true, ◌==◌, List, [], ◌∷◌, ◌++◌, length, refl, arith}
use Rattle.std.specs.Prelude.{All, nat_lt}
use Rattle.std.specs.List.{list_all, flat_map}
use Rattle.std.proofs.lemmas.Bool.{cond_both, and_from, and_parts, not-false, eqb-true, eqb-false, ltb-false}
use Rattle.std.proofs.lemmas.List.Elements.{All-nil, All-cons, All-head, All-tail, All-push}
use Rattle.mv_base.specs.Names.{among, is_net_name, is_value_name}
use Rattle.mv_base.specs.declared.limits.TheConstants.{MAX_VALUES}
use Rattle.mv_design.specs.declared.design.Decl.{Decl}
use Rattle.mv_fault.specs.declared.fault.Which.TheVariants.{Values}
use Rattle.mv_fault.specs.declared.fault.ParseFault.TheVariants.{BadCount, Limit}
use Rattle.mv_fault.specs.Tells.{when}
use Rattle.mv_fault.proofs.Nothing.{left-nothing, right-nothing, when-nothing}
use Rattle.mv_design.specs.Values.{declared_of}
use Rattle.mv_decl.specs.Nets.{with_decl, with_decls}
use Rattle.mv_decl.specs.Line.{Front, net_name_faults, lacking_faults, front_faults, front_said, number_said, value_names, named_values, told_number, count_faults, value_name_faults, length_faults, redeclared_faults, values_from, nets_said, values_said, decls_for, decls_said, count_line_faults, decl_faults}
use Rattle.mv_decl.proofs.Numbers.{numbers_size}
use Rattle.mv_design.specs.Proper.{IsFileDecl}
use Rattle.mv_decl.proofs.Decimals.{numbers-differ, numbers-lawful}
use Rattle.mv_parse_laws.proofs.Names.{IsNames, no-names, values-named}

-- ---- the nets, and the count behind them

pub net-lawful : (n : ℕ) (w : List ℕ) → net_name_faults n w ≡ [] → is_net_name w ≡ true
unfolding net_name_faults
net-lawful n w none = not-false _ (when-nothing _ _ none)

nets-lawful : (n : ℕ) (nets : List (List ℕ)) → flat_map (net_name_faults n) nets ≡ [] → list_all is_net_name nets ≡ true
nets-lawful n [] none = refl
nets-lawful n (w ∷ ws) none =
    and_from _ _ (net-lawful n w (left-nothing (net_name_faults n w) (flat_map (net_name_faults n) ws) none)) (nets-lawful n ws (right-nothing (net_name_faults n w) (flat_map (net_name_faults n) ws) none))

some-rest : (n : ℕ) (word : List ℕ) (rest : List (List ℕ)) → lacking_faults n word rest ≡ [] → rest ≡ [] → ⊥
some-rest n word [] none e = cc
some-rest n word (w ∷ ws) none e = cc

-- ---- the values

-- what a net may have as its values
pub record IsValues (values : List (List ℕ)) : Type 0 where
  pub some : 0 < length values
  pub few : length values ≤ MAX_VALUES
  pub names : IsNames is_value_name values

values-fit : (n count : ℕ) (names : List (List ℕ)) → 0 < count → count ≤ MAX_VALUES → value_name_faults n [] names ≡ [] → length_faults n count names ≡ [] → IsValues (named_values count names)
values-fit n count [] some few named sized =
    let size = numbers_size count in
    record {
      some = omega arith;
      few = omega arith;
      names = record { lawful = numbers-lawful count (omega arith); differ = numbers-differ count (omega arith) };
    }
values-fit n count (w ∷ ws) some few named sized =
    let size : length (w ∷ ws) ≡ count = eqb-true (length (w ∷ ws)) count (not-false _ (when-nothing _ _ sized)) in
    record { some = omega arith; few = omega arith; names = values-named n [] (w ∷ ws) named (no-names is_value_name) }

count-some : (n : ℕ) (w : List ℕ) → count_faults n w ≡ [] → 0 < number_said w
unfolding count_faults
count-some n w none =
    let other : number_said w ≢ 0 = eqb-false (number_said w) 0 (when-nothing _ _ (left-nothing _ _ none)) in
    omega arith

count-few : (n : ℕ) (w : List ℕ) → count_faults n w ≡ [] → number_said w ≤ MAX_VALUES
unfolding count_faults
count-few n w none =
    ltb-false MAX_VALUES (number_said w) (when-nothing (nat_lt MAX_VALUES (number_said w)) (Limit n Values (told_number (number_said w))) (right-nothing (when (number_said w == 0) (BadCount n w)) (when (nat_lt MAX_VALUES (number_said w)) (Limit n Values (told_number (number_said w)))) none))

line-values : (n : ℕ) (ds : List Decl) (nets ws : List (List ℕ)) → (ws ≡ [] → ⊥) → count_line_faults n ds nets ws ≡ [] → IsValues (values_from ws)
line-values n ds nets [] some none = absurd (some refl)
line-values n ds nets (w ∷ ws) some none =
    let front : (count_faults n w ++ value_name_faults n [] (value_names ws)) ++ length_faults n (number_said w) (value_names ws) ≡ [] = left-nothing _ (redeclared_faults n ds (named_values (number_said w) (value_names ws)) nets) none in
    let counted : count_faults n w ++ value_name_faults n [] (value_names ws) ≡ [] = left-nothing _ (length_faults n (number_said w) (value_names ws)) front in
    let count : count_faults n w ≡ [] = left-nothing _ (value_name_faults n [] (value_names ws)) counted in
    values-fit n (number_said w) (value_names ws) (count-some n w count) (count-few n w count)
    (right-nothing (count_faults n w) (value_name_faults n [] (value_names ws)) counted)
    (right-nothing (count_faults n w ++ value_name_faults n [] (value_names ws)) (length_faults n (number_said w) (value_names ws)) front)

-- ---- the declarations

decls-fit : (values nets : List (List ℕ)) → IsValues values → list_all is_net_name nets ≡ true → All IsFileDecl (decls_for values nets)
decls-fit values [] h lawful = All-nil IsFileDecl
decls-fit values (net ∷ nets) h lawful =
    let p = and_parts _ _ lawful in
    All-cons IsFileDecl (record { net = net; values = values }) (decls_for values nets) (record {
      net = p.0;
      some = h.some;
      few = h.few;
      lawful = h.names.lawful;
      differ = h.names.differ;
    }) (decls-fit values nets h p.1)

pub line-declares : (n : ℕ) (word : List ℕ) (ds : List Decl) (words : List (List ℕ)) → decl_faults n word ds words ≡ [] → All IsFileDecl (decls_said words)
unfolding decl_faults decls_said nets_said values_said
line-declares n word ds words none =
    let front : Front = front_said words in
    let read : front_faults n word front ≡ [] = left-nothing (front_faults n word front) (count_line_faults n ds front.nets front.rest) none in
    let counted : count_line_faults n ds front.nets front.rest ≡ [] = right-nothing (front_faults n word front) (count_line_faults n ds front.nets front.rest) none in
    let lawful = nets-lawful n front.nets (left-nothing (flat_map (net_name_faults n) front.nets) (lacking_faults n word front.rest) read) in
    let rest = some-rest n word front.rest (right-nothing (flat_map (net_name_faults n) front.nets) (lacking_faults n word front.rest) read) in
    decls-fit (values_from front.rest) front.nets (line-values n ds front.nets front.rest rest counted) lawful

-- declarations behind others
module _ (P : Decl → Type 0) where
  All-with_decl : (ds : List Decl) (d : Decl) → All P ds → P d → All P (with_decl ds d)
  unfolding with_decl
  All-with_decl ds d h p = cond_both (among d.net (declared_of ds)) ds (ds ++ d ∷ []) (All P) (λ y. h) (λ n. All-push P ds d h p)

  pub All-with_decls : (ds more : List Decl) → All P ds → All P more → All P (with_decls ds more)
  All-with_decls ds [] h i = h
  All-with_decls ds (d ∷ more) h i = All-with_decls (with_decl ds d) more (All-with_decl ds d h (All-head P d more i)) (All-tail P d more i)
