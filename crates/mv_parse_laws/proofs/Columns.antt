-- The first line of a table or a reset table, if it has no fault, names lawful columns, and outputs among them: a table some,
-- a reset table one.
use Rattle.std.proofs.Common.{◌≡◌, ℕ, ◌+◌, ◌<◌, ◌≤◌, true, false, not, ◌==◌, List, [], ◌∷◌, ◌++◌, length, refl, arith}
use Rattle.std.specs.Prelude.{nat_le, nat_lt}
use Rattle.std.specs.List.{list_all}
use Rattle.std.proofs.lemmas.Bool.{and_from, not-false, ltb-false}
use Rattle.std.proofs.lemmas.Bool.Decides.{nat_tests}
use Rattle.mv_base.specs.Names.{among, is_net_name}
use Rattle.mv_base.specs.declared.limits.TheConstants.{MAX_COLUMNS}
use Rattle.mv_fault.specs.declared.fault.Which.TheVariants.{Columns}
use Rattle.mv_fault.specs.declared.fault.ParseFault.TheVariants.{Limit, BadName, Missing, Extra, Repeated}
use Rattle.mv_fault.specs.Tells.{when}
use Rattle.mv_fault.proofs.Nothing.{left-nothing, right-nothing, when-nothing}
use Rattle.mv_table.specs.Columns.{ins_of, outs_of, column_faults, names_faults, outputs_faults, columns_faults, output_faults, reset_faults}
use Rattle.mv_parse.specs.declared.command.Command.TheVariants.{Table, Reset}
use Rattle.mv_parse_laws.proofs.Rows.{HasColumns}

column-lawful : (n at : ℕ) (w : List ℕ) → column_faults n at w ≡ [] → is_net_name w ≡ true
column-lawful n at w none =
    let many = when (nat_le MAX_COLUMNS at) (Limit n Columns (MAX_COLUMNS + 1)) in
    let bad = when (not (is_net_name w)) (BadName n w) in
    not-false _ (when-nothing _ _ (right-nothing many bad none))

pub names-lawful : (n at : ℕ) (ws : List (List ℕ)) → names_faults n at ws ≡ [] → list_all is_net_name ws ≡ true
names-lawful n at [] none = refl
names-lawful n at (w ∷ ws) none =
    let behind = names_faults n (at + 1) ws in
    and_from _ _ (column-lawful n at w (left-nothing (column_faults n at w) behind none))
    (names-lawful n (at + 1) ws (right-nothing (column_faults n at w) behind none))

outputs-lawful : (n at : ℕ) (earlier ws : List (List ℕ)) → outputs_faults n at earlier ws ≡ [] → list_all is_net_name ws ≡ true
outputs-lawful n at earlier [] none = refl
outputs-lawful n at earlier (w ∷ ws) none =
    let here = column_faults n at w in
    let twice = when (among w earlier) (Repeated n w) in
    let behind = outputs_faults n (at + 1) (earlier ++ w ∷ []) ws in
    and_from _ _ (column-lawful n at w (left-nothing here twice (left-nothing (here ++ twice) behind none)))
    (outputs-lawful n (at + 1) (earlier ++ w ∷ []) ws (right-nothing (here ++ twice) behind none))

some-outputs : (n : ℕ) → (n == 0) ≡ false → 0 < n
some-outputs n e = grind (arith, nat_tests)

pub line-columns : (n : ℕ) (word : List ℕ) (words : List (List ℕ)) → columns_faults n word words ≡ [] → HasColumns Table words
unfolding columns_faults
line-columns n word words none =
    let ins = names_faults n 0 (ins_of words) in
    let outs = outputs_faults n (length (ins_of words)) [] (outs_of words) in
    let lacks = when (length (outs_of words) == 0) (Missing n word) in
    let names : ins ++ outs ≡ [] = left-nothing (ins ++ outs) lacks none in
    record {
      inputs = names-lawful n 0 (ins_of words) (left-nothing ins outs names);
      outputs = outputs-lawful n (length (ins_of words)) [] (outs_of words) (right-nothing ins outs names);
      some = some-outputs (length (outs_of words)) (when-nothing _ _ (right-nothing (ins ++ outs) lacks none));
      single = λ e. cc;
    }

-- ---- a reset table

-- its output: one lawful name
record IsOutput (ws : List (List ℕ)) : Type 0 where
  lawful : list_all is_net_name ws ≡ true
  single : length ws ≡ 1

output-one : (n : ℕ) (word : List ℕ) (at : ℕ) (ws : List (List ℕ)) → output_faults n word at ws ≡ [] → IsOutput ws
output-one n word at [] none = cc
output-one n word at (w ∷ []) none =
    record { lawful = names-lawful n at (w ∷ []) (left-nothing (names_faults n at (w ∷ [])) [] none); single = refl }
output-one n word at (w ∷ v ∷ ws) none =
    let more : nat_lt 0 (length (v ∷ ws)) ≡ false = when-nothing _ (Extra n word) (right-nothing (names_faults n at (w ∷ [])) _ none) in
    let no_more : length (v ∷ ws) ≤ 0 = ltb-false 0 (length (v ∷ ws)) more in
    absurd (omega arith)

pub reset-columns : (n : ℕ) (word : List ℕ) (words : List (List ℕ)) → reset_faults n word words ≡ [] → HasColumns Reset words
unfolding reset_faults
reset-columns n word words none =
    let ins = names_faults n 0 (ins_of words) in
    let outs = output_faults n word (length (ins_of words)) (outs_of words) in
    let output = output-one n word (length (ins_of words)) (outs_of words) (right-nothing ins outs none) in
    let single = output.single in
    record {
      inputs = names-lawful n 0 (ins_of words) (left-nothing ins outs none);
      outputs = output.lawful;
      some = omega (arith, single);
      single = λ e. single;
    }
