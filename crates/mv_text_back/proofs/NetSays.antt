-- The lines of a network, one behind the other: the first, the others of its model, and its end.
use Rattle.std.proofs.Common.{◌≡◌, ◌∙◌, ℕ, ◌+◌, Bool, true, false, List, [], ◌∷◌, ◌++◌, length, map, refl, ap, ⊎_elim, append-nil}
use Rattle.std.specs.Prelude.{Option, Some, None, codes}
use Rattle.std.specs.List.{list_all, flat_map}
use Rattle.std.proofs.lemmas.Bool.{cases_Bool, and_from}
use Rattle.std.proofs.lemmas.List.Folds.{list_all-append}
use Rattle.std.proofs.lemmas.Grind.{flat_map-append}
use Rattle.mv_lex.specs.declared.lines.LexLine.{LexLine}
use Rattle.mv_design.specs.declared.design.Decl.{Decl}
use Rattle.mv_parse.specs.declared.command.Command.{Command}
use Rattle.mv_parse.specs.declared.command.Command.TheVariants.{Mv, Latch}
use Rattle.mv_parse.specs.Commands.{command_at}
use Rattle.mv_parse.specs.Known.{inputs_of, outputs_of, decls_of, tables_of, latch_at, latches_of, resets_of, instances_of}
use Rattle.mv_parse.specs.Grammar.{tables_faults}
use Rattle.mv_net.specs.declared.parts.FlatNet.{FlatNet}
use Rattle.mv_net.specs.declared.parts.NetParts.{NetParts}
use Rattle.mv_text.specs.Text.{decl_words, latch_words, net_words, inner_lines, net_lines, names_of}
use Rattle.mv_text_back.proofs.TextModel.{needs_none}
use Rattle.mv_text_back.proofs.Commands.{command-model, command-inputs, command-outputs, command-mv}
use Rattle.mv_text_back.proofs.Opened.{goes_on}
use Rattle.mv_lines_back.proofs.LinesFrom.{lines_from-append}
use Rattle.mv_text_back.proofs.Tells.{all_pass, AllAre, are-pass, is_of_table, is_inner, is_other_than_mv, is_other_than_latch, begins_none, says_none, tables-inner, tables-no_mv, tables-no_latch}
use Rattle.mv_text_back.proofs.Tells.{inner-goes, inner-inputs, inner-outputs, inner-instances, decls-front, others-latches, tables-behind, resets-behind, AllValued, none-valued, values-behind}
use Rattle.mv_text_back.proofs.LatchLines.{are-latches}
use Rattle.mv_lines_back.specs.TextWords.{lines_from}

-- ---- the lines

abbrev pub model_line : NetParts → LexLine
model_line net = record { number = 1; words = codes ".model" ∷ net.root ∷ [] }

abbrev pub inputs_line : NetParts → LexLine
inputs_line net = record { number = 2; words = codes ".inputs" ∷ names_of net.nets net.inputs }

abbrev pub outputs_line : NetParts → LexLine
outputs_line net = record { number = 3; words = codes ".outputs" ∷ names_of net.nets net.outputs }

abbrev pub decl_part : NetParts → List LexLine
decl_part net = lines_from 4 (flat_map decl_words net.nets)

abbrev pub latches_from : NetParts → ℕ
latches_from net = 4 + length (flat_map decl_words net.nets)

abbrev pub latch_part : NetParts → List LexLine
latch_part net = lines_from (latches_from net) (map (latch_words net.nets) net.latches)

abbrev pub tables_from : NetParts → ℕ
tables_from net = latches_from net + length (map (latch_words net.nets) net.latches)

abbrev pub table_part : NetParts → List LexLine
table_part net = lines_from (tables_from net) (flat_map (net_words net.nets) net.nets)

abbrev pub end_line : NetParts → LexLine
end_line net = record { number = 4 + length (inner_lines net); words = codes ".end" ∷ [] }

-- those between the outputs and the end
abbrev pub inner_part : NetParts → List LexLine
inner_part net = decl_part net ++ (latch_part net ++ table_part net)

-- those between the first and the last
abbrev pub body : NetParts → List LexLine
body net = inputs_line net ∷ outputs_line net ∷ inner_part net

pub net-split : (net : NetParts) → lines_from 1 (net_lines net) ≡ model_line net ∷ body net ++ end_line net ∷ []
unfolding net_lines
net-split net =
    let dw = flat_map decl_words net.nets in
    let lw = map (latch_words net.nets) net.latches in
    let tw = flat_map (net_words net.nets) net.nets in
    let inner : lines_from 4 (dw ++ (lw ++ tw)) ≡ inner_part net = lines_from-append 4 dw (lw ++ tw) ∙ ap (λ ls. decl_part net ++ ls) (lines_from-append (latches_from net) lw tw) in
    ap (λ ls. model_line net ∷ inputs_line net ∷ outputs_line net ∷ ls)
    (lines_from-append 4 (inner_lines net) ((codes ".end" ∷ []) ∷ []) ∙ ap (λ ls. ls ++ end_line net ∷ []) inner)

-- ---- declarations are lines of declarations alone

pub decls-alone : (n : ℕ) (fs : List (Option FlatNet)) → AllAre Mv (lines_from n (flat_map decl_words fs))
decls-alone n [] = tt
decls-alone n (None ∷ fs) = decls-alone n fs
decls-alone n (Some f ∷ fs) =
    ⊎_elim
    (λ (y : needs_none f ≡ true). rw y (decls-alone n fs))
    (λ (other : needs_none f ≡ false). rw other (command-mv, decls-alone (n + 1) fs))
    (cases_Bool (needs_none f))

-- the inner lines of a network whose last lines are lines of tables
module _ (net : NetParts) (tables : all_pass is_of_table (table_part net) ≡ true) where
  decls_pass : (test : Command → Bool) → test Mv ≡ true → all_pass test (decl_part net) ≡ true
  decls_pass test e = are-pass test Mv e (decl_part net) (decls-alone 4 net.nets)

  latches_pass : (test : Command → Bool) → test Latch ≡ true → all_pass test (latch_part net) ≡ true
  latches_pass test e = are-pass test Latch e (latch_part net) (are-latches net.nets (latches_from net) net.latches)

  pass_append : (test : Command → Bool) (xs ys : List LexLine) → all_pass test xs ≡ true → all_pass test ys ≡ true → all_pass test (xs ++ ys) ≡ true
  pass_append test xs ys a b = list_all-append (λ l. test (command_at l)) xs ys ∙ and_from _ _ a b

  pub inner_are : all_pass is_inner (inner_part net) ≡ true
  inner_are =
      pass_append is_inner (decl_part net) _ (decls_pass is_inner refl) (pass_append is_inner (latch_part net) (table_part net) (latches_pass is_inner refl) (tables-inner (table_part net) tables))

  -- no line but the last ends the model
  pub net-goes : list_all goes_on (model_line net ∷ body net) ≡ true
  net-goes = rw (command-model, command-inputs, command-outputs) (inner-goes (inner_part net) inner_are)

  -- ---- what they say

  pub net-inputs : inputs_of (body net) ≡ names_of net.nets net.inputs
  net-inputs = rw (command-inputs, command-outputs, inner-inputs (inner_part net) inner_are) (append-nil (names_of net.nets net.inputs))

  pub net-outputs : outputs_of (body net) ≡ names_of net.nets net.outputs
  net-outputs = rw (command-inputs, command-outputs, inner-outputs (inner_part net) inner_are) (append-nil (names_of net.nets net.outputs))

  -- no line says an instance
  pub net-instances : instances_of (body net) ≡ []
  net-instances = rw (command-inputs, command-outputs) (inner-instances (inner_part net) inner_are)

  -- lines of latches and of tables declare nothing
  pub net-decls : (front : List LexLine) → decls_of (front ++ (latch_part net ++ table_part net)) ≡ decls_of front
  net-decls front =
      decls-front front (latch_part net ++ table_part net) (pass_append is_other_than_mv (latch_part net) (table_part net) (latches_pass is_other_than_mv refl) (tables-no_mv (table_part net) tables))

  pub net-latches : latches_of (body net) ≡ latches_of (latch_part net)
  net-latches =
      let F = λ (l : LexLine). latch_at (command_at l) l in
      let decls = others-latches (decl_part net) (decls_pass is_other_than_latch refl) in
      let none = others-latches (table_part net) (tables-no_latch (table_part net) tables) in
      rw (command-inputs, command-outputs, flat_map-append F (decl_part net) (latch_part net ++ table_part net), flat_map-append F (latch_part net) (table_part net), decls, none)
      (append-nil (latches_of (latch_part net)))

  pub net-tables : (ds : List Decl) → tables_of ds (body net) ≡ tables_of ds (table_part net)
  net-tables ds =
      rw (command-inputs, command-outputs)
      (tables-behind ds (decl_part net) (latch_part net ++ table_part net) (decls_pass begins_none refl) ∙ tables-behind ds (latch_part net) (table_part net) (latches_pass begins_none refl))

  pub net-resets : (ds : List Decl) → resets_of ds (body net) ≡ resets_of ds (table_part net)
  net-resets ds =
      rw (command-inputs, command-outputs)
      (resets-behind ds (decl_part net) (latch_part net ++ table_part net) (decls_pass begins_none refl) ∙ resets-behind ds (latch_part net) (table_part net) (latches_pass begins_none refl))

  -- where the values of the latches have no fault, the values have those of the tables
  pub net-values : (ds : List Decl) → AllValued ds (latch_part net) → tables_faults ds (body net) ≡ tables_faults ds (table_part net)
  net-values ds latches =
      rw (command-inputs, command-outputs)
      (values-behind ds (decl_part net) (latch_part net ++ table_part net) (none-valued ds (decl_part net) (decls_pass says_none refl)) ∙ values-behind ds (latch_part net) (table_part net) latches)
