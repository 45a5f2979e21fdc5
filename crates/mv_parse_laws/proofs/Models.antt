-- A model whose lines and whose values have no fault, and numbers that ascend, is a proper one, line by line.
use Rattle.std.proofs.Common.{◌≡◌, ℕ, ◌+◌, ◌≤◌, true, false, not, ◌==◌, List, [], ◌∷◌, ◌++◌, length, refl, sym, subst, ◌∙◌, arith}
use Rattle.std.specs.Prelude.{All, Option, Some, nat_le, nat_lt}
use Rattle.std.proofs.lemmas.Bool.{not-false, eqb-true, ltb-false}
use Rattle.std.proofs.lemmas.List.Elements.{All-nil}
use Rattle.mv_base.specs.Names.{is_net_name, is_model_name}
use Rattle.mv_base.specs.declared.limits.TheConstants.{MAX_TABLE_LINES}
use Rattle.mv_lex.specs.declared.lines.LexLine.{LexLine}
use Rattle.mv_fault.specs.declared.fault.Which.TheVariants.{TableLines}
use Rattle.mv_fault.specs.declared.fault.ParseFault.{ParseFault}
use Rattle.mv_fault.specs.declared.fault.ParseFault.TheVariants.{Limit, Columns, Missing, Extra, DefaultTwice}
use Rattle.mv_fault.specs.Tells.{when}
use Rattle.mv_fault.proofs.Nothing.{left-nothing, right-nothing, when-nothing}
use Rattle.mv_decl.specs.Nets.{with_decls}
use Rattle.mv_decl.specs.Line.{decls_said}
use Rattle.mv_line.specs.Words.{behind_first, first_of, first_word}
use Rattle.mv_parse.specs.declared.command.Command.{Command}
use Rattle.mv_parse.specs.declared.command.Command.TheVariants.{Inputs, Outputs, Mv, Table, Reset, Default, Row}
use Rattle.mv_parse.specs.declared.known.OpenTable.{OpenTable}
use Rattle.mv_parse.specs.declared.known.OpenModel.{OpenModel}
use Rattle.mv_parse.specs.Commands.{command_at, keeps_table, is_table}
use Rattle.mv_parse.specs.Known.{inputs_at, inputs_of, outputs_at, outputs_of, decls_at, decls_of, latches_of, instances_of, open_model, file_model}
use Rattle.mv_parse.specs.Grammar.{row_faults, default_faults, tables_faults, at_table, inside_faults}
use Rattle.mv_parse.proofs.Opens.{inputs-push, outputs-push, decls-push}
use Rattle.mv_design.specs.Proper.{IsFileDecl, IsFileInstance, numbers_ascend, IsProperModel}
use Rattle.mv_parse_laws.specs.Lines.{numbers_of}
use Rattle.mv_parse_laws.proofs.Rows.{IsEntryLine, HasColumns}
use Rattle.mv_parse_laws.proofs.Names.{IsNames, no-names, IsNames-nil}
use Rattle.mv_parse_laws.proofs.Decls.{line-declares, All-with_decls}
use Rattle.mv_parse_laws.proofs.Columns.{line-columns, reset-columns}
use Rattle.mv_parse_laws.proofs.LineKinds.{line-default, line-row}
use Rattle.mv_parse_laws.proofs.Ports.{ports-named}
use Rattle.mv_parse_laws.proofs.Tables.{AreTables, tables-push, tables-fit}
use Rattle.mv_parse_laws.proofs.Latches.{IsNamed, latches-push, latches-fit}
use Rattle.mv_parse_laws.proofs.Instances.{instances-push}
use Rattle.mv_parse_laws.proofs.Order.{stands}

-- a model that is open, by its first line and those behind it
pub record IsOpen (m : LexLine) (ls : List LexLine) : Type 0 where
  pub name : is_model_name (first_of (behind_first m)) ≡ true
  pub inputs : IsNames is_net_name (inputs_of ls)
  pub outputs : IsNames is_net_name (outputs_of ls)
  pub decls : All IsFileDecl (decls_of ls)
  pub tables : AreTables ls
  pub latches : All IsNamed (latches_of ls)
  pub instances : All IsFileInstance (instances_of ls)

pub IsOpen-new : (m : LexLine) → is_model_name (first_of (behind_first m)) ≡ true → IsOpen m []
IsOpen-new m y = record { name = y; inputs = no-names is_net_name; outputs = no-names is_net_name; decls = All-nil IsFileDecl; tables = tt; latches = All-nil IsNamed; instances = All-nil IsFileInstance }

-- ---- what one more line adds

inputs-step : (c : Command) (m : OpenModel) (l : LexLine) → inside_faults c m l ≡ [] → IsNames is_net_name m.inputs → IsNames is_net_name (m.inputs ++ inputs_at c (behind_first l))
inputs-step Inputs m l none h = ports-named l.number m.inputs (behind_first l) none h
inputs-step _ m l none h = IsNames-nil is_net_name m.inputs h

outputs-step : (c : Command) (m : OpenModel) (l : LexLine) → inside_faults c m l ≡ [] → IsNames is_net_name m.outputs → IsNames is_net_name (m.outputs ++ outputs_at c (behind_first l))
outputs-step Outputs m l none h = ports-named l.number m.outputs (behind_first l) none h
outputs-step _ m l none h = IsNames-nil is_net_name m.outputs h

decls-step : (c : Command) (m : OpenModel) (l : LexLine) → inside_faults c m l ≡ [] → All IsFileDecl m.decls → All IsFileDecl (with_decls m.decls (decls_at c (behind_first l)))
decls-step Mv m l none h = All-with_decls IsFileDecl m.decls (decls_said (behind_first l)) h (line-declares l.number (first_word l) m.decls (behind_first l) none)
decls-step _ m l none h = h

head-step : (c : Command) (m : OpenModel) (l : LexLine) → inside_faults c m l ≡ [] → is_table c ≡ true → HasColumns c (behind_first l)
head-step Table m l none e = line-columns l.number (first_word l) (behind_first l) none
head-step Reset m l none e = reset-columns l.number (first_word l) (behind_first l) none
head-step _ m l none e = cc

row-entries : (n : ℕ) (t : OpenTable) (words : List (List ℕ)) → row_faults n t words ≡ [] → length words ≡ t.ins + t.outs
unfolding row_faults
row-entries n t words none =
    let many = when (nat_le MAX_TABLE_LINES t.rows) (Limit n TableLines (MAX_TABLE_LINES + 1)) in
    eqb-true (length words) (t.ins + t.outs) (not-false _ (when-nothing (not (length words == t.ins + t.outs)) (Columns n (t.ins + t.outs) (length words)) (right-nothing many _ none)))

default-entries : (n : ℕ) (word : List ℕ) (t : OpenTable) (words : List (List ℕ)) → default_faults n word t words ≡ [] → length words ≡ t.outs
unfolding default_faults
default-entries n word t words none =
    let twice = when t.has_default (DefaultTwice n) in
    let lacks = when (nat_lt (length words) t.outs) (Missing n word) in
    let extra = when (nat_lt t.outs (length words)) (Extra n word) in
    let front : twice ++ lacks ≡ [] = left-nothing (twice ++ lacks) extra none in
    let enough : t.outs ≤ length words = ltb-false (length words) t.outs (when-nothing _ _ (right-nothing twice lacks front)) in
    let few : length words ≤ t.outs = ltb-false t.outs (length words) (when-nothing _ _ (right-nothing (twice ++ lacks) extra none)) in
    omega arith

opened : (n : ℕ) (o : Option OpenTable) (faults : OpenTable → List ParseFault) (t : OpenTable) → o ≡ Some t → at_table n o faults ≡ [] → faults t ≡ []
opened n o faults t e none = rw e at none

differing : {A : Type 0} → true ≡ false → A
differing e = cc

entry-step : (c : Command) (m : OpenModel) (l : LexLine) → command_at l ≡ c → inside_faults c m l ≡ [] → keeps_table c ≡ true → (t : OpenTable) → m.table ≡ Some t → IsEntryLine t.ins t.outs l
entry-step Default m l e none y t o =
    record {
      row = λ n. differing (sym (line-default l e) ∙ n);
      default = λ d. default-entries l.number (first_word l) t (behind_first l) (opened l.number m.table (λ u. default_faults l.number (first_word l) u (behind_first l)) t o none);
    }
entry-step Row m l e none y t o =
    record {
      row = λ n. row-entries l.number t l.words (opened l.number m.table (λ u. row_faults l.number u l.words) t o none);
      default = λ d. differing (sym d ∙ line-row l e);
    }
entry-step _ m l e none y t o = cc

pub IsOpen-push : (m : LexLine) (ls : List LexLine) (l : LexLine) → IsOpen m ls → inside_faults (command_at l) (open_model m ls) l ≡ []
    → IsOpen m (ls ++ l ∷ [])
IsOpen-push m ls l h none =
    let c = command_at l in
    let o = open_model m ls in
    record {
      name = h.name;
      inputs = subst (IsNames is_net_name) (sym (inputs-push ls l)) (inputs-step c o l none h.inputs);
      outputs = subst (IsNames is_net_name) (sym (outputs-push ls l)) (outputs-step c o l none h.outputs);
      decls = subst (All IsFileDecl) (sym (decls-push ls l)) (decls-step c o l none h.decls);
      tables = tables-push ls l h.tables (head-step c o l none) (entry-step c o l refl none);
      latches = latches-push o ls l none h.latches;
      instances = instances-push o ls l none h.instances;
    }

-- ---- at its end

pub IsOpen-proper : (m : LexLine) (ls : List LexLine) → IsOpen m ls → numbers_ascend (numbers_of (m ∷ ls)) ≡ true → tables_faults (decls_of ls) ls ≡ []
    → IsProperModel (file_model (open_model m ls) ls)
IsOpen-proper m ls h up none =
    let fit = tables-fit (decls_of ls) ls h.tables in
    record {
      lawful = record {
        name = h.name;
        inputs = h.inputs.lawful;
        inputs_differ = h.inputs.differ;
        outputs = h.outputs.lawful;
        outputs_differ = h.outputs.differ;
        decls = h.decls;
        tables = fit.tables;
        latches = latches-fit (decls_of ls) ls h.latches none;
        resets = fit.resets;
        instances = h.instances;
      };
      order = stands m ls up;
    }
