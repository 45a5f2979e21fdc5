-- The grammar relates the lines of a well-formed network to its model.
use Rattle.std.proofs.Common.{◌≡◌, ◌∙◌, true, List, [], ◌∷◌, ◌++◌, refl, sym, ap, subst, append_assoc}
use Rattle.std.specs.List.{list_all}
use Rattle.std.proofs.lemmas.Bool.{and_parts}
use Rattle.std.proofs.lemmas.List.Folds.{list_all-append}
use Rattle.mv_base.specs.Names.{names_differ}
use Rattle.mv_lex.specs.declared.lines.LexLine.{LexLine}
use Rattle.mv_design.specs.declared.design.FileModel.{FileModel}
use Rattle.mv_design.specs.Values.{declared_of}
use Rattle.mv_parse.specs.declared.command.Command.TheVariants.{Inputs, Outputs, End}
use Rattle.mv_parse.specs.Known.{outputs_of, decls_of, tables_of, resets_of, open_model, file_model, known}
use Rattle.mv_line.specs.Ports.{port_faults}
use Rattle.mv_parse.specs.Grammar.{model_faults, end_faults, tables_faults, line_faults, faults_at, file_faults, faults_of, design_of, IsDesign}
use Rattle.mv_net.specs.declared.parts.NetParts.{NetParts}
use Rattle.mv_net.specs.Formed.{WellFormed}
use Rattle.mv_net.proofs.Known.{are_named}
use Rattle.mv_text.specs.Text.{names_of, net_lines}
use Rattle.mv_text_back.proofs.TextModel.{is_reset_net, is_other_net, AreTablesOf, AreLatchesOf, IsModelOf, design_with}
use Rattle.mv_text_back.proofs.Resets.{readable-other}
use Rattle.mv_text_back.proofs.Commands.{command-model, command-inputs, command-outputs, command-end}
use Rattle.mv_text_back.proofs.Opened.{goes_on, ended, known-closed, faults-going}
use Rattle.mv_text_back.proofs.Limits.{only_limits, accepted-from_limits, AreFine, AreFine-append, limits-behind}
use Rattle.mv_text_back.proofs.NewNames.{ports-none}
use Rattle.mv_text_back.proofs.Nets.{EachNet, EachNet-from, CanBeSaid, held-said}
use Rattle.mv_text_back.proofs.Lookups.{declared, declared-differ, values-declared}
use Rattle.mv_text_back.proofs.Ports.{names-lawful, names-differ, read-inputs}
use Rattle.mv_text_back.proofs.DeclLines.{AreDecls, decl-lines}
use Rattle.mv_text_back.proofs.NetTables.{CanTable, SayTables, tables-said, tables-fine}
use Rattle.mv_text_back.proofs.HeldTables.{table-net}
use Rattle.mv_text_back.proofs.LatchLines.{latches-said, latches-fine, latches-valued}
use Rattle.mv_text_back.proofs.NetSays.{model_line, inputs_line, outputs_line, decl_part, latches_from, latch_part, tables_from, table_part, inner_part}
use Rattle.mv_text_back.proofs.NetSays.{end_line, body, net-split}
use Rattle.mv_text_back.proofs.NetSays.{net-goes, net-inputs, net-outputs, net-instances, net-decls, net-latches, net-tables, net-resets, net-values}
use Rattle.mv_lines_back.specs.TextWords.{lines_from}

-- the lines of the network say this model, and it is the network's
pub record IsReadModel (net : NetParts) : Type 0 where
  pub model : FileModel
  pub design : IsDesign (lines_from 1 (net_lines net)) (design_with model)
  pub is_model : IsModelOf net model

module _ (net : NetParts) (formed : WellFormed net) where
  abbrev first : LexLine
  first = model_line net

  abbrev ports : List LexLine
  ports = inputs_line net ∷ outputs_line net ∷ []

  -- ---- what the parts say

  can_table : EachNet (λ f. CanTable net.nets (declared net.nets) f f.table) net.nets
  can_table = EachNet-from (λ f. CanTable net.nets (declared net.nets) f f.table) net.nets (λ n f held. table-net net formed n f held)

  say : SayTables net.nets (declared net.nets) (AreTablesOf net.nets is_other_net net.nets) (AreTablesOf net.nets is_reset_net net.nets) (table_part net)
  say = tables-said net.nets (declared net.nets) (tables_from net) net.nets can_table

  goes : list_all goes_on (first ∷ body net) ≡ true
  goes = net-goes net say.inside

  ports_go : list_all goes_on (first ∷ ports) ≡ true
  ports_go = rw (command-model, command-inputs, command-outputs) refl

  no_decls : decls_of ports ≡ []
  no_decls = rw (command-inputs, command-outputs) refl

  decls : AreDecls first ports (decl_part net) (declared net.nets)
  decls =
      let names = declared_of (decls_of ports) ++ declared_of (declared net.nets) in
      let differ : names_differ names ≡ true = rw no_decls (declared-differ net.nets (are_named net formed)) in
      decl-lines first ports 4 net.nets ports_go (EachNet-from CanBeSaid net.nets (λ n f held. held-said net formed n f held)) differ

  decls_are : decls_of (body net) ≡ declared net.nets
  decls_are = net-decls net say.inside (ports ++ decl_part net) ∙ (decls.decls ∙ ap (λ ds. ds ++ declared net.nets) no_decls)

  -- ---- the model

  abbrev model : FileModel
  model = file_model (open_model first (body net)) (body net)

  tables_are : tables_of model.decls (body net) ≡ tables_of (declared net.nets) (table_part net)
  tables_are = ap (λ ds. tables_of ds (body net)) decls_are ∙ net-tables net say.inside (declared net.nets)

  resets_are : resets_of model.decls (body net) ≡ resets_of (declared net.nets) (table_part net)
  resets_are = ap (λ ds. resets_of ds (body net)) decls_are ∙ net-resets net say.inside (declared net.nets)

  is_model : IsModelOf net model
  is_model = record {
    name = refl;
    inputs = net-inputs net say.inside;
    outputs = net-outputs net say.inside;
    values = λ n r. rw decls_are (values-declared net.nets n r.net (are_named net formed) r.held (readable-other net.nets n r));
    tables = subst (AreTablesOf net.nets is_other_net net.nets) (sym tables_are) say.tables;
    latches = subst (AreLatchesOf net.nets net.latches) (sym (net-latches net say.inside)) (latches-said net.nets (latches_from net) net.latches);
    resets = subst (AreTablesOf net.nets is_reset_net net.nets) (sym resets_are) say.resets;
    instances = net-instances net say.inside;
  }

  -- ---- the faults of the lines

  fine_model : only_limits (faults_at [] first) ≡ true
  unfolding line_faults model_faults known
  fine_model = rw (command-model, formed.root) refl

  fine_inputs : only_limits (faults_at (first ∷ []) (inputs_line net)) ≡ true
  fine_inputs =
      let alone : list_all goes_on (first ∷ []) ≡ true = rw command-model refl in
      let names = names_of net.nets net.inputs in
      let lawful = names-lawful net formed net.inputs (read-inputs net formed) in
      let differ = names-differ net formed net.inputs (read-inputs net formed) formed.inputs.once in
      let no_fault : port_faults 2 [] names ≡ [] = ports-none 2 [] names lawful differ in
      ap only_limits (faults-going Inputs first [] (inputs_line net) alone command-inputs refl refl ∙ no_fault)

  fine_outputs : only_limits (faults_at (first ∷ inputs_line net ∷ []) (outputs_line net)) ≡ true
  fine_outputs =
      let two : list_all goes_on (first ∷ inputs_line net ∷ []) ≡ true = rw (command-model, command-inputs) refl in
      let names = names_of net.nets net.outputs in
      let no_outputs : outputs_of (inputs_line net ∷ []) ≡ [] = rw command-inputs refl in
      let lawful = names-lawful net formed net.outputs formed.outputs in
      let differ = names-differ net formed net.outputs formed.outputs formed.outputs_once in
      let no_fault : port_faults 3 [] names ≡ [] = ports-none 3 [] names lawful differ in
      let going = faults-going Outputs first (inputs_line net ∷ []) (outputs_line net) two command-outputs refl refl in
      ap only_limits (going ∙ (ap (λ earlier. port_faults 3 earlier names) no_outputs ∙ no_fault))

  fine_end : only_limits (faults_at (first ∷ body net) (end_line net)) ≡ true
  unfolding end_faults
  fine_end =
      let latches = latches-valued net formed (latches_from net) net.latches formed.latches in
      let values = ap (λ ds. tables_faults ds (body net)) decls_are ∙ net-values net say.inside (declared net.nets) latches in
      ap only_limits (faults-going End first (body net) (end_line net) goes command-end refl refl ∙ (values ∙ say.faults))

  -- the lines up to a part of the inner ones go on
  front_goes : (front behind : List LexLine) → first ∷ body net ≡ front ++ behind → list_all goes_on front ≡ true
  front_goes front behind e =
      (and_parts _ _ (sym (list_all-append goes_on front behind) ∙ (ap (list_all goes_on) (sym e) ∙ goes))).0

  fine : AreFine [] (first ∷ body net ++ end_line net ∷ [])
  fine =
      let front : List LexLine = ports ++ decl_part net in
      let before = front ++ latch_part net in
      let latches_go = front_goes (first ∷ front) (latch_part net ++ table_part net) refl in
      let tables_go = front_goes (first ∷ before) (table_part net) (ap (λ ls. first ∷ ls) (sym (append_assoc front (latch_part net) (table_part net)))) in
      let latches = latches-fine net formed first net.latches formed.latches front (latches_from net) latches_go in
      let tables = tables-fine net.nets (declared net.nets) first net.nets can_table before (tables_from net) tables_go in
      let behind = AreFine-append (first ∷ front) (latch_part net) (table_part net) latches tables in
      let inner = AreFine-append (first ∷ ports) (decl_part net) (latch_part net ++ table_part net) decls.fine behind in
      (fine_model, (fine_inputs, (fine_outputs, AreFine-append (first ∷ ports) (inner_part net) (end_line net ∷ []) inner (fine_end, tt))))

  -- ---- the whole

  closed : known (first ∷ body net ++ end_line net ∷ []) ≡ ended first (body net)
  closed = known-closed first (body net) (end_line net) goes (rw command-end refl)

  pub model-back : IsReadModel net
  unfolding faults_of design_of
  model-back =
      let lines = first ∷ body net ++ end_line net ∷ [] in
      let no_fault : file_faults (known lines) ≡ [] = rw closed refl in
      let is : design_with model ≡ design_of lines = rw closed refl in
      let accepted = accepted-from_limits (faults_of lines) (limits-behind [] lines fine no_fault) in
      let design : IsDesign lines (design_with model) = record { accepted = accepted; is = is } in
      record {
        model = model;
        design = subst (λ (ls : List LexLine). IsDesign ls (design_with model)) (sym (net-split net)) design;
        is_model = is_model;
      }
