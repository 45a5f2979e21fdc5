-- A model without reset tables has no reset nets: it is its own model with a net for each reset value.
use Rattle.std.proofs.Common.{◌≡◌, [], List, sym, ◌∙◌, ap, append-nil}
use Rattle.mv_design.specs.declared.design.Decl.{Decl}
use Rattle.mv_design.specs.declared.table.FileTable.{FileTable}
use Rattle.mv_design.specs.declared.design.FileModel.{FileModel}
use Rattle.mv_resets.specs.Resets.{with_reset_nets}

-- what the model is with these declarations and these reset tables
abbrev changed : FileModel → List Decl → List FileTable → FileModel
changed m decls resets = record {
  name = m.name;
  inputs = m.inputs;
  outputs = m.outputs;
  decls = decls;
  tables = m.tables;
  latches = m.latches;
  resets = resets;
  instances = m.instances;
}

no_reset_nets : (m : FileModel) → with_reset_nets (changed m m.decls []) ≡ changed m m.decls []
unfolding with_reset_nets
no_reset_nets m = ap (λ ds. changed m ds []) (append-nil m.decls)

pub without_resets : (m : FileModel) → m.resets ≡ [] → m ≡ with_reset_nets m
without_resets m e =
    let same : m ≡ changed m m.decls [] = ap (changed m m.decls) e in
    same ∙ (sym (no_reset_nets m) ∙ ap with_reset_nets (sym same))
