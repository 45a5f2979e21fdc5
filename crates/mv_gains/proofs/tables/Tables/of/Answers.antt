use Rattle.std.proofs.Common.{◌∙◌, List, Option, All, sym, ap, subst}
use Rattle.mv_net.specs.declared.parts.FlatNet.{FlatNet}
use Rattle.mv_net.specs.declared.parts.NetParts.{NetParts}
use Rattle.mv_gains.specs.Tables.{HasLines}
use Rattle.mv_gains.proofs.Kept.{all_lines_formed}
use Rattle.mv_gains.proofs.tables.Tables.of.Goals as goal

pub of_nets-requires-clause-lines : goal.of_nets-requires-clause-lines
of_nets-requires-clause-lines c =
    subst (λ (ns : List (Option FlatNet)). All HasLines ns) (sym (c.as_slice.ensures ∙ ap (λ (p : NetParts). p.nets) c.parts.ensures))
    (all_lines_formed c.args.net.now c.well_formed-2.ensures)
