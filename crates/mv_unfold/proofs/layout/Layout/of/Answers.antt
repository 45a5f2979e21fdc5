-- What was gathered is that of the design.
use Rattle.std.proofs.Common.{[], map, sym, ◌∙◌, ap, subst}
use Rattle.mv_tree.specs.Places.{all_nets}
use Rattle.mv_unfold.specs.Commands.{AreCommands}
use Rattle.mv_unfold.specs.Locals.{AreOwn}
use Rattle.mv_unfold.proofs.Placed.{are_placed}
use Rattle.mv_unfold.proofs.Laid.{nets_read, root_model}
use Rattle.mv_unfold.proofs.layout.Layout.of.Goals as goal

pub returns-clause-laid : goal.returns-clause-laid
returns-clause-laid c =
    let d = c.args.design.now in
    let nets = c.in_ok-nets.ensures ∙ ap (map all_nets) c.as_slice-models.ensures in
    record {
      placed = are_placed d c.args.opened.now c.requires.opened;
      rooted = c.requires.rooted;
      nets = c.nets.view_is ∙ nets;
      commands =
          subst (AreCommands d.models) (sym c.commands-2.view_is) (subst (λ ms. AreCommands ms c.in_ok-commands.commands) c.as_slice-models.ensures c.in_ok-commands.ensures);
      models = c.in_ok-model_list.ensures;
      root =
          subst (λ ns. AreOwn ns [] c.in_ok-root.root)
          (nets_read d.models c.as_slice-2.result.now d.root c.index-as_slice-design.result (c.as_slice-2.ensures ∙ nets) c.requires.rooted c.index-as_slice-design.is
          ∙ ap all_nets (sym (root_model d)))
          c.in_ok-root.ensures;
    }
