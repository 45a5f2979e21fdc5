-- What was found of the command is right.
use Rattle.std.proofs.Common.{◌<◌, length, sym, ◌∙◌, ap, subst}
use Rattle.std.specs.Prelude.{unwrap_or}
use Rattle.mv_unfold.specs.ByName.{FindsFirst, formals_bound}
use Rattle.mv_unfold.specs.Locals.{AreOwn}
use Rattle.mv_unfold.proofs.Found.{numbered_below}
use Rattle.mv_unfold.proofs.Laid.{nets_read}
use Rattle.mv_unfold.proofs.commands.made_by.Goals as goal

pub returns : goal.returns
returns c =
    let ms = c.args.models.now in
    let k = c.number-model.result in
    let instance = c.args.instance.now in
    let own = c.in_ok-own.own in
    let below : k < length ms =
    subst (λ i. i < length ms) (sym c.number-model.ensures) (numbered_below c.args.names.now ms instance.model c.requires.some c.requires.names) in
    record {
      model = c.number-model.ensures ∙ ap (λ o. unwrap_or o 0) (c.requires.names.each instance.model);
      below = below;
      own =
          subst (λ ns. AreOwn ns instance.binds own) (nets_read ms c.args.nets.now k c.index-nets-model.result c.requires.nets below c.index-nets-model.is)
          (subst (λ bs. AreOwn c.index-nets-model.result bs own) c.as_slice.ensures c.in_ok-own.ensures);
      formals = subst (λ bs. FindsFirst c.in_ok-formals.formals (formals_bound bs)) c.as_slice-2.ensures c.in_ok-formals.ensures;
    }
