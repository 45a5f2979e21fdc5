use Rattle.std.proofs.Common.{◌∙◌, ap, map}
use Rattle.std.proofs.lemmas.List.{take_all}
use Rattle.mv_base.specs.Set.{full}
use Rattle.mv_wide.proofs.Narrowing.{all_chosen}
use Rattle.mv_wide.proofs.choices.choose_all.Goals as goal

pub returns : goal.returns
returns c =
    all_chosen c.args.counts.now c.loop-count.choices.items c.requires
    (c.loop-count.invariant ∙ ap (map full) (take_all c.loop-count.count-index c.args.counts.now c.loop-count-test.false))
