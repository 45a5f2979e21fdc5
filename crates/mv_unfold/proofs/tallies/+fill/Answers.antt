-- The models that stand in a model, and then its own counts.
use Rattle.std.proofs.Common.{◌≡◌, ◌-◌, ◌<◌, [], length, get_or, sym, ◌∙◌, subst, arith}
use Rattle.mv_design.specs.Nets.{no_model}
use Rattle.mv_unfold.specs.declared.commands.Command.{Command}
use Rattle.mv_unfold.specs.Commands.{no_command}
use Rattle.mv_unfold.specs.Driven.{HasInside}
use Rattle.mv_unfold.proofs.Laid.{read_as}
use Rattle.mv_unfold.proofs.Filled.{command_inside, commands_below, filled_now}
use Rattle.mv_unfold.proofs.tallies.+fill.Goals as goal

pub fill-requires : goal.fill-requires
fill-requires t c =
    let l = c.args.layout.now in
    let k = c.args.model in
    let long : length l.commands ≡ length l.design.now.models = c.requires.laid.commands.long in
    let row = c.as_slice-row.ensures ∙ read_as c.as_slice-2.result.now l.commands k c.index-as_slice-model-2.result [] c.as_slice-2.ensures (let m = c.requires.model in omega arith) c.index-as_slice-model-2.is in
    let low : c.loop-command.command-index < length (get_or l.commands k []) = subst (λ xs. c.loop-command.command-index < length xs) row c.loop-command-test.true in
    let command = read_as c.as_slice-row.result.now (get_or l.commands k []) c.loop-command.command-index c.command-item.result no_command row low c.command-item.is in
    let p = command_inside l c.args.levels k c.loop-command.command-index c.requires.laid c.requires.inside c.requires.model low in
    let some = p.some in (
      omega arith,
      (
        c.requires.laid,
        (
          subst (λ (x : Command). HasInside l.design.now (c.args.levels - 1) x.model) (sym command) p.inside,
          (subst (λ (x : Command). x.model < length l.design.now.models) (sym command) p.below, c.loop-command.invariant.right),
        ),
      ),
    )

pub counts_of-requires-clause-known : goal.counts_of-requires-clause-known
counts_of-requires-clause-known t c =
    let l = c.args.layout.now in
    let k = c.args.model in
    let long : length l.commands ≡ length l.design.now.models = c.requires.laid.commands.long in
    let row = c.as_slice-row.ensures ∙ read_as c.as_slice-2.result.now l.commands k c.index-as_slice-model-2.result [] c.as_slice-2.ensures (let m = c.requires.model in omega arith) c.index-as_slice-model-2.is in
    commands_below l k c.as_slice-row.result.now c.as_slice-nets.result.now c.requires.laid c.requires.model row c.as_slice-nets.ensures

pub returns-clause-right : goal.returns-clause-right
returns-clause-right t c =
    let l = c.args.layout.now in
    let k = c.args.model in
    let long : length l.commands ≡ length l.design.now.models = c.requires.laid.commands.long in
    let row = c.as_slice-row.ensures ∙ read_as c.as_slice-2.result.now l.commands k c.index-as_slice-model-2.result [] c.as_slice-2.ensures (let m = c.requires.model in omega arith) c.index-as_slice-model-2.is in
    let file = read_as c.as_slice-3.result.now l.design.now.models k c.index-as_slice-model-3.result no_model c.as_slice-3.ensures c.requires.model c.index-as_slice-model-3.is in
    let end = c.loop-command-test.false in
    filled_now l c.loop-command.slots c.as_slice-4.result.now c.replace.new.self k c.as_slice-row.result.now c.as_slice-nets.result.now c.index-nets-model.result c.index-as_slice-model-3.result
    c.in_ok-counts.counts c.requires.laid c.requires.model c.loop-command.invariant.right row (λ j low. c.loop-command.invariant.known j (omega arith)) c.as_slice-nets.ensures c.index-nets-model.is file
    c.distinct.ensures c.as_slice-4.ensures c.in_ok-counts.ensures c.replace.ensures.items
