-- The command stands in its model's row.
use Rattle.std.proofs.Common.{◌<◌, [], length, get_or, sym, ◌∙◌, subst, arith}
use Rattle.mv_unfold.specs.declared.commands.Command.{Command}
use Rattle.mv_unfold.specs.ByName.{FindsFirst, formals_bound}
use Rattle.mv_unfold.specs.Commands.{no_command}
use Rattle.mv_unfold.specs.Laid.{opened_at, laid_instance, places_of}
use Rattle.mv_unfold.specs.Locals.{AreOwn}
use Rattle.mv_unfold.specs.Placed.{place_at}
use Rattle.mv_tree.specs.Places.{all_nets}
use Rattle.mv_unfold.proofs.Laid.{instance_placed, of_place, read_as}
use Rattle.mv_unfold.proofs.layout.Layout.command.Goals as goal

pub model-round-requires-clause-number : goal.model-round-requires-clause-number
model-round-requires-clause-number c =
    let p = instance_placed c.args.self.now c.args.number c.requires.laid c.requires.some c.requires.number in
    let low = p.round in
    omega arith

pub bounds-as_slice-opened : goal.bounds-as_slice-opened
bounds-as_slice-opened c =
    let l = c.args.self.now in
    let r = c.model-round.result in
    let p = of_place l c.args.number r c.requires.laid c.requires.some c.requires.number (record { below = c.model-round.ensures.below; is = c.model-round.ensures.is }) in
    subst (λ row. (opened_at l c.args.number).instance < length row)
    (sym (c.as_slice-2.ensures ∙ read_as c.as_slice.result.now l.commands r c.index-as_slice-round.result [] c.as_slice.ensures p.row c.index-as_slice-round.is))
    p.instance

pub returns-clause-own : goal.returns-clause-own
returns-clause-own c =
    let l = c.args.self.now in
    let n = c.args.number in
    let r = c.model-round.result in
    let p = of_place l n r c.requires.laid c.requires.some c.requires.number (record { below = c.model-round.ensures.below; is = c.model-round.ensures.is }) in
    let row = c.as_slice-2.ensures ∙ read_as c.as_slice.result.now l.commands r c.index-as_slice-round.result [] c.as_slice.ensures p.row c.index-as_slice-round.is in
    let read = read_as c.as_slice-2.result.now (get_or l.commands r []) (opened_at l n).instance c.index-as_slice-opened.result no_command row p.instance c.index-as_slice-opened.is in
    subst (λ (x : Command). AreOwn (all_nets (place_at (places_of l) n).model) (place_at (places_of l) n).binds x.own) (sym read) p.own

pub returns-clause-formals : goal.returns-clause-formals
returns-clause-formals c =
    let l = c.args.self.now in
    let n = c.args.number in
    let r = c.model-round.result in
    let p = of_place l n r c.requires.laid c.requires.some c.requires.number (record { below = c.model-round.ensures.below; is = c.model-round.ensures.is }) in
    let row = c.as_slice-2.ensures ∙ read_as c.as_slice.result.now l.commands r c.index-as_slice-round.result [] c.as_slice.ensures p.row c.index-as_slice-round.is in
    let read = read_as c.as_slice-2.result.now (get_or l.commands r []) (opened_at l n).instance c.index-as_slice-opened.result no_command row p.instance c.index-as_slice-opened.is in
    subst (λ (x : Command). FindsFirst x.formals (formals_bound (laid_instance l n).binds)) (sym read) p.formals
