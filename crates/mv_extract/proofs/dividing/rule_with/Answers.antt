-- The divided lines are a cover of the net.
use Rattle.std.proofs.Common.{ℕ, List, Option, sym, subst}
use Rattle.mv_cover.specs.declared.line.Line.{Line}
use Rattle.mv_rule_body.specs.Named.{AreHeld}
use Rattle.mv_extract.proofs.Ready.{division_of}
use Rattle.mv_extract.proofs.dividing.rule_with.Goals as goal

pub body_of-requires : goal.body_of-requires
body_of-requires c =
    let nets = c.args.net.now.nets in
    let division = division_of nets c.args.divisor.now c.args.n c.args.d c.args.table.now c.args.lines.items c.requires.ready c.requires.other c.requires.table c.requires.divided in
    let cover = c.divide_law.ensures.covers c.args.net.now c.args.n c.args.d c.requires.ready.by c.args.divisor.now c.args.table.now c.args.lines.items c.well_formed-2.ensures division in
    let held = c.body_laws.ensures.held c.args.net.now _ _ cover in
    subst (λ (ls : List Line). AreHeld nets (record { lines = ls; default = c.in_ok-copied_default.field-0 })) (sym c.of.ensures)
    (subst (λ (o : Option ℕ). AreHeld nets (record { lines = c.args.lines.items; default = o })) (sym c.in_ok-copied_default.ensures) held)
