-- Commands whose calls say more than that they pass do so as the commands that they are.
use Rattle.std.proofs.Common.{◌≡◌, true, sym, subst}
use Rattle.mv_entry.specs.declared.note.Command.{Command}
use Rattle.mv_script.specs.Commands.{HasFewSteps, is_lawful}
use Rattle.mv_script.proofs.Commands.{lawful_runs}
use Rattle.mv_script_run.specs.Commands.{PassesCommand}
use Rattle.mv_script_run.proofs.command.run_command.Goals as goal

pub collapse-requires : goal.collapse-requires
collapse-requires g c = subst (λ k. is_lawful k ≡ true) c.in-Collapse.is c.requires

pub returns-in-Collapse : goal.returns-in-Collapse
returns-in-Collapse g c =
    let P : Command → Type 0 = λ k. PassesCommand c.args.terms k c.args.net.now c.collapse.new.net (g.J.Journal.state c.args.journal.now) (g.J.Journal.state c.collapse.new.journal) c.collapse.result in
    subst P (sym c.in-Collapse.is) c.collapse.ensures.passes

pub returns-in-Kernel : goal.returns-in-Kernel
returns-in-Kernel g c =
    let P : Command → Type 0 = λ k. PassesCommand c.args.terms k c.args.net.now c.kernel.new.net (g.J.Journal.state c.args.journal.now) (g.J.Journal.state c.kernel.new.journal) c.kernel.result in
    subst P (sym c.in-Kernel.is) c.kernel.ensures.passes

pub returns-in-Cube : goal.returns-in-Cube
returns-in-Cube g c =
    let P : Command → Type 0 = λ k. PassesCommand c.args.terms k c.args.net.now c.cube.new.net (g.J.Journal.state c.args.journal.now) (g.J.Journal.state c.cube.new.journal) c.cube.result in
    subst P (sym c.in-Cube.is) c.cube.ensures.passes

pub simplify-requires : goal.simplify-requires
simplify-requires g c =
    let few = subst HasFewSteps c.in-Simplify.is (lawful_runs c.args.command.now c.requires).steps in
    record { down = few.0; up = few.1 }

pub returns-in-Simplify : goal.returns-in-Simplify
returns-in-Simplify g c =
    let P : Command → Type 0 = λ k. PassesCommand c.args.terms k c.args.net.now c.simplify.new.net (g.J.Journal.state c.args.journal.now) (g.J.Journal.state c.simplify.new.journal) c.simplify.result in
    subst P (sym c.in-Simplify.is) c.simplify.ensures.passes

pub returns-in-Default : goal.returns-in-Default
returns-in-Default g c =
    let P : Command → Type 0 = λ k. PassesCommand c.args.terms k c.args.net.now c.choose_default.new.net (g.J.Journal.state c.args.journal.now) (g.J.Journal.state c.choose_default.new.journal) c.choose_default.result in
    subst P (sym c.in-Default.is) c.choose_default.ensures.passes

pub returns-in-Merge : goal.returns-in-Merge
returns-in-Merge g c =
    let P : Command → Type 0 = λ k. PassesCommand c.args.terms k c.args.net.now c.merge.new.net (g.J.Journal.state c.args.journal.now) (g.J.Journal.state c.merge.new.journal) c.merge.result in
    subst P (sym c.in-Merge.is) c.merge.ensures.passes

pub returns-in-Determinize : goal.returns-in-Determinize
returns-in-Determinize g c =
    let P : Command → Type 0 = λ k. PassesCommand c.args.terms k c.args.net.now c.determinize.new.net (g.J.Journal.state c.args.journal.now) (g.J.Journal.state c.determinize.new.journal) c.determinize.result in
    subst P (sym c.in-Determinize.is) c.determinize.ensures.passes

pub returns-in-Encode : goal.returns-in-Encode
returns-in-Encode g c =
    let P : Command → Type 0 = λ k. PassesCommand c.args.terms k c.args.net.now c.encode.new.net (g.J.Journal.state c.args.journal.now) (g.J.Journal.state c.encode.new.journal) c.encode.result in
    subst P (sym c.in-Encode.is) c.encode.ensures.passes
