-- The parts are balanced; and what is put together of them is the script.
use Rattle.std.proofs.Common.{◌∙◌, sym, arith}
use Rattle.mv_script.specs.Grammar.{IsScript}
use Rattle.mv_script.specs.Scripts.{items_of}
use Rattle.mv_script.proofs.Judging.{parts_balanced, judged}
use Rattle.mv_script.proofs.Seen.{script_lawful}
use Rattle.mv_script.proofs.read.read_script.Goals as goal
use Rattle.mv_script.proofs.read.read_script.Goals.{In-None}

pub outermost-requires : goal.outermost-requires
outermost-requires c = rw c.as_slice-2.ensures (parts_balanced c.as_slice.result.now c.in-Ok.parts c.in-Ok.ensures)

pub script_of-requires : goal.script_of-requires
script_of-requires c = parts_balanced c.as_slice.result.now c.in-Ok.parts c.in-Ok.ensures

-- what was put together is the script
here : (c : In-None) → IsScript c.args.text.now (items_of c.in_ok-script.script)
here c =
    let places = rw c.as_slice-2.ensures at c.in_ok-places.ensures in
    let none = rw c.in-None.is at c.in_ok-too_many.ensures in
    judged c.args.text.now c.as_slice.result.now c.in-Ok.parts _ _ (omega arith) (c.as_slice.ensures ∙ c.in_ok-said.ensures) c.in-Ok.ensures c.in_ok-script.ensures (c.as_slice-3.ensures ∙ places) (sym none)

pub returns-in-None-clause-script : goal.returns-in-None-clause-script
returns-in-None-clause-script c = here (goal.at.returns-in-None-clause-script c).In-None

pub returns-in-None-clause-lawful : goal.returns-in-None-clause-lawful
returns-in-None-clause-lawful c = script_lawful c.args.text.now _ (here (goal.at.returns-in-None-clause-lawful c).In-None)
