use Rattle.std.proofs.Common.{◌∷◌, []}
use Rattle.std.proofs.lemmas.Result.{on_ok_weaker, IfErr-weaker}
use Rattle.mv_cover.specs.declared.line.Line.{Line}
use Rattle.mv_rows.specs.Cubes.{IsRowCube}
use Rattle.mv_rows.specs.Once.{StopsPut, StopsRows}
use Rattle.mv_joint.specs.Plain.{mark_row}
use Rattle.mv_joint.proofs.Marks.{one_mark, stops_mark}
use Rattle.mv_joint.proofs.mark.put_line.Goals as goal

pub returns-clause-rows : goal.returns-clause-rows
returns-clause-rows c =
    let cs = c.args.frame.now.columns in
    let row = c.args.row.now in
    let l : Line = record { cube = c.in-Some.cube; out = c.in_ok-out.out } in
    let cube : IsRowCube cs row.ins c.in-Some.cube = rw c.as_slice.ensures at (rw c.in-Some.is at c.in_ok-cube.ensures) in
    on_ok_weaker c.put.result (one_mark cs row l c.args.set.now c.put.new.self cube c.in_ok-out.ensures) c.put.ensures.ok

pub returns-clause-stop : goal.returns-clause-stop
returns-clause-stop c =
    let cs = c.args.frame.now.columns in
    let row = c.args.row.now in
    let set = c.args.set.now in
    let l : Line = record { cube = c.in-Some.cube; out = c.in_ok-out.out } in
    let cube : IsRowCube cs row.ins c.in-Some.cube = rw c.as_slice.ensures at (rw c.in-Some.is at c.in_ok-cube.ensures) in
    IfErr-weaker c.put.result (StopsPut (l ∷ []) set) (StopsRows cs (mark_row row ∷ []) set)
    (λ stop h. stops_mark cs row l set stop cube c.in_ok-out.ensures h)
    c.put.ensures.stop
