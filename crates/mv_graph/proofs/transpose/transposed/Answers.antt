use Rattle.std.proofs.Common.{◌≡◌, ◌∙◌, [], List, refl, subst, arith}
use Rattle.std.proofs.lemmas.List.{get_or_read}
use Rattle.mv_base.specs.declared.number.NetId.{NetId}
use Rattle.mv_graph.specs.Nets.{row}
use Rattle.mv_graph.specs.Transposing.{IsPutOn}
use Rattle.mv_graph.proofs.Transposes.{IsTransposeBelow-more}
use Rattle.mv_graph.proofs.transpose.transposed.Goals as goal

pub loop-number-preserved : goal.loop-number-preserved
loop-number-preserved c =
    let rows = c.args.rows.now in
    let i = c.loop-number.number in
    let e : c.as_slice-in-loop-number.result.now ≡ row rows i = c.as_slice-in-loop-number.ensures ∙ get_or_read rows i c.index-rows-number.result (omega arith) c.index-rows-number.is [] in
    let P : List NetId → Type 0 = λ l. IsPutOn c.loop-number.turned l (record { 0 = i }) c.put_on.new.rows in
    IsTransposeBelow-more i rows c.loop-number.turned c.put_on.new.rows (record { 0 = i }) refl c.loop-number.invariant (subst P e c.in_ok-put_on.ensures)
