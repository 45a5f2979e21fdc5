use Rattle.std.proofs.Common.{◌≡◌, ◌+◌, ◌++◌, ◌∷◌, [], length, length-append, ◌∙◌, arith}
use Rattle.std.proofs.lemmas.Iterator.Adapters.{YieldsList-from_vec}
use Rattle.std.proofs.lemmas.Iterator.Consumers.{YieldsList-turn, YieldsList-end}
use Rattle.mv_parse.proofs.Walks.{begins, small, refused, next, whole_design}
use Rattle.mv_parse.proofs.reader.read_lines.Goals as goal

pub loop-line-init : goal.loop-line-init
loop-line-init c = rw (c.new.ensures, c.new-2.ensures, c.new-body.ensures) (begins c.args.lines.items)

pub take_line-requires-clause-small : goal.take_line-requires-clause-small
take_line-requires-clause-small c = small c.args.lines.items c.loop-line.body _ c.loop-line.known c.loop-line.invariant

pub loop-line-preserved : goal.loop-line-preserved
loop-line-preserved c =
    let gives = c.into_iter-line-iterator.ensures.into_iter_gives in
    let road = YieldsList-from_vec {s = c.into_iter-line-iterator.result} _ gives.0 (gives.1 ∙ c.args.lines.ok.0) in
    let turn = YieldsList-turn road c.loop-line.yielded c.loop-line.line-iterator c.loop-line.yielded_by c.next.result c.next.new.self c.in-Some.line c.in-Some.is c.next.ensures.steps in
    let more : length (c.loop-line.yielded ++ c.in-Some.line ∷ []) ≡ length c.loop-line.yielded + 1 = length-append c.loop-line.yielded (c.in-Some.line ∷ []) in
    let command = c.command_at-command.ensures in
    rw more
    (next c.args.lines.items c.loop-line.body c.take_line.new.body c.keep_line.new.body (length c.loop-line.yielded) c.loop-line.known c.take_line.new.known c.in-Some.line c.loop-line.invariant turn.0 turn.1
    (rw command at c.in-Ok.ensures.fault)
    (rw command at c.in-Ok.ensures.ok)
    (rw command at c.take_line.ensures.same)
    (rw (c.is_inner.ensures, command) at c.in_ok-keep_line.ensures.ok))

pub end_file-requires : goal.end_file-requires
end_file-requires c = c.loop-line.invariant.room.few

pub returns-in-Err-clause-fault : goal.returns-in-Err-clause-fault
returns-in-Err-clause-fault c =
    let gives = c.into_iter-line-iterator.ensures.into_iter_gives in
    let road = YieldsList-from_vec {s = c.into_iter-line-iterator.result} _ gives.0 (gives.1 ∙ c.args.lines.ok.0) in
    let turn = YieldsList-turn road c.loop-line.yielded c.loop-line.line-iterator c.loop-line.yielded_by c.next.result c.next.new.self c.in-Some.line c.in-Some.is c.next.ensures.steps in
    refused c.args.lines.items c.loop-line.body (length c.loop-line.yielded) c.loop-line.known c.in-Some.line c.in-Err.fault c.loop-line.invariant turn.0 turn.1
    (rw c.command_at-command.ensures at c.in-Err.ensures.fault)

pub returns-clause-ok : goal.returns-clause-ok
returns-clause-ok c =
    let gives = c.into_iter-line-iterator.ensures.into_iter_gives in
    let road = YieldsList-from_vec {s = c.into_iter-line-iterator.result} _ gives.0 (gives.1 ∙ c.args.lines.ok.0) in
    let end = YieldsList-end road c.loop-line.yielded c.loop-line.line-iterator c.loop-line.yielded_by c.next.result c.next.new.self c.in-None.is c.next.ensures.steps in
    rw (whole_design c.args.lines.items c.loop-line.body (length c.loop-line.yielded) c.loop-line.known c.loop-line.invariant (omega (arith, end.1))) c.end_file.ensures.ok
