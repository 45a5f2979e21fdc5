use Rattle.std.proofs.Common.{◌≡◌, ◌+◌, ◌∷◌, length, drop, inl, inr, ⊎_elim, ap, ◌∙◌, length-set}
use Rattle.std.proofs.lemmas.List.Elements.{All-head, All-tail}
use Rattle.mv_lex.specs.declared.lines.LexLine.{LexLine}
use Rattle.mv_parse.specs.Steps.{HasFewColumns}
use Rattle.mv_parse.proofs.Values.{taken, IsRead, read-next, read-first}
use Rattle.mv_parse.proofs.tables.contents.Goals as goal

pub add_line-requires : goal.add_line-requires
add_line-requires c =
    let ahead = taken c.loop-at.left c.loop-at.at c.replace-line.result c.empty.result c.replace-line.ensures.before in
    All-head (λ (l : LexLine). HasFewColumns l) _ _ (rw ahead at c.loop-at.invariant.narrow)

pub loop-at-preserved : goal.loop-at-preserved
loop-at-preserved c =
    let ds = c.args.decls.now in
    let line = c.replace-line.result in
    let rest = drop (c.loop-at.at + 1) c.replace-line.new.self in
    let ahead : drop c.loop-at.at c.loop-at.left ≡ line ∷ rest = rw c.replace-line.ensures.items (taken c.loop-at.left c.loop-at.at line c.empty.result c.replace-line.ensures.before) in
    let size : length c.replace-line.new.self ≡ length c.args.lines = ap length c.replace-line.ensures.items ∙ (length-set c.loop-at.left c.loop-at.at c.empty.result ∙ c.loop-at.invariant.size) in
    let narrow = All-tail (λ (l : LexLine). HasFewColumns l) line rest (rw ahead at c.loop-at.invariant.narrow) in
    let behind = c.split_at.ensures.back ∙ ap (drop (c.loop-at.at + 1)) c.as_slice.ensures in
    let read : IsRead ds c.args.lines (line ∷ rest) c.loop-at.contents = rw ahead at c.loop-at.invariant.read in
    let next = read-next ds c.args.lines line rest c.loop-at.contents read (rw behind at c.in-Ok.ensures.fault) in
    record { size = size; narrow = narrow; read = rw (c.in-Ok.ensures.ok, behind) next }

pub returns-in-Err-clause-fault : goal.returns-in-Err-clause-fault
returns-in-Err-clause-fault c =
    let ds = c.args.decls.now in
    let line = c.replace-line.result in
    let rest = drop (c.loop-at.at + 1) c.replace-line.new.self in
    let ahead : drop c.loop-at.at c.loop-at.left ≡ line ∷ rest = rw c.replace-line.ensures.items (taken c.loop-at.left c.loop-at.at line c.empty.result c.replace-line.ensures.before) in
    let behind = c.split_at.ensures.back ∙ ap (drop (c.loop-at.at + 1)) c.as_slice.ensures in
    let read : IsRead ds c.args.lines (line ∷ rest) c.loop-at.contents = rw ahead at c.loop-at.invariant.read in
    ⊎_elim inl (λ e. inr (read-first _ ds c.args.lines line rest c.loop-at.contents read e)) (rw behind at c.in-Err.ensures.fault)
