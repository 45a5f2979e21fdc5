use Rattle.std.proofs.Common.{arith}
use Rattle.mv_diagram.proofs.Tables.{table_first, table_remembers}
use Rattle.mv_diagram.specs.Quantified.{joined_set}
use Rattle.mv_diagram.proofs.Adding.{parts_same}
use Rattle.mv_diagram.proofs.Quantifying.{joined_result, joined_test, set_operation, set_test}
use Rattle.mv_diagram.proofs.quantify.join.Goals as goal

pub returns-then-joined-clause-ok : goal.returns-then-joined-clause-ok
returns-then-joined-clause-ok c =
    let old = c.args.table.now in
    let new = c.apply.new.table in
    let s = c.requires.sound in
    let y = table_first old new s c.apply.ensures.adds c.args.yes.0 c.requires.yes_held in
    let n = table_first old new s c.apply.ensures.adds c.args.no.0 c.requires.no_held in
    let low = c.requires.test.value in
    let few = s.values.few c.args.test.var c.requires.test.variable in
    let yes = c.requires.yes_later in
    let no' = c.requires.no_later in
    joined_result new.counts.items new.pool.places c.args.joined c.args.answer c.joining_of.result c.args.test c.args.yes.0 c.args.no.0 c.apply.result c.if-joined.true c.joining_of.ensures (omega arith) (omega arith) c.apply.ensures.ok

pub returns-else-joined-clause-remembers : goal.returns-else-joined-clause-remembers
returns-else-joined-clause-remembers c = table_remembers c.args.table.now c.make.new.table c.requires.sound c.make.ensures.adds c.args.memo.now.entries c.requires.remembers

pub returns-else-joined-clause-ok : goal.returns-else-joined-clause-ok
returns-else-joined-clause-ok c =
    joined_test c.args.table.now c.make.new.table c.requires.sound c.make.ensures.adds c.args.joined c.args.answer c.args.test c.args.yes.0 c.args.no.0 c.make.result c.if-joined.false c.requires.yes_held c.requires.no_held
    c.make.ensures.held c.make.ensures.later c.make.ensures.set

pub returns-then-joined-clause-added : goal.returns-then-joined-clause-added
returns-then-joined-clause-added c =
    let old = c.args.table.now in
    let new = c.apply.new.table in
    parts_same new.counts.items old.pool.places new.pool.places _ (λ p. joined_set new.counts.items new.pool.places c.args.joined c.args.answer c.args.test c.args.yes.0 c.args.no.0 p) c.apply.ensures.adds.sound.values
    (λ p range. set_operation new.counts.items new.pool.places c.args.joined c.args.answer c.joining_of.result c.args.test c.args.yes.0 c.args.no.0 c.if-joined.true c.joining_of.ensures p)
    c.apply.ensures.added

pub returns-else-joined-clause-added : goal.returns-else-joined-clause-added
returns-else-joined-clause-added c =
    let old = c.args.table.now in
    let new = c.make.new.table in
    parts_same new.counts.items old.pool.places new.pool.places _ (λ p. joined_set new.counts.items new.pool.places c.args.joined c.args.answer c.args.test c.args.yes.0 c.args.no.0 p) c.make.ensures.adds.sound.values
    (λ p range. set_test old new c.requires.sound c.make.ensures.adds c.args.joined c.args.answer c.args.test c.args.yes.0 c.args.no.0 c.if-joined.false c.requires.yes_held c.requires.no_held p)
    c.make.ensures.added
