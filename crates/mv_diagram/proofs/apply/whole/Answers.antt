use Rattle.mv_diagram.proofs.Adding.{parts_same}
use Rattle.mv_diagram.proofs.Lacking.{lacking_same}
use Rattle.mv_diagram.proofs.Sides.{no_later, sides_result, sides_whole, yes_later}
use Rattle.mv_diagram.proofs.Tables.{remembers_more, table_remembers}
use Rattle.mv_diagram.proofs.apply.whole.Goals as goal

pub make-requires-clause-yes_later : goal.make-requires-clause-yes_later
make-requires-clause-yes_later c = yes_later _ _ _ _ _ _ _ _ c.requires.sides

pub make-requires-clause-no_later : goal.make-requires-clause-no_later
make-requires-clause-no_later c = no_later _ _ _ _ _ _ _ _ c.requires.sides

pub returns-in-Ok-clause-ok : goal.returns-in-Ok-clause-ok
returns-in-Ok-clause-ok c = sides_result c.args.table.now c.make.new.table c.requires.sound c.make.ensures.adds _ _ _ _ _ _ c.requires.sides c.in-Ok.d.0 c.in-Ok.ensures.held c.in-Ok.ensures.later c.in-Ok.ensures.set

pub returns-in-Ok-clause-remembers : goal.returns-in-Ok-clause-remembers
returns-in-Ok-clause-remembers c =
    let old = c.args.table.now in
    let new = c.make.new.table in
    let adds = c.make.ensures.adds in
    remembers_more new.counts.items new.pool.places c.args.memo.now.entries c.keep.new.memo.entries c.args.key c.in-Ok.d
    (table_remembers old new c.requires.sound adds c.args.memo.now.entries c.requires.remembers) c.keep.ensures
    (sides_result old new c.requires.sound adds _ _ _ _ _ _ c.requires.sides c.in-Ok.d.0 c.in-Ok.ensures.held c.in-Ok.ensures.later c.in-Ok.ensures.set)

pub returns-in-Err-clause-remembers : goal.returns-in-Err-clause-remembers
returns-in-Err-clause-remembers c = table_remembers c.args.table.now c.make.new.table c.requires.sound c.make.ensures.adds c.args.memo.now.entries c.requires.remembers

pub returns-in-Err-clause-lacking : goal.returns-in-Err-clause-lacking
returns-in-Err-clause-lacking c =
    let new = c.make.new.table in
    let adds = c.make.ensures.adds in
    lacking_same new.counts.items new.pool.places adds.sound _ _ (sides_whole c.args.table.now new c.requires.sound adds _ _ _ _ _ _ c.requires.sides) c.in-Err.ensures.lacking

pub returns-in-Ok-clause-added : goal.returns-in-Ok-clause-added
returns-in-Ok-clause-added c =
    let old = c.args.table.now in
    let new = c.make.new.table in
    let adds = c.make.ensures.adds in
    parts_same new.counts.items old.pool.places new.pool.places _ _ adds.sound.values (λ p range. sides_whole old new c.requires.sound adds _ _ _ _ _ _ c.requires.sides p) c.make.ensures.added

pub returns-in-Err-clause-added : goal.returns-in-Err-clause-added
returns-in-Err-clause-added c =
    let old = c.args.table.now in
    let new = c.make.new.table in
    let adds = c.make.ensures.adds in
    parts_same new.counts.items old.pool.places new.pool.places _ _ adds.sound.values (λ p range. sides_whole old new c.requires.sound adds _ _ _ _ _ _ c.requires.sides p) c.make.ensures.added
