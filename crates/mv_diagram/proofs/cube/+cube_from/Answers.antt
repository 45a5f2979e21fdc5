use Rattle.std.proofs.Common.{arith}
use Rattle.mv_diagram.proofs.Adding.{parts_none}
use Rattle.mv_diagram.proofs.Cubing.{literal_at, cube_rest_lacks, cube_rest_added, cube_set, cube_lacking, cube_added, cube_later, cube_behind, full_behind, full_held, full_set}
use Rattle.mv_diagram.proofs.Tables.{AddsNodes-more, AddsNodes-same}
use Rattle.mv_diagram.proofs.cube.+cube_from.Goals as goal

pub returns-then-at-literals-clause-held : goal.returns-then-at-literals-clause-held
returns-then-at-literals-clause-held t c = full_held c.args.table.now.pool.places

pub returns-then-at-literals-clause-later : goal.returns-then-at-literals-clause-later
returns-then-at-literals-clause-later t c v less before = full_behind c.args.table.now.counts.items c.args.table.now.pool.places v less

pub returns-then-at-literals-clause-set : goal.returns-then-at-literals-clause-set
returns-then-at-literals-clause-set t c p range = full_set c.args.table.now.counts.items c.args.table.now.pool.places c.args.literals.now c.args.at c.if-at-literals.true p

pub returns-then-at-literals-clause-added : goal.returns-then-at-literals-clause-added
returns-then-at-literals-clause-added t c = parts_none c.args.table.now.counts.items c.args.table.now.pool.places _

pub returns-in-Err-clause-lacking : goal.returns-in-Err-clause-lacking
returns-in-Err-clause-lacking t c =
    let here = literal_at c.args.table.now.counts.items c.args.literals.now c.args.at _ c.requires.vars c.requires.ascends c.requires.some (omega arith) c.index-literals-at.is in
    cube_rest_lacks c.args.table.now c.cube_from.new.table c.cube_from.new.table c.requires.sound c.cube_from.ensures.adds (AddsNodes-same c.cube_from.new.table c.cube_from.ensures.adds.sound) c.args.literals.now c.args.at _ _ here c.in-Err.ensures.lacking

pub returns-in-Err-clause-added : goal.returns-in-Err-clause-added
returns-in-Err-clause-added t c =
    let here = literal_at c.args.table.now.counts.items c.args.literals.now c.args.at _ c.requires.vars c.requires.ascends c.requires.some (omega arith) c.index-literals-at.is in
    cube_rest_added c.args.table.now c.cube_from.new.table c.cube_from.new.table c.requires.sound c.cube_from.ensures.adds (AddsNodes-same c.cube_from.new.table c.cube_from.ensures.adds.sound) c.args.literals.now c.args.at _ _ here c.args.table.now.pool.places c.cube_from.ensures.added

pub literal_in-requires-clause-behind : goal.literal_in-requires-clause-behind
literal_in-requires-clause-behind t c =
    let here = literal_at c.args.table.now.counts.items c.args.literals.now c.args.at _ c.requires.vars c.requires.ascends c.requires.some (omega arith) c.index-literals-at.is in
    cube_behind c.args.table.now c.cube_from.new.table c.cube_from.ensures.adds c.args.literals.now c.args.at _ here c.in-Ok.rest.0 c.in-Ok.ensures.later

pub returns-clause-adds : goal.returns-clause-adds
returns-clause-adds t c = AddsNodes-more c.args.table.now c.cube_from.new.table c.literal_in.new.table c.cube_from.ensures.adds c.literal_in.ensures.adds

pub returns-clause-later : goal.returns-clause-later
returns-clause-later t c =
    let here = literal_at c.args.table.now.counts.items c.args.literals.now c.args.at _ c.requires.vars c.requires.ascends c.requires.some (omega arith) c.index-literals-at.is in
    cube_later c.args.table.now c.cube_from.new.table c.literal_in.new.table c.requires.sound c.cube_from.ensures.adds c.literal_in.ensures.adds c.args.literals.now c.args.at _ _ here c.literal_in.result (omega arith) c.literal_in.ensures.later

pub returns-clause-set : goal.returns-clause-set
returns-clause-set t c =
    let here = literal_at c.args.table.now.counts.items c.args.literals.now c.args.at _ c.requires.vars c.requires.ascends c.requires.some (omega arith) c.index-literals-at.is in
    cube_set c.args.table.now c.cube_from.new.table c.literal_in.new.table c.requires.sound c.cube_from.ensures.adds c.literal_in.ensures.adds c.args.literals.now c.args.at _ _ here c.in-Ok.rest c.in-Ok.ensures.set c.literal_in.result c.literal_in.ensures.set

pub returns-clause-added : goal.returns-clause-added
returns-clause-added t c =
    let here = literal_at c.args.table.now.counts.items c.args.literals.now c.args.at _ c.requires.vars c.requires.ascends c.requires.some (omega arith) c.index-literals-at.is in
    cube_added c.args.table.now c.cube_from.new.table c.literal_in.new.table c.requires.sound c.cube_from.ensures.adds c.literal_in.ensures.adds c.args.literals.now c.args.at _ _ here c.in-Ok.rest c.in-Ok.ensures.set c.cube_from.ensures.added c.literal_in.ensures.added

pub returns-clause-lacking : goal.returns-clause-lacking
returns-clause-lacking t c =
    let here = literal_at c.args.table.now.counts.items c.args.literals.now c.args.at _ c.requires.vars c.requires.ascends c.requires.some (omega arith) c.index-literals-at.is in
    cube_lacking c.args.table.now c.cube_from.new.table c.literal_in.new.table c.requires.sound c.cube_from.ensures.adds c.literal_in.ensures.adds c.args.literals.now c.args.at _ _ here c.in-Ok.rest c.in-Ok.ensures.set c.literal_in.result c.literal_in.ensures.lacking
