-- A table's nets come behind those of the tables before it, and its covers count beside theirs.
use Rattle.std.proofs.Common.{◌≡◌, ◌<◌, ◌≤◌, ℕ, List, ◌∷◌, [], ◌++◌, ◌∙◌, sym, subst, ap, length, get_or, arith}
use Rattle.std.proofs.lemmas.List.{length-map, length_push}
use Rattle.std.proofs.lemmas.Iterator.Adapters.{YieldsList-from_vec}
use Rattle.std.proofs.lemmas.Iterator.Consumers.{YieldsList-turn, YieldsList-end}
use Rattle.mv_design.specs.declared.design.FileModel.{FileModel}
use Rattle.mv_design.specs.declared.table.FileTable.{FileTable}
use Rattle.mv_design.specs.declared.design.Decl.{Decl}
use Rattle.mv_design.specs.Values.{count_of}
use Rattle.mv_rows.specs.declared.column.Column.{Column}
use Rattle.mv_flat.specs.Built.{open_nets}
use Rattle.mv_flat.specs.Covers.{IsMadeTable}
use Rattle.mv_flat.specs.Numbers.{choice_at, mark_at}
use Rattle.mv_flat.specs.Marks.{AddsNets, TableNets}
use Rattle.mv_flat.specs.Shared.{IsFrom}
use Rattle.mv_flat.specs.Sized.{AreSized, TellsCovers}
use Rattle.mv_flat.proofs.Behinds.{TablesMade, choice_at_table, outputs_few, table_at, tables_more, tables_last, tables_room}
use Rattle.mv_flat.proofs.Sizes.{HasCovers, outputs_covered, sized_more, sized_last, past_limit, limit_told}
use Rattle.mv_flat.proofs.Passing.{covers_told}
use Rattle.mv_flat.proofs.tables.nets.Goals as goal
use Rattle.mv_flat.proofs.tables.nets.Goals.{In-Some, In-None, In-Ok, In_ok-put_table}

-- the table behind the first i ones
record IsTableAt (m : FileModel) (i : ℕ) (t : FileTable) : Type 0 where
  low : i < length m.tables
  is : t ≡ get_or m.tables i t

next : (c : In-Some) → IsTableAt c.args.model (length c.loop-table.yielded) c.in-Some.table
next c =
    let gives = c.into_iter-table-iterator.ensures.into_iter_gives in
    let road = YieldsList-from_vec {s = c.into_iter-table-iterator.result} _ gives.0 (gives.1 ∙ c.into_vec-table-items.result.ok.0) in
    let turn = YieldsList-turn road c.loop-table.yielded c.loop-table.table-iterator c.loop-table.yielded_by c.next.result c.next.new.self c.in-Some.table c.in-Some.is c.next.ensures.steps in
    let all = ap length c.into_vec-table-items.ensures in
    record {
      low = omega (arith, all, turn.0);
      is = turn.1 ∙ ap (λ (ts : List FileTable). get_or ts (length c.loop-table.yielded) c.in-Some.table) c.into_vec-table-items.ensures;
    }

pub put_table-requires-clause-later : goal.put_table-requires-clause-later
put_table-requires-clause-later c =
    let at = next (goal.at.put_table-requires-clause-later c).In-Some in
    tables_room c.args.model _ _ _ _ _ c.requires.placed at.low c.loop-table.invariant.made

pub columns-requires-clause-counts : goal.columns-requires-clause-counts
columns-requires-clause-counts c = ap length c.requires.counts ∙ length-map c.args.names.now (count_of c.args.model.decls)

pub columns-requires-clause-known : goal.columns-requires-clause-known
columns-requires-clause-known c =
    let at = next (goal.at.columns-requires-clause-known c).In-Some in
    (table_at c.args.model c.args.names.now (length c.loop-table.yielded) c.in-Some.table c.requires.placed at.low at.is).known

pub covers-requires-clause-columns : goal.covers-requires-clause-columns
covers-requires-clause-columns c =
    let at = next (goal.at.covers-requires-clause-columns c).In-Some in
    record {
      decls = c.args.model.decls;
      proper = c.requires.proper.decls;
      placed = table_at c.args.model c.args.names.now (length c.loop-table.yielded) c.in-Some.table c.requires.placed at.low at.is;
      are = c.as_slice-in-loop-table.ensures.value ∙ c.in_ok-columns.ensures c.args.model.decls c.requires.counts;
    }

pub covers-requires-clause-chosen : goal.covers-requires-clause-chosen
covers-requires-clause-chosen c =
    let at = next (goal.at.covers-requires-clause-chosen c).In-Some in
    choice_at_table c.args.model c.args.names.now (length c.loop-table.yielded) c.in-Some.table c.requires.placed.are at.low at.is

pub covers-requires-clause-from : goal.covers-requires-clause-from
covers-requires-clause-from c =
    let at = next (goal.at.covers-requires-clause-from c).In-Some in
    let P : FileTable → Type 0 = λ t. IsFrom c.loop-table.shared t in
    subst P (sym at.is) (c.loop-table.invariant.shared (length c.loop-table.yielded) c.in-Some.table at.low)

-- its covers, over the model's nets
covered : (c : In-Ok) → HasCovers c.args.model.decls c.args.names.now c.in-Some.table c.in-Ok.covers
covered c =
    let t = c.in-Some.table in
    let P : List Column → Type 0 = λ cs. IsMadeTable cs t (mark_at c.args.names.now t) (choice_at c.args.names.now t) c.in-Ok.covers in
    subst P (c.as_slice-in-loop-table.ensures.value ∙ c.in_ok-columns.ensures c.args.model.decls c.requires.counts) c.in-Ok.ensures.made

pub returns-in-Err-clause-fault : goal.returns-in-Err-clause-fault
returns-in-Err-clause-fault c =
    let at = next (goal.at.returns-in-Err-clause-fault c).In-Some in
    let P : List Column → Type 0 = λ cs. TellsCovers cs c.args.names.now c.in-Some.table c.loop-table.size c.in-Err.fault in
    covers_told c.args.file_nets c.args.model c.args.names.now (length c.loop-table.yielded) c.loop-table.size c.in-Some.table c.in-Err.fault
    c.requires.placed.are c.loop-table.invariant.sized at.low at.is
    (subst P (c.as_slice-in-loop-table.ensures.value ∙ c.in_ok-columns.ensures c.args.model.decls c.requires.counts) c.in-Err.ensures.stop)

pub with-requires-clause-some : goal.with-requires-clause-some
with-requires-clause-some c =
    let at = next (goal.at.with-requires-clause-some c).In-Some in
    (table_at c.args.model c.args.names.now (length c.loop-table.yielded) c.in-Some.table c.requires.placed at.low at.is).fits.some

pub with-requires-clause-few : goal.with-requires-clause-few
with-requires-clause-few c =
    let to = goal.at.with-requires-clause-few c in
    let at = next to.In-Some in
    let some = (table_at c.args.model c.args.names.now (length c.loop-table.yielded) c.in-Some.table c.requires.placed at.low at.is).fits.some in
    let many = outputs_covered c.args.model.decls c.args.names.now c.in-Some.table c.in-Ok.covers some (covered to.In-Ok) in
    let few = outputs_few c.args.model c.args.names.now (length c.loop-table.yielded) c.in-Some.table c.requires.placed at.low at.is in
    omega (arith, many, few)

pub returns-in-Err-with-clause-fault : goal.returns-in-Err-with-clause-fault
returns-in-Err-with-clause-fault c =
    let to = goal.at.returns-in-Err-with-clause-fault c in
    let at = next to.In-Some in
    limit_told c.args.file_nets c.args.model c.in-Err-with.fault
    (past_limit c.args.file_nets c.args.model c.args.names.now (length c.loop-table.yielded) c.loop-table.size c.in-Some.table c.in-Ok.covers c.in-Err-with.fault
    c.requires.placed.are c.loop-table.invariant.sized at.low at.is (covered to.In-Ok) c.in-Err-with.ensures.fault)

-- the nets with those of the table behind them
made_more : (c : In_ok-put_table) → IsTableAt c.args.model (length c.loop-table.yielded) c.in-Some.table
    → TablesMade c.args.model c.args.names.now (length (c.loop-table.yielded ++ c.in-Some.table ∷ [])) c.put_table.new.last (open_nets c.args.model) c.put_table.new.nets
made_more c at =
    let P : ℕ → Type 0 = λ i. TablesMade c.args.model c.args.names.now i c.put_table.new.last (open_nets c.args.model) c.put_table.new.nets in
    let Q : List Decl → Type 0 =
    λ ds. AddsNets (TableNets ds c.args.names.now c.in-Some.table) c.args.names.now c.loop-table.last c.put_table.new.last c.loop-table.nets c.put_table.new.nets in
    subst P (sym (length_push c.loop-table.yielded c.in-Some.table))
    (tables_more c.args.model c.args.names.now (length c.loop-table.yielded) c.loop-table.last c.put_table.new.last c.in-Some.table (open_nets c.args.model) c.loop-table.nets
    c.put_table.new.nets at.low at.is c.loop-table.invariant.made (subst Q (c.in_ok-decls.ensures ∙ c.as_slice.ensures) c.in_ok-put_table.ensures))

-- the size with the covers of the table
sized_with : (c : In_ok-put_table) → IsTableAt c.args.model (length c.loop-table.yielded) c.in-Some.table
    → HasCovers c.args.model.decls c.args.names.now c.in-Some.table c.in-Ok.covers
    → AreSized c.args.file_nets c.args.model c.args.names.now (length (c.loop-table.yielded ++ c.in-Some.table ∷ [])) c.in-Ok-with.size
sized_with c at covers =
    let P : ℕ → Type 0 = λ i. AreSized c.args.file_nets c.args.model c.args.names.now i c.in-Ok-with.size in
    subst P (sym (length_push c.loop-table.yielded c.in-Some.table))
    (sized_more c.args.file_nets c.args.model c.args.names.now (length c.loop-table.yielded) c.loop-table.size c.in-Ok-with.size c.in-Some.table c.in-Ok.covers
    c.loop-table.invariant.sized at.low at.is covers c.in-Ok-with.ensures.size c.in-Ok-with.ensures.within)

pub loop-table-preserved : goal.loop-table-preserved
loop-table-preserved c =
    let to = goal.at.loop-table-preserved c in
    record {
      made = made_more to.In_ok-put_table (next to.In-Some);
      sized = sized_with to.In_ok-put_table (next to.In-Some) (covered to.In-Ok);
      shared = λ k d low. c.in-Ok.ensures.kept (get_or c.args.model.tables k d) (c.loop-table.invariant.shared k d low);
    }

end : (c : In-None) → length c.args.model.tables ≤ length c.loop-table.yielded
end c =
    let gives = c.into_iter-table-iterator.ensures.into_iter_gives in
    let road = YieldsList-from_vec {s = c.into_iter-table-iterator.result} _ gives.0 (gives.1 ∙ c.into_vec-table-items.result.ok.0) in
    let end = YieldsList-end road c.loop-table.yielded c.loop-table.table-iterator c.loop-table.yielded_by c.next.result c.next.new.self c.in-None.is c.next.ensures.steps in
    let all = ap length c.into_vec-table-items.ensures in
    omega (arith, all, end.1)

pub returns-clause-nets : goal.returns-clause-nets
returns-clause-nets c = tables_last c.args.model _ _ _ _ _ c.requires.placed (end (goal.at.returns-clause-nets c).In-None) c.loop-table.invariant.made

pub returns-clause-fits : goal.returns-clause-fits
returns-clause-fits c = sized_last _ c.args.model _ _ _ c.requires.placed.are (end (goal.at.returns-clause-fits c).In-None) c.loop-table.invariant.sized
