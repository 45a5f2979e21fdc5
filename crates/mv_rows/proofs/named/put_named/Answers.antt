-- The row's lines stand there already, or are known from now on.
use Rattle.std.proofs.Common.{◌≡◌, true, sym, ◌∙◌, subst}
use Rattle.std.specs.List.{list_any}
use Rattle.mv_rows.specs.declared.named.NamedRow.{NamedRow}
use Rattle.mv_rows.specs.Cubes.{HasNoPoint, IsRowCube}
use Rattle.mv_rows.specs.Named.{named_eq, HaveLinesAmong}
use Rattle.mv_rows.proofs.SameLines.{none_row, seen_row, named_more}
use Rattle.mv_rows.proofs.named.put_named.Goals as goal

pub returns-in_default-clause-rows : goal.returns-in_default-clause-rows
returns-in_default-clause-rows c =
    let cs = c.args.frame.now.columns in
    let none : HasNoPoint cs c.args.row.now.ins = rw c.as_slice.ensures at (rw c.in_default.is at c.in_ok-cube.ensures) in
    none_row cs c.args.row.now c.args.place c.args.set.now c.requires.row c.requires.entry none

pub returns-then-contains-clause-rows : goal.returns-then-contains-clause-rows
returns-then-contains-clause-rows c =
    let cs = c.args.frame.now.columns in
    let n : NamedRow = record { cube = c.in-Some.cube; place = c.args.place } in
    let cube : IsRowCube cs c.args.row.now.ins c.in-Some.cube = rw c.as_slice.ensures at (rw c.in-Some.is at c.in_ok-cube.ensures) in
    let there : list_any (named_eq n) c.args.named.now.keys ≡ true = sym c.contains.ensures ∙ c.if-contains.true in
    seen_row cs c.args.row.now n c.args.named.now.keys c.args.set.now c.requires.row c.requires.entry cube there c.requires.named

pub returns-in-Ok-insert-clause-named : goal.returns-in-Ok-insert-clause-named
returns-in-Ok-insert-clause-named c =
    let cs = c.args.frame.now.columns in
    let n : NamedRow = record { cube = c.in-Some.cube; place = c.args.place } in
    let cube : IsRowCube cs c.args.row.now.ins c.in-Some.cube = rw c.as_slice.ensures at (rw c.in-Some.is at c.in_ok-cube.ensures) in
    subst (HaveLinesAmong cs c.put_lines.new.set.lines.keys) (sym c.in-Ok-insert.ensures.keys)
    (named_more cs c.args.row.now n c.args.named.now.keys c.args.set.now c.put_lines.new.set c.requires.row c.requires.entry cube c.in-Ok.ensures.rows c.requires.named)
