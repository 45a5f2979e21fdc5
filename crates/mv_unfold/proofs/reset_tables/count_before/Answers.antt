-- As far as the tables stand before the line.
use Rattle.std.proofs.Common.{◌≡◌, true, false, get_or, sym, ◌∙◌, ap, arith}
use Rattle.std.specs.Prelude.{nat_lt}
use Rattle.std.proofs.lemmas.Bool.Decides.{nat_tests}
use Rattle.mv_design.specs.declared.table.FileTable.{FileTable}
use Rattle.mv_design.proofs.ByLine.{few_before}
use Rattle.mv_unfold.proofs.Before.{before_later, before_next, before_here}
use Rattle.mv_unfold.proofs.reset_tables.count_before.Goals as goal
use Rattle.mv_unfold.proofs.reset_tables.count_before.Goals.{then-line-last, else-line-last}

pub loop-count-init : goal.loop-count-init
loop-count-init c =
    let ts = c.args.tables.now in
    elim c.if-line-last.branch [
      | then-line-last w ↦ let s = w.start-is in omega arith
      | else-line-last w ↦
          let s = w.start-is in
          let b = c.requires in
          let f = w.if-line-last.false in
          let m = before_later (λ (t : FileTable). t.line) c.args.last c.args.line ts (omega arith) in
          omega arith
    ]

pub returns-then-tables-count : goal.returns-then-tables-count
returns-then-tables-count c =
    let t = c.index-tables-count.result in
    let h = c.if-tables-count.true in
    let not_before : nat_lt (get_or c.args.tables.now c.loop-count.count t).line c.args.line ≡ false =
    ap (λ (x : FileTable). nat_lt x.line c.args.line) (sym c.index-tables-count.is) ∙ grind (arith, nat_tests) in
    before_here (λ (x : FileTable). x.line) c.args.line c.args.tables.now c.loop-count.count t c.loop-count-test.true not_before c.loop-count.invariant

pub loop-count-preserved : goal.loop-count-preserved
loop-count-preserved c =
    let t = c.index-tables-count.result in
    let h = c.if-tables-count.false in
    let before : nat_lt (get_or c.args.tables.now c.loop-count.count t).line c.args.line ≡ true =
    ap (λ (x : FileTable). nat_lt x.line c.args.line) (sym c.index-tables-count.is) ∙ grind (arith, nat_tests) in
    before_next (λ (x : FileTable). x.line) c.args.line c.args.tables.now c.loop-count.count t c.loop-count-test.true before c.loop-count.invariant

pub returns : goal.returns
returns c =
    let f = few_before (λ (t : FileTable). t.line) c.args.line c.args.tables.now in
    let i = c.loop-count.invariant in
    let e = c.loop-count-test.false in
    omega arith
