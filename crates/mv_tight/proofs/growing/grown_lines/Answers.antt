-- One line more.
use Rattle.std.proofs.Common.{◌≡◌, ◌<◌, ◌≤◌, List, length, take_all, get_or, sym, subst}
use Rattle.mv_cover.specs.declared.line.Line.{Line}
use Rattle.mv_net.specs.Formed.{AllLiterals}
use Rattle.mv_tight.specs.Growing.{AreGrown}
use Rattle.mv_tight.proofs.Growth.{grown_more}
use Rattle.mv_tight.proofs.Made.{IsOldLine, old_lines}
use Rattle.mv_tight.proofs.growing.grown_lines.Goals as goal

pub loop-line-preserved : goal.loop-line-preserved
loop-line-preserved c =
    λ w n budget flex table.
    let i = c.loop-line.line-index in
    let line = c.line-item.result in
    let lines = c.args.old.now.lines in
    let low : i < length lines = subst (λ (ls : List Line). i < length ls) c.as_slice-line-items.ensures c.loop-line-test.true in
    let is : line ≡ get_or lines i line = subst (λ (ls : List Line). line ≡ get_or ls i line) c.as_slice-line-items.ensures c.line-item.is in
    let old = subst (IsOldLine c.args.net.now.nets w n) (sym is) (old_lines c.args.net.now.nets w n c.args.old.now table i line low) in
    grown_more c.args.net.now.nets w n lines c.loop-line.grown c.push.new.self i line c.in_ok-grown_line.field-0 low is (c.loop-line.invariant w n budget flex table)
    (c.in_ok-grown_line.ensures.ok w n budget flex old.over old.inside) c.in_ok-push.ensures.ok

pub grown_line-requires : goal.grown_line-requires
grown_line-requires c =
    let low : c.loop-line.line-index < length c.args.old.now.lines = subst (λ (ls : List Line). c.loop-line.line-index < length ls) c.as_slice-line-items.ensures c.loop-line-test.true in
    let is : c.line-item.result ≡ get_or c.args.old.now.lines c.loop-line.line-index c.line-item.result =
    subst (λ (ls : List Line). c.line-item.result ≡ get_or ls c.loop-line.line-index c.line-item.result) c.as_slice-line-items.ensures c.line-item.is in
    record { literals = subst (λ (l : Line). AllLiterals c.args.net.now.nets l.cube) (sym is) (c.requires.literals c.loop-line.line-index c.line-item.result low) }

pub returns-clause-ok : goal.returns-clause-ok
returns-clause-ok c =
    λ w n budget flex table.
    subst (λ (ls : List Line). AreGrown c.args.net.now.nets w n ls c.loop-line.grown)
    (take_all c.loop-line.line-index c.args.old.now.lines (subst (λ (ls : List Line). length ls ≤ c.loop-line.line-index) c.as_slice-line-items.ensures c.loop-line-test.false))
    (c.loop-line.invariant w n budget flex table)
