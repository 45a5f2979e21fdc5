-- The lines that are left, and the default beside them.
use Rattle.std.proofs.Common.{◌≡◌, ◌∙◌}
use Rattle.mv_cover.specs.Absorb.{default_beside}
use Rattle.mv_meaning.proofs.Rewired.{cover_at}
use Rattle.mv_net.specs.Nets.{slot, values_in}
use Rattle.mv_tight.proofs.Made.{cover_literals, kept_from, new_made, other_lines, same_lines, stays_made}
use Rattle.mv_tight.proofs.making.make_tight.Goals as goal

pub grown_lines-requires : goal.grown_lines-requires
grown_lines-requires c =
    let net = c.args.net.now in
    let old = c.table_of-old.result.now in
    record {
      literals = cover_literals net.nets (values_in (slot net.nets c.args.n.0)) old.lines (cover_at net c.args.n.0 old c.well_formed-2.ensures c.table_of-old.ensures).lines;
    }

pub returns-in-Err-clause-err : goal.returns-in-Err-clause-err
returns-in-Err-clause-err c = λ w budget flex. c.in-Err.ensures.err w c.args.n.0 budget flex

pub returns-in-Err-lines_left-clause-err : goal.returns-in-Err-lines_left-clause-err
returns-in-Err-lines_left-clause-err c = λ w budget flex. c.in-Err-lines_left.ensures.err c.args.net.now w c.args.n.0 budget flex

pub returns-then-eq-clause-ok : goal.returns-then-eq-clause-ok
returns-then-eq-clause-ok c =
    λ w budget old flex table.
    let net = c.args.net.now in
    let n = c.args.n.0 in
    let now = c.table_of-old.result.now in
    let left = c.in-Ok-lines_left.left in
    stays_made net w n now old left c.table_of-old.ensures table
    (kept_from net w n now c.in-Ok.lines left c.in_ok-default.default c.well_formed-2.ensures c.table_of-old.ensures (c.in-Ok.ensures.ok w n budget flex c.table_of-old.ensures) c.in_ok-default.ensures
    (λ over inside o is. c.in-Ok-lines_left.ensures.ok net w n budget flex over inside o is))
    (same_lines c.as_slice.result.now c.as_slice-2.result.now left now.lines c.eq.result c.eq.ensures c.as_slice.ensures c.as_slice-2.ensures c.if-eq.true)

pub returns-clause-ok : goal.returns-clause-ok
returns-clause-ok c =
    λ w budget old flex table.
    let net = c.args.net.now in
    let n = c.args.n.0 in
    let now = c.table_of-old.result.now in
    let left = c.in-Ok-lines_left.left in
    let default : c.default_beside-default.result ≡ default_beside left now.default =
    c.default_beside-default.ensures ∙ (λ i. default_beside (c.as_slice-3.ensures i) (c.in_ok-default.ensures i)) in
    new_made net w n now old (record { lines = left; default = c.default_beside-default.result }) left c.well_formed-2.ensures c.table_of-old.ensures table
    (kept_from net w n now c.in-Ok.lines left c.in_ok-default.default c.well_formed-2.ensures c.table_of-old.ensures (c.in-Ok.ensures.ok w n budget flex c.table_of-old.ensures) c.in_ok-default.ensures
    (λ over inside o is. c.in-Ok-lines_left.ensures.ok net w n budget flex over inside o is))
    (other_lines c.as_slice.result.now c.as_slice-2.result.now left now.lines c.eq.result c.eq.ensures c.as_slice.ensures c.as_slice-2.ensures c.if-eq.false)
    (λ i. record { lines = left; default = default i })
