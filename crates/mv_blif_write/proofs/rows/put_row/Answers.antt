use Rattle.std.proofs.Common.{◌≡◌, ◌<◌, [], ◌∷◌, length, sym, arith}
use Rattle.std.proofs.lemmas.Bool.Decides.{nat_tests}
use Rattle.mv_base.proofs.Gains.{start, next, stop, last, same}
use Rattle.mv_page.proofs.Adding.{adds}
use Rattle.mv_blif_write.proofs.RowText.{row-bare, row-plane}
use Rattle.mv_blif_write.proofs.rows.put_row.Goals as goal

pub returns-then-is_empty : goal.returns-then-is_empty
returns-then-is_empty g c =
    let none : length c.args.fanins.now ≡ 0 = grind (arith, nat_tests) in
    same adds (sym (row-bare c.args.fanins.now c.args.digit c.args.lits.now none)) c.put.ensures

pub returns-in_err-put_plane : goal.returns-in_err-put_plane
returns-in_err-put_plane g c =
    let some : 0 < length c.args.fanins.now = grind (arith, nat_tests) in
    let text = row-plane c.args.fanins.now c.args.digit c.args.lits.now some in
    stop adds (32 ∷ c.args.digit ∷ 10 ∷ []) _ _ (start adds _ _) text c.in_err-put_plane.ensures c.from_residual.ensures.1

pub returns : goal.returns
returns g c =
    let some : 0 < length c.args.fanins.now = grind (arith, nat_tests) in
    let text = row-plane c.args.fanins.now c.args.digit c.args.lits.now some in
    last adds (next adds (start adds _ _) text c.in_ok-put_plane.ensures) c.put-2.ensures
