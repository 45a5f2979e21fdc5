-- The bytes of each turn are read behind those of the turns before it.
use Rattle.std.proofs.Common.{◌≡◌, ◌-◌, length, take, drop, arith, length-drop}
use Rattle.std.proofs.lemmas.List.{take_all}
use Rattle.mv_lex.proofs.Letters.{piece_more}
use Rattle.mv_lex.proofs.lexer.Lexer.read_all.Goals as goal

pub loop-at-preserved : goal.loop-at-preserved
loop-at-preserved c =
    let piece = c.args.piece.now in
    let at = c.loop-at.at in
    let size = length-drop at piece in
    let rest : take (length piece - at) (drop at piece) ≡ drop at piece = take_all (length piece - at) (drop at piece) (omega arith) in
    record {
      within = omega (arith, c.in_ok-at.ensures.some.1, rw rest at c.in_ok-at.ensures.some.1, size);
      read = piece_more _ _ _ _ _ _ piece at _ c.loop-at.invariant.read (rw rest at c.in_ok-at.ensures.ok);
    }
