-- A byte goes on with the word in front, and a comma ends it.
use Rattle.std.proofs.Common.{◌≡◌, ◌+◌, ◌++◌, ◌∷◌, [], drop, get_or, ap, add-one, drop-cons}
use Rattle.std.proofs.lemmas.Bool.{ne_eqb}
use Rattle.std.proofs.lemmas.List.{drop_all}
use Rattle.mv_decl.specs.Line.{pieces_of, word_or_none}
use Rattle.mv_decl.proofs.Pieces.{pieces_begin, pieces_end, comma_passed, byte_passed}
use Rattle.mv_decl.proofs.commas.put_pieces.Goals as goal
use Rattle.mv_decl.proofs.commas.put_pieces.Goals.{then-byte-eq44+in_ok-put_word+in_ok-new+in_ok-push, else-byte-eq44+in_ok-push-2}

pub loop-byte-init : goal.loop-byte-init
loop-byte-init c = rw c.new-front.ensures.items (ap (λ ps. c.args.pieces.now ++ ps) (pieces_begin c.bytes-bytes.result.now))

pub loop-byte-preserved : goal.loop-byte-preserved
loop-byte-preserved c =
    let bytes = c.bytes-bytes.result.now in
    let i = c.loop-byte.byte-index in
    let here : drop i bytes ≡ get_or bytes i 0 ∷ drop (i + 1) bytes = rw add-one (drop-cons bytes i 0 c.loop-byte-test.true) in
    let before = rw here at c.loop-byte.invariant in
    elim c.if-byte-eq44.branch [
      | then-byte-eq44+in_ok-put_word+in_ok-new+in_ok-push w ↦
          rw (w.pieces-is, w.front-is, w.clear.ensures.items, w.in_ok-push.ensures.ok, w.in_ok-put_word.ensures, w.in_ok-new.ensures, w.as_slice.ensures.value)
          (comma_passed c.loop-byte.pieces _ c.loop-byte.front.items (drop (i + 1) bytes) (rw w.if-byte-eq44.true at before))
      | else-byte-eq44+in_ok-push-2 w ↦
          rw (w.pieces-is, w.front-is, w.in_ok-push-2.ensures.items)
          (byte_passed c.loop-byte.pieces _ c.loop-byte.front.items (get_or bytes i 0) (drop (i + 1) bytes) (ne_eqb _ _ w.if-byte-eq44.false) before)
    ]

pub returns : goal.returns
returns c =
    let bytes = c.bytes-bytes.result.now in
    let none : drop c.loop-byte.byte-index bytes ≡ [] = drop_all c.loop-byte.byte-index bytes c.loop-byte-test.false in
    let before = rw (none, pieces_end c.loop-byte.front.items) at c.loop-byte.invariant in
    let all : c.loop-byte.pieces ++ word_or_none c.as_slice-2.result.now ≡ c.args.pieces.now ++ pieces_of c.args.word.now =
    rw (c.as_slice-2.ensures.value, ← c.bytes-bytes.ensures) before in
    rw all at c.put_word-2.ensures
