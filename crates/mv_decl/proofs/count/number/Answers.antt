-- One more digit.
use Rattle.std.proofs.Common.{◌≡◌, ◌∙◌, ◌+◌, ◌*◌, ◌-◌, ◌∷◌, ◌++◌, [], ap, take, get_or, add-one}
use Rattle.std.proofs.Math.Seq.{take-suc}
use Rattle.mv_decl.specs.Line.{number_said}
use Rattle.mv_decl.proofs.Numbers.{number_more, told_more}
use Rattle.mv_decl.proofs.count.number.Goals as goal

pub loop-byte-preserved : goal.loop-byte-preserved
loop-byte-preserved c =
    let w = c.args.digits.now in
    let i = c.loop-byte.byte-index in
    let b = get_or w i 0 in
    let longer : take (i + 1) w ≡ take i w ++ b ∷ [] = rw add-one (take-suc w i 0 c.loop-byte-test.true) in
    let next : number_said (take (i + 1) w) ≡ number_said (take i w) * 10 + (b - 48) = ap number_said longer ∙ number_more (take i w) b in
    told_more (number_said (take i w)) _ c.loop-byte.number c.saturating_mul.result c.saturating_sub-digit.result c.saturating_add-number.result b c.loop-byte.invariant next c.saturating_sub-digit.ensures c.saturating_mul.ensures c.saturating_add-number.ensures
