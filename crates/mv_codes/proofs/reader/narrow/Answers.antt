-- Too many lines or fanins make a table too wide, and nothing else does.
use Rattle.std.proofs.Common.{arith}
use Rattle.std.proofs.lemmas.Bool.{MatchBool-at_true, MatchBool-at_false}
use Rattle.mv_composite.specs.Wide.{HasManyFanins}
use Rattle.mv_codes.specs.Wide.{ByLines}
use Rattle.mv_codes.proofs.Encoded.{many_fanins, not_too_wide}
use Rattle.mv_codes.proofs.reader.narrow.Goals as goal

pub returns-then-len-gt-MAX_COMPOSED_LINES-clause-wide : goal.returns-then-len-gt-MAX_COMPOSED_LINES-clause-wide
returns-then-len-gt-MAX_COMPOSED_LINES-clause-wide c = λ _. ByLines (record { many = omega arith })

pub returns-then-branch-clause-wide : goal.returns-then-branch-clause-wide
returns-then-branch-clause-wide c = λ _.
    many_fanins c.args.cover c.as_slice.result.now c.as_slice.ensures (MatchBool-at_true (HasManyFanins c.as_slice.result.now) (HasManyFanins c.as_slice.result.now → ⊥) c.if-branch.true c.in_ok-has_many_fanins.ensures)

pub returns-clause-narrow : goal.returns-clause-narrow
returns-clause-narrow c =
    not_too_wide c.args.cover c.as_slice.result.now c.as_slice.ensures (λ m. let h = m.many in omega arith)
    (MatchBool-at_false (HasManyFanins c.as_slice.result.now) (HasManyFanins c.as_slice.result.now → ⊥) c.if-branch.false c.in_ok-has_many_fanins.ensures)
