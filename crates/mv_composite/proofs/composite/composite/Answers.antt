-- The lines that are left, with the default, are the composite, which is too wide or not.
use Rattle.std.proofs.Common.{◌≡◌, arith}
use Rattle.std.proofs.lemmas.Bool.{MatchBool-at_true, MatchBool-at_false}
use Rattle.mv_composite.specs.Composite.{composed}
use Rattle.mv_composite.specs.Wide.{HasManyFanins}
use Rattle.mv_composite.proofs.Widths.{composed_from, many_left, many_lines, many_fanins, not_too_wide}
use Rattle.mv_composite.proofs.composite.composite.Goals as goal

pub returns-in-Err-left_of_given-clause-wide : goal.returns-in-Err-left_of_given-clause-wide
returns-in-Err-left_of_given-clause-wide c = λ e.
    many_left c.args.counts.now c.args.inner.now c.args.reader.now c.in-Ok.spelled c.in-Ok-outside.outside.items c.as_slice-2.result.now c.as_slice.result.now c.as_slice-3.result.now c.in-Ok.ensures.cover c.as_slice.ensures c.in-Ok-outside.ensures.cubes c.as_slice-2.ensures.value c.as_slice-3.ensures (c.in-Err-left_of_given.ensures.wide e)

pub returns-then-len-gt-MAX_COMPOSED_LINES-clause-wide : goal.returns-then-len-gt-MAX_COMPOSED_LINES-clause-wide
returns-then-len-gt-MAX_COMPOSED_LINES-clause-wide c =
    let is : c.finish-cover.result ≡ composed c.args.counts.now c.args.inner.now c.args.reader.now =
    composed_from c.args.counts.now c.args.inner.now c.args.reader.now c.in-Ok.spelled c.finish-cover.result c.in-Ok-outside.outside.items c.as_slice-2.result.now c.as_slice.result.now c.as_slice-3.result.now c.in-Ok-left_of_given.left c.in-Ok.ensures.cover c.as_slice.ensures c.in-Ok-outside.ensures.cubes c.as_slice-2.ensures.value c.as_slice-3.ensures c.in-Ok-left_of_given.ensures.left c.finish-cover.ensures
    in
    λ _. many_lines c.args.counts.now c.args.inner.now c.args.reader.now c.finish-cover.result is (record { many = omega arith })

pub returns-then-branch-clause-wide : goal.returns-then-branch-clause-wide
returns-then-branch-clause-wide c =
    let is : c.finish-cover.result ≡ composed c.args.counts.now c.args.inner.now c.args.reader.now =
    composed_from c.args.counts.now c.args.inner.now c.args.reader.now c.in-Ok.spelled c.finish-cover.result c.in-Ok-outside.outside.items c.as_slice-2.result.now c.as_slice.result.now c.as_slice-3.result.now c.in-Ok-left_of_given.left c.in-Ok.ensures.cover c.as_slice.ensures c.in-Ok-outside.ensures.cubes c.as_slice-2.ensures.value c.as_slice-3.ensures c.in-Ok-left_of_given.ensures.left c.finish-cover.ensures
    in
    let many = MatchBool-at_true (HasManyFanins c.as_slice-4.result.now) (HasManyFanins c.as_slice-4.result.now → ⊥) c.if-branch.true c.in_ok-has_many_fanins.ensures in
    λ _. many_fanins c.args.counts.now c.args.inner.now c.args.reader.now c.finish-cover.result c.as_slice-4.result.now is c.as_slice-4.ensures many

pub returns-clause-cover : goal.returns-clause-cover
returns-clause-cover c =
    composed_from c.args.counts.now c.args.inner.now c.args.reader.now c.in-Ok.spelled c.finish-cover.result c.in-Ok-outside.outside.items c.as_slice-2.result.now c.as_slice.result.now c.as_slice-3.result.now c.in-Ok-left_of_given.left c.in-Ok.ensures.cover c.as_slice.ensures c.in-Ok-outside.ensures.cubes c.as_slice-2.ensures.value c.as_slice-3.ensures c.in-Ok-left_of_given.ensures.left c.finish-cover.ensures

pub returns-clause-narrow : goal.returns-clause-narrow
returns-clause-narrow c =
    let is : c.finish-cover.result ≡ composed c.args.counts.now c.args.inner.now c.args.reader.now =
    composed_from c.args.counts.now c.args.inner.now c.args.reader.now c.in-Ok.spelled c.finish-cover.result c.in-Ok-outside.outside.items c.as_slice-2.result.now c.as_slice.result.now c.as_slice-3.result.now c.in-Ok-left_of_given.left c.in-Ok.ensures.cover c.as_slice.ensures c.in-Ok-outside.ensures.cubes c.as_slice-2.ensures.value c.as_slice-3.ensures c.in-Ok-left_of_given.ensures.left c.finish-cover.ensures
    in
    let few = MatchBool-at_false (HasManyFanins c.as_slice-4.result.now) (HasManyFanins c.as_slice-4.result.now → ⊥) c.if-branch.false c.in_ok-has_many_fanins.ensures in
    not_too_wide c.args.counts.now c.args.inner.now c.args.reader.now c.in-Ok.spelled c.finish-cover.result c.as_slice.result.now c.as_slice-4.result.now is c.in-Ok.ensures.cover c.as_slice.ensures c.as_slice-4.ensures
    c.in-Ok.ensures.narrow c.in-Ok-outside.ensures.narrow (λ m. let h = m.many in omega arith) few
