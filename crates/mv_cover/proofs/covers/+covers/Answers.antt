-- Each part is the cofactor at the value: it is smaller, and what it misses the cubes miss.
use Rattle.std.proofs.Common.{◌≡◌, ◌<◌, ◌∙◌, get_or, arith, subst, sym}
use Rattle.mv_cover.specs.declared.covers.Choice.{Choice}
use Rattle.mv_cover.specs.declared.covers.Choice.TheVariants.{Nowhere, On}
use Rattle.mv_cover.specs.Cofactors.{cofactor_of, IsChoice}
use Rattle.mv_cover.proofs.Covering.{literals_of_cubes, missed_by_none, part_within, part_smaller, part_covered, part_missed}
use Rattle.mv_cover.proofs.ValueClasses.{settled_none, settled_known, settled_more}
use Rattle.mv_cover.proofs.covers.+covers.Goals as goal

pub returns-in-Nowhere : goal.returns-in-Nowhere
returns-in-Nowhere t c =
    let told : IsChoice Nowhere c.args.cubes.now = subst (λ (w : Choice). IsChoice w c.args.cubes.now) c.in-Nowhere.is c.in_ok-choice.ensures in
    missed_by_none c.args.counts.now c.args.cubes.now told

pub covers-requires : goal.covers-requires
covers-requires t c =
    let same : c.as_slice.result.now ≡ cofactor_of c.in-On.net.0 c.loop-value.value c.args.cubes.now = c.as_slice.ensures ∙ c.in_ok-part.ensures in
    let read : IsChoice (On c.in-On.net) c.args.cubes.now = subst (λ (w : Choice). IsChoice w c.args.cubes.now) c.in-On.is c.in_ok-choice.ensures in
    let less : literals_of_cubes c.as_slice.result.now < literals_of_cubes c.args.cubes.now = part_smaller c.as_slice.result.now c.args.cubes.now c.in-On.net.0 c.loop-value.value same read in
    (omega arith, part_within c.args.counts.now c.as_slice.result.now c.args.cubes.now c.in-On.net.0 c.loop-value.value same c.requires)

pub returns-then-not-branch : goal.returns-then-not-branch
returns-then-not-branch t c =
    let same : c.as_slice.result.now ≡ cofactor_of c.in-On.net.0 c.loop-value.value c.args.cubes.now = c.as_slice.ensures ∙ c.in_ok-part.ensures in
    let low : c.loop-value.value < get_or c.args.counts.now c.in-On.net.0 0 = omega arith in
    part_missed c.args.counts.now c.as_slice.result.now c.args.cubes.now c.in-On.net.0 c.loop-value.value c.in_ok-covers.field-0 same c.if-not-branch.true c.in_ok-covers.ensures low

pub loop-value-init : goal.loop-value-init
loop-value-init t c = settled_none c.args.counts.now c.args.cubes.now c.in-On.net.0 c.empty-settled.result c.empty-settled.ensures

pub loop-value-preserved-then-has : goal.loop-value-preserved-then-has
loop-value-preserved-then-has t c =
    settled_known c.args.counts.now c.args.cubes.now c.in-On.net.0 c.loop-value.value c.loop-value.settled (sym c.has.ensures ∙ c.if-has.true) c.loop-value.invariant

pub loop-value-preserved : goal.loop-value-preserved
loop-value-preserved t c =
    let same : c.as_slice.result.now ≡ cofactor_of c.in-On.net.0 c.loop-value.value c.args.cubes.now = c.as_slice.ensures ∙ c.in_ok-part.ensures in
    settled_more c.args.counts.now c.args.cubes.now c.as_slice.result.now c.in-On.net.0 c.loop-value.value c.loop-value.settled c.alike.result c.join-settled.result same
    (part_covered c.args.counts.now c.as_slice.result.now c.in_ok-covers.field-0 c.if-not-branch.false c.in_ok-covers.ensures) c.join-settled.ensures c.alike.ensures c.loop-value.invariant
