use Rattle.std.proofs.Common.{◌≡◌, ◌∙◌, ◌-◌, ◌<◌, ◌&&◌, length, slice_index, sym, ap, subst, arith}
use Rattle.mv_base.specs.Set.{has}
use Rattle.mv_pool.proofs.Walking.{read_any}
use Rattle.mv_diagram.specs.Parts.{AddsParts}
use Rattle.mv_diagram.specs.Sets.{Point, holds}
use Rattle.mv_diagram.proofs.Literals.{limited, literal_last, lacking_literal, seen_all}
use Rattle.mv_diagram.proofs.Lacking.{lacking_same}
use Rattle.mv_diagram.proofs.Adding.{parts_none, literal_whole, literal_down, made_parts, made_set}
use Rattle.mv_diagram.proofs.Cubing.{reads_behind}
use Rattle.mv_diagram.proofs.Tables.{AddsNodes-same, AddsNodes-more, table_held, table_first, table_holds}
use Rattle.mv_diagram.proofs.literal.literal_in.Goals as goal

pub loop-value-init : goal.loop-value-init
loop-value-init c =
    let counts = c.args.table.now.counts.items in
    let ns = c.args.table.now.pool.places in
    let s = c.requires.sound in
    let count : slice_index counts c.args.var ≡ c.index.result.now = read_any counts c.args.var c.index.result.now 0 c.requires.variable c.index.ensures in
    let some = s.values.some c.args.var c.requires.variable in
    let few = s.values.few c.args.var c.requires.variable in
    let within = c.requires.variable in
    let last = c.only_if-rest.ensures.later in
    record {
      adds = AddsNodes-same c.args.table.now s;
      below = omega arith;
      there = c.requires.held;
      behind = c.requires.behind;
      held = c.only_if-rest.ensures.held;
      later = omega (arith, c.requires.behind);
      set = λ p. c.only_if-rest.ensures.set p ∙ ap (λ b. b && holds counts ns c.args.d.0 p) (c.has.ensures ∙ literal_last counts c.args.var c.args.set (c.index.result.now - 1) p (ap (λ x. x - 1) (sym count)));
      parts = parts_none counts ns _;
    }

pub loop-value-preserved : goal.loop-value-preserved
loop-value-preserved c =
    let start = c.args.table.now in
    let old = c.loop-value.table in
    let new = c.make.new.table in
    let is = c.loop-value.invariant in
    let adds = c.make.ensures.adds in
    let all = AddsNodes-more start old new is.adds adds in
    let behind = reads_behind start new c.requires.sound all c.args.d.0 c.args.var c.requires.behind in
    let within : c.args.var < length old.counts.items = rw (ap (λ v. v.items) is.adds.counts) c.requires.variable in
    let here = λ (p : Point). c.only_if-yes.ensures.set p ∙ ap (λ b. b && holds old.counts.items old.pool.places c.args.d.0 p) c.has-in-loop-value.ensures ∙ ap (λ b. has c.args.set (c.loop-value.value - 1) && b) (table_holds start old c.requires.sound is.adds c.args.d.0 p c.requires.held) in
    record {
      adds = all;
      below = rw (ap (λ v. v.items) adds.counts) (omega (arith, is.below, c.loop-value-test.true));
      there = table_held start new c.requires.sound all c.args.d.0 c.requires.held;
      behind = rw (table_first start new c.requires.sound all c.args.d.0 c.requires.held) c.requires.behind;
      held = c.in-Ok.ensures.held;
      later = c.in-Ok.ensures.later;
      set = λ p. c.in-Ok.ensures.set p ∙ made_set old new is.adds.sound adds c.args.var c.args.set c.loop-value.value _ within is.below (omega (arith, c.loop-value-test.true)) c.only_if-yes.result.0 c.loop-value.rest.0 here is.set p;
      parts = made_parts old new is.adds.sound adds c.args.var c.args.set c.loop-value.value _ within is.below (omega (arith, c.loop-value-test.true)) c.only_if-yes.result.0 c.loop-value.rest.0 here is.set start.pool.places behind is.parts c.make.ensures.added;
    }

pub returns-in-Err-clause-adds : goal.returns-in-Err-clause-adds
returns-in-Err-clause-adds c = AddsNodes-more c.args.table.now c.loop-value.table c.make.new.table c.loop-value.invariant.adds c.make.ensures.adds

pub returns-in-Err-clause-lacking : goal.returns-in-Err-clause-lacking
returns-in-Err-clause-lacking c =
    let start = c.args.table.now in
    let old = c.loop-value.table in
    let new = c.make.new.table in
    let is = c.loop-value.invariant in
    let adds = c.make.ensures.adds in
    let behind = reads_behind start new c.requires.sound (AddsNodes-more start old new is.adds adds) c.args.d.0 c.args.var c.requires.behind in
    let within : c.args.var < length old.counts.items = rw (ap (λ v. v.items) is.adds.counts) c.requires.variable in
    let here = λ (p : Point). c.only_if-yes.ensures.set p ∙ ap (λ b. b && holds old.counts.items old.pool.places c.args.d.0 p) c.has-in-loop-value.ensures ∙ ap (λ b. has c.args.set (c.loop-value.value - 1) && b) (table_holds start old c.requires.sound is.adds c.args.d.0 p c.requires.held) in
    let counts = ap (λ v. v.items) adds.counts in
    lacking_literal new.counts.items new.pool.places adds.sound c.args.var c.args.set (rw counts within) _ behind (c.loop-value.value - 1) (rw counts (omega (arith, is.below)))
    (lacking_same new.counts.items new.pool.places adds.sound _ _ (made_set old new is.adds.sound adds c.args.var c.args.set c.loop-value.value _ within is.below (omega (arith, c.loop-value-test.true)) c.only_if-yes.result.0 c.loop-value.rest.0 here is.set) c.in-Err.ensures.lacking)

pub returns-clause-set : goal.returns-clause-set
returns-clause-set c p range =
    let start = c.args.table.now in
    let counts = c.loop-value.table.counts.items in
    let within : c.args.var < length counts = rw (ap (λ v. v.items) c.loop-value.invariant.adds.counts) c.requires.variable in
    let done : c.loop-value.value ≡ 0 = omega (arith, c.loop-value-test.false) in
    let z = holds start.counts.items start.pool.places c.args.d.0 p in
    c.loop-value.invariant.set p
    ∙ ap (λ x. limited counts c.args.var c.args.set x (λ q. holds start.counts.items start.pool.places c.args.d.0 q) p) done
    ∙ ap (λ v. has c.args.set v && z) (seen_all (slice_index counts c.args.var) (p c.args.var) (range.below c.args.var within))

pub returns-clause-later : goal.returns-clause-later
returns-clause-later c = omega (arith, c.loop-value.invariant.later)

pub returns-in-Err-clause-added : goal.returns-in-Err-clause-added
returns-in-Err-clause-added c =
    let start = c.args.table.now in
    let old = c.loop-value.table in
    let new = c.make.new.table in
    let is = c.loop-value.invariant in
    let adds = c.make.ensures.adds in
    let behind = reads_behind start new c.requires.sound (AddsNodes-more start old new is.adds adds) c.args.d.0 c.args.var c.requires.behind in
    let within : c.args.var < length old.counts.items = rw (ap (λ v. v.items) is.adds.counts) c.requires.variable in
    let here = λ (p : Point). c.only_if-yes.ensures.set p ∙ ap (λ b. b && holds old.counts.items old.pool.places c.args.d.0 p) c.has-in-loop-value.ensures ∙ ap (λ b. has c.args.set (c.loop-value.value - 1) && b) (table_holds start old c.requires.sound is.adds c.args.d.0 p c.requires.held) in
    let counts = ap (λ v. v.items) adds.counts in
    literal_down new.counts.items start.pool.places new.pool.places adds.sound c.args.var c.args.set (c.loop-value.value - 1) _ behind (rw counts within) (rw counts (omega (arith, is.below)))
    (made_parts old new is.adds.sound adds c.args.var c.args.set c.loop-value.value _ within is.below (omega (arith, c.loop-value-test.true)) c.only_if-yes.result.0 c.loop-value.rest.0 here is.set start.pool.places behind is.parts c.make.ensures.added)

pub returns-clause-added : goal.returns-clause-added
returns-clause-added c =
    let start = c.args.table.now in
    let counts = c.loop-value.table.counts.items in
    let within : c.args.var < length counts = rw (ap (λ v. v.items) c.loop-value.invariant.adds.counts) c.requires.variable in
    let done : c.loop-value.value ≡ 0 = omega (arith, c.loop-value-test.false) in
    let parts = subst (λ x. AddsParts counts start.pool.places c.loop-value.table.pool.places (limited counts c.args.var c.args.set x (λ q. holds start.counts.items start.pool.places c.args.d.0 q))) done c.loop-value.invariant.parts in
    literal_whole counts start.pool.places c.loop-value.table.pool.places c.loop-value.invariant.adds.sound.values c.args.var c.args.set _ within parts
