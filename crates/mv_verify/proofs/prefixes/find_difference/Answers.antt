use Rattle.std.proofs.Common.{◌≡◌, ◌∙◌, ℕ, ◌+◌, ◌<◌, ◌≤◌, length, set, sym, subst, arith}
use Rattle.std.specs.Prelude.{slice_index}
use Rattle.std.proofs.lemmas.List.{length-set}
use Rattle.mv_net.specs.declared.parts.NetParts.{NetParts}
use Rattle.mv_net.specs.Formed.{WellFormed}
use Rattle.mv_verify.specs.Sides.{ports_of, count_at}
use Rattle.mv_verify.specs.Prefixes.{IsNext, AreLast}
use Rattle.mv_verify.proofs.Passing.{next_passed, last_passed, fine_moved, passed_moved}
use Rattle.mv_verify.proofs.Advancing.{to_go, falls_deeper, falls_next, next_below}
use Rattle.mv_verify.proofs.prefixes.find_difference.Goals as goal

pub loop-values-smaller-in-Deeper : goal.loop-values-smaller-in-Deeper
loop-values-smaller-in-Deeper c =
    let values = c.loop-values.values in
    let end = c.loop-values.end in
    let P : ℕ → Type 0 = λ n. to_go 65536 n (slice_index (set values end 0)) (end + 1) < to_go 65536 (length values) (slice_index values) end in
    subst P (sym (length-set values end 0)) (falls_deeper 65536 values end c.in-Deeper.ensures.look c.loop-values.invariant.small)

pub loop-values-smaller : goal.loop-values-smaller
loop-values-smaller c =
    let old = c.loop-values.values in
    let new = c.next_values.new.values in
    let end = c.loop-values.end in
    let next = c.in-Some.next in
    let P : ℕ → Type 0 = λ n. to_go 65536 n (slice_index new) next < to_go 65536 (length old) (slice_index old) end in
    let long : length old ≡ length new = omega arith in
    subst P long (falls_next 65536 (length old) (count_at c.look_at.new.left) (slice_index old) (slice_index new) end next c.loop-values.invariant.inside c.loop-values.invariant.small c.in-Some.ensures)

pub returns-in_default-clause-found : goal.returns-in_default-clause-found
returns-in_default-clause-found c = λ t.
    let l = c.loop-values.left in
    let r = c.loop-values.right in
    let values = c.loop-values.values in
    let end = c.loop-values.end in
    let is_left : l ≡ c.args.left.now = c.loop-values.invariant.left in
    let is_right : r ≡ c.args.right.now = c.loop-values.invariant.right in
    let long : length values ≡ length c.args.values.now = c.loop-values.auto.values in
    let Room : NetParts → Type 0 = λ x. length values ≤ length (ports_of x) in
    let room : Room c.args.left.now = omega (arith, c.requires.room_left) in
    let Last : NetParts → Type 0 = λ x. AreLast (count_at x) (slice_index values) end in
    fine_moved c.args.free c.args.left.now c.args.right.now l r c.args.points (length c.args.values.now) (length values) t is_left is_right long
    (last_passed c.args.free l r c.args.points (length values) end (slice_index values) (subst WellFormed (sym is_left) c.well_formed-2.ensures) c.loop-values.invariant.inside (subst Room (sym is_left) room) c.loop-values.invariant.passed c.in-Passed.ensures.look (subst Last c.in-Passed.ensures.left c.in_default.ensures) t)

pub loop-values-preserved : goal.loop-values-preserved
loop-values-preserved c =
    let l = c.loop-values.left in
    let r = c.loop-values.right in
    let old = c.loop-values.values in
    let new = c.next_values.new.values in
    let end = c.loop-values.end in
    let next = c.in-Some.next in
    let is_left : l ≡ c.args.left.now = c.loop-values.invariant.left in
    let long : length old ≡ length c.args.values.now = c.loop-values.auto.values in
    let more : length old ≡ length new = omega arith in
    let Room : NetParts → Type 0 = λ x. length old ≤ length (ports_of x) in
    let room : Room c.args.left.now = omega (arith, c.requires.room_left) in
    let Next : NetParts → Type 0 = λ x. IsNext (count_at x) (slice_index old) (slice_index new) end next in
    let moved : Next l = subst Next c.in-Passed.ensures.left c.in-Some.ensures in
    record {
      inside = omega (arith, c.loop-values.invariant.inside, moved.behind, moved.back);
      left = c.in-Passed.ensures.left ∙ is_left;
      right = c.in-Passed.ensures.right ∙ c.loop-values.invariant.right;
      small = next_below 65536 (count_at l) (slice_index old) (slice_index new) end next c.loop-values.invariant.small moved (λ k. omega (arith, c.type_inv.values k));
      passed =
          passed_moved c.args.free c.look_at.new.left c.look_at.new.right l r c.args.points (length new) (length old) next (slice_index new) (sym c.in-Passed.ensures.left) (sym c.in-Passed.ensures.right) more
          (next_passed c.args.free l r c.args.points (length old) end next (slice_index old) (slice_index new) (subst WellFormed (sym is_left) c.well_formed-2.ensures) c.loop-values.invariant.inside (subst Room (sym is_left) room) c.loop-values.invariant.passed c.in-Passed.ensures.look moved);
    }
