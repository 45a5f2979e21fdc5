use Rattle.std.proofs.Common.{◌∙◌, ℕ, Bool, ◌<◌, true, not, length, get_or, refl, sym, ap, arith}
use Rattle.std.proofs.lemmas.List.{length-set}
use Rattle.mv_base.specs.declared.number.NetId.{NetId}
use Rattle.mv_graph.proofs.Nets.{has_id-at}
use Rattle.mv_solve.specs.Asked.{asked_of}
use Rattle.mv_solve.specs.Known.{is_only}
use Rattle.mv_solve.proofs.Marking.{all_marked, all_passed}
use Rattle.mv_solve.proofs.marks.mark_open.Goals as goal
use Rattle.mv_solve.proofs.marks.mark_open.Goals.{then-not-is_only, else-not-is_only}

pub bounds-marks-n : goal.bounds-marks-n
bounds-marks-n c =
    let none : NetId = record { 0 = 0 } in
    let low = c.requires (get_or c.args.nets.now c.loop-n.n-index none).0 (has_id-at c.args.nets.now c.loop-n.n-index none c.loop-n-test.true) in
    omega (arith, low, c.loop-n.invariant.long)

pub loop-n-preserved : goal.loop-n-preserved
loop-n-preserved c =
    let none : NetId = record { 0 = 0 } in
    let n = get_or c.args.nets.now c.loop-n.n-index none in
    let low = c.requires n.0 (has_id-at c.args.nets.now c.loop-n.n-index none c.loop-n-test.true) in
    let inside : n.0 < length c.loop-n.marks = omega (arith, low, c.loop-n.invariant.long) in
    let test : ℕ → Bool = λ m. not (is_only (asked_of c.args.asked.now m)) in
    let is = ap is_only (sym c.known_of.ensures) ∙ sym c.is_only.ensures in
    elim c.if-not-is_only.branch [
      | then-not-is_only w ↦ rw (w.marks-is) (record {
        long = length-set c.loop-n.marks n.0 true ∙ c.loop-n.invariant.long;
        each = λ m. all_marked test c.args.marks.now c.loop-n.marks c.args.nets.now c.loop-n.n-index n none m c.loop-n-test.true refl inside (ap not (is ∙ w.if-not-is_only.true)) (c.loop-n.invariant.each m);
      })
      | else-not-is_only w ↦ rw (w.marks-is) (record {
        long = c.loop-n.invariant.long;
        each = λ m. all_passed test c.args.marks.now c.loop-n.marks c.args.nets.now c.loop-n.n-index n none m c.loop-n-test.true refl (ap not (is ∙ w.if-not-is_only.false)) (c.loop-n.invariant.each m);
      })
    ]
