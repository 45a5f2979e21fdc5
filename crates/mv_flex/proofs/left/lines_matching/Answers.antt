-- A line goes, or stays behind those that did.
use Rattle.std.proofs.Common.{◌≡◌, ℕ, ◌+◌, ◌++◌, List, [], ◌∷◌, ◌∙◌, sym, ap, subst, nat_lt}
use Rattle.std.specs.List.{list_all}
use Rattle.mv_cover.specs.declared.line.Line.{Line}
use Rattle.mv_flex.specs.Places.{less_by, IsUnderWay}
use Rattle.mv_flex.proofs.Leaving.{line_goes, line_stays}
use Rattle.mv_flex.proofs.left.lines_matching.Goals as goal
use Rattle.mv_flex.proofs.left.lines_matching.Goals.{then-all_some, else-all_some+in_ok-copy+in_ok-push}

pub loop-line-preserved : goal.loop-line-preserved
loop-line-preserved c =
    let nets = c.args.nets.now in
    let places = c.args.places.now in
    let lines = c.args.lines.now in
    let i = c.loop-line.line-index in
    let line = c.line-item.result in
    let less = c.in_ok-rest.ensures ∙ ap (less_by nets line places) c.as_slice.ensures.value in
    let test = c.all_some.ensures ∙ ap (list_all (nat_lt 0)) c.as_slice-in-loop-line.ensures.value in
    elim c.if-all_some.branch [
      | then-all_some w ↦
          let same : c.if-all_some.counts.items ≡ c.in_ok-rest.rest.items = λ j. (w.counts-is j).items in
          subst (λ (k : List Line). IsUnderWay nets places lines k c.if-all_some.counts.items (i + 1)) (sym w.left-is)
          (subst (λ (k : List ℕ). IsUnderWay nets places lines c.loop-line.left k (i + 1)) (sym same)
          (line_goes nets places lines c.loop-line.left c.loop-line.counts.items c.in_ok-rest.rest.items i line c.all_some.result c.loop-line-test.true c.line-item.is c.loop-line.invariant less test w.if-all_some.true))
      | else-all_some+in_ok-copy+in_ok-push w ↦
          let same : c.if-all_some.counts.items ≡ c.loop-line.counts.items = λ j. (w.counts-is j).items in
          let more : c.if-all_some.left ≡ c.loop-line.left ++ line ∷ [] =
          w.left-is ∙ w.in_ok-push.ensures.ok ∙ ap (λ (l : Line). c.loop-line.left ++ l ∷ []) w.in_ok-copy.ensures.copy in
          subst (λ (k : List Line). IsUnderWay nets places lines k c.if-all_some.counts.items (i + 1)) (sym more)
          (subst (λ (k : List ℕ). IsUnderWay nets places lines (c.loop-line.left ++ line ∷ []) k (i + 1)) (sym same)
          (line_stays nets places lines c.loop-line.left c.loop-line.counts.items c.in_ok-rest.rest.items i line c.all_some.result c.loop-line-test.true c.line-item.is c.loop-line.invariant less test w.if-all_some.false))
    ]
