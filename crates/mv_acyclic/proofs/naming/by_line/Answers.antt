-- One more of the first list stands behind those of the second before its line.
use Rattle.std.proofs.Common.{◌≡◌, ◌∙◌, ◌++◌, ◌∷◌, [], ap, sym, arith, drop, length}
use Rattle.std.proofs.lemmas.List.{length-drop, take_rest}
use Rattle.mv_design.specs.ByLine.{before_line}
use Rattle.mv_design.specs.Nets.{Naming}
use Rattle.mv_design.proofs.ByLine.{few_before, merge_more}
use Rattle.mv_acyclic.proofs.naming.by_line.Goals as goal

pub loop-naming-preserved : goal.loop-naming-preserved
loop-naming-preserved c =
    let x : Naming = c.naming-item.result in
    let all = c.loop-naming.all.items in
    let rest = drop c.loop-naming.done c.args.second.now in
    let before = before_line (λ (n : Naming). n.line) x.line rest in
    let front : c.front_before-front.result.now ≡ before =
    c.front_before-front.ensures
    ∙ (ap (before_line (λ (n : Naming). n.line) c.line.result) (take_rest c.args.second.now c.loop-naming.done)
    ∙ ap (λ at. before_line (λ (n : Naming). n.line) at rest) c.line.ensures) in
    let added : c.add_all.new.all.items ≡ all ++ before = c.in_ok-add_all.ensures ∙ ap (λ ys. all ++ ys) front in
    let items : c.push.new.self.items ≡ (all ++ before) ++ x ∷ [] =
    c.in_ok-push.ensures.items
    ∙ (ap (λ ys. ys ++ c.copy.result ∷ []) added ∙ ap (λ (n : Naming). (all ++ before) ++ n ∷ []) c.copy.ensures) in
    record {
      within =
          let l = few_before (λ (n : Naming). n.line) x.line rest in
          let s = length-drop c.loop-naming.done c.args.second.now in
          let e = ap length front in
          let w = c.loop-naming.invariant.within in
          omega (arith, l, s, e, w);
      merged =
          rw (items, front)
          (sym (merge_more (λ (n : Naming). n.line) all c.args.first.now c.args.second.now c.loop-naming.naming-index c.loop-naming.done x
          c.loop-naming-test.true c.naming-item.is)
          ∙ c.loop-naming.invariant.merged);
    }
