use Rattle.std.proofs.Common.{◌≡◌, ◌∙◌, ℕ, length, sym, subst}
use Rattle.mv_diagram.specs.Diagrams.{point_of}
use Rattle.mv_factors.specs.Leaving.{Eliminates, IsInAll, is_inner}
use Rattle.mv_witness.specs.Commons.{HasCommon}
use Rattle.mv_witness.proofs.Finding.{answered, common_none, common_some}
use Rattle.mv_witness.proofs.commons.have_common.Goals as goal

pub returns-clause-found : goal.returns-clause-found
returns-clause-found c =
    let f = c.args.factors.now in
    let h = c.copy_with.new.factors in
    let e = c.eliminate.new.factors in
    let all = c.args.all.now in
    let zeros = c.args.zeros.now in
    let from = c.args.from in
    let ls = c.args.literals.now in
    let G : ℕ → Type 0 = λ n. Eliminates h e n (is_inner all) in
    let gone = subst G c.len-count.ensures c.in-Ok-eliminate.ensures.ok in
    let counts = c.in-Ok.ensures.keeps.counts in
    let room = c.args.elimination.now in
    let I : ℕ → Type 0 = λ n. IsInAll e n (point_of zeros) in
    answered c.is_in_all-found.result (IsInAll e c.len-count.result (point_of zeros)) (HasCommon f from ls)
    (λ is. common_some f h e from ls room all zeros c.requires.ready counts c.in-Ok.ensures.copies gone (subst I c.len-count.ensures is))
    (λ none. common_none f h e from ls room all zeros c.requires.ready counts c.in-Ok.ensures.copies gone (λ is. none (subst I (sym c.len-count.ensures) is)))
    c.is_in_all-found.ensures
