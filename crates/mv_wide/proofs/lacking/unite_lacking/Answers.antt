use Rattle.std.proofs.Common.{◌∙◌, ◌<◌, ℕ, List, length, All, sym, subst, arith}
use Rattle.mv_factors.specs.declared.inner.Inner.{Inner}
use Rattle.mv_factors.specs.Families.{Keeps, before}
use Rattle.mv_factors.specs.Leaving.{is_inner}
use Rattle.mv_factors.proofs.Keeping.{Keeps-then, on_ok}
use Rattle.mv_wide.specs.Families.{between}
use Rattle.mv_wide.proofs.Lacks.{adds_lacking, between_before, between_fewer}
use Rattle.mv_wide.proofs.lacking.unite_lacking.Goals as goal

pub eliminate-requires-clause-inner : goal.eliminate-requires-clause-inner
eliminate-requires-clause-inner c =
    subst (λ (cs : List ℕ). All (λ (i : Inner). i.var < length cs) c.args.hidden.now) (sym c.add_copies.ensures.keeps.counts) c.requires.hidden

pub unite_each-requires-clause-beside : goal.unite_each-requires-clause-beside
unite_each-requires-clause-beside c =
    subst (λ (cs : List ℕ). All (λ (i : Inner). i.var < length cs) c.args.beside.now)
    (sym (c.in-Ok.ensures.keeps.counts ∙ c.add_copies.ensures.keeps.counts)) c.requires.beside

pub returns-in-Err-clause-keeps : goal.returns-in-Err-clause-keeps
returns-in-Err-clause-keeps c =
    let f = c.args.factors.now in
    subst (λ n. Keeps f c.eliminate.new.factors (between n)) c.requires.tables
    (between_before f c.eliminate.new.factors (length f.list)
    (Keeps-then f c.add_copies.new.factors c.eliminate.new.factors (before (length f.list)) c.add_copies.ensures.keeps
    (subst (λ n. Keeps c.add_copies.new.factors c.eliminate.new.factors (before n)) c.len-first.ensures c.eliminate.ensures.keeps)))

pub returns-clause-keeps : goal.returns-clause-keeps
returns-clause-keeps c =
    let f = c.args.factors.now in
    let is = c.len-first.ensures in
    let more = c.add_copies.ensures.long in
    let same = c.in-Ok.ensures.long in
    let size = c.requires.tables in
    subst (λ n. Keeps f c.unite_each.new.factors (between n)) size
    (Keeps-then f c.eliminate.new.factors c.unite_each.new.factors (between (length f.list))
    (between_before f c.eliminate.new.factors (length f.list)
    (Keeps-then f c.add_copies.new.factors c.eliminate.new.factors (before (length f.list)) c.add_copies.ensures.keeps
    (subst (λ n. Keeps c.add_copies.new.factors c.eliminate.new.factors (before n)) is c.in-Ok.ensures.keeps)))
    (between_fewer c.eliminate.new.factors c.unite_each.new.factors (length f.list) (length c.eliminate.new.factors.list) (omega arith) c.unite_each.ensures.keeps))

pub returns-clause-set : goal.returns-clause-set
returns-clause-set c =
    on_ok c.unite_each.result _ _
    (λ adds. adds_lacking c.args.factors.now c.add_copies.new.factors c.eliminate.new.factors c.unite_each.new.factors c.args.tables c.args.left_out (is_inner c.args.hidden.now) (is_inner c.args.beside.now)
    c.len-first.result c.len-first.ensures c.requires.tables c.add_copies.ensures.set c.add_copies.ensures.keeps
    c.add_copies.ensures.long c.in-Ok.ensures.ok c.in-Ok.ensures.keeps c.in-Ok.ensures.long adds)
    c.unite_each.ensures.set
