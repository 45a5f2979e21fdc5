-- The relations of the tables, and then the points of which some point is lacking.
use Rattle.std.proofs.Common.{◌≡◌, ◌∙◌, ◌+◌, ◌<◌, ℕ, List, length, All, sym, subst, arith}
use Rattle.std.proofs.lemmas.Bool.{lt-ltb}
use Rattle.mv_factors.specs.declared.inner.Inner.{Inner}
use Rattle.mv_factors.specs.Leaving.{is_inner}
use Rattle.mv_wide.specs.Families.{AddsLacking, AreRelations}
use Rattle.mv_wide.proofs.Outward.{outside}
use Rattle.mv_wide.proofs.Planning.{all_have, all_held}
use Rattle.mv_wide.proofs.outside.put_outside.Goals as goal

pub add_relations-requires-clause-held : goal.add_relations-requires-clause-held
add_relations-requires-clause-held c = rw c.as_slice.ensures (all_held c.args.net.now c.args.w.now c.args.n.0 c.requires.window c.args.frame.now c.requires.frame)

pub add_relations-requires-clause-vars : goal.add_relations-requires-clause-vars
add_relations-requires-clause-vars c =
    rw (c.as_slice.ensures, c.as_slice-2.ensures.value)
    (all_have c.args.net.now c.args.w.now c.args.n.0 c.requires.window c.args.frame.now c.requires.frame c.args.factors.now.contents.counts c.requires.counts)

pub unite_lacking-requires-clause-hidden : goal.unite_lacking-requires-clause-hidden
unite_lacking-requires-clause-hidden c =
    rw c.as_slice-hidden.ensures.value
    (subst (λ (cs : List ℕ). All (λ (i : Inner). i.var < length cs) c.args.plan.now.hidden.items)
    (sym (c.add_relations.ensures.keeps.counts ∙ c.requires.counts)) c.requires.plan.hidden_low)

pub unite_lacking-requires-clause-beside : goal.unite_lacking-requires-clause-beside
unite_lacking-requires-clause-beside c =
    rw c.as_slice-beside.ensures.value
    (subst (λ (cs : List ℕ). All (λ (i : Inner). i.var < length cs) c.args.plan.now.beside.items)
    (sym (c.add_relations.ensures.keeps.counts ∙ c.requires.counts)) c.requires.plan.beside_low)

pub returns-in-Ok-unite_lacking-clause-set : goal.returns-in-Ok-unite_lacking-clause-set
returns-in-Ok-unite_lacking-clause-set c =
    let plan = c.args.plan.now in
    let rel = subst (λ k. AreRelations c.args.net.now.nets c.args.frame.now.vars.items c.args.w.now.tables (length c.args.w.now.tables) c.add_relations.new.factors k)
    c.requires.list (rw (c.as_slice.ensures, c.as_slice-2.ensures.value) at c.in-Ok.ensures.set) in
    let e : plan.place + 1 ≡ 1 + plan.place = omega arith in
    outside c.args.net.now c.args.w.now c.args.n.0 c.requires.window c.requires.table c.args.frame.now.counts.items c.args.frame.now.vars.items
    c.requires.frame.vars (is_inner plan.hidden.items) (is_inner plan.beside.items) c.requires.plan.hidden c.requires.plan.beside
    c.add_relations.new.factors c.unite_lacking.new.factors plan.place (c.add_relations.ensures.keeps.counts ∙ c.requires.counts) rel
    c.requires.plan.inside (c.requires.plan.here _)
    (λ p. c.add_relations.ensures.keeps.sets 0 p (lt-ltb 0 (length c.args.factors.now.list) (omega (arith, c.requires.list))) ∙ c.requires.none p)
    (subst (λ k. AddsLacking c.add_relations.new.factors c.unite_lacking.new.factors (length c.args.w.now.tables) k (is_inner plan.hidden.items) (is_inner plan.beside.items))
    e (rw (c.len-tables.ensures, c.as_slice-hidden.ensures.value, c.as_slice-beside.ensures.value) at c.in-Ok-unite_lacking.ensures.set))
