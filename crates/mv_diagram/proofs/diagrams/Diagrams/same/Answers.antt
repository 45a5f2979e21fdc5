use Rattle.std.proofs.Common.{◌∙◌, sym, ap, rules}
use Rattle.std.proofs.lemmas.Bool.{eqb-true, eq-eqb}
use Rattle.mv_diagram.specs.Sets.{holds}
use Rattle.mv_diagram.proofs.Canonical.{same_number}
use Rattle.mv_diagram.proofs.diagrams.Diagrams.same.Goals as goal

pub returns-clause-sets : goal.returns-clause-sets
returns-clause-sets c =
    let counts = c.self.inside.table.counts.items in
    let ns = c.self.inside.table.pool.places in
    let left = rw (← c.self.view_is) at c.requires.left in
    let right = rw (← c.self.view_is) at c.requires.right in
    rw (← c.self.view_is) (
      λ h. record { each = λ p range. ap (λ d. holds counts ns d p) (eqb-true c.args.a.0 c.args.b.0 (sym c.eq.ensures ∙ search (rules, h))) },
      λ same. search (rules, c.eq.ensures ∙ eq-eqb c.args.a.0 c.args.b.0 (same_number counts ns c.self.invariant.sound c.args.a.0 c.args.b.0 left.is right.is same)),
    )
