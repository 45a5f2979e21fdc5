-- The divisor is a cover of a net of two values.
use Rattle.std.proofs.Common.{sym, subst}
use Rattle.mv_cover.specs.declared.cover.Cover.{Cover}
use Rattle.mv_division.specs.Divisors.{divisor_cover}
use Rattle.mv_rule_body.specs.Named.{AreHeld}
use Rattle.mv_extract.proofs.adding.rule_for.Goals as goal

pub body_of-requires : goal.body_of-requires
body_of-requires c =
    let cover = c.add_law.ensures.covers c.args.net.now.nets c.args.divisor.now c.requires in
    let held = c.body_laws.ensures.held c.args.net.now 2 (divisor_cover c.args.divisor.now) cover in
    subst (λ (t : Cover). AreHeld c.args.net.now.nets t) (sym c.in_ok-table.ensures) held
