-- Where as many names are gathered as there are drivers, none was left out.
use Rattle.std.proofs.Common.{rules, sym, subst, ◌∙◌, ap}
use Rattle.mv_acyclic.specs.Driving.{with_names}
use Rattle.mv_acyclic.specs.Glance.{AreApartDrivers}
use Rattle.mv_design.specs.Nets.{drivers}
use Rattle.mv_acyclic.proofs.Apart.{gathered_apart}
use Rattle.mv_acyclic.proofs.seen.apart_drivers.Goals as goal

pub returns : goal.returns
returns c =
    let m = c.args.model.now in
    let names = c.add_drivers.new.names in
    subst (AreApartDrivers m) (sym c.of_names.ensures)
    (gathered_apart m names (c.in_ok-add_drivers.ensures ∙ ap (λ ns. with_names ns (drivers m)) c.in_ok-names.ensures) c.distinct.ensures
    (search rules) (search rules) (search rules))
