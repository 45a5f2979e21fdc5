-- Place by place.
use Rattle.std.proofs.Common.{◌+◌, ◌<◌, ◌≤◌, [], ◌++◌, length, drop, sym, ◌∙◌, ap, subst, arith}
use Rattle.std.proofs.lemmas.List.{append-nil}
use Rattle.std.proofs.lemmas.Result.{err_from_is_err_and}
use Rattle.mv_base.specs.declared.limits.TheConstants.{MAX_FLAT_NETS}
use Rattle.mv_fault.proofs.Firsts.{told_of}
use Rattle.mv_fault.specs.declared.flat.FlatFault.TheVariants.{Memory}
use Rattle.mv_tree.specs.Places.{homes, homes_at}
use Rattle.mv_unfold.specs.Laid.{places_of}
use Rattle.mv_unfold.specs.Named.{rest_faults}
use Rattle.mv_unfold.specs.Placed.{place_at}
use Rattle.mv_unfold.specs.Whole.{home_faults}
use Rattle.mv_unfold.proofs.Laid.{homes_more, homes_none, places_long}
use Rattle.mv_unfold.proofs.Named.{IsGathered, gathered_fault, gathered_more, first_home, no_home_fault}
use Rattle.mv_unfold.proofs.home_names.home_names.Goals as goal

pub loop-number-preserved : goal.loop-number-preserved
loop-number-preserved c =
    let ps = places_of c.args.layout.now in
    let n = c.loop-number.number in
    let long = places_long c.args.layout.now c.requires in
    let end = c.len-number-end.ensures in
    let lt : n < length ps = let t = c.loop-number-test.true in omega arith in
    gathered_more [] (homes ps) c.loop-number.names (homes_at (place_at ps n)) (homes (drop (n + 1) ps)) c.add_homes.new.names
    (subst (IsGathered [] (homes ps) c.loop-number.names) (homes_more ps n lt) c.loop-number.invariant) c.in_ok-add_homes.ensures.faults
    c.in_ok-add_homes.ensures.added

pub returns-in_err-add_homes-clause-faults : goal.returns-in_err-add_homes-clause-faults
returns-in_err-add_homes-clause-faults c =
    let ps = places_of c.args.layout.now in
    let n = c.loop-number.number in
    let long = places_long c.args.layout.now c.requires in
    let end = c.len-number-end.ensures in
    let lt : n < length ps = let t = c.loop-number-test.true in omega arith in
    let e = err_from_is_err_and c.from_residual-in_err-add_homes.result c.from_residual-in_err-add_homes.ensures.1 in
    rw (e.1, e.2)
    (told_of Memory _ (rest_faults MAX_FLAT_NETS c.loop-number.names (homes_at (place_at ps n))) (home_faults (homes ps))
    (λ f h.
    first_home (homes ps)
    ∙ gathered_fault [] (homes ps) c.loop-number.names (homes_at (place_at ps n)) (homes (drop (n + 1) ps)) f
    (subst (IsGathered [] (homes ps) c.loop-number.names) (homes_more ps n lt) c.loop-number.invariant) h)
    c.in_err-add_homes.ensures.faults)

pub returns-clause-faults : goal.returns-clause-faults
returns-clause-faults c =
    let ps = places_of c.args.layout.now in
    let n = c.loop-number.number in
    let long = places_long c.args.layout.now c.requires in
    let end = c.len-number-end.ensures in
    let low : length ps ≤ n = let t = c.loop-number-test.false in omega arith in
    no_home_fault (homes ps) (sym c.loop-number.invariant.faults ∙ ap (rest_faults MAX_FLAT_NETS c.loop-number.names) (homes_none ps n low))

pub returns-clause-names : goal.returns-clause-names
returns-clause-names c =
    let ps = places_of c.args.layout.now in
    let n = c.loop-number.number in
    let long = places_long c.args.layout.now c.requires in
    let end = c.len-number-end.ensures in
    let low : length ps ≤ n = let t = c.loop-number-test.false in omega arith in
    sym (append-nil c.loop-number.names) ∙ (ap (λ ws. c.loop-number.names ++ ws) (sym (homes_none ps n low)) ∙ c.loop-number.invariant.added)
