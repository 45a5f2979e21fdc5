-- The first fault of each check is that of the whole, where the checks before it found none.
use Rattle.std.proofs.Common.{List, refl, sym, ◌∙◌, ap}
use Rattle.std.specs.List.{flat_map}
use Rattle.std.proofs.lemmas.Result.{err_from_is_err_and}
use Rattle.mv_fault.specs.Tells.{first}
use Rattle.mv_fault.proofs.Firsts.{told_of}
use Rattle.mv_fault.specs.declared.flat.FlatFault.TheVariants.{Memory}
use Rattle.mv_design.specs.Nets.{root_of}
use Rattle.mv_tree.specs.Places.{Place, homes}
use Rattle.mv_tree.specs.Unfolded.{unfolded}
use Rattle.mv_unfold.specs.Driven.{driving_faults}
use Rattle.mv_unfold.specs.Laid.{places_of}
use Rattle.mv_unfold.specs.Whole.{home_faults, place_faults, whole_faults}
use Rattle.mv_unfold.proofs.Checked.{first_of_names, first_of_drivers, rest_of_resets}
use Rattle.mv_unfold.proofs.Placed.{places_of_tree}
use Rattle.mv_unfold.proofs.checking.check_layout.Goals as goal

pub returns-in_err-names-clause-faults : goal.returns-in_err-names-clause-faults
returns-in_err-names-clause-faults c = λ h.
    let l = c.args.layout.now in
    let d = l.design.now in
    let e = err_from_is_err_and c.from_residual.result c.from_residual.ensures.1 in
    rw (e.1, e.2)
    (told_of Memory _ (home_faults (homes (places_of l))) (whole_faults (root_of d) h.tree)
    (λ f. first_of_names (root_of d) h.tree (places_of l) f (places_of_tree d l.opened.now h)) c.in_err-names.ensures.faults)

pub returns-in_err-check_driven-clause-faults : goal.returns-in_err-check_driven-clause-faults
returns-in_err-check_driven-clause-faults c = λ h.
    let l = c.args.layout.now in
    let d = l.design.now in
    let m = unfolded (root_of d) h.tree in
    let e = err_from_is_err_and c.from_residual-in_err-check_driven.result c.from_residual-in_err-check_driven.ensures.1 in
    rw (e.1, e.2)
    (told_of Memory _ (driving_faults m c.in_ok-names.names) (whole_faults (root_of d) h.tree)
    (λ f.
    first_of_drivers (root_of d) h.tree (places_of l) c.in_ok-names.names m f (places_of_tree d l.opened.now h) c.in_ok-names.ensures.names refl
    c.in_ok-names.ensures.faults)
    (c.in_err-check_driven.ensures h))

pub returns-in_err-check_all-clause-faults : goal.returns-in_err-check_all-clause-faults
returns-in_err-check_all-clause-faults c = λ h.
    let l = c.args.layout.now in
    let d = l.design.now in
    let m = unfolded (root_of d) h.tree in
    let e = err_from_is_err_and c.from_residual-in_err-check_all.result c.from_residual-in_err-check_all.ensures.1 in
    rw (e.1, e.2)
    (told_of Memory _ (flat_map place_faults (places_of l)) (whole_faults (root_of d) h.tree)
    (λ f x.
    ap first
    (sym (rest_of_resets (root_of d) h.tree (places_of l) c.in_ok-names.names m (places_of_tree d l.opened.now h) c.in_ok-names.ensures.names refl
    c.in_ok-names.ensures.faults (c.in_ok-check_driven.ensures h)))
    ∙ x)
    c.in_err-check_all.ensures)

pub returns-clause-faults : goal.returns-clause-faults
returns-clause-faults c = λ h.
    let l = c.args.layout.now in
    let d = l.design.now in
    let m = unfolded (root_of d) h.tree in
    sym (rest_of_resets (root_of d) h.tree (places_of l) c.in_ok-names.names m (places_of_tree d l.opened.now h) c.in_ok-names.ensures.names refl
    c.in_ok-names.ensures.faults (c.in_ok-check_driven.ensures h))
    ∙ c.in_ok-check_all.ensures

pub returns-clause-nets : goal.returns-clause-nets
returns-clause-nets c = λ h.
    let l = c.args.layout.now in
    c.in_ok-of_names.ensures
    ∙ (c.as_slice.ensures ∙ (c.in_ok-names.ensures.names ∙ ap (λ (ps : List Place). homes ps) (places_of_tree l.design.now l.opened.now h)))
