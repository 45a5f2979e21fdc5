-- A design without instances that is found sound is its root; another one is made one model.
use Rattle.std.proofs.Common.{List, length, sym, ◌∙◌, ap, subst, All}
use Rattle.std.specs.Prelude.{IfErr, IfOk, IfSome, OnOk}
use Rattle.mv_design.specs.declared.design.FileModel.{FileModel}
use Rattle.mv_design.specs.Nets.{drivers, root_of}
use Rattle.mv_design.specs.Proper.{IsLawful}
use Rattle.mv_tree.specs.Unfolded.{tables_in}
use Rattle.mv_walk.specs.declared.opened.Opened.{Opened}
use Rattle.mv_walk.specs.Openings.{AreOpened}
use Rattle.mv_unfold.specs.Placed.{places_by}
use Rattle.mv_acyclic.specs.Sound.{IsSoundModel, IsWithinLimits}
use Rattle.mv_resets.specs.Resets.{all_tables, with_reset_nets}
use Rattle.mv_flat.specs.Built.{IsBuilt}
use Rattle.mv_flat.specs.Flat.{HasSmallNetwork}
use Rattle.mv_flat.specs.Roots.{IsSoundRoot}
use Rattle.mv_flat.specs.Shared.{IsFrom}
use Rattle.mv_flat.specs.Sized.{TellsLimit}
use Rattle.mv_flat.proofs.Alone.{nets_alone, root_alone, tables_alone}
use Rattle.mv_flat.proofs.Designs.{IsModelOf, answered_flat, made_one}
use Rattle.mv_flat.proofs.Origins.{opened_low}
use Rattle.mv_flat.proofs.Refusals.{answered_refused}
use Rattle.mv_flat.proofs.flat.flatten_owned.Goals as goal
use Rattle.mv_flat.proofs.flat.flatten_owned.Goals.{In-Some}

-- the instances, as they were handed on
are_opened : (c : In-Some) → AreOpened c.args.design c.as_slice-2.result.now
are_opened c = let P : List Opened → Type 0 = AreOpened c.args.design in subst P (sym c.as_slice-2.ensures) c.in_ok-opened.ensures.opened

sound_root : (c : In-Some) → IsSoundRoot c.args.design c.as_slice-2.result.now c.in-Some.driven
sound_root c = subst (λ o. IfSome o (IsSoundRoot c.args.design c.as_slice-2.result.now)) c.in-Some.is c.in_ok-driven.ensures

model : (c : In-Some) → IsModelOf c.args.design (root_of c.args.design) (nets_alone c.args.design)
model c = root_alone c.args.design c.as_slice-2.result.now c.in-Some.driven (are_opened c) (sound_root c)

pub of-requires-clause-opened : goal.of-requires-clause-opened
of-requires-clause-opened c =
    let P : List Opened → Type 0 = AreOpened c.args.design in
    opened_low c.args.design c.as_slice.result.now (subst P (sym c.as_slice.ensures) c.in_ok-opened.ensures.opened)

pub network-requires-clause-lawful : goal.network-requires-clause-lawful
network-requires-clause-lawful c =
    let s = (goal.at.network-requires-clause-lawful c).In-Some in
    let P : FileModel → Type 0 = IsLawful in
    subst P (sym c.into_root.ensures) (made_one _ _ _ c.requires (model s)).lawful

pub network-requires-clause-sound : goal.network-requires-clause-sound
network-requires-clause-sound c =
    let s = (goal.at.network-requires-clause-sound c).In-Some in
    let P : FileModel → Type 0 = IsSoundModel in
    subst P (sym c.into_root.ensures) (sound_root s).known.sound

pub network-requires-clause-limits : goal.network-requires-clause-limits
network-requires-clause-limits c =
    let s = (goal.at.network-requires-clause-limits c).In-Some in
    let P : FileModel → Type 0 = IsWithinLimits in
    subst P (sym c.into_root.ensures) (sound_root s).known.limits

pub network-requires-clause-driven : goal.network-requires-clause-driven
network-requires-clause-driven c =
    let s = (goal.at.network-requires-clause-driven c).In-Some in
    (sound_root s).known.is ∙ ap drivers (sym c.into_root.ensures)

pub network-requires-clause-shared : goal.network-requires-clause-shared
network-requires-clause-shared c =
    let s = (goal.at.network-requires-clause-shared c).In-Some in
    let d = c.args.design in
    let P : FileModel → Type 0 = λ m. All (IsFrom c.in_ok-shared.shared) (all_tables m) in
    let K : List Opened → Type 0 = λ os. All (IsFrom c.in_ok-shared.shared) (tables_in 0 (places_by d os)) in
    subst P (sym c.into_root.ensures)
    (tables_alone d c.as_slice-2.result.now c.in-Some.driven c.in_ok-shared.shared c.requires (are_opened s) (sound_root s)
    (subst K (c.as_slice.ensures ∙ sym c.as_slice-2.ensures) c.in_ok-shared.ensures.known) (λ e. c.in_ok-shared.ensures.none (c.as_slice.ensures ∙ (sym c.as_slice-2.ensures ∙ e))))

pub returns-in-Some-clause-ok : goal.returns-in-Some-clause-ok
returns-in-Some-clause-ok c =
    let s = (goal.at.returns-in-Some-clause-ok c).In-Some in
    let known = (sound_root s).known in
    let F : FileModel → Type 0 = λ m. OnOk c.network.result (HasSmallNetwork m) in
    let B : FileModel → Type 0 = λ m. IfOk c.network.result (IsBuilt (with_reset_nets m)) in
    answered_flat c.network.result _ _ _ c.requires (model s) known.sound.acyclic known.sound.alone (subst F c.into_root.ensures c.network.ensures.fits)
    (subst B c.into_root.ensures c.network.ensures.built)

pub returns-in-Some-clause-fault : goal.returns-in-Some-clause-fault
returns-in-Some-clause-fault c =
    let s = (goal.at.returns-in-Some-clause-fault c).In-Some in
    let known = (sound_root s).known in
    let T : FileModel → Type 0 = λ m. IfErr c.network.result (TellsLimit (length (drivers m)) (with_reset_nets m)) in
    answered_refused c.network.result _ _ _ (model s) known.sound.acyclic known.sound.alone (subst T c.into_root.ensures c.network.ensures.fault)

pub of_whole-requires-clause-known : goal.of_whole-requires-clause-known
of_whole-requires-clause-known c =
    let K : List Opened → Type 0 = λ os. All (IsFrom c.in_ok-shared.shared) (tables_in 0 (places_by c.args.design os)) in
    subst K c.as_slice.ensures c.in_ok-shared.ensures.known

pub of_whole-requires-clause-none : goal.of_whole-requires-clause-none
of_whole-requires-clause-none c = λ e. c.in_ok-shared.ensures.none (c.as_slice.ensures ∙ e)
