-- The design's one model is sound where nothing is told of what is above what, and its network is the design's.
use Rattle.std.proofs.Common.{◌≡◌, List, ℕ, ◌≤◌, length, sym, subst, All}
use Rattle.std.proofs.lemmas.Result.{err_from_is_err_and}
use Rattle.mv_base.specs.declared.limits.TheConstants.{MAX_FLAT_NETS}
use Rattle.mv_acyclic.specs.Sound.{AreNetsOf, TellsAbove}
use Rattle.mv_walk.specs.declared.opened.Opened.{Opened}
use Rattle.mv_walk.specs.Openings.{AreOpened}
use Rattle.mv_design.specs.declared.design.FileModel.{FileModel}
use Rattle.mv_design.specs.declared.table.FileTable.{FileTable}
use Rattle.mv_resets.specs.Resets.{all_tables}
use Rattle.mv_resets.proofs.Nets.{resets_single}
use Rattle.mv_flat.specs.Shared.{IsFrom}
use Rattle.mv_flat.proofs.Origins.{tables_known}
use Rattle.mv_flat.proofs.Designs.{IsModelOf, answered_flat, made_few, made_nets, made_one, made_sound}
use Rattle.mv_flat.proofs.Refusals.{above_refused, answered_refused}
use Rattle.mv_flat.proofs.flat.of_whole.Goals as goal
use Rattle.mv_flat.proofs.flat.of_whole.Goals.{In_ok-model}

-- the one model, and its nets
made : (c : In_ok-model) → IsModelOf c.args.design c.in_ok-model.field-0.model c.in_ok-model.field-0.nets
made c =
    let P : List Opened → Type 0 = AreOpened c.args.design in
    let h : AreOpened c.args.design c.as_slice.result.now = subst P (sym c.as_slice.ensures) c.requires.opened in
    record {
      tree = h.tree;
      has = h.has;
      good = c.in_ok-model.ensures.good h;
      short = c.in_ok-model.ensures.short h;
      model_is = c.in_ok-model.ensures.model h;
      nets_are = c.in_ok-model.ensures.nets h;
    }

pub check-requires-clause-once : goal.check-requires-clause-once
check-requires-clause-once c = (made_one _ _ _ c.requires.proper (made (goal.at.check-requires-clause-once c).In_ok-model)).driven

pub check-requires-clause-nets : goal.check-requires-clause-nets
check-requires-clause-nets c =
    let P : List (List ℕ) → Type 0 = AreNetsOf c.in_ok-model.field-0.model in
    subst P (sym c.as_slice-2.ensures) (made_nets _ _ _ c.requires.proper (made (goal.at.check-requires-clause-nets c).In_ok-model))

pub check-requires-clause-few : goal.check-requires-clause-few
check-requires-clause-few c =
    let P : List (List ℕ) → Type 0 = λ ws. length ws ≤ MAX_FLAT_NETS in
    subst P (sym c.as_slice-2.ensures) (made_few _ _ _ (made (goal.at.check-requires-clause-few c).In_ok-model))

pub returns-in_err-driven-clause-fault : goal.returns-in_err-driven-clause-fault
returns-in_err-driven-clause-fault c =
    let to = goal.at.returns-in_err-driven-clause-fault c in
    let P : List (List ℕ) → Type 0 = λ ws. TellsAbove ws c.in_ok-model.field-0.model c.in_err-driven.field-0.0 in
    let e = err_from_is_err_and c.from_residual-in_err-driven.result c.from_residual-in_err-driven.ensures.1 in
    rw (e.1, e.2) (above_refused _ _ _ _ (made to.In_ok-model) (subst P c.as_slice-2.ensures c.in_err-driven.ensures.fault))

pub network-requires-clause-lawful : goal.network-requires-clause-lawful
network-requires-clause-lawful c = (made_one _ _ _ c.requires.proper (made (goal.at.network-requires-clause-lawful c).In_ok-model)).lawful

pub network-requires-clause-sound : goal.network-requires-clause-sound
network-requires-clause-sound c =
    made_sound _ _ _ c.requires.proper (made (goal.at.network-requires-clause-sound c).In_ok-model) c.in_ok-driven.ensures.acyclic c.in_ok-driven.ensures.alone

pub network-requires-clause-limits : goal.network-requires-clause-limits
network-requires-clause-limits c = (made_one _ _ _ c.requires.proper (made (goal.at.network-requires-clause-limits c).In_ok-model)).limits

pub network-requires-clause-shared : goal.network-requires-clause-shared
unfolding made
network-requires-clause-shared c =
    let d = c.args.design in
    let P : FileModel → Type 0 = λ m. All (IsFrom c.args.shared) (all_tables m) in
    let Q : FileModel → Type 0 = λ m. All (λ (t : FileTable). length t.outputs ≡ 1) m.resets in
    let m = made (goal.at.network-requires-clause-shared c).In_ok-model in
    let single = subst Q m.model_is (resets_single c.in_ok-model.field-0.model (made_one _ _ _ c.requires.proper m).lawful) in
    subst P (sym m.model_is)
    (tables_known d c.args.opened c.requires.opened c.args.shared c.requires.known c.requires.none single)

pub returns-clause-ok : goal.returns-clause-ok
returns-clause-ok c =
    answered_flat c.network.result _ _ _ c.requires.proper (made (goal.at.returns-clause-ok c).In_ok-model) c.in_ok-driven.ensures.acyclic c.in_ok-driven.ensures.alone
    c.network.ensures.fits c.network.ensures.built

pub returns-clause-fault : goal.returns-clause-fault
returns-clause-fault c =
    answered_refused c.network.result _ _ _ (made (goal.at.returns-clause-fault c).In_ok-model) c.in_ok-driven.ensures.acyclic c.in_ok-driven.ensures.alone
    c.network.ensures.fault
