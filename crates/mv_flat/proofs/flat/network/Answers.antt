-- The nets of a sound model have numbers, and its network is well formed.
use Rattle.std.proofs.Common.{List, ℕ, ap, sym, ◌∙◌, subst, length, arith, All}
use Rattle.mv_design.specs.declared.design.FileModel.{FileModel}
use Rattle.mv_net.specs.declared.parts.NetParts.{NetParts}
use Rattle.mv_resets.specs.Resets.{with_reset_nets}
use Rattle.mv_resets.proofs.Nets.{resets_single}
use Rattle.mv_acyclic.proofs.Distinct.{few_drivers}
use Rattle.mv_flat.specs.Built.{IsBuilt}
use Rattle.mv_flat.specs.Placed.{IsPlacedTable}
use Rattle.mv_flat.specs.Shared.{IsFrom}
use Rattle.mv_flat.proofs.Distinct.{places_differ}
use Rattle.mv_flat.proofs.Models.{IsWithNets, with_nets, well_formed, places_few, nets_few}
use Rattle.mv_flat.proofs.Refusals.{small_by}
use Rattle.mv_flat.proofs.flat.network.Goals as goal
use Rattle.mv_flat.proofs.flat.network.Goals.{In_ok-model}

-- the model with a net for each reset value
nets_are : (c : In_ok-model) → IsWithNets c.args.model c.in_ok-model.model
nets_are c = with_nets c.args.model c.in_ok-model.model c.requires.lawful c.requires.sound c.requires.limits c.in_ok-model.ensures

pub with_reset_nets-requires-clause-values : goal.with_reset_nets-requires-clause-values
with_reset_nets-requires-clause-values c = λ k d low. ((c.requires.lawful.decls k d low).some, (c.requires.lawful.decls k d low).few)

pub with_reset_nets-requires-clause-single : goal.with_reset_nets-requires-clause-single
with_reset_nets-requires-clause-single c = resets_single c.args.model c.requires.lawful

pub numbered-requires-clause-proper : goal.numbered-requires-clause-proper
numbered-requires-clause-proper c = (nets_are (goal.at.numbered-requires-clause-proper c).In_ok-model).proper

pub numbered-requires-clause-placed : goal.numbered-requires-clause-placed
numbered-requires-clause-placed c =
    let m = c.in_ok-model.model in
    let P : List (List ℕ) → Type 0 = λ ns. All (IsPlacedTable m.decls ns) m.tables in
    subst P (sym c.requires.driven) (nets_are (goal.at.numbered-requires-clause-placed c).In_ok-model).placed

pub numbered-requires-clause-few : goal.numbered-requires-clause-few
numbered-requires-clause-few c =
    let e = ap length c.requires.driven in
    let l = few_drivers c.args.model c.requires.sound.driven in
    let f = c.requires.limits.few in
    omega (arith, e, l, f)

pub numbered-requires-clause-differ : goal.numbered-requires-clause-differ
numbered-requires-clause-differ c =
    let are = nets_are (goal.at.numbered-requires-clause-differ c).In_ok-model in
    places_differ c.in_ok-model.model are.proper are.sound.once

pub built-requires-clause-proper : goal.built-requires-clause-proper
built-requires-clause-proper c = (nets_are (goal.at.built-requires-clause-proper c).In_ok-model).proper

pub built-requires-clause-sound : goal.built-requires-clause-sound
built-requires-clause-sound c = (nets_are (goal.at.built-requires-clause-sound c).In_ok-model).sound

pub built-requires-clause-few : goal.built-requires-clause-few
built-requires-clause-few c =
    let are = nets_are (goal.at.built-requires-clause-few c).In_ok-model in
    let e = ap length c.in_ok-names.ensures.names in
    let l = places_few c.in_ok-model.model are.proper are.few in
    omega (arith, e, l)

-- the tables come from those of the design, also those of the reset nets
from_tables : (c : In_ok-model) → All (IsFrom c.args.shared) c.in_ok-model.model.tables
unfolding with_reset_nets
from_tables c =
    let P : FileModel → Type 0 = λ m. All (IsFrom c.args.shared) m.tables in
    subst P (sym c.in_ok-model.ensures) c.requires.shared

pub numbered-requires-clause-shared : goal.numbered-requires-clause-shared
numbered-requires-clause-shared c = from_tables (goal.at.numbered-requires-clause-shared c).In_ok-model

pub built-requires-clause-shared : goal.built-requires-clause-shared
built-requires-clause-shared c =
    let tables = from_tables (goal.at.built-requires-clause-shared c).In_ok-model in
    λ k d low. c.in_ok-names.ensures.kept _ (tables k d low)

pub built-requires-clause-few_nets : goal.built-requires-clause-few_nets
built-requires-clause-few_nets c =
    let e = c.len-file_nets.ensures ∙ ap length c.requires.driven in
    let l = few_drivers c.args.model c.requires.sound.driven in
    let f = c.requires.limits.few in
    omega (arith, e, l, f)

pub make-requires-clause-few : goal.make-requires-clause-few
make-requires-clause-few c =
    let are = nets_are (goal.at.make-requires-clause-few c).In_ok-model in
    nets_few c.in_ok-model.model c.in_ok-parts.parts are.proper are.sound are.few c.in_ok-parts.ensures.built

pub make-requires-clause-formed : goal.make-requires-clause-formed
make-requires-clause-formed c =
    let are = nets_are (goal.at.make-requires-clause-formed c).In_ok-model in
    well_formed c.in_ok-model.model c.in_ok-parts.parts are.proper are.sound c.in_ok-parts.ensures.built

pub returns-clause-built : goal.returns-clause-built
returns-clause-built c =
    let P : FileModel → Type 0 = λ m. IsBuilt m c.in_ok-parts.parts in
    let Q : NetParts → Type 0 = IsBuilt (with_reset_nets c.args.model) in
    subst Q (sym c.in_ok-make.ensures) (subst P c.in_ok-model.ensures c.in_ok-parts.ensures.built)

pub returns-clause-fits : goal.returns-clause-fits
returns-clause-fits c =
    small_by c.args.model c.in_ok-model.model _ c.in_ok-model.ensures (c.len-file_nets.ensures ∙ ap length c.requires.driven) c.in_ok-parts.ensures.fits
