-- The outputs of the latches stand right behind the inputs among the driven nets.
use Rattle.std.proofs.Common.{◌≡◌, ℕ, suc, ◌+◌, ◌<◌, ◌≤◌, List, [], ◌∷◌, ◌++◌, length, get_or, Some, refl, sym, ◌∙◌, ap, arith}
use Rattle.std.specs.List.{slice_get, flat_map}
use Rattle.std.specs.Option.{option_map}
use Rattle.std.proofs.lemmas.List.{length-append, length-map}
use Rattle.std.proofs.lemmas.Option.{slice_get_read, slice_get_within, slice_get-map}
use Rattle.mv_base.proofs.Lists.{get_front}
use Rattle.mv_base.proofs.NameLemmas.{IsDistinct-from_differ}
use Rattle.mv_design.specs.declared.design.FileLatch.{FileLatch}
use Rattle.mv_design.specs.declared.design.FileModel.{FileModel}
use Rattle.mv_design.specs.Nets.{drivers, latch_outputs, nets_driven}
use Rattle.mv_acyclic.specs.Numbers.{number_in}
use Rattle.mv_acyclic.specs.Sound.{IsDrivenOnce}
use Rattle.mv_acyclic.proofs.Distinct.{drivers_differ}
use Rattle.mv_acyclic.proofs.Listed.{number_at}

get_behind : {X : Type 0} (us ws : List X) (k : ℕ) → slice_get (us ++ ws) (length us + k) ≡ slice_get ws k
get_behind [] ws k = let e : 0 + k ≡ k = omega arith in ap (slice_get ws) e
get_behind (u ∷ us) ws k = let e : suc (length us) + k ≡ suc (length us + k) = omega arith in ap (slice_get (u ∷ (us ++ ws))) e ∙ get_behind us ws k

-- there are no more inputs and latches than driven nets
pub few_open : (m : FileModel) → length m.inputs + length m.latches ≤ length (drivers m)
unfolding drivers
few_open m =
    let outputs = flat_map nets_driven m.tables in
    let a = length-append m.inputs (latch_outputs m ++ outputs) in
    let b = length-append (latch_outputs m) outputs in
    let c = length-map m.latches (λ l. l.output) in
    omega arith

-- the output of the latch at a place
pub latch_listed : (m : FileModel) (place : ℕ) (w : List ℕ) → slice_get (latch_outputs m) place ≡ Some w
    → slice_get (drivers m) (length m.inputs + place) ≡ Some w
unfolding drivers
latch_listed m place w e =
    let outputs = flat_map nets_driven m.tables in
    get_behind m.inputs (latch_outputs m ++ outputs) place ∙ (get_front (latch_outputs m) outputs place (slice_get_within (latch_outputs m) place w e) ∙ e)

pub latch_read : (m : FileModel) (latches : List FileLatch) (place : ℕ) (x : FileLatch) (w : List ℕ) → latches ≡ m.latches → place < length latches
    → x ≡ get_or latches place x → w ≡ x.output → slice_get (latch_outputs m) place ≡ Some w
latch_read m latches place x w e lt is f =
    slice_get-map (λ l. l.output) m.latches place
    ∙ (ap (λ ls. option_map (λ (l : FileLatch). l.output) (slice_get ls place)) (sym e)
    ∙ (ap (option_map (λ (l : FileLatch). l.output)) (slice_get_read latches (length latches) place x refl lt is) ∙ ap Some (sym f)))

-- its number
pub latch_number : (m : FileModel) (place : ℕ) (w : List ℕ) → IsDrivenOnce m → slice_get (latch_outputs m) place ≡ Some w
    → number_in (drivers m) w ≡ length m.inputs + place
latch_number m place w d e =
    number_at (drivers m) (length m.inputs + place) w (IsDistinct-from_differ (drivers m) (drivers_differ m d)) (latch_listed m place w e)
