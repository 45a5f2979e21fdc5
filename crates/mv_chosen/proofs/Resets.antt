-- The reset value that an assignment gives a latch: whatever agrees with a network has there what the network always resets the
-- latch to.
use Rattle.std.proofs.Common.{◌≡◌, ◌∙◌, ℕ, zero, suc, ◌<◌, false, List, [], ◌∷◌, map, Option, Some, None, is_some, refl, sym, ap, subst}
use Rattle.std.proofs.lemmas.Bool.{false≢true}
use Rattle.std.specs.Prelude.{slice_get}
use Rattle.std.specs.Option.{option_map}
use Rattle.std.proofs.lemmas.Option.{slice_get-map, same_Some}
use Rattle.mv_base.specs.Meaning.{Refines}
use Rattle.mv_base.specs.declared.number.NetId.{NetId}
use Rattle.mv_cover.specs.declared.cover.Cover.{Cover}
use Rattle.mv_net.specs.declared.parts.Kind.TheVariants.{Reset}
use Rattle.mv_net.specs.declared.parts.FlatNet.{FlatNet}
use Rattle.mv_net.specs.declared.parts.FlatLatch.{FlatLatch}
use Rattle.mv_net.specs.declared.parts.NetParts.{NetParts}
use Rattle.mv_net.specs.Nets.{slot, values_in}
use Rattle.mv_net.specs.Formed.{IsKind, IsLatch, AllLatches, WellFormed}
use Rattle.mv_net.specs.Allowed.{Agrees, Allows, reset_gives, resets_give, of_net}
use Rattle.mv_net.proofs.Known.{values_some}
use Rattle.mv_chosen.specs.Chosen.{AlwaysResets, IsFixed}

-- ---- a latch at a place

latch_at : (nets : List (Option FlatNet)) (ls : List FlatLatch) (place : ℕ) (l : FlatLatch) → AllLatches nets ls → slice_get ls place ≡ Some l → IsLatch nets l
latch_at nets [] place l all e = cc
latch_at nets (k ∷ ls) zero l all e = subst (IsLatch nets) (same_Some k l e) all.0
latch_at nets (k ∷ ls) (suc place) l all e = latch_at nets ls place l all.1 e

-- a net that is fixed is a reset net
pub fixed_kind : (net : NetParts) (n : ℕ) (c : Cover) → WellFormed net → IsFixed net n c → IsKind net.nets n Reset
fixed_kind net n c formed fixed =
    ((latch_at net.nets net.latches fixed.place fixed.latch formed.latches fixed.there).reset (record { 0 = n }) fixed.reset).kind

-- ---- the reset values of an assignment

-- the value of the reset net, and 0 where there is none
abbrev reset_value : (ℕ → ℕ) → Option NetId → ℕ
reset_value y None = zero
reset_value y (Some n) = y n.0

abbrev reset_values : (ℕ → ℕ) → List FlatLatch → List ℕ
reset_values y ls = map (λ (l : FlatLatch). reset_value y l.reset) ls

value_gives : (nets : List (Option FlatNet)) (y : ℕ → ℕ) (output : NetId) (reset : Option NetId) → 0 < values_in (slot nets output.0) → reset_gives nets y output reset (reset_value y reset)
value_gives nets y output None some = some
value_gives nets y output (Some n) some = refl

values_give : (net : NetParts) (y : ℕ → ℕ) (ls : List FlatLatch) → WellFormed net → AllLatches net.nets ls → resets_give net.nets y ls (reset_values y ls)
values_give net y [] formed all = tt
values_give net y (l ∷ ls) formed all = (
  value_gives net.nets y l.output l.reset (values_some net l.output.0 formed (ap (λ f. is_some f) all.0.output.held)),
  values_give net y ls formed all.1,
)

-- what the assignment shows to be allowed
shown : (net : NetParts) (y : ℕ → ℕ) → WellFormed net → Agrees net.nets y
    → Allows net (map (λ (m : NetId). y m.0) net.inputs) (map (λ (l : FlatLatch). y l.output.0) net.latches) (map (λ (m : NetId). y m.0) net.outputs) (map (λ (l : FlatLatch). y l.input.0) net.latches) (reset_values y net.latches)
shown net y formed agrees = record {
  at = y;
  agrees = agrees;
  inputs = refl;
  states = refl;
  outputs = refl;
  next = refl;
  resets = values_give net y net.latches formed formed.latches;
}

pub always_value : (net : NetParts) (y : ℕ → ℕ) (n : ℕ) (c : Cover) → WellFormed net → Agrees net.nets y → (f : IsFixed net n c) → y n ≡ f.value
unfolding of_net
always_value net y n c formed agrees f =
    let value : FlatLatch → ℕ = λ l. reset_value y l.reset in
    let at : slice_get (reset_values y net.latches) f.place ≡ Some f.value = f.always.each _ _ _ _ _ (shown net y formed agrees) in
    let own : slice_get (reset_values y net.latches) f.place ≡ Some (value f.latch) = slice_get-map value net.latches f.place ∙ ap (option_map value) f.there in
    sym (ap (reset_value y) f.reset) ∙ same_Some (value f.latch) f.value (sym own ∙ at)

-- what may take the place of another always has the other's reset values
pub always_refined : (b a : NetParts) (place value : ℕ) → Refines false (of_net b) (of_net a) → AlwaysResets (of_net a) place value → AlwaysResets (of_net b) place value
always_refined b a place value refines always = record {
  each = λ i s o n r h. always.each i s o n r (refines.narrows.only i s o n r (λ free. absurd (false≢true free)) h);
}
