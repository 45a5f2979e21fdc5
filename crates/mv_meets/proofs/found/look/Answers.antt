use Rattle.std.proofs.Common.{◌≡◌, ◌∙◌, ℕ, ◌<◌, ◌≤◌, true, false, Option, List, length, All, refl, sym, subst, arith}
use Rattle.std.specs.Prelude.{MatchBool}
use Rattle.mv_meets.specs.Search.{is_ahead, leading, saved_by, HasPair}
use Rattle.mv_meets.specs.declared.found.Found.{Found}
use Rattle.mv_meets.proofs.Looking.{look_less, look_none, look_new}
use Rattle.mv_meets.proofs.Places.{holding_below}
use Rattle.mv_meets.proofs.found.look.Goals as goal

pub returns-then-not-is_ahead : goal.returns-then-not-is_ahead
returns-then-not-is_ahead c =
    let node = c.args.node.now in
    let is : c.saved_by-saved.result ≡ saved_by (length node.places.items) (length node.cube) = c.saved_by-saved.ensures ∙ (λ j. saved_by (length (c.as_slice-places.ensures.value j)) (c.len-2.ensures.value j)) in
    let behind : is_ahead (leading c.args.given.now c.args.found) c.saved_by-saved.result node.cube ≡ false =
    subst (λ (b : Option Found). is_ahead b c.saved_by-saved.result node.cube ≡ false) c.leading.ensures (sym c.if-not-is_ahead.ensures) in
    look_less c.args.cubes.now node.cube c.args.given.now c.args.found c.requires.found node.places.items c.requires.node.places c.saved_by-saved.result is behind

pub is_meet-requires : goal.is_meet-requires
is_meet-requires c =
    subst (All (λ (p : ℕ). p < length c.args.cubes.now)) (sym c.as_slice-places.ensures.value) (holding_below c.args.cubes.now c.args.node.now.cube c.args.node.now.places.items c.requires.node.places)

pub returns-then-not-meets : goal.returns-then-not-meets
returns-then-not-meets c =
    let node = c.args.node.now in
    let Pair : List ℕ → Type 0 = λ ps. HasPair c.args.cubes.now ps ps node.cube in
    let none : Pair c.as_slice-places.result.now → ⊥ = subst (λ b. MatchBool b (Pair c.as_slice-places.result.now) (Pair c.as_slice-places.result.now → ⊥)) c.if-not-meets.true c.in_ok-meets.ensures in
    look_none c.args.cubes.now node.cube c.args.given.now c.args.found c.requires.found node.places.items c.requires.node.places (subst (λ ps. Pair ps → ⊥) c.as_slice-places.ensures.value none)

pub returns : goal.returns
returns c =
    let node = c.args.node.now in
    let is : c.saved_by-saved.result ≡ saved_by (length node.places.items) (length node.cube) = c.saved_by-saved.ensures ∙ (λ j. saved_by (length (c.as_slice-places.ensures.value j)) (c.len-2.ensures.value j)) in
    let Pair : List ℕ → Type 0 = λ ps. HasPair c.args.cubes.now ps ps node.cube in
    let some : Pair c.as_slice-places.result.now = subst (λ b. MatchBool b (Pair c.as_slice-places.result.now) (Pair c.as_slice-places.result.now → ⊥)) c.if-not-meets.false c.in_ok-meets.ensures in
    let two : 2 ≤ length node.cube = omega (arith, c.if-len-lt2.false, c.len.ensures.value) in
    let ahead : is_ahead (leading c.args.given.now c.args.found) c.saved_by-saved.result node.cube ≡ true =
    subst (λ (b : Option Found). is_ahead b c.saved_by-saved.result node.cube ≡ true) c.leading.ensures (sym c.if-not-is_ahead.ensures) in
    look_new c.args.cubes.now node.cube c.args.given.now c.args.found c.requires.found node.places.items c.requires.node.places c.saved_by-saved.result is (record { cube = c.in_ok-cube.cube; saved = c.saved_by-saved.result }) c.requires.given ahead two
    (subst Pair c.as_slice-places.ensures.value some) c.in_ok-cube.ensures.copy refl
