-- A point at hand is in all sets from which all variables are eliminated exactly where the old ones have a common point.
use Rattle.std.proofs.Common.{◌≡◌, ◌≤◌, ◌<◌, ◌+◌, ℕ, Bool, true, false, List, length, get_or, All, MatchBool, refl, sym, ap, subst, ◌∙◌, inl, inr, arith, true≢false}
use Rattle.std.proofs.Math.ListN.{get_or-eq_default}
use Rattle.std.proofs.lemmas.Bool.{cases_Bool, cases_lt}
use Rattle.mv_base.specs.declared.number.Value.{Value}
use Rattle.mv_diagram.specs.declared.cube.Literal.{Literal}
use Rattle.mv_diagram.specs.Diagrams.{IsPoint, point_of}
use Rattle.mv_diagram.specs.Quantified.{AgreesOutside}
use Rattle.mv_diagram.specs.Sets.{Point, InRange}
use Rattle.mv_factors.specs.declared.inner.Inner.{Inner}
use Rattle.mv_factors.specs.Families.{Family}
use Rattle.mv_factors.specs.Leaving.{Eliminates, IsInAll, is_inner}
use Rattle.mv_factors.specs.Rooms.{Room}
use Rattle.mv_factors.proofs.Proceeding.{inner_all}
use Rattle.mv_witness.specs.Commons.{CopiesWith, HasCommon, IsBare}
use Rattle.mv_witness.specs.Ready.{IsReady}

range_along : (cs ds : List ℕ) (p : Point) → cs ≡ ds → InRange cs p → InRange ds p
range_along cs ds p same range = subst (λ (x : List ℕ). InRange x p) same range

-- the point at hand has the value 0 behind all variables
zero_behind : (counts : List ℕ) (zeros : List Value) (v : ℕ) → IsPoint counts zeros → length counts ≤ v → point_of zeros v ≡ 0
zero_behind counts zeros v is past =
    ap (λ (x : Value). x.0) (get_or-eq_default zeros (record { 0 = 0 }) (let e = is.long in omega arith))

module _ (room : Room) (all : List Inner) (zeros : List Value) (counts : List ℕ) (ready : IsReady counts room all zeros) where
  -- no variable behind all is eliminated
  none_behind : (v : ℕ) → length counts ≤ v → is_inner all v ≡ false
  none_behind v past = elim (cases_Bool (is_inner all v)) [
    | inl is ↦ let low : v < length counts = inner_all (λ n. n < length counts) all ready.within v is in absurd (omega arith)
    | inr out ↦ out
  ]

  bare_agrees : (q : Point) → IsBare counts q → AgreesOutside (is_inner all) (point_of zeros) q
  bare_agrees q bare = record {
    each = λ v out. elim (cases_lt v (length counts)) [
      | inl low ↦ absurd (true≢false (sym (ready.every v low) ∙ out))
      | inr past ↦ zero_behind counts zeros v ready.point past ∙ sym (bare.rest v past)
    ];
  }

  agrees_bare : (q : Point) → AgreesOutside (is_inner all) (point_of zeros) q → IsBare counts q
  agrees_bare q agrees = record {
    rest = λ v past. sym (agrees.each v (none_behind v past)) ∙ zero_behind counts zeros v ready.point past;
  }

module _ (f h e : Family) (from : ℕ) (literals : List Literal) (room : Room) (all : List Inner) (zeros : List Value)
    (ready : IsReady f.contents.counts room all zeros) (counts : h.contents.counts ≡ f.contents.counts)
    (copies : CopiesWith f h from literals) (gone : Eliminates h e (length f.list) (is_inner all)) where
  there : (p : Point) → InRange f.contents.counts p → InRange h.contents.counts p
  there p range = range_along f.contents.counts h.contents.counts p (sym counts) range

  back : (p : Point) → InRange h.contents.counts p → InRange f.contents.counts p
  back p range = range_along h.contents.counts f.contents.counts p counts range

  pub common_some : IsInAll e (length f.list) (point_of zeros) → HasCommon f from literals
  common_some is =
      let near = gone.some (point_of zeros) (there (point_of zeros) ready.point.range) is in
      let here = copies.some near.other (back near.other near.range) near.is in
      record {
        point = near.other;
        range = back near.other near.range;
        bare = agrees_bare room all zeros f.contents.counts ready near.other near.agrees;
        all = here.0;
        is = here.1;
      }

  pub common_none : (IsInAll e (length f.list) (point_of zeros) → ⊥) → HasCommon f from literals → ⊥
  common_none none c =
      none (gone.all (point_of zeros) c.point (there (point_of zeros) ready.point.range) (there c.point c.range)
      (bare_agrees room all zeros f.contents.counts ready c.point c.bare) (copies.all c.point c.range c.all c.is))

-- an answer to one claim is one to another that is as true
pub answered : (r : Bool) (P Q : Type 0) → (P → Q) → ((P → ⊥) → Q → ⊥) → MatchBool r P (P → ⊥) → MatchBool r Q (Q → ⊥)
answered true P Q on back is = on is
answered false P Q on back is = back is
