-- Values of variables that are fixed one after another.
use Rattle.std.proofs.Common.{◌≡◌, ◌≤◌, ◌<◌, ◌+◌, ◌&&◌, ◌==◌, ℕ, Bool, true, List, [], ◌∷◌, length, set, refl, sym, ap, subst, ◌∙◌, inl, inr, arith, get_or-set_same, get_or-set_other}
use Rattle.std.specs.Prelude.{slice_index}
use Rattle.std.proofs.lemmas.Bool.{and_parts, cases_lt, eqb-true, eq-eqb, lt-ltb}
use Rattle.mv_base.specs.Set.{has, one}
use Rattle.mv_base.proofs.Sets.{has-one}
use Rattle.mv_diagram.specs.declared.cube.Literal.{Literal}
use Rattle.mv_diagram.specs.Cubes.{AscendingVars, in_cube}
use Rattle.mv_diagram.specs.Sets.{Point, InRange}
use Rattle.mv_factors.specs.Families.{Family, Keeps, before, set_at}
use Rattle.mv_factors.specs.Leaving.{IsInAll}
use Rattle.mv_witness.specs.Commons.{CanBe, HasCommon, IsBare, IsFixed}

-- the literal of one value
abbrev pub value_literal : ℕ → ℕ → List Literal
value_literal var value = record { var = var; set = one value } ∷ []

pub holds_value : (var value : ℕ) (p : Point) → in_cube (value_literal var value) p ≡ true → p var ≡ value
holds_value var value p is = eqb-true (p var) value (sym (has-one value (p var)) ∙ (and_parts (has (one value) (p var)) true is).0)

pub value_holds : (var value : ℕ) (p : Point) → p var ≡ value → in_cube (value_literal var value) p ≡ true
value_holds var value p is = ap (λ b. b && true) (has-one value (p var) ∙ eq-eqb (p var) value is)

-- one literal ascends
pub one_ascends : (l : Literal) → AscendingVars (l ∷ [])
one_ascends l = record { each = λ i j m less inside. absurd (omega arith) }

pub common_can : (f : Family) (from var value : ℕ) → HasCommon f from (value_literal var value) → CanBe f from var value
common_can f from var value c = record {
  point = c.point;
  range = c.range;
  bare = c.bare;
  all = c.all;
  is = holds_value var value c.point c.is;
}

pub can_common : (f : Family) (from var value : ℕ) → CanBe f from var value → HasCommon f from (value_literal var value)
can_common f from var value c = record {
  point = c.point;
  range = c.range;
  bare = c.bare;
  all = c.all;
  is = value_holds var value c.point c.is;
}

-- ---- where the sets stay

pub in_all_along : (f g : Family) (from : ℕ) (p : Point) → Keeps f g (before (length f.list)) → length f.list ≤ length g.list
    → IsInAll g from p → IsInAll f from p
in_all_along f g from p keeps long all = record {
  each = λ k low high. sym (keeps.sets k p (lt-ltb k (length f.list) high)) ∙ all.each k low (omega arith);
}

pub in_all_still : (f g : Family) (from : ℕ) (p : Point) → Keeps f g (before (length f.list)) → length g.list ≡ length f.list
    → IsInAll f from p → IsInAll g from p
in_all_still f g from p keeps long all = record {
  each = λ k low high.
      let less : k < length f.list = omega arith in
      keeps.sets k p (lt-ltb k (length f.list) less) ∙ all.each k low less;
}

pub range_still : (f g : Family) (p : Point) → g.contents.counts ≡ f.contents.counts → InRange f.contents.counts p → InRange g.contents.counts p
range_still f g p same range = subst (λ (cs : List ℕ). InRange cs p) (sym same) range

pub common_still : (f g : Family) (from : ℕ) (ls : List Literal) → Keeps f g (before (length f.list)) → length g.list ≡ length f.list
    → HasCommon f from ls → HasCommon g from ls
common_still f g from ls keeps long c = record {
  point = c.point;
  range = range_still f g c.point keeps.counts c.range;
  bare = subst (λ (cs : List ℕ). IsBare cs c.point) (sym keeps.counts) c.bare;
  all = in_all_still f g from c.point keeps long c.all;
  is = c.is;
}

pub can_still : (f g : Family) (from var value : ℕ) → Keeps f g (before (length f.list)) → length g.list ≡ length f.list
    → CanBe f from var value → CanBe g from var value
can_still f g from var value keeps long c =
    common_can g from var value (common_still f g from (value_literal var value) keeps long (can_common f from var value c))

pub can_back : (f g : Family) (from var value : ℕ) → Keeps f g (before (length f.list)) → length g.list ≡ length f.list
    → CanBe g from var value → CanBe f from var value
can_back f g from var value keeps long c = record {
  point = c.point;
  range = range_still g f c.point (sym keeps.counts) c.range;
  bare = subst (λ (cs : List ℕ). IsBare cs c.point) keeps.counts c.bare;
  all = in_all_along f g from c.point keeps (omega arith) c.all;
  is = c.is;
}

-- ---- the least value, and the last

pub none_more : (f g : Family) (from var value : ℕ) → Keeps f g (before (length f.list)) → length g.list ≡ length f.list
    → ((v : ℕ) → v < value → CanBe f from var v → ⊥) → (CanBe g from var value → ⊥) → (v : ℕ) → v < value + 1
    → CanBe f from var v → ⊥
none_more f g from var value keeps long before_it here v less c = elim (cases_lt v value) [
  | inl earlier ↦ before_it v earlier c
  | inr later ↦
      let e : v ≡ value = omega arith in
      here (can_still f g from var value keeps long (subst (λ n. CanBe f from var n) e c))
]

pub last_can : (f : Family) (from var last : ℕ) → HasCommon f from [] → var < length f.contents.counts
    → last + 1 ≡ slice_index f.contents.counts var → ((v : ℕ) → v < last → CanBe f from var v → ⊥) → CanBe f from var last
last_can f from var last c inside is none =
    let low : c.point var < slice_index f.contents.counts var = c.range.below var inside in
    let here : CanBe f from var (c.point var) = record { point = c.point; range = c.range; bare = c.bare; all = c.all; is = refl } in
    elim (cases_lt (c.point var) last) [
      | inl less ↦ absurd (none (c.point var) less here)
      | inr past ↦ let e : c.point var ≡ last = omega arith in subst (λ n. CanBe f from var n) e here
    ]

-- ---- one value fixed

pub is_fixed : (f g h : Family) (from var value : ℕ) → from ≤ length f.list → Keeps f g (before (length f.list)) → length g.list ≡ length f.list
    → CanBe f from var value → Keeps g h (before (length g.list)) → length h.list ≡ length g.list + 1
    → ((p : Point) → InRange g.contents.counts p → set_at h (length g.list) p ≡ in_cube (value_literal var value) p)
    → IsFixed f h from var value
is_fixed f g h from var value low first same can second long set = record {
  long = omega arith;
  all = λ p range all. in_all_along f g from p first (omega arith) (in_all_along g h from p second (omega arith) all);
  here = λ p range all.
      holds_value var value p
      (sym (set p (range_still f g p first.counts range)) ∙ all.each (length g.list) (omega arith) (omega arith));
  some =
      let now = can_still f g from var value first same can in
      record {
        point = now.point;
        range = range_still g h now.point second.counts now.range;
        bare = subst (λ (cs : List ℕ). IsBare cs now.point) (sym second.counts) now.bare;
        all = record {
          each = λ k after until. elim (cases_lt k (length g.list)) [
            | inl earlier ↦ second.sets k now.point (lt-ltb k (length g.list) earlier) ∙ now.all.each k after earlier
            | inr later ↦
                let e : k ≡ length g.list = omega arith in
                ap (λ n. set_at h n now.point) e ∙ set now.point now.range ∙ value_holds var value now.point now.is
          ];
        };
        is = refl;
      };
}

-- ---- values fixed one after another

pub values_more : (old new : List ℕ) (place value : ℕ) (p : Point) → place < length old → new ≡ set old place value
    → ((k : ℕ) → k < place → p k ≡ slice_index old k) → p place ≡ value → (k : ℕ) → k < place + 1 → p k ≡ slice_index new k
values_more old new place value p inside is before_it here k less = elim (cases_lt k place) [
  | inl earlier ↦
      before_it k earlier ∙ sym (get_or-set_other old place k value 0 (λ e. absurd (omega arith)))
      ∙ ap (λ (l : List ℕ). slice_index l k) (sym is)
  | inr later ↦
      let e : k ≡ place = omega arith in
      ap p e ∙ here ∙ sym (get_or-set_same old place value 0 inside) ∙ ap (λ (l : List ℕ). slice_index l place) (sym is)
      ∙ ap (λ n. slice_index new n) (sym e)
]
