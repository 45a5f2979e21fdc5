-- Variables that are eliminated one after another, and their marks.
use Rattle.std.proofs.Common.{◌≡◌, ◌≤◌, ◌<◌, ◌||◌, ◌==◌, ◌⊎◌, ℕ, zero, suc, Bool, true, false, List, [], ◌∷◌, All, cond, count_by, length, vec_capacity, refl, sym, ap, subst, ◌∙◌, inl, inr, arith, true≢false}
use Rattle.std.specs.List.{list_any}
use Rattle.std.proofs.Math.ListN.{set, get_or-eq_default}
use Rattle.std.proofs.lemmas.List.{get_or-set_other}
use Rattle.std.proofs.lemmas.List.Sums.{sum_by-set}
use Rattle.std.proofs.lemmas.Bool.{cases_Bool, cases_eq, cases_lt, eqb-true}
use Rattle.std.specs.declared.vec.Vec.{Vec}
use Rattle.std.specs.declared.alloc.Global.{Global}
use Rattle.mv_pool.specs.Walks.{mark}
use Rattle.mv_diagram.specs.Parts.{no_variable}
use Rattle.mv_factors.specs.declared.inner.Inner.{Inner}
use Rattle.mv_factors.specs.Families.{Family, everywhere}
use Rattle.mv_factors.specs.Functions.{is_this}
use Rattle.mv_factors.specs.Leaving.{Eliminates, EliminatesSome, is_inner}
use Rattle.mv_factors.specs.declared.seen.Work.{Work}
use Rattle.mv_factors.specs.Seen.{HasRoom, HasRows, IsNext, IsUnderWay, KeepsWork}
use Rattle.mv_factors.proofs.Agreeing.{same_truth, this_is, this_same}
use Rattle.mv_factors.proofs.Eliminating.{eliminates_none, eliminates_same, eliminates_then}
use Rattle.mv_factors.proofs.Keeping.{Keeps-self}

-- what is true of each of the variables
pub inner_all : (P : ℕ → Type 0) (inner : List Inner) → All (λ (i : Inner). P i.var) inner → (v : ℕ) → is_inner inner v ≡ true → P v
inner_all P [] all v is = absurd (true≢false (sym is))
inner_all P (i ∷ inner) all v is = elim (cases_Bool (i.var == v)) [
  | inl here ↦ subst P (eqb-true i.var v here) (all zero i (omega arith))
  | inr other ↦
      inner_all P inner (λ k d less. all (suc k) d (omega arith)) v
      (sym (ap (λ b. b || list_any (λ (j : Inner). j.var == v) inner) other) ∙ is)
]

-- a mark that is set has its place
pub mark_inside : (marks : List Bool) (n : ℕ) → mark marks n ≡ true → n < length marks
mark_inside marks n is = elim (cases_lt n (length marks)) [
  | inl inside ↦ inside
  | inr outside ↦ absurd (true≢false (sym is ∙ get_or-eq_default marks false outside))
]

-- one mark less is set
pub marks_fall : (marks : List Bool) (n : ℕ) → mark marks n ≡ true → count_by (λ b. b) (set marks n false) < count_by (λ b. b) marks
marks_fall marks n is =
    let s = sum_by-set (λ (b : Bool). cond b 1 0) marks n false false (mark_inside marks n is) in
    let one = ap {A = Bool} {B = ℕ} (λ b. cond b 1 0) is in
    omega (arith, s, one)

either_true : (a b : Bool) → b ≡ true → (a || b) ≡ true
either_true true b is = refl
either_true false b is = is

first_true : (a b : Bool) → a ≡ true → (a || b) ≡ true
first_true a b is = ap (λ x. x || b) is

one_true : (a b : Bool) → (a || b) ≡ true → (a ≡ true) ⊎ (b ≡ true)
one_true true b is = inl refl
one_true false b is = inr is

-- before the first step
pub under_start : (f : Family) (from : ℕ) (inner : List Inner) (left : List Bool) → All (λ (i : Inner). mark left i.var ≡ true) inner
    → IsUnderWay f f from inner left
under_start f from inner left marked = record {
  done = no_variable;
  among = λ v is. absurd (true≢false (sym is));
  rest = λ v is. inr (inner_all (λ n. mark left n ≡ true) inner marked v is);
  is = eliminates_none f f from (Keeps-self f everywhere) refl;
}

module _ (f g : Family) (from : ℕ) (inner : List Inner) (left : List Bool) (under : IsUnderWay f g from inner left) where
  -- one variable more
  pub under_more : (h : Family) (left' : List Bool) (one : Inner) → g.contents.counts ≡ f.contents.counts → IsNext inner left one
      → Eliminates g h from (is_this one.var) → left' ≡ set left one.var false → IsUnderWay f h from inner left'
  under_more h left' one counts next step now = record {
    done = λ v. under.done v || is_this one.var v;
    among = λ v is. elim (one_true (under.done v) (is_this one.var v) is) [
      | inl before ↦ under.among v before
      | inr here ↦ subst (λ n. is_inner inner n ≡ true) (sym (this_is one.var v here)) next.among
    ];
    rest = λ v is. elim (under.rest v is) [
      | inl before ↦ inl (first_true (under.done v) (is_this one.var v) before)
      | inr marked ↦ elim (cases_eq v one.var) [
        | inl same ↦ inl (either_true (under.done v) (is_this one.var v) (ap (is_this one.var) same ∙ this_same one.var))
        | inr other ↦ inr (ap (λ marks. mark marks v) now ∙ get_or-set_other left one.var v false false other ∙ marked)
      ]
    ];
    is = eliminates_then f g h from under.done (is_this one.var) counts under.is step;
  }

  -- none is left
  pub under_done : All (λ (i : Inner). mark left i.var ≡ false) inner → Eliminates f g from (is_inner inner)
  under_done none =
      eliminates_same f g from under.done (is_inner inner)
      (λ v. same_truth (under.done v) (is_inner inner v) (under.among v) (λ is. elim (under.rest v is) [
        | inl before ↦ before
        | inr marked ↦ absurd (true≢false (sym marked ∙ inner_all (λ n. mark left n ≡ false) inner none v is))
      ])) under.is

  -- a step failed
  pub under_some : (h : Family) → g.contents.counts ≡ f.contents.counts → Eliminates g h from no_variable
      → EliminatesSome f h from (is_inner inner)
  under_some h counts step = record {
    done = λ v. under.done v || no_variable v;
    among = λ v is. elim (one_true (under.done v) (no_variable v) is) [
      | inl before ↦ under.among v before
      | inr none ↦ absurd (true≢false (sym none))
    ];
    is = eliminates_then f g h from under.done no_variable counts under.is step;
  }

-- the room stays
pub room_more : (a b c : Work) (places vars : ℕ) → (HasRows a.rows.items places vars → HasRows b.rows.items places vars) → KeepsWork a b
    → c.rows ≡ b.rows
    → vec_capacity b.sizes ≤ vec_capacity c.sizes → vec_capacity b.costs ≤ vec_capacity c.costs → vec_capacity b.left ≤ vec_capacity c.left
    → HasRoom a places vars → HasRoom c places vars
room_more a b c places vars has keeps same sizes costs left room = record {
  marked = subst (λ (rows : Vec (Vec Bool Global) Global). HasRows rows.items places vars) (sym same) (has room.marked);
  sized = let x = room.sized in let y = keeps.sizes in omega arith;
  priced = let x = room.priced in let y = keeps.costs in omega arith;
  listed = let x = room.listed in let e = ap (λ (v : Vec Bool Global). vec_capacity v) keeps.left in omega arith;
}
