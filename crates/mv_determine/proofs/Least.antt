-- The least value of a set.
use Rattle.std.proofs.Common.{◌≡◌, ◌∙◌, ℕ, zero, suc, ◌+◌, ◌<◌, ◌≤◌, Bool, true, false, Option, Some, None, slice_index, inl, inr, refl, sym, ap, subst, ⊎_elim, ◌⊎◌, arith}
use Rattle.std.specs.Prelude.{◌↔◌, count_ones, IsNone}
use Rattle.std.specs.List.{filter, range_with_len}
use Rattle.std.specs.Cmp.{unsigned_Decides}
use Rattle.std.specs.Option.{IsSome}
use Rattle.std.proofs.lemmas.Bool.{cases_Bool, cases_lt, false≢true, false_from_ne_true, lt-ltb, ltb-true, ne_eqb}
use Rattle.mv_base.specs.declared.limits.TheConstants.{MAX_VALUES}
use Rattle.mv_base.specs.declared.number.Value.{Value}
use Rattle.mv_base.specs.Set.{has, empty, one}
use Rattle.mv_base.proofs.Sets.{has-empty, has-one, has-full, count-empty, count-more, join_empty}
use Rattle.mv_cover.specs.Lines.{IsOutput}
use Rattle.mv_cover.proofs.Members.{member_of}
use Rattle.mv_determine.specs.Determined.{least_of}

-- the first of the numbers from one on that passes is the one that does, where none before it does
first_passing : (p : ℕ → Bool) (v : ℕ) → p v ≡ true → ((u : ℕ) → u < v → p u ≡ false) → (from count : ℕ) → from ≤ v → v < from + count → slice_index (filter p (range_with_len from count)) 0 ≡ v
first_passing p v there before from zero low high = absurd (omega arith)
first_passing p v there before from (suc count) low high =
    elim (cases_Bool (p from)) [
      | inl t ↦ rw t (here t)
      | inr f ↦ rw f (first_passing p v there before (from + 1) count (omega (arith, later f)) (omega arith))
    ]
  where
    here : p from ≡ true → from ≡ v
    here t =
        ⊎_elim
        (λ (less : from < v). absurd (false≢true (sym (before from less) ∙ t)))
        (λ (past : v ≤ from). omega (arith, past, low))
        (cases_lt from v)

    later : p from ≡ false → from < v
    later f =
        ⊎_elim
        (λ (less : from < v). less)
        (λ (past : v ≤ from). let e : from ≡ v = omega (arith, past, low) in absurd (false≢true (sym f ∙ (ap p e ∙ there))))
        (cases_lt from v)

-- a value of a set none of whose other values is less is its least
pub least_is : (s v : ℕ) → has s v ≡ true → ((u : ℕ) → has s u ≡ true → v ≤ u) → v < MAX_VALUES → least_of s ≡ v
unfolding least_of
least_is s v there least small =
    first_passing (λ u. has s u) v there (λ u less. false_from_ne_true (has s u) (λ t. let low = least u t in omega (arith, low, less))) 0 MAX_VALUES (omega arith) (omega (arith, small))

-- ---- sets that a net may have

-- a value of an output is one of the net's
pub value_below : (values out v : ℕ) → IsOutput values out → has out v ≡ true → v < values
value_below values out v output there = ltb-true v values (sym (has-full values v) ∙ output.within v there)

-- some value that passes below a number, and none before it
record FirstBelow (p : ℕ → Bool) (v : ℕ) : Type 0 where
  at : ℕ
  there : p at ≡ true
  before : (u : ℕ) → u < at → p u ≡ false

first_below : (p : ℕ → Bool) (n : ℕ) → ((v : ℕ) → v < n → p v ≡ false) ⊎ FirstBelow p n
first_below p zero = inl (λ v low. absurd (omega arith))
first_below p (suc n) =
    elim (first_below p n) [
      | inr f ↦ inr (record { at = f.at; there = f.there; before = f.before })
      | inl none ↦
          elim (cases_Bool (p n)) [
            | inl t ↦ inr (record { at = n; there = t; before = none })
            | inr f ↦ inl (λ v low. ⊎_elim (λ (less : v < n). none v less) (λ (past : n ≤ v). let e : v ≡ n = omega (arith, past, low) in ap p e ∙ f) (cases_lt v n))
          ]
    ]

-- the least value of an output is one of its values
pub least_there : (values out : ℕ) → values ≤ MAX_VALUES → IsOutput values out → has out (least_of out) ≡ true
least_there values out few output =
    elim (first_below (λ v. has out v) values) [
      | inl none ↦
          let m = member_of out (ne_eqb out empty output.some) in
          absurd (false≢true (sym (none m.0 (value_below values out m.0 output m.1)) ∙ m.1))
      | inr f ↦
          let low = value_below values out f.at output f.there in
          let is = least_is out f.at f.there
          (λ u t. ⊎_elim (λ (less : u < f.at). absurd (false≢true (sym (f.before u less) ∙ t))) (λ (past : f.at ≤ u). past) (cases_lt u f.at)) (omega (arith, low, few))
          in
          ap (has out) is ∙ f.there
    ]

pub least_below : (values out : ℕ) → values ≤ MAX_VALUES → IsOutput values out → least_of out < values
least_below values out few output = value_below values out (least_of out) output (least_there values out few output)

-- ---- sets of one value

pub one_there : (v : ℕ) → has (one v) v ≡ true
one_there v = has-one v v ∙ (unsigned_Decides v v).1 refl

pub one_only : (u v : ℕ) → has (one u) v ≡ true → v ≡ u
one_only u v h = (unsigned_Decides v u).0 (sym (has-one u v) ∙ h)

pub one_counts : (v : ℕ) → count_ones (one v) ≡ 1
one_counts v =
    let more = count-more empty v (has-empty v) in
    ap count_ones (sym (join_empty (one v))) ∙ omega (arith, more, count-empty)

-- a value of a net, alone, is an output
pub one_output : (values v : ℕ) → v < values → IsOutput values (one v)
one_output values v low = record {
  some = λ e. false≢true (sym (has-empty v) ∙ (ap (λ s. has s v) (sym e) ∙ one_there v));
  within = λ u t. has-full values u ∙ lt-ltb u values (subst (λ w. w < values) (sym (one_only v u t)) low);
}

-- an output has a least value, as it is looked for
pub output_found : (o : Option Value) (values s : ℕ) → (IsNone o ↔ (s ≡ empty)) → IsOutput values s → IsSome o
output_found None values s none output = absurd (output.some (none.0 refl))
output_found (Some v) values s none output = refl
