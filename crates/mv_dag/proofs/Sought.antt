-- The search for a place in an ascending list by halves.
use Rattle.std.proofs.Common.{◌≡◌, ◌∙◌, ℕ, ◌+◌, ◌<◌, ◌≤◌, true, List, ◌∷◌, length, get_or, take, drop, refl, sym, ap, ⊎_elim, eqb-true, eq-eqb, nat_eq, arith}
use Rattle.std.proofs.lemmas.Bool.{or_cases, or_left, cases_eq, cases_lt, false≢true}
use Rattle.std.proofs.lemmas.List.{drop_all, drop_more}
use Rattle.mv_base.specs.declared.number.NetId.{NetId}
use Rattle.mv_graph.specs.Nets.{has_id, ids_ascend}
use Rattle.mv_graph.proofs.Nets.{above_first, has_id-more}
use Rattle.mv_dag.specs.Readers.{IsGap}
use Rattle.mv_dag.proofs.Ascending.{ascend-cut_at}

-- the place sought is between the two
pub record IsSought (nets : List NetId) (n low high : ℕ) : Type 0 where
  pub order : low ≤ high
  pub within : high ≤ length nets
  pub before : (m : ℕ) → has_id (take low nets) m ≡ true → m < n
  pub behind : (m : ℕ) → has_id (drop high nets) m ≡ true → n ≤ m

pub sought-first : (nets : List NetId) (n high : ℕ) → high ≡ length nets → IsSought nets n 0 high
sought-first nets n high e = record {
  order = omega arith;
  within = omega arith;
  before = λ m h. absurd (false≢true h);
  behind = λ m h. absurd (false≢true (ap (λ l. has_id l m) (sym (drop_all high nets (omega arith))) ∙ h));
}

-- the net at a place is above those before it, and no higher than those from there on
at_middle : (nets : List NetId) (k : ℕ) (d : NetId) → ids_ascend nets ≡ true → k < length nets → (m : ℕ) → has_id (take k nets) m ≡ true → m < (get_or nets k d).0
at_middle nets k d up lt m h =
    let x = get_or nets k d in
    let first : has_id (x ∷ drop (k + 1) nets) x.0 ≡ true = or_left (nat_eq x.0 x.0) (has_id (drop (k + 1) nets) x.0) (eq-eqb x.0 x.0 refl) in
    (ascend-cut_at nets k up).apart m x.0 h (ap (λ l. has_id l x.0) (drop_more nets k d lt) ∙ first)

from_middle : (nets : List NetId) (k : ℕ) (d : NetId) → ids_ascend nets ≡ true → k < length nets → (m : ℕ) → has_id (drop k nets) m ≡ true → (get_or nets k d).0 ≤ m
from_middle nets k d up lt m h =
    let x = get_or nets k d in
    let is = drop_more nets k d lt in
    let rest : ids_ascend (x ∷ drop (k + 1) nets) ≡ true = ap ids_ascend (sym is) ∙ (ascend-cut_at nets k up).second in
    ⊎_elim
    (λ (y : nat_eq x.0 m ≡ true). let e : x.0 ≡ m = eqb-true x.0 m y in omega arith)
    (λ (y : has_id (drop (k + 1) nets) m ≡ true). let far : x.0 < m = above_first x (drop (k + 1) nets) m rest y in omega arith)
    (or_cases (nat_eq x.0 m) (has_id (drop (k + 1) nets) m) (ap (λ l. has_id l m) (sym is) ∙ h))

pub sought-up : (nets : List NetId) (n low high k : ℕ) (x d : NetId) → ids_ascend nets ≡ true → IsSought nets n low high → k < high → x ≡ get_or nets k d → x.0 < n → IsSought nets n (k + 1) high
sought-up nets n low high k x d up s lt is less =
    let inside : k < length nets = omega (arith, s.within) in
    record {
      order = omega arith;
      within = s.within;
      before = λ m h.
          ⊎_elim
          (λ (y : has_id (take k nets) m ≡ true).
          let far : m < (get_or nets k d).0 = at_middle nets k d up inside m y in
          let same : x.0 ≡ (get_or nets k d).0 = ap (λ (z : NetId). z.0) is in
          omega arith)
          (λ (y : nat_eq x.0 m ≡ true). let e : x.0 ≡ m = eqb-true x.0 m y in omega arith)
          (or_cases (has_id (take k nets) m) (nat_eq x.0 m) (sym (has_id-more nets k x d m inside is) ∙ h));
      behind = s.behind;
    }

pub sought-down : (nets : List NetId) (n low high k : ℕ) (x d : NetId) → ids_ascend nets ≡ true → IsSought nets n low high → low ≤ k → k < high → x ≡ get_or nets k d → n ≤ x.0 → IsSought nets n low k
sought-down nets n low high k x d up s ge lt is more =
    let inside : k < length nets = omega (arith, s.within) in
    record {
      order = ge;
      within = omega arith;
      before = s.before;
      behind = λ m h.
          let far : (get_or nets k d).0 ≤ m = from_middle nets k d up inside m h in
          let same : x.0 ≡ (get_or nets k d).0 = ap (λ (z : NetId). z.0) is in
          omega arith;
    }

-- where the net doesn't stand at the place, it may come there
pub gap-from : (nets : List NetId) (n k : ℕ) (d : NetId) → ids_ascend nets ≡ true → k ≤ length nets → ((m : ℕ) → has_id (take k nets) m ≡ true → m < n) → ((m : ℕ) → has_id (drop k nets) m ≡ true → n ≤ m)
    → (k < length nets → (get_or nets k d).0 ≡ n → ⊥) → IsGap nets k n
gap-from nets n k d up low before behind other = record {
  within = low;
  before = before;
  behind = λ m h.
      let far : n ≤ m = behind m h in
      ⊎_elim
      (λ (e : n ≡ m).
      ⊎_elim
      (λ (lt : k < length nets).
      let x = get_or nets k d in
      let least : x.0 ≤ m = from_middle nets k d up lt m h in
      let first : has_id (x ∷ drop (k + 1) nets) x.0 ≡ true = or_left (nat_eq x.0 x.0) (has_id (drop (k + 1) nets) x.0) (eq-eqb x.0 x.0 refl) in
      let most : n ≤ x.0 = behind x.0 (ap (λ l. has_id l x.0) (drop_more nets k d lt) ∙ first) in
      absurd (other lt (omega arith)))
      (λ (ge : length nets ≤ k). absurd (false≢true (ap (λ l. has_id l m) (sym (drop_all k nets ge)) ∙ h)))
      (cases_lt k (length nets)))
      (λ (ne : n ≡ m → ⊥). omega arith)
      (cases_eq n m);
}
