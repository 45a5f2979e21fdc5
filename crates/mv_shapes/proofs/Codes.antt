-- Columns and a mark are told from others by their list of numbers, so that what is kept under it is theirs; and what a map keeps.
use Rattle.std.proofs.Common.{◌≡◌, ℕ, true, false, List, [], ◌∷◌, length, nat_eq, Some, ⊎_elim, refl, sym, ◌∙◌, ap, subst, arith, All}
use Rattle.std.specs.Cmp.Lexicographic.{pointwise}
use Rattle.std.specs.Map.{lookup}
use Rattle.std.specs.declared.vec.Vec.{Vec}
use Rattle.std.specs.declared.alloc.Global.{Global}
use Rattle.std.proofs.lemmas.Bool.{cases_Bool}
use Rattle.std.proofs.lemmas.List.Elements.{All-nil, All-cons, All-head, All-tail}
use Rattle.std.proofs.lemmas.Option.{none-some, same_Some}
use Rattle.indexmap.specs.IndexMap.{insert_entry}
use Rattle.mv_base.specs.declared.number.NetId.{NetId}
use Rattle.mv_base.proofs.NameLemmas.{same_word_is}
use Rattle.mv_design.specs.declared.table.FileTable.{FileTable}
use Rattle.mv_rows.specs.declared.column.Column.{Column}
use Rattle.mv_rows.specs.declared.table.FlatTable.{FlatTable}
use Rattle.mv_rows.specs.Flat.{IsMade}
use Rattle.mv_shapes.specs.Shape.{coded}
use Rattle.mv_shapes.specs.Kept.{IsKept}

head_or : ℕ → List ℕ → ℕ
head_or n [] = n
head_or n (m ∷ ms) = m

behind : List ℕ → List ℕ
behind [] = []
behind (m ∷ ms) = ms

-- the columns and the mark are the same
record AreSame (cs ds : List Column) (m n : NetId) : Type 0 where
  columns : cs ≡ ds
  mark : m ≡ n

same_coded : (cs ds : List Column) (m n : NetId) → coded cs m ≡ coded ds n → AreSame cs ds m n
unfolding head_or behind
same_coded [] [] m n e = record { columns = refl; mark = λ i. record { 0 = ap (head_or 0) e i } }
same_coded [] (d ∷ ds) m n e = let long = ap length e in absurd (omega (arith, long))
same_coded (c ∷ cs) [] m n e = let long = ap length e in absurd (omega (arith, long))
same_coded (c ∷ cs) (d ∷ ds) m n e =
    let net : c.net.0 ≡ d.net.0 = ap (head_or 0) e in
    let rest : c.count ∷ coded cs m ≡ d.count ∷ coded ds n = ap behind e in
    let count : c.count ≡ d.count = ap (head_or 0) rest in
    let more = same_coded cs ds m n (ap behind rest) in
    record { columns = λ i. record { net = record { 0 = net i }; count = count i } ∷ more.columns i; mark = more.mark }

-- covers are kept under the numbers of their columns and their mark
pub kept_here : (t : FileTable) (cs : List Column) (m : NetId) (key : List ℕ) (flat : FlatTable) → key ≡ coded cs m → IsMade cs t m flat → IsKept t key flat
kept_here t cs m key flat e made = record {
  made = λ ds n f.
      let same = same_coded ds cs n m (f ∙ e) in
      let P : List Column → Type 0 = λ ks. IsMade ks t n flat in
      let Q : NetId → Type 0 = λ k. IsMade cs t k flat in
      subst P (sym same.columns) (subst Q (sym same.mark) made);
}

-- ---- what holds of each entry of a map

-- it holds of what is found
pub found : {V : Type 0} (P : List ℕ → V → Type 0) (es : List (Vec ℕ Global × V)) (w : List ℕ) (v : V) → All (λ (e : Vec ℕ Global × V). P e.0.items e.1) es
    → lookup (λ (k : Vec ℕ Global). pointwise nat_eq w k.items) es ≡ Some v → P w v
found P [] w v all h = absurd (none-some v h)
found {V} P (e ∷ es) w v all h =
    let Q : Vec ℕ Global × V → Type 0 = λ x. P x.0.items x.1 in
    ⊎_elim
    (λ (y : pointwise nat_eq w e.0.items ≡ true).
    let same : e.1 ≡ v = same_Some e.1 v (rw y at h) in
    let here : P e.0.items v = subst (P e.0.items) same (All-head Q e es all) in
    subst (λ x. P x v) (sym (same_word_is w e.0.items y)) here)
    (λ (n : pointwise nat_eq w e.0.items ≡ false). found P es w v (All-tail Q e es all) (rw n at h))
    (cases_Bool (pointwise nat_eq w e.0.items))

-- and of all entries with one that is put in
pub put : {V : Type 0} (P : List ℕ → V → Type 0) (es : List (Vec ℕ Global × V)) (k : Vec ℕ Global) (v : V) → All (λ (e : Vec ℕ Global × V). P e.0.items e.1) es
    → P k.items v → All (λ (e : Vec ℕ Global × V). P e.0.items e.1) (insert_entry (λ (a b : Vec ℕ Global). pointwise nat_eq a.items b.items) es k v)
put {V} P [] k v all here =
    let Q : Vec ℕ Global × V → Type 0 = λ x. P x.0.items x.1 in
    All-cons Q (k, v) [] here (All-nil Q)
put {V} P (e ∷ es) k v all here =
    let Q : Vec ℕ Global × V → Type 0 = λ x. P x.0.items x.1 in
    ⊎_elim
    (λ (y : pointwise nat_eq k.items e.0.items ≡ true).
    let there : P e.0.items v = subst (λ x. P x v) (same_word_is k.items e.0.items y) here in
    rw y (All-cons Q (e.0, v) es there (All-tail Q e es all)))
    (λ (n : pointwise nat_eq k.items e.0.items ≡ false). rw n (All-cons Q e _ (All-head Q e es all) (put P es k v (All-tail Q e es all) here)))
    (cases_Bool (pointwise nat_eq k.items e.0.items))
