-- Lists that grow by one item at the end: the keys of a set, and the rows and the covers of outputs.
use Rattle.std.proofs.Common.{◌≡◌, ℕ, suc, ◌+◌, ◌<◌, List, [], ◌∷◌, ◌++◌, length, get_or, take, refl, sym, ◌∙◌, ap, subst, arith}
use Rattle.std.proofs.lemmas.List.{take_more, length-take-le}
use Rattle.indexmap.specs.IndexSet.{insert_key, insert_all}
use Rattle.mv_base.specs.Firsts.{firsts_by}
use Rattle.mv_base.proofs.Firsts.{keys-firsts}
use Rattle.mv_base.specs.declared.number.NetId.{NetId}
use Rattle.mv_cover.specs.declared.cover.Cover.{Cover}
use Rattle.mv_design.specs.declared.table.Row.{Row}
use Rattle.mv_joint.specs.OutRows.{same_outs, same_outs-Decides}
use Rattle.mv_joint.specs.Joint.{output_row, output_rows, output_table, choice_columns, IsCoverOf, AreOutputs}

pub inserted_append : (keys xs ys : List (List ℕ)) → insert_all same_outs keys (xs ++ ys) ≡ insert_all same_outs (insert_all same_outs keys xs) ys
inserted_append keys [] ys = refl
inserted_append keys (x ∷ xs) ys = inserted_append (insert_key same_outs keys x) xs ys

pub inserted_distinct : (xs ys a b : List (List ℕ)) → a ≡ insert_all same_outs [] xs → b ≡ insert_all same_outs a ys → b ≡ firsts_by same_outs (xs ++ ys)
inserted_distinct xs ys a b e f =
    f ∙ (ap (λ (k : List (List ℕ)). insert_all same_outs k ys) e
    ∙ (sym (inserted_append [] xs ys) ∙ keys-firsts same_outs (λ x y h. (same_outs-Decides x y).0 h) (xs ++ ys)))

output_rows_push : (j v : ℕ) (xs : List (List ℕ)) (x : List ℕ) → output_rows j v (xs ++ x ∷ []) ≡ output_rows j v xs ++ output_row j (v + length xs) x ∷ []
output_rows_push j v [] x = ap (λ (u : ℕ). output_row j u x ∷ []) (let e : v ≡ v + 0 = omega arith in e)
output_rows_push j v (y ∷ ys) x =
    ap (λ (rs : List Row). output_row j v y ∷ rs)
    (output_rows_push j (v + 1) ys x ∙ ap (λ (u : ℕ). output_rows j (v + 1) ys ++ output_row j u x ∷ []) (let e : (v + 1) + length ys ≡ v + suc (length ys) = omega arith in e))

-- one row more
pub output_rows_more : (j i : ℕ) (all : List (List ℕ)) (x : List ℕ) (a b : List Row) → i < length all → x ≡ get_or all i x → a ≡ output_rows j 0 (take i all) → b ≡ a ++ output_row j i x ∷ [] → b ≡ output_rows j 0 (take (i + 1) all)
output_rows_more j i all x a b low is before more =
    let place : 0 + length (take i all) ≡ i = omega (arith, length-take-le i all (omega arith)) in
    more ∙ ((λ k. before k ++ output_row j (sym place k) x ∷ [])
    ∙ (sym (output_rows_push j 0 (take i all) x)
    ∙ ap (output_rows j 0) (ap (λ (y : List ℕ). take i all ++ y ∷ []) is ∙ sym (take_more all i x low))))

-- one cover more
pub outputs_more : (all : List (List ℕ)) (mark choice : NetId) (j k : ℕ) (cs : List Cover) (c : Cover) → j + length cs ≡ k → AreOutputs all mark choice j cs → IsCoverOf (choice_columns all choice) (output_table all k) mark c → AreOutputs all mark choice j (cs ++ c ∷ [])
outputs_more all mark choice j k [] c e are is =
    let same : k ≡ j = omega (arith, e) in
    (subst (λ (n : ℕ). IsCoverOf (choice_columns all choice) (output_table all n) mark c) same is, tt)
outputs_more all mark choice j k (d ∷ cs) c e are is =
    let next : (j + 1) + length cs ≡ k = omega (arith, e) in
    (are.0, outputs_more all mark choice (j + 1) k cs c next are.1 is)
