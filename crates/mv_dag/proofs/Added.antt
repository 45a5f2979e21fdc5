-- A label more.
use Rattle.std.proofs.Common.{◌≡◌, ◌⊎◌, ℕ, ◌+◌, ◌-◌, ◌%◌, ◌^◌, ◌<◌, ◌≤◌, true, List, [], ◌∷◌, ◌++◌, length, sym, ap, ◌∙◌, ⊎_elim, inl, inr, arith}
use Rattle.std.proofs.lemmas.Bool.{cases_eq, cases_lt, false≢true}
use Rattle.std.proofs.lemmas.List.{length_push, get_or_push, get_or_append_left, get_or_past}
use Rattle.mv_base.specs.declared.number.NetId.{NetId}
use Rattle.mv_graph.specs.Nets.{has_id, row, AllBelow}
use Rattle.mv_graph.proofs.Columns.{column_below}
use Rattle.mv_dag.specs.Ordered.{at, IsOrdered}

-- the label with n for its id, in the bucket of another
abbrev behind : ℕ → ℕ → ℕ
behind last n = last - last % 2 ^ 32 + n

module _ (fanins : List (List NetId)) (labels : List ℕ) (last : ℕ) (o : IsOrdered fanins labels) (room : length fanins < 2 ^ 32) where
  abbrev label : ℕ
  label = behind last (length fanins)

  id_is : label % 2 ^ 32 ≡ length fanins
  id_is = omega arith

  pub kept : (m : ℕ) → m < length fanins → at (labels ++ label ∷ []) m ≡ at labels m
  kept m l = get_or_append_left labels (label ∷ []) 0 m (let e = o.long in omega arith)

  here : at (labels ++ label ∷ []) (length fanins) ≡ label
  here = get_or_push labels label 0 (length fanins) o.long

  pub stands_behind : (m : ℕ) → m < length fanins → at labels m ≤ last → at (labels ++ label ∷ []) m < at (labels ++ label ∷ []) (length fanins)
  stands_behind m l h =
      let e = o.long in
      let r = o.low m (omega arith) in
      let a = kept m l in
      let b = here in
      omega arith

  -- a net has fanins only if it had them
  had : (n m : ℕ) → has_id (row (fanins ++ [] ∷ []) n) m ≡ true → has_id (row fanins n) m ≡ true
  had n m h =
      ⊎_elim
      (λ (l : n < length fanins). ap (λ ns. has_id ns m) (sym (get_or_append_left fanins ([] ∷ []) [] n l)) ∙ h)
      (λ (r : length fanins ≤ n). absurd (false≢true (ap (λ ns. has_id ns m) (sym (none n r)) ∙ h)))
      (cases_lt n (length fanins))
    where
      none : (n : ℕ) → length fanins ≤ n → row (fanins ++ [] ∷ []) n ≡ []
      none n r =
          ⊎_elim
          (λ (e : length fanins ≡ n). get_or_push fanins [] [] n e)
          (λ (no : length fanins ≡ n → ⊥). get_or_past (fanins ++ [] ∷ []) n [] (let e = length_push fanins [] in omega arith))
          (cases_eq (length fanins) n)

  reads_below : (n m : ℕ) → has_id (row fanins n) m ≡ true → n < length fanins
  reads_below n m h =
      ⊎_elim (λ (l : n < length fanins). l)
      (λ (r : length fanins ≤ n). absurd (false≢true (ap (λ ns. has_id ns m) (sym (get_or_past fanins n [] r)) ∙ h)))
      (cases_lt n (length fanins))

  -- the id of each label
  ids : (n : ℕ) → n < length fanins + 1 → ((n < length fanins) × (at (labels ++ label ∷ []) n % 2 ^ 32 ≡ at labels n % 2 ^ 32)) ⊎ ((n ≡ length fanins) × (at (labels ++ label ∷ []) n % 2 ^ 32 ≡ length fanins))
  ids n l =
      ⊎_elim
      (λ (low : n < length fanins). inl (low, ap (λ k. k % 2 ^ 32) (kept n low)))
      (λ (high : length fanins ≤ n).
      let e : n ≡ length fanins = omega arith in
      inr (e, ap (λ k. at (labels ++ label ∷ []) k % 2 ^ 32) e ∙ (ap (λ k. k % 2 ^ 32) here ∙ id_is)))
      (cases_lt n (length fanins))

  pub ordered_push : AllBelow fanins → IsOrdered (fanins ++ [] ∷ []) (labels ++ label ∷ [])
  ordered_push below = record {
    long = length_push labels label ∙ (ap (λ k. k + 1) o.long ∙ sym (length_push fanins []));
    falls = λ n m h.
        let g = had n m h in
        let f = o.falls n m g in
        let a = kept n (reads_below n m g) in
        let b = kept m (column_below fanins n m below g) in
        omega arith;
    low = λ n l.
        let p = length_push labels label in
        let e = o.long in
        ⊎_elim
        (λ y. let r = o.low n (omega arith) in let i = y.1 in omega arith)
        (λ y. let i = y.1 in omega arith)
        (ids n (omega arith));
    differ = λ n m l r e.
        let p = length_push labels label in
        let long = o.long in
        ⊎_elim
        (λ y. ⊎_elim
        (λ z. o.differ n m (let a = y.0 in omega arith) (let a = z.0 in omega arith) (sym y.1 ∙ (e ∙ z.1)))
        (λ z. let s = o.low n (let a = y.0 in omega arith) in let a = y.1 in let b = z.1 in absurd (omega arith))
        (ids m (omega arith)))
        (λ y. ⊎_elim
        (λ z. let s = o.low m (let a = z.0 in omega arith) in let a = y.1 in let b = z.1 in absurd (omega arith))
        (λ z. y.0 ∙ sym z.0)
        (ids m (omega arith)))
        (ids n (omega arith));
  }
