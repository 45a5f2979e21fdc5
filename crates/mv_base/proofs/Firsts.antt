-- Items put in a set one by one: its keys are the first of each.
use Rattle.std.proofs.Common.{◌≡◌, ◌∙◌, Bool, true, false, not, ◌||◌, List, [], ◌∷◌, ◌++◌, filter, inl, inr, refl, sym, ap, append_assoc, append-nil}
use Rattle.std.specs.List.{list_any}
use Rattle.std.proofs.lemmas.Bool.{cases_Bool, or_left, or_right}
use Rattle.std.proofs.lemmas.List.Folds.{list_any-append}
use Rattle.indexmap.specs.IndexSet.{insert_key, insert_all}
use Rattle.mv_base.specs.Firsts.{firsts_by}

-- the item is equal to none of these
abbrev is_new : {T : Type 0} → (T → T → Bool) → List T → T → Bool
is_new eq keys y = not (list_any (eq y) keys)

-- what is equal to an item that is there isn't new
new-there : {T : Type 0} (eq : T → T → Bool) (same : (a b : T) → eq a b ≡ true → a ≡ b) (keys : List T) (x : T) (ys : List T) → list_any (eq x) keys ≡ true → filter (is_new eq keys) (filter (λ (y : T). not (eq y x)) ys) ≡ filter (is_new eq keys) ys
new-there eq same keys x [] there = refl
new-there eq same keys x (y ∷ ys) there =
    let ih = new-there eq same keys x ys there in
    elim (cases_Bool (eq y x)) [
      | inl t ↦
          let known : list_any (eq y) keys ≡ true = ap (λ z. list_any (eq z) keys) (same y x t) ∙ there in
          rw t (rw known ih)
      | inr f ↦
          elim (cases_Bool (list_any (eq y) keys)) [
            | inl t ↦ rw f (rw t ih)
            | inr g ↦ rw f (rw g (ap (λ zs. y ∷ zs) ih))
          ]
    ]

or_false : (x y : Bool) → y ≡ false → (x || y) ≡ x
or_false true y e = refl
or_false false y e = e

-- an item that comes to the keys takes its equals out
new-more : {T : Type 0} (eq : T → T → Bool) (keys : List T) (x : T) (ys : List T) → filter (is_new eq (keys ++ x ∷ [])) ys ≡ filter (is_new eq keys) (filter (λ (y : T). not (eq y x)) ys)
new-more eq keys x [] = refl
new-more eq keys x (y ∷ ys) =
    let ih = new-more eq keys x ys in
    let both = list_any-append (eq y) keys (x ∷ []) in
    elim (cases_Bool (eq y x)) [
      | inl t ↦
          let known : list_any (eq y) (keys ++ x ∷ []) ≡ true = both ∙ or_right (list_any (eq y) keys) (list_any (eq y) (x ∷ [])) (or_left (eq y x) false t) in
          rw t (rw known ih)
      | inr f ↦
          let other : list_any (eq y) (keys ++ x ∷ []) ≡ list_any (eq y) keys = both ∙ or_false (list_any (eq y) keys) (eq y x || false) (rw f refl) in
          elim (cases_Bool (list_any (eq y) keys)) [
            | inl t ↦ rw f (rw other (rw t ih))
            | inr g ↦ rw f (rw other (rw g (ap (λ zs. y ∷ zs) ih)))
          ]
    ]

-- the keys with one item more, and the new ones of the rest
insert-new : {T : Type 0} (eq : T → T → Bool) (same : (a b : T) → eq a b ≡ true → a ≡ b) (keys : List T) (x : T) (rest : List T) → insert_key eq keys x ++ filter (is_new eq (insert_key eq keys x)) (firsts_by eq rest) ≡ keys ++ filter (is_new eq keys) (firsts_by eq (x ∷ rest))
insert-new eq same keys x rest =
    elim (cases_Bool (list_any (eq x) keys)) [
      | inl t ↦ rw t (ap (λ zs. keys ++ zs) (sym (new-there eq same keys x (firsts_by eq rest) t)))
      | inr f ↦
          rw f (append_assoc keys (x ∷ []) (filter (is_new eq (keys ++ x ∷ [])) (firsts_by eq rest))
          ∙ ap (λ zs. keys ++ (x ∷ zs)) (new-more eq keys x (firsts_by eq rest)))
    ]

-- all is new to no keys
all-new : {T : Type 0} (eq : T → T → Bool) (ys : List T) → filter (is_new eq []) ys ≡ ys
all-new eq [] = refl
all-new eq (x ∷ ys) = ap (λ zs. x ∷ zs) (all-new eq ys)

-- items put in a set one by one are its keys, then the new ones of the first of each
inserted : {T : Type 0} (eq : T → T → Bool) (same : (a b : T) → eq a b ≡ true → a ≡ b) (keys ys : List T) → insert_all eq keys ys ≡ keys ++ filter (is_new eq keys) (firsts_by eq ys)
inserted eq same keys [] = sym (append-nil keys)
inserted eq same keys (x ∷ ys) = inserted eq same (insert_key eq keys x) ys ∙ insert-new eq same keys x ys

-- the keys of a set are the first of each of the items put in it
pub keys-firsts : {T : Type 0} (eq : T → T → Bool) (same : (a b : T) → eq a b ≡ true → a ≡ b) (ys : List T) → insert_all eq [] ys ≡ firsts_by eq ys
keys-firsts eq same ys = inserted eq same [] ys ∙ all-new eq (firsts_by eq ys)
