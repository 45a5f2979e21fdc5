-- Members of lists joined end to end, and lists of lines of which no two are equal.
use Rattle.std.proofs.Common.{◌≡◌, ◌∙◌, Bool, true, not, List, [], ◌∷◌, ◌++◌, All, Contains, inl, inr, sym, subst, ⊎_elim}
use Rattle.std.specs.Cmp.{IsEquivalence}
use Rattle.std.specs.List.{list_any, flat_map, IsDistinct}
use Rattle.std.proofs.lemmas.Bool.{cases_Bool, false≢true, and_parts, and_from, not-true, not_from_false, false_from_ne_true}
use Rattle.std.proofs.lemmas.List.Elements.{All-weaker, All-contains_itself, Contains-append_left, Contains-append_right, Contains-append_cases}
use Rattle.std.proofs.lemmas.Map.Keys.{IsDistinct-push}
use Rattle.std.proofs.lemmas.Map.Views.{Contains-from_any, list_any-from_Contains}
use Rattle.indexmap.specs.IndexSet.{insert_key, insert_all}
use Rattle.mv_cover.specs.Equal.{line_eq}
use Rattle.mv_cover.specs.Keys.{line_eq-Decides, line_eq-equiv}
use Rattle.mv_cover.specs.Lines.{lines_differ}
use Rattle.mv_cover.specs.declared.line.Line.{Line}
use Rattle.mv_kernels.proofs.Lists.{Contains-none, Contains-first, Contains-behind, Contains-cons_cases}

pub each_of : {X : Type 0} (P : X → Type 0) (xs : List X) → ((x : X) → Contains xs x → P x) → All P xs
each_of P xs f = All-weaker (Contains xs) P f xs (All-contains_itself xs)

-- a member of a list of one
pub only_one : {X : Type 0} (x y : X) → Contains (x ∷ []) y → x ≡ y
only_one x y i =
    elim (Contains-cons_cases y x [] i) [
      | inl e ↦ e
      | inr t ↦ absurd (Contains-none y t)
    ]

-- ---- lists joined end to end

module _ {X Y : Type 0} (f : X → List Y) where
  pub Contains-flat_map : (xs : List X) (x : X) (y : Y) → Contains xs x → Contains (f x) y → Contains (flat_map f xs) y
  Contains-flat_map [] x y i j = absurd (Contains-none x i)
  Contains-flat_map (z ∷ zs) x y i j =
      elim (Contains-cons_cases x z zs i) [
        | inl e ↦ Contains-append_left (f z) (flat_map f zs) y (subst (λ (w : X). Contains (f w) y) (sym e) j)
        | inr t ↦ Contains-append_right (f z) (flat_map f zs) y (Contains-flat_map zs x y t j)
      ]

  -- where a member of the joined list comes from
  pub Contains-from_flat_map : (xs : List X) (y : Y) → Contains (flat_map f xs) y → (x : X) × Contains xs x × Contains (f x) y
  Contains-from_flat_map [] y i = absurd (Contains-none y i)
  Contains-from_flat_map (x ∷ xs) y i =
      elim (Contains-append_cases (f x) (flat_map f xs) y i) [
        | inl t ↦ (x, Contains-first x xs, t)
        | inr t ↦ let r = Contains-from_flat_map xs y t in (r.0, Contains-behind r.0 x xs r.1, r.2)
      ]

-- ---- lines

pub line_in : (ls : List Line) (l : Line) → list_any (line_eq l) ls ≡ true → Contains ls l
line_in ls l h = Contains-from_any {eq = line_eq} (λ x y e. (line_eq-Decides x y).0 e) l ls h

pub in_line : (ls : List Line) (l : Line) → Contains ls l → list_any (line_eq l) ls ≡ true
in_line ls l i = list_any-from_Contains {eq = line_eq} line_eq-equiv l ls i

-- two lists with the same members answer alike
pub same_answer : (a b : List Line) (l : Line) → (Contains a l → Contains b l) → (Contains b l → Contains a l) → list_any (line_eq l) a ≡ list_any (line_eq l) b
same_answer a b l f g =
    elim (cases_Bool (list_any (line_eq l) a)) [
      | inl t ↦ t ∙ sym (in_line b l (f (line_in a l t)))
      | inr n ↦ n ∙ sym (false_from_ne_true (list_any (line_eq l) b) (λ t. false≢true (sym n ∙ in_line a l (g (line_in b l t)))))
    ]

pub differ-cons : (l : Line) (ls : List Line) → (Contains ls l → ⊥) → lines_differ ls ≡ true → lines_differ (l ∷ ls) ≡ true
differ-cons l ls apart d =
    and_from (not (list_any (line_eq l) ls)) (lines_differ ls)
    (not_from_false (list_any (line_eq l) ls) (false_from_ne_true (list_any (line_eq l) ls) (λ t. apart (line_in ls l t)))) d

pub differ-append : (a b : List Line) → lines_differ a ≡ true → lines_differ b ≡ true → ((l : Line) → Contains a l → Contains b l → ⊥) → lines_differ (a ++ b) ≡ true
differ-append [] b d e apart = e
differ-append (l ∷ ls) b d e apart =
    let p = and_parts (not (list_any (line_eq l) ls)) (lines_differ ls) d in
    differ-cons l (ls ++ b)
    (λ i.
    ⊎_elim
    (λ (t : Contains ls l). false≢true (sym (not-true (list_any (line_eq l) ls) p.0) ∙ in_line ls l t))
    (λ (t : Contains b l). apart l (Contains-first l ls) t)
    (Contains-append_cases ls b l i))
    (differ-append ls b p.1 e (λ m i j. apart m (Contains-behind m l ls i) j))

-- ---- a set that lists were put into

module _ {K : Type 0} (eq : K → K → Bool) (laws : IsEquivalence eq) where
  insert_key-distinct : (ks : List K) (k : K) → IsDistinct eq ks → IsDistinct eq (insert_key eq ks k)
  insert_key-distinct ks k d =
      elim (cases_Bool (list_any (eq k) ks)) [
        | inl t ↦ rw t d
        | inr f ↦ rw f (IsDistinct-push laws ks k d f)
      ]

  pub insert_all-distinct : (ks xs : List K) → IsDistinct eq ks → IsDistinct eq (insert_all eq ks xs)
  insert_all-distinct ks [] d = d
  insert_all-distinct ks (x ∷ xs) d = insert_all-distinct (insert_key eq ks x) xs (insert_key-distinct ks x d)
