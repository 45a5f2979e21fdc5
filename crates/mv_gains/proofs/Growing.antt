-- Sets into which more is put, one after another.
use Rattle.std.proofs.Common.{◌≡◌, ℕ, ◌+◌, ◌<◌, ◌⊎◌, Bool, List, [], ◌∷◌, ◌++◌, length, take, get_or, Contains, inl, inr, sym, subst, Decides}
use Rattle.std.proofs.lemmas.Bool.{cases_Bool}
use Rattle.std.proofs.lemmas.List.Elements.{Contains-append_left, Contains-push}
use Rattle.std.proofs.lemmas.Map.Views.{Contains-from_any}
use Rattle.std.specs.List.{list_any}
use Rattle.indexmap.specs.IndexSet.{insert_key}
use Rattle.mv_kernels.proofs.Lists.{Contains-none, Contains-first, Contains-behind, Contains-cons_cases}
use Rattle.mv_gains.specs.Grown.{IsOneOf, Grew}
use Rattle.mv_gains.proofs.Noting.{take_more}

-- a member of a list with one more is that one or was there
pub last_cases : {X : Type 0} (xs : List X) (x y : X) → Contains (xs ++ x ∷ []) y → (x ≡ y) ⊎ Contains xs y
last_cases [] x y h = elim (Contains-cons_cases y x [] h) [ inl e ↦ inl e | inr t ↦ absurd (Contains-none y t) ]
last_cases (z ∷ zs) x y h =
    elim (Contains-cons_cases y z (zs ++ x ∷ []) h) [
      | inl e ↦ inr (subst (λ w. Contains (z ∷ zs) w) e (Contains-first z zs))
      | inr t ↦ elim (last_cases zs x y t) [ inl e ↦ inl e | inr u ↦ inr (Contains-behind y z zs u) ]
    ]

module _ {X K : Type 0} (Is : X → K → Type 0) where
  pub grew_none : (ks : List K) → Grew (IsOneOf Is []) ks ks
  grew_none ks = record { keeps = λ k h. h; each = λ k h. inl h; all = λ k h. absurd (Contains-none h.from h.there) }

  pub grew_push : (xs : List X) (x : X) (old mid new : List K) → Grew (IsOneOf Is xs) old mid → Grew (Is x) mid new → Grew (IsOneOf Is (xs ++ x ∷ [])) old new
  grew_push xs x old mid new a b = record {
    keeps = λ k h. b.keeps k (a.keeps k h);
    each = λ k h.
        elim (b.each k h) [
          | inr is ↦ inr (record { from = x; there = Contains-push xs x; is = is })
          | inl i ↦
              elim (a.each k i) [
                | inl was ↦ inl was
                | inr o ↦ inr (record { from = o.from; there = Contains-append_left xs (x ∷ []) o.from o.there; is = o.is })
              ]
        ];
    all = λ k h.
        elim (last_cases xs x h.from h.there) [
          | inl e ↦ b.all k (subst (λ y. Is y k) (sym e) h.is)
          | inr t ↦ b.keeps k (a.all k (record { from = h.from; there = t; is = h.is }))
        ];
  }

  pub grew_more : (xs : List X) (i : ℕ) (x : X) (old mid new : List K) → i < length xs → x ≡ get_or xs i x → Grew (IsOneOf Is (take i xs)) old mid → Grew (Is x) mid new → Grew (IsOneOf Is (take (i + 1) xs)) old new
  grew_more xs i x old mid new low at a b =
      subst (λ (ys : List X). Grew (IsOneOf Is ys) old new) (sym (take_more xs i x low at)) (grew_push (take i xs) x old mid new a b)

module _ {K : Type 0} where
  -- what nothing is put into
  pub grew_same : (Is : K → Type 0) (ks : List K) → ((k : K) → Is k → ⊥) → Grew Is ks ks
  grew_same Is ks none = record { keeps = λ k h. h; each = λ k h. inl h; all = λ k h. absurd (none k h) }

  -- what the one key is put into of which it holds
  pub grew_key : (Is : K → Type 0) (eq : K → K → Bool) → ((a b : K) → Decides (eq a b) (a ≡ b)) → (ks : List K) (x : K) → Is x → ((k : K) → Is k → x ≡ k) → Grew Is ks (insert_key eq ks x)
  grew_key Is eq same ks x is one =
      elim (cases_Bool (list_any (eq x) ks)) [
        | inl t ↦
            let there : Contains ks x = Contains-from_any {eq = eq} (λ a b e. (same a b).0 e) x ks t in
            rw t (record { keeps = λ k h. h; each = λ k h. inl h; all = λ k h. subst (Contains ks) (one k h) there })
        | inr f ↦
            rw f
            (record {
              keeps = λ k h. Contains-append_left ks (x ∷ []) k h;
              each = λ k h. elim (last_cases ks x k h) [ inl e ↦ inr (subst Is e is) | inr t ↦ inl t ];
              all = λ k h. subst (Contains (ks ++ x ∷ [])) (one k h) (Contains-push ks x);
            })
      ]

  -- the same said in another way
  pub grew_as : (Is As : K → Type 0) (old new : List K) → ((k : K) → Is k → As k) → ((k : K) → As k → Is k) → Grew Is old new → Grew As old new
  grew_as Is As old new f g a = record {
    keeps = a.keeps;
    each = λ k h. elim (a.each k h) [ inl i ↦ inl i | inr i ↦ inr (f k i) ];
    all = λ k h. a.all k (g k h);
  }
