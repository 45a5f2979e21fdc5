-- Cubes met: two cubes without a common symbol meet in their join.
use Rattle.std.proofs.Common.{◌≡◌, ◌∙◌, ℕ, ◌+◌, ◌≤◌, ◌<◌, ◌≢◌, true, false, nat_eq, List, [], ◌∷◌, Option, Some, None, All, Contains, inl, inr, refl, sym, ap, subst, ⊎_elim, arith}
use Rattle.std.proofs.lemmas.Bool.{cases_Bool, false≢true, or_cases, or_left, or_right, eqb-true, eq-eqb, ne_eqb}
use Rattle.std.proofs.lemmas.List.Elements.{All-head, All-tail}
use Rattle.std.proofs.lemmas.Option.{same_Some, none-some}
use Rattle.mv_base.specs.Set.{one}
use Rattle.mv_base.specs.declared.number.NetId.{NetId}
use Rattle.mv_cover.specs.Literal.{Lit}
use Rattle.mv_cover.specs.Cofactors.{cube_without}
use Rattle.mv_cover.specs.Cubes.{nets_ascend, IsCube}
use Rattle.mv_cover.specs.Equal.{lit_eq}
use Rattle.mv_cover.specs.Keys.{same_lit, lit_eq-Decides}
use Rattle.mv_cover.specs.Meets.{literal_at, both, merged, met}
use Rattle.mv_cover.proofs.Meets.{Rises, Rises-cube, ascend-Rises, Rises-merged, sets-merged, first_set, met_some}
use Rattle.mv_kernels.specs.Symbols.{has_symbol}
use Rattle.mv_kernels.specs.Order.{lit_cmp}
use Rattle.mv_kernels.proofs.Lists.{Contains-none, Contains-cons_cases, All-Contains}
use Rattle.mv_kernels.proofs.Orders.{lit_total, same_sorted, sorted_cube}
use Rattle.mv_kernels.proofs.Quotients.{symbol_in}
use Rattle.mv_divide.specs.Division.{IsApart, IsJoin}
use Rattle.mv_divide.specs.Tables.{with_one}

-- ---- a symbol of a cube is what the cube has on its net

risen : (k : ℕ) (c : List Lit) (l : Lit) → Rises k c → Contains c l → k ≤ l.net.0
risen k [] l r i = absurd (Contains-none l i)
risen k (m ∷ ms) l r i =
    let first : k ≤ m.net.0 = r.0 in
    elim (Contains-cons_cases l m ms i) [
      | inl e ↦ subst (λ (x : Lit). k ≤ x.net.0) e first
      | inr t ↦ let above = risen (m.net.0 + 1) ms l r.1 t in omega (arith, first, above)
    ]

rising_at : (k : ℕ) (c : List Lit) (l : Lit) → Rises k c → Contains c l → literal_at c l.net.0 ≡ Some l.set
rising_at k [] l r i = absurd (Contains-none l i)
rising_at k (m ∷ ms) l r i =
    elim (Contains-cons_cases l m ms i) [
      | inl e ↦ subst (λ (x : Lit). literal_at (m ∷ ms) x.net.0 ≡ Some x.set) e (first_set m ms)
      | inr t ↦
          let above = risen (m.net.0 + 1) ms l r.1 t in
          let ne : m.net.0 ≢ l.net.0 = omega (arith, above) in
          rw (ne_eqb m.net.0 l.net.0 ne) (rising_at (m.net.0 + 1) ms l r.1 t)
    ]

-- the literal with these
abbrev lit : ℕ → ℕ → Lit
lit n s = record { net = record { 0 = n }; set = s }

at_symbol : (c : List Lit) (n s : ℕ) → literal_at c n ≡ Some s → has_symbol c (lit n s) ≡ true
at_symbol [] n s e = absurd (none-some s e)
at_symbol (l ∷ ls) n s e =
    elim (cases_Bool (nat_eq l.net.0 n)) [
      | inl t ↦
          let set : l.set ≡ s = same_Some l.set s (rw t at e) in
          or_left (lit_eq l (lit n s)) (has_symbol ls (lit n s)) ((lit_eq-Decides l (lit n s)).1 (same_lit l (lit n s) (eqb-true l.net.0 n t) set))
      | inr f ↦ or_right (lit_eq l (lit n s)) (has_symbol ls (lit n s)) (at_symbol ls n s (rw f at e))
    ]

symbol_at : (c : List Lit) (n s : ℕ) → nets_ascend c ≡ true → has_symbol c (lit n s) ≡ true → literal_at c n ≡ Some s
symbol_at c n s up h = rising_at 0 c (lit n s) (Rises-cube c up) (symbol_in c (lit n s) h)

-- lists that ascend and have the same on each net are equal
same_sets : (p q : List Lit) → nets_ascend p ≡ true → nets_ascend q ≡ true → ((n : ℕ) → literal_at p n ≡ literal_at q n) → p ≡ q
same_sets p q a b e =
    same_sorted lit_cmp lit_total p q (sorted_cube p a) (sorted_cube q b)
    (All-Contains p q (λ l i. symbol_in q l (at_symbol q l.net.0 l.set (sym (e l.net.0) ∙ rising_at 0 p l (Rises-cube p a) i))))
    (All-Contains q p (λ l i. symbol_in p l (at_symbol p l.net.0 l.set (e l.net.0 ∙ rising_at 0 q l (Rises-cube q b) i))))

-- ---- the join

module _ (s d cube : List Lit) (fs : IsCube s) (fd : IsCube d) (fc : IsCube cube) (apart : IsApart s d) (join : IsJoin s d cube) where
  left_at : (n x : ℕ) → literal_at s n ≡ Some x → literal_at cube n ≡ Some x
  left_at n x e =
      symbol_at cube n x fc.ascending (join.each (lit n x) ∙ or_left (has_symbol s (lit n x)) (has_symbol d (lit n x)) (at_symbol s n x e))

  right_at : (n x : ℕ) → literal_at d n ≡ Some x → literal_at cube n ≡ Some x
  right_at n x e =
      symbol_at cube n x fc.ascending (join.each (lit n x) ∙ or_right (has_symbol s (lit n x)) (has_symbol d (lit n x)) (at_symbol d n x e))

  none_at : (n : ℕ) → literal_at s n ≡ None → literal_at d n ≡ None → literal_at cube n ≡ None
  none_at n e f = by (literal_at cube n) refl
    where
      by : (o : Option ℕ) → literal_at cube n ≡ o → literal_at cube n ≡ None
      by None g = g
      by (Some x) g =
          ⊎_elim
          (λ (h : has_symbol s (lit n x) ≡ true). absurd (none-some x (sym e ∙ symbol_at s n x fs.ascending h)))
          (λ (h : has_symbol d (lit n x) ≡ true). absurd (none-some x (sym f ∙ symbol_at d n x fd.ascending h)))
          (or_cases (has_symbol s (lit n x)) (has_symbol d (lit n x)) (sym (join.each (lit n x)) ∙ at_symbol cube n x g))

  -- no net has a literal in both
  not_both : (n x y : ℕ) → literal_at s n ≡ Some x → literal_at d n ≡ Some y → ⊥
  not_both n x y e f =
      let same : Some x ≡ Some y = sym (left_at n x e) ∙ right_at n y f in
      false≢true (sym (apart.none (lit n y) (at_symbol d n y f)) ∙ at_symbol s n y (e ∙ same))

  both_at : (n : ℕ) → literal_at cube n ≡ both (literal_at s n) (literal_at d n)
  both_at n = by (literal_at s n) (literal_at d n) refl refl
    where
      by : (o t : Option ℕ) → literal_at s n ≡ o → literal_at d n ≡ t → literal_at cube n ≡ both o t
      by None None e f = none_at n e f
      by None (Some y) e f = right_at n y f
      by (Some x) None e f = left_at n x e
      by (Some x) (Some y) e f = absurd (not_both n x y e f)

  merged_join : merged s d ≡ cube
  merged_join =
      let p = Rises-cube s fs.ascending in
      let q = Rises-cube d fd.ascending in
      same_sets (merged s d) cube (ascend-Rises 0 (merged s d) (Rises-merged 0 s d p q)) fc.ascending
      (λ n. sets-merged n 0 s d p q ∙ sym (both_at n))

  pub met_join : met s d ≡ cube ∷ []
  met_join = met_some s d cube (sym merged_join) fc.possible

-- ---- a literal on a net behind those of a cube

-- a cube over nets before n
abbrev pub IsBefore : NetId → List Lit → Type 0
IsBefore n c = All (λ (l : Lit). l.net.0 < n.0) c

module _ (n : NetId) where
  abbrev P : Lit → Type 0
  P l = l.net.0 < n.0

  apart_first : (l : Lit) (ls : List Lit) → IsBefore n (l ∷ ls) → nat_eq l.net.0 n.0 ≡ false
  apart_first l ls b = let low : l.net.0 < n.0 = All-head P l ls b in let ne : l.net.0 ≢ n.0 = omega (arith, low) in ne_eqb l.net.0 n.0 ne

  pub nothing_at : (c : List Lit) → IsBefore n c → literal_at c n.0 ≡ None
  nothing_at [] b = refl
  nothing_at (l ∷ ls) b = rw (apart_first l ls b) (nothing_at ls (All-tail P l ls b))

  pub one_at : (c : List Lit) → IsBefore n c → literal_at (with_one n c) n.0 ≡ Some (one 1)
  one_at [] b = rw (eq-eqb n.0 n.0 refl) refl
  one_at (l ∷ ls) b = rw (apart_first l ls b) (one_at ls (All-tail P l ls b))

  pub without_one : (c : List Lit) → IsBefore n c → cube_without n.0 (with_one n c) ≡ c
  without_one [] b = rw (eq-eqb n.0 n.0 refl) refl
  without_one (l ∷ ls) b = rw (apart_first l ls b) (ap (λ (xs : List Lit). l ∷ xs) (without_one ls (All-tail P l ls b)))
