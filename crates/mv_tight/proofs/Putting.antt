-- Values put into the literal of a cube on one net.
use Rattle.std.proofs.Common.{◌≡◌, ◌⊎◌, ◌∙◌, ℕ, ◌+◌, ◌<◌, ◌≤◌, Bool, true, false, not, ◌&&◌, ◌||◌, nat_eq, cond, List, [], ◌∷◌, ◌++◌, length, get_or, drop, drop-cons, append_assoc, add-one, All, refl, sym, ap, subst, inl, inr, ⊎_elim, arith}
use Rattle.std.specs.List.{list_all}
use Rattle.std.proofs.lemmas.Bool.{cases_Bool, false≢true, or_cases, or_left, or_right, and_parts, and_from, eqb-true, not-true, not_from_false, false_from_ne_true}
use Rattle.std.proofs.lemmas.List.{append-nil, drop_all}
use Rattle.std.proofs.lemmas.List.Elements.{All-append, All-cons, All-head, All-nil, All-tail}
use Rattle.std.proofs.lemmas.List.Folds.{list_all-append}
use Rattle.mv_base.specs.Set.{has, join, empty}
use Rattle.mv_base.proofs.Sets.{has-empty, has-join}
use Rattle.mv_cover.specs.Literal.{Lit}
use Rattle.mv_cover.specs.Cubes.{holds, matches, IsCube}
use Rattle.mv_cover.proofs.Meets.{Rises, Rises-cube, ascend-Rises}
use Rattle.mv_cover.proofs.Members.{member_of}
use Rattle.mv_flex.specs.Flex.{literals_beside}
use Rattle.mv_tight.specs.Growing.{joined, grown_on, put_in}
use Rattle.mv_tight.specs.Tight.{AreSome, IsGrownLiteral}

-- ---- a literal

pub record IsOther (m values all : ℕ) (l : Lit) : Type 0 where
  pub apart : nat_eq l.net.0 m ≡ false
  pub is : grown_on m values all l ≡ l ∷ []

pub record IsGone (m values all : ℕ) (l : Lit) : Type 0 where
  pub here : nat_eq l.net.0 m ≡ true
  pub whole : join l.set values ≡ all
  pub is : grown_on m values all l ≡ []

pub record IsMore (m values all : ℕ) (l : Lit) : Type 0 where
  pub here : nat_eq l.net.0 m ≡ true
  pub lacks : nat_eq (join l.set values) all ≡ false
  pub is : grown_on m values all l ≡ joined values l ∷ []

pub on_cases : (m values all : ℕ) (l : Lit) → IsOther m values all l ⊎ (IsGone m values all l ⊎ IsMore m values all l)
on_cases m values all l =
    ⊎_elim
    (λ (y : nat_eq l.net.0 m ≡ true).
    let here : grown_on m values all l ≡ cond (nat_eq (join l.set values) all) [] (joined values l ∷ []) =
    λ i. cond (y i) (cond (nat_eq (join l.set values) all) [] (joined values l ∷ [])) (l ∷ []) in
    inr
    (⊎_elim
    (λ (e : nat_eq (join l.set values) all ≡ true).
    inl (record { here = y; whole = eqb-true (join l.set values) all e; is = here ∙ (λ i. cond (e i) [] (joined values l ∷ [])) }))
    (λ (o : nat_eq (join l.set values) all ≡ false). inr (record { here = y; lacks = o; is = here ∙ (λ i. cond (o i) [] (joined values l ∷ [])) }))
    (cases_Bool (nat_eq (join l.set values) all))))
    (λ (f : nat_eq l.net.0 m ≡ false).
    inl (record { apart = f; is = λ i. cond (f i) (cond (nat_eq (join l.set values) all) [] (joined values l ∷ [])) (l ∷ []) }))
    (cases_Bool (nat_eq l.net.0 m))

joined_has : (values u : ℕ) (l : Lit) → has l.set u ≡ true → has (joined values l).set u ≡ true
joined_has values u l h = has-join l.set values u ∙ or_left (has l.set u) (has values u) h

pub some_in : (s v : ℕ) → has s v ≡ true → nat_eq s empty ≡ false
some_in s v h = false_from_ne_true (nat_eq s empty) (λ e. false≢true (sym (has-empty v) ∙ ap (λ k. has k v) (sym (eqb-true s empty e)) ∙ h))

-- ---- a cube

module _ (m values all : ℕ) where
  -- what holds of the literals
  pub all_put : (P Q : Lit → Type 0) → ((l : Lit) → P l → nat_eq l.net.0 m ≡ false → Q l) → ((l : Lit) → P l → nat_eq l.net.0 m ≡ true → nat_eq (join l.set values) all ≡ false → Q (joined values l)) → (c : List Lit) → All P c → All Q (put_in m values all c)
  all_put P Q other more [] p = All-nil Q
  all_put P Q other more (l ∷ ls) p =
      All-append Q (grown_on m values all l) (put_in m values all ls)
      (⊎_elim
      (λ (o : IsOther m values all l). subst (All Q) (sym o.is) (All-cons Q l [] (other l (All-head P l ls p) o.apart) (All-nil Q)))
      (λ (here : IsGone m values all l ⊎ IsMore m values all l).
      ⊎_elim
      (λ (g : IsGone m values all l). subst (All Q) (sym g.is) (All-nil Q))
      (λ (g : IsMore m values all l). subst (All Q) (sym g.is) (All-cons Q (joined values l) [] (more l (All-head P l ls p) g.here g.lacks) (All-nil Q)))
      here)
      (on_cases m values all l))
      (all_put P Q other more ls (All-tail P l ls p))

  -- a test that growing keeps
  pub test_put : (p : Lit → Bool) → ((l : Lit) → p l ≡ true → p (joined values l) ≡ true) → (c : List Lit) → list_all p c ≡ true → list_all p (put_in m values all c) ≡ true
  test_put p up [] h = refl
  test_put p up (l ∷ ls) h =
      let both = and_parts (p l) (list_all p ls) h in
      list_all-append p (grown_on m values all l) (put_in m values all ls)
      ∙ and_from (list_all p (grown_on m values all l)) (list_all p (put_in m values all ls))
      (⊎_elim
      (λ (o : IsOther m values all l). ap (list_all p) o.is ∙ and_from (p l) true both.0 refl)
      (λ (here : IsGone m values all l ⊎ IsMore m values all l).
      ⊎_elim
      (λ (g : IsGone m values all l). ap (list_all p) g.is)
      (λ (g : IsMore m values all l). ap (list_all p) g.is ∙ and_from (p (joined values l)) true (up l both.0) refl)
      here)
      (on_cases m values all l))
      (test_put p up ls both.1)

  lower : (h k : ℕ) (c : List Lit) → h ≤ k → Rises k c → Rises h c
  lower h k [] low r = tt
  lower h k (l ∷ ls) low r = (omega (arith, low, r.0), r.1)

  rises : (k : ℕ) (c : List Lit) → Rises k c → Rises k (put_in m values all c)
  rises k [] r = tt
  rises k (l ∷ ls) r =
      ⊎_elim
      (λ (o : IsOther m values all l). subst (λ c. Rises k (c ++ put_in m values all ls)) (sym o.is) (r.0, rises (l.net.0 + 1) ls r.1))
      (λ (here : IsGone m values all l ⊎ IsMore m values all l).
      ⊎_elim
      (λ (g : IsGone m values all l).
      subst (λ c. Rises k (c ++ put_in m values all ls)) (sym g.is) (lower k (l.net.0 + 1) (put_in m values all ls) (omega (arith, r.0)) (rises (l.net.0 + 1) ls r.1)))
      (λ (g : IsMore m values all l). subst (λ c. Rises k (c ++ put_in m values all ls)) (sym g.is) (r.0, rises (l.net.0 + 1) ls r.1))
      here)
      (on_cases m values all l)

  still_some : (l : Lit) → not (nat_eq l.set empty) ≡ true → not (nat_eq (joined values l).set empty) ≡ true
  still_some l h =
      let v = member_of l.set (not-true (nat_eq l.set empty) h) in
      not_from_false (nat_eq (joined values l).set empty) (some_in (joined values l).set v.0 (joined_has values v.0 l v.1))

  pub put_cube : (c : List Lit) → IsCube c → IsCube (put_in m values all c)
  put_cube c is = record {
    ascending = ascend-Rises 0 (put_in m values all c) (rises 0 c (Rises-cube c is.ascending));
    possible = test_put (λ (l : Lit). not (nat_eq l.set empty)) still_some c is.possible;
  }

  -- each literal of the cube has become what stands there, or is gone
  skip : (l : Lit) (ls ms : List Lit) → AreSome IsGrownLiteral ls ms → AreSome IsGrownLiteral (l ∷ ls) ms
  skip l ls [] a = tt
  skip l ls (k ∷ ks) a = inr a

  pub some_put : (c : List Lit) → AreSome IsGrownLiteral c (put_in m values all c)
  some_put [] = tt
  some_put (l ∷ ls) =
      ⊎_elim
      (λ (o : IsOther m values all l).
      subst (λ c. AreSome IsGrownLiteral (l ∷ ls) (c ++ put_in m values all ls)) (sym o.is) (inl (record { net = refl; more = λ v h. h }, some_put ls)))
      (λ (here : IsGone m values all l ⊎ IsMore m values all l).
      ⊎_elim
      (λ (g : IsGone m values all l).
      subst (λ c. AreSome IsGrownLiteral (l ∷ ls) (c ++ put_in m values all ls)) (sym g.is) (skip l ls (put_in m values all ls) (some_put ls)))
      (λ (g : IsMore m values all l).
      subst (λ c. AreSome IsGrownLiteral (l ∷ ls) (c ++ put_in m values all ls)) (sym g.is)
      (inl (record { net = refl; more = λ v h. joined_has values v l h }, some_put ls)))
      here)
      (on_cases m values all l)

  -- ---- assignments

  -- the literals but those on a net hold
  abbrev pub beside : ℕ → (ℕ → ℕ) → Lit → Bool
  beside k at l = nat_eq l.net.0 k || holds at l

  -- a literal that has grown holds, so the net has one of the new values, or the literal held before
  literal_down : (at : ℕ → ℕ) (l : Lit) → has all (at m) ≡ true → matches at (grown_on m values all l) ≡ true → (beside m at l ≡ true) × ((has values (at m) ≡ true) ⊎ (holds at l ≡ true))
  literal_down at l whole h =
      ⊎_elim
      (λ (o : IsOther m values all l).
      let y = (and_parts (holds at l) true (sym (ap (matches at) o.is) ∙ h)).0 in (or_right (nat_eq l.net.0 m) (holds at l) y, inr y))
      (λ (here : IsGone m values all l ⊎ IsMore m values all l).
      ⊎_elim
      (λ (g : IsGone m values all l). (or_left (nat_eq l.net.0 m) (holds at l) g.here, one_of (eqb-true l.net.0 m g.here) (ap (λ s. has s (at m)) g.whole ∙ whole)))
      (λ (g : IsMore m values all l).
      let y = (and_parts (holds at (joined values l)) true (sym (ap (matches at) g.is) ∙ h)).0 in
      (or_left (nat_eq l.net.0 m) (holds at l) g.here, one_of (eqb-true l.net.0 m g.here) (ap (λ k. has (join l.set values) (at k)) (sym (eqb-true l.net.0 m g.here)) ∙ y)))
      here)
      (on_cases m values all l)
    where
      one_of : l.net.0 ≡ m → has (join l.set values) (at m) ≡ true → (has values (at m) ≡ true) ⊎ (holds at l ≡ true)
      one_of e y =
          ⊎_elim
          (λ (a : has l.set (at m) ≡ true). inr (ap (λ k. has l.set (at k)) e ∙ a))
          (λ (b : has values (at m) ≡ true). inl b)
          (or_cases (has l.set (at m)) (has values (at m)) (sym (has-join l.set values (at m)) ∙ y))

  pub down : (at : ℕ → ℕ) (c : List Lit) → has all (at m) ≡ true → matches at (put_in m values all c) ≡ true → (list_all (beside m at) c ≡ true) × ((has values (at m) ≡ true) ⊎ (matches at c ≡ true))
  down at [] whole h = (refl, inr refl)
  down at (l ∷ ls) whole h =
      let both =
      and_parts (matches at (grown_on m values all l)) (matches at (put_in m values all ls)) (sym (list_all-append (holds at) (grown_on m values all l) (put_in m values all ls)) ∙ h) in
      let first = literal_down at l whole both.0 in
      let rest = down at ls whole both.1 in (
        and_from (beside m at l) (list_all (beside m at) ls) first.0 rest.0,
        ⊎_elim
            (λ (a : has values (at m) ≡ true). inl a)
            (λ (b : holds at l ≡ true).
            ⊎_elim (λ (a : has values (at m) ≡ true). inl a) (λ (d : matches at ls ≡ true). inr (and_from (holds at l) (matches at ls) b d)) rest.1)
            first.1,
      )

  -- what holds beside a net still does
  pub up : (k : ℕ) (at : ℕ → ℕ) (c : List Lit) → list_all (beside k at) c ≡ true → list_all (beside k at) (put_in m values all c) ≡ true
  up k at c h =
      test_put (beside k at) (λ l y.
      ⊎_elim
      (λ (e : nat_eq l.net.0 k ≡ true). or_left (nat_eq l.net.0 k) (holds at (joined values l)) e)
      (λ (a : holds at l ≡ true). or_right (nat_eq l.net.0 k) (holds at (joined values l)) (joined_has values (at l.net.0) l a))
      (or_cases (nat_eq l.net.0 k) (holds at l) y)) c h

  -- one literal more
  pub put_more : (lits ls new whole : List Lit) (i : ℕ) (l : Lit) → i < length lits → l ≡ get_or lits i l → ls ++ put_in m values all (drop i lits) ≡ whole → new ≡ ls ++ grown_on m values all l → new ++ put_in m values all (drop (i + 1) lits) ≡ whole
  put_more lits ls new whole i l low is before e =
      ap (λ k. k ++ put_in m values all (drop (i + 1) lits)) e
      ∙ append_assoc ls (grown_on m values all l) (put_in m values all (drop (i + 1) lits))
      ∙ ap (λ k. ls ++ k) (sym next)
      ∙ before
    where
      next : put_in m values all (drop i lits) ≡ grown_on m values all l ++ put_in m values all (drop (i + 1) lits)
      next =
          ap (put_in m values all) (drop-cons lits i l low)
          ∙ (λ j. grown_on m values all (sym is j) ++ put_in m values all (drop (sym (add-one i) j) lits))

  -- no literal more
  pub put_done : (lits ls : List Lit) (i : ℕ) → length lits ≤ i → ls ++ put_in m values all (drop i lits) ≡ put_in m values all lits → ls ≡ put_in m values all lits
  put_done lits ls i past e = sym (append-nil ls) ∙ ap (λ k. ls ++ put_in m values all k) (sym (drop_all i lits past)) ∙ e

  pub done_cube : (lits ls : List Lit) (i : ℕ) → length lits ≤ i → ls ++ put_in m values all (drop i lits) ≡ put_in m values all lits → IsCube lits → IsCube ls
  done_cube lits ls i past e is = subst IsCube (sym (put_done lits ls i past e)) (put_cube lits is)

-- the literals beside a net, as a test
pub beside_all : (k : ℕ) (at : ℕ → ℕ) (c : List Lit) → matches at (literals_beside k c) ≡ list_all (λ (l : Lit). nat_eq l.net.0 k || holds at l) c
beside_all k at [] = refl
beside_all k at (l ∷ ls) =
    ⊎_elim
    (λ (y : nat_eq l.net.0 k ≡ true).
    (λ i. matches at (cond (not (y i)) (l ∷ literals_beside k ls) (literals_beside k ls))) ∙ beside_all k at ls
    ∙ sym (λ i. (y i || holds at l) && list_all (λ (j : Lit). nat_eq j.net.0 k || holds at j) ls))
    (λ (f : nat_eq l.net.0 k ≡ false).
    (λ i. matches at (cond (not (f i)) (l ∷ literals_beside k ls) (literals_beside k ls))) ∙ ap (λ b. holds at l && b) (beside_all k at ls)
    ∙ sym (λ i. (f i || holds at l) && list_all (λ (j : Lit). nat_eq j.net.0 k || holds at j) ls))
    (cases_Bool (nat_eq l.net.0 k))
