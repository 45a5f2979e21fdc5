-- Lists of literals that ascend: what is on a net, and what two of them have once merged.
use Rattle.std.proofs.Common.{◌≡◌, ◌∙◌, ℕ, suc, ◌+◌, ◌≤◌, ◌<◌, ◌≢◌, Bool, true, false, not, ◌&&◌, ◌⊎◌, List, [], ◌∷◌, ◌++◌, length, drop, nat_eq, nat_lt, inl, inr, refl, sym, ap, subst, arith, get_or, drop-cons, drop-drop, append_assoc, append-nil, take, ◌-◌, Some, None}
use Rattle.std.specs.List.{list_all}
use Rattle.std.proofs.Math.Bool.{and-false}
use Rattle.std.proofs.lemmas.Bool.{cases_Bool, false≢true, and_parts, and_from, ltb-true, eq-eqb, ne_eqb}
use Rattle.std.proofs.lemmas.Bool.Decides.{leb_tells, Decides-ltb}
use Rattle.std.proofs.lemmas.List.{drop_all, take_rest}
use Rattle.mv_base.specs.Set.{has, meet, empty}
use Rattle.mv_base.proofs.Sets.{has-meet, has-empty}
use Rattle.mv_cover.specs.Literal.{Lit}
use Rattle.mv_cover.specs.declared.meet.Step.{Step}
use Rattle.mv_cover.specs.Cubes.{holds, matches, nets_ascend, IsCube}
use Rattle.mv_cover.specs.Meets.{literal_at, both, IsMet, next_of, put_in, merged, met}
use Rattle.mv_cover.proofs.Covering.{regroup, swap, same_number}

-- the nets ascend from k on
abbrev pub Rises : ℕ → List Lit → Type 0
Rises k [] = Unit {0}
Rises k (l ∷ ls) = (k ≤ l.net.0) × Rises (l.net.0 + 1) ls

-- a list that ascends does so from its first net on, from 0 on, and the other way round
pub Rises-from : (k : ℕ) (l : Lit) (ls : List Lit) → k ≤ l.net.0 → nets_ascend (l ∷ ls) ≡ true → Rises k (l ∷ ls)
Rises-from k l [] low h = (low, tt)
Rises-from k l (m ∷ ms) low h =
    let p = and_parts (nat_lt l.net.0 m.net.0) (nets_ascend (m ∷ ms)) h in
    let below : l.net.0 < m.net.0 = ltb-true l.net.0 m.net.0 p.0 in
    (low, Rises-from (l.net.0 + 1) m ms (omega arith) p.1)

pub Rises-cube : (c : List Lit) → nets_ascend c ≡ true → Rises 0 c
Rises-cube [] h = tt
Rises-cube (l ∷ ls) h = Rises-from 0 l ls (omega arith) h

pub ascend-Rises : (k : ℕ) (c : List Lit) → Rises k c → nets_ascend c ≡ true
ascend-Rises k [] r = refl
ascend-Rises k (l ∷ []) r = refl
ascend-Rises k (l ∷ m ∷ ms) r =
    let above : l.net.0 + 1 ≤ m.net.0 = r.1.0 in
    and_from (nat_lt l.net.0 m.net.0) (nets_ascend (m ∷ ms)) ((Decides-ltb l.net.0 m.net.0).1 (omega arith)) (ascend-Rises (l.net.0 + 1) (m ∷ ms) r.1)

-- a number is less than another, or isn't
pub order : (a b : ℕ) → ((nat_lt a b ≡ true) × (a < b)) ⊎ ((nat_lt a b ≡ false) × (b ≤ a))
order a b =
    elim (leb_tells (suc a) b) [
      | inl y ↦ inl (y.0, y.1)
      | inr n ↦ let above : b < suc a = n.1 in inr (n.0, omega arith)
    ]

-- two of each, by twos of another kind
four : (x y p q r s : Bool) → x ≡ (p && q) → y ≡ (r && s) → (x && y) ≡ ((p && r) && (q && s))
four x y true true r s e f = rw e f
four x y true false true s e f = rw e refl
four x y true false false s e f = rw e refl
four x y false q r s e f = rw e refl

-- a literal put in holds beside the rest
matches-put_in : (at : ℕ → ℕ) (l : Lit) (ls : List Lit) → ((c : List Lit) → matches at (merged ls c) ≡ (matches at ls && matches at c)) → (b : List Lit) → matches at (put_in l (λ c. merged ls c) b) ≡ (matches at (l ∷ ls) && matches at b)
unfolding put_in
matches-put_in at l ls rest [] = regroup (holds at l) (matches at ls) true (matches at (merged ls [])) (rest [])
matches-put_in at l ls rest (m ∷ ms) =
    elim (order l.net.0 m.net.0) [
      | inl y ↦ rw y.0 (regroup (holds at l) (matches at ls) (matches at (m ∷ ms)) (matches at (merged ls (m ∷ ms))) (rest (m ∷ ms)))
      | inr n ↦
          elim (order m.net.0 l.net.0) [
            | inl y ↦ rw n.0 (rw y.0 (swap (holds at m) (matches at (l ∷ ls)) (matches at ms) (matches at (put_in l (λ c. merged ls c) ms)) (matches-put_in at l ls rest ms)))
            | inr o ↦
                let above : m.net.0 ≤ l.net.0 = n.1 in
                let below : l.net.0 ≤ m.net.0 = o.1 in
                let same : l.net.0 ≡ m.net.0 = omega arith in
                let here : has (meet l.set m.set) (at l.net.0) ≡ (has l.set (at l.net.0) && has m.set (at m.net.0)) = has-meet l.set m.set (at l.net.0) ∙ ap (λ k. has l.set (at l.net.0) && has m.set (at k)) same in
                rw n.0 (rw o.0 (four (has (meet l.set m.set) (at l.net.0)) (matches at (merged ls ms)) (holds at l) (holds at m) (matches at ls) (matches at ms) here (rest ms)))
          ]
    ]

-- the merged list holds where both hold
pub matches-merged : (at : ℕ → ℕ) (a b : List Lit) → matches at (merged a b) ≡ (matches at a && matches at b)
unfolding merged
matches-merged at [] b = refl
matches-merged at (l ∷ ls) b = matches-put_in at l ls (λ c. matches-merged at ls c) b

-- a literal put in leaves the list ascending
Rises-put_in : (k : ℕ) (l : Lit) (ls : List Lit) → ((h : ℕ) (c : List Lit) → Rises h ls → Rises h c → Rises h (merged ls c)) → (b : List Lit) → Rises k (l ∷ ls) → Rises k b → Rises k (put_in l (λ c. merged ls c) b)
unfolding put_in
Rises-put_in k l ls rest [] p q = (p.0, rest (l.net.0 + 1) [] p.1 tt)
Rises-put_in k l ls rest (m ∷ ms) p q =
    elim (order l.net.0 m.net.0) [
      | inl y ↦ let low : l.net.0 < m.net.0 = y.1 in rw y.0 (p.0, rest (l.net.0 + 1) (m ∷ ms) p.1 (omega arith, q.1))
      | inr n ↦
          elim (order m.net.0 l.net.0) [
            | inl y ↦ let low : m.net.0 < l.net.0 = y.1 in rw n.0 (rw y.0 (q.0, Rises-put_in (m.net.0 + 1) l ls rest ms (omega arith, p.1) q.1))
            | inr o ↦
                let above : m.net.0 ≤ l.net.0 = n.1 in
                let below : l.net.0 ≤ m.net.0 = o.1 in
                let same : m.net.0 ≡ l.net.0 = omega arith in
                rw n.0 (rw o.0 (p.0, rest (l.net.0 + 1) ms p.1 (rw same at q.1)))
          ]
    ]

-- the merged list ascends
pub Rises-merged : (k : ℕ) (a b : List Lit) → Rises k a → Rises k b → Rises k (merged a b)
unfolding merged
Rises-merged k [] b p q = q
Rises-merged k (l ∷ ls) b p q = Rises-put_in k l ls (λ h c. Rises-merged h ls c) b p q

-- a list that ascends from k on has nothing on a net below k
pub nothing_below : (k n : ℕ) (c : List Lit) → Rises k c → n < k → literal_at c n ≡ None
nothing_below k n [] r low = refl
nothing_below k n (l ∷ ls) r low =
    let above : k ≤ l.net.0 = r.0 in
    let ne : l.net.0 ≢ n = omega arith in
    rw (ne_eqb l.net.0 n ne) (nothing_below (l.net.0 + 1) n ls r.1 (omega arith))

-- on each net a list with a literal put in has what both have there
sets-put_in : (n k : ℕ) (l : Lit) (ls : List Lit) → ((h : ℕ) (c : List Lit) → Rises h ls → Rises h c → literal_at (merged ls c) n ≡ both (literal_at ls n) (literal_at c n)) → (b : List Lit) → Rises k (l ∷ ls) → Rises k b → literal_at (put_in l (λ c. merged ls c) b) n ≡ both (literal_at (l ∷ ls) n) (literal_at b n)
unfolding put_in
sets-put_in n k l ls rest [] p q =
    elim (cases_Bool (nat_eq l.net.0 n)) [
      | inl t ↦ rw t refl
      | inr f ↦ rw f (rest (l.net.0 + 1) [] p.1 tt)
    ]
sets-put_in n k l ls rest (m ∷ ms) p q =
    elim (order l.net.0 m.net.0) [
      | inl y ↦
          let low : l.net.0 < m.net.0 = y.1 in
          let right : Rises (l.net.0 + 1) (m ∷ ms) = (omega arith, q.1) in
          rw y.0
          (elim (cases_Bool (nat_eq l.net.0 n)) [
            | inl t ↦
                let here : l.net.0 ≡ n = same_number l.net.0 n t in
                rw t (ap (both (Some l.set)) (sym (nothing_below (l.net.0 + 1) n (m ∷ ms) right (omega arith))))
            | inr f ↦ rw f (rest (l.net.0 + 1) (m ∷ ms) p.1 right)
          ])
      | inr g ↦
          elim (order m.net.0 l.net.0) [
            | inl y ↦
                let low : m.net.0 < l.net.0 = y.1 in
                let left : Rises (m.net.0 + 1) (l ∷ ls) = (omega arith, p.1) in
                rw g.0
                (rw y.0
                (elim (cases_Bool (nat_eq m.net.0 n)) [
                  | inl t ↦
                      let here : m.net.0 ≡ n = same_number m.net.0 n t in
                      rw t (ap (λ s. both s (Some m.set)) (sym (nothing_below (m.net.0 + 1) n (l ∷ ls) left (omega arith))))
                  | inr f ↦ rw f (sets-put_in n (m.net.0 + 1) l ls rest ms left q.1)
                ]))
            | inr o ↦
                let above : m.net.0 ≤ l.net.0 = g.1 in
                let below : l.net.0 ≤ m.net.0 = o.1 in
                let same : m.net.0 ≡ l.net.0 = omega arith in
                rw g.0
                (rw o.0
                (rw same
                (elim (cases_Bool (nat_eq l.net.0 n)) [
                  | inl t ↦ rw t refl
                  | inr f ↦ rw f (rest (l.net.0 + 1) ms p.1 (rw same at q.1))
                ])))
          ]
    ]

-- on each net the merged list has what both have there
pub sets-merged : (n k : ℕ) (a b : List Lit) → Rises k a → Rises k b → literal_at (merged a b) n ≡ both (literal_at a n) (literal_at b n)
unfolding merged
sets-merged n k [] b p q = refl
sets-merged n k (l ∷ ls) b p q = sets-put_in n k l ls (λ h c. sets-merged n h ls c) b p q

-- merged cubes are a cube, in which the two meet, where no set is empty
pub IsCube-merged : (a b : List Lit) → IsCube a → IsCube b → list_all (λ l. not (nat_eq l.set empty)) (merged a b) ≡ true → IsCube (merged a b)
IsCube-merged a b p q some = record {
  ascending = ascend-Rises 0 (merged a b) (Rises-merged 0 a b (Rises-cube a p.ascending) (Rises-cube b q.ascending));
  possible = some;
}

pub IsMet-merged : (a b c : List Lit) → c ≡ merged a b → IsCube a → IsCube b → list_all (λ l. not (nat_eq l.set empty)) c ≡ true → IsMet a b c
IsMet-merged a b c e p q some = record {
  cube = subst (λ x. IsCube x) (sym e) (IsCube-merged a b p q (ap (list_all (λ l. not (nat_eq l.set empty))) (sym e) ∙ some));
  sets = λ n. ap (λ x. literal_at x n) e ∙ sets-merged n 0 a b (Rises-cube a p.ascending) (Rises-cube b q.ascending);
}

-- a literal without values holds nowhere
pub impossible : (at : ℕ → ℕ) (c : List Lit) → list_all (λ l. not (nat_eq l.set empty)) c ≡ false → matches at c ≡ false
impossible at [] h = absurd (false≢true (sym h))
impossible at (l ∷ ls) h =
    elim (cases_Bool (nat_eq l.set empty)) [
      | inl t ↦
          let none : has l.set (at l.net.0) ≡ false = ap (λ s. has s (at l.net.0)) (same_number l.set empty t) ∙ has-empty (at l.net.0) in
          rw none refl
      | inr f ↦ rw (impossible at ls (rw f at h)) (and-false (holds at l))
    ]

-- where the merged list has a literal without values, no point is in both
pub apart : (a b c : List Lit) → c ≡ merged a b → list_all (λ l. not (nat_eq l.set empty)) c ≡ false → (at : ℕ → ℕ) → (matches at a && matches at b) ≡ false
apart a b c e none at = sym (matches-merged at a b) ∙ (ap (matches at) (sym e) ∙ impossible at c none)

-- the meet, where no set of the merged list is empty, and where one is
pub met_some : (a b c : List Lit) → c ≡ merged a b → list_all (λ l. not (nat_eq l.set empty)) c ≡ true → met a b ≡ c ∷ []
unfolding met
met_some a b c e some = rw (← e) (rw some refl)

pub met_none : (a b c : List Lit) → c ≡ merged a b → list_all (λ l. not (nat_eq l.set empty)) c ≡ false → met a b ≡ []
unfolding met
met_none a b c e none = rw (← e) (rw none refl)

-- the list holds alike where two assignments are the same from its first net on
pub matches-from : (k : ℕ) (c : List Lit) (x y : ℕ → ℕ) → Rises k c → ((n : ℕ) → k ≤ n → x n ≡ y n) → matches x c ≡ matches y c
matches-from k [] x y r same = refl
matches-from k (l ∷ ls) x y r same =
    let low : k ≤ l.net.0 = r.0 in
    let here : x l.net.0 ≡ y l.net.0 = same l.net.0 low in
    let rest : matches x ls ≡ matches y ls = matches-from (l.net.0 + 1) ls x y r.1 (λ n above. same n (omega arith)) in
    λ i. has l.set (here i) && rest i

-- the first literal's set is on its net
pub first_set : (l : Lit) (ls : List Lit) → literal_at (l ∷ ls) l.net.0 ≡ Some l.set
first_set l ls = rw (eq-eqb l.net.0 l.net.0 refl) refl

-- ---- the walk along both lists

-- merging with nothing changes nothing, and two lists begin with the next literal of their first
pub merged_none : (a : List Lit) → merged a [] ≡ a
unfolding merged put_in
merged_none [] = refl
merged_none (l ∷ ls) = ap (λ c. l ∷ c) (merged_none ls)

merged_front : (l m : Lit) (ls ms : List Lit) → merged (l ∷ ls) (m ∷ ms) ≡ (next_of l m).lit ∷ merged (drop (next_of l m).left (l ∷ ls)) (drop (next_of l m).right (m ∷ ms))
unfolding merged put_in
merged_front l m ls ms =
    elim (order l.net.0 m.net.0) [
      | inl y ↦ rw y.0 refl
      | inr g ↦
          elim (order m.net.0 l.net.0) [
            | inl y ↦ rw g.0 (rw y.0 refl)
            | inr o ↦ rw g.0 (rw o.0 refl)
          ]
    ]

-- a step takes one literal at most of each list
pub short_step : (l m : Lit) (s : Step) → s ≡ next_of l m → (s.left ≤ 1) × (s.right ≤ 1)
short_step l m s e =
    rw e
    (elim (order l.net.0 m.net.0) [
      | inl y ↦ rw y.0 (omega arith, omega arith)
      | inr g ↦
          elim (order m.net.0 l.net.0) [
            | inl y ↦ rw g.0 (rw y.0 (omega arith, omega arith))
            | inr o ↦ rw g.0 (rw o.0 (omega arith, omega arith))
          ]
    ])

-- one step more of the walk
pub merge_more : (a b met now : List Lit) (i j : ℕ) (l m : Lit) (s : Step) → now ≡ met ++ s.lit ∷ [] → i < length a → j < length b → l ≡ get_or a i l → m ≡ get_or b j m → s ≡ next_of l m → met ++ merged (drop i a) (drop j b) ≡ merged a b → now ++ merged (drop (i + s.left) a) (drop (j + s.right) b) ≡ merged a b
merge_more a b met now i j l m s e p q x y step so_far =
    let left : drop i a ≡ l ∷ drop (suc i) a = drop-cons a i l p ∙ ap (λ h. h ∷ drop (suc i) a) (sym x) in
    let right : drop j b ≡ m ∷ drop (suc j) b = drop-cons b j m q ∙ ap (λ h. h ∷ drop (suc j) b) (sym y) in
    let behind_left : drop s.left (l ∷ drop (suc i) a) ≡ drop (i + s.left) a = ap (drop s.left) (sym left) ∙ drop-drop s.left i a in
    let behind_right : drop s.right (m ∷ drop (suc j) b) ≡ drop (j + s.right) b = ap (drop s.right) (sym right) ∙ drop-drop s.right j b in
    let front : merged (l ∷ drop (suc i) a) (m ∷ drop (suc j) b) ≡ s.lit ∷ merged (drop s.left (l ∷ drop (suc i) a)) (drop s.right (m ∷ drop (suc j) b)) =
    subst (λ (t : Step). merged (l ∷ drop (suc i) a) (m ∷ drop (suc j) b) ≡ t.lit ∷ merged (drop t.left (l ∷ drop (suc i) a)) (drop t.right (m ∷ drop (suc j) b))) (sym step) (merged_front l m (drop (suc i) a) (drop (suc j) b)) in
    let next : merged (drop i a) (drop j b) ≡ s.lit ∷ merged (drop (i + s.left) a) (drop (j + s.right) b) =
    (λ k. merged (left k) (right k)) ∙ (front ∙ λ k. s.lit ∷ merged (behind_left k) (behind_right k)) in
    ap (λ h. h ++ merged (drop (i + s.left) a) (drop (j + s.right) b)) e ∙ (append_assoc met (s.lit ∷ []) (merged (drop (i + s.left) a) (drop (j + s.right) b)) ∙ (ap (λ h. met ++ h) (sym next) ∙ so_far))

-- one list is at its end, and the rest of the other follows
pub merge_end : (a b met : List Lit) (i j : ℕ) → (length a ≤ i) ⊎ (length b ≤ j) → met ++ merged (drop i a) (drop j b) ≡ merged a b → (met ++ drop i a) ++ drop j b ≡ merged a b
unfolding merged
merge_end a b met i j (inl e) so_far =
    append_assoc met (drop i a) (drop j b) ∙ (ap (λ h. met ++ (h ++ drop j b)) (drop_all i a e) ∙ (ap (λ h. met ++ merged h (drop j b)) (sym (drop_all i a e)) ∙ so_far))
merge_end a b met i j (inr e) so_far =
    ap (λ h. (met ++ drop i a) ++ h) (drop_all j b e) ∙ (append-nil (met ++ drop i a) ∙ (ap (λ h. met ++ h) (sym (merged_none (drop i a))) ∙ (ap (λ h. met ++ merged (drop i a) h) (sym (drop_all j b e)) ∙ so_far)))

-- the same of lists that were pushed
pub merge_ends : (a b met first now : List Lit) (i j : ℕ) → (length a ≤ i) ⊎ (length b ≤ j) → met ++ merged (drop i a) (drop j b) ≡ merged a b → first ≡ met ++ take (length a - i) (drop i a) → now ≡ first ++ take (length b - j) (drop j b) → now ≡ merged a b
merge_ends a b met first now i j end so_far e f =
    f ∙ ((λ k. e k ++ take_rest b j k) ∙ (ap (λ h. (met ++ h) ++ drop j b) (take_rest a i) ∙ merge_end a b met i j end so_far))
