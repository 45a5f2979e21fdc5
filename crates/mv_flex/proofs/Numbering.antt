-- Lists of values by number: each list of values below the nets' numbers of values has one number.
use Rattle.std.proofs.Common.{◌≡◌, ◌∙◌, ℕ, suc, ◌+◌, ◌*◌, ◌/◌, ◌%◌, ◌<◌, ◌≤◌, true, false, ◌||◌, nat_eq, nat_lt, cond, List, [], ◌∷◌, ◌++◌, map, length, get_or, set, take, drop, drop-cons, All, add-one, refl, sym, ap, subst, ⊎_elim, arith, append_assoc, add-zero}
use Rattle.std.proofs.lemmas.List.{get_or-drop, drop-drop, get_or_past, drop_all, set_split, take_at, drop_at, length-append, length-map, get_or-map}
use Rattle.std.proofs.lemmas.Bool.{cases_Bool, false≢true, eqb-true, ltb-true, ltb-false, lt-ltb}
use Rattle.std.proofs.Math.Nat.{mod-lt, mul_assoc, mul_comm, mul-add, add-mul, div-add-mod, le-mul_of_pos_right}
use Rattle.std.proofs.lemmas.List.Elements.{All-drop}
use Rattle.std.proofs.lemmas.Nat.{mod-mul-add, div-mul-add, mul-add-lt, mul-lt}
use Rattle.mv_base.specs.declared.number.NetId.{NetId}
use Rattle.mv_graph.specs.Nets.{has_id}
use Rattle.mv_flex.specs.Spaces.{value_at, placed, ways, digits, next, code, AreBelow, IsCounted}

-- ---- values by net

-- what is looked for behind a place is found there, or behind it
value_at_none : (ns : List NetId) (m : ℕ) → value_at ns [] m ≡ 0
value_at_none [] m = refl
value_at_none (n ∷ ns) m = refl

at_head : (n : NetId) (ns : List NetId) (vs : List ℕ) (m : ℕ) → nat_eq n.0 m ≡ true → value_at (n ∷ ns) vs m ≡ get_or vs 0 0
at_head n ns [] m y = refl
at_head n ns (v ∷ vs) m y = λ i. cond (y i) v (value_at ns vs m)

at_tail : (n : NetId) (ns : List NetId) (vs : List ℕ) (m : ℕ) → nat_eq n.0 m ≡ false → value_at (n ∷ ns) vs m ≡ value_at ns (drop 1 vs) m
at_tail n ns [] m o = sym (value_at_none ns m)
at_tail n ns (v ∷ vs) m o = λ i. cond (o i) v (value_at ns vs m)

pub value_at_here : (ns : List NetId) (vs : List ℕ) (i m : ℕ) (d : NetId) → i < length ns → nat_eq (get_or ns i d).0 m ≡ true → value_at (drop i ns) (drop i vs) m ≡ get_or vs i 0
value_at_here ns vs i m d low same =
    ap (λ l. value_at l (drop i vs) m) (drop-cons ns i d low)
    ∙ at_head (get_or ns i d) (drop (suc i) ns) (drop i vs) m same
    ∙ get_or-drop i vs 0 0
    ∙ ap (λ k. get_or vs k 0) (add-zero i)

pub value_at_next : (ns : List NetId) (vs : List ℕ) (i m : ℕ) (d : NetId) → i < length ns → nat_eq (get_or ns i d).0 m ≡ false → value_at (drop (i + 1) ns) (drop (i + 1) vs) m ≡ value_at (drop i ns) (drop i vs) m
value_at_next ns vs i m d low other =
    sym
    (ap (λ l. value_at l (drop i vs) m) (drop-cons ns i d low)
    ∙ at_tail (get_or ns i d) (drop (suc i) ns) (drop i vs) m other
    ∙ (λ j. value_at (drop (sym (add-one i) j) ns) (drop-drop 1 i vs j) m))

-- a net's value is where the net is found
pub found_at : (ns : List NetId) (vs : List ℕ) (i m : ℕ) (d : NetId) → i < length ns → nat_eq (get_or ns i d).0 m ≡ true → value_at (drop i ns) (drop i vs) m ≡ value_at ns vs m → get_or vs i 0 ≡ value_at ns vs m
found_at ns vs i m d low same before = sym (value_at_here ns vs i m d low same) ∙ before

-- and 0 where it isn't found
pub not_found : (ns : List NetId) (vs : List ℕ) (i m : ℕ) → length ns ≤ i → length vs ≡ length ns → value_at (drop i ns) (drop i vs) m ≡ value_at ns vs m → get_or vs (length ns) 0 ≡ value_at ns vs m
not_found ns vs i m past long before =
    get_or_past vs (length ns) 0 (omega (arith, long)) ∙ sym (ap (λ l. value_at l (drop i vs) m) (drop_all i ns past)) ∙ before

pub ruleset value_at_looking = (value_at_here, value_at_next)

-- where the nets have the values of an assignment, each of them has its value
pub value_at-map : (at : ℕ → ℕ) (ns : List NetId) (m : ℕ) → has_id ns m ≡ true → value_at ns (map (λ (n : NetId). at n.0) ns) m ≡ at m
value_at-map at [] m h = absurd (false≢true h)
value_at-map at (n ∷ ns) m h =
    ⊎_elim
    (λ (y : nat_eq n.0 m ≡ true). (λ i. cond (y i) (at n.0) (value_at ns (map (λ (k : NetId). at k.0) ns) m)) ∙ ap at (eqb-true n.0 m y))
    (λ (o : nat_eq n.0 m ≡ false). (λ i. cond (o i) (at n.0) (value_at ns (map (λ (k : NetId). at k.0) ns) m)) ∙ value_at-map at ns m (ap (λ b. b || has_id ns m) (sym o) ∙ h))
    (cases_Bool (nat_eq n.0 m))

-- the first nets have the first values
pub value_at-append : (ns ms : List NetId) (vs us : List ℕ) (m : ℕ) → length vs ≡ length ns → has_id ns m ≡ true → value_at (ns ++ ms) (vs ++ us) m ≡ value_at ns vs m
value_at-append [] ms vs us m e h = absurd (false≢true h)
value_at-append (n ∷ ns) ms [] us m e h = absurd (omega (arith, e))
value_at-append (n ∷ ns) ms (v ∷ vs) us m e h =
    ⊎_elim
    (λ (y : nat_eq n.0 m ≡ true). (λ i. cond (y i) v (value_at (ns ++ ms) (vs ++ us) m)) ∙ sym (λ i. cond (y i) v (value_at ns vs m)))
    (λ (o : nat_eq n.0 m ≡ false).
    (λ i. cond (o i) v (value_at (ns ++ ms) (vs ++ us) m)) ∙ value_at-append ns ms vs us m (omega (arith, e)) (ap (λ b. b || has_id ns m) (sym o) ∙ h) ∙ sym (λ i. cond (o i) v (value_at ns vs m)))
    (cases_Bool (nat_eq n.0 m))

-- ---- numbers of lists

pub below-length : (cs vs : List ℕ) → AreBelow cs vs → length vs ≡ length cs
below-length [] [] b = refl
below-length [] (v ∷ vs) b = absurd b
below-length (c ∷ cs) [] b = absurd b
below-length (c ∷ cs) (v ∷ vs) b = ap (λ k. suc k) (below-length cs vs b.1)

all_behind : (P : ℕ → Type 0) (x : ℕ) (xs : List ℕ) → All P (x ∷ xs) → All P xs
all_behind P x xs all = λ k d low. all (suc k) d (omega (arith, low))

pub digits-below : (cs : List ℕ) (k : ℕ) → All (λ c. 0 < c) cs → AreBelow cs (digits cs k)
digits-below [] k some = tt
digits-below (c ∷ cs) k some = (mod-lt k (some 0 0 (omega arith)), digits-below cs (k / c) (all_behind (λ n. 0 < n) c cs some))

pub code-ways : (cs vs : List ℕ) → AreBelow cs vs → code cs vs < ways cs
code-ways [] [] b = omega arith
code-ways [] (v ∷ vs) b = absurd b
code-ways (c ∷ cs) [] b = absurd b
code-ways (c ∷ cs) (v ∷ vs) b = mul-add-lt (code cs vs) c v (ways cs) (code-ways cs vs b.1) b.0

pub digits-code : (cs vs : List ℕ) → AreBelow cs vs → digits cs (code cs vs) ≡ vs
digits-code [] [] b = refl
digits-code [] (v ∷ vs) b = absurd b
digits-code (c ∷ cs) [] b = absurd b
digits-code (c ∷ cs) (v ∷ vs) b =
    let last = mod-mul-add (code cs vs) c v b.0 in
    let rest = ap (digits cs) (div-mul-add (code cs vs) c v b.0) ∙ digits-code cs vs b.1 in
    λ i. last i ∷ rest i

-- one more value
pub digits_more : (cs vs new ds : List ℕ) (k i c : ℕ) → i < length cs → c ≡ get_or cs i c → vs ++ digits (drop i cs) k ≡ ds → new ≡ vs ++ (k % c) ∷ [] → new ++ digits (drop (i + 1) cs) (k / c) ≡ ds
digits_more cs vs new ds k i c low is before e =
    ap (λ l. l ++ digits (drop (i + 1) cs) (k / c)) e
    ∙ append_assoc vs ((k % c) ∷ []) (digits (drop (i + 1) cs) (k / c))
    ∙ ap (λ l. vs ++ l) (sym next)
    ∙ before
  where
    next : digits (drop i cs) k ≡ (k % c) ∷ digits (drop (i + 1) cs) (k / c)
    next =
        ap (λ l. digits l k) (drop-cons cs i c low)
        ∙ (λ j. (k % (sym is j)) ∷ digits (drop (sym (add-one i) j) cs) (k / (sym is j)))

-- ---- in how many ways

pub ways-some : (cs : List ℕ) → All (λ c. 0 < c) cs → 0 < ways cs
ways-some [] some = omega arith
ways-some (c ∷ cs) some = mul-lt 0 0 c (ways cs) (some 0 0 (omega arith)) (ways-some cs (all_behind (λ n. 0 < n) c cs some))

-- one more factor
pub ways_more : (cs : List ℕ) (i c product : ℕ) → i < length cs → c ≡ get_or cs i c → product * ways (drop i cs) ≡ ways cs → product * c * ways (drop (i + 1) cs) ≡ ways cs
ways_more cs i c product low is before =
    mul_assoc product c (ways (drop (i + 1) cs))
    ∙ sym (ap (λ w. product * w) (ap ways (drop-cons cs i c low) ∙ (λ j. sym is j * ways (drop (sym (add-one i) j) cs))))
    ∙ before

-- what was multiplied so far is no more than all
pub ways_fit : (cs : List ℕ) (i c product : ℕ) → i < length cs → c ≡ get_or cs i c → All (λ n. 0 < n) cs → product * ways (drop i cs) ≡ ways cs → product * c ≤ ways cs
ways_fit cs i c product low is some before =
    subst (λ w. product * c ≤ w) (ways_more cs i c product low is before) (le-mul_of_pos_right (product * c) (ways-some (drop (i + 1) cs) (All-drop (λ n. 0 < n) (i + 1) cs some)))

-- ---- the number of values, one by one

pub code_low : (cs vs : List ℕ) (size r : ℕ) → AreBelow cs vs → IsCounted cs size → r ≡ code cs vs → r < size
code_low cs vs size r below counted e = subst (λ k. r < k) (sym counted.all) (subst (λ k. k < ways cs) (sym e) (code-ways cs vs below))

module _ (cs places vs : List ℕ) (i v number weight : ℕ) (below : AreBelow cs (placed places vs)) (low : i < length cs) where
  pub place_low : i < length places
  place_low =
      let long = below-length cs (placed places vs) below in
      let same = length-map places (λ (k : ℕ). get_or vs k 0) in
      omega (arith, low, long, same)

  -- one value more, with the weight of the numbers of values before it
  pub number_more : v ≡ get_or vs (get_or places i 0) 0 → number + weight * code (drop i cs) (drop i (placed places vs)) ≡ code cs (placed places vs) → number + v * weight + weight * get_or cs i 0 * code (drop (i + 1) cs) (drop (i + 1) (placed places vs)) ≡ code cs (placed places vs)
  number_more is before = sym regroup ∙ ap (λ k. number + weight * k) (sym rest) ∙ before
    where
      here : i < length (placed places vs)
      here = let long = below-length cs (placed places vs) below in omega (arith, low, long)

      at : get_or (placed places vs) i 0 ≡ v
      at = get_or-map (λ (k : ℕ). get_or vs k 0) places i 0 0 place_low ∙ sym is

      rest : code (drop i cs) (drop i (placed places vs)) ≡ code (drop (i + 1) cs) (drop (i + 1) (placed places vs)) * get_or cs i 0 + v
      rest =
          (λ j. code (drop-cons cs i 0 low j) (drop-cons (placed places vs) i 0 here j))
          ∙ (λ j. code (drop (sym (add-one i) j) cs) (drop (sym (add-one i) j) (placed places vs)) * get_or cs i 0 + at j)

      regroup : number + weight * (code (drop (i + 1) cs) (drop (i + 1) (placed places vs)) * get_or cs i 0 + v) ≡ number + v * weight + weight * get_or cs i 0 * code (drop (i + 1) cs) (drop (i + 1) (placed places vs))
      regroup = apart number weight (code (drop (i + 1) cs) (drop (i + 1) (placed places vs))) (get_or cs i 0) v
        where
          apart : (n w k c x : ℕ) → n + w * (k * c + x) ≡ n + x * w + w * c * k
          apart n w k c x =
              let split : w * (k * c + x) ≡ w * (k * c) + w * x = mul-add w (k * c) x in
              let turn : w * (k * c) ≡ w * c * k = ap (λ y. w * y) (mul_comm k c) ∙ sym (mul_assoc w c k) in
              let swap : w * x ≡ x * w = mul_comm w x in
              omega (arith, split, turn, swap)

  -- what was added so far is below all ways
  pub number_fits : v ≡ get_or vs (get_or places i 0) 0 → number + weight * code (drop i cs) (drop i (placed places vs)) ≡ code cs (placed places vs) → number + v * weight < ways cs
  number_fits is before =
      let low = code-ways cs (placed places vs) below in
      let sum = number_more is before in
      omega (arith, low, sum)

-- ---- the next number

pub digits-length : (cs : List ℕ) (k : ℕ) → length (digits cs k) ≡ length cs
digits-length [] k = refl
digits-length (c ∷ cs) k = ap (λ n. suc n) (digits-length cs (k / c))

pub digits-next : (cs : List ℕ) (k : ℕ) → All (λ c. 0 < c) cs → next cs (digits cs k) ≡ digits cs (k + 1)
digits-next [] k some = refl
digits-next (c ∷ cs) k some =
    ⊎_elim
    (λ (y : nat_lt (k % c + 1) c ≡ true).
    let e : k + 1 ≡ k / c * c + (k % c + 1) = omega (arith, split, turn) in
    let last : (k + 1) % c ≡ k % c + 1 = ap (λ n. n % c) e ∙ mod-mul-add (k / c) c (k % c + 1) (ltb-true (k % c + 1) c y) in
    let rest : (k + 1) / c ≡ k / c = ap (λ n. n / c) e ∙ div-mul-add (k / c) c (k % c + 1) (ltb-true (k % c + 1) c y) in
    (λ i. cond (y i) ((k % c + 1) ∷ digits cs (k / c)) (0 ∷ next cs (digits cs (k / c)))) ∙ sym (λ i. last i ∷ digits cs (rest i)))
    (λ (f : nat_lt (k % c + 1) c ≡ false).
    let full : k % c + 1 ≡ c = omega (arith, below, ltb-false (k % c + 1) c f) in
    let one : (k / c + 1) * c ≡ k / c * c + 1 * c = add-mul (k / c) 1 c in
    let single : 1 * c ≡ c = omega arith in
    let e : k + 1 ≡ (k / c + 1) * c + 0 = omega (arith, split, turn, full, one, single) in
    let last : (k + 1) % c ≡ 0 = ap (λ n. n % c) e ∙ mod-mul-add (k / c + 1) c 0 positive in
    let rest : (k + 1) / c ≡ k / c + 1 = ap (λ n. n / c) e ∙ div-mul-add (k / c + 1) c 0 positive in
    (λ i. cond (f i) ((k % c + 1) ∷ digits cs (k / c)) (0 ∷ next cs (digits cs (k / c))))
    ∙ (λ i. 0 ∷ digits-next cs (k / c) (all_behind (λ n. 0 < n) c cs some) i)
    ∙ sym (λ i. last i ∷ digits cs (rest i)))
    (cases_Bool (nat_lt (k % c + 1) c))
  where
    positive : 0 < c
    positive = some 0 0 (omega arith)

    below : k % c < c
    below = mod-lt k positive

    split : c * (k / c) + k % c ≡ k
    split = div-add-mod k c

    turn : c * (k / c) ≡ k / c * c
    turn = mul_comm c (k / c)

next_parts : (cs vs : List ℕ) (from i v : ℕ) → i < length cs → from + i < length vs → v ≡ get_or vs (from + i) v → next (drop i cs) (drop (from + i) vs) ≡ cond (nat_lt (v + 1) (get_or cs i 0)) ((v + 1) ∷ drop (suc (from + i)) vs) (0 ∷ next (drop (suc i) cs) (drop (suc (from + i)) vs))
next_parts cs vs from i v low here at =
    (λ j. next (drop-cons cs i 0 low j) (drop-cons vs (from + i) v here j))
    ∙ (λ j. next (get_or cs i 0 ∷ drop (suc i) cs) (sym at j ∷ drop (suc (from + i)) vs))

-- a value that isn't the last becomes one more
pub next_here : (cs vs new : List ℕ) (from i v : ℕ) → i < length cs → from + i < length vs → v ≡ get_or vs (from + i) v → v + 1 < get_or cs i 0 → new ≡ set vs (from + i) (v + 1) → new ≡ take (from + i) vs ++ next (drop i cs) (drop (from + i) vs)
next_here cs vs new from i v low here at more n =
    n ∙ set_split vs (from + i) (v + 1) here
    ∙ ap (λ l. take (from + i) vs ++ l)
    (sym (next_parts cs vs from i v low here at
    ∙ (λ j. cond (lt-ltb (v + 1) (get_or cs i 0) more j) ((v + 1) ∷ drop (suc (from + i)) vs) (0 ∷ next (drop (suc i) cs) (drop (suc (from + i)) vs)))))

-- the values of a point, and the values with the next number
pub next_point : (cs start vs new : List ℕ) (from h : ℕ) → All (λ c. 0 < c) cs → vs ≡ start ++ digits cs h → from ≡ length start → new ≡ take from vs ++ next cs (drop from vs) → new ≡ start ++ digits cs (h + 1)
next_point cs start vs new from h some e long n =
    n
    ∙ (λ j. take from (e j) ++ next cs (drop from (e j)))
    ∙ (λ j. take_at start (digits cs h) from (sym long) j ++ next cs (drop_at start (digits cs h) from (sym long) j))
    ∙ ap (λ l. start ++ l) (digits-next cs h some)

-- a point has values of all its nets
pub point_long : (cs start vs : List ℕ) (h : ℕ) → vs ≡ start ++ digits cs h → length vs ≡ length start + length cs
point_long cs start vs h e = ap length e ∙ length-append start (digits cs h) ∙ ap (λ k. length start + k) (digits-length cs h)
