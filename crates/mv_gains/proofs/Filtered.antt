-- The cubes that have a symbol: what they have in common, and what it saves, is what all cubes have in common that has it.
use Rattle.std.proofs.Common.{◌≡◌, ◌∙◌, ℕ, zero, suc, ◌+◌, ◌-◌, ◌*◌, ◌<◌, ◌⊎◌, Bool, true, false, Option, Some, None, List, [], ◌∷◌, ◌++◌, length, take, filter, set, get_or, All, Contains, inl, inr, refl, sym, ap, subst, arith}
use Rattle.std.proofs.lemmas.Bool.{cases_Bool, cases_lt, false≢true, cond-true, cond-false, false_from_ne_true}
use Rattle.std.proofs.lemmas.List.Elements.{filter-append, All-head, All-tail, Contains-append_left}
use Rattle.std.specs.List.{flat_map}
use Rattle.mv_cover.specs.Literal.{Lit}
use Rattle.mv_kernels.specs.Symbols.{has_symbol, has_each}
use Rattle.mv_kernels.proofs.Lists.{Contains-none, Contains-first, Contains-behind, Contains-cons_cases, Contains-filter}
use Rattle.mv_kernels.proofs.Quotients.{each_at, in_symbol, symbol_in}
use Rattle.mv_meets.specs.Meets.{at, common, count, saving, IsMeet}
use Rattle.mv_meets.specs.Search.{IsNoBetter, IsSaver}
use Rattle.mv_meets.specs.declared.found.Found.{Found}
use Rattle.mv_meets.proofs.Pairs.{meet_left, meet_right}
use Rattle.mv_meets.proofs.Places.{count-cons}
use Rattle.mv_gains.specs.Answers.{all_cubes, with_symbol}
use Rattle.mv_gains.specs.Holders.{Ascends}
use Rattle.mv_gains.proofs.Sums.{ascends_few, ascends_has}

-- ---- lists of lists

with_all : (l : Lit) (tables : List (List (List Lit))) → with_symbol l (all_cubes tables) ≡ flat_map (with_symbol l) tables
with_all l [] = refl
with_all l (t ∷ ts) = filter-append (λ c. has_symbol c l) t (all_cubes ts) ∙ ap (λ cs. with_symbol l t ++ cs) (with_all l ts)

pub with_none : (l : Lit) (cubes : List (List Lit)) → All (λ (c : List Lit). has_symbol c l ≡ false) cubes → with_symbol l cubes ≡ []
with_none l [] a = refl
with_none l (c ∷ cs) a =
    let Is : List Lit → Type 0 = λ d. has_symbol d l ≡ false in
    cond-false (has_symbol c l) (c ∷ with_symbol l cs) (with_symbol l cs) (All-head Is c cs a) ∙ with_none l cs (All-tail Is c cs a)

-- a table without the symbol is put in the place of one without it
pub with_put : (l : Lit) (tables : List (List (List Lit))) (n : ℕ) (new : List (List Lit)) → n < length tables → with_symbol l (get_or tables n []) ≡ [] → with_symbol l new ≡ []
    → with_symbol l (all_cubes (set tables n new)) ≡ with_symbol l (all_cubes tables)
with_put l tables n new low old_none new_none = with_all l (set tables n new) ∙ (by tables n low old_none ∙ sym (with_all l tables))
  where
    by : (ts : List (List (List Lit))) (n : ℕ) → n < length ts → with_symbol l (get_or ts n []) ≡ [] → flat_map (with_symbol l) (set ts n new) ≡ flat_map (with_symbol l) ts
    by [] n low e = absurd (omega arith)
    by (t ∷ ts) zero low e = ap (λ cs. cs ++ flat_map (with_symbol l) ts) (new_none ∙ sym e)
    by (t ∷ ts) (suc n) low e = ap (λ cs. with_symbol l t ++ cs) (by ts n (omega arith) e)

pub all_grown : (tables : List (List (List Lit))) → all_cubes (tables ++ [] ∷ []) ≡ all_cubes tables
all_grown [] = refl
all_grown (t ∷ ts) = ap (λ cs. t ++ cs) (all_grown ts)

in_left : {X : Type 0} (xs ys : List X) (x : X) → Contains xs x → Contains (xs ++ ys) x
in_left xs ys x i = Contains-append_left xs ys x i

in_right : {X : Type 0} (xs ys : List X) (x : X) → Contains ys x → Contains (xs ++ ys) x
in_right [] ys x i = i
in_right (z ∷ zs) ys x i = Contains-behind x z (zs ++ ys) (in_right zs ys x i)

append_cases : {X : Type 0} (xs ys : List X) (x : X) → Contains (xs ++ ys) x → Contains xs x ⊎ Contains ys x
append_cases [] ys x i = inr i
append_cases (z ∷ zs) ys x i =
    elim (Contains-cons_cases x z (zs ++ ys) i) [
      | inl e ↦ inl (subst (λ w. Contains (z ∷ zs) w) e (Contains-first z zs))
      | inr t ↦ elim (append_cases zs ys x t) [ inl u ↦ inl (Contains-behind x z zs u) | inr u ↦ inr u ]
    ]

-- a cube of the tables with one put anew is of that one or was there
pub put_cases : (tables : List (List (List Lit))) (n : ℕ) (new : List (List Lit)) (c : List Lit) → Contains (all_cubes (set tables n new)) c → Contains new c ⊎ Contains (all_cubes tables) c
put_cases [] n new c i = absurd (Contains-none c i)
put_cases (t ∷ ts) zero new c i = elim (append_cases new (all_cubes ts) c i) [ inl h ↦ inl h | inr h ↦ inr (in_right t (all_cubes ts) c h) ]
put_cases (t ∷ ts) (suc n) new c i =
    elim (append_cases t (all_cubes (set ts n new)) c i) [
      | inl h ↦ inr (in_left t (all_cubes ts) c h)
      | inr h ↦ elim (put_cases ts n new c h) [ inl g ↦ inl g | inr g ↦ inr (in_right t (all_cubes ts) c g) ]
    ]

-- where a list's members at other places have nothing, those at the places are all
pub gathered_lists : {X Y : Type 0} (At : ℕ → List Y) (f : X → List Y) (d : X) (xs : List X) (k : ℕ) (places : List ℕ) → Ascends k (k + length xs) places → ((p : ℕ) → p < length xs → At (k + p) ≡ f (get_or xs p d))
    → ((p : ℕ) → p < length xs → Contains places (k + p) ⊎ (f (get_or xs p d) ≡ [])) → flat_map At places ≡ flat_map f xs
gathered_lists At f d [] k [] a at none = refl
gathered_lists At f d [] k (p ∷ ps) a at none =
    let few = ascends_few (p + 1) (k + 0) ps a.1 in
    absurd (omega (arith, few, a.0))
gathered_lists At f d (x ∷ xs) k [] a at none =
    let z : f x ≡ [] = elim (none 0 (omega arith)) [ inl c ↦ absurd (Contains-none (k + 0) c) | inr z ↦ z ] in
    gathered_lists At f d xs (suc k) [] (omega arith) (λ p low. ap At (omega arith) ∙ at (suc p) (omega arith))
    (λ p low. elim (none (suc p) (omega arith)) [ inl c ↦ absurd (Contains-none (k + suc p) c) | inr y ↦ inr y ])
    ∙ ap (λ ys. ys ++ flat_map f xs) (sym z)
gathered_lists At f d (x ∷ xs) k (p ∷ ps) a at none =
    let high : k + length (x ∷ xs) ≡ suc k + length xs = omega arith in
    let next : (q : ℕ) → q < length xs → At (suc k + q) ≡ f (get_or xs q d) = λ q low. ap At (omega arith) ∙ at (suc q) (omega arith) in
    elim (cases_lt k p) [
      | inl apart ↦
          let z : f x ≡ [] =
          elim (none 0 (omega arith)) [
            | inl c ↦ let low = ascends_has p (k + length (x ∷ xs)) (p ∷ ps) (k + 0) (omega arith, a.1) c in absurd (omega (arith, low, apart))
            | inr y ↦ y
          ] in
          gathered_lists At f d xs (suc k) (p ∷ ps) (omega (arith, apart), subst (λ m. Ascends (p + 1) m ps) high a.1) next
          (λ q low. elim (none (suc q) (omega arith)) [ inl c ↦ inl (subst (Contains (p ∷ ps)) (omega arith) c) | inr y ↦ inr y ])
          ∙ ap (λ ys. ys ++ flat_map f xs) (sym z)
      | inr past ↦
          let same : p ≡ k + 0 = omega (arith, past, a.0) in
          let from : p + 1 ≡ suc k = omega (arith, past, a.0) in
          let here : At p ≡ f x = ap At same ∙ at 0 (omega arith) in
          let rest =
          gathered_lists At f d xs (suc k) ps (subst (λ m. Ascends m (suc k + length xs) ps) from (subst (λ m. Ascends (p + 1) m ps) high a.1)) next
          (λ q low.
          elim (none (suc q) (omega arith)) [
            | inl c ↦
                elim (Contains-cons_cases (k + suc q) p ps c) [
                  | inl e ↦ absurd (omega (arith, e, same))
                  | inr t ↦ inl (subst (Contains ps) (omega arith) t)
                ]
            | inr y ↦ inr y
          ]) in
          λ j. here j ++ rest j
    ]

-- the tables of the nets that have the symbol's net have all cubes that have the symbol
pub with_gathered : (l : Lit) (tables : List (List (List Lit))) (places : List ℕ) → Ascends 0 (length tables) places
    → ((p : ℕ) → p < length tables → Contains places p ⊎ (with_symbol l (get_or tables p []) ≡ []))
    → flat_map (λ p. with_symbol l (get_or tables p [])) places ≡ with_symbol l (all_cubes tables)
with_gathered l tables places a none =
    gathered_lists (λ p. with_symbol l (get_or tables p [])) (with_symbol l) [] tables 0 places (subst (λ n. Ascends 0 n places) (omega arith) a) (λ p low. ap (λ q. with_symbol l (get_or tables q [])) (omega arith))
    (λ p low. elim (none p low) [ inl c ↦ inl (subst (Contains places) (omega arith) c) | inr z ↦ inr z ])
    ∙ sym (with_all l tables)

-- ---- places

module _ (P : List Lit → Bool) where
  -- the place in the filtered list
  abbrev rank : List (List Lit) → ℕ → ℕ
  rank cs p = length (filter P (take p cs))

  record IsAt (cs : List (List Lit)) (p : ℕ) : Type 0 where
    low : rank cs p < length (filter P cs)
    is : at (filter P cs) (rank cs p) ≡ at cs p

  rank_yes : (c : List Lit) (cs : List (List Lit)) (p : ℕ) → P c ≡ true → rank (c ∷ cs) (suc p) ≡ suc (rank cs p)
  rank_yes c cs p t = ap length (cond-true (P c) (c ∷ filter P (take p cs)) (filter P (take p cs)) t)

  rank_no : (c : List Lit) (cs : List (List Lit)) (p : ℕ) → P c ≡ false → rank (c ∷ cs) (suc p) ≡ rank cs p
  rank_no c cs p f = ap length (cond-false (P c) (c ∷ filter P (take p cs)) (filter P (take p cs)) f)

  all_yes : (c : List Lit) (cs : List (List Lit)) → P c ≡ true → filter P (c ∷ cs) ≡ c ∷ filter P cs
  all_yes c cs t = cond-true (P c) (c ∷ filter P cs) (filter P cs) t

  all_no : (c : List Lit) (cs : List (List Lit)) → P c ≡ false → filter P (c ∷ cs) ≡ filter P cs
  all_no c cs f = cond-false (P c) (c ∷ filter P cs) (filter P cs) f

  is_at : (cs : List (List Lit)) (p : ℕ) → p < length cs → P (at cs p) ≡ true → IsAt cs p
  is_at [] p low t = absurd (omega arith)
  is_at (c ∷ cs) zero low t =
      let all = all_yes c cs t in
      record { low = subst (λ (xs : List (List Lit)). 0 < length xs) (sym all) (omega arith); is = ap (λ (xs : List (List Lit)). at xs 0) all }
  is_at (c ∷ cs) (suc p) low t =
      let rest = is_at cs p (omega arith) t in
      elim (cases_Bool (P c)) [
        | inl y ↦
            let all = all_yes c cs y in
            let next = rank_yes c cs p y in
            let inside = rest.low in
            record {
              low = subst (λ (xs : List (List Lit)). rank (c ∷ cs) (suc p) < length xs) (sym all) (omega (arith, next, inside));
              is = (λ j. at (all j) (next j)) ∙ rest.is;
            }
        | inr n ↦
            let all = all_no c cs n in
            let next = rank_no c cs p n in
            let inside = rest.low in
            record {
              low = subst (λ (xs : List (List Lit)). rank (c ∷ cs) (suc p) < length xs) (sym all) (omega (arith, next, inside));
              is = (λ j. at (all j) (next j)) ∙ rest.is;
            }
      ]

  rank_less : (cs : List (List Lit)) (p q : ℕ) → p < q → q < length cs → P (at cs p) ≡ true → rank cs p < rank cs q
  rank_less [] p q h low t = absurd (omega arith)
  rank_less (c ∷ cs) p zero h low t = absurd (omega arith)
  rank_less (c ∷ cs) zero (suc q) h low t = let next = rank_yes c cs q t in omega (arith, next)
  rank_less (c ∷ cs) (suc p) (suc q) h low t =
      let rest = rank_less cs p q (omega arith) (omega arith) t in
      elim (cases_Bool (P c)) [
        | inl y ↦ let a = rank_yes c cs p y in let b = rank_yes c cs q y in omega (arith, rest, a, b)
        | inr n ↦ let a = rank_no c cs p n in let b = rank_no c cs q n in omega (arith, rest, a, b)
      ]

  -- where a member of the filtered list comes from
  record Origin (cs : List (List Lit)) (i : ℕ) : Type 0 where
    from : ℕ
    low : from < length cs
    rank_is : rank cs from ≡ i
    is : at cs from ≡ at (filter P cs) i

  origin : (cs : List (List Lit)) (i : ℕ) → i < length (filter P cs) → Origin cs i
  origin [] i low = absurd (omega arith)
  origin (c ∷ cs) i low =
      elim (cases_Bool (P c)) [
        | inl y ↦ by i y (subst (λ (xs : List (List Lit)). i < length xs) (all_yes c cs y) low) (λ j h. origin cs j h)
        | inr n ↦
            let all = all_no c cs n in
            let rest = origin cs i (subst (λ (xs : List (List Lit)). i < length xs) all low) in
            let inside = rest.low in
            record { from = suc rest.from; low = omega (arith, inside); rank_is = rank_no c cs rest.from n ∙ rest.rank_is; is = rest.is ∙ ap (λ (xs : List (List Lit)). at xs i) (sym all) }
      ]
    where
      by : (i : ℕ) → P c ≡ true → i < length (c ∷ filter P cs) → ((j : ℕ) → j < length (filter P cs) → Origin cs j) → Origin (c ∷ cs) i
      by zero y low others = record { from = 0; low = omega arith; rank_is = refl; is = ap (λ (xs : List (List Lit)). at xs 0) (sym (all_yes c cs y)) }
      by (suc i) y low others =
          let all = all_yes c cs y in
          let rest = others i (omega arith) in
          let inside = rest.low in
          record { from = suc rest.from; low = omega (arith, inside); rank_is = rank_yes c cs rest.from y ∙ ap suc rest.rank_is; is = rest.is ∙ ap (λ (xs : List (List Lit)). at xs (suc i)) (sym all) }

-- ---- common parts

module _ (l : Lit) (cs : List (List Lit)) where
  abbrev has : List Lit → Bool
  has c = has_symbol c l

  -- those with the symbol are common parts of cubes that have it
  pub meet_with : (e : List Lit) → has_symbol e l ≡ true → IsMeet cs e → IsMeet (with_symbol l cs) e
  meet_with e t m =
      let first_has : has (at cs m.one) ≡ true = each_at e (at cs m.one) l (meet_left cs e m) t in
      let other_has : has (at cs m.other) ≡ true = each_at e (at cs m.other) l (meet_right cs e m) t in
      let first = is_at has cs m.one m.one_in first_has in
      let second = is_at has cs m.other m.other_in other_has in
      record {
        one = rank has cs m.one;
        one_in = first.low;
        other = rank has cs m.other;
        other_in = second.low;
        apart = λ same.
            elim (cases_lt m.one m.other) [
              | inl less ↦ let h = rank_less has cs m.one m.other less m.other_in first_has in omega (arith, h, same)
              | inr past ↦
                  elim (cases_lt m.other m.one) [
                    | inl more ↦ let h = rank_less has cs m.other m.one more m.one_in other_has in omega (arith, h, same)
                    | inr equal ↦ m.apart (omega (arith, past, equal))
                  ]
            ];
        is = (λ j. common (first.is j) (second.is j)) ∙ m.is;
        two = m.two;
      }

  pub meet_without : (e : List Lit) → IsMeet (with_symbol l cs) e → IsMeet cs e
  meet_without e m =
      let first = origin has cs m.one m.one_in in
      let second = origin has cs m.other m.other_in in
      record {
        one = first.from;
        one_in = first.low;
        other = second.from;
        other_in = second.low;
        apart = λ same. m.apart (sym first.rank_is ∙ (ap (rank has cs) same ∙ second.rank_is));
        is = (λ j. common (first.is j) (second.is j)) ∙ m.is;
        two = m.two;
      }

  count_with : (e : List Lit) → has_symbol e l ≡ true → (ks : List (List Lit)) → count e (with_symbol l ks) ≡ count e ks
  count_with e t [] = refl
  count_with e t (k ∷ ks) =
      let rest = count_with e t ks in
      let first = count-cons (has_each e) k ks in
      elim (cases_Bool (has k)) [
        | inl y ↦
            let more : count e (with_symbol l (k ∷ ks)) ≡ count e (k ∷ with_symbol l ks) = ap (count e) (cond-true (has k) (k ∷ with_symbol l ks) (with_symbol l ks) y) in
            let second = count-cons (has_each e) k (with_symbol l ks) in
            omega (arith, rest, first, more, second)
        | inr n ↦
            let less : count e (with_symbol l (k ∷ ks)) ≡ count e (with_symbol l ks) = ap (count e) (cond-false (has k) (k ∷ with_symbol l ks) (with_symbol l ks) n) in
            let none : has_each e k ≡ false = false_from_ne_true (has_each e k) (λ h. false≢true (sym n ∙ each_at e k l h t)) in
            let zeroed = cond-false {A = ℕ} (has_each e k) 1 0 none in
            omega (arith, rest, first, less, zeroed)
      ]

  pub saving_with : (e : List Lit) → has_symbol e l ≡ true → saving e (with_symbol l cs) ≡ saving e cs
  saving_with e t = ap (λ n. n * (length e - 1) - length e) (count_with e t cs)

  -- what they have in common has it
  pub with_has : (e : List Lit) → IsMeet (with_symbol l cs) e → has_symbol e l ≡ true
  with_has e m =
      let ks = with_symbol l cs in
      let first : has (at ks m.one) ≡ true = passed m.one m.one_in in
      let second : has (at ks m.other) ≡ true = passed m.other m.other_in in
      subst (λ d. has_symbol d l ≡ true) m.is
      (in_symbol (common (at ks m.one) (at ks m.other)) l (Contains-filter (has_symbol (at ks m.other)) (at ks m.one) l second (symbol_in (at ks m.one) l first)))
    where
      pass : (xs : List (List Lit)) (i : ℕ) → i < length (with_symbol l xs) → has (at (with_symbol l xs) i) ≡ true
      pass [] i low = absurd (omega arith)
      pass (x ∷ xs) i low =
          elim (cases_Bool (has x)) [
            | inl y ↦
                let all : with_symbol l (x ∷ xs) ≡ x ∷ with_symbol l xs = cond-true (has x) (x ∷ with_symbol l xs) (with_symbol l xs) y in
                subst (λ (ks : List (List Lit)). has (at ks i) ≡ true) (sym all) (by i y (subst (λ (ks : List (List Lit)). i < length ks) all low) (λ j h. pass xs j h))
            | inr n ↦
                let all : with_symbol l (x ∷ xs) ≡ with_symbol l xs = cond-false (has x) (x ∷ with_symbol l xs) (with_symbol l xs) n in
                subst (λ (ks : List (List Lit)). has (at ks i) ≡ true) (sym all) (pass xs i (subst (λ (ks : List (List Lit)). i < length ks) all low))
          ]
        where
          by : (i : ℕ) → has x ≡ true → i < length (x ∷ with_symbol l xs) → ((j : ℕ) → j < length (with_symbol l xs) → has (at (with_symbol l xs) j) ≡ true) → has (at (x ∷ with_symbol l xs) i) ≡ true
          by zero y low others = y
          by (suc i) y low others = others i (omega arith)

      passed : (i : ℕ) → i < length (with_symbol l cs) → has (at (with_symbol l cs) i) ≡ true
      passed i low = pass cs i low

-- a cube is no better where it saves as much
pub no_better_by : (xs ys : List (List Lit)) (best : Option Found) (e : List Lit) → saving e xs ≡ saving e ys → IsNoBetter xs best e → IsNoBetter ys best e
no_better_by xs ys None e same h = sym same ∙ h
no_better_by xs ys (Some f) e same h =
    let most = h.most in
    record { most = omega (arith, same, most); least = λ tied g. h.least (same ∙ tied) g }

pub saver_with : (l : Lit) (cs : List (List Lit)) (f : Found) → has_symbol f.cube l ≡ true → IsSaver cs f → IsSaver (with_symbol l cs) f
saver_with l cs f t s = record { meet = meet_with l cs f.cube t s.meet; saved_is = saving_with l cs f.cube t ∙ s.saved_is; some = s.some }

pub saver_without : (l : Lit) (cs : List (List Lit)) (f : Found) → IsSaver (with_symbol l cs) f → IsSaver cs f
saver_without l cs f s =
    record { meet = meet_without l cs f.cube s.meet; saved_is = sym (saving_with l cs f.cube (with_has l cs f.cube s.meet)) ∙ s.saved_is; some = s.some }
