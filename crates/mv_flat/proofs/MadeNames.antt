-- Names of made nets: different numbers give different names, and the least number whose name is free is found.
use Rattle.std.proofs.Common.{◌≡◌, ℕ, zero, suc, ◌+◌, ◌-◌, ◌<◌, ◌≤◌, ◌^◌, true, false, ◌||◌, List, [], ◌∷◌, ◌++◌, length, map, Option, Some, None, is_some, is_none, refl, sym, ◌∙◌, ap, subst, arith, ⊎_elim}
use Rattle.std.specs.List.{range_with_len}
use Rattle.std.proofs.Math.Bool.{or-false}
use Rattle.std.proofs.lemmas.Bool.{false≢true, cases_lt, or_from, or_cases, or_left, false_from_ne_true}
use Rattle.std.proofs.lemmas.List.{append-nil, append_assoc, length-append}
use Rattle.std.proofs.lemmas.List.FromFn.{length-map-range_with_len}
use Rattle.mv_base.specs.Names.{same_word, among, place_of, AreApart}
use Rattle.mv_base.proofs.NameLemmas.{same_word_is, same_word_refl, among-append, is_some-place_of}
use Rattle.mv_cover.specs.declared.cover.Cover.{Cover}
use Rattle.mv_net.specs.declared.parts.FlatNet.{FlatNet}
use Rattle.mv_net.proofs.FreshNames.{made_injective}
use Rattle.mv_acyclic.proofs.Distinct.{apart_length}
use Rattle.mv_acyclic.proofs.Soundness.{in_left, in_right}
use Rattle.mv_flat.specs.Numbers.{made_name}
use Rattle.mv_flat.specs.Covers.{MadeNet, made_mark}
use Rattle.mv_flat.specs.Built.{fresh_net, IsFreshName, AreMade}
use Rattle.mv_flat.specs.Marks.{IsLast, IsNext, AddsMade, AddsMark}

-- ---- different numbers

pub made_differ : (m n : ℕ) → m < 2 ^ 64 → n < 2 ^ 64 → (m ≡ n → ⊥) → same_word (made_name m) (made_name n) ≡ false
made_differ m n l k apart = false_from_ne_true _ (λ y. apart (made_injective m n l k (same_word_is _ _ y)))

abbrev made_names : ℕ → ℕ → List (List ℕ)
made_names a n = map made_name (range_with_len a n)

none_before : (m a n : ℕ) → m < a → a + n < 2 ^ 64 → among (made_name m) (made_names a n) ≡ false
none_before m a zero low small = refl
none_before m a (suc n) low small =
    or_from _ _ (made_differ m a (omega arith) (omega arith) (λ e. omega (arith, e))) (none_before m (a + 1) n (omega arith) (omega arith))

made_apart : (a n : ℕ) → a + n < 2 ^ 64 → AreApart (made_names a n)
made_apart a zero small = tt
made_apart a (suc n) small = (none_before a (a + 1) n (omega arith) (omega arith), made_apart (a + 1) n (omega arith))

made_within : (ws : List (List ℕ)) (a n : ℕ) → ((k : ℕ) → a ≤ k → k < a + n → among (made_name k) ws ≡ true) → (v : List ℕ) → among v (made_names a n) ≡ true → among v ws ≡ true
made_within ws a zero h v e = absurd (false≢true e)
made_within ws a (suc n) h v e =
    ⊎_elim
    (λ (y : same_word v (made_name a) ≡ true). ap (λ w. among w ws) (same_word_is v (made_name a) y) ∙ h a (omega arith) (omega arith))
    (λ (y : among v (made_names (a + 1) n) ≡ true). made_within ws (a + 1) n (λ k l m. h k (omega arith) (omega arith)) v y)
    (or_cases _ _ e)

-- so many made names can't all be among fewer words
pub made_few : (ws : List (List ℕ)) (a n : ℕ) → a + n < 2 ^ 64 → ((k : ℕ) → a ≤ k → k < a + n → among (made_name k) ws ≡ true) → n ≤ length ws
made_few ws a n small h =
    let l = apart_length (made_names a n) ws (made_apart a n small) (made_within ws a n h) in
    let e = length-map-range_with_len made_name a n in
    omega arith

-- the last made number is no more than the names that are held
pub last_few : (names held : List (List ℕ)) (last : ℕ) → IsLast names held last → last ≤ length held
last_few names held last h =
    let s = h.small in
    made_few held 1 last (omega arith) (λ k l m. h.before k (omega arith) (omega arith))

-- ---- the next number

not_found : (o : Option ℕ) → is_none o ≡ true → is_some o ≡ false
not_found None h = refl
not_found (Some k) h = absurd (false≢true h)

found : (o : Option ℕ) → is_none o ≡ false → is_some o ≡ true
found None h = absurd (false≢true (sym h))
found (Some k) h = refl

pub next_found : (names : List (List ℕ)) (last number : ℕ) (name : List ℕ) (place : Option ℕ) → last < number → number < 2 ^ 32 → name ≡ made_name number → place ≡ place_of name names → is_none place ≡ true → ((k : ℕ) → last < k → k < number → among (made_name k) names ≡ true) → IsNext names last number name
next_found names last number name place later small is e none least = record {
  later = later;
  small = small;
  is = is;
  fresh = sym (is_some-place_of name names) ∙ (ap is_some (sym e) ∙ not_found place none);
  least = least;
}

pub next_passed : (names : List (List ℕ)) (last number : ℕ) (name : List ℕ) (place : Option ℕ) → name ≡ made_name number → place ≡ place_of name names → is_none place ≡ false → ((k : ℕ) → last < k → k < number → among (made_name k) names ≡ true) → (k : ℕ) → last < k → k < number + 1 → among (made_name k) names ≡ true
next_passed names last number name place is e some least k low high =
    ⊎_elim
    (λ (l : k < number). least k low l)
    (λ (g : number ≤ k).
    let same : k ≡ number = omega arith in
    ap (λ j. among (made_name j) names) same ∙ (ap (λ w. among w names) (sym is) ∙ (sym (is_some-place_of name names) ∙ (ap is_some (sym e) ∙ found place some))))
    (cases_lt k number)

pub next_ends : (names : List (List ℕ)) (last number : ℕ) → last + length names + 2 < 2 ^ 32 → 2 ^ 32 - 1 ≤ number → ((k : ℕ) → last < k → k < number → among (made_name k) names ≡ true) → ⊥
next_ends names last number room high least =
    let l = made_few names (last + 1) (length names + 1) (omega arith) (λ k low below. least k (omega arith) (omega arith)) in
    omega arith

pub ruleset next = (next_found, next_passed, next_ends)

-- ---- nets that are made

last_more : (names held : List (List ℕ)) (before number : ℕ) (name : List ℕ) → IsLast names held before → IsNext names before number name → IsLast names (held ++ name ∷ []) number
last_more names held before number name h n = record {
  small = n.small;
  before = λ k low high. ⊎_elim
      (λ (l : k < number). in_left (made_name k) held (name ∷ []) (least k low l))
      (λ (g : number ≤ k).
      let same : k ≡ number = omega arith in
      in_right (made_name k) held (name ∷ []) (ap (λ j. among (made_name j) (name ∷ [])) same ∙ (ap (λ w. among w (name ∷ [])) (sym n.is) ∙ or_left _ _ (same_word_refl name))))
      (cases_lt k number);
  behind = λ k low small.
      let later = n.later in
      let m = n.small in
      let other : same_word (made_name k) name ≡ false = ap (same_word (made_name k)) n.is ∙ made_differ k number (omega arith) (omega arith) (λ e. omega (arith, e)) in
      among-append (made_name k) held (name ∷ []) ∙ (ap (λ b. among (made_name k) held || (b || false)) other ∙ (or-false (among (made_name k) held) ∙ h.behind k (omega arith) small));
}
  where
    least : (k : ℕ) → 0 < k → k < number → among (made_name k) held ≡ true
    least k low l =
        ⊎_elim
        (λ (a : before < k). h.behind k a (let m = n.small in omega arith) ∙ n.least k a l)
        (λ (b : k ≤ before). h.before k low b)
        (cases_lt before k)

-- a name that is made stands among the first numbers behind the last, of which there is one more than names
pub near : (names : List (List ℕ)) (last number : ℕ) (name : List ℕ) → last + length names + 2 < 2 ^ 32 → IsNext names last number name
    → number ≤ last + length names + 1
near names last number name room n =
    ⊎_elim
    (λ (high : last + length names + 1 < number).
    let l = made_few names (last + 1) (length names + 1) (omega arith) (λ k low below. n.least k (omega arith) (omega arith)) in
    absurd (omega (arith, l)))
    (λ (low : number ≤ last + length names + 1). low)
    (cases_lt (last + length names + 1) number)

-- what nets that are made are behind the names that are held, and the number of the last made name then
pub record BehindMade (names : List (List ℕ)) (mades : List MadeNet) (held : List (List ℕ)) (here : List (Option FlatNet)) (last : ℕ) : Type 0 where
  pub after : List (List ℕ)
  pub are : AreMade mades held here after
  pub lasts : IsLast names after last
  pub many : length after ≡ length held + length mades

-- nets with these behind them, whatever names were held
pub record AddsAll (names : List (List ℕ)) (mades : List MadeNet) (before last : ℕ) (old new : List (Option FlatNet)) : Type 0 where
  pub here : List (Option FlatNet)
  pub joined : new ≡ old ++ here
  pub behind : (held : List (List ℕ)) → IsLast names held before → BehindMade names mades held here last

pub adds_none : (names : List (List ℕ)) (last : ℕ) (old : List (Option FlatNet)) → AddsAll names [] last last old old
adds_none names last old = record {
  here = [];
  joined = sym (append-nil old);
  behind = λ held h. record { after = held; are = record { nets_are = refl; after_is = refl }; lasts = h; many = omega arith };
}

-- the name is fresh, whatever names were held
next_fresh : (names held : List (List ℕ)) (before number : ℕ) (name : List ℕ) → IsLast names held before → IsNext names before number name → IsFreshName held name
next_fresh names held before number name h n = record {
  number = number;
  is = n.is;
  positive = let l = n.later in omega arith;
  small = n.small;
  fresh = ap (λ w. among w held) n.is ∙ (h.behind number n.later n.small ∙ (ap (λ w. among w names) (sym n.is) ∙ n.fresh));
  least = λ k low l. ⊎_elim
      (λ (a : before < k). h.behind k a (let m = n.small in omega arith) ∙ n.least k a l)
      (λ (b : k ≤ before). h.before k low b)
      (cases_lt before k);
}

-- one net that is made, and others behind it
pub adds_one : (names : List (List ℕ)) (made : MadeNet) (more : List MadeNet) (before mid last : ℕ) (old here new : List (Option FlatNet))
    → AddsMade names made before mid old here → AddsAll names more mid last here new → AddsAll names (made ∷ more) before last old new
adds_one names made more before mid last old here new one rest = record {
  here = fresh_net one.name made ∷ rest.here;
  joined = rest.joined ∙ (ap (λ ns. ns ++ rest.here) one.joined ∙ append_assoc old (fresh_net one.name made ∷ []) rest.here);
  behind = λ held h.
      let b = rest.behind (held ++ one.name ∷ []) (last_more names held before mid one.name h one.next) in
      record {
        after = b.after;
        are = record { name = one.name; fresh = next_fresh names held before mid one.name h one.next; rest = rest.here; are_rest = b.are; nets_are = refl };
        lasts = b.lasts;
        many = let l = length-append held (one.name ∷ []) in let m = b.many in omega arith;
      };
}

-- the net of a mark, if there is one, and others behind it
pub adds_mark : (names : List (List ℕ)) (mark : Option Cover) (more : List MadeNet) (before mid last : ℕ) (old here new : List (Option FlatNet))
    → AddsMark names mark before mid old here → AddsAll names more mid last here new → AddsAll names (made_mark mark ++ more) before last old new
adds_mark names None more before mid last old here new none rest =
    let P : ℕ → Type 0 = λ n. AddsAll names more n last old new in
    let Q : List (Option FlatNet) → Type 0 = λ ns. AddsAll names more mid last ns new in
    subst P none.0 (subst Q none.1 rest)
adds_mark names (Some cover) more before mid last old here new one rest =
    adds_one names (record { values = 2; cover = cover }) more before mid last old here new one rest
