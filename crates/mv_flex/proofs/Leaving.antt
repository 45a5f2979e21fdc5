-- How many lines match at places, and what is left of lines that go where others match.
use Rattle.std.proofs.Common.{◌≡◌, ◌∙◌, ℕ, ◌+◌, ◌<◌, ◌≤◌, Bool, true, false, ◌&&◌, ◌||◌, nat_lt, cond, List, [], ◌∷◌, ◌++◌, length, get_or, take, drop, drop-cons, zero-add, append_assoc, add-one, sum_by, count_by, All, refl, sym, ap, subst, inl, inr, ⊎_elim, arith}
use Rattle.std.specs.List.{list_all, list_any}
use Rattle.std.proofs.lemmas.Bool.{cases_Bool, false≢true, lt-ltb}
use Rattle.std.proofs.lemmas.List.{drop_all, length-map, map_more}
use Rattle.std.proofs.lemmas.List.Sums.{sum_by-append, sum_by-cons}
use Rattle.std.proofs.lemmas.List.Elements.{All-cons, All-head, All-tail}
use Rattle.mv_base.specs.declared.number.NetId.{NetId}
use Rattle.mv_cover.specs.declared.line.Line.{Line}
use Rattle.mv_cover.specs.Cubes.{matches}
use Rattle.mv_flex.specs.Left.{AreLeft}
use Rattle.mv_flex.specs.Spaces.{value_at}
use Rattle.mv_flex.specs.Places.{are_matched, times_matched, all_times, one_less, less_by, IsUnderWay}

-- ---- counts

-- a line in the midst counts as itself
split_count : (p : Line → Bool) (front : List Line) (l : Line) (back : List Line) → count_by p (front ++ l ∷ back) ≡ cond (p l) 1 0 + count_by p (front ++ back)
split_count p front l back =
    let f : Line → ℕ = λ x. cond (p x) 1 0 in
    let whole : sum_by f (front ++ l ∷ back) ≡ sum_by f front + sum_by f (l ∷ back) = sum_by-append f front (l ∷ back) in
    let tail : sum_by f (l ∷ back) ≡ f l + sum_by f back = sum_by-cons f l back in
    let rest : sum_by f (front ++ back) ≡ sum_by f front + sum_by f back = sum_by-append f front back in
    omega (arith, whole, tail, rest)

-- so where it goes the count is one less if it matches
less_one : (nets : List NetId) (front : List Line) (l : Line) (back : List Line) (vs : List ℕ) → one_less nets l vs (times_matched nets (front ++ l ∷ back) vs) ≡ times_matched nets (front ++ back) vs
less_one nets front l back vs =
    let p : Line → Bool = λ (x : Line). matches (value_at nets vs) x.cube in
    elim (cases_Bool (p l)) [
      | inl t ↦ rw t (let e : count_by p (front ++ l ∷ back) ≡ 1 + count_by p (front ++ back) = split_count p front l back ∙ rw t refl in omega (arith, e))
      | inr f ↦ rw f (split_count p front l back ∙ rw f (omega arith))
    ]

less_all : (nets : List NetId) (front : List Line) (l : Line) (back : List Line) (places : List (List ℕ)) → less_by nets l places (all_times nets (front ++ l ∷ back) places) ≡ all_times nets (front ++ back) places
less_all nets front l back [] = refl
less_all nets front l back (vs ∷ places) = λ i. less_one nets front l back vs i ∷ less_all nets front l back places i

-- some line matches where the count isn't zero
one_more : (b : Bool) (k : ℕ) → nat_lt 0 (cond b 1 0 + k) ≡ (b || nat_lt 0 k)
one_more true k = lt-ltb 0 (1 + k) (omega arith)
one_more false k = ap (nat_lt 0) (zero-add k)

counted : (p : Line → Bool) (lines : List Line) → nat_lt 0 (count_by p lines) ≡ list_any p lines
counted p [] = refl
counted p (l ∷ lines) =
    let f : Line → ℕ = λ x. cond (p x) 1 0 in
    ap (nat_lt 0) (sum_by-cons f l lines) ∙ one_more (p l) (sum_by f lines) ∙ ap (λ b. p l || b) (counted p lines)

all_counted : (nets : List NetId) (lines : List Line) (places : List (List ℕ)) → list_all (nat_lt 0) (all_times nets lines places) ≡ are_matched nets places lines
all_counted nets lines [] = refl
all_counted nets lines (vs ∷ places) = λ i. counted (λ (l : Line). matches (value_at nets vs) l.cube) lines i && all_counted nets lines places i

-- one place more
pub less_more : (nets : List NetId) (l : Line) (places : List (List ℕ)) (counts rest new all : List ℕ) (i : ℕ) (vs : List ℕ) (count : ℕ) → i < length places → i < length counts → vs ≡ get_or places i vs → count ≡ get_or counts i count → rest ++ less_by nets l (drop i places) (drop i counts) ≡ all → new ≡ rest ++ one_less nets l vs count ∷ [] → new ++ less_by nets l (drop (i + 1) places) (drop (i + 1) counts) ≡ all
less_more nets l places counts rest new all i vs count low small is_vs is_count before e =
    ap (λ k. k ++ less_by nets l (drop (i + 1) places) (drop (i + 1) counts)) e
    ∙ append_assoc rest (one_less nets l vs count ∷ []) (less_by nets l (drop (i + 1) places) (drop (i + 1) counts))
    ∙ ap (λ k. rest ++ k) (sym next)
    ∙ before
  where
    next : less_by nets l (drop i places) (drop i counts) ≡ one_less nets l vs count ∷ less_by nets l (drop (i + 1) places) (drop (i + 1) counts)
    next =
        (λ j. less_by nets l (drop-cons places i vs low j) (drop-cons counts i count small j))
        ∙ (λ j. one_less nets l (sym is_vs j) (sym is_count j) ∷ less_by nets l (drop (sym (add-one i) j) places) (drop (sym (add-one i) j) counts))

pub times_more : (nets : List NetId) (lines : List Line) (places : List (List ℕ)) (counts new : List ℕ) (i : ℕ) (vs : List ℕ) (count : ℕ) → i < length places → vs ≡ get_or places i vs → counts ≡ all_times nets lines (take i places) → count ≡ times_matched nets lines vs → new ≡ counts ++ count ∷ [] → new ≡ all_times nets lines (take (i + 1) places)
times_more nets lines places counts new i vs count low is before now e =
    e ∙ (λ j. before j ++ (now ∙ ap (times_matched nets lines) is) j ∷ []) ∙ sym (map_more (times_matched nets lines) places i vs low)

-- ---- what is left

-- enough are left where some line matches at each place
abbrev pub matching : List NetId → List (List ℕ) → List Line → Type 0
matching nets places some = are_matched nets places some ≡ true

pub counts_long : (nets : List NetId) (places : List (List ℕ)) (lines : List Line) (counts : List ℕ) → counts ≡ all_times nets lines places → length counts ≡ length places
counts_long nets places lines counts e = ap length e ∙ length-map places (times_matched nets lines)

pub under_way : (nets : List NetId) (places : List (List ℕ)) (lines : List Line) (counts : List ℕ) → counts ≡ all_times nets lines places → IsUnderWay nets places lines [] counts 0
under_way nets places lines counts e = record { counted = e; later = λ left a. a }

-- the lines that are left, and behind them those from the place on
behind : (lines front : List Line) (i : ℕ) (l : Line) → i < length lines → l ≡ get_or lines i l → front ++ drop i lines ≡ front ++ l ∷ drop (i + 1) lines
behind lines front i l low is = ap (λ k. front ++ k) (drop-cons lines i l low ∙ (λ j. sym is j ∷ drop (sym (add-one i) j) lines))

pub line_goes : (nets : List NetId) (places : List (List ℕ)) (lines front : List Line) (counts rest : List ℕ) (i : ℕ) (l : Line) (some : Bool) → i < length lines → l ≡ get_or lines i l → IsUnderWay nets places lines front counts i → rest ≡ less_by nets l places counts → some ≡ list_all (nat_lt 0) rest → some ≡ true → IsUnderWay nets places lines front rest (i + 1)
line_goes nets places lines front counts rest i l some low is under less test passes =
    let now : rest ≡ all_times nets (front ++ drop (i + 1) lines) places =
    less ∙ ap (less_by nets l places) (under.counted ∙ ap (λ k. all_times nets k places) (behind lines front i l low is)) ∙ less_all nets front l (drop (i + 1) lines) places in
    let enough : matching nets places (front ++ drop (i + 1) lines) =
    sym (all_counted nets (front ++ drop (i + 1) lines) places) ∙ ap (list_all (nat_lt 0)) (sym now) ∙ sym test ∙ passes in
    record {
      counted = now;
      later = λ left a.
          under.later left
          (subst (λ k. AreLeft (matching nets places) front k left) (sym (drop-cons lines i l low ∙ (λ j. sym is j ∷ drop (sym (add-one i) j) lines)))
          (inl (enough, a)));
    }

pub line_stays : (nets : List NetId) (places : List (List ℕ)) (lines front : List Line) (counts rest : List ℕ) (i : ℕ) (l : Line) (some : Bool) → i < length lines → l ≡ get_or lines i l → IsUnderWay nets places lines front counts i → rest ≡ less_by nets l places counts → some ≡ list_all (nat_lt 0) rest → some ≡ false → IsUnderWay nets places lines (front ++ l ∷ []) counts (i + 1)
line_stays nets places lines front counts rest i l some low is under less test fails =
    let all : front ++ drop i lines ≡ front ++ l ∷ drop (i + 1) lines = behind lines front i l low is in
    let now : rest ≡ all_times nets (front ++ drop (i + 1) lines) places =
    less ∙ ap (less_by nets l places) (under.counted ∙ ap (λ k. all_times nets k places) all) ∙ less_all nets front l (drop (i + 1) lines) places in
    let lacks : matching nets places (front ++ drop (i + 1) lines) → ⊥ =
    λ enough. false≢true (sym fails ∙ test ∙ ap (list_all (nat_lt 0)) now ∙ all_counted nets (front ++ drop (i + 1) lines) places ∙ enough) in
    record {
      counted = under.counted ∙ ap (λ k. all_times nets k places) (all ∙ sym (append_assoc front (l ∷ []) (drop (i + 1) lines)));
      later = λ left a.
          under.later left
          (subst (λ k. AreLeft (matching nets places) front k left) (sym (drop-cons lines i l low ∙ (λ j. sym is j ∷ drop (sym (add-one i) j) lines)))
          (inr (lacks, a)));
    }

pub all_left : (nets : List NetId) (places : List (List ℕ)) (lines front : List Line) (counts : List ℕ) (i : ℕ) → length lines ≤ i → IsUnderWay nets places lines front counts i → AreLeft (matching nets places) [] lines front
all_left nets places lines front counts i past under =
    under.later front (subst (λ k. AreLeft (matching nets places) front k front) (sym (drop_all i lines past)) refl)

-- ---- another test that says the same of such lines

pub all_without : (P : Line → Type 0) (front : List Line) (l : Line) (back : List Line) → All P (front ++ l ∷ back) → All P (front ++ back)
all_without P [] l back all = All-tail P l back all
all_without P (x ∷ front) l back all = All-cons P x (front ++ back) (All-head P x (front ++ l ∷ back) all) (all_without P front l back (All-tail P x (front ++ l ∷ back) all))

pub left_alike : (E D : List Line → Type 0) (P : Line → Type 0) → ((ls : List Line) → All P ls → E ls → D ls) → ((ls : List Line) → All P ls → D ls → E ls) → (front ls left : List Line) → All P (front ++ ls) → AreLeft E front ls left → AreLeft D front ls left
left_alike E D P to from front [] left all a = a
left_alike E D P to from front (l ∷ ls) left all a =
    let rest : All P (front ++ ls) = all_without P front l ls all in
    ⊎_elim
    (λ (goes : E (front ++ ls) × AreLeft E front ls left). inl (to (front ++ ls) rest goes.0, left_alike E D P to from front ls left rest goes.1))
    (λ (stays : (E (front ++ ls) → ⊥) × AreLeft E (front ++ l ∷ []) ls left).
    inr (λ d. stays.0 (from (front ++ ls) rest d), left_alike E D P to from (front ++ l ∷ []) ls left (subst (All P) (sym (append_assoc front (l ∷ []) ls)) all) stays.1))
    a
