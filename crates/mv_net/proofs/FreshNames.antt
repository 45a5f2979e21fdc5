-- A free name is found before the numbers end: each net has one made name at most.
use Rattle.std.proofs.Common.{◌≡◌, ◌∙◌, ℕ, zero, suc, ◌+◌, ◌-◌, ◌<◌, ◌≤◌, ◌^◌, Bool, true, false, not, ◌||◌, cond, List, [], ◌∷◌, ◌++◌, length, drop, Option, Some, None, is_some, sum_by, count_by, refl, sym, ap, ⊎_elim, arith, zero-add}
use Rattle.std.specs.Prelude.{MatchOption, IfSome, IsNone}
use Rattle.std.specs.List.{list_any, range_with_len}
use Rattle.std.proofs.lemmas.Bool.{false≢true, cases_Bool, or_cases, or_left, or_right, false_from_ne_true}
use Rattle.std.proofs.lemmas.Fmt.{decimal_injective}
use Rattle.std.proofs.lemmas.List.FromFn.{length-range_with_len}
use Rattle.std.proofs.lemmas.List.Sums.{sum_by-append}
use Rattle.mv_base.specs.Names.{same_word}
use Rattle.mv_base.specs.declared.limits.TheConstants.{MAX_NETS}
use Rattle.mv_base.specs.declared.number.NetId.{NetId}
use Rattle.mv_base.proofs.NameLemmas.{same_word_is, same_word_refl}
use Rattle.mv_net.specs.declared.parts.FlatNet.{FlatNet}
use Rattle.mv_net.specs.Index.{HasName}
use Rattle.mv_net.specs.Fresh.{made_name, is_named, is_taken, IsFreeName, IsFreshName, AreMade}

-- ---- a name that some net has

-- the net of the name
pub record Named (nets : List (Option FlatNet)) (name : List ℕ) : Type 0 where
  pub at : ℕ
  pub has : HasName nets at name

named_later : (f : Option FlatNet) (nets : List (Option FlatNet)) (name : List ℕ) → Named nets name → Named (f ∷ nets) name
named_later f nets name n = record { at = suc n.at; has = record { net = n.has.net; held = n.has.held; is = n.has.is } }

pub named_found : (nets : List (Option FlatNet)) (name : List ℕ) → list_any (is_named name) nets ≡ true → Named nets name
named_found [] name h = absurd (false≢true h)
named_found (None ∷ nets) name h = named_later None nets name (named_found nets name h)
named_found (Some f ∷ nets) name h =
    ⊎_elim
    (λ (y : same_word f.name name ≡ true). record { at = 0; has = record { net = f; held = refl; is = same_word_is f.name name y } })
    (λ (rest : list_any (is_named name) nets ≡ true). named_later (Some f) nets name (named_found nets name rest))
    (or_cases (same_word f.name name) (list_any (is_named name) nets) h)

pub named_any : (nets : List (Option FlatNet)) (n : ℕ) (name : List ℕ) → HasName nets n name → list_any (is_named name) nets ≡ true
named_any [] n name h = let bad : None ≡ Some h.net = h.held in cc
named_any (f ∷ nets) zero name h =
    or_left (is_named name f) (list_any (is_named name) nets)
    (ap (is_named name) h.held ∙ (ap (λ w. same_word w name) h.is ∙ same_word_refl name))
named_any (f ∷ nets) (suc n) name h =
    or_right (is_named name f) (list_any (is_named name) nets) (named_any nets n name (record { net = h.net; held = h.held; is = h.is }))

-- what a look-up answers
pub taken_answer : (nets : List (Option FlatNet)) (name : List ℕ) (number : ℕ) (o : Option NetId) → name ≡ made_name number → IfSome o (λ n. HasName nets n.0 name) → (IsNone o → (n : ℕ) → HasName nets n name → ⊥) → is_some o ≡ is_taken nets number
taken_answer nets name number (Some n) e some none = sym (ap (λ w. list_any (is_named w) nets) (sym e) ∙ named_any nets n.0 name some)
taken_answer nets name number None e some none =
    sym (ap (λ w. list_any (is_named w) nets) (sym e) ∙ false_from_ne_true _ (λ y. let f = named_found nets name y in none refl f.at f.has))

-- ---- counts over numbers

sum_by-cons : (f : ℕ → ℕ) (x : ℕ) (xs : List ℕ) → sum_by f (x ∷ xs) ≡ f x + sum_by f xs
sum_by-cons f x xs = let e = sum_by-append f (x ∷ []) xs in omega (arith, e)

count_no : (p : ℕ → Bool) (x : ℕ) (xs : List ℕ) → p x ≡ false → count_by p (x ∷ xs) ≡ count_by p xs
count_no p x xs e = let s = sum_by-cons (λ y. cond {A = ℕ} (p y) 1 0) x xs in let z : cond {A = ℕ} (p x) 1 0 ≡ 0 = ap (λ (b : Bool). cond {A = ℕ} b 1 0) e in omega (arith, s)

count_yes : (p : ℕ → Bool) (x : ℕ) (xs : List ℕ) → p x ≡ true → count_by p (x ∷ xs) ≡ 1 + count_by p xs
count_yes p x xs e = let s = sum_by-cons (λ y. cond {A = ℕ} (p y) 1 0) x xs in let z : cond {A = ℕ} (p x) 1 0 ≡ 1 = ap (λ (b : Bool). cond {A = ℕ} b 1 0) e in omega (arith, s)

-- those that pass and those that don't are all
count_split : (p : ℕ → Bool) (xs : List ℕ) → count_by p xs + count_by (λ x. not (p x)) xs ≡ length xs
count_split p [] = refl
count_split p (x ∷ xs) =
    let h = count_split p xs in
    ⊎_elim
    (λ (y : p x ≡ true). let a = count_yes p x xs y in let b = count_no (λ k. not (p k)) x xs (ap not y) in omega arith)
    (λ (n : p x ≡ false). let a = count_no p x xs n in let b = count_yes (λ k. not (p k)) x xs (ap not n) in omega arith)
    (cases_Bool (p x))

count_or : (p q : ℕ → Bool) (xs : List ℕ) → count_by (λ k. p k || q k) xs ≤ count_by p xs + count_by q xs
count_or p q [] = omega arith
count_or p q (x ∷ xs) =
    let h = count_or p q xs in
    let r : ℕ → Bool = λ k. p k || q k in
    ⊎_elim
    (λ (y : p x ≡ true).
    let a = count_yes p x xs y in
    let b = count_yes r x xs (or_left (p x) (q x) y) in
    let c : count_by q xs ≤ count_by q (x ∷ xs) = omega (arith, sum_by-cons (λ k. cond {A = ℕ} (q k) 1 0) x xs) in
    omega arith)
    (λ (n : p x ≡ false).
    let a = count_no p x xs n in
    ⊎_elim
    (λ (y : q x ≡ true). let b = count_yes r x xs (or_right (p x) (q x) y) in let c = count_yes q x xs y in omega arith)
    (λ (m : q x ≡ false). let b = count_no r x xs (ap (λ c. c || q x) n ∙ m) in let c = count_no q x xs m in omega arith)
    (cases_Bool (q x)))
    (cases_Bool (p x))

range_push : (a n : ℕ) → range_with_len a (suc n) ≡ range_with_len a n ++ (a + n) ∷ []
range_push a zero = let e : a ≡ a + 0 = omega arith in ap (λ x. x ∷ []) e
range_push a (suc n) = let e : (a + 1) + n ≡ a + suc n = omega arith in ap (λ l. a ∷ l) (range_push (a + 1) n ∙ ap (λ k. range_with_len (a + 1) n ++ k ∷ []) e)

-- one number more
count_next : (p : ℕ → Bool) (number : ℕ) → 0 < number → count_by p (range_with_len 1 (number + 1 - 1)) ≡ count_by p (range_with_len 1 (number - 1)) + cond {A = ℕ} (p number) 1 0
count_next p number positive =
    let e : number + 1 - 1 ≡ suc (number - 1) = omega arith in
    let last : 1 + (number - 1) ≡ number = omega arith in
    ap (λ k. count_by p (range_with_len 1 k)) e
    ∙ (ap (count_by p) (range_push 1 (number - 1) ∙ ap (λ k. range_with_len 1 (number - 1) ++ k ∷ []) last)
    ∙ (sum_by-append (λ k. cond {A = ℕ} (p k) 1 0) (range_with_len 1 (number - 1)) (number ∷ []) ∙ ap (λ k. count_by p (range_with_len 1 (number - 1)) + k) (zero-add (cond {A = ℕ} (p number) 1 0))))

-- ---- each net has one made name at most

pub made_injective : (m n : ℕ) → m < 2 ^ 64 → n < 2 ^ 64 → made_name m ≡ made_name n → m ≡ n
made_injective m n l k e = decimal_injective m n l k (ap (drop 2) e)

count_none : (p : ℕ → Bool) (a n : ℕ) → ((k : ℕ) → a ≤ k → k < a + n → p k ≡ false) → count_by p (range_with_len a n) ≡ 0
count_none p a zero h = refl
count_none p a (suc n) h = count_no p a (range_with_len (a + 1) n) (h a (omega arith) (omega arith)) ∙ count_none p (a + 1) n (λ k low high. h k (omega arith) (omega arith))

named_once : (name : List ℕ) (a n : ℕ) → a + n < 2 ^ 64 → count_by (λ k. same_word name (made_name k)) (range_with_len a n) ≤ 1
named_once name a zero small = omega arith
named_once name a (suc n) small =
    let p : ℕ → Bool = λ k. same_word name (made_name k) in
    ⊎_elim
    (λ (y : p a ≡ true).
    let first = count_yes p a (range_with_len (a + 1) n) y in
    let others = count_none p (a + 1) n (λ k low high. false_from_ne_true (p k) (λ z. absurd (let same : a ≡ k = made_injective a k (omega arith) (omega arith) (sym (same_word_is name (made_name a) y) ∙ same_word_is name (made_name k) z) in omega arith))) in
    omega arith)
    (λ (f : p a ≡ false).
    let first = count_no p a (range_with_len (a + 1) n) f in
    let others = named_once name (a + 1) n (omega arith) in
    omega arith)
    (cases_Bool (p a))

net_once : (f : Option FlatNet) (a n : ℕ) → a + n < 2 ^ 64 → count_by (λ k. is_named (made_name k) f) (range_with_len a n) ≤ 1
net_once None a n small = let e = count_none (λ k. false) a n (λ k low high. refl) in omega arith
net_once (Some f) a n small = named_once f.name a n small

taken_few : (nets : List (Option FlatNet)) (a n : ℕ) → a + n < 2 ^ 64 → count_by (is_taken nets) (range_with_len a n) ≤ length nets
taken_few [] a n small = let e = count_none (λ k. false) a n (λ k low high. refl) in omega arith
taken_few (f ∷ nets) a n small =
    let one = net_once f a n small in
    let others = taken_few nets a n small in
    let all = count_or (λ k. is_named (made_name k) f) (is_taken nets) (range_with_len a n) in
    omega arith

-- ---- the numbers are looked up one by one

-- up to a number to which nets have all made names, no number is free
pub none_free : (nets : List (Option FlatNet)) (made skip : ℕ) → AreMade nets made → count_by (λ k. not (is_taken nets k)) (range_with_len 1 (made + 1 - 1)) + skip ≡ skip
none_free nets made skip are =
    let e : made + 1 - 1 ≡ made = omega arith in
    let none = count_none (λ k. not (is_taken nets k)) 1 made (λ k low high. ap not (are.taken k (omega arith) (omega arith))) in
    let same = ap (λ m. count_by (λ k. not (is_taken nets k)) (range_with_len 1 m)) e in
    omega arith

-- what holds where nothing is answered
pub at_none : {T : Type 0} (o : Option T) (P : Type 0) (Q : T → Type 0) → MatchOption o P Q → ((x : T) → o ≡ Some x → ⊥) → P
at_none None P Q h none = h
at_none (Some x) P Q h none = absurd (none x refl)

abbrev free : List (Option FlatNet) → ℕ → Bool
free nets k = not (is_taken nets k)

pub passed_taken : (nets : List (Option FlatNet)) (skip left number : ℕ) → 0 < number → is_taken nets number ≡ true
    → count_by (λ k. not (is_taken nets k)) (range_with_len 1 (number - 1)) + left ≡ skip → count_by (λ k. not (is_taken nets k)) (range_with_len 1 (number + 1 - 1)) + left ≡ skip
passed_taken nets skip left number positive taken h =
    let next = count_next (free nets) number positive in
    let here : cond {A = ℕ} (free nets number) 1 0 ≡ 0 = ap (λ (b : Bool). cond {A = ℕ} (not b) 1 0) taken in
    omega arith

pub passed_free : (nets : List (Option FlatNet)) (skip left number : ℕ) → 0 < number → 0 < left → is_taken nets number ≡ false
    → count_by (λ k. not (is_taken nets k)) (range_with_len 1 (number - 1)) + left ≡ skip → count_by (λ k. not (is_taken nets k)) (range_with_len 1 (number + 1 - 1)) + (left - 1) ≡ skip
passed_free nets skip left number positive some taken h =
    let next = count_next (free nets) number positive in
    let here : cond {A = ℕ} (free nets number) 1 0 ≡ 1 = ap (λ (b : Bool). cond {A = ℕ} (not b) 1 0) taken in
    omega arith

pub fresh_found : (nets : List (Option FlatNet)) (skip left number : ℕ) (name : List ℕ) → 0 < number → IsFreeName nets number name → left ≡ 0
    → count_by (λ k. not (is_taken nets k)) (range_with_len 1 (number - 1)) + left ≡ skip → IsFreshName nets skip name
fresh_found nets skip left number name positive free e h = record { number = number; positive = positive; free = free; behind = omega arith }

-- the numbers don't end before
pub never_ends : (nets : List (Option FlatNet)) (skip left number : ℕ) → length nets ≤ MAX_NETS → skip < 2 ^ 32 → number < 2 ^ 64 → 2 ^ 64 - 1 ≤ number
    → count_by (λ k. not (is_taken nets k)) (range_with_len 1 (number - 1)) + left ≡ skip → ⊥
never_ends nets skip left number few small low high h =
    let room : 1 + (number - 1) < 2 ^ 64 = omega arith in
    let taken = taken_few nets 1 (number - 1) room in
    let all = count_split (is_taken nets) (range_with_len 1 (number - 1)) in
    let long = length-range_with_len 1 (number - 1) in
    omega arith
