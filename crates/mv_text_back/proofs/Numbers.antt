-- Nets by number and by name, in a network whose nets differ in name.
use Rattle.std.proofs.Common.{◌≡◌, ℕ, suc, zero, ◌+◌, ◌<◌, ◌≤◌, Bool, true, false, not, ◌&&◌, ◌||◌, List, [], ◌∷◌, ◌++◌, map, Option, Some, None, refl, sym, ◌∙◌, ap, arith, subst, ⊎_elim}
use Rattle.std.specs.Prelude.{nat_eq, if◌then◌else◌, filter}
use Rattle.std.specs.List.{list_all, list_any, range_with_len}
use Rattle.std.proofs.lemmas.Bool.{and_parts, and_from, or_cases, or_left, or_right, or_from, eqb-true, eq-eqb, ne_eqb, cases_eq, cond_both, not-true, false≢true, not_from_false, false_from_ne_true}
use Rattle.std.proofs.lemmas.List.Folds.{list_any-append}
use Rattle.mv_base.specs.Names.{same_word, among, names_differ}
use Rattle.mv_base.proofs.NameLemmas.{same_word_is, same_word_refl}
use Rattle.mv_base.specs.declared.number.NetId.{NetId}
use Rattle.mv_net.specs.declared.parts.FlatNet.{FlatNet}
use Rattle.mv_net.specs.Nets.{slot, name_in}
use Rattle.mv_net.specs.Formed.{IsReadable}
use Rattle.mv_graph.specs.Nets.{all_differ, has_id}
use Rattle.mv_text.specs.Text.{numbers}

-- ---- lists of numbers

abbrev pub number_in : ℕ → List ℕ → Bool
number_in k ks = list_any (nat_eq k) ks

abbrev pub numbers_differ : List ℕ → Bool
numbers_differ [] = true
numbers_differ (k ∷ ks) = not (number_in k ks) && numbers_differ ks

eqb_sym : (a b : ℕ) → nat_eq a b ≡ nat_eq b a
eqb_sym a b =
    ⊎_elim (λ (e : a ≡ b). eq-eqb a b e ∙ sym (eq-eqb b a (sym e))) (λ (n : a ≡ b → ⊥). ne_eqb a b n ∙ sym (ne_eqb b a (λ e. n (sym e)))) (cases_eq a b)

pub number_in-stands : (n : NetId) (ns : List NetId) → number_in n.0 (numbers ns) ≡ has_id ns n.0
number_in-stands n [] = refl
number_in-stands n (m ∷ ns) =
    ap (λ b. nat_eq n.0 m.0 || b) (number_in-stands n ns) ∙ ap (λ b. b || has_id ns n.0) (eqb_sym n.0 m.0)

pub numbers_differ-all : (ns : List NetId) → all_differ ns ≡ true → numbers_differ (numbers ns) ≡ true
numbers_differ-all [] e = refl
numbers_differ-all (n ∷ ns) e =
    let p = and_parts (not (has_id ns n.0)) (all_differ ns) e in
    and_from _ _ (ap not (number_in-stands n ns) ∙ p.0) (numbers_differ-all ns p.1)

-- the names of numbers
abbrev pub names_at : List (Option FlatNet) → List ℕ → List (List ℕ)
names_at nets ks = map (λ k. name_in (slot nets k)) ks

pub names_at-numbers : (nets : List (Option FlatNet)) (ns : List NetId) → map (λ (n : NetId). name_in (slot nets n.0)) ns ≡ names_at nets (numbers ns)
names_at-numbers nets [] = refl
names_at-numbers nets (n ∷ ns) = ap (λ ws. name_in (slot nets n.0) ∷ ws) (names_at-numbers nets ns)

pub among-number : (name : ℕ → List ℕ) (k : ℕ) (ks : List ℕ) → number_in k ks ≡ true → among (name k) (map name ks) ≡ true
among-number name k [] e = cc
among-number name k (j ∷ ks) e =
    ⊎_elim (λ (h : nat_eq k j ≡ true). or_left _ _ (ap (λ i. same_word (name k) (name i)) (sym (eqb-true k j h)) ∙ same_word_refl (name k))) (λ (h : number_in k ks ≡ true). or_right _ _ (among-number name k ks h)) (or_cases (nat_eq k j) (number_in k ks) e)

-- the numbers of a list differ from k in name, where they differ from it
abbrev TellsApart : (ℕ → List ℕ) → ℕ → List ℕ → Type 0
TellsApart name k ks = (j : ℕ) → number_in j ks ≡ true → name k ≡ name j → k ≡ j

number-among : (name : ℕ → List ℕ) (k : ℕ) (ks : List ℕ) → TellsApart name k ks → among (name k) (map name ks) ≡ true → number_in k ks ≡ true
number-among name k [] one e = cc
number-among name k (j ∷ ks) one e =
    ⊎_elim (λ (y : same_word (name k) (name j) ≡ true). or_left _ _ (eq-eqb k j (one j (or_left _ _ (eq-eqb j j refl)) (same_word_is _ _ y)))) (λ (y : among (name k) (map name ks) ≡ true). or_right _ _ (number-among name k ks (λ i h. one i (or_right _ _ h)) y)) (or_cases (same_word (name k) (name j)) (among (name k) (map name ks)) e)

none_of : (b c : Bool) → (b ≡ true → c ≡ true) → c ≡ false → b ≡ false
none_of true c f e = absurd (false≢true (sym e ∙ f refl))
none_of false c f e = refl

-- different numbers have different names, where no two of them have one name
pub names-differ : (name : ℕ → List ℕ) (ks : List ℕ) → ((k : ℕ) → number_in k ks ≡ true → TellsApart name k ks) → numbers_differ ks ≡ true
    → names_differ (map name ks) ≡ true
names-differ name [] one e = refl
names-differ name (k ∷ ks) one e =
    let p = and_parts (not (number_in k ks)) (numbers_differ ks) e in
    let first : TellsApart name k ks = λ j h. one k (or_left _ _ (eq-eqb k k refl)) j (or_right _ _ h) in
    and_from _ _ (not_from_false _ (none_of _ _ (number-among name k ks first) (not-true _ p.0))) (names-differ name ks (λ i a j b. one i (or_right _ _ a) j (or_right _ _ b)) p.1)

-- ---- nets that can be read

abbrev pub AllReadable : List (Option FlatNet) → List ℕ → Type 0
AllReadable nets [] = Unit {0}
AllReadable nets (k ∷ ks) = IsReadable nets k × AllReadable nets ks

pub AllReadable-append : (nets : List (Option FlatNet)) (ks js : List ℕ) → AllReadable nets ks → AllReadable nets js → AllReadable nets (ks ++ js)
AllReadable-append nets [] js a b = b
AllReadable-append nets (k ∷ ks) js a b = (a.0, AllReadable-append nets ks js a.1 b)

-- a fact of each number of a list is one of all
pub readable_from : (nets : List (Option FlatNet)) (ks : List ℕ) → ((k : ℕ) → number_in k ks ≡ true → IsReadable nets k) → AllReadable nets ks
readable_from nets [] f = tt
readable_from nets (k ∷ ks) f = (f k (or_left _ _ (eq-eqb k k refl)), readable_from nets ks (λ j h. f j (or_right _ _ h)))

-- and the other way round
pub readable_in : (nets : List (Option FlatNet)) (ks : List ℕ) (k : ℕ) → AllReadable nets ks → number_in k ks ≡ true → IsReadable nets k
readable_in nets [] k all h = cc
readable_in nets (j ∷ ks) k all h =
    ⊎_elim (λ (y : nat_eq k j ≡ true). subst (IsReadable nets) (sym (eqb-true k j y)) all.0) (λ (y : number_in k ks ≡ true). readable_in nets ks k all.1 y) (or_cases _ _ h)

-- no two held nets have one name
pub record OneName (nets : List (Option FlatNet)) : Type 0 where
  pub only : (n m : ℕ) (f g : FlatNet) → slot nets n ≡ Some f → slot nets m ≡ Some g → f.name ≡ g.name → n ≡ m

name_is : (nets : List (Option FlatNet)) (k : ℕ) (r : IsReadable nets k) → name_in (slot nets k) ≡ r.net.name
name_is nets k r = ap name_in r.held

pub same_number : (nets : List (Option FlatNet)) → OneName nets → (k j : ℕ) → IsReadable nets k → IsReadable nets j
    → name_in (slot nets k) ≡ name_in (slot nets j) → k ≡ j
same_number nets one k j r s e = one.only k j r.net s.net r.held s.held (sym (name_is nets k r) ∙ (e ∙ name_is nets j s))

pub readable_differ : (nets : List (Option FlatNet)) → OneName nets → (ks : List ℕ) → AllReadable nets ks → numbers_differ ks ≡ true
    → names_differ (names_at nets ks) ≡ true
readable_differ nets one ks all e =
    names-differ (λ k. name_in (slot nets k)) ks (λ k a j b. same_number nets one k j (readable_in nets ks k all a) (readable_in nets ks j all b)) e

-- ---- the number of a name

abbrev pub is_named : List ℕ → Option FlatNet → Bool
is_named w None = false
is_named w (Some f) = same_word w f.name

-- the number of the first net with this name
abbrev pub number_named : List ℕ → List (Option FlatNet) → ℕ
number_named w [] = 0
number_named w (f ∷ fs) = if is_named w f then 0 else suc (number_named w fs)

named_first : (w : List ℕ) (f : Option FlatNet) (fs : List (Option FlatNet)) → is_named w f ≡ true → number_named w (f ∷ fs) ≡ 0
named_first w f fs e = rw e refl

named_later : (w : List ℕ) (f : Option FlatNet) (fs : List (Option FlatNet)) → is_named w f ≡ false → number_named w (f ∷ fs) ≡ suc (number_named w fs)
named_later w f fs e = rw e refl

named_some : (w : List ℕ) (f : Option FlatNet) → is_named w f ≡ true → (g : FlatNet) × (f ≡ Some g) × (w ≡ g.name)
named_some w None e = cc
named_some w (Some g) e = (g, refl, same_word_is w g.name e)

suc_same : (m n : ℕ) → suc m ≡ suc n → m ≡ n
suc_same m n e = omega arith

zero_suc : (n : ℕ) → 0 ≡ suc n → ⊥
zero_suc n e = omega arith

number_found : (w : List ℕ) (fs : List (Option FlatNet)) (k : ℕ) (f : FlatNet) → slot fs k ≡ Some f → w ≡ f.name → ((m : ℕ) (g : FlatNet) → slot fs m ≡ Some g → w ≡ g.name → m ≡ k) → number_named w fs ≡ k
number_found w [] k f e same only = cc
number_found w (g ∷ fs) zero f e same only =
    named_first w g fs (rw (e, same) (same_word_refl f.name))
number_found w (g ∷ fs) (suc k) f e same only =
    named_later w g fs (later (is_named w g) refl) ∙ ap suc (number_found w fs k f e same (λ m h s t. suc_same m k (only (suc m) h s t)))
  where
    later : (b : Bool) → is_named w g ≡ b → is_named w g ≡ false
    later false n = n
    later true y =
        let found = named_some w g y in
        absurd (zero_suc k (only 0 found.0 found.1 found.2))

pub number_named-readable : (nets : List (Option FlatNet)) → OneName nets → (k : ℕ) → IsReadable nets k → number_named (name_in (slot nets k)) nets ≡ k
number_named-readable nets one k r =
    number_found (name_in (slot nets k)) nets k r.net r.held (name_is nets k r) (λ m g e s. one.only m k g r.net e r.held (sym s ∙ name_is nets k r))

-- ---- numbers from a range

below_range : (k a n : ℕ) (p : ℕ → Bool) → k < a → number_in k (filter p (range_with_len a n)) ≡ false
below_range k a zero p h = refl
below_range k a (suc n) p h =
    let P : List ℕ → Type 0 = λ ks. number_in k ks ≡ false in
    let rest = below_range k (a + 1) n p (omega arith) in
    cond_both (p a) (a ∷ filter p (range_with_len (a + 1) n)) (filter p (range_with_len (a + 1) n)) P (λ _. or_from _ _ (ne_eqb k a (λ e. omega arith)) rest) (λ _. rest)

pub range-differs : (a n : ℕ) (p : ℕ → Bool) → numbers_differ (filter p (range_with_len a n)) ≡ true
range-differs a zero p = refl
range-differs a (suc n) p =
    let P : List ℕ → Type 0 = λ ks. numbers_differ ks ≡ true in
    let rest = range-differs (a + 1) n p in
    cond_both (p a) (a ∷ filter p (range_with_len (a + 1) n)) (filter p (range_with_len (a + 1) n)) P (λ _. and_from _ _ (not_from_false _ (below_range a (a + 1) n p (omega arith))) rest) (λ _. rest)

-- a number of the range that passes is among them, and only such
pub in-range : (k a n : ℕ) (p : ℕ → Bool) → a ≤ k → k < a + n → p k ≡ true → number_in k (filter p (range_with_len a n)) ≡ true
in-range k a zero p low high e = absurd (omega arith)
in-range k a (suc n) p low high e =
    let P : List ℕ → Type 0 = λ ks. number_in k ks ≡ true in
    cond_both (p a) (a ∷ filter p (range_with_len (a + 1) n)) (filter p (range_with_len (a + 1) n)) P
    (λ _. ⊎_elim (λ (s : k ≡ a). or_left _ _ (eq-eqb k a s)) (λ (d : k ≡ a → ⊥). or_right _ _ (in-range k (a + 1) n p (omega arith) (omega arith) e)) (cases_eq k a))
    (λ f. ⊎_elim (λ (s : k ≡ a). absurd (false≢true (sym (ap p s ∙ f) ∙ e))) (λ (d : k ≡ a → ⊥). in-range k (a + 1) n p (omega arith) (omega arith) e) (cases_eq k a))

-- each of them passes
pub range-passes : (a n : ℕ) (p : ℕ → Bool) → list_all p (filter p (range_with_len a n)) ≡ true
range-passes a zero p = refl
range-passes a (suc n) p =
    let P : List ℕ → Type 0 = λ ks. list_all p ks ≡ true in
    let rest = range-passes (a + 1) n p in
    cond_both (p a) (a ∷ filter p (range_with_len (a + 1) n)) (filter p (range_with_len (a + 1) n)) P (λ e. and_from _ _ e rest) (λ _. rest)

-- ---- more on lists of numbers

pub passes-at : (k : ℕ) (ks : List ℕ) (p : ℕ → Bool) → list_all p ks ≡ true → number_in k ks ≡ true → p k ≡ true
passes-at k [] p all e = cc
passes-at k (j ∷ ks) p all e =
    let both = and_parts (p j) (list_all p ks) all in
    ⊎_elim (λ (h : nat_eq k j ≡ true). ap p (eqb-true k j h) ∙ both.0) (λ (h : number_in k ks ≡ true). passes-at k ks p both.1 h) (or_cases (nat_eq k j) (number_in k ks) e)

pub number_in-append : (k : ℕ) (ks js : List ℕ) → number_in k (ks ++ js) ≡ (number_in k ks || number_in k js)
number_in-append k ks js = list_any-append (nat_eq k) ks js

pub differ-append : (ks js : List ℕ) → numbers_differ ks ≡ true → numbers_differ js ≡ true → ((k : ℕ) → number_in k ks ≡ true → number_in k js ≡ true → ⊥) → numbers_differ (ks ++ js) ≡ true
differ-append [] js e f apart = f
differ-append (k ∷ ks) js e f apart =
    let p = and_parts (not (number_in k ks)) (numbers_differ ks) e in
    let new : number_in k js ≡ false = false_from_ne_true _ (apart k (or_left _ _ (eq-eqb k k refl))) in
    and_from _ _ (not_from_false _ (number_in-append k ks js ∙ or_from _ _ (not-true _ p.0) new)) (differ-append ks js p.1 f (λ j a b. apart j (or_right _ _ a) b))

pub names_at-append : (nets : List (Option FlatNet)) (ks js : List ℕ) → names_at nets (ks ++ js) ≡ names_at nets ks ++ names_at nets js
names_at-append nets [] js = refl
names_at-append nets (k ∷ ks) js = ap (λ ws. name_in (slot nets k) ∷ ws) (names_at-append nets ks js)
