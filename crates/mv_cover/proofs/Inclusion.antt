-- A cube lies in another: one walk along both.
use Rattle.std.proofs.Common.{◌≡◌, ◌∙◌, ℕ, ◌+◌, ◌<◌, ◌≤◌, true, false, ◌&&◌, List, [], ◌∷◌, length, drop, get_or, nat_eq, inl, inr, refl, sym, ap, arith, None, drop-cons}
use Rattle.std.proofs.lemmas.List.{drop_all}
use Rattle.std.proofs.lemmas.Bool.{cases_Bool, false≢true, and_left, ne_eqb, eq-eqb}
use Rattle.mv_base.specs.Set.{Within, meet}
use Rattle.mv_base.proofs.Sets.{meet_of_Within, Within-from_meet}
use Rattle.mv_cover.specs.Literal.{Lit}
use Rattle.mv_cover.specs.Meets.{literal_at}
use Rattle.mv_cover.specs.Containing.{set_lies, lies_in}
use Rattle.mv_cover.proofs.Covering.{same_number}
use Rattle.mv_cover.proofs.Meets.{Rises, Rises-from, nothing_below}
use Rattle.mv_cover.proofs.Walking.{drop_true, Walked, ascends_first, ascends_second, tested, past_first, past_both}

-- a literal on a lower net than all of a cube's doesn't count
pub lies_in-above : (l : Lit) (xs : List Lit) (k : ℕ) (c : List Lit) → l.net.0 < k → Rises k c → lies_in (l ∷ xs) c ≡ lies_in xs c
lies_in-above l xs k [] low r = refl
lies_in-above l xs k (m ∷ c) low r =
    let above : k ≤ m.net.0 = r.0 in
    let other : nat_eq l.net.0 m.net.0 ≡ false = ne_eqb l.net.0 m.net.0 (λ e. absurd (omega arith)) in
    let rest : lies_in (l ∷ xs) c ≡ lies_in xs c = lies_in-above l xs (m.net.0 + 1) c (omega arith) r.1 in
    rw other (ap (λ b. set_lies (literal_at xs m.net.0) m.set && b) rest)

-- a cube that lies in another has literals where that one has
pub missing : (a : List Lit) (m : Lit) (ys : List Lit) → literal_at a m.net.0 ≡ None → lies_in a (m ∷ ys) ≡ false
missing a m ys e = and_left (set_lies (literal_at a m.net.0) m.set) (lies_in a ys) (ap (λ o. set_lies o m.set) e)

pub walked_first : (a b : List Lit) (i j : ℕ) (l m : Lit) → i < length a → j < length b → l ≡ get_or a i l → m ≡ get_or b j m → l.net.0 < m.net.0 → Walked lies_in a b i j → Walked lies_in a b (i + 1) j
walked_first a b i j l m in_a in_b at_i at_j low w =
    let ys = drop (j + 1) b in
    let rises : Rises m.net.0 (m ∷ ys) = Rises-from m.net.0 m ys (omega arith) (ascends_second lies_in a b i j l m in_a in_b at_i at_j w) in
    past_first lies_in a b i j l m in_a in_b at_i at_j w (lies_in-above l (drop (i + 1) a) m.net.0 (m ∷ ys) low rises)

pub walked_both : (a b : List Lit) (i j : ℕ) (l m : Lit) → i < length a → j < length b → l ≡ get_or a i l → m ≡ get_or b j m → l.net.0 ≡ m.net.0 → Within l.set m.set → Walked lies_in a b i j → Walked lies_in a b (i + 1) (j + 1)
walked_both a b i j l m in_a in_b at_i at_j n t w =
    let xs = drop (i + 1) a in
    let ys = drop (j + 1) b in
    let rises : Rises m.net.0 (m ∷ ys) = Rises-from m.net.0 m ys (omega arith) (ascends_second lies_in a b i j l m in_a in_b at_i at_j w) in
    let here : set_lies (literal_at (l ∷ xs) m.net.0) m.set ≡ true = rw (eq-eqb l.net.0 m.net.0 n) (eq-eqb (meet l.set m.set) l.set (meet_of_Within l.set m.set t)) in
    past_both lies_in a b i j l m in_a in_b at_i at_j w
    (drop_true (set_lies (literal_at (l ∷ xs) m.net.0) m.set) (lies_in (l ∷ xs) ys) (lies_in xs ys) here
    (lies_in-above l xs (m.net.0 + 1) ys (omega arith) rises.1))

-- a literal of b on a lower net than what is left of a
pub walked_missing : (a b : List Lit) (i j : ℕ) (l m : Lit) → i < length a → j < length b → l ≡ get_or a i l → m ≡ get_or b j m → m.net.0 < l.net.0 → Walked lies_in a b i j → lies_in a b ≡ false
walked_missing a b i j l m in_a in_b at_i at_j low w =
    let xs = drop (i + 1) a in
    let rises : Rises l.net.0 (l ∷ xs) = Rises-from l.net.0 l xs (omega arith) (ascends_first lies_in a b i j l m in_a in_b at_i at_j w) in
    sym (tested lies_in a b i j l m in_a in_b at_i at_j w) ∙ missing (l ∷ xs) m (drop (j + 1) b) (nothing_below l.net.0 m.net.0 (l ∷ xs) rises low)

-- two sets on one net, the first of which isn't within the second
pub walked_apart : (a b : List Lit) (i j : ℕ) (l m : Lit) → i < length a → j < length b → l ≡ get_or a i l → m ≡ get_or b j m → l.net.0 ≡ m.net.0 → (Within l.set m.set → ⊥) → Walked lies_in a b i j → lies_in a b ≡ false
walked_apart a b i j l m in_a in_b at_i at_j n apart w =
    let xs = drop (i + 1) a in
    let ys = drop (j + 1) b in
    let none : set_lies (literal_at (l ∷ xs) m.net.0) m.set ≡ false = rw (eq-eqb l.net.0 m.net.0 n) (ne_eqb (meet l.set m.set) l.set (λ e. apart (Within-from_meet l.set m.set e))) in
    sym (tested lies_in a b i j l m in_a in_b at_i at_j w) ∙ and_left (set_lies (literal_at (l ∷ xs) m.net.0) m.set) (lies_in (l ∷ xs) ys) none

-- the cube without literals doesn't lie in one that has literals left
bare_lies_outside : (a b : List Lit) (i j : ℕ) → j < length b → length a ≤ i → lies_in (drop i a) (drop j b) ≡ false
bare_lies_outside a b i j low end =
    (λ k. lies_in (drop_all i a end k) (drop-cons b j (record { net = record { 0 = 0 }; set = 0 }) low k))

-- at the end the cube lies in the other where no literal of that one is left
pub walked_end : (a b : List Lit) (i j : ℕ) → (j < length b → length a ≤ i) → Walked lies_in a b i j → nat_eq j (length b) ≡ lies_in a b
walked_end a b i j ended w =
    elim (cases_Bool (nat_eq j (length b))) [
      | inl t ↦
          let end : j ≡ length b = same_number j (length b) t in
          t ∙ (ap (λ (z : List Lit). lies_in (drop i a) z) (sym (drop_all j b (omega arith))) ∙ w.same)
      | inr f ↦
          let ne : j ≡ length b → ⊥ = λ e. false≢true (sym f ∙ eq-eqb j (length b) e) in
          let low : j < length b = (let k = w.within in omega arith) in
          f ∙ (sym (bare_lies_outside a b i j low (ended low)) ∙ w.same)
    ]
