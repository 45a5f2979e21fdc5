-- Labels that move so that a net stands behind its new fanins: they are good for the old fanins and for the new ones.
use Rattle.std.proofs.Common.{◌≡◌, ◌⊎◌, ℕ, ◌%◌, ◌^◌, ◌<◌, ◌≤◌, Bool, true, false, List, [], ◌∷◌, length, set, refl, sym, ap, ◌∙◌, subst, ⊎_elim, inl, inr, arith}
use Rattle.std.specs.Prelude.{nat_eq}
use Rattle.std.proofs.lemmas.Bool.{cases_Bool, cases_eq, cases_lt, or_cases, or_left, or_right, or_from, false≢true, eqb-true, eq-eqb}
use Rattle.std.proofs.lemmas.List.{length-set, get_or-set_same, get_or-set_other}
use Rattle.mv_base.specs.declared.number.NetId.{NetId}
use Rattle.mv_graph.specs.Nets.{has_id, row}
use Rattle.mv_dag.specs.declared.way.Way.TheVariants.{Up, Down}
use Rattle.mv_dag.specs.Ordered.{at, IsOrdered}
use Rattle.mv_dag.specs.Searches.{leads_to, Leads, Here, Then, IsIn, IsReach}
use Rattle.mv_dag.specs.Moves.{in_either}
use Rattle.mv_dag.proofs.Walks.{leads_on}

-- ---- walks

-- a walk down is one up the other way
pub leads_back : (fanins : List (List NetId)) (x y : ℕ) → Leads (leads_to Down fanins) x y → Leads (leads_to Up fanins) y x
leads_back fanins x y (Here _) = Here x
leads_back fanins x y (Then _ v _ walk h) =
    leads_on (leads_to Up fanins) y v x (Then y y v (Here y) h) (leads_back fanins x v walk)

-- none of the new fanins is the net or leads to it
abbrev pub IsFree : List (List NetId) → List NetId → ℕ → Type 0
IsFree fanins new n = (m : ℕ) → has_id new m ≡ true → Leads (leads_to Up fanins) m n → ⊥

only_id : (n : NetId) (m : ℕ) → has_id (n ∷ []) m ≡ true → n.0 ≡ m
only_id n m h = ⊎_elim (λ (y : nat_eq n.0 m ≡ true). eqb-true n.0 m y) (λ y. absurd (false≢true y)) (or_cases (nat_eq n.0 m) false h)

-- the nets above and those below are apart
pub none_both : (fanins : List (List NetId)) (labels : List ℕ) (new above below : List NetId) (n : NetId) (low high : ℕ)
    → IsFree fanins new n.0
    → IsReach (leads_to Up fanins) labels new low high above → IsReach (leads_to Down fanins) labels (n ∷ []) low high below
    → (x : ℕ) → has_id above x ≡ true → has_id below x ≡ true → ⊥
none_both fanins labels new above below n low high free up down x a b =
    let r = up.reached x a in
    let d = down.reached x b in
    let back : Leads (leads_to Up fanins) x n.0 = subst (Leads (leads_to Up fanins) x) (sym (only_id n d.start d.is)) (leads_back fanins d.start x d.leads) in
    free r.start r.is (leads_on (leads_to Up fanins) r.start x n.0 r.leads back)

-- ---- labels that moved

-- one of the nets that moved had the label
pub record WasOf (labels : List ℕ) (above below : List NetId) (label : ℕ) : Type 0 where
  pub net : ℕ
  pub moved : in_either above below net ≡ true
  pub had : label ≡ at labels net

-- the nets of two lists share their labels anew: each list keeps its order, and the nets above stand before those below,
-- lower than they stood, and those below higher
pub record AreMoved (labels after : List ℕ) (above below : List NetId) : Type 0 where
  pub long : length after ≡ length labels
  pub stays : (x : ℕ) → in_either above below x ≡ false → at after x ≡ at labels x
  pub above_order : (x y : ℕ) → has_id above x ≡ true → has_id above y ≡ true → at labels x < at labels y → at after x < at after y
  pub below_order : (x y : ℕ) → has_id below x ≡ true → has_id below y ≡ true → at labels x < at labels y → at after x < at after y
  pub apart : (x y : ℕ) → has_id above x ≡ true → has_id below y ≡ true → at after x < at after y
  pub down : (x : ℕ) → has_id above x ≡ true → at after x ≤ at labels x
  pub up : (x : ℕ) → has_id below x ≡ true → at labels x ≤ at after x
  pub was : (x : ℕ) → in_either above below x ≡ true → WasOf labels above below (at after x)
  pub one : (x y : ℕ) → in_either above below x ≡ true → in_either above below y ≡ true → at after x ≡ at after y → x ≡ y

-- ---- the labels' ids

pub same_label : (fanins : List (List NetId)) (labels : List ℕ) → IsOrdered fanins labels → (x y : ℕ) → x < length labels → y < length labels → at labels x ≡ at labels y → x ≡ y
same_label fanins labels o x y l r e = o.differ x y l r (ap (λ k. k % 2 ^ 32) e)

-- what is said of all moved nets
pub record AreHere (labels : List ℕ) (above below : List NetId) (low high : ℕ) : Type 0 where
  pub here : (x : ℕ) → in_either above below x ≡ true → x < length labels
  pub inside : (x : ℕ) → in_either above below x ≡ true → IsIn labels low high x

pub are_here : (up down : ℕ → ℕ → Bool) (labels : List ℕ) (new nets above below : List NetId) (low high : ℕ) → IsReach up labels new low high above → IsReach down labels nets low high below → AreHere labels above below low high
are_here up down labels new nets above below low high a b = record {
  here = λ x h. ⊎_elim (λ y. a.small x y) (λ y. b.small x y) (or_cases (has_id above x) (has_id below x) h);
  inside = λ x h. ⊎_elim (λ y. a.inside x y) (λ y. b.inside x y) (or_cases (has_id above x) (has_id below x) h);
}

module _ (fanins : List (List NetId)) (labels after : List ℕ) (above below : List NetId) (low high : ℕ)
    (o : IsOrdered fanins labels) (here : AreHere labels above below low high) (m : AreMoved labels after above below) where
  -- the label of x was that of some net
  record Had (x : ℕ) : Type 0 where
    net : ℕ
    small : net < length labels
    is : at after x ≡ at labels net
    moves : in_either above below net ≡ in_either above below x

  had : (x : ℕ) → x < length labels → Had x
  had x l =
      ⊎_elim
      (λ (y : in_either above below x ≡ true).
      let w = m.was x y in
      record { net = w.net; small = here.here w.net w.moved; is = w.had; moves = w.moved ∙ sym y })
      (λ (no : in_either above below x ≡ false). record { net = x; small = l; is = m.stays x no; moves = refl })
      (cases_Bool (in_either above below x))

  moved_low : (x : ℕ) → x < length after → at after x % 2 ^ 32 < length after
  moved_low x l =
      let e = m.long in
      let h = had x (omega arith) in
      let r = o.low h.net h.small in
      let s = ap (λ k. k % 2 ^ 32) h.is in
      omega arith

  moved_differ : (x y : ℕ) → x < length after → y < length after → at after x % 2 ^ 32 ≡ at after y % 2 ^ 32 → x ≡ y
  moved_differ x y l r e =
      let long = m.long in
      let h = had x (omega arith) in
      let k = had y (omega arith) in
      let same : h.net ≡ k.net = o.differ h.net k.net h.small k.small (ap (λ i. i % 2 ^ 32) (sym h.is) ∙ (e ∙ ap (λ i. i % 2 ^ 32) k.is)) in
      let alike : in_either above below x ≡ in_either above below y = sym h.moves ∙ (ap (in_either above below) same ∙ k.moves) in
      let label : at after x ≡ at after y = h.is ∙ (ap (at labels) same ∙ sym k.is) in
      ⊎_elim
      (λ (yes : in_either above below x ≡ true). m.one x y yes (sym alike ∙ yes) label)
      (λ (no : in_either above below x ≡ false).
      same_label fanins labels o x y (omega arith) (omega arith) (sym (m.stays x no) ∙ (label ∙ m.stays y (sym alike ∙ no))))
      (cases_Bool (in_either above below x))

  low_after : (x : ℕ) → in_either above below x ≡ true → (low ≤ at after x) × (at after x ≤ high)
  low_after x h =
      let w = m.was x h in
      let i = here.inside w.net w.moved in
      let e = w.had in
      let l = i.0 in
      let r = i.1 in
      (omega arith, omega arith)

-- ---- the old fanins

-- on which side a net is
data Side (above below : List NetId) (x : ℕ) : Type 0 where
  at_above : has_id above x ≡ true → Side above below x
  at_below : has_id below x ≡ true → Side above below x
  at_none : has_id above x ≡ false → has_id below x ≡ false → Side above below x

side_of : (above below : List NetId) (x : ℕ) → Side above below x
side_of above below x =
    ⊎_elim (λ (y : has_id above x ≡ true). at_above y)
    (λ (no : has_id above x ≡ false).
    ⊎_elim (λ (y : has_id below x ≡ true). at_below y) (λ (f : has_id below x ≡ false). at_none no f) (cases_Bool (has_id below x)))
    (cases_Bool (has_id above x))

module _ (fanins : List (List NetId)) (labels after : List ℕ) (new above below : List NetId) (n : NetId) (high : ℕ)
    (o : IsOrdered fanins labels) (free : IsFree fanins new n.0)
    (up : IsReach (leads_to Up fanins) labels new (at labels n.0) high above) (down : IsReach (leads_to Down fanins) labels (n ∷ []) (at labels n.0) high below)
    (m : AreMoved labels after above below) where
  here : AreHere labels above below (at labels n.0) high
  here = are_here (leads_to Up fanins) (leads_to Down fanins) labels new (n ∷ []) above below (at labels n.0) high up down

  unmoved : (x : ℕ) → has_id above x ≡ false → has_id below x ≡ false → at after x ≡ at labels x
  unmoved x a b = m.stays x (or_from (has_id above x) (has_id below x) a b)

  between : (x : ℕ) → in_either above below x ≡ true → (at labels n.0 ≤ at after x) × (at after x ≤ high)
  between = low_after fanins labels after above below (at labels n.0) high o here m

  -- what a net above reads is above, or lower than all that move
  reads_above : (x y : ℕ) → has_id (row fanins x) y ≡ true → has_id above x ≡ true → (has_id above y ≡ true) ⊎ (at labels y < at labels n.0)
  reads_above x y h a =
      ⊎_elim (λ (l : at labels y < at labels n.0). inr l)
      (λ (l : at labels n.0 ≤ at labels y).
      let f = o.falls x y h in
      let i = up.inside x a in
      let r = i.1 in
      inl (up.closed x y a h (l, omega arith)))
      (cases_lt (at labels y) (at labels n.0))

  -- what reads a net below is below, or higher than all that move
  read_below : (x y : ℕ) → has_id (row fanins x) y ≡ true → has_id below y ≡ true → (has_id below x ≡ true) ⊎ (high < at labels x)
  read_below x y h b =
      ⊎_elim (λ (l : high < at labels x). inr l)
      (λ (l : at labels x ≤ high).
      let f = o.falls x y h in
      let i = down.inside y b in
      let r = i.0 in
      inl (down.closed y x b h (omega arith, l)))
      (cases_lt high (at labels x))

  falls_from_above : (x y : ℕ) → has_id (row fanins x) y ≡ true → has_id above x ≡ true → Side above below y → at after y < at after x
  falls_from_above x y h a (at_above b) = m.above_order y x b a (o.falls x y h)
  falls_from_above x y h a (at_below b) =
      ⊎_elim
      (λ (c : has_id above y ≡ true). absurd (none_both fanins labels new above below n (at labels n.0) high free up down y c b))
      (λ (l : at labels y < at labels n.0). let i = down.inside y b in let r = i.0 in absurd (omega arith))
      (reads_above x y h a)
  falls_from_above x y h a (at_none b c) =
      ⊎_elim
      (λ (d : has_id above y ≡ true). absurd (false≢true (sym b ∙ d)))
      (λ (l : at labels y < at labels n.0).
      let i = between x (or_left (has_id above x) (has_id below x) a) in
      let r = i.0 in
      let e = unmoved y b c in
      omega arith)
      (reads_above x y h a)

  falls_from_below : (x y : ℕ) → has_id (row fanins x) y ≡ true → has_id below x ≡ true → Side above below y → at after y < at after x
  falls_from_below x y h b (at_above a) = m.apart y x a b
  falls_from_below x y h b (at_below c) = m.below_order y x c b (o.falls x y h)
  falls_from_below x y h b (at_none c d) =
      let f = o.falls x y h in
      let u = m.up x b in
      let e = unmoved y c d in
      omega arith

  falls_from_none : (x y : ℕ) → has_id (row fanins x) y ≡ true → has_id above x ≡ false → has_id below x ≡ false → Side above below y → at after y < at after x
  falls_from_none x y h c d (at_above a) =
      let f = o.falls x y h in
      let u = m.down y a in
      let e = unmoved x c d in
      omega arith
  falls_from_none x y h c d (at_below b) =
      ⊎_elim
      (λ (k : has_id below x ≡ true). absurd (false≢true (sym d ∙ k)))
      (λ (l : high < at labels x).
      let i = between y (or_right (has_id above y) (has_id below y) b) in
      let r = i.1 in
      let e = unmoved x c d in
      omega arith)
      (read_below x y h b)
  falls_from_none x y h c d (at_none a b) =
      let f = o.falls x y h in
      let e = unmoved x c d in
      let g = unmoved y a b in
      omega arith

  falls_from : (x y : ℕ) → has_id (row fanins x) y ≡ true → Side above below x → at after y < at after x
  falls_from x y h (at_above a) = falls_from_above x y h a (side_of above below y)
  falls_from x y h (at_below b) = falls_from_below x y h b (side_of above below y)
  falls_from x y h (at_none a b) = falls_from_none x y h a b (side_of above below y)

  -- the labels are good for the old fanins
  pub still_ordered : IsOrdered fanins after
  still_ordered = record {
    long = m.long ∙ o.long;
    falls = λ x y h. falls_from x y h (side_of above below x);
    low = moved_low fanins labels after above below (at labels n.0) high o here m;
    differ = moved_differ fanins labels after above below (at labels n.0) high o here m;
  }

  -- and each of the new ones has a label below the net's
  pub new_lower : at labels n.0 ≤ high → ((k : ℕ) → has_id new k ≡ true → at labels k ≤ high) → (k : ℕ) → has_id new k ≡ true → at after k < at after n.0
  new_lower wide highest k h =
      let b : has_id below n.0 ≡ true = down.starts_in n.0 (or_left (nat_eq n.0 n.0) false (eq-eqb n.0 n.0 refl)) (omega arith, wide) in
      ⊎_elim
      (λ (l : at labels k < at labels n.0).
      let u = m.up n.0 b in
      let e = unmoved k (not_above k l) (not_below k l) in
      omega arith)
      (λ (l : at labels n.0 ≤ at labels k). m.apart k n.0 (up.starts_in k h (l, highest k h)) b)
      (cases_lt (at labels k) (at labels n.0))
    where
      not_above : (k : ℕ) → at labels k < at labels n.0 → has_id above k ≡ false
      not_above k l =
          ⊎_elim (λ (y : has_id above k ≡ true). let i = up.inside k y in let r = i.0 in absurd (omega arith)) (λ (f : has_id above k ≡ false). f)
          (cases_Bool (has_id above k))

      not_below : (k : ℕ) → at labels k < at labels n.0 → has_id below k ≡ false
      not_below k l =
          ⊎_elim (λ (y : has_id below k ≡ true). let i = down.inside k y in let r = i.0 in absurd (omega arith)) (λ (f : has_id below k ≡ false). f)
          (cases_Bool (has_id below k))

-- ---- the new fanins

-- a net may read others in place of its fanins where their labels are below its own
pub ordered_set : (fanins : List (List NetId)) (labels : List ℕ) (n : ℕ) (new : List NetId) → n < length fanins → ((m : ℕ) → has_id new m ≡ true → at labels m < at labels n) → IsOrdered fanins labels → IsOrdered (set fanins n new) labels
ordered_set fanins labels n new l lower o = record {
  long = o.long ∙ sym (length-set fanins n new);
  falls = λ x y h. ⊎_elim
      (λ (e : x ≡ n).
      let r : row (set fanins n new) x ≡ new = ap (row (set fanins n new)) e ∙ get_or-set_same fanins n new [] l in
      let f = lower y (ap (λ ns. has_id ns y) (sym r) ∙ h) in
      let g = ap (at labels) e in
      omega arith)
      (λ (no : x ≡ n → ⊥). o.falls x y (ap (λ ns. has_id ns y) (sym (get_or-set_other fanins n x new [] no)) ∙ h))
      (cases_eq x n);
  low = o.low;
  differ = o.differ;
}
