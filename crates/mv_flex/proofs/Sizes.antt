-- In how many ways some nets can have values: no more than lists with all of them.
use Rattle.std.proofs.Common.{◌≡◌, ◌∙◌, ℕ, ◌*◌, ◌<◌, ◌≤◌, ◌^◌, Bool, true, false, not, ◌||◌, nat_eq, nat_lt, cond, List, [], ◌∷◌, ◌++◌, filter, Option, Some, None, is_some, inl, refl, sym, ap, subst, ⊎_elim, arith}
use Rattle.std.proofs.lemmas.Bool.{cases_Bool, false≢true, or_cases, or_left, or_right, and_parts, and_from, eqb-true, not_from_false, not-true, false_from_ne_true}
use Rattle.std.proofs.Math.Nat.{mul_assoc, mul_comm, one-mul, mul-le-mul_left, lt_irrefl}
use Rattle.std.proofs.lemmas.Nat.{mul-lt}
use Rattle.std.proofs.lemmas.List.{map-append}
use Rattle.mv_base.specs.declared.number.NetId.{NetId}
use Rattle.mv_base.specs.declared.limits.TheConstants.{MAX_WINDOW_POINTS}
use Rattle.mv_graph.specs.Nets.{has_id, all_differ, ids_ascend, IsAscending}
use Rattle.mv_graph.proofs.Nets.{above_first, has_id-append}
use Rattle.mv_flex.specs.Spaces.{ways}
use Rattle.mv_net.specs.declared.parts.FlatNet.{FlatNet}
use Rattle.mv_net.specs.declared.parts.NetParts.{NetParts}
use Rattle.mv_net.specs.declared.window.Window.{Window}
use Rattle.mv_net.specs.Nets.{slot, values_in, table_in, reads_in}
use Rattle.mv_net.specs.Index.{is_held}
use Rattle.mv_net.specs.Formed.{WellFormed}
use Rattle.mv_net.specs.Searching.{AreHeld}
use Rattle.mv_net.specs.Window.{ways_in, ways_of}
use Rattle.mv_net.proofs.Known.{reads_readable, values_some}
use Rattle.mv_net.proofs.Windows.{table_held, ways_of-append}
use Rattle.mv_flex.specs.Flex.{IsWindowOf}
use Rattle.mv_flex.specs.Plans.{counts_of, values_of, IsNumbered}
use Rattle.mv_flex.proofs.Held.{has_head}
use Rattle.mv_flex.proofs.Assigning.{has_filtered}

-- each of these nets has some values
pub record HaveSome (counts : ℕ → ℕ) (ns : List NetId) : Type 0 where
  pub each : (m : ℕ) → has_id ns m ≡ true → 0 < counts m

-- the nets but this one
abbrev pub without : ℕ → List NetId → List NetId
without x ns = filter (λ (n : NetId). not (nat_eq n.0 x)) ns

some_behind : (counts : ℕ → ℕ) (n : NetId) (ns : List NetId) → HaveSome counts (n ∷ ns) → HaveSome counts ns
some_behind counts n ns some = record { each = λ m h. some.each m (or_right (nat_eq n.0 m) (has_id ns m) h) }

pub ways_positive : (counts : ℕ → ℕ) (ns : List NetId) → HaveSome counts ns → 0 < ways (values_of counts ns)
ways_positive counts [] some = omega arith
ways_positive counts (n ∷ ns) some =
    mul-lt 0 0 (counts n.0) (ways (values_of counts ns)) (some.each n.0 (has_head n ns)) (ways_positive counts ns (some_behind counts n ns some))

no_less : (a b : ℕ) → 0 < a → b ≤ a * b
no_less a b some = subst (λ k. k ≤ a * b) (mul_comm 1 b ∙ mul_one b) (subst (λ k. k ≤ a * b) (mul_comm b 1) (more a b some))
  where
    mul_one : (k : ℕ) → k * 1 ≡ k
    mul_one k = omega arith

    more : (x y : ℕ) → 0 < x → y * 1 ≤ x * y
    more x y h = subst (λ k. y * 1 ≤ k) (mul_comm y x) (mul-le-mul_left y (omega (arith, h)))

-- nets that pass a test have no more ways than all
pub filter_less : (counts : ℕ → ℕ) (test : ℕ → Bool) (ns : List NetId) → HaveSome counts ns → ways (values_of counts (filter (λ (n : NetId). test n.0) ns)) ≤ ways (values_of counts ns)
filter_less counts test [] some = omega arith
filter_less counts test (n ∷ ns) some =
    let rest = filter_less counts test ns (some_behind counts n ns some) in
    let kept : List NetId = filter (λ (k : NetId). test k.0) ns in
    ⊎_elim
    (λ (y : test n.0 ≡ true).
    subst (λ l. ways (values_of counts l) ≤ ways (values_of counts (n ∷ ns))) (sym (λ i. cond (y i) (n ∷ kept) kept)) (mul-le-mul_left (counts n.0) rest))
    (λ (f : test n.0 ≡ false).
    subst (λ l. ways (values_of counts l) ≤ ways (values_of counts (n ∷ ns))) (sym (λ i. cond (f i) (n ∷ kept) kept))
    (omega (arith, rest, no_less (counts n.0) (ways (values_of counts ns)) (some.each n.0 (has_head n ns)))))
    (cases_Bool (test n.0))

-- one of the nets and the ways without it
pub one_out : (counts : ℕ → ℕ) (x : ℕ) (ns : List NetId) → HaveSome counts ns → has_id ns x ≡ true → counts x * ways (values_of counts (without x ns)) ≤ ways (values_of counts ns)
one_out counts x [] some h = absurd (false≢true h)
one_out counts x (n ∷ ns) some h =
    ⊎_elim
    (λ (y : nat_eq n.0 x ≡ true).
    subst (λ l. counts x * ways (values_of counts l) ≤ ways (values_of counts (n ∷ ns))) (sym (λ i. cond (not (y i)) (n ∷ without x ns) (without x ns)))
    (subst (λ k. counts k * ways (values_of counts (without x ns)) ≤ ways (values_of counts (n ∷ ns))) (eqb-true n.0 x y)
    (mul-le-mul_left (counts n.0) (filter_less counts (λ k. not (nat_eq k x)) ns (some_behind counts n ns some)))))
    (λ (f : nat_eq n.0 x ≡ false).
    subst (λ l. counts x * ways (values_of counts l) ≤ ways (values_of counts (n ∷ ns))) (sym (λ i. cond (not (f i)) (n ∷ without x ns) (without x ns)))
    (subst (λ k. k ≤ ways (values_of counts (n ∷ ns))) (swap (counts n.0) (counts x) (ways (values_of counts (without x ns))))
    (mul-le-mul_left (counts n.0) (one_out counts x ns (some_behind counts n ns some) (ap (λ b. b || has_id ns x) (sym f) ∙ h)))))
    (cases_Bool (nat_eq n.0 x))
  where
    swap : (a b k : ℕ) → a * (b * k) ≡ b * (a * k)
    swap a b k = sym (mul_assoc a b k) ∙ ap (λ c. c * k) (mul_comm a b) ∙ mul_assoc b a k

-- different nets of a list have no more ways than the list
pub ways_less : (counts : ℕ → ℕ) (ns ms : List NetId) → all_differ ns ≡ true → HaveSome counts ms → ((m : ℕ) → has_id ns m ≡ true → has_id ms m ≡ true) → ways (values_of counts ns) ≤ ways (values_of counts ms)
ways_less counts [] ms differ some inside = ways_positive counts ms some
ways_less counts (n ∷ ns) ms differ some inside =
    let both = and_parts (not (has_id ns n.0)) (all_differ ns) differ in
    let rest : ways (values_of counts ns) ≤ ways (values_of counts (without n.0 ms)) =
    ways_less counts ns (without n.0 ms) both.1
    (record { each = λ m h. some.each m (and_parts (not (nat_eq m n.0)) (has_id ms m) (sym (has_filtered (λ k. not (nat_eq k n.0)) ms m) ∙ h)).1 })
    (λ m h.
    has_filtered (λ k. not (nat_eq k n.0)) ms m
    ∙ and_from (not (nat_eq m n.0)) (has_id ms m) (not_from_false (nat_eq m n.0) (other m h (not-true (has_id ns n.0) both.0))) (inside m (or_right (nat_eq n.0 m) (has_id ns m) h))) in
    le_then (counts n.0 * ways (values_of counts ns)) (counts n.0 * ways (values_of counts (without n.0 ms))) (ways (values_of counts ms)) (mul-le-mul_left (counts n.0) rest)
    (one_out counts n.0 ms some (inside n.0 (has_head n ns)))
  where
    other : (m : ℕ) → has_id ns m ≡ true → has_id ns n.0 ≡ false → nat_eq m n.0 ≡ false
    other m h new =
        ⊎_elim
        (λ (y : nat_eq m n.0 ≡ true). absurd (false≢true (sym new ∙ ap (has_id ns) (sym (eqb-true m n.0 y)) ∙ h)))
        (λ (f : nat_eq m n.0 ≡ false). f)
        (cases_Bool (nat_eq m n.0))

    le_then : (a b c : ℕ) → a ≤ b → b ≤ c → a ≤ c
    le_then a b c x y = omega (arith, x, y)

pub ways-append : (cs ds : List ℕ) → ways (cs ++ ds) ≡ ways cs * ways ds
ways-append [] ds = sym (one-mul (ways ds))
ways-append (c ∷ cs) ds = ap (λ k. c * k) (ways-append cs ds) ∙ sym (mul_assoc c (ways cs) (ways ds))

-- nets that ascend differ
pub ascending_differ : (ns : List NetId) → ids_ascend ns ≡ true → all_differ ns ≡ true
ascending_differ [] up = refl
ascending_differ (n ∷ []) up = refl
ascending_differ (n ∷ m ∷ ns) up =
    and_from (not (has_id (m ∷ ns) n.0)) (all_differ (m ∷ ns))
    (not_from_false (has_id (m ∷ ns) n.0) (false_from_ne_true (has_id (m ∷ ns) n.0) (λ y. lt_irrefl n.0 (above_first n (m ∷ ns) n.0 up y))))
    (ascending_differ (m ∷ ns) (and_parts (nat_lt n.0 m.0) (ids_ascend (m ∷ ns)) up).1)

-- ---- the parts of a window

module _ (net : NetParts) (w : Window) (n : ℕ) (formed : WellFormed net) (window : IsWindowOf net n w) (small : ways_of net.nets (w.tables ++ w.inputs) ≤ MAX_WINDOW_POINTS) where
  held_tables : AreHeld net.nets w.tables
  held_tables = record { each = λ m h. table_held (slot net.nets m) ((window.is.tables.members m).0 h).table }

  held_inputs : AreHeld net.nets w.inputs
  held_inputs = record {
    each = λ m h.
        let i = (window.is.inputs.members m).0 h in
        ap is_some (reads_readable net i.reader m formed i.reads).held;
  }

  some_of : (ns : List NetId) → AreHeld net.nets ns → HaveSome (λ m. values_in (slot net.nets m)) ns
  some_of ns held = record { each = λ m h. values_some net m formed (held.each m h) }

  held_in : (m : ℕ) → is_held net.nets m ≡ true → values_in (slot net.nets m) ≡ ways_in (slot net.nets m)
  held_in m h = same (slot net.nets m) h
    where
      same : (f : Option FlatNet) → is_some f ≡ true → values_in f ≡ ways_in f
      same None e = absurd (false≢true e)
      same (Some f) e = refl

  ways_same : (ns : List NetId) → AreHeld net.nets ns → ways (counts_of net.nets ns) ≡ ways_of net.nets ns
  ways_same [] held = refl
  ways_same (k ∷ ns) held =
      let here = held_in k.0 (held.each k.0 (has_head k ns)) in
      let rest = ways_same ns (record { each = λ m h. held.each m (or_right (nat_eq k.0 m) (has_id ns m) h) }) in
      λ i. here i * rest i

  total : ways (counts_of net.nets w.tables) * ways (counts_of net.nets w.inputs) ≤ MAX_WINDOW_POINTS
  total =
      subst (λ k. k ≤ MAX_WINDOW_POINTS) (ways_of-append net.nets w.tables w.inputs ∙ sym (λ i. ways_same w.tables held_tables i * ways_same w.inputs held_inputs i)) small

  tables_some : 0 < ways (counts_of net.nets w.tables)
  tables_some = ways_positive (λ m. values_in (slot net.nets m)) w.tables (some_of w.tables held_tables)

  inputs_some : 0 < ways (counts_of net.nets w.inputs)
  inputs_some = ways_positive (λ m. values_in (slot net.nets m)) w.inputs (some_of w.inputs held_inputs)

  filtered_held : (test : ℕ → Bool) → AreHeld net.nets (filter (λ (m : NetId). test m.0) w.tables)
  filtered_held test = record { each = λ m h. held_tables.each m (and_parts (test m) (has_id w.tables m) (sym (has_filtered test w.tables m) ∙ h)).1 }

  filtered_few : (test : ℕ → Bool) → ways (counts_of net.nets (filter (λ (m : NetId). test m.0) w.tables)) ≤ ways (counts_of net.nets w.tables)
  filtered_few test = filter_less (λ m. values_in (slot net.nets m)) test w.tables (some_of w.tables held_tables)

  small_enough : (k : ℕ) → k ≤ MAX_WINDOW_POINTS → k < 2 ^ 64
  small_enough k h = omega (arith, h)

  through : (a b c : ℕ) → a ≤ b → b ≤ c → a ≤ c
  through a b c x y = omega (arith, x, y)

  pub shown_numbered : IsNumbered net.nets (w.inputs ++ filter (λ (m : NetId). has_id w.outputs m.0) w.tables)
  shown_numbered = record {
    held = record {
      each = λ m h.
          ⊎_elim
          (λ (i : has_id w.inputs m ≡ true). held_inputs.each m i)
          (λ (o : has_id (filter (λ (k : NetId). has_id w.outputs k.0) w.tables) m ≡ true). (filtered_held (λ k. has_id w.outputs k)).each m o)
          (or_cases (has_id w.inputs m) (has_id (filter (λ (k : NetId). has_id w.outputs k.0) w.tables) m) (sym (has_id-append w.inputs (filter (λ (k : NetId). has_id w.outputs k.0) w.tables) m) ∙ h));
    };
    few =
        let out : List NetId = filter (λ (k : NetId). has_id w.outputs k.0) w.tables in
        let both : ways (counts_of net.nets (w.inputs ++ out)) ≡ ways (counts_of net.nets w.inputs) * ways (counts_of net.nets out) =
        ap ways (map-append (λ (k : NetId). values_in (slot net.nets k.0)) w.inputs out) ∙ ways-append (counts_of net.nets w.inputs) (counts_of net.nets out) in
        let less = mul-le-mul_left (ways (counts_of net.nets w.inputs)) (filtered_few (λ k. has_id w.outputs k)) in
        let all : ways (counts_of net.nets w.inputs) * ways (counts_of net.nets w.tables) ≤ MAX_WINDOW_POINTS =
        subst (λ k. k ≤ MAX_WINDOW_POINTS) (mul_comm (ways (counts_of net.nets w.tables)) (ways (counts_of net.nets w.inputs))) total in
        small_enough (ways (counts_of net.nets (w.inputs ++ out))) (subst (λ k. k ≤ MAX_WINDOW_POINTS) (sym both) (through _ _ _ less all));
  }

  pub hidden_numbered : IsNumbered net.nets (filter (λ (m : NetId). not (has_id w.outputs m.0)) w.tables)
  hidden_numbered = record {
    held = filtered_held (λ k. not (has_id w.outputs k));
    few =
        small_enough _
        (through _ _ _ (filtered_few (λ k. not (has_id w.outputs k)))
        (through _ _ _ (subst (λ k. ways (counts_of net.nets w.tables) ≤ k) (mul_comm _ _) (no_less (ways (counts_of net.nets w.inputs)) (ways (counts_of net.nets w.tables)) inputs_some)) total));
  }

  held_all : AreHeld net.nets (w.tables ++ w.inputs)
  held_all = record {
    each = λ m h.
        ⊎_elim
        (λ (t : has_id w.tables m ≡ true). held_tables.each m t)
        (λ (i : has_id w.inputs m ≡ true). held_inputs.each m i)
        (or_cases (has_id w.tables m) (has_id w.inputs m) (sym (has_id-append w.tables w.inputs m) ∙ h));
  }

  all_few : ways (counts_of net.nets (w.tables ++ w.inputs)) ≤ MAX_WINDOW_POINTS
  all_few = subst (λ k. k ≤ MAX_WINDOW_POINTS) (sym (ways_same (w.tables ++ w.inputs) held_all)) small

  -- different nets of the window
  some_numbered : (ns : List NetId) → all_differ ns ≡ true → ((m : ℕ) → has_id ns m ≡ true → has_id (w.tables ++ w.inputs) m ≡ true) → IsNumbered net.nets ns
  some_numbered ns differ inside = record {
    held = record { each = λ m h. held_all.each m (inside m h) };
    few =
        small_enough _
        (through _ _ _ (ways_less (λ m. values_in (slot net.nets m)) ns (w.tables ++ w.inputs) differ (some_of (w.tables ++ w.inputs) held_all) inside) all_few);
  }

  -- a table of the window reads nets of the window
  reads_inside : (t : ℕ) → has_id w.tables t ≡ true → (m : ℕ) → reads_in net.nets t m ≡ true → has_id (w.tables ++ w.inputs) m ≡ true
  reads_inside t there m r =
      has_id-append w.tables w.inputs m
      ∙ ⊎_elim
      (λ (y : has_id w.tables m ≡ true). or_left (has_id w.tables m) (has_id w.inputs m) y)
      (λ (o : has_id w.tables m ≡ false).
      or_right (has_id w.tables m) (has_id w.inputs m)
      ((window.is.inputs.members m).1 (record { reader = t; is_inside = there; reads = r; outside = o })))
      (cases_Bool (has_id w.tables m))

  pub fanins_numbered : (t : ℕ) (fanins : List NetId) → has_id w.tables t ≡ true → IsAscending (λ m. reads_in net.nets t m) fanins → IsNumbered net.nets fanins
  fanins_numbered t fanins there reads =
      some_numbered fanins (ascending_differ fanins reads.ascending) (λ m h. reads_inside t there m (sym (reads.members m) ∙ h))

  pub pairs_numbered : (t : ℕ) (fanins : List NetId) → has_id w.tables t ≡ true → IsAscending (λ m. reads_in net.nets t m) fanins → IsNumbered net.nets (record { 0 = t } ∷ fanins)
  pairs_numbered t fanins there reads =
      some_numbered (record { 0 = t } ∷ fanins)
      (and_from (not (has_id fanins t)) (all_differ fanins)
      (not_from_false (has_id fanins t) (false_from_ne_true (has_id fanins t) (λ y. formed.acyclic.none t (record { path = []; goes = sym (reads.members t) ∙ y }))))
      (ascending_differ fanins reads.ascending))
      (λ m h.
      ⊎_elim
      (λ (e : nat_eq t m ≡ true). has_id-append w.tables w.inputs m ∙ or_left (has_id w.tables m) (has_id w.inputs m) (ap (has_id w.tables) (sym (eqb-true t m e)) ∙ there))
      (λ (f : has_id fanins m ≡ true). reads_inside t there m (sym (reads.members m) ∙ f))
      (or_cases (nat_eq t m) (has_id fanins m) h))

  -- the net of a window is one of its tables
  pub here_table : is_some (table_in (slot net.nets n)) ≡ true → has_id w.tables n ≡ true
  here_table tabled = (window.is.tables.members n).1 (record { around = record { net = n; below = inl refl; above = inl refl }; table = tabled })

pub numbered_as : (net : NetParts) (ns ms : List NetId) → ns ≡ ms → IsNumbered net.nets ms → IsNumbered net.nets ns
numbered_as net ns ms e numbered = subst (λ l. IsNumbered net.nets l) (sym e) numbered
