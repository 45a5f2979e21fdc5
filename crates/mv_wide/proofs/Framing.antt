-- The nets of a window: n is one of its tables, and what its tables read is inside it and held.
use Rattle.std.proofs.Common.{◌≡◌, ◌⊎◌, ◌∙◌, ℕ, ◌||◌, true, false, nat_eq, List, [], ◌∷◌, Option, is_some, refl, sym, ap, subst, inl, ⊎_elim}
use Rattle.std.proofs.lemmas.Bool.{cases_Bool, true≢false, or_cases, or_left, or_right, eq-eqb, eqb-true}
use Rattle.mv_base.specs.declared.number.NetId.{NetId}
use Rattle.mv_graph.specs.Nets.{has_id}
use Rattle.mv_net.specs.declared.parts.FlatNet.{FlatNet}
use Rattle.mv_net.specs.declared.parts.NetParts.{NetParts}
use Rattle.mv_net.specs.declared.window.Window.{Window}
use Rattle.mv_net.specs.Formed.{WellFormed}
use Rattle.mv_net.specs.Index.{is_held}
use Rattle.mv_net.specs.Nets.{slot, table_in, reads_in}
use Rattle.mv_net.proofs.Known.{reads_readable}
use Rattle.mv_net.proofs.Windows.{table_held}
use Rattle.mv_factors.proofs.Agreeing.{same_truth}
use Rattle.mv_flex.specs.Flex.{IsWindowOf}
use Rattle.mv_wide.specs.Inners.{touches}
use Rattle.mv_wide.specs.Windows.{is_inside}

-- ---- tables and what they read

touch_found : (nets : List (Option FlatNet)) (ts : List NetId) (m : ℕ) → touches nets ts m ≡ true
    → (t : ℕ) × (has_id ts t ≡ true) × ((reads_in nets t m ≡ true) ⊎ (nat_eq t m ≡ true))
touch_found nets [] m is = absurd (true≢false (sym is))
touch_found nets (x ∷ ts) m is =
    ⊎_elim
    (λ (here : (reads_in nets x.0 m || nat_eq x.0 m) ≡ true).
    (x.0, or_left (nat_eq x.0 x.0) (has_id ts x.0) (eq-eqb x.0 x.0 refl), or_cases (reads_in nets x.0 m) (nat_eq x.0 m) here))
    (λ (rest : touches nets ts m ≡ true).
    let t = touch_found nets ts m rest in
    (t.0, or_right (nat_eq x.0 t.0) (has_id ts t.0) t.1, t.2))
    (or_cases (reads_in nets x.0 m || nat_eq x.0 m) (touches nets ts m) is)

touch_has : (nets : List (Option FlatNet)) (ts : List NetId) (t m : ℕ) → has_id ts t ≡ true
    → (reads_in nets t m || nat_eq t m) ≡ true → touches nets ts m ≡ true
touch_has nets [] t m listed is = absurd (true≢false (sym listed))
touch_has nets (x ∷ ts) t m listed is =
    ⊎_elim
    (λ (here : nat_eq x.0 t ≡ true).
    or_left (reads_in nets x.0 m || nat_eq x.0 m) (touches nets ts m)
    (subst (λ k. (reads_in nets k m || nat_eq k m) ≡ true) (sym (eqb-true x.0 t here)) is))
    (λ (rest : has_id ts t ≡ true).
    or_right (reads_in nets x.0 m || nat_eq x.0 m) (touches nets ts m) (touch_has nets ts t m rest is))
    (or_cases (nat_eq x.0 t) (has_id ts t) listed)

module _ (net : NetParts) (w : Window) (n : ℕ) (window : IsWindowOf net n w) where
  -- n is one of the tables
  pub own_table : is_some (table_in (slot net.nets n)) ≡ true → has_id w.tables n ≡ true
  own_table tabled =
      (window.is.tables.members n).1 (record { around = record { net = n; below = inl refl; above = inl refl }; table = tabled })

  pub has_table : (m : ℕ) → has_id w.tables m ≡ true → is_some (table_in (slot net.nets m)) ≡ true
  has_table m listed = ((window.is.tables.members m).0 listed).table

  pub table_inside : (m : ℕ) → has_id w.tables m ≡ true → is_inside w m ≡ true
  table_inside m listed = or_left (has_id w.tables m) (has_id w.inputs m) listed

  pub input_inside : (m : ℕ) → has_id w.inputs m ≡ true → is_inside w m ≡ true
  input_inside m listed = or_right (has_id w.tables m) (has_id w.inputs m) listed

  -- no input is a table
  pub inputs_apart : (m : ℕ) → has_id w.inputs m ≡ true → has_id w.tables m ≡ true → ⊥
  inputs_apart m input table = true≢false (sym table ∙ ((window.is.inputs.members m).0 input).outside)

  pub output_table : (m : ℕ) → has_id w.outputs m ≡ true → has_id w.tables m ≡ true
  output_table m output = ((window.is.outputs.members m).0 output).is_inside

  -- what a table reads is inside
  pub read_inside : (m k : ℕ) → has_id w.tables m ≡ true → reads_in net.nets m k ≡ true → is_inside w k ≡ true
  read_inside m k listed reads =
      ⊎_elim
      (λ (table : has_id w.tables k ≡ true). table_inside k table)
      (λ (none : has_id w.tables k ≡ false).
      input_inside k ((window.is.inputs.members k).1 (record { reader = m; is_inside = listed; reads = reads; outside = none })))
      (cases_Bool (has_id w.tables k))

  pub table_is_held : (m : ℕ) → has_id w.tables m ≡ true → is_held net.nets m ≡ true
  table_is_held m listed = table_held (slot net.nets m) (has_table m listed)

  held_read : (m k : ℕ) → WellFormed net → reads_in net.nets m k ≡ true → is_held net.nets k ≡ true
  held_read m k formed reads = ap is_some (reads_readable net m k formed reads).held

  pub inside_held : WellFormed net → (m : ℕ) → is_inside w m ≡ true → is_held net.nets m ≡ true
  inside_held formed m inside =
      ⊎_elim (λ (table : has_id w.tables m ≡ true). table_is_held m table)
      (λ (input : has_id w.inputs m ≡ true).
      let read = (window.is.inputs.members m).0 input in
      held_read read.reader m formed read.reads)
      (or_cases (has_id w.tables m) (has_id w.inputs m) inside)

  -- the nets of the window are its tables and what these read
  pub touched : (m : ℕ) → touches net.nets w.tables m ≡ is_inside w m
  touched m = same_truth (touches net.nets w.tables m) (is_inside w m) to from
    where
      to : touches net.nets w.tables m ≡ true → is_inside w m ≡ true
      to is =
          let t = touch_found net.nets w.tables m is in
          ⊎_elim (λ (reads : reads_in net.nets t.0 m ≡ true). read_inside t.0 m t.1 reads)
          (λ (same : nat_eq t.0 m ≡ true). table_inside m (subst (λ k. has_id w.tables k ≡ true) (eqb-true t.0 m same) t.1)) t.2

      from : is_inside w m ≡ true → touches net.nets w.tables m ≡ true
      from inside =
          ⊎_elim
          (λ (table : has_id w.tables m ≡ true).
          touch_has net.nets w.tables m m table (or_right (reads_in net.nets m m) (nat_eq m m) (eq-eqb m m refl)))
          (λ (input : has_id w.inputs m ≡ true).
          let read = (window.is.inputs.members m).0 input in
          touch_has net.nets w.tables read.reader m read.is_inside (or_left (reads_in net.nets read.reader m) (nat_eq read.reader m) read.reads))
          (or_cases (has_id w.tables m) (has_id w.inputs m) inside)
