-- The literals of composites: of one reader's, and of all readers' behind a collapse.
use Rattle.std.proofs.Common.{◌≡◌, ◌∙◌, ℕ, ◌+◌, true, false, nat_eq, ◌||◌, cond, List, [], ◌∷◌, map, Option, Some, None, is_some, inr, refl, sym, ap, subst, ⊎_elim, eqb-true, arith}
use Rattle.std.specs.Prelude.{option_map}
use Rattle.std.specs.List.{sum_by}
use Rattle.std.proofs.lemmas.Bool.{cases_Bool, false≢true}
use Rattle.std.proofs.lemmas.List.Sums.{sum_by-cons}
use Rattle.std.proofs.lemmas.Option.{same_Some}
use Rattle.mv_base.specs.declared.number.NetId.{NetId}
use Rattle.mv_composite.specs.declared.inner.Inner.{Inner}
use Rattle.mv_composite.specs.Composite.{composed}
use Rattle.mv_composite.specs.Inside.{AreCubesOver}
use Rattle.mv_composite.specs.Wide.{IsTooWide}
use Rattle.mv_cover.specs.declared.cover.Cover.{Cover}
use Rattle.mv_cover.specs.Covers.{literal_count}
use Rattle.mv_entry.specs.declared.fault.RuleFault.TheVariants.{Wide}
use Rattle.mv_graph.specs.Nets.{has_id, IsAscending}
use Rattle.mv_meaning.specs.Rewriting.{IsReader}
use Rattle.mv_meaning.proofs.Changing.{changed-collapsed}
use Rattle.mv_meaning.proofs.Rewired.{cover_at, reader_reads}
use Rattle.mv_net.specs.declared.change.NewTable.{NewTable}
use Rattle.mv_net.specs.declared.parts.FlatNet.{FlatNet}
use Rattle.mv_net.specs.declared.parts.NetParts.{NetParts}
use Rattle.mv_net.specs.Behind.{literals_at, literals_before, literals_given}
use Rattle.mv_net.specs.Changes.{table_for}
use Rattle.mv_net.specs.Formed.{WellFormed}
use Rattle.mv_net.specs.Nets.{slot, values_in, table_in, table_reads, table_literals, literals_in, reads_in}
use Rattle.mv_net.proofs.Literals.{literals_changed}
use Rattle.mv_plans.specs.Checks.{IsTabled}
use Rattle.mv_plans.specs.Collapsing.{IsInnerOf, AreNarrow, CanCollapse, Collapses, FailsCollapse, collapsed}
use Rattle.mv_plans.specs.Composites.{HasCompositeLiterals, HasWideComposite, composite_count}
use Rattle.mv_readers.specs.Readers.{AreRewritten}
use Rattle.mv_plans.proofs.Collapsed.{one_inner, has_composites, wide_fails, going_into, going_fits}
use Rattle.mv_plans.proofs.Named.{one_tabled}
use Rattle.mv_readers.proofs.Overs.{counts_of, over_counts}
use Rattle.mv_readers.proofs.Readers.{sets_readers}

-- ---- one reader

-- a table's cubes suit the counts
pub reader_cubes : (net : NetParts) (m : ℕ) (c : Cover) → WellFormed net → table_in (slot net.nets m) ≡ Some c → AreCubesOver (counts_of net.nets) c.lines
reader_cubes net m c formed table = (over_counts net (values_in (slot net.nets m)) c formed (cover_at net m c formed table)).cubes

pub wide_composite : (nets : List (Option FlatNet)) (inner : Inner) (seen : List ℕ) (m : ℕ) (c : Cover) → seen ≡ counts_of nets → table_in (slot nets m) ≡ Some c
    → reads_in nets m inner.net.0 ≡ true → IsTooWide seen inner c → HasWideComposite nets inner m
wide_composite nets inner seen m c same table reads wide = record {
  cover = c;
  reader = record { table = table; reads = sym (ap (λ t. table_reads t inner.net.0) table) ∙ reads };
  wide = subst (λ k. IsTooWide k inner c) same wide;
}

-- two of one net are the same
pub inner_same : (nets : List (Option FlatNet)) (i j : Inner) → IsInnerOf nets i → IsInnerOf nets j → i.net ≡ j.net → i ≡ j
inner_same nets i j p q same = one_inner nets i j (ap (λ n. n.0) same) p q

pub counted_is : (nets : List (Option FlatNet)) (inner : Inner) (m count : ℕ) → HasCompositeLiterals nets inner m count → composite_count nets inner m ≡ count
unfolding composite_count
counted_is nets inner m count has = ap (λ t. table_literals (option_map (composed (counts_of nets) inner) t)) has.reader.table ∙ sym has.counted

-- the reader of a net has one table, so its composite isn't both too wide and not
pub not_wide : (nets : List (Option FlatNet)) (inner : Inner) (m count : ℕ) → HasCompositeLiterals nets inner m count → HasWideComposite nets inner m → ⊥
not_wide nets inner m count has wide =
    let same = same_Some wide.cover has.cover (sym wide.reader.table ∙ has.reader.table) in
    has.narrow (subst (λ c. IsTooWide (counts_of nets) inner c) same wide.wide)

-- ---- all readers

pub counted_narrow : (nets : List (Option FlatNet)) (inner : Inner) (counts : ℕ → ℕ) → ((m : ℕ) → reads_in nets m inner.net.0 ≡ true → HasCompositeLiterals nets inner m (counts m))
    → AreNarrow nets inner (λ m. reads_in nets m inner.net.0)
counted_narrow nets inner counts has = record { each = λ m c reads reader wide. not_wide nets inner m (counts m) (has m reads) (record { cover = c; reader = reader; wide = wide }) }

pub wide_not_narrow : (nets : List (Option FlatNet)) (inner : Inner) (m : ℕ) → HasWideComposite nets inner m → AreNarrow nets inner (λ k. reads_in nets k inner.net.0) → ⊥
wide_not_narrow nets inner m wide narrow = narrow.each m wide.cover (reader_reads nets inner.net.0 m wide.cover wide.reader) wide.reader wide.wide

-- the rule leaves this network, as the net is asked for in one way
pub collapse_leaves : (net new : NetParts) (name : List ℕ) (inner : Inner) → WellFormed net → IsTabled net.nets name inner.net.0 → IsInnerOf net.nets inner → Collapses net name new
    → new ≡ collapsed net inner
collapse_leaves net new name inner formed tabled known r =
    let of_net = r.composites.of_net ∙ one_tabled net name r.number inner.net.0 formed r.net tabled in
    r.new_is ∙ ap (λ i. collapsed net i) (one_inner net.nets r.composites.inner inner of_net r.composites.known known)

-- where every composite is narrow the rule applies
pub narrow_collapses : (net : NetParts) (name : List ℕ) (inner : Inner) → IsTabled net.nets name inner.net.0 → CanCollapse net inner.net.0 → IsInnerOf net.nets inner
    → AreNarrow net.nets inner (λ m. reads_in net.nets m inner.net.0) → Collapses net name (collapsed net inner)
narrow_collapses net name inner tabled can known narrow = record {
  number = inner.net.0;
  net = tabled;
  unseen = can.unseen;
  read = can.read;
  unshared = can.unshared;
  composites = has_composites net.nets inner.net.0 inner known refl narrow;
  new_is = refl;
}

pub counted_collapses : (net : NetParts) (name : List ℕ) (inner : Inner) (counts : ℕ → ℕ) → IsTabled net.nets name inner.net.0 → CanCollapse net inner.net.0 → IsInnerOf net.nets inner
    → ((m : ℕ) → reads_in net.nets m inner.net.0 ≡ true → HasCompositeLiterals net.nets inner m (counts m)) → Collapses net name (collapsed net inner)
counted_collapses net name inner counts tabled can known has = narrow_collapses net name inner tabled can known (counted_narrow net.nets inner counts has)

-- where one is too wide it fails so
pub wide_collapse_fails : (net : NetParts) (name : List ℕ) (inner : Inner) (m : ℕ) → IsTabled net.nets name inner.net.0 → CanCollapse net inner.net.0 → IsInnerOf net.nets inner
    → HasWideComposite net.nets inner m → FailsCollapse net name Wide
wide_collapse_fails net name inner m tabled can known wide = inr (inner.net.0, tabled, wide_fails net inner.net.0 inner known refl can (wide_not_narrow net.nets inner m wide))

-- ---- the literals behind a collapse

-- the composite of a table, and a cover without lines where there is none
abbrev composite_of : List ℕ → Inner → Option Cover → Cover
composite_of counts inner None = record { lines = []; default = None }
composite_of counts inner (Some c) = composed counts inner c

count_of : (counts : List ℕ) (inner : Inner) (t : Option Cover) → literal_count (composite_of counts inner t).lines ≡ table_literals (option_map (composed counts inner) t)
count_of counts inner None = refl
count_of counts inner (Some c) = refl

module _ (nets : List (Option FlatNet)) (inner : Inner) where
  -- its composite as a new table of each net of a list
  abbrev new_table : NetId → NewTable
  new_table r = record { net = r; table = composite_of (counts_of nets) inner (table_in (slot nets r.0)) }

  abbrev new_tables : List NetId → List NewTable
  new_tables [] = []
  new_tables (r ∷ rs) = new_table r ∷ new_tables rs

  nets_given : (rs : List NetId) → map (λ (t : NewTable). t.net) (new_tables rs) ≡ rs
  nets_given [] = refl
  nets_given (r ∷ rs) = ap (λ l. r ∷ l) (nets_given rs)

  table_given : (rs : List NetId) (m : ℕ) (c : Cover) → has_id rs m ≡ true → IsReader nets inner.net.0 m c → table_for m (new_tables rs) ≡ Some (composed (counts_of nets) inner c)
  table_given [] m c h reader = absurd (false≢true h)
  table_given (r ∷ rs) m c h reader =
      ⊎_elim
      (λ (here : nat_eq r.0 m ≡ true).
      ap (λ b. cond b (Some (new_table r).table) (table_for m (new_tables rs))) here
      ∙ ap (λ t. Some (composite_of (counts_of nets) inner t)) (ap (λ k. table_in (slot nets k)) (eqb-true r.0 m here) ∙ reader.table))
      (λ (other : nat_eq r.0 m ≡ false).
      ap (λ b. cond b (Some (new_table r).table) (table_for m (new_tables rs))) other
      ∙ table_given rs m c (sym (ap (λ b. b || has_id rs m) other) ∙ h) reader)
      (cases_Bool (nat_eq r.0 m))

  are_rewritten : (rs : List NetId) → IsAscending (λ m. reads_in nets m inner.net.0) rs → AreRewritten nets (composed (counts_of nets) inner) inner.net.0 (new_tables rs)
  are_rewritten rs is = record {
    readers = rs;
    ascending = is;
    tables = record { given = nets_given rs; tables = λ m c h reader. table_given rs m c h reader };
  }

  before_is : (rs : List NetId) → literals_before nets (new_tables rs) ≡ sum_by (literals_at nets) rs
  before_is [] = refl
  before_is (r ∷ rs) = omega (arith, before_is rs, sum_by-cons (λ (t : NewTable). literals_at nets t.net) (new_table r) (new_tables rs), sum_by-cons (literals_at nets) r rs)

  given_is : (rs : List NetId) → literals_given (new_tables rs) ≡ sum_by (λ (r : NetId). composite_count nets inner r.0) rs
  unfolding composite_count
  given_is [] = refl
  given_is (r ∷ rs) =
      omega (
        arith,
        given_is rs,
        sum_by-cons (λ (t : NewTable). literal_count t.table.lines) (new_table r) (new_tables rs),
        sum_by-cons (λ (k : NetId). composite_count nets inner k.0) r rs,
        count_of (counts_of nets) inner (table_in (slot nets r.0)),
      )

-- the literals without those of the net and of its readers, and with those of the readers' composites
pub collapsed_literals : (net : NetParts) (inner : Inner) (readers : List NetId) → WellFormed net → IsInnerOf net.nets inner → IsAscending (λ m. reads_in net.nets m inner.net.0) readers
    → literals_in (collapsed net inner).nets + (literals_at net.nets inner.net + sum_by (literals_at net.nets) readers)
    ≡ literals_in net.nets + sum_by (λ (r : NetId). composite_count net.nets inner r.0) readers
collapsed_literals net inner readers formed known is =
    let new = composed (counts_of net.nets) inner in
    let set = new_tables net.nets inner readers in
    let are = are_rewritten net.nets inner readers is in
    let fits = going_fits net new inner.net set formed (ap (λ t. is_some t) known.table) are in
    omega (
      arith,
      literals_changed net (going_into inner.net set) fits,
      ap (λ (p : NetParts). literals_in p.nets) (changed-collapsed net inner.net new set (sets_readers net.nets new inner.net.0 set are)),
      sum_by-cons (literals_at net.nets) inner.net [],
      before_is net.nets inner readers,
      given_is net.nets inner readers,
    )

pub ruleset composites_told = (inner_same, not_wide)

pub ruleset collapse_told = (collapsed_literals, collapse_leaves)
