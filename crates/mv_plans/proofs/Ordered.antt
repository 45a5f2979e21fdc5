-- How it is told whether a net may get a table, by the order of the nets.
use Rattle.std.proofs.Common.{◌≡◌, ◌∙◌, ◌⊎◌, ℕ, zero, suc, ◌+◌, ◌<◌, ◌≤◌, Bool, true, false, ◌||◌, not, nat_eq, List, [], ◌∷◌, ◌++◌, length, get_or, take, Option, Some, None, Result, Ok, Err, inl, inr, refl, sym, ap, subst, ⊎_elim, eq-eqb, eqb-true, arith}
use Rattle.std.specs.Prelude.{IfOk, MatchBool, is_some}
use Rattle.std.specs.List.{Any, Contains, list_any}
use Rattle.std.proofs.lemmas.Bool.{or_cases, or_left, or_right, false≢true, eqb-false}
use Rattle.std.proofs.lemmas.List.{take_more, take_all, get_or_default}
use Rattle.std.proofs.lemmas.List.Folds.{list_any-append}
use Rattle.mv_base.specs.declared.number.NetId.{NetId}
use Rattle.mv_cover.specs.declared.cover.Cover.{Cover}
use Rattle.mv_cover.specs.Covers.{cover_reads}
use Rattle.mv_cover.proofs.Absorbing.{any_at, find_any}
use Rattle.mv_graph.specs.Above.{IsAbove, GoesOn}
use Rattle.mv_graph.proofs.Paths.{above_first}
use Rattle.mv_graph.specs.Nets.{has_id, IsAscending}
use Rattle.mv_meaning.specs.Rewriting.{IsOverTable, PutsAbove}
use Rattle.mv_net.specs.declared.parts.Kind.TheVariants.{Latch}
use Rattle.mv_net.specs.declared.parts.FlatNet.{FlatNet}
use Rattle.mv_net.specs.declared.parts.FlatLatch.{FlatLatch}
use Rattle.mv_net.specs.declared.parts.NetParts.{NetParts}
use Rattle.mv_net.specs.Formed.{latch_outputs, with_reset, latch_resets, has_table, IsKind, WellFormed}
use Rattle.mv_net.specs.Nets.{slot, table_in, net_reads, reads_in}
use Rattle.mv_plans.specs.Orders.{AreAmong, ReadsNoMore, KeepsOrder, IsFrom, IsOver, IsFromReset, IsUnderReset, ReadsState}
use Rattle.mv_plans.proofs.Ahead.{any_first, any_later, any_none}

-- ---- a net, or above it

pub from_same : (nets : List (Option FlatNet)) (n m : ℕ) → nat_eq n m ≡ true → IsFrom nets n m
from_same nets n m e = record { up = inl (eqb-true n m e) }

pub from_above : {E : Type 0} (result : Result Bool E) (nets : List (Option FlatNet)) (n m : ℕ) → nat_eq n m ≡ false
    → IfOk result (λ yes. MatchBool yes (IsAbove (reads_in nets) n m) (IsAbove (reads_in nets) n m → ⊥))
    → IfOk result (λ yes. MatchBool yes (IsFrom nets n m) (IsFrom nets n m → ⊥))
from_above (Err f) nets n m other h = h
from_above (Ok true) nets n m other h = record { up = inr h }
from_above (Ok false) nets n m other h = λ from. by from.up
  where
    by : (n ≡ m) ⊎ IsAbove (reads_in nets) n m → ⊥
    by (inl e) = eqb-false n m other e
    by (inr a) = h a

-- ---- what a table reads

module _ (nets : List (Option FlatNet)) (n : ℕ) (body : Cover) (fanins : List NetId) (is : IsAscending (cover_reads body) fanins) where
  pub over_table : IsOver nets fanins n → IsOverTable nets body n
  over_table over =
      let a = over.some in
      record { first = a.1.0; reads = sym (is.members a.1.0) ∙ any_at (λ (m : NetId). nat_eq m.0 a.1.0) fanins a.1 (a.0, a.2, a.3) (eq-eqb a.1.0 a.1.0 refl); up = a.4.up }

  pub table_over : IsOverTable nets body n → IsOver nets fanins n
  table_over over =
      let f = find_any (λ (m : NetId). nat_eq m.0 over.first) fanins (is.members over.first ∙ over.reads) in
      let from : IsFrom nets n f.x.0 = subst (IsFrom nets n) (sym (eqb-true f.x.0 over.first f.pass)) (record { up = over.up }) in
      record { some = (f.there.0, f.x, f.there.1, f.there.2, from) }

-- ---- latches

module _ (nets : List (Option FlatNet)) (n : ℕ) where
  from_resets : (r : ℕ) (ls : List FlatLatch) → IsFrom nets n r → has_id (latch_resets ls) r ≡ true → Any (λ (l : FlatLatch). IsFromReset nets n l.reset) ls
  from_resets r [] from h = absurd (false≢true h)
  from_resets r (l ∷ ls) from h = by l.reset refl (from_resets r ls from)
    where
      P : FlatLatch → Type 0
      P k = IsFromReset nets n k.reset

      by : (o : Option NetId) → l.reset ≡ o → (has_id (latch_resets ls) r ≡ true → Any P ls) → Any P (l ∷ ls)
      by None e more = any_later P l ls (more (ap (λ o. has_id (with_reset o (latch_resets ls)) r) (sym e) ∙ h))
      by (Some m) e more =
          ⊎_elim
          (λ (y : nat_eq m.0 r ≡ true). any_first P l ls (subst (IsFromReset nets n) (sym e) (subst (IsFrom nets n) (sym (eqb-true m.0 r y)) from)))
          (λ (rest : has_id (latch_resets ls) r ≡ true). any_later P l ls (more rest))
          (or_cases (nat_eq m.0 r) (has_id (latch_resets ls) r) (ap (λ o. has_id (with_reset o (latch_resets ls)) r) (sym e) ∙ h))

  -- a reset net that n is from
  record ResetBelow (ls : List FlatLatch) : Type 0 where
    reset : ℕ
    listed : has_id (latch_resets ls) reset ≡ true
    from : IsFrom nets n reset

  behind : (o : Option NetId) (ls : List FlatLatch) (r : ℕ) → has_id (latch_resets ls) r ≡ true → has_id (with_reset o (latch_resets ls)) r ≡ true
  behind None ls r h = h
  behind (Some m) ls r h = or_right (nat_eq m.0 r) (has_id (latch_resets ls) r) h

  resets_from : (ls : List FlatLatch) → Any (λ (l : FlatLatch). IsFromReset nets n l.reset) ls → ResetBelow ls
  resets_from [] a = absurd (any_none (λ (l : FlatLatch). IsFromReset nets n l.reset) a)
  resets_from (l ∷ ls) a = by (resets_from ls) a.0 a.1 a.2 a.3 a.4
    where
      here : (o : Option NetId) → l.reset ≡ o → IsFromReset nets n o → ResetBelow (l ∷ ls)
      here None e f = absurd f
      here (Some m) e f = record { reset = m.0; listed = ap (λ o. has_id (with_reset o (latch_resets ls)) m.0) e ∙ or_left (nat_eq m.0 m.0) (has_id (latch_resets ls) m.0) (eq-eqb m.0 m.0 refl); from = f }

      later : ResetBelow ls → ResetBelow (l ∷ ls)
      later r = record { reset = r.reset; listed = behind l.reset ls r.reset r.listed; from = r.from }

      by : (Any (λ (k : FlatLatch). IsFromReset nets n k.reset) ls → ResetBelow ls) → (k : ℕ) (y : FlatLatch) → k < length (l ∷ ls) → get_or (l ∷ ls) k y ≡ y → IsFromReset nets n y.reset → ResetBelow (l ∷ ls)
      by more zero y low e f = here l.reset refl (subst (λ (j : FlatLatch). IsFromReset nets n j.reset) (sym e) f)
      by more (suc k) y low e f = later (more (k, y, omega (arith, low), e, f))

  -- so it is told by the latches
  pub under_reset : (r : ℕ) (ls : List FlatLatch) → IsFrom nets n r → has_id (latch_resets ls) r ≡ true → IsUnderReset nets ls n
  under_reset r ls from listed = record { some = from_resets r ls from listed }

-- the outputs of the latches
outputs_any : (ls : List FlatLatch) (n : ℕ) → has_id (latch_outputs ls) n ≡ list_any (λ (k : FlatLatch). nat_eq k.output.0 n) ls
outputs_any [] n = refl
outputs_any (l ∷ ls) n = ap (λ b. nat_eq l.output.0 n || b) (outputs_any ls n)

state_listed : (ls : List FlatLatch) (l : FlatLatch) → Contains ls l → has_id (latch_outputs ls) l.output.0 ≡ true
state_listed ls l c = outputs_any ls l.output.0 ∙ any_at (λ (k : FlatLatch). nat_eq k.output.0 l.output.0) ls l c (eq-eqb l.output.0 l.output.0 refl)

reads_state : (nets : List (Option FlatNet)) (ls : List FlatLatch) (fanins : List NetId) (state : ℕ) → has_id (latch_outputs ls) state ≡ true → IsOver nets fanins state → ReadsState nets ls fanins
reads_state nets ls fanins state listed over =
    let f = find_any (λ (k : FlatLatch). nat_eq k.output.0 state) ls (sym (outputs_any ls state) ∙ listed) in
    record { some = (f.there.0, f.x, f.there.1, f.there.2, subst (IsOver nets fanins) (sym (eqb-true f.x.output.0 state f.pass)) over) }

-- ---- nets that read no more

-- what is above a net is above those below it
above_on : (reads : ℕ → ℕ → Bool) (a n m : ℕ) (path : List ℕ) → GoesOn reads n m path → IsAbove reads a n → IsAbove reads a m
above_on reads a n m [] goes up = above_first reads m n a goes up
above_on reads a n m (k ∷ path) goes up = above_first reads m k a goes.0 (above_on reads a n k path goes.1 up)

above_fanin : (reads : ℕ → ℕ → Bool) (a n m : ℕ) → reads n m ≡ true → (a ≡ m) ⊎ IsAbove reads a m → IsAbove reads a n
above_fanin reads a n m r (inl same) = record { path = []; goes = subst (λ k. reads n k ≡ true) (sym same) r }
above_fanin reads a n m r (inr up) = above_first reads n m a r up

-- the first step up
record Up (reads : ℕ → ℕ → Bool) (a n : ℕ) : Type 0 where
  first : ℕ
  read : reads n first ≡ true
  rest : (a ≡ first) ⊎ IsAbove reads a first

first_step : (reads : ℕ → ℕ → Bool) (a n : ℕ) (path : List ℕ) → GoesOn reads a n path → Up reads a n
first_step reads a n [] goes = record { first = a; read = goes; rest = inl refl }
first_step reads a n (m ∷ path) goes = record { first = m; read = goes.0; rest = inr (record { path = path; goes = goes.1 }) }

module _ (net : NetParts) (n d : ℕ) (fanins : List NetId) (latch : ℕ) (formed : WellFormed net) (less : ReadsNoMore net.nets n d fanins) (output : IsKind net.nets latch Latch) where
  -- a net with a table is no latch output
  tabled_other : latch ≡ d → ⊥
  tabled_other same =
      let there : is_some output.net.table ≡ true =
      ap (λ f. is_some (table_in f)) (sym output.held) ∙ (ap (λ k. is_some (table_in (slot net.nets k))) same ∙ less.tabled) in
      let none : is_some output.net.table ≡ false = (formed.nets latch output.net output.held).table ∙ ap has_table output.is in
      false≢true (sym none ∙ there)

  above_inner : (m : ℕ) → reads_in net.nets d m ≡ true → (m ≡ d) ⊎ (reads_in net.nets n m ≡ true) → (latch ≡ m) ⊎ IsAbove (reads_in net.nets) latch m → IsAbove (reads_in net.nets) latch n
  above_inner m read (inl same) up = absurd (formed.acyclic.none d (record { path = []; goes = subst (λ k. reads_in net.nets d k ≡ true) same read }))
  above_inner m read (inr own) up = above_fanin (reads_in net.nets) latch n m own up

  above_divisor : (latch ≡ d) ⊎ IsAbove (reads_in net.nets) latch d → IsAbove (reads_in net.nets) latch n
  above_divisor (inl same) = absurd (tabled_other same)
  above_divisor (inr up) =
      let s = first_step (reads_in net.nets) latch d up.path up.goes in
      above_inner s.first s.read (less.through s.first s.read) s.rest

  above_read : (m : ℕ) → (m ≡ d) ⊎ (reads_in net.nets n m ≡ true) → (latch ≡ m) ⊎ IsAbove (reads_in net.nets) latch m → IsAbove (reads_in net.nets) latch n
  above_read m (inl same) up = above_divisor (subst (λ k. (latch ≡ k) ⊎ IsAbove (reads_in net.nets) latch k) same up)
  above_read m (inr own) up = above_fanin (reads_in net.nets) latch n m own up

-- a walk along two lists
pub record Walks (nets : List NetId) (but : ℕ) (others : List NetId) (i : ℕ) : Type 0 where
  pub within : i ≤ length nets
  pub passed : AreAmong (take i nets) but others

pub walks_none : (nets : List NetId) (but : ℕ) (others : List NetId) → Walks nets but others 0
walks_none nets but others = record { within = omega arith; passed = record { each = λ m h. absurd (false≢true h) } }

passed_more : (nets : List NetId) (but : ℕ) (others : List NetId) (x : NetId) → (x.0 ≡ but) ⊎ (has_id others x.0 ≡ true) → AreAmong nets but others → AreAmong (nets ++ x ∷ []) but others
passed_more nets but others x is before = record {
  each = λ m h.
      ⊎_elim
      (λ (early : has_id nets m ≡ true). before.each m early)
      (λ (late : has_id (x ∷ []) m ≡ true).
      let same : x.0 ≡ m = eqb-true x.0 m (⊎_elim (λ (e : nat_eq x.0 m ≡ true). e) (λ (f : false ≡ true). absurd (false≢true f)) (or_cases (nat_eq x.0 m) false late)) in
      subst (λ k. (k ≡ but) ⊎ (has_id others k ≡ true)) same is)
      (or_cases (has_id nets m) (has_id (x ∷ []) m) (sym (list_any-append (λ (k : NetId). nat_eq k.0 m) nets (x ∷ [])) ∙ h));
}

walks_more : (nets : List NetId) (but : ℕ) (others : List NetId) (i : ℕ) (d : NetId) → i < length nets → ((get_or nets i d).0 ≡ but) ⊎ (has_id others (get_or nets i d).0 ≡ true) → Walks nets but others i → Walks nets but others (i + 1)
walks_more nets but others i d low is before = record {
  within = omega (arith, low);
  passed = subst (λ (ns : List NetId). AreAmong ns but others) (sym (take_more nets i d low)) (passed_more (take i nets) but others (get_or nets i d) is before.passed);
}

pub walks_but : (nets : List NetId) (but : ℕ) (others : List NetId) (i : ℕ) (d : NetId) → i < length nets → (get_or nets i d).0 ≡ but → Walks nets but others i → Walks nets but others (i + 1)
walks_but nets but others i d low same before = walks_more nets but others i d low (inl same) before

pub walks_found : (nets : List NetId) (but : ℕ) (others : List NetId) (i j : ℕ) (d : NetId) → i < length nets → j < length others → (get_or nets i d).0 ≡ (get_or others j d).0 → Walks nets but others i → Walks nets but others (i + 1)
walks_found nets but others i j d low there same before =
    walks_more nets but others i d low
    (inr (any_at (λ (k : NetId). nat_eq k.0 (get_or nets i d).0) others (get_or others j d) (j, there, get_or_default others j (get_or others j d) d there)
    (eq-eqb (get_or others j d).0 (get_or nets i d).0 (sym same)))) before

pub walks_all : (nets : List NetId) (but : ℕ) (others : List NetId) (i : ℕ) → length nets ≤ i → Walks nets but others i → AreAmong nets but others
walks_all nets but others i end before = subst (λ (ns : List NetId). AreAmong ns but others) (take_all i nets end) before.passed

-- what was found among the fanins of n is read by n
pub no_more : (nets : List (Option FlatNet)) (n d : ℕ) (fanins own inner : List NetId) → is_some (table_in (slot nets d)) ≡ true → IsAscending (λ m. net_reads (slot nets n) m) own → IsAscending (λ m. net_reads (slot nets d) m) inner → AreAmong fanins d own → AreAmong inner d own → ReadsNoMore nets n d fanins
no_more nets n d fanins own inner tabled reads below listed through = record {
  tabled = tabled;
  listed = λ m h. read m (listed.each m h);
  through = λ m h. read m (through.each m (below.members m ∙ h));
}
  where
    read : (m : ℕ) → (m ≡ d) ⊎ (has_id own m ≡ true) → (m ≡ d) ⊎ (reads_in nets n m ≡ true)
    read m (inl same) = inl same
    read m (inr there) = inr (sym (reads.members m) ∙ there)

-- ---- the order is kept

flipped : (A : Type 0) (a b : ℕ) → (a ≡ b) ⊎ A → (b ≡ a) ⊎ A
flipped A a b (inl e) = inl (sym e)
flipped A a b (inr up) = inr up

module _ (net : NetParts) (n d : ℕ) (body : Cover) where
  pub not_from : IsFrom net.nets n d → KeepsOrder net.nets n d body → ⊥
  not_from from keeps = by from.up
    where
      by : (n ≡ d) ⊎ IsAbove (reads_in net.nets) n d → ⊥
      by (inl e) = keeps.other e
      by (inr a) = keeps.not_above a

  module _ (fanins : List NetId) (is : IsAscending (cover_reads body) fanins) where
    pub not_over : IsOver net.nets fanins n → KeepsOrder net.nets n d body → ⊥
    not_over over keeps = keeps.free (over_table net.nets n body fanins is over)

    keeps_order : (IsFrom net.nets n d → ⊥) → (IsOver net.nets fanins n → ⊥) → ((latch reset : ℕ) → PutsAbove net.nets n body latch reset → ⊥) → KeepsOrder net.nets n d body
    keeps_order apart free alone = record {
      other = λ e. apart (record { up = inl e });
      not_above = λ a. apart (record { up = inr a });
      free = λ over. free (table_over net.nets n body fanins is over);
      alone = alone;
    }

    -- the reset net that the table would put a latch output above
    reset_there : WellFormed net → (latch reset : ℕ) → PutsAbove net.nets n body latch reset → IsUnderReset net.nets net.latches n
    reset_there formed latch reset puts = under_reset net.nets n reset net.latches (record { up = flipped (IsAbove (reads_in net.nets) n reset) reset n puts.down }) (formed.resets.all (record { 0 = reset }) puts.reset_net)

    state_there : WellFormed net → (latch reset : ℕ) → PutsAbove net.nets n body latch reset → ReadsState net.nets net.latches fanins
    state_there formed latch reset puts =
        reads_state net.nets net.latches fanins latch (formed.states.all (record { 0 = latch }) puts.output) (table_over net.nets latch body fanins is puts.up)

    pub without_reset : WellFormed net → (IsFrom net.nets n d → ⊥) → (IsOver net.nets fanins n → ⊥) → (IsUnderReset net.nets net.latches n → ⊥) → KeepsOrder net.nets n d body
    without_reset formed apart free under = keeps_order apart free (λ latch reset puts. under (reset_there formed latch reset puts))

    -- what the table puts above a reset net stands above it already
    already : WellFormed net → ReadsNoMore net.nets n d fanins → (latch reset : ℕ) → PutsAbove net.nets n body latch reset → ⊥
    already formed less latch reset puts =
        let over = puts.up in
        let up = above_read net n d fanins latch formed less puts.output over.first (less.listed over.first (is.members over.first ∙ over.reads)) over.up in
        ⊎_elim
        (λ (same : reset ≡ n). formed.alone.none latch reset puts.output puts.reset_net (subst (IsAbove (reads_in net.nets) latch) (sym same) up))
        (λ (down : IsAbove (reads_in net.nets) n reset). formed.alone.none latch reset puts.output puts.reset_net (above_on (reads_in net.nets) latch n reset down.path down.goes up))
        puts.down

    pub without_more : WellFormed net → (IsFrom net.nets n d → ⊥) → (IsOver net.nets fanins n → ⊥) → ReadsNoMore net.nets n d fanins → KeepsOrder net.nets n d body
    without_more formed apart free less = keeps_order apart free (already formed less)

    not_alone : WellFormed net → IsUnderReset net.nets net.latches n → ReadsState net.nets net.latches fanins → KeepsOrder net.nets n d body → ⊥
    not_alone formed under reads keeps =
        let r = resets_from net.nets n net.latches under.some in
        let s = reads.some in
        keeps.alone s.1.output.0 r.reset (record {
          output = formed.states.only s.1.output (state_listed net.latches s.1 (s.0, s.2, s.3));
          reset_net = formed.resets.only (record { 0 = r.reset }) r.listed;
          down = flipped (IsAbove (reads_in net.nets) n r.reset) n r.reset r.from.up;
          up = over_table net.nets s.1.output.0 body fanins is s.4;
        })

    pub by_state : (reads : Bool) → WellFormed net → (IsFrom net.nets n d → ⊥) → (IsOver net.nets fanins n → ⊥) → IsUnderReset net.nets net.latches n
        → MatchBool reads (ReadsState net.nets net.latches fanins) (ReadsState net.nets net.latches fanins → ⊥) → MatchBool (not reads) (KeepsOrder net.nets n d body) (KeepsOrder net.nets n d body → ⊥)
    by_state true formed apart free under reads = not_alone formed under reads
    by_state false formed apart free under reads = keeps_order apart free (λ latch reset puts. reads (state_there formed latch reset puts))
