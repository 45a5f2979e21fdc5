-- What the literals of a net's composites say of it.
use Rattle.std.proofs.Common.{◌≡◌, ◌∙◌, ℕ, ◌+◌, ◌<◌, ◌≤◌, Bool, true, false, nat_cmp, Option, Some, None, List, length, is_some, refl, sym, ap, subst, ⊎_elim, arith}
use Rattle.std.specs.Prelude.{slice_get, unwrap_or}
use Rattle.std.specs.BTreeMap.{get}
use Rattle.std.specs.List.{sum_by}
use Rattle.std.proofs.lemmas.Bool.{false≢true}
use Rattle.mv_base.specs.declared.number.NetId.{NetId}
use Rattle.mv_composite.specs.declared.inner.Inner.{Inner}
use Rattle.mv_graph.specs.Nets.{has_id, IsAscending}
use Rattle.mv_net.specs.declared.parts.FlatNet.{FlatNet}
use Rattle.mv_net.specs.declared.parts.NetParts.{NetParts}
use Rattle.mv_net.specs.Behind.{literals_at}
use Rattle.mv_net.specs.Formed.{WellFormed}
use Rattle.mv_net.specs.Nets.{slot, name_in, table_in, table_literals, literals_in, reads_in}
use Rattle.mv_plans.specs.Checks.{IsTabled}
use Rattle.mv_plans.specs.Collapsing.{AreNarrow, HasComposites, CanCollapse, collapsed}
use Rattle.mv_plans.specs.Composites.{HasCompositeLiterals, composite_count}
use Rattle.mv_plans.proofs.CompositeLiterals.{inner_same, counted_is, not_wide, wide_collapse_fails, collapsed_literals}
use Rattle.mv_gain.specs.declared.judging.Verdict.{Verdict}
use Rattle.mv_gain.specs.declared.judging.Verdict.TheVariants.{Saves, Wide, Stays}
use Rattle.mv_gain.specs.declared.kept.KeptComposites.{KeptComposites}
use Rattle.mv_gain.specs.declared.row.Pair.{Pair}
use Rattle.mv_gain.specs.declared.row.Row.{Row}
use Rattle.mv_gain.specs.Judging.{CanGo, IsAsked, HasWide, IsComplete, IsFilled, IsWeighed}
use Rattle.mv_gain.specs.Kept.{HasLiterals, IsWidePair, IsComposite, AreRight, IsJudged}
use Rattle.mv_gain.specs.Savings.{IsSaving, IsWideNet}
use Rattle.mv_gain.specs.Sums.{coming_of}
use Rattle.mv_gain.proofs.Around.{tabled_below}
use Rattle.mv_gain.proofs.Entries.{readers_of, has_reader, readers_ascend, all_found, sum_same, found_wide, none_wide}
use Rattle.mv_gain.proofs.Going.{named_itself, wide_net}
use Rattle.mv_gain.proofs.Right.{RightRow, row_right, row_reads, has_at}

-- ---- one composite

-- a net is asked for in one way
asked_same : (nets : List (Option FlatNet)) (n : ℕ) (i j : Inner) → IsAsked nets n i → IsAsked nets n j → i ≡ j
asked_same nets n i j p q = inner_same nets i j p.known q.known (λ t. record { 0 = (p.of_net ∙ sym q.of_net) t })

pub pair_counted : (nets : List (Option FlatNet)) (n m count : ℕ) (inner : Inner) → IsAsked nets n inner → HasLiterals nets n m count → HasCompositeLiterals nets inner m count
pair_counted nets n m count inner asked has =
    subst (λ i. HasCompositeLiterals nets i m count) (asked_same nets n has.inner inner (record { of_net = has.of_net; known = has.known }) asked) has.counted

-- ---- all composites

-- the composites of all readers aren't too wide and have so many literals together, and so many have the readers
record AllHave (nets : List (Option FlatNet)) (n coming going : ℕ) : Type 0 where
  readers : List NetId
  all : IsAscending (λ m. reads_in nets m n) readers
  each : (m : ℕ) → has_id readers m ≡ true → (count : ℕ) × HasLiterals nets n m count
  coming_is : (inner : Inner) → IsAsked nets n inner → coming ≡ sum_by (λ (r : NetId). composite_count nets inner r.0) readers
  going_is : going ≡ sum_by (literals_at nets) readers

all_narrow : (nets : List (Option FlatNet)) (n coming going : ℕ) (inner : Inner) → IsAsked nets n inner → AllHave nets n coming going → AreNarrow nets inner (λ m. reads_in nets m n)
all_narrow nets n coming going inner asked all = record {
  each = λ m c reads reader wide.
      let has = all.each m (all.all.members m ∙ reads) in
      not_wide nets inner m has.0 (pair_counted nets n m has.0 inner asked has.1) (record { cover = c; reader = reader; wide = wide });
}

-- a reader's composite asked for the net
asked_for : (net : NetParts) (n coming going : ℕ) → CanGo net n → AllHave net.nets n coming going → (inner : Inner) × IsAsked net.nets n inner
asked_for net n coming going can all =
    let reader = can.can.read.reader in
    let has = all.each reader (all.all.members reader ∙ can.can.read.reads) in
    (has.1.inner, record { of_net = has.1.of_net; known = has.1.known })

all_composites : (net : NetParts) (n coming going : ℕ) → CanGo net n → AllHave net.nets n coming going → HasComposites net.nets n
all_composites net n coming going can all =
    let asked = asked_for net n coming going can all in
    record { inner = asked.0; of_net = asked.1.of_net; known = asked.1.known; narrow = all_narrow net.nets n coming going asked.0 asked.1 all }

-- ---- the literals behind the collapse

-- what goes, against what comes
balance : (net : NetParts) (n : NetId) (coming going : ℕ) (inner : Inner) → AllHave net.nets n.0 coming going → WellFormed net → IsAsked net.nets n.0 inner
    → literals_in (collapsed net inner).nets + (going + literals_at net.nets n) ≡ literals_in net.nets + coming
balance net n coming going inner all formed asked =
    let is = subst (λ k. IsAscending (λ m. reads_in net.nets m k) all.readers) (sym asked.of_net) all.all in
    let own : literals_at net.nets inner.net ≡ literals_at net.nets n = ap (λ k. table_literals (table_in (slot net.nets k))) asked.of_net in
    omega (arith, collapsed_literals net inner all.readers formed asked.known is, own, all.going_is, all.coming_is inner asked)

all_save : (net : NetParts) (n : NetId) (coming going : ℕ) → WellFormed net → CanGo net n.0 → AllHave net.nets n.0 coming going → coming ≤ going + literals_at net.nets n → IsSaving net n.0
all_save net n coming going formed can all low =
    let asked = asked_for net n.0 coming going can all in
    record {
      tabled = can.tabled;
      can = can.can;
      composites = record { inner = asked.0; of_net = asked.1.of_net; known = asked.1.known; narrow = all_narrow net.nets n.0 coming going asked.0 asked.1 all };
      no_more = omega (arith, balance net n coming going asked.0 all formed asked.1, low);
    }

-- where more comes it stays, and no composite is too wide
all_stay : (net : NetParts) (n : NetId) (coming going : ℕ) → WellFormed net → CanGo net n.0 → AllHave net.nets n.0 coming going → going + literals_at net.nets n < coming
    → (IsSaving net n.0 → ⊥) × (IsWideNet net n.0 → ⊥)
all_stay net n coming going formed can all more = (
  λ saving.
      let inner = saving.composites.inner in
      let asked : IsAsked net.nets n.0 inner = record { of_net = saving.composites.of_net; known = saving.composites.known } in
      omega (arith, saving.no_more, balance net n coming going inner all formed asked, more),
  λ wide. (wide_net net n.0 formed wide).1 (all_composites net n.0 coming going can all),
)

-- ---- one composite is too wide

one_wide : (net : NetParts) (n m : ℕ) → CanGo net n → IsWidePair net.nets n m → IsWideNet net n
one_wide net n m can wide =
    let name = name_in (slot net.nets n) in
    let same = wide.of_net in
    record {
      tabled = can.tabled;
      fails =
          wide_collapse_fails net name wide.inner m (subst (IsTabled net.nets name) (sym same) (named_itself net.nets n can.tabled))
          (subst (CanCollapse net) (sym same) can.can) wide.known wide.wide;
    }

row_wide : (net : NetParts) (n : ℕ) (row : Row) → CanGo net n → RightRow net.nets n row → 0 < row.wide → IsWideNet net n
row_wide net n row can right many =
    let w = found_wide row.pairs.entries right.summed.ordered (omega (arith, many, right.summed.wide)) in
    one_wide net n w.0 can (subst (IsComposite net.nets n w.0) w.1.1.1 (right.each w.0 w.1.0 w.1.1.0).coming)

-- ---- a row that has all

-- two tests that pass together are the same
both_ways : (a b : Bool) → (a ≡ true → b ≡ true) → (b ≡ true → a ≡ true) → a ≡ b
both_ways true b p q = sym (p refl)
both_ways false true p q = q refl
both_ways false false p q = refl

module _ (nets : List (Option FlatNet)) (n : ℕ) (row : Row) (right : RightRow nets n row) (narrow : row.wide ≡ 0) where
  -- each pair has literals
  pair_has : (m : ℕ) (it : Pair) → get nat_cmp row.pairs m ≡ Some it → HasLiterals nets n m (coming_of it)
  pair_has m it h = by it.coming refl (right.each m it h).coming
    where
      by : (o : Option ℕ) → it.coming ≡ o → IsComposite nets n m o → HasLiterals nets n m (coming_of it)
      by None e pair = absurd (none_wide row.pairs.entries m it (sym right.summed.wide ∙ narrow) h e)
      by (Some count) e pair = subst (HasLiterals nets n m) (sym (ap (λ o. unwrap_or o 0) e)) pair

  found : (m : ℕ) → is_some (get nat_cmp row.pairs m) ≡ true → (it : Pair) × (get nat_cmp row.pairs m ≡ Some it)
  found m h = by (get nat_cmp row.pairs m) refl h
    where
      by : (o : Option Pair) → get nat_cmp row.pairs m ≡ o → is_some o ≡ true → (it : Pair) × (get nat_cmp row.pairs m ≡ Some it)
      by None e h = absurd (false≢true h)
      by (Some it) e h = (it, e)

  row_has_all : ((m : ℕ) → reads_in nets m n ≡ true → is_some (get nat_cmp row.pairs m) ≡ true) → AllHave nets n row.coming row.going
  row_has_all complete =
      let es = row.pairs.entries in record {
        readers = readers_of es;
        all = record {
          ascending = readers_ascend es right.summed.ordered;
          members = λ m. both_ways _ _ (row_reads nets n row right m) (λ reads. has_reader es m ∙ complete m reads);
        };
        each = λ m h. let it = found m (sym (has_reader es m) ∙ h) in (coming_of it.0, pair_has m it.0 it.1);
        coming_is = λ inner asked.
            let one : (m : ℕ) (it : Pair) → get nat_cmp row.pairs m ≡ Some it → coming_of it ≡ composite_count nets inner m =
            λ m it h. sym (counted_is nets inner m (coming_of it) (pair_counted nets n m (coming_of it) inner asked (pair_has m it h))) in
            right.summed.coming
            ∙ sum_same coming_of (composite_count nets inner) es (all_found (λ (e : ℕ × Pair). coming_of e.1 ≡ composite_count nets inner e.0) es right.summed.ordered one);
        going_is =
            let size : ℕ → ℕ = λ m. table_literals (table_in (slot nets m)) in
            right.summed.going
            ∙ sum_same (λ (p : Pair). p.going) size es (all_found (λ (e : ℕ × Pair). e.1.going ≡ size e.0) es right.summed.ordered (λ m it h. (right.each m it h).going));
      }

-- ---- the verdict

-- where enough is kept and nothing is too wide, all is kept
all_kept : (nets : List (Option FlatNet)) (kept : KeptComposites) (n : ℕ) (row : Row) → slice_get kept.nets.items n ≡ Some row → RightRow nets n row → row.wide ≡ 0 → IsFilled nets n kept
    → (m : ℕ) → reads_in nets m n ≡ true → is_some (get nat_cmp row.pairs m) ≡ true
all_kept nets kept n row is right narrow filled m reads =
    ⊎_elim
    (λ (w : HasWide kept n).
    absurd (none_wide row.pairs.entries w.reader w.wide.pair (sym right.summed.wide ∙ narrow) (sym (has_at kept n w.reader row is) ∙ w.wide.has) w.wide.coming_is))
    (λ (all : IsComplete nets n kept). ap is_some (sym (has_at kept n m row is)) ∙ all.each m reads)
    filled

pub judged : (net : NetParts) (kept : KeptComposites) (n : NetId) (row : Row) (own : ℕ) (v : Verdict) → WellFormed net → CanGo net n.0 → AreRight net.nets kept → IsFilled net.nets n.0 kept
    → slice_get kept.nets.items n.0 ≡ Some row → own ≡ literals_at net.nets n → IsWeighed row own v → IsJudged net n.0 v
judged net kept n row own Saves formed can right filled is own_is weighed =
    let one = row_right net.nets kept n.0 row is right in
    all_save net n row.coming row.going formed can (row_has_all net.nets n.0 row one weighed.0 (all_kept net.nets kept n.0 row is one weighed.0 filled)) (omega (arith, own_is, weighed.1))
judged net kept n row own Wide formed can right filled is own_is weighed = row_wide net n.0 row can (row_right net.nets kept n.0 row is right) weighed
judged net kept n row own Stays formed can right filled is own_is weighed =
    let one = row_right net.nets kept n.0 row is right in
    all_stay net n row.coming row.going formed can (row_has_all net.nets n.0 row one weighed.0 (all_kept net.nets kept n.0 row is one weighed.0 filled)) (omega (arith, own_is, weighed.1))

-- there is a row for each net that can go
pub no_row_past : (net : NetParts) (kept : KeptComposites) (n : ℕ) → CanGo net n → AreRight net.nets kept → length kept.nets.items ≤ n → ⊥
no_row_past net kept n can right past = omega (arith, right.long, past, tabled_below net.nets n can.tabled)
