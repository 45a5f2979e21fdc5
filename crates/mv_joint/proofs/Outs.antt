-- The rows of outputs of a table without `=`: how long they are, that none of their sets is empty, and that they are of values
-- of the output nets.
use Rattle.std.proofs.Common.{◌≡◌, ℕ, zero, suc, ◌+◌, ◌<◌, ◌≤◌, Bool, true, false, not, ◌&&◌, ◌||◌, nat_eq, cond, Option, Some, None, List, [], ◌∷◌, ◌++◌, length, length-append, map, refl, sym, ◌∙◌, ap, subst, arith, All}
use Rattle.std.specs.Prelude.{slice_index, slice_set}
use Rattle.std.specs.List.{list_any, flat_map, range_with_len}
use Rattle.std.proofs.Math.Bool.{or-false}
use Rattle.std.proofs.lemmas.Bool.{cond_both, false≢true, not-true, or_parts}
use Rattle.std.proofs.lemmas.List.Elements.{All-nil, All-cons, All-head, All-tail, All-append, All-filter, All-map, All-weaker}
use Rattle.std.proofs.lemmas.List.Folds.{list_any-append}
use Rattle.mv_base.specs.Set.{has, empty, one, full, Within}
use Rattle.mv_base.specs.declared.number.NetId.{NetId}
use Rattle.mv_cover.proofs.Points.{one_some}
use Rattle.mv_design.specs.declared.table.Entry.{Entry}
use Rattle.mv_design.specs.declared.table.Entry.TheVariants.{Set, Same}
use Rattle.mv_design.specs.declared.table.Row.{Row}
use Rattle.mv_design.specs.declared.table.FileTable.{FileTable}
use Rattle.mv_rows.specs.declared.column.Column.{Column}
use Rattle.mv_rows.specs.Covers.{FitOutput}
use Rattle.mv_rows.specs.Flat.{says_nothing, with_mark, marked_sets}
use Rattle.mv_rows.specs.Lines.{FitEntry, count_at}
use Rattle.mv_rows.proofs.Flat.{output_marked}
use Rattle.mv_rows.proofs.Over.{one_within}
use Rattle.mv_joint.specs.declared.split.PlainRow.{PlainRow}
use Rattle.mv_joint.specs.Plain.{PlainTable}
use Rattle.mv_joint.specs.Split.{narrowing, extended, split, is_possible, rows_of, all_rows}
use Rattle.mv_joint.specs.Plain.{IsJointRow, IsJointFile, is_silent, said, stays, some_bare, is_same, needs_mark, set_of, with_any_mark, unmarked, marked, plain_by, plain_of}
use Rattle.mv_joint.specs.Meaning.{FitEach, FitJointOutputs}
use Rattle.mv_joint.proofs.Fitting.{passing}

-- ---- what entries say of rows of outputs

-- what holds of rows of outputs with entries left holds with an entry less
record Keeps (cs : List Column) (P : List ℕ → List Entry → Type 0) : Type 0 where
  set : (s : ℕ) (es : List Entry) (outs : List ℕ) → P outs (Set s ∷ es) → P (outs ++ s ∷ []) es
  same : (k v : ℕ) (es : List Entry) (outs : List ℕ) → v < count_at cs k → P outs (Same k ∷ es) → P (outs ++ one v ∷ []) es

narrowings_all : (Q : PlainRow → Type 0) (k : ℕ) (r : PlainRow) (a n : ℕ) → ((v : ℕ) → v < a + n → Q (record { ins = slice_set r.ins k (one v); outs = r.outs ++ one v ∷ [] })) → All Q (flat_map (narrowing k r) (range_with_len a n))
narrowings_all Q k r a zero each = All-nil Q
narrowings_all Q k r a (suc n) each =
    let row : PlainRow = record { ins = slice_set r.ins k (one a); outs = r.outs ++ one a ∷ [] } in
    All-append Q (narrowing k r a) (flat_map (narrowing k r) (range_with_len (a + 1) n))
    (cond_both (has (slice_index r.ins k) a) (row ∷ []) [] (All Q) (λ _. All-cons Q row [] (each a (omega arith)) (All-nil Q)) (λ _. All-nil Q))
    (narrowings_all Q k r (a + 1) n (λ v low. each v (omega arith)))

extended_all : (cs : List Column) (P : List ℕ → List Entry → Type 0) → Keeps cs P → (e : Entry) (es : List Entry) (r : PlainRow) → P r.outs (e ∷ es) → All (λ (q : PlainRow). P q.outs es) (extended cs e r)
extended_all cs P keeps (Set s) es r h =
    All-cons (λ (q : PlainRow). P q.outs es) (record { ins = r.ins; outs = r.outs ++ s ∷ [] }) [] (keeps.set s es r.outs h) (All-nil _)
extended_all cs P keeps (Same k) es r h =
    narrowings_all (λ (q : PlainRow). P q.outs es) k r 0 (count_at cs k) (λ v low. keeps.same k v es r.outs (omega (arith, low)) h)

all_extended : (cs : List Column) (P : List ℕ → List Entry → Type 0) → Keeps cs P → (e : Entry) (es : List Entry) (rows : List PlainRow) → All (λ (q : PlainRow). P q.outs (e ∷ es)) rows → All (λ (q : PlainRow). P q.outs es) (flat_map (extended cs e) rows)
all_extended cs P keeps e es [] all = All-nil _
all_extended cs P keeps e es (r ∷ rows) all =
    All-append (λ (q : PlainRow). P q.outs es) (extended cs e r) (flat_map (extended cs e) rows)
    (extended_all cs P keeps e es r (All-head (λ (q : PlainRow). P q.outs (e ∷ es)) r rows all))
    (all_extended cs P keeps e es rows (All-tail (λ (q : PlainRow). P q.outs (e ∷ es)) r rows all))

split_all : (cs : List Column) (P : List ℕ → List Entry → Type 0) → Keeps cs P → (es : List Entry) (rows : List PlainRow) → All (λ (q : PlainRow). P q.outs es) rows → All (λ (q : PlainRow). P q.outs []) (split cs es rows)
split_all cs P keeps [] rows all = all
split_all cs P keeps (e ∷ es) rows all = split_all cs P keeps es (flat_map (extended cs e) rows) (all_extended cs P keeps e es rows all)

rows_all : (cs : List Column) (P : List ℕ → List Entry → Type 0) → Keeps cs P → (ins : List ℕ) (es : List Entry) → P [] es → All (λ (q : PlainRow). P q.outs []) (rows_of cs ins es)
rows_all cs P keeps ins es h =
    let start : PlainRow = record { ins = ins; outs = [] } in
    All-filter (is_possible cs) (λ (q : PlainRow). P q.outs []) (split cs es (start ∷ []))
    (split_all cs P keeps es (start ∷ []) (All-cons (λ (q : PlainRow). P q.outs es) start [] h (All-nil _)))

-- ---- how long they are

abbrev Long : ℕ → List ℕ → List Entry → Type 0
Long n outs es = length outs + length es ≡ n

long_more : (n : ℕ) (e : Entry) (es : List Entry) (outs : List ℕ) (s : ℕ) → Long n outs (e ∷ es) → Long n (outs ++ s ∷ []) es
long_more n e es outs s h = omega (arith, h, length-append outs (s ∷ []))

long_keeps : (cs : List Column) (n : ℕ) → Keeps cs (Long n)
long_keeps cs n = record { set = λ s es outs h. long_more n (Set s) es outs s h; same = λ k v es outs low h. long_more n (Same k) es outs (one v) h }

-- a row has a set for each of so many outputs
abbrev pub HasLength : ℕ → List ℕ → Type 0
HasLength n outs = length outs ≡ n

-- ---- no set is empty

abbrev some_none : List ℕ → Bool
some_none sets = list_any (λ s. nat_eq s empty) sets

record Said (outs : List ℕ) (es : List Entry) : Type 0 where
  outs_say : some_none outs ≡ false
  entries_say : list_any says_nothing es ≡ false

none_push : (outs : List ℕ) (s : ℕ) → some_none outs ≡ false → nat_eq s empty ≡ false → some_none (outs ++ s ∷ []) ≡ false
none_push outs s h g = list_any-append (λ t. nat_eq t empty) outs (s ∷ []) ∙ (ap (λ b. b || some_none (s ∷ [])) h ∙ (or-false _ ∙ g))

said_keeps : (cs : List Column) → Keeps cs Said
said_keeps cs = record {
  set = λ s es outs h. let p = or_parts (nat_eq s empty) (list_any says_nothing es) h.entries_say in record { outs_say = none_push outs s h.outs_say p.0; entries_say = p.1 };
  same = λ k v es outs low h. record { outs_say = none_push outs (one v) h.outs_say (one_some v); entries_say = h.entries_say };
}

-- ---- they are of values of the output nets

-- each set is of values of its output net, which has so many
abbrev pub OutsWithin : List ℕ → List ℕ → Type 0
OutsWithin [] [] = Unit {0}
OutsWithin [] (_ ∷ _) = ⊥
OutsWithin (_ ∷ _) [] = ⊥
OutsWithin (n ∷ ns) (s ∷ sets) = Within s (full n) × OutsWithin ns sets

abbrev FitRest : List Column → List ℕ → List ℕ → List Entry → Type 0
FitRest cs counts [] es = FitEach cs counts es
FitRest cs [] (s ∷ sets) es = ⊥
FitRest cs (n ∷ ns) (s ∷ sets) es = Within s (full n) × FitRest cs ns sets es

fit_push : (cs : List Column) (counts sets : List ℕ) (e : Entry) (es : List Entry) (s : ℕ) → ((n : ℕ) → FitOutput cs n e → Within s (full n)) → FitRest cs counts sets (e ∷ es) → FitRest cs counts (sets ++ s ∷ []) es
fit_push cs [] [] e es s w fit = absurd fit
fit_push cs (n ∷ ns) [] e es s w fit = (w n fit.0, fit.1)
fit_push cs [] (t ∷ sets) e es s w fit = absurd fit
fit_push cs (n ∷ ns) (t ∷ sets) e es s w fit = (fit.0, fit_push cs ns sets e es s w fit.1)

fit_keeps : (cs : List Column) (counts : List ℕ) → Keeps cs (FitRest cs counts)
fit_keeps cs counts = record {
  set = λ s es outs h. fit_push cs counts outs (Set s) es s (λ n f. f) h;
  same = λ k v es outs low h. fit_push cs counts outs (Same k) es (one v) (λ n f. one_within v n (let most : count_at cs k ≤ n = f in omega (arith, low))) h;
}

within_from_rest : (cs : List Column) (counts sets : List ℕ) → FitRest cs counts sets [] → OutsWithin counts sets
within_from_rest cs [] [] fit = tt
within_from_rest cs (n ∷ ns) [] fit = absurd fit
within_from_rest cs [] (s ∷ sets) fit = absurd fit
within_from_rest cs (n ∷ ns) (s ∷ sets) fit = (fit.0, within_from_rest cs ns sets fit.1)

each_marked : (cs : List Column) (mark : NetId) (counts : List ℕ) (es : List Entry) → All (FitEntry cs) es → FitEach cs counts es → FitEach (with_mark cs mark) counts es
each_marked cs mark [] [] fits each = tt
each_marked cs mark [] (e ∷ es) fits each = absurd each
each_marked cs mark (n ∷ ns) [] fits each = absurd each
each_marked cs mark (n ∷ ns) (e ∷ es) fits each =
    (output_marked cs mark n e (All-head (FitEntry cs) e es fits) each.0, each_marked cs mark ns es (All-tail (FitEntry cs) e es fits) each.1)

within_sets : (cs : List Column) (counts : List ℕ) (es : List Entry) → list_any is_same es ≡ false → FitEach cs counts es → OutsWithin counts (map set_of es)
within_sets cs [] [] h each = tt
within_sets cs [] (e ∷ es) h each = absurd each
within_sets cs (n ∷ ns) [] h each = absurd each
within_sets cs (n ∷ ns) (Set s ∷ es) h each = (each.0, within_sets cs ns es h each.1)
within_sets cs (n ∷ ns) (Same k ∷ es) h each = absurd (false≢true (sym h))

some_sets : (es : List Entry) → list_any is_same es ≡ false → list_any says_nothing es ≡ false → some_none (map set_of es) ≡ false
some_sets [] h g = refl
some_sets (Set s ∷ es) h g =
    let p = or_parts (nat_eq s empty) (list_any says_nothing es) g in
    rw p.0 (some_sets es h p.1)
some_sets (Same k ∷ es) h g = absurd (false≢true (sym h))

long_sets : (es : List Entry) → length (map set_of es) ≡ length es
long_sets [] = refl
long_sets (e ∷ es) = let h = long_sets es in omega (arith, h)

-- ---- the rows of outputs of a table without `=`

-- something holds of each row of outputs, and none of their sets is empty
pub record OutsAre (R : List ℕ → Type 0) (p : PlainTable) : Type 0 where
  pub rows : All (λ (r : PlainRow). R r.outs × (is_silent r ≡ false)) p.rows
  pub default : (sets : List ℕ) → p.default ≡ Some sets → R sets × (list_any (λ s. nat_eq s empty) sets ≡ false)

-- what a default makes of it: rows where it reads a mark, and else sets
record DefaultOuts (cs : List Column) (mark : NetId) (R : List ℕ → Type 0) (es : List Entry) : Type 0 where
  rows : All (λ (q : PlainRow). R q.outs) (rows_of (with_mark cs mark) (marked_sets cs) es)
  sets : list_any is_same es ≡ false → R (map set_of es)

said_outs : (R : List ℕ → Type 0) (rows : List PlainRow) → All (λ (r : PlainRow). R r.outs) rows → All (λ (r : PlainRow). R r.outs × (is_silent r ≡ false)) (said rows)
said_outs R rows all =
    All-weaker (λ (r : PlainRow). R r.outs × (not (is_silent r) ≡ true)) (λ (r : PlainRow). R r.outs × (is_silent r ≡ false)) (λ r p. (p.0, not-true (is_silent r) p.1)) (said rows)
    (passing (λ (r : PlainRow). R r.outs) (λ (r : PlainRow). not (is_silent r)) rows all)

unmarked_outs : (cs : List Column) (R : List ℕ → Type 0) (rows : List PlainRow) → All (λ (r : PlainRow). R r.outs) rows → OutsAre R (unmarked cs rows None)
unmarked_outs cs R rows all = record { rows = said_outs R rows all; default = λ sets e. absurd (cc) }

both : (P Q : PlainRow → Type 0) (rows : List PlainRow) → All P rows → All Q rows → All (λ (r : PlainRow). P r × Q r) rows
both P Q rows p q k d low = (p k d low, q k d low)

marked_outs : (cs : List Column) (mark : NetId) (R : List ℕ → Type 0) (rows : List PlainRow) (es : List Entry) → All (λ (r : PlainRow). R r.outs) rows → DefaultOuts cs mark R es → list_any says_nothing es ≡ false → OutsAre R (marked cs mark rows es)
marked_outs cs mark R rows es all outs say =
    let Q : PlainRow → Type 0 = λ (r : PlainRow). R r.outs × (is_silent r ≡ false) in
    let some : All (λ (q : PlainRow). Said q.outs []) (rows_of (with_mark cs mark) (marked_sets cs) es) =
    rows_all (with_mark cs mark) Said (said_keeps (with_mark cs mark)) (marked_sets cs) es (record { outs_say = refl; entries_say = say }) in
    record {
      rows = All-append Q (map with_any_mark (said rows)) (rows_of (with_mark cs mark) (marked_sets cs) es)
          (All-map Q with_any_mark (said rows) (said_outs R rows all))
          (both (λ (q : PlainRow). R q.outs) (λ (q : PlainRow). is_silent q ≡ false) (rows_of (with_mark cs mark) (marked_sets cs) es) outs.rows
          (All-weaker (λ (q : PlainRow). Said q.outs []) (λ (q : PlainRow). is_silent q ≡ false) (λ q h. h.outs_say) (rows_of (with_mark cs mark) (marked_sets cs) es) some));
      default = λ sets e. absurd (cc);
    }

sets_outs : (cs : List Column) (mark : NetId) (R : List ℕ → Type 0) (rows : List PlainRow) (es : List Entry) → All (λ (r : PlainRow). R r.outs) rows → DefaultOuts cs mark R es → list_any says_nothing es ≡ false → list_any is_same es ≡ false → OutsAre R (unmarked cs rows (Some (map set_of es)))
sets_outs cs mark R rows es all outs say plain = record {
  rows = said_outs R rows all;
  default = λ sets e.
      let same : map set_of es ≡ sets = cc in
      subst (λ (x : List ℕ). R x × (list_any (λ s. nat_eq s empty) x ≡ false)) same (outs.sets plain, some_sets es plain say);
}

by_default : (cs : List Column) (mark : NetId) (R : List ℕ → Type 0) (rows : List PlainRow) (d : Option (List Entry)) → All (λ (r : PlainRow). R r.outs) rows → ((es : List Entry) → d ≡ Some es → DefaultOuts cs mark R es) → OutsAre R (plain_by cs mark rows d)
by_default cs mark R rows None all outs = unmarked_outs cs R rows all
by_default cs mark R rows (Some es) all outs =
    let P : PlainTable → Type 0 = OutsAre R in
    cond_both (not (stays cs rows es)) (unmarked cs rows None) (cond (needs_mark rows es) (marked cs mark rows es) (unmarked cs rows (Some (map set_of es)))) P
    (λ _. unmarked_outs cs R rows all)
    (λ there.
    let say : list_any says_nothing es ≡ false = stays_says (list_any says_nothing es) (some_bare cs rows) there in
    cond_both (needs_mark rows es) (marked cs mark rows es) (unmarked cs rows (Some (map set_of es))) P
    (λ _. marked_outs cs mark R rows es all (outs es refl) say)
    (λ plain. sets_outs cs mark R rows es all (outs es refl) say (or_parts (list_any is_same es) (list_any is_silent rows) plain).0))
  where
    stays_says : (a b : Bool) → not (not a && not b) ≡ false → a ≡ false
    stays_says true b h = h
    stays_says false b h = refl

all_rows_outs : (cs : List Column) (R : List ℕ → Type 0) (rows : List Row) → All (λ (r : Row). All (λ (q : PlainRow). R q.outs) (rows_of cs r.ins r.outs)) rows → All (λ (q : PlainRow). R q.outs) (all_rows cs rows)
all_rows_outs cs R [] all = All-nil _
all_rows_outs cs R (r ∷ rows) all =
    let S : Row → Type 0 = λ (x : Row). All (λ (q : PlainRow). R q.outs) (rows_of cs x.ins x.outs) in
    All-append (λ (q : PlainRow). R q.outs) (rows_of cs r.ins r.outs) (all_rows cs rows) (All-head S r rows all) (all_rows_outs cs R rows (All-tail S r rows all))

rows_long : (cs : List Column) (n : ℕ) (ins : List ℕ) (es : List Entry) → length es ≡ n → All (λ (q : PlainRow). HasLength n q.outs) (rows_of cs ins es)
rows_long cs n ins es h =
    All-weaker (λ (q : PlainRow). Long n q.outs []) (λ (q : PlainRow). HasLength n q.outs) (λ q l. omega (arith, l)) (rows_of cs ins es)
    (rows_all cs (Long n) (long_keeps cs n) ins es (omega (arith, h)))

-- each row of outputs has a set for each output
pub plain_long : (cs : List Column) (t : FileTable) (mark : NetId) → IsJointFile cs t → OutsAre (HasLength (length t.outputs)) (plain_of cs t mark)
plain_long cs t mark file =
    let n = length t.outputs in
    by_default cs mark (HasLength n) (all_rows cs t.rows) t.default
    (all_rows_outs cs (HasLength n) t.rows
    (All-weaker (IsJointRow cs n) (λ (r : Row). All (λ (q : PlainRow). HasLength n q.outs) (rows_of cs r.ins r.outs)) (λ r is. rows_long cs n r.ins r.outs is.several) t.rows file.rows))
    (λ es e. record {
      rows = rows_long (with_mark cs mark) n (marked_sets cs) es (file.default es e).several;
      sets = λ _. long_sets es ∙ (file.default es e).several;
    })

rows_within : (cs : List Column) (counts ins : List ℕ) (es : List Entry) → FitEach cs counts es → All (λ (q : PlainRow). OutsWithin counts q.outs) (rows_of cs ins es)
rows_within cs counts ins es each =
    All-weaker (λ (q : PlainRow). FitRest cs counts q.outs []) (λ (q : PlainRow). OutsWithin counts q.outs) (λ q l. within_from_rest cs counts q.outs l) (rows_of cs ins es)
    (rows_all cs (FitRest cs counts) (fit_keeps cs counts) ins es each)

-- each set of a row of outputs is of values of its output net
pub plain_within : (cs : List Column) (t : FileTable) (mark : NetId) (counts : List ℕ) → IsJointFile cs t → FitJointOutputs cs counts t → OutsAre (OutsWithin counts) (plain_of cs t mark)
plain_within cs t mark counts file fit =
    by_default cs mark (OutsWithin counts) (all_rows cs t.rows) t.default
    (all_rows_outs cs (OutsWithin counts) t.rows
    (All-weaker (λ (r : Row). FitEach cs counts r.outs) (λ (r : Row). All (λ (q : PlainRow). OutsWithin counts q.outs) (rows_of cs r.ins r.outs)) (λ r each. rows_within cs counts r.ins r.outs each) t.rows fit.rows))
    (λ es e. record {
      rows = rows_within (with_mark cs mark) counts (marked_sets cs) es (each_marked cs mark counts es (file.default es e).fit (fit.default es e));
      sets = λ plain. within_sets cs counts es plain (fit.default es e);
    })
