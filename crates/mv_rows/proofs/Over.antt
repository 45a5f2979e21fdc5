-- The lines of the rows are over the nets of the columns, and their outputs are what the entries say.
use Rattle.std.proofs.Common.{◌≡◌, ℕ, zero, suc, ◌<◌, ◌≤◌, List, [], ◌∷◌, ◌++◌, sym, ◌∙◌, subst, arith, All}
use Rattle.std.proofs.lemmas.Bool.{eqb-true, lt-ltb}
use Rattle.std.proofs.lemmas.List.Elements.{All-nil, All-cons, All-head, All-tail, All-same, All-append}
use Rattle.mv_base.specs.Set.{one, full, Within}
use Rattle.mv_base.proofs.Sets.{has-one, has-full}
use Rattle.mv_cover.specs.Cubes.{IsCube}
use Rattle.mv_cover.specs.declared.line.Line.{Line}
use Rattle.mv_design.specs.declared.table.Entry.{Entry}
use Rattle.mv_design.specs.declared.table.Entry.TheVariants.{Set, Same}
use Rattle.mv_design.specs.declared.table.Row.{Row}
use Rattle.mv_rows.specs.declared.column.Column.{Column}
use Rattle.mv_rows.specs.Cubes.{CountBy, AreParts}
use Rattle.mv_rows.specs.Lines.{OneLine, EachValue, EntryLines, narrowed, count_at}
use Rattle.mv_rows.specs.Flat.{only_entry, RowsLines}
use Rattle.mv_rows.specs.Covers.{FitOutput}

-- a line over nets with these numbers of values, with an output of a kind
pub record IsOver (count : ℕ → ℕ) (Q : ℕ → Type 0) (l : Line) : Type 0 where
  pub cube : IsCube l.cube
  pub parts : AreParts count l.cube
  pub out : Q l.out

-- the outputs that an entry says are of a kind
abbrev pub Says : (ℕ → Type 0) → List Column → Entry → Type 0
Says Q cs (Set s) = Q s
Says Q cs (Same k) = (v : ℕ) → v < count_at cs k → Q (one v)

one-over : (count : ℕ → ℕ) (Q : ℕ → Type 0) (cs : List Column) (sets : List ℕ) (out : ℕ) (ls : List Line) → CountBy count cs → OneLine cs sets out ls → Q out → All (IsOver count Q) ls
one-over count Q cs sets out [] by is q = All-nil (IsOver count Q)
one-over count Q cs sets out (l ∷ []) by is q =
    All-cons (IsOver count Q) l [] (record { cube = is.cube.formed; parts = is.cube.parts count by; out = subst Q (sym is.out_is) q }) (All-nil (IsOver count Q))
one-over count Q cs sets out (l ∷ m ∷ ls) by is q = absurd is

values-over : (count : ℕ → ℕ) (Q : ℕ → Type 0) (cs : List Column) (sets : List ℕ) (k n : ℕ) (ls : List Line) → CountBy count cs → EachValue cs sets k n ls → ((v : ℕ) → v < n → Q (one v)) → All (IsOver count Q) ls
values-over count Q cs sets k zero ls by are q = All-same (IsOver count Q) ls [] are (All-nil (IsOver count Q))
values-over count Q cs sets k (suc v) ls by are q =
    All-same (IsOver count Q) ls (are.before ++ are.here) are.joined
    (All-append (IsOver count Q) are.before are.here
    (values-over count Q cs sets k v are.before by are.are_before (λ u low. q u (omega arith)))
    (one-over count Q cs (narrowed sets k v) (one v) are.here by are.are_here (q v (omega arith))))

pub entry-over : (count : ℕ → ℕ) (Q : ℕ → Type 0) (cs : List Column) (sets : List ℕ) (e : Entry) (ls : List Line) → CountBy count cs → EntryLines cs sets e ls → Says Q cs e → All (IsOver count Q) ls
entry-over count Q cs sets (Set s) ls by are q = one-over count Q cs sets s ls by are q
entry-over count Q cs sets (Same k) ls by are q = values-over count Q cs sets k (count_at cs k) ls by are q

abbrev pub RowSays : (ℕ → Type 0) → List Column → Row → Type 0
RowSays Q cs r = Says Q cs (only_entry r.outs)

pub rows-over : (count : ℕ → ℕ) (Q : ℕ → Type 0) (cs : List Column) (rows : List Row) (ls : List Line) → CountBy count cs → RowsLines cs rows ls → All (RowSays Q cs) rows → All (IsOver count Q) ls
rows-over count Q cs [] ls by are q = All-same (IsOver count Q) ls [] are (All-nil (IsOver count Q))
rows-over count Q cs (r ∷ rows) ls by are q =
    All-same (IsOver count Q) ls (are.before ++ are.here) are.joined
    (All-append (IsOver count Q) are.before are.here
    (entry-over count Q cs r.ins (only_entry r.outs) are.before by are.are_before (All-head (RowSays Q cs) r rows q))
    (rows-over count Q cs rows are.here by are.are_here (All-tail (RowSays Q cs) r rows q)))

-- ---- the kinds: any output, and values of the output net

pub says_any : (cs : List Column) (e : Entry) → Says (λ _. Unit {0}) cs e
says_any cs (Set s) = tt
says_any cs (Same k) = λ v low. tt

pub one_within : (v n : ℕ) → v < n → Within (one v) (full n)
one_within v n low u h = has-full n u ∙ lt-ltb u n (let e : u ≡ v = eqb-true u v (sym (has-one v u) ∙ h) in omega arith)

pub says_within : (cs : List Column) (values : ℕ) (e : Entry) → FitOutput cs values e → Says (λ s. Within s (full values)) cs e
says_within cs values (Set s) fit = fit
says_within cs values (Same k) fit = λ v low. one_within v values (let most : count_at cs k ≤ values = fit in omega arith)
