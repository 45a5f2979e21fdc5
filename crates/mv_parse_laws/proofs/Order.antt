-- A model stands by line where the numbers of its lines ascend: its tables, latches, reset tables and instances are each said by
-- lines of one kind, and no line is of two kinds.
use Rattle.std.proofs.Common.{◌≡◌, ℕ, ◌<◌, true, false, Bool, List, [], ◌∷◌, ◌++◌, refl, sym, subst, ◌∙◌, ⊎_elim}
use Rattle.std.specs.Prelude.{not, nat_eq, filter, map, All, if◌then◌else◌}
use Rattle.std.specs.List.{list_any}
use Rattle.std.proofs.lemmas.Bool.{false≢true, cases_Bool, cond_both, and_parts, and_from, or_parts, not-true, not_from_false, eq-eqb}
use Rattle.std.proofs.lemmas.List.Elements.{All-nil, All-cons}
use Rattle.mv_lex.specs.declared.lines.LexLine.{LexLine}
use Rattle.mv_design.specs.declared.design.Decl.{Decl}
use Rattle.mv_design.specs.declared.design.FileLatch.{FileLatch}
use Rattle.mv_design.specs.declared.design.Instance.{Instance}
use Rattle.mv_design.specs.declared.table.FileTable.{FileTable}
use Rattle.mv_design.specs.Proper.{numbers_ascend, none_in_both, table_lines, latch_lines, instance_lines, SharesOwnOnly, StandsByLine}
use Rattle.mv_table.specs.Tables.{table_of}
use Rattle.mv_instances.specs.Line.{instance_said}
use Rattle.mv_parse.specs.declared.command.Command.{Command}
use Rattle.mv_parse.specs.declared.command.Command.TheVariants.{Table, Latch, Reset, Instance as SaysInstance}
use Rattle.mv_parse.specs.Commands.{command_at}
use Rattle.mv_parse.specs.Known.{table_at, tables_of, latch_at, latches_of, reset_at, resets_of, instance_at, instances_of, decls_of, open_model, file_model}
use Rattle.mv_parse_laws.specs.Lines.{numbers_of}
use Rattle.mv_parse_laws.proofs.Ascending.{first-below, ascend-tail, ascend-cons, ascend-lower, none-behind, none-first}

-- ---- lines of one kind

-- the numbers of the lines of a kind
abbrev kind_lines : (Command → Bool) → List LexLine → List ℕ
kind_lines kind ls = numbers_of (filter (λ l. kind (command_at l)) ls)

kind-ascends : (kind : Command → Bool) (low : ℕ) (ls : List LexLine) → numbers_ascend (low ∷ numbers_of ls) ≡ true
    → numbers_ascend (low ∷ kind_lines kind ls) ≡ true
kind-ascends kind low [] up = refl
kind-ascends kind low (l ∷ ls) up =
    let above : low < l.number = first-below low l.number (numbers_of ls) up in
    let behind = kind-ascends kind l.number ls (ascend-tail low (l.number ∷ numbers_of ls) up) in
    let others : List LexLine = filter (λ x. kind (command_at x)) ls in
    cond_both (kind (command_at l)) (l ∷ others) others (λ xs. numbers_ascend (low ∷ numbers_of xs) ≡ true)
    (λ y. ascend-cons low l.number (numbers_of others) above behind)
    (λ n. ascend-lower low l.number (numbers_of others) above behind)

kind-skips : (kind : Command → Bool) (l : LexLine) (ls : List LexLine) → kind (command_at l) ≡ false → kind_lines kind (l ∷ ls) ≡ kind_lines kind ls
kind-skips kind l ls n = rw n refl

-- no command is of both kinds
abbrev AreApart : (Command → Bool) → (Command → Bool) → Type 0
AreApart one other = (c : Command) → one c ≡ true → other c ≡ false

kinds-apart : (one other : Command → Bool) (low : ℕ) (ls : List LexLine) → AreApart one other → numbers_ascend (low ∷ numbers_of ls) ≡ true
    → none_in_both (kind_lines one ls) (kind_lines other ls) ≡ true
kinds-apart one other low [] apart up = refl
kinds-apart one other low (l ∷ ls) apart up =
    let tail = ascend-tail low (l.number ∷ numbers_of ls) up in
    let behind : none_in_both (kind_lines one ls) (kind_lines other ls) ≡ true = kinds-apart one other l.number ls apart tail in
    let others : List LexLine = filter (λ x. other (command_at x)) ls in
    ⊎_elim
    (λ (y : one (command_at l) ≡ true).
    let new : list_any (nat_eq l.number) (kind_lines other ls) ≡ false = none-behind l.number (kind_lines other ls) (kind-ascends other l.number ls tail) in
    subst (λ ns. none_in_both (kind_lines one (l ∷ ls)) ns ≡ true) (sym (kind-skips other l ls (apart (command_at l) y)))
    (rw y (and_from _ _ (not_from_false _ new) behind)))
    (λ (n : one (command_at l) ≡ false).
    rw n (cond_both (other (command_at l)) (l ∷ others) others (λ xs. none_in_both (kind_lines one ls) (numbers_of xs) ≡ true)
    (λ y. none-first l.number (kind_lines one ls) (kind_lines other ls) (kind-ascends one l.number ls tail) behind)
    (λ m. behind)))
    (cases_Bool (one (command_at l)))

-- ---- what lines of one kind say

-- the number of a line of the kind, before others
abbrev with_number : Bool → LexLine → List ℕ → List ℕ
with_number is l others = if is then l.number ∷ others else others

-- the lines of what these lines say are those of a kind
record IsSaidBy {X : Type 0} (line : X → ℕ) (kind : Command → Bool) (all : List LexLine → List X) : Type 0 where
  none : map line (all []) ≡ []
  more : (l : LexLine) (ls : List LexLine) → map line (all (l ∷ ls)) ≡ with_number (kind (command_at l)) l (map line (all ls))

said-lines : {X : Type 0} (line : X → ℕ) (kind : Command → Bool) (all : List LexLine → List X) → IsSaidBy line kind all
    → (ls : List LexLine) → map line (all ls) ≡ kind_lines kind ls
said-lines line kind all h [] = h.none
said-lines line kind all h (l ∷ ls) =
    let others : List LexLine = filter (λ x. kind (command_at x)) ls in
    let P : List LexLine → Type 0 = λ xs. with_number (kind (command_at l)) l (numbers_of others) ≡ numbers_of xs in
    h.more l ls ∙ (rw (said-lines line kind all h ls) (cond_both (kind (command_at l)) (l ∷ others) others P (λ y. rw y refl) (λ n. rw n refl)))

-- the line begins a table that is no reset table
abbrev says_table : Command → Bool
says_table Table = true
says_table _ = false

-- the line says a latch
abbrev says_latch : Command → Bool
says_latch Latch = true
says_latch _ = false

-- the line begins a reset table
abbrev says_reset : Command → Bool
says_reset Reset = true
says_reset _ = false

-- the line says an instance
abbrev says_instance : Command → Bool
says_instance SaysInstance = true
says_instance _ = false

table-more : (c : Command) (ds : List Decl) (l : LexLine) (ls : List LexLine) (rest : List FileTable)
    → table_lines (table_at c ds l ls ++ rest) ≡ with_number (says_table c) l (table_lines rest)
unfolding table_of
table-more Table ds l ls rest = refl
table-more _ ds l ls rest = refl

latch-more : (c : Command) (l : LexLine) (rest : List FileLatch) → latch_lines (latch_at c l ++ rest) ≡ with_number (says_latch c) l (latch_lines rest)
latch-more Latch l rest = refl
latch-more _ l rest = refl

reset-more : (c : Command) (ds : List Decl) (l : LexLine) (ls : List LexLine) (rest : List FileTable)
    → table_lines (reset_at c ds l ls ++ rest) ≡ with_number (says_reset c) l (table_lines rest)
unfolding table_of
reset-more Reset ds l ls rest = refl
reset-more _ ds l ls rest = refl

instance-more : (c : Command) (l : LexLine) (rest : List Instance) → instance_lines (instance_at c l ++ rest) ≡ with_number (says_instance c) l (instance_lines rest)
unfolding instance_said
instance-more SaysInstance l rest = refl
instance-more _ l rest = refl

tables-said : (ds : List Decl) (ls : List LexLine) → table_lines (tables_of ds ls) ≡ kind_lines says_table ls
tables-said ds =
    said-lines (λ (t : FileTable). t.line) says_table (tables_of ds)
    (record { none = refl; more = λ l ls. table-more (command_at l) ds l ls (tables_of ds ls) })

latches-said : (ls : List LexLine) → latch_lines (latches_of ls) ≡ kind_lines says_latch ls
latches-said =
    said-lines (λ (h : FileLatch). h.line) says_latch latches_of
    (record { none = refl; more = λ l ls. latch-more (command_at l) l (latches_of ls) })

resets-said : (ds : List Decl) (ls : List LexLine) → table_lines (resets_of ds ls) ≡ kind_lines says_reset ls
resets-said ds =
    said-lines (λ (t : FileTable). t.line) says_reset (resets_of ds)
    (record { none = refl; more = λ l ls. reset-more (command_at l) ds l ls (resets_of ds ls) })

instances-said : (ls : List LexLine) → instance_lines (instances_of ls) ≡ kind_lines says_instance ls
instances-said =
    said-lines (λ (p : Instance). p.line) says_instance instances_of
    (record { none = refl; more = λ l ls. instance-more (command_at l) l (instances_of ls) })

latch-no-table : AreApart says_latch says_table
latch-no-table Latch y = refl
latch-no-table _ y = cc

reset-no-table : AreApart says_reset says_table
reset-no-table Reset y = refl
reset-no-table _ y = cc

reset-no-latch : AreApart says_reset says_latch
reset-no-latch Reset y = refl
reset-no-latch _ y = cc

instance-no-table : AreApart says_instance says_table
instance-no-table SaysInstance y = refl
instance-no-table _ y = cc

latch-no-instance : AreApart says_latch says_instance
latch-no-instance Latch y = refl
latch-no-instance _ y = cc

reset-no-instance : AreApart says_reset says_instance
reset-no-instance Reset y = refl
reset-no-instance _ y = cc

-- ---- reset tables share no line with a latch

pub one-shares : (reset : FileTable) (latches : List FileLatch) → list_any (nat_eq reset.line) (latch_lines latches) ≡ false
    → All (SharesOwnOnly reset) latches
one-shares reset [] none = All-nil (SharesOwnOnly reset)
one-shares reset (h ∷ latches) none =
    let p = or_parts (nat_eq reset.line h.line) (list_any (nat_eq reset.line) (latch_lines latches)) none in
    let apart : SharesOwnOnly reset h = record { own = λ e. absurd (false≢true (sym p.0 ∙ eq-eqb reset.line h.line e)) } in
    All-cons (SharesOwnOnly reset) h latches apart (one-shares reset latches p.1)

none-shares : (resets : List FileTable) (latches : List FileLatch) → none_in_both (table_lines resets) (latch_lines latches) ≡ true
    → All (λ reset. All (SharesOwnOnly reset) latches) resets
none-shares [] latches none = All-nil (λ reset. All (SharesOwnOnly reset) latches)
none-shares (reset ∷ resets) latches none =
    let p = and_parts (not (list_any (nat_eq reset.line) (latch_lines latches))) (none_in_both (table_lines resets) (latch_lines latches)) none in
    All-cons (λ r. All (SharesOwnOnly r) latches) reset resets (one-shares reset latches (not-true _ p.0)) (none-shares resets latches p.1)

-- ---- the model

pub stands : (m : LexLine) (ls : List LexLine) → numbers_ascend (numbers_of (m ∷ ls)) ≡ true → StandsByLine (file_model (open_model m ls) ls)
stands m ls up =
    let ds : List Decl = decls_of ls in
    let tables = tables-said ds ls in
    let latches = latches-said ls in
    let resets = resets-said ds ls in
    let instances = instances-said ls in
    let ascends = λ (kind : Command → Bool). ascend-tail m.number (kind_lines kind ls) (kind-ascends kind m.number ls up) in
    let none : none_in_both (table_lines (resets_of ds ls)) (latch_lines (latches_of ls)) ≡ true =
    rw (resets, latches) (kinds-apart says_reset says_latch m.number ls reset-no-latch up) in
    record {
      tables = rw tables (ascends says_table);
      latches = rw latches (ascends says_latch);
      resets = rw resets (ascends says_reset);
      instances = rw instances (ascends says_instance);
      latches_tables = rw (latches, tables) (kinds-apart says_latch says_table m.number ls latch-no-table up);
      resets_tables = rw (resets, tables) (kinds-apart says_reset says_table m.number ls reset-no-table up);
      instances_tables = rw (instances, tables) (kinds-apart says_instance says_table m.number ls instance-no-table up);
      latches_instances = rw (latches, instances) (kinds-apart says_latch says_instance m.number ls latch-no-instance up);
      resets_instances = rw (resets, instances) (kinds-apart says_reset says_instance m.number ls reset-no-instance up);
      resets_latches = none-shares (resets_of ds ls) (latches_of ls) none;
    }
