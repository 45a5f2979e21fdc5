-- What is told where the cover of a table has more lines than a network may have.
use Rattle.std.proofs.Common.{◌≡◌, ℕ, ◌+◌, ◌<◌, ◌≤◌, Bool, true, false, cond, List, [], ◌++◌, length, get_or, Option, Some, None, inl, inr, refl, sym, ◌∙◌, ap, arith}
use Rattle.std.specs.Prelude.{is_some, nat_lt}
use Rattle.std.specs.List.{flat_map}
use Rattle.std.proofs.lemmas.Bool.{lt-ltb, le-ltb}
use Rattle.std.proofs.lemmas.List.{length-append}
use Rattle.mv_base.specs.declared.limits.TheConstants.{MAX_FLAT_NETS, MAX_FLAT_LINES}
use Rattle.mv_base.specs.declared.number.NetId.{NetId}
use Rattle.mv_cover.specs.declared.cover.Cover.{Cover}
use Rattle.mv_design.specs.declared.design.FileModel.{FileModel}
use Rattle.mv_design.specs.declared.table.FileTable.{FileTable}
use Rattle.mv_fault.specs.Tells.{first}
use Rattle.mv_fault.specs.declared.fault.Which.TheVariants.{Nets, FlatLines}
use Rattle.mv_fault.specs.declared.flat.FlatFault.{FlatFault}
use Rattle.mv_fault.specs.declared.flat.FlatFault.TheVariants.{Limit, Memory}
use Rattle.mv_rows.specs.declared.column.Column.{Column}
use Rattle.mv_rows.specs.declared.stop.RowStop.{RowStop}
use Rattle.mv_rows.specs.declared.stop.RowStop.TheVariants.{Many, Memory as out_of_memory}
use Rattle.mv_rows.specs.declared.table.FlatTable.{FlatTable}
use Rattle.mv_rows.specs.Flat.{IsMade}
use Rattle.mv_rows.specs.Many.{HasMore, StopsAt}
use Rattle.mv_rows.specs.Marked.{is_marked}
use Rattle.mv_rows.proofs.Marked.{marked_exactly}
use Rattle.mv_flat.specs.declared.covers.TableCovers.TheVariants.{Single}
use Rattle.mv_flat.specs.declared.size.Size.{Size}
use Rattle.mv_flat.specs.Covers.{MadeNet, made_mark, made_of}
use Rattle.mv_flat.specs.Gathered.{IsMarkNumber}
use Rattle.mv_flat.specs.Numbers.{columns_at, mark_at}
use Rattle.mv_flat.specs.Placed.{AreColumnsOf}
use Rattle.mv_flat.specs.Places.{is_joint, net_places}
use Rattle.mv_flat.specs.Size.{gives_reset, size_faults}
use Rattle.mv_flat.specs.Sized.{TellsCovers, TellsPast, TellsLimit, AreSized, with_covers}
use Rattle.mv_flat.proofs.Singles.{not_joint}
use Rattle.mv_flat.proofs.Sizes.{past_limit, past_wide}
use Rattle.mv_flat.proofs.Unmarked.{own_columns, own_made, own_table}

-- ---- the size with a table of one output

made_count : (o : Option Cover) → length (made_mark o ++ []) ≡ cond (is_some o) 1 0
made_count None = refl
made_count (Some c) = refl

nets_single : (s : Size) (t : FileTable) (flat : FlatTable) → (with_covers s t (Single flat)).nets ≡ s.nets + cond (gives_reset t) 1 0 + cond (is_some flat.mark) 1 0
nets_single s t flat = ap (λ n. s.nets + cond (gives_reset t) 1 0 + n) (made_count flat.mark)

lines_single : (s : Size) (t : FileTable) (flat : FlatTable) → s.lines + length flat.cover.lines ≤ (with_covers s t (Single flat)).lines
lines_single s t flat =
    let of_marks = flat_map (λ (m : MadeNet). m.cover.lines) (made_of (Single flat)) in
    let both = length-append of_marks (flat.cover.lines ++ []) in
    let own = length-append flat.cover.lines [] in
    omega arith

pub past_nets : (s : Size) (t : FileTable) (flat : FlatTable) (nets : ℕ) (marked : Bool) → is_some flat.mark ≡ marked → nets ≡ s.nets + cond (gives_reset t) 1 0 + cond marked 1 0 → MAX_FLAT_NETS < nets
    → first (size_faults (with_covers s t (Single flat))) ≡ Some (Limit Nets (MAX_FLAT_NETS + 1))
past_nets s t flat nets marked e is more =
    let all = nets_single s t flat ∙ (ap (λ b. s.nets + cond (gives_reset t) 1 0 + cond b 1 0) e ∙ sym is) in
    let passed : nat_lt MAX_FLAT_NETS (with_covers s t (Single flat)).nets ≡ true = lt-ltb MAX_FLAT_NETS _ (omega (arith, all, more)) in
    rw passed refl

pub past_lines : (s : Size) (t : FileTable) (flat : FlatTable) (nets : ℕ) (marked : Bool) → is_some flat.mark ≡ marked → nets ≡ s.nets + cond (gives_reset t) 1 0 + cond marked 1 0 → nets ≤ MAX_FLAT_NETS
    → MAX_FLAT_LINES < s.lines + length flat.cover.lines → first (size_faults (with_covers s t (Single flat))) ≡ Some (Limit FlatLines (MAX_FLAT_LINES + 1))
past_lines s t flat nets marked e is few more =
    let all = nets_single s t flat ∙ (ap (λ b. s.nets + cond (gives_reset t) 1 0 + cond b 1 0) e ∙ sym is) in
    let within : nat_lt MAX_FLAT_NETS (with_covers s t (Single flat)).nets ≡ false = le-ltb MAX_FLAT_NETS _ (omega (arith, all, few)) in
    let lines = lines_single s t flat in
    let passed : nat_lt MAX_FLAT_LINES (with_covers s t (Single flat)).lines ≡ true = lt-ltb MAX_FLAT_LINES _ (omega (arith, lines, more)) in
    rw within (rw passed refl)

-- ---- what is told of a table

pub own_stops : (names : List (List ℕ)) (t : FileTable) (columns : List Column) (mark : NetId) (most : ℕ) (stop : RowStop) → AreColumnsOf names t columns
    → length t.outputs ≡ 1 → IsMarkNumber names t mark → StopsAt columns t mark most stop → StopsAt columns t (mark_at names t) most stop
own_stops names t columns mark most Many h single is stops = record {
  flat = stops.flat;
  made = own_made names t columns mark stops.flat h single is stops.made;
  many = stops.many;
}
own_stops names t columns mark most out_of_memory h single is stops = tt

past_told : (columns : List Column) (names : List (List ℕ)) (t : FileTable) (s : Size) (flat : FlatTable) (f : FlatFault) → is_joint t ≡ false
    → IsMade columns t (mark_at names t) flat → TellsPast s t flat f → TellsCovers columns names t s f
past_told columns names t s flat Memory joint made told = tt
past_told columns names t s flat _ joint made told = inr (record { covers = Single flat; made = (joint, made); told = told })

-- what is told is a limit, or want of memory
pub past_holds : (s : Size) (t : FileTable) (flat : FlatTable) (f : FlatFault) → first (size_faults (with_covers s t (Single flat))) ≡ Some f → TellsPast s t flat f
past_holds s t flat Memory told = tt
past_holds s t flat _ told = told

-- what holds of each table of one output with a cover of too many lines
abbrev pub Past : List Column → FileTable → Size → FlatFault → Type 0
Past columns t s f = (flat : FlatTable) → is_some flat.mark ≡ is_marked columns t → MAX_FLAT_LINES < s.lines + length flat.cover.lines → TellsPast s t flat f

pub many_told : (names : List (List ℕ)) (t : FileTable) (columns : List Column) (s : Size) (left : ℕ) (f : FlatFault) → AreColumnsOf names t columns
    → length t.outputs ≡ 1 → s.lines + left ≡ MAX_FLAT_LINES → HasMore columns t (mark_at names t) left → Past columns t s f → TellsCovers columns names t s f
many_told names t columns s left f h single room more past =
    let many = more.many in
    past_told columns names t s more.flat f (not_joint t single) more.made
    (past more.flat
    (marked_exactly columns t (mark_at names t) more.flat (own_columns names t columns h) (own_table names t columns h single) more.made)
    (omega (arith, room, many)))

-- ---- what is told of the model

pub covers_told : (nets : ℕ) (m : FileModel) (names : List (List ℕ)) (i : ℕ) (size : Size) (t : FileTable) (f : FlatFault) → names ≡ net_places m
    → AreSized nets m names i size → i < length m.tables → t ≡ get_or m.tables i t → TellsCovers (columns_at m.decls names t) names t size f → TellsLimit nets m f
covers_told nets m names i size t Memory are sized low is told = tt
covers_told nets m names i size t _ are sized low is told =
    elim told [
      | inl wide ↦ past_wide nets m names i size t _ are sized low is wide
      | inr p ↦ past_limit nets m names i size t p.covers _ are sized low is p.made p.told
    ]
