-- A table's lines, read in turn.
use Rattle.std.proofs.Common.{◌≡◌, ℕ, ◌+◌, ◌<◌, List, [], ◌∷◌, ◌++◌, length, take, drop, get_or, refl, sym, ◌∙◌, ap}
use Rattle.std.specs.Prelude.{Option, Some, None}
use Rattle.std.specs.Option.{option_or}
use Rattle.std.proofs.lemmas.List.{append-nil}
use Rattle.std.proofs.lemmas.Grind.{flat_map-append}
use Rattle.mv_lex.specs.declared.lines.LexLine.{LexLine}
use Rattle.mv_design.specs.declared.table.Entry.{Entry}
use Rattle.mv_design.specs.declared.table.Row.{Row}
use Rattle.mv_design.specs.declared.design.Decl.{Decl}
use Rattle.mv_fault.specs.declared.fault.ParseFault.{ParseFault}
use Rattle.mv_table.specs.Tables.{rows_at, rows_of, default_at, default_of, line_values_faults, lines_values_faults}
use Rattle.mv_fault.specs.Tells.{first}
use Rattle.mv_fault.proofs.Firsts.{first-append}
use Rattle.mv_table.proofs.Places.{take_more, drop_one}

or-none : {T : Type 0} (p : Option T) → option_or p None ≡ p
or-none None = refl
or-none (Some x) = refl

or-or : {T : Type 0} (p q r : Option T) → option_or (option_or p q) r ≡ option_or p (option_or q r)
or-or None q r = refl
or-or (Some x) q r = refl

-- a default behind others is the one that counts
default_of-push : (ds : List Decl) (ins outs : List (List ℕ)) (ls : List LexLine) (l : LexLine) → default_of ds ins outs (ls ++ l ∷ []) ≡ option_or (default_at ds ins outs l) (default_of ds ins outs ls)
default_of-push ds ins outs [] l = sym (or-none (default_at ds ins outs l))
default_of-push ds ins outs (y ∷ ls) l =
    ap (λ p. option_or p (default_at ds ins outs y)) (default_of-push ds ins outs ls l)
    ∙ or-or (default_at ds ins outs l) (default_of ds ins outs ls) (default_at ds ins outs y)

pub rows-next : (ds : List Decl) (ins outs : List (List ℕ)) (ls : List LexLine) (i : ℕ) (l : LexLine) (old new : List Row) → i < length ls → l ≡ get_or ls i l → old ≡ rows_of ds ins outs (take i ls) → new ≡ old ++ rows_at ds ins outs l → new ≡ rows_of ds ins outs (take (i + 1) ls)
rows-next ds ins outs ls i l old new h e was is =
    is ∙ (ap (λ rs. rs ++ rows_at ds ins outs l) was
    ∙ (ap (λ rs. rows_of ds ins outs (take i ls) ++ rs) (sym (append-nil (rows_at ds ins outs l)))
    ∙ (sym (flat_map-append (rows_at ds ins outs) (take i ls) (l ∷ []))
    ∙ ap (rows_of ds ins outs) (sym (take_more ls i l h e)))))

pub default-next : (ds : List Decl) (ins outs : List (List ℕ)) (ls : List LexLine) (i : ℕ) (l : LexLine) (old new : Option (List Entry)) → i < length ls → l ≡ get_or ls i l → old ≡ default_of ds ins outs (take i ls) → new ≡ option_or (default_at ds ins outs l) old → new ≡ default_of ds ins outs (take (i + 1) ls)
default-next ds ins outs ls i l old new h e was is =
    is ∙ (ap (option_or (default_at ds ins outs l)) was
    ∙ (sym (default_of-push ds ins outs (take i ls) l)
    ∙ ap (default_of ds ins outs) (sym (take_more ls i l h e))))

pub fault-next : (ds : List Decl) (ins outs : List (List ℕ)) (ls : List LexLine) (i : ℕ) (l : LexLine) (all : List ParseFault) → i < length ls → l ≡ get_or ls i l → lines_values_faults ds ins outs (drop i ls) ≡ all → line_values_faults ds ins outs l ≡ [] → lines_values_faults ds ins outs (drop (i + 1) ls) ≡ all
fault-next ds ins outs ls i l all h e was none =
    ap (λ fs. fs ++ lines_values_faults ds ins outs (drop (i + 1) ls)) (sym none)
    ∙ (ap (lines_values_faults ds ins outs) (sym (drop_one ls i l h e)) ∙ was)

-- the first fault of a line is the first from there on
pub fault-here : (ds : List Decl) (ins outs : List (List ℕ)) (ls : List LexLine) (i : ℕ) (l : LexLine) (all : List ParseFault) (f : ParseFault) → i < length ls → l ≡ get_or ls i l → lines_values_faults ds ins outs (drop i ls) ≡ all → first (line_values_faults ds ins outs l) ≡ Some f → first all ≡ Some f
fault-here ds ins outs ls i l all f h e was here =
    rw (sym was ∙ ap (lines_values_faults ds ins outs) (drop_one ls i l h e)) (first-append _ _ _ here)
