-- What lines say besides ports, as it is gathered line by line.
use Rattle.std.proofs.Common.{◌≡◌, ℕ, ◌+◌, ◌≤◌, ◌<◌, List, [], ◌∷◌, ◌++◌, length, drop, get_or, refl, sym, ap, ◌∙◌}
use Rattle.std.proofs.lemmas.List.{append-nil, append_assoc, drop_all}
use Rattle.mv_lex.specs.declared.lines.LexLine.{LexLine}
use Rattle.mv_table.proofs.Places.{drop_one}
use Rattle.mv_line.specs.Latches.{latch_of}
use Rattle.mv_blif_line.specs.declared.command.Command.{Command}
use Rattle.mv_blif_line.specs.declared.command.Command.TheVariants.{Model, Inputs, Outputs, Names, Latch, Row, End, Unknown}
use Rattle.mv_blif_line.specs.Commands.{command_at}
use Rattle.mv_blif_line.specs.Latches.{settings_at, resets_at}
use Rattle.mv_blif_line.specs.Tables.{table_of}
use Rattle.mv_blif.specs.declared.contents.Contents.{Contents}
use Rattle.mv_blif.specs.Meaning.{front_rows, tables_of, latches_of, resets_of, settings_said}
use Rattle.mv_blif.specs.Steps.{contents_of, joined, with_line}

-- what has been gathered, with what these lines say that are left, is what all lines say
pub record IsRead (lines left : List LexLine) (k : Contents) : Type 0 where
  pub whole : joined k (contents_of left) ≡ contents_of lines

pub reads_none : (lines : List LexLine) → IsRead lines lines (record { tables = []; latches = []; resets = []; settings = [] })
reads_none lines = record { whole = refl }

line-read : (c : Command) (l : LexLine) (ls : List LexLine) (k : Contents) → command_at l ≡ c → joined (with_line c l ls k) (contents_of ls) ≡ joined k (contents_of (l ∷ ls))
line-read Names l ls k e =
    rw e (ap (λ ts. record { tables = ts; latches = k.latches ++ latches_of ls; resets = k.resets ++ resets_of ls; settings = k.settings ++ settings_said ls }) (append_assoc k.tables (table_of l (front_rows ls) ∷ []) (tables_of ls)))
line-read Latch l ls k e =
    rw (e, append_assoc k.latches (latch_of l ∷ []) (latches_of ls), append_assoc k.resets (resets_at l) (resets_of ls), append_assoc k.settings (settings_at l ∷ []) (settings_said ls)) refl
line-read Model l ls k e = rw e refl
line-read Inputs l ls k e = rw e refl
line-read Outputs l ls k e = rw e refl
line-read Row l ls k e = rw e refl
line-read End l ls k e = rw e refl
line-read Unknown l ls k e = rw e refl

-- one line on
pub reads_next : (lines : List LexLine) (at : ℕ) (k new : Contents) (l : LexLine) → IsRead lines (drop at lines) k → at < length lines → l ≡ get_or lines at l
    → new ≡ with_line (command_at l) l (drop (at + 1) lines) k → IsRead lines (drop (at + 1) lines) new
reads_next lines at k new l is h e step = record {
  whole =
      ap (λ x. joined x (contents_of (drop (at + 1) lines))) step
      ∙ (line-read (command_at l) l (drop (at + 1) lines) k refl
      ∙ (ap (λ ls. joined k (contents_of ls)) (sym (drop_one lines at l h e)) ∙ is.whole));
}

-- at the end
pub reads_all : (lines : List LexLine) (at : ℕ) (k : Contents) → IsRead lines (drop at lines) k → length lines ≤ at → k ≡ contents_of lines
reads_all lines at k is h =
    let nothing : joined k (contents_of []) ≡ k = rw (append-nil k.tables, append-nil k.latches, append-nil k.resets, append-nil k.settings) refl in
    sym nothing ∙ (ap (λ ls. joined k (contents_of ls)) (sym (drop_all at lines h)) ∙ is.whole)

pub ruleset reading = (reads_none, reads_next, reads_all)
