-- The values of a model's tables and latches, and its instances: those of the line at a place, and those behind.
use Rattle.std.proofs.Common.{◌≡◌, ℕ, zero, suc, ◌+◌, Bool, true, false, List, [], ◌∷◌, ◌++◌, length, drop, refl, sym, ap, ◌∙◌, append_assoc, arith}
use Rattle.std.specs.Prelude.{Some, nat_lt, ◌==◌, slice_get, slice_set}
use Rattle.std.proofs.lemmas.Bool.{lt-ltb}
use Rattle.std.proofs.lemmas.List.{append-nil}
use Rattle.mv_lex.specs.declared.lines.LexLine.{LexLine}
use Rattle.mv_design.specs.declared.design.Decl.{Decl}
use Rattle.mv_fault.specs.declared.fault.ParseFault.{ParseFault}
use Rattle.mv_fault.specs.declared.fault.ParseFault.TheVariants.{Extra}
use Rattle.mv_fault.specs.Tells.{when, first}
use Rattle.mv_fault.proofs.Firsts.{first-append}
use Rattle.mv_line.specs.Latches.{latch_of}
use Rattle.mv_line.specs.Words.{behind_first}
use Rattle.mv_table.specs.Tables.{table_of}
use Rattle.mv_instances.specs.Line.{instance_said}
use Rattle.mv_parse.specs.declared.command.Command.{Command}
use Rattle.mv_parse.specs.declared.command.Command.TheVariants.{Table, Latch, Reset, Instance}
use Rattle.mv_parse.specs.declared.known.Contents.{Contents}
use Rattle.mv_parse.specs.Commands.{command_at}
use Rattle.mv_parse.specs.Known.{front_rows, table_at, tables_of, latch_at, latches_of, reset_at, resets_of, instance_at, instances_of}
use Rattle.mv_parse.specs.Grammar.{table_value_faults, tables_faults, end_faults}
use Rattle.mv_parse.specs.Steps.{contents_of, with_line}

-- words behind `.end` are told before any value
pub extra-first : (n : ℕ) (word : List ℕ) (words : List (List ℕ)) (ds : List Decl) (ls : List LexLine) (none : Bool) → none ≡ (length words == 0) → none ≡ false → first (end_faults n word words ds ls) ≡ Some (Extra n word)
unfolding end_faults
extra-first n word [] ds ls none e h = cc
extra-first n word (w ∷ words) ds ls none e h =
    let some : nat_lt 0 (length (w ∷ words)) ≡ true = lt-ltb 0 (length (w ∷ words)) (omega arith) in
    first-append (Extra n word) (when (nat_lt 0 (length (w ∷ words))) (Extra n word)) (tables_faults ds ls) (rw some refl)

taken-suc : (ls : List LexLine) (at : ℕ) (l empty : LexLine) → slice_get ls at ≡ Some l → drop at ls ≡ l ∷ drop (suc at) (slice_set ls at empty)
taken-suc [] at l empty is = cc
taken-suc (x ∷ ls) zero l empty is = cc
taken-suc (x ∷ ls) (suc at) l empty is = taken-suc ls at l empty is

-- a line is taken out of the lines, and an empty one put there: those behind stay
pub taken : (ls : List LexLine) (at : ℕ) (l empty : LexLine) → slice_get ls at ≡ Some l → drop at ls ≡ l ∷ drop (at + 1) (slice_set ls at empty)
taken ls at l empty is = let more : at + 1 ≡ suc at = omega arith in rw more (taken-suc ls at l empty is)

-- ---- along the lines of a model

-- lines of a model say this besides what `left` says, the lines at their end
pub record IsRead (ds : List Decl) (lines left : List LexLine) (k : Contents) : Type 0 where
  pub tables : k.tables ++ tables_of ds left ≡ tables_of ds lines
  pub latches : k.latches ++ latches_of left ≡ latches_of lines
  pub resets : k.resets ++ resets_of ds left ≡ resets_of ds lines
  pub instances : k.instances ++ instances_of left ≡ instances_of lines
  pub fault : tables_faults ds left ≡ tables_faults ds lines

pub read-none : (ds : List Decl) (lines : List LexLine) (k : Contents) → k.tables ≡ [] → k.latches ≡ [] → k.resets ≡ [] → k.instances ≡ [] → IsRead ds lines lines k
read-none ds lines k t h r p = record {
  tables = ap (λ ts. ts ++ tables_of ds lines) t;
  latches = ap (λ hs. hs ++ latches_of lines) h;
  resets = ap (λ ts. ts ++ resets_of ds lines) r;
  instances = ap (λ ps. ps ++ instances_of lines) p;
  fault = refl;
}

tables-more : (c : Command) (ds : List Decl) (l : LexLine) (ls : List LexLine) (k : Contents) → (with_line c ds l ls k).tables ++ tables_of ds ls ≡ k.tables ++ (table_at c ds l ls ++ tables_of ds ls)
tables-more Table ds l ls k = append_assoc k.tables (table_of ds l (front_rows ls) ∷ []) (tables_of ds ls)
tables-more _ ds l ls k = refl

latches-more : (c : Command) (ds : List Decl) (l : LexLine) (ls : List LexLine) (k : Contents) → (with_line c ds l ls k).latches ++ latches_of ls ≡ k.latches ++ (latch_at c l ++ latches_of ls)
latches-more Latch ds l ls k = append_assoc k.latches (latch_of l ∷ []) (latches_of ls)
latches-more _ ds l ls k = refl

resets-more : (c : Command) (ds : List Decl) (l : LexLine) (ls : List LexLine) (k : Contents) → (with_line c ds l ls k).resets ++ resets_of ds ls ≡ k.resets ++ (reset_at c ds l ls ++ resets_of ds ls)
resets-more Reset ds l ls k = append_assoc k.resets (table_of ds l (front_rows ls) ∷ []) (resets_of ds ls)
resets-more _ ds l ls k = refl

instances-more : (c : Command) (ds : List Decl) (l : LexLine) (ls : List LexLine) (k : Contents) → (with_line c ds l ls k).instances ++ instances_of ls ≡ k.instances ++ (instance_at c l ++ instances_of ls)
instances-more Instance ds l ls k = append_assoc k.instances (instance_said l.number (behind_first l) ∷ []) (instances_of ls)
instances-more _ ds l ls k = refl

-- a line whose values have no fault has been read
pub read-next : (ds : List Decl) (lines : List LexLine) (l : LexLine) (ls : List LexLine) (k : Contents) → IsRead ds lines (l ∷ ls) k → table_value_faults (command_at l) ds l ls ≡ [] → IsRead ds lines ls (with_line (command_at l) ds l ls k)
read-next ds lines l ls k h none = record {
  tables = tables-more (command_at l) ds l ls k ∙ h.tables;
  latches = latches-more (command_at l) ds l ls k ∙ h.latches;
  resets = resets-more (command_at l) ds l ls k ∙ h.resets;
  instances = instances-more (command_at l) ds l ls k ∙ h.instances;
  fault = sym (ap (λ fs. fs ++ tables_faults ds ls) none) ∙ h.fault;
}

-- the first fault of a line's values comes before those of the lines behind
pub read-first : (f : ParseFault) (ds : List Decl) (lines : List LexLine) (l : LexLine) (ls : List LexLine) (k : Contents) → IsRead ds lines (l ∷ ls) k → first (table_value_faults (command_at l) ds l ls) ≡ Some f → first (tables_faults ds lines) ≡ Some f
read-first f ds lines l ls k h e =
    sym (ap first h.fault) ∙ first-append f (table_value_faults (command_at l) ds l ls) (tables_faults ds ls) e

-- all lines have been read
pub read-all : (ds : List Decl) (lines : List LexLine) (k : Contents) → IsRead ds lines [] k → k ≡ contents_of ds lines
read-all ds lines k h =
    let tables : k.tables ≡ tables_of ds lines = sym (append-nil k.tables) ∙ h.tables in
    let latches : k.latches ≡ latches_of lines = sym (append-nil k.latches) ∙ h.latches in
    let resets : k.resets ≡ resets_of ds lines = sym (append-nil k.resets) ∙ h.resets in
    let instances : k.instances ≡ instances_of lines = sym (append-nil k.instances) ∙ h.instances in
    rw (← tables, ← latches, ← resets, ← instances) refl
