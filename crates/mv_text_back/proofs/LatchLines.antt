-- The lines of the latches of a network: what they say, and that they have no fault.
use Rattle.std.proofs.Common.{◌≡◌, ◌∙◌, ℕ, ◌+◌, true, List, [], ◌∷◌, ◌++◌, length, map, refl, sym, ap, eq-eqb}
use Rattle.std.specs.Prelude.{Option, codes}
use Rattle.std.specs.List.{list_all}
use Rattle.mv_base.specs.Names.{is_net_name}
use Rattle.mv_lex.specs.declared.lines.LexLine.{LexLine}
use Rattle.mv_design.specs.Values.{count_of}
use Rattle.mv_decl.specs.Line.{net_name_faults}
use Rattle.mv_parse.specs.declared.command.Command.TheVariants.{Latch}
use Rattle.mv_line.specs.Latches.{latch_of}
use Rattle.mv_parse.specs.Known.{latches_of}
use Rattle.mv_parse.specs.Grammar.{latch_faults, latch_value_faults, table_value_faults, faults_at}
use Rattle.mv_net.specs.declared.parts.Kind.TheVariants.{Latch as LatchKind}
use Rattle.mv_net.specs.declared.parts.FlatNet.{FlatNet}
use Rattle.mv_net.specs.declared.parts.FlatLatch.{FlatLatch}
use Rattle.mv_net.specs.declared.parts.NetParts.{NetParts}
use Rattle.mv_net.specs.Nets.{slot, name_in, values_in}
use Rattle.mv_net.specs.Formed.{IsReadable, IsLatch, AllLatches, WellFormed}
use Rattle.mv_text.specs.Text.{latch_words}
use Rattle.mv_text_back.proofs.TextModel.{AreLatchesOf}
use Rattle.mv_text_back.proofs.Resets.{readable-kind, readable-lawful}
use Rattle.mv_text_back.proofs.Commands.{command-latch}
use Rattle.mv_text_back.proofs.Opened.{goes_on, going-push, faults-going}
use Rattle.mv_text_back.proofs.Limits.{only_limits, AreFine}
use Rattle.mv_text_back.proofs.Lookups.{declared}
use Rattle.mv_text_back.proofs.Tells.{AllAre, AllValued}
use Rattle.mv_text_back.proofs.HeldTables.{readable-column}
use Rattle.mv_lines_back.specs.TextWords.{lines_from}

abbrev latch_line : List (Option FlatNet) → ℕ → FlatLatch → LexLine
latch_line nets n l = record { number = n; words = latch_words nets l }

abbrev latch_lines : List (Option FlatNet) → ℕ → List FlatLatch → List LexLine
latch_lines nets n ls = lines_from n (map (latch_words nets) ls)

-- ---- what they say

pub are-latches : (nets : List (Option FlatNet)) (n : ℕ) (ls : List FlatLatch) → AllAre Latch (latch_lines nets n ls)
are-latches nets n [] = tt
are-latches nets n (l ∷ ls) = (command-latch, are-latches nets (n + 1) ls)

pub latches-said : (nets : List (Option FlatNet)) (n : ℕ) (ls : List FlatLatch) → AreLatchesOf nets ls (latches_of (latch_lines nets n ls))
latches-said nets n [] = tt
latches-said nets n (l ∷ ls) = rw command-latch (record { input = refl; output = refl }, latches-said nets (n + 1) ls)

module _ (net : NetParts) (formed : WellFormed net) where
  -- ---- that they have no fault

  fine_line : (h : LexLine) (front : List LexLine) (n : ℕ) (l : FlatLatch) → list_all goes_on (h ∷ front) ≡ true → IsLatch net.nets l
      → only_limits (faults_at (h ∷ front) (latch_line net.nets n l)) ≡ true
  unfolding latch_faults net_name_faults
  fine_line h front n l goes is =
      let input : is_net_name (name_in (slot net.nets l.input.0)) ≡ true = readable-lawful net formed l.input.0 is.input in
      let output : is_net_name (name_in (slot net.nets l.output.0)) ≡ true = readable-lawful net formed l.output.0 (readable-kind net.nets l.output.0 LatchKind refl is.output) in
      let no_fault : latch_faults n (codes ".latch") (name_in (slot net.nets l.input.0) ∷ name_in (slot net.nets l.output.0) ∷ []) ≡ [] = rw (input, output) refl in
      ap only_limits (faults-going Latch h front (latch_line net.nets n l) goes command-latch refl refl ∙ no_fault)

  pub latches-fine : (h : LexLine) (ls : List FlatLatch) → AllLatches net.nets ls → (front : List LexLine) (n : ℕ) → list_all goes_on (h ∷ front) ≡ true
      → AreFine (h ∷ front) (latch_lines net.nets n ls)
  latches-fine h [] all front n goes = tt
  latches-fine h (l ∷ ls) all front n goes =
      let line = latch_line net.nets n l in
      (fine_line h front n l goes all.0, latches-fine h ls all.1 (front ++ line ∷ []) (n + 1) (going-push Latch (h ∷ front) line goes command-latch refl))

  -- ---- nor have their values

  count : (n : ℕ) → IsReadable net.nets n → count_of (declared net.nets) (name_in (slot net.nets n)) ≡ values_in (slot net.nets n)
  count n r =
      let column = readable-column net formed n r in
      ap (λ o. count_of (declared net.nets) (name_in o)) r.held ∙ (ap length column.found ∙ (column.spelled.count ∙ sym (ap values_in r.held)))

  valued : (n : ℕ) (l : FlatLatch) → IsLatch net.nets l → latch_value_faults (declared net.nets) (latch_of (latch_line net.nets n l)) ≡ []
  unfolding latch_value_faults
  valued n l is =
      let ds = declared net.nets in
      let input = name_in (slot net.nets l.input.0) in
      let output = name_in (slot net.nets l.output.0) in
      let same : count_of ds input ≡ count_of ds output = count l.input.0 is.input ∙ (is.values ∙ sym (count l.output.0 (readable-kind net.nets l.output.0 LatchKind refl is.output))) in
      rw (eq-eqb (count_of ds input) (count_of ds output) same) refl

  pub latches-valued : (n : ℕ) (ls : List FlatLatch) → AllLatches net.nets ls → AllValued (declared net.nets) (latch_lines net.nets n ls)
  latches-valued n [] all = tt
  latches-valued n (l ∷ ls) all =
      (λ behind. ap (λ c. table_value_faults c (declared net.nets) (latch_line net.nets n l) behind) command-latch ∙ valued n l all.0, latches-valued (n + 1) ls all.1)
