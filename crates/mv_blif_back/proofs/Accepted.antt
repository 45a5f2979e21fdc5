-- The lines of a network have no fault but limits, and none where its tables are small.
use Rattle.std.proofs.Common.{◌≡◌, ◌∙◌, ℕ, ◌+◌, ◌≤◌, Bool, true, false, not, List, [], ◌∷◌, ◌++◌, length, map, codes, decimal, Option, Some, None, refl, sym, ap, subst, append-nil, append_assoc, arith}
use Rattle.std.specs.Prelude.{nat_le, filter}
use Rattle.std.specs.List.{list_all, flat_map}
use Rattle.std.proofs.lemmas.Bool.{cond_both, cond-false, and_parts, and_from, lt-leb}
use Rattle.std.proofs.lemmas.List.{length-map}
use Rattle.std.proofs.lemmas.List.Folds.{list_all-append}
use Rattle.mv_base.specs.Names.{among, is_net_name}
use Rattle.mv_base.specs.declared.limits.TheConstants.{MAX_COLUMNS, MAX_TABLE_LINES}
use Rattle.mv_cover.specs.declared.cover.Cover.{Cover}
use Rattle.mv_decl.specs.Line.{net_name_faults}
use Rattle.mv_fault.specs.declared.fault.ParseFault.TheVariants.{Limit}
use Rattle.mv_fault.specs.declared.fault.Which.TheVariants.{Columns as ManyColumns, TableLines}
use Rattle.mv_fault.specs.Tells.{when}
use Rattle.mv_fault.proofs.Firsts.{append-nothing}
use Rattle.mv_latch.specs.declared.latch.BlifLatch.{BlifLatch}
use Rattle.mv_lex.specs.declared.lines.LexLine.{LexLine}
use Rattle.mv_lines_back.specs.TextWords.{lines_from}
use Rattle.mv_lines_back.proofs.LinesFrom.{lines_from-append}
use Rattle.mv_net.specs.declared.parts.Kind.TheVariants.{Reset}
use Rattle.mv_net.specs.declared.parts.FlatNet.{FlatNet}
use Rattle.mv_net.specs.declared.parts.FlatLatch.{FlatLatch}
use Rattle.mv_net.specs.declared.parts.NetParts.{NetParts}
use Rattle.mv_net.specs.Nets.{slot, name_in, table_in}
use Rattle.mv_net.specs.Index.{is_reset}
use Rattle.mv_net.specs.Formed.{IsLatch, AllLatches, WellFormed}
use Rattle.mv_text.specs.Text.{fanins_of, names_of}
use Rattle.mv_blif_line.specs.declared.command.Command.TheVariants.{Model, Inputs, Outputs, Latch, End}
use Rattle.mv_blif_line.specs.declared.fault.BlifFault.{BlifFault}
use Rattle.mv_blif_line.specs.declared.fault.BlifFault.TheVariants.{Line}
use Rattle.mv_blif_line.specs.Commands.{command_at}
use Rattle.mv_blif_line.specs.Faults.{shared}
use Rattle.mv_blif_line.specs.Heads.{model_faults, ports_faults, end_faults}
use Rattle.mv_blif_line.specs.Latches.{net_faults, latch_line_faults, settings_at, control_faults}
use Rattle.mv_blif.specs.declared.known.Known.{Known}
use Rattle.mv_blif.specs.Known.{known}
use Rattle.mv_blif.specs.Grammar.{controls_faults, inside_faults, line_faults, file_faults, faults_behind, faults_of, is_limit, IsBlif, AreWithinLimits}
use Rattle.mv_blif.specs.Meaning.{blif_of}
use Rattle.mv_lex.specs.Lines.{lines_of}
use Rattle.mv_blif_text.specs.BlifText.{choice_words, gate_words, said_words, net_words, kind_words, latch_words, latches_words, inner_lines, blif_lines, blif_text}
use Rattle.mv_blif_back.specs.Said.{IsSaid, AreSaid, HasSmallTables}
use Rattle.mv_blif_back.proofs.Picks.{slot-at}
use Rattle.mv_blif_back.proofs.Commands.{command-model, command-inputs, command-outputs, command-latch, command-end, settings-back, settings-none}
use Rattle.mv_blif_back.proofs.Written.{readable-lawful, input-readable, latch-readable, fanins-lawful, names-lawful, text-lines}
use Rattle.mv_blif_back.proofs.Walks.{told, told-behind, IsIn, opened, pushed, inside-line, stays-latch, Walks, walks-one, WalksFrom, from-append, from-none, from-each}
use Rattle.mv_blif_back.proofs.Gates.{PassLimits, choice-rows, gate-walk}
use Rattle.mv_blif_back.proofs.Ports.{ports-fine, names-differ}

-- ---- the line of a latch

net_none : (n : ℕ) (w : List ℕ) → is_net_name w ≡ true → net_faults n w ≡ []
unfolding net_faults net_name_faults
net_none n w e = rw e refl

control_none : (n : ℕ) (ins : List (List ℕ)) (o : Option (List ℕ)) → ((w : List ℕ) → o ≡ Some w → among w ins ≡ true) → control_faults n ins o ≡ []
control_none n ins None stands = refl
control_none n ins (Some w) stands = rw (stands w refl) refl

-- the numbers of columns and rows of each table pass the limits
abbrev pub TablesPass : (BlifFault → Bool) → NetParts → Type 0
TablesPass p net = (n : ℕ) (c : Cover) → table_in (slot net.nets n) ≡ Some c
    → PassLimits p (length (fanins_of (length net.nets) c) + 1) (length (choice_words (fanins_of (length net.nets) c) c))

-- what is known of the first lines
record IsFront (ins outs : List (List ℕ)) (k : Known) : Type 0 where
  begun : k.begun ≡ true
  ended : k.ended ≡ false
  inputs : k.inputs ≡ ins
  outputs : k.outputs ≡ outs

front_in : (ins outs : List (List ℕ)) (k : Known) → IsFront ins outs k → IsIn ins k
front_in ins outs k is = record { begun = is.begun; ended = is.ended; inputs = is.inputs }

module _ (p : BlifFault → Bool) (net : NetParts) (formed : WellFormed net) (pass : TablesPass p net) where
  abbrev ins : List (List ℕ)
  ins = names_of net.nets net.inputs

  abbrev outs : List (List ℕ)
  outs = names_of net.nets net.outputs

  latch_none : (n : ℕ) (word : List ℕ) (l : FlatLatch) (b : BlifLatch) → IsLatch net.nets l → IsSaid net l b
      → latch_line_faults n word (name_in (slot net.nets l.input.0) ∷ name_in (slot net.nets l.output.0) ∷ (kind_words b.kind b.control ++ decimal b.init ∷ [])) ≡ []
  unfolding latch_line_faults
  latch_none n word l b is said =
      append-nothing _ _
      (append-nothing _ _ (net_none n _ (readable-lawful net formed l.input.0 is.input)) (net_none n _ (readable-lawful net formed l.output.0 (latch-readable net formed l.output.0 is.output))))
      (settings-none net l b said n word)

  latch_walk : (l : FlatLatch) (b : BlifLatch) → IsLatch net.nets l → IsSaid net l b → WalksFrom p ins (latch_words net.nets l b ∷ [])
  latch_walk l b is said before n here =
      let x : LexLine = record { number = n; words = latch_words net.nets l b } in
      let control : control_faults n ins (settings_at x).control ≡ [] = ap (λ (s : BlifLatch). control_faults n ins s.control) (settings-back net l b said) ∙ control_none n ins b.control said.control in
      walks-one p ins Latch before x here command-latch refl stays-latch (ap (list_all p) (latch_none n (codes ".latch") l b is said)) control

  latches_walk : (ls : List FlatLatch) (bs : List BlifLatch) → AllLatches net.nets ls → AreSaid net ls bs → WalksFrom p ins (latches_words net.nets ls bs)
  latches_walk [] [] all said = from-none p ins
  latches_walk [] (b ∷ bs) all said = absurd said
  latches_walk (l ∷ ls) [] all said = absurd said
  latches_walk (l ∷ ls) (b ∷ bs) all said = from-append p ins (latch_words net.nets l b ∷ []) (latches_words net.nets ls bs) (latch_walk l b all.0 said.0) (latches_walk ls bs all.1 said.1)

  -- ---- tables

  gate_from : (n : ℕ) (f : FlatNet) (c : Cover) → slot net.nets n ≡ Some f → f.table ≡ Some c → is_reset (Some f.kind) ≡ false → WalksFrom p ins (gate_words net.nets f.name (fanins_of (length net.nets) c) c)
  gate_from n f c held table other =
      let fanins = fanins_of (length net.nets) c in
      let names = map (λ m. name_in (slot net.nets m)) fanins in
      let plain : f.kind ≡ Reset → ⊥ = λ e. let same : is_reset (Some f.kind) ≡ true = ap (λ k. is_reset (Some k)) e in cc in
      let lawful : list_all is_net_name (names ++ f.name ∷ []) ≡ true = list_all-append is_net_name names (f.name ∷ []) ∙ and_from (list_all is_net_name names) _ (fanins-lawful net formed n f c held table is_net_name (λ w h. h)) (and_from (is_net_name f.name) true ((formed.nets n f held).name plain) refl) in
      let limits = pass n c (ap table_in held ∙ table) in
      gate-walk p ins (length fanins + 1) (length (choice_words fanins c)) fanins names f.name (choice_words fanins c) limits (choice-rows fanins c) (length-map fanins (λ m. name_in (slot net.nets m))) lawful (omega arith) (omega arith)

  net_walk : (n : ℕ) (o : Option FlatNet) → slot net.nets n ≡ o → WalksFrom p ins (net_words net.nets o)
  net_walk n None held = from-none p ins
  net_walk n (Some f) held = cond_both (is_reset (Some f.kind)) [] (said_words net.nets f.name f.table) (WalksFrom p ins) (λ y. from-none p ins) (λ other. by_table f.table refl other)
    where
      by_table : (t : Option Cover) → f.table ≡ t → is_reset (Some f.kind) ≡ false → WalksFrom p ins (said_words net.nets f.name t)
      by_table None e other = from-none p ins
      by_table (Some c) e other = gate_from n f c held e other

  inner_walk : (bs : List BlifLatch) → AreSaid net net.latches bs → WalksFrom p ins (inner_lines net bs)
  inner_walk bs said =
      from-append p ins (latches_words net.nets net.latches bs) (flat_map (net_words net.nets) net.nets) (latches_walk net.latches bs formed.latches said)
      (from-each p ins (net_words net.nets) net.nets (λ k o held. net_walk k o (slot-at net.nets k o held)))

  -- ---- the first lines

  abbrev first : LexLine
  first = record { number = 1; words = codes ".model" ∷ net.root ∷ [] }

  abbrev second : LexLine
  second = record { number = 2; words = codes ".inputs" ∷ ins }

  abbrev third : LexLine
  third = record { number = 3; words = codes ".outputs" ∷ outs }

  abbrev front : List LexLine
  front = first ∷ second ∷ third ∷ []

  first_none : line_faults (command_at first) (known []) [] first ≡ []
  unfolding line_faults model_faults known
  first_none = rw (command-model, formed.root) refl

  none_known : (k : Known) → k ≡ known [] → k.ended ≡ false
  unfolding known
  none_known k e = ap (λ (x : Known). x.ended) e

  no_inputs : (known []).inputs ≡ []
  unfolding known
  no_inputs = refl

  no_outputs : (known []).outputs ≡ []
  unfolding known
  no_outputs = refl

  after_first : IsFront [] [] (known (first ∷ []))
  after_first = subst (IsFront [] []) (sym (pushed Model [] first command-model)) (record { begun = refl; ended = none_known (known []) refl; inputs = no_inputs; outputs = no_outputs })

  after_second : IsFront ins [] (known (first ∷ second ∷ []))
  after_second =
      subst (IsFront ins []) (sym (pushed Inputs (first ∷ []) second command-inputs))
      (record { begun = after_first.begun; ended = after_first.ended; inputs = ap (λ ws. ws ++ ins) after_first.inputs; outputs = after_first.outputs })

  after_third : IsFront ins outs (known front)
  after_third =
      subst (IsFront ins outs) (sym (pushed Outputs (first ∷ second ∷ []) third command-outputs))
      (record { begun = after_second.begun; ended = after_second.ended; inputs = after_second.inputs; outputs = ap (λ ws. ws ++ outs) after_second.outputs })

  second_none : line_faults (command_at second) (known (first ∷ [])) (first ∷ []) second ≡ []
  second_none =
      let open_here = opened [] (known (first ∷ [])) (front_in [] [] _ after_first) in
      let lawful = names-lawful net formed net.inputs (λ n s. input-readable net formed n.0 (formed.inputs.only n s)) is_net_name (λ w h. h) in
      let fine = ports-fine 2 [] ins lawful (names-differ net formed net.inputs formed.inputs.once (λ n s. input-readable net formed n.0 (formed.inputs.only n s))) in
      ap (λ c. line_faults c (known (first ∷ [])) (first ∷ []) second) command-inputs
      ∙ (inside-line Inputs (known (first ∷ [])) (first ∷ []) second refl open_here
      ∙ (ap (λ ws. ports_faults 2 ws ins) after_first.inputs ∙ ap shared fine))

  third_none : line_faults (command_at third) (known (first ∷ second ∷ [])) (first ∷ second ∷ []) third ≡ []
  third_none =
      let before = first ∷ second ∷ [] in
      let open_here = opened ins (known before) (front_in ins [] _ after_second) in
      let lawful = names-lawful net formed net.outputs formed.outputs is_net_name (λ w h. h) in
      let fine = ports-fine 3 [] outs lawful (names-differ net formed net.outputs formed.outputs_once formed.outputs) in
      ap (λ c. line_faults c (known before) before third) command-outputs
      ∙ (inside-line Outputs (known before) before third refl open_here
      ∙ (ap (λ ws. ports_faults 3 ws outs) after_second.outputs ∙ ap shared fine))

  -- ---- the whole

  module _ (bs : List BlifLatch) (said : AreSaid net net.latches bs) where
    abbrev inner : List LexLine
    inner = lines_from 4 (inner_lines net bs)

    abbrev last : LexLine
    last = record { number = 4 + length (inner_lines net bs); words = codes ".end" ∷ [] }

    walk : Walks p ins front inner
    walk = inner_walk bs said front 4 (front_in ins outs (known front) after_third)

    end_none : inside_faults End (known (front ++ inner)) (front ++ inner) last ≡ []
    unfolding end_faults
    end_none =
        let controls : controls_faults ins (front ++ inner) ≡ [] = rw (command-model, command-inputs, command-outputs) walk.controls in
        ap (λ ws. controls_faults ws (front ++ inner)) walk.after.inputs ∙ controls

    last_none : line_faults (command_at last) (known (front ++ inner)) (front ++ inner) last ≡ []
    last_none =
        ap (λ c. line_faults c (known (front ++ inner)) (front ++ inner) last) command-end
        ∙ (inside-line End (known (front ++ inner)) (front ++ inner) last refl (opened ins _ walk.after) ∙ end_none)

    abbrev all : List LexLine
    all = (front ++ inner) ++ last ∷ []

    file_none : file_faults (known all) all ≡ []
    file_none =
        let after : known all ≡ record (known (front ++ inner)) { ended = true; table = None } = pushed End (front ++ inner) last command-end in
        ap (λ k. file_faults k all) after ∙ (cond-false (not (known (front ++ inner)).begun) _ _ (ap not walk.after.begun))

    told_pass : list_all p (told [] all) ≡ true
    told_pass =
        let rest : told [] all ≡ told front inner ++ [] = whole in
        ap (list_all p) (rest ∙ append-nil (told front inner)) ∙ walk.passes
      where
        from_front : told [] all ≡ told front (inner ++ last ∷ [])
        from_front = rw (first_none, second_none, third_none) refl

        behind : (before ls : List LexLine) → told before (ls ++ last ∷ []) ≡ told before ls ++ line_faults (command_at last) (known (before ++ ls)) (before ++ ls) last
        behind before [] = append-nil _ ∙ ap (λ x. line_faults (command_at last) (known x) x last) (sym (append-nil before))
        behind before (l ∷ ls) =
            let here = line_faults (command_at l) (known before) before l in
            ap (λ fs. here ++ fs) (behind (before ++ l ∷ []) ls ∙ ap (λ x. told (before ++ l ∷ []) ls ++ line_faults (command_at last) (known x) x last) (append_assoc before (l ∷ []) ls)) ∙ sym (append_assoc here _ _)

        whole : told [] all ≡ told front inner ++ []
        whole = from_front ∙ (behind front inner ∙ ap (λ fs. told front inner ++ fs) last_none)

    numbered : lines_from 1 (blif_lines net bs) ≡ all
    unfolding blif_lines
    numbered = ap (λ ls. first ∷ second ∷ third ∷ ls) (lines_from-append 4 (inner_lines net bs) ((codes ".end" ∷ []) ∷ []))

    -- all faults pass
    pub faults-pass : list_all p (faults_of (lines_from 1 (blif_lines net bs))) ≡ true
    unfolding faults_of
    faults-pass =
        let split : faults_behind [] all ≡ told [] all = told-behind [] all ∙ (ap (λ fs. told [] all ++ fs) file_none ∙ append-nil (told [] all)) in
        ap (λ ls. list_all p (faults_behind [] ls)) numbered ∙ (ap (list_all p) split ∙ told_pass)

-- ---- limits alone, and none

when_limit : (t : Bool) (f : BlifFault) → is_limit f ≡ true → list_all is_limit (when t f) ≡ true
when_limit true f e = and_from (is_limit f) true e refl
when_limit false f e = refl

limits_pass : (columns rows : ℕ) → PassLimits is_limit columns rows
limits_pass columns rows = record {
  column = λ n k low. when_limit (nat_le MAX_COLUMNS k) (Line (Limit n ManyColumns (MAX_COLUMNS + 1))) refl;
  row = λ n k low. when_limit (nat_le MAX_TABLE_LINES k) (Line (Limit n TableLines (MAX_TABLE_LINES + 1))) refl;
}

abbrev nothing : BlifFault → Bool
nothing f = false

none_when : (t : Bool) (f : BlifFault) → t ≡ false → list_all nothing (when t f) ≡ true
none_when false f e = refl
none_when true f e = cc

small_pass : (columns rows : ℕ) → columns ≤ MAX_COLUMNS → rows ≤ MAX_TABLE_LINES → PassLimits nothing columns rows
small_pass columns rows narrow short = record {
  column = λ n k low. none_when (nat_le MAX_COLUMNS k) _ (lt-leb MAX_COLUMNS k (omega (arith, low, narrow)));
  row = λ n k low. none_when (nat_le MAX_TABLE_LINES k) _ (lt-leb MAX_TABLE_LINES k (omega (arith, low, short)));
}

none_left : (fs : List BlifFault) → list_all is_limit fs ≡ true → filter (λ f. not (is_limit f)) fs ≡ []
none_left [] e = refl
none_left (f ∷ fs) e =
    let both = and_parts (is_limit f) (list_all is_limit fs) e in
    cond-false (not (is_limit f)) _ _ (ap not both.0) ∙ none_left fs both.1

no_faults : (fs : List BlifFault) → list_all nothing fs ≡ true → fs ≡ []
no_faults [] e = refl
no_faults (f ∷ fs) e = cc

-- no fault but limits
pub lines-accepted : (net : NetParts) (bs : List BlifLatch) → WellFormed net → AreSaid net net.latches bs → filter (λ f. not (is_limit f)) (faults_of (lines_from 1 (blif_lines net bs))) ≡ []
lines-accepted net bs formed said = none_left (faults_of (lines_from 1 (blif_lines net bs))) (faults-pass is_limit net formed (λ n c e. limits_pass _ _) bs said)

-- none at all where the tables are small
pub lines-within : (net : NetParts) (bs : List BlifLatch) → WellFormed net → AreSaid net net.latches bs → HasSmallTables net → filter is_limit (faults_of (lines_from 1 (blif_lines net bs))) ≡ []
lines-within net bs formed said small =
    ap (filter is_limit)
    (no_faults (faults_of (lines_from 1 (blif_lines net bs))) (faults-pass nothing net formed (λ n c e. let narrow = small.columns n c e in small_pass _ _ (omega (arith, narrow)) (small.rows n c e)) bs said))

-- ---- the text

pub text-accepted : (net : NetParts) (bs : List BlifLatch) → WellFormed net → AreSaid net net.latches bs → IsBlif (lines_of (blif_text net bs)) (blif_of (lines_of (blif_text net bs)))
text-accepted net bs formed said = record {
  accepted = ap (λ ls. filter (λ f. not (is_limit f)) (faults_of ls)) (text-lines net formed bs said) ∙ lines-accepted net bs formed said;
  is = refl;
}

pub text-within : (net : NetParts) (bs : List BlifLatch) → WellFormed net → AreSaid net net.latches bs → HasSmallTables net → AreWithinLimits (lines_of (blif_text net bs))
text-within net bs formed said small = record { within = ap (λ ls. filter is_limit (faults_of ls)) (text-lines net formed bs said) ∙ lines-within net bs formed said small }
