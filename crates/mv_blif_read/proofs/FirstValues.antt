-- Each latch of the network that lines say is reset to the value that its line says.
use Rattle.std.proofs.Common.{◌≡◌, ◌∙◌, ℕ, zero, suc, Bool, true, false, not, ◌&&◌, ◌||◌, List, [], ◌∷◌, ◌++◌, length, drop, Some, None, refl, sym, ap, subst, ⊎_elim}
use Rattle.std.specs.Prelude.{map, nat_lt, slice_get, if◌then◌else◌}
use Rattle.std.specs.List.{flat_map, list_all}
use Rattle.std.proofs.Math.Bool.{and-true, or-false}
use Rattle.std.proofs.lemmas.Bool.{and_parts, false≢true, or_cases}
use Rattle.std.proofs.lemmas.List.{length-map}
use Rattle.std.proofs.lemmas.List.Folds.{list_all-append}
use Rattle.std.proofs.lemmas.Option.{none-some, same_Some}
use Rattle.std.proofs.lemmas.Simd.{map-map}
use Rattle.mv_base.specs.Meaning.{LatchPort}
use Rattle.mv_base.specs.Set.{has, one}
use Rattle.mv_base.specs.declared.number.NetId.{NetId}
use Rattle.mv_base.proofs.Lists.{mapped}
use Rattle.mv_base.proofs.NameLemmas.{same_word_refl}
use Rattle.mv_lex.specs.declared.lines.LexLine.{LexLine}
use Rattle.mv_design.specs.declared.design.FileLatch.{FileLatch}
use Rattle.mv_design.specs.declared.design.FileModel.{FileModel}
use Rattle.mv_design.specs.declared.table.FileTable.{FileTable}
use Rattle.mv_design.specs.Meaning.{is_reset_of, lets_begin, may_begin, may_begin_all}
use Rattle.mv_design.specs.Proper.{numbers_ascend}
use Rattle.mv_design.specs.Tables.{table_allows}
use Rattle.mv_design.specs.Values.{count_of}
use Rattle.mv_line.specs.Latches.{latch_of}
use Rattle.mv_line.specs.Words.{behind_first, first_of}
use Rattle.mv_parse_laws.specs.Lines.{numbers_of}
use Rattle.mv_tree.specs.Meaning.{placed_port}
use Rattle.mv_tree.specs.Places.{root_place}
use Rattle.mv_latch.specs.declared.latch.BlifLatch.{BlifLatch}
use Rattle.mv_blif_line.specs.Latches.{constant_reset, resets_at, settings_at}
use Rattle.mv_blif.specs.Meaning.{blif_model, resets_of}
use Rattle.mv_net.specs.Allowed.{of_net}
use Rattle.mv_net.specs.Nets.{has_reset, latch_port_of}
use Rattle.mv_net.specs.declared.parts.FlatLatch.{FlatLatch}
use Rattle.mv_net.specs.declared.parts.NetParts.{NetParts}
use Rattle.mv_chosen.specs.Chosen.{AlwaysResets}
use Rattle.mv_chosen.specs.Written.{AreFirstValues}
use Rattle.mv_blif_back.specs.Said.{inits}
use Rattle.mv_blif_read.specs.declared.network.FileNetwork.{FileNetwork}
use Rattle.mv_blif_read.specs.Reads.{IsBlifNetOf}
use Rattle.mv_blif_read.proofs.Alone.{IsNetOfModel, Begin}
use Rattle.mv_blif_read.proofs.Complete.{one_only}
use Rattle.mv_blif_read.proofs.Latches.{latch_lines, said-each, said-once}
use Rattle.mv_blif_read.proofs.Refused.{no-faults}
use Rattle.mv_blif_read.proofs.Resets.{output_at, begins_at, at_mapped}
use Rattle.mv_blif_read.proofs.Said.{net_of_lines, latch_line, lines_seen, settings_lines}

-- ---- values with which latches begin

-- the latch at a place may begin with the value there
record BeginsAt (m : FileModel) (value : List ℕ → ℕ) (h : FileLatch) (rs : List ℕ) (k : ℕ) : Type 0 where
  first : ℕ
  at : slice_get rs k ≡ Some first
  may : may_begin m value h first ≡ true

begins_there : (m : FileModel) (value : List ℕ → ℕ) (hs : List FileLatch) (rs : List ℕ) (k : ℕ) (h : FileLatch) → may_begin_all m value hs rs ≡ true
    → slice_get hs k ≡ Some h → BeginsAt m value h rs k
begins_there m value [] rs k h all e = absurd (none-some h e)
begins_there m value (g ∷ hs) [] k h all e = absurd (false≢true all)
begins_there m value (g ∷ hs) (r ∷ rs) zero h all e =
    let p = and_parts (may_begin m value g r) (may_begin_all m value hs rs) all in
    record { first = r; at = refl; may = ap (λ x. may_begin m value x r) (sym (same_Some g h e)) ∙ p.0 }
begins_there m value (g ∷ hs) (r ∷ rs) (suc k) h all e =
    let p = and_parts (may_begin m value g r) (may_begin_all m value hs rs) all in
    let b = begins_there m value hs rs k h p.1 e in
    record { first = b.first; at = b.at; may = b.may }

-- ---- the reset table of a latch's own line

all_flat : {X Y : Type 0} (p : Y → Bool) (f : X → List Y) (xs : List X) (k : ℕ) (x : X) → list_all p (flat_map f xs) ≡ true → slice_get xs k ≡ Some x
    → list_all p (f x) ≡ true
all_flat p f [] k x all e = absurd (none-some x e)
all_flat p f (y ∷ xs) zero x all e =
    let q = and_parts (list_all p (f y)) (list_all p (flat_map f xs)) (sym (list_all-append p (f y) (flat_map f xs)) ∙ all) in
    ap (λ z. list_all p (f z)) (sym (same_Some y x e)) ∙ q.0
all_flat p f (y ∷ xs) (suc k) x all e =
    all_flat p f xs k x (and_parts (list_all p (f y)) (list_all p (flat_map f xs)) (sym (list_all-append p (f y) (flat_map f xs)) ∙ all)).1 e

all_of_one : {X : Type 0} (p : X → Bool) (b : Bool) (x : X) → b ≡ true → list_all p (if b then x ∷ [] else []) ≡ true → p x ≡ true
all_of_one p true x y all = (and_parts (p x) true all).0
all_of_one p false x y all = absurd (false≢true y)

-- such a table allows one value
constant_allows : (n : ℕ) (net : List ℕ) (v r : ℕ) → table_allows (constant_reset n net v).rows None [] (r ∷ []) ≡ has (one v) r
unfolding table_allows
constant_allows n net v r = or-false ((has (one v) r && true) || false) ∙ (or-false (has (one v) r && true) ∙ and-true (has (one v) r))

lets_only : (value : List ℕ → ℕ) (l : LexLine) (n v r : ℕ) → lets_begin value (latch_of l) r (constant_reset n (output_at l) v) ≡ true → r ≡ v
lets_only value l n v r h =
    ⊎_elim
    (λ (y : not (is_reset_of (latch_of l) (constant_reset n (output_at l) v)) ≡ true). absurd (false≢true (sym (ap (λ b. not (b || false)) (same_word_refl (output_at l))) ∙ y)))
    (λ (y : table_allows (constant_reset n (output_at l) v).rows None [] (r ∷ []) ≡ true).
    one_only v r (sym (constant_allows n (output_at l) v r) ∙ y))
    (or_cases _ _ h)

own_only : (value : List ℕ → ℕ) (l : LexLine) (r : ℕ) → begins_at l ≡ true → list_all (lets_begin value (latch_of l) r) (resets_at l) ≡ true
    → r ≡ (settings_at l).init
unfolding resets_at
own_only value l r begins all =
    lets_only value l l.number (settings_at l).init r
    (all_of_one (lets_begin value (latch_of l) r) (begins_at l) (constant_reset l.number (output_at l) (settings_at l).init) begins all)

-- ---- the network that lines say

-- the value with which a latch begins is that of its line, where it says one
line_value : (lines : List LexLine) (value : List ℕ → ℕ) (rs : List ℕ) (k : ℕ) (l : LexLine)
    → may_begin_all (blif_model lines) value (blif_model lines).latches rs ≡ true → slice_get (latch_lines lines) k ≡ Some l → begins_at l ≡ true
    → slice_get rs k ≡ Some (settings_at l).init
line_value lines value rs k l may e begins =
    let m = blif_model lines in
    let there : slice_get m.latches k ≡ Some (latch_of l) =
    ap (λ hs. slice_get hs k) (said-once latch_of lines) ∙ at_mapped latch_of (latch_lines lines) k l e in
    let b = begins_there m value m.latches rs k (latch_of l) may there in
    let lets : FileTable → Bool = lets_begin value (latch_of l) b.first in
    let all : list_all lets m.resets ≡ true = (and_parts (nat_lt b.first (count_of m.decls (latch_of l).output)) (list_all lets m.resets) b.may).1 in
    let own : list_all lets (resets_at l) ≡ true =
    all_flat lets resets_at (latch_lines lines) k l (ap (list_all lets) (sym (said-each resets_at lines)) ∙ all) e in
    b.at ∙ ap (λ r. Some r) (own_only value l b.first begins own)

-- INIT, as a line says it
abbrev init_at : LexLine → ℕ
init_at l = (settings_at l).init

module _ (lines : List LexLine) (b : FileNetwork) (up : numbers_ascend (numbers_of lines) ≡ true) (h : IsBlifNetOf lines b) where
  is : IsNetOfModel (blif_model lines) b.net
  is = net_of_lines lines b up h

  inits_lines : inits b.latches ≡ map init_at (latch_lines lines)
  inits_lines =
      let init : BlifLatch → ℕ = λ x. x.init in
      ap (map init) (settings_lines lines b h) ∙ map-map init settings_at (latch_lines lines)

  long : length (inits b.latches) ≡ length b.net.latches
  long =
      let ls : List LexLine = latch_lines lines in
      let seen = lines_seen lines b.net is in
      ap length inits_lines
      ∙ (length-map ls init_at
      ∙ (sym (length-map ls latch_of)
      ∙ (sym (length-map (map latch_of ls) (placed_port (root_place (blif_model lines))))
      ∙ (sym (ap length seen) ∙ length-map b.net.latches (latch_port_of b.net.nets)))))

  -- the line of a latch with a reset net says 0 or 1
  begins_line : (k : ℕ) (f : FlatLatch) (n : NetId) (l : LexLine) → slice_get b.net.latches k ≡ Some f → f.reset ≡ Some n
      → slice_get (latch_lines lines) k ≡ Some l → begins_at l ≡ true
  begins_line k f n l there reset e =
      let m = blif_model lines in
      let seen : LatchPort → Bool = λ p. p.has_reset in
      let left : slice_get (map (latch_port_of b.net.nets) b.net.latches) k ≡ Some (latch_port_of b.net.nets f) =
      at_mapped (latch_port_of b.net.nets) b.net.latches k f there in
      let right : slice_get (map (placed_port (root_place m)) (map latch_of (latch_lines lines))) k ≡ Some (placed_port (root_place m) (latch_of l)) =
      at_mapped (placed_port (root_place m)) (map latch_of (latch_lines lines)) k (latch_of l) (at_mapped latch_of (latch_lines lines) k l e) in
      let same : latch_port_of b.net.nets f ≡ placed_port (root_place m) (latch_of l) =
      same_Some _ _ (sym left ∙ (ap (λ ps. slice_get ps k) (lines_seen lines b.net is) ∙ right)) in
      sym (latch_line lines b.net is (no-faults lines h.design h.is h.within) k l e).reset ∙ (sym (ap seen same) ∙ ap has_reset reset)

  always : (k v : ℕ) (f : FlatLatch) (n : NetId) → slice_get b.net.latches k ≡ Some f → f.reset ≡ Some n → slice_get (inits b.latches) k ≡ Some v
      → AlwaysResets (of_net b.net) k v
  always k v f n there reset value =
      let p = mapped init_at (latch_lines lines) k v (ap (λ vs. slice_get vs k) (sym inits_lines) ∙ value) in
      let begins = begins_line k f n p.item there reset p.at in
      record {
        each = λ i s o t r allows.
            let a = is.begins i s o t r allows in
            line_value lines a.value r k p.item a.may p.at begins ∙ ap (λ x. Some x) p.is;
      }

  pub first_values : AreFirstValues b.net (inits b.latches)
  first_values = record { long = long; always = always }
