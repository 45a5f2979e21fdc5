-- The lines of a network as BLIF are written lines, so its text is read back.
use Rattle.std.proofs.Common.{◌≡◌, ◌∙◌, ℕ, zero, suc, ◌<◌, Bool, true, false, not, ◌&&◌, ◌==◌, List, [], ◌∷◌, ◌++◌, length, map, codes, decimal, Option, Some, None, refl, sym, ap, arith, ⊎_elim}
use Rattle.std.specs.List.{list_all, list_any, range_with_len}
use Rattle.std.proofs.lemmas.Bool.{cond_both, and_parts, and_from, or_cases, ne_eqb, not_from_false, not-true}
use Rattle.std.proofs.lemmas.Fmt.{decimal_digit}
use Rattle.std.proofs.lemmas.List.Folds.{list_all-append, list_all-map}
use Rattle.mv_base.specs.Names.{is_visible, is_bracketed, ends_with, is_net_name, is_model_name, same_word, among}
use Rattle.mv_base.proofs.NameLemmas.{same_word_is}
use Rattle.mv_base.specs.declared.number.NetId.{NetId}
use Rattle.mv_base.proofs.Lists.{everywhere}
use Rattle.mv_cover.specs.Literal.{Lit}
use Rattle.mv_cover.specs.declared.line.Line.{Line}
use Rattle.mv_cover.specs.declared.cover.Cover.{Cover}
use Rattle.mv_cover.specs.Covers.{cover_reads, default_gives}
use Rattle.mv_graph.specs.Nets.{has_id}
use Rattle.mv_latch.specs.declared.latch.LatchKind.{LatchKind}
use Rattle.mv_latch.specs.declared.latch.LatchKind.TheVariants.{Fe, Re, Ah, Al, As}
use Rattle.mv_latch.specs.declared.latch.BlifLatch.{BlifLatch}
use Rattle.mv_lex.specs.Lines.{lines_of, is_clean}
use Rattle.mv_lines_back.specs.TextWords.{is_written_word, is_written_line, lines_from}
use Rattle.mv_lines_back.proofs.Ends.{ends_with-skip}
use Rattle.mv_lines_back.proofs.Lists.{plain-written}
use Rattle.mv_lines_back.proofs.Written.{lines_of-written, is_clean-written}
use Rattle.mv_net.specs.declared.parts.Kind.{Kind}
use Rattle.mv_net.specs.declared.parts.Kind.TheVariants.{Input, Latch, Reset}
use Rattle.mv_net.specs.declared.parts.FlatNet.{FlatNet}
use Rattle.mv_net.specs.declared.parts.FlatLatch.{FlatLatch}
use Rattle.mv_net.specs.declared.parts.NetParts.{NetParts}
use Rattle.mv_net.specs.Nets.{slot, name_in}
use Rattle.mv_net.specs.Index.{is_reset}
use Rattle.mv_net.specs.Formed.{IsReadable, IsKind, IsLatch, AllLatches, WellFormed}
use Rattle.mv_net.proofs.Known.{lines_readable}
use Rattle.mv_text.specs.Text.{fanins_of, names_of}
use Rattle.mv_word.proofs.LawfulNames.{net_name-has}
use Rattle.mv_chosen.specs.Binary.{lacks_one, lines_for}
use Rattle.mv_blif_line.specs.Rows.{is_plane_byte}
use Rattle.mv_blif_text.specs.BlifText.{plane_byte, row_words, picks, value_of, digit_of, rows_words, zeros_words, choice_words}
use Rattle.mv_blif_text.specs.BlifText.{gate_words, said_words, net_words, kind_word, control_word, kind_words, latch_words, latches_words, inner_lines, blif_lines, blif_text}
use Rattle.mv_blif_back.specs.Said.{IsSaid, AreSaid}
use Rattle.mv_blif_back.proofs.Picks.{filter-pass, keyed-pass, placed-pass, slot-at}
use Rattle.mv_blif_back.proofs.Planes.{plane-byte, plane-pass}

-- ---- words

pub name-written : (w : List ℕ) → is_net_name w ≡ true → is_written_word w ≡ true
name-written w h =
    let is = net_name-has w h in
    let some : not (length w == 0) ≡ true = not_from_false _ (ne_eqb (length w) 0 (λ z. omega (arith, is.some, z))) in
    plain-written w (and_from _ _ (and_from _ _ (and_from _ _ some is.bytes) (not_from_false _ is.unbracketed)) (not_from_false _ is.ends))

-- the last byte is one of the bytes
last_other : (w : List ℕ) → list_all (λ b. not (b == 92)) w ≡ true → ends_with 92 w ≡ false
last_other [] h = refl
last_other (b ∷ []) h = not-true _ (and_parts (not (b == 92)) true h).0
last_other (b ∷ c ∷ w) h = ends_with-skip 92 b c w ∙ last_other (c ∷ w) (and_parts (not (b == 92)) _ h).1

-- a plane that isn't empty
plane_written : (b : ℕ) (bs : List ℕ) → list_all is_plane_byte (b ∷ bs) ≡ true → is_written_word (b ∷ bs) ≡ true
plane_written b bs h =
    let first = (and_parts (is_plane_byte b) (list_all is_plane_byte bs) h).0 in
    let bytes : list_all (λ c. is_visible c && not (c == 35)) (b ∷ bs) ≡ true = passes (λ c. is_visible c && not (c == 35)) refl refl refl (b ∷ bs) h in
    let ends : list_all (λ c. not (c == 92)) (b ∷ bs) ≡ true = passes (λ c. not (c == 92)) refl refl refl (b ∷ bs) h in
    let unbracketed : not (is_bracketed (b ∷ bs)) ≡ true = plane-pass (λ c. not (is_bracketed (c ∷ bs))) refl refl refl b first in
    let some : not (length (b ∷ bs) == 0) ≡ true = not_from_false _ (ne_eqb (length (b ∷ bs)) 0 (λ z. omega (arith, z))) in
    plain-written (b ∷ bs) (and_from _ _ (and_from _ _ (and_from _ _ some bytes) unbracketed) (not_from_false _ (last_other (b ∷ bs) ends)))
  where
    passes : (q : ℕ → Bool) → q 48 ≡ true → q 49 ≡ true → q 45 ≡ true → (w : List ℕ) → list_all is_plane_byte w ≡ true → list_all q w ≡ true
    passes q x y z [] e = refl
    passes q x y z (c ∷ w) e =
        let p = and_parts (is_plane_byte c) (list_all is_plane_byte w) e in
        and_from (q c) _ (plane-pass q x y z c p.0) (passes q x y z w p.1)

digit_written : (b : Bool) → is_written_word (digit_of b ∷ []) ≡ true
digit_written true = plain-written (codes "1") refl
digit_written false = plain-written (codes "0") refl

init_written : (n : ℕ) → n < 4 → is_written_word (decimal n) ≡ true
init_written zero low = ap is_written_word (decimal_digit 0 (omega arith)) ∙ plain-written (codes "0") refl
init_written (suc zero) low = ap is_written_word (decimal_digit 1 (omega arith)) ∙ plain-written (codes "1") refl
init_written (suc (suc zero)) low = ap is_written_word (decimal_digit 2 (omega arith)) ∙ plain-written (codes "2") refl
init_written (suc (suc (suc zero))) low = ap is_written_word (decimal_digit 3 (omega arith)) ∙ plain-written (codes "3") refl
init_written (suc (suc (suc (suc n)))) low = absurd (omega (arith, low))

kind_written : (k : LatchKind) → is_written_word (kind_word k) ≡ true
kind_written Fe = plain-written (codes "fe") refl
kind_written Re = plain-written (codes "re") refl
kind_written Ah = plain-written (codes "ah") refl
kind_written Al = plain-written (codes "al") refl
kind_written As = plain-written (codes "as") refl

-- ---- lines

line_written : (w : List ℕ) (ws : List (List ℕ)) → is_written_word w ≡ true → list_all is_written_word ws ≡ true → is_written_line (w ∷ ws) ≡ true
unfolding is_written_line
line_written w ws h rest =
    and_from (not (length (w ∷ ws) == 0)) _ (not_from_false _ (ne_eqb (length (w ∷ ws)) 0 (λ z. omega (arith, z)))) (and_from (is_written_word w) _ h rest)

alone_written : (ws : List (List ℕ)) → is_written_line ws ≡ true → list_all is_written_line (ws ∷ []) ≡ true
alone_written ws h = and_from (is_written_line ws) true h refl

row_written : (fanins : List ℕ) (b : Bool) (cube : List Lit) → is_written_line (row_words fanins (digit_of b) cube) ≡ true
row_written [] b cube = line_written (digit_of b ∷ []) [] (digit_written b) refl
row_written (m ∷ ms) b cube =
    let bytes : list_all is_plane_byte (map (plane_byte cube) (m ∷ ms)) ≡ true = list_all-map is_plane_byte (plane_byte cube) (m ∷ ms) ∙ everywhere (λ k. is_plane_byte (plane_byte cube k)) (plane-byte cube) (m ∷ ms) in
    line_written (map (plane_byte cube) (m ∷ ms)) ((digit_of b ∷ []) ∷ []) (plane_written (plane_byte cube m) (map (plane_byte cube) ms) bytes) (and_from (is_written_word (digit_of b ∷ [])) true (digit_written b) refl)

rows_written : (fanins : List ℕ) (b : Bool) (ls : List Line) → list_all is_written_line (rows_words fanins b ls) ≡ true
rows_written fanins b ls =
    let made : Line → List (List ℕ) = λ l. row_words fanins (digit_of b) l.cube in
    list_all-map is_written_line made (lines_for (picks b) (value_of b) ls) ∙ everywhere (λ l. is_written_line (made l)) (λ l. row_written fanins b l.cube) (lines_for (picks b) (value_of b) ls)

choice_written : (fanins : List ℕ) (c : Cover) → list_all is_written_line (choice_words fanins c) ≡ true
choice_written fanins c =
    let P : List (List (List ℕ)) → Type 0 = λ ls. list_all is_written_line ls ≡ true in
    cond_both (default_gives c.default 1) (zeros_words fanins c.lines) (rows_words fanins true c.lines) P
    (λ y. cond_both (list_any lacks_one c.lines) (rows_words fanins false c.lines) (row_words fanins 49 [] ∷ []) P
    (λ z. rows_written fanins false c.lines)
    (λ z. alone_written (row_words fanins 49 []) (row_written fanins true [])))
    (λ n. rows_written fanins true c.lines)

-- ---- the lines of a network

module _ (net : NetParts) (formed : WellFormed net) where
  pub readable-lawful : (n : ℕ) → IsReadable net.nets n → is_net_name (name_in (slot net.nets n)) ≡ true
  readable-lawful n r = ap (λ o. is_net_name (name_in o)) r.held ∙ (formed.nets n r.net r.held).name r.plain

  pub kind-readable : (n : ℕ) (kind : Kind) → (kind ≡ Reset → ⊥) → IsKind net.nets n kind → IsReadable net.nets n
  kind-readable n kind other is = record { net = is.net; held = is.held; plain = λ e. other (sym is.is ∙ e) }

  pub input-readable : (n : ℕ) → IsKind net.nets n Input → IsReadable net.nets n
  input-readable n is = kind-readable n Input (λ e. cc) is

  pub latch-readable : (n : ℕ) → IsKind net.nets n Latch → IsReadable net.nets n
  latch-readable n is = kind-readable n Latch (λ e. cc) is

  -- what a table reads can be read
  pub fanins-lawful : (n : ℕ) (f : FlatNet) (c : Cover) → slot net.nets n ≡ Some f → f.table ≡ Some c
      → (q : List ℕ → Bool) → ((w : List ℕ) → is_net_name w ≡ true → q w ≡ true) → list_all q (map (λ m. name_in (slot net.nets m)) (fanins_of (length net.nets) c)) ≡ true
  fanins-lawful n f c held table q each =
      list_all-map q (λ m. name_in (slot net.nets m)) (fanins_of (length net.nets) c)
      ∙ filter-pass (λ m. cover_reads c m) (λ m. q (name_in (slot net.nets m))) (range_with_len 0 (length net.nets))
      (λ m y. each _ (readable-lawful m (lines_readable net.nets f.values c.lines m ((formed.nets n f held).cover c table).lines y)))

  -- nets of a list that can be read
  pub names-lawful : (ns : List NetId) → ((n : NetId) → has_id ns n.0 ≡ true → IsReadable net.nets n.0) → (q : List ℕ → Bool)
      → ((w : List ℕ) → is_net_name w ≡ true → q w ≡ true) → list_all q (names_of net.nets ns) ≡ true
  names-lawful ns readable q each =
      list_all-map q (λ (n : NetId). name_in (slot net.nets n.0)) ns
      ∙ keyed-pass (λ (n : NetId). n.0) (λ (n : NetId). q (name_in (slot net.nets n.0))) ns (λ n s. each _ (readable-lawful n.0 (readable n s)))

  gate_written : (n : ℕ) (f : FlatNet) (c : Cover) → slot net.nets n ≡ Some f → f.table ≡ Some c → is_reset (Some f.kind) ≡ false
      → list_all is_written_line (gate_words net.nets f.name (fanins_of (length net.nets) c) c) ≡ true
  gate_written n f c held table other =
      let fanins = fanins_of (length net.nets) c in
      let names = map (λ m. name_in (slot net.nets m)) fanins in
      let plain : f.kind ≡ Reset → ⊥ = λ e. let same : is_reset (Some f.kind) ≡ true = ap (λ k. is_reset (Some k)) e in cc in
      let own = name-written f.name ((formed.nets n f held).name plain) in
      let head : is_written_line (codes ".names" ∷ names ++ f.name ∷ []) ≡ true = line_written (codes ".names") (names ++ f.name ∷ []) (plain-written (codes ".names") refl)
      (list_all-append is_written_word names (f.name ∷ []) ∙ and_from (list_all is_written_word names) _ (fanins-lawful n f c held table is_written_word name-written) (and_from (is_written_word f.name) true own refl)) in
      and_from (is_written_line (codes ".names" ∷ names ++ f.name ∷ [])) _ head (choice_written fanins c)

  net_written : (n : ℕ) (o : Option FlatNet) → slot net.nets n ≡ o → list_all is_written_line (net_words net.nets o) ≡ true
  net_written n None held = refl
  net_written n (Some f) held =
      cond_both (is_reset (Some f.kind)) [] (said_words net.nets f.name f.table) (λ ls. list_all is_written_line ls ≡ true) (λ y. refl) (λ other. by_table f.table refl other)
    where
      by_table : (t : Option Cover) → f.table ≡ t → is_reset (Some f.kind) ≡ false → list_all is_written_line (said_words net.nets f.name t) ≡ true
      by_table None e other = refl
      by_table (Some c) e other = gate_written n f c held e other

  -- the control of a latch is an input, whose name is lawful
  control_written : (l : FlatLatch) (b : BlifLatch) → IsSaid net l b → (o : Option (List ℕ)) → b.control ≡ o → is_written_word (control_word o) ≡ true
  control_written l b said None e = plain-written (codes "NIL") refl
  control_written l b said (Some w) e = name-written w (among_pass w (names_of net.nets net.inputs) (said.control w e) (names-lawful net.inputs (λ n s. input-readable n.0 (formed.inputs.only n s)) is_net_name (λ v h. h)))
    where
      among_pass : (v : List ℕ) (ws : List (List ℕ)) → among v ws ≡ true → list_all is_net_name ws ≡ true → is_net_name v ≡ true
      among_pass v [] a all = cc
      among_pass v (u ∷ ws) a all =
          let p = and_parts (is_net_name u) (list_all is_net_name ws) all in
          ⊎_elim (λ (y : same_word v u ≡ true). ap is_net_name (same_word_is v u y) ∙ p.0) (λ (later : among v ws ≡ true). among_pass v ws later p.1) (or_cases (same_word v u) (among v ws) a)

  settings_written : (l : FlatLatch) (b : BlifLatch) → IsSaid net l b → (k : Option LatchKind) → list_all is_written_word (kind_words k b.control ++ decimal b.init ∷ []) ≡ true
  settings_written l b said None = and_from (is_written_word (decimal b.init)) true (init_written b.init said.init) refl
  settings_written l b said (Some k) =
      and_from (is_written_word (kind_word k)) _ (kind_written k) (and_from (is_written_word (control_word b.control)) _ (control_written l b said b.control refl) (and_from (is_written_word (decimal b.init)) true (init_written b.init said.init) refl))

  latch_written : (l : FlatLatch) (b : BlifLatch) → IsLatch net.nets l → IsSaid net l b → is_written_line (latch_words net.nets l b) ≡ true
  latch_written l b is said =
      let input = name-written _ (readable-lawful l.input.0 is.input) in
      let output = name-written _ (readable-lawful l.output.0 (latch-readable l.output.0 is.output)) in
      line_written (codes ".latch") _ (plain-written (codes ".latch") refl) (and_from (is_written_word (name_in (slot net.nets l.input.0))) _ input (and_from (is_written_word (name_in (slot net.nets l.output.0))) _ output (settings_written l b said b.kind)))

  latches_written : (ls : List FlatLatch) (bs : List BlifLatch) → AllLatches net.nets ls → AreSaid net ls bs → list_all is_written_line (latches_words net.nets ls bs) ≡ true
  latches_written [] [] all said = refl
  latches_written [] (b ∷ bs) all said = absurd said
  latches_written (l ∷ ls) [] all said = absurd said
  latches_written (l ∷ ls) (b ∷ bs) all said = and_from (is_written_line (latch_words net.nets l b)) _ (latch_written l b all.0 said.0) (latches_written ls bs all.1 said.1)

  ports_written : (word : List ℕ) (ns : List NetId) → is_written_word word ≡ true → ((n : NetId) → has_id ns n.0 ≡ true → IsReadable net.nets n.0) → is_written_line (word ∷ names_of net.nets ns) ≡ true
  ports_written word ns h readable = line_written word (names_of net.nets ns) h (names-lawful ns readable is_written_word name-written)

  root_written : is_written_line (codes ".model" ∷ net.root ∷ []) ≡ true
  unfolding is_model_name
  root_written =
      line_written (codes ".model") (net.root ∷ []) (plain-written (codes ".model") refl) (and_from (is_written_word net.root) true (name-written net.root (and_parts _ _ formed.root).0) refl)

  -- all lines
  pub lines-written : (bs : List BlifLatch) → AreSaid net net.latches bs → list_all is_written_line (blif_lines net bs) ≡ true
  unfolding blif_lines
  lines-written bs said =
      let latches = latches_written net.latches bs formed.latches said in
      let tables = placed-pass is_written_line (net_words net.nets) net.nets (λ k o held. net_written k o (slot-at net.nets k o held)) in
      let inner : list_all is_written_line (inner_lines net bs) ≡ true = list_all-append is_written_line (latches_words net.nets net.latches bs) _ ∙ and_from _ _ latches tables in
      let rest : list_all is_written_line (inner_lines net bs ++ (codes ".end" ∷ []) ∷ []) ≡ true = list_all-append is_written_line (inner_lines net bs) _ ∙ and_from _ _ inner (alone_written (codes ".end" ∷ []) (line_written (codes ".end") [] (plain-written (codes ".end") refl) refl)) in
      let inputs = ports_written (codes ".inputs") net.inputs (plain-written (codes ".inputs") refl) (λ n s. input-readable n.0 (formed.inputs.only n s)) in
      let outputs = ports_written (codes ".outputs") net.outputs (plain-written (codes ".outputs") refl) formed.outputs in
      and_from _ _ root_written (and_from _ _ inputs (and_from _ _ outputs rest))

  -- the text is read back as its lines
  pub text-lines : (bs : List BlifLatch) → AreSaid net net.latches bs → lines_of (blif_text net bs) ≡ lines_from 1 (blif_lines net bs)
  unfolding blif_text
  text-lines bs said = lines_of-written (blif_lines net bs) (lines-written bs said)

  -- and is clean
  pub text-clean : (bs : List BlifLatch) → AreSaid net net.latches bs → is_clean (blif_text net bs) ≡ true
  unfolding blif_text
  text-clean bs said = is_clean-written (blif_lines net bs) (lines-written bs said)
