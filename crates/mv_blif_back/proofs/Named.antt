-- Nets of the network by name: each net that the model names is one of them that can be read.
use Rattle.std.proofs.Common.{◌≡◌, ◌∙◌, ℕ, ◌+◌, zero, suc, Bool, true, false, ◌||◌, List, [], ◌∷◌, length, map, Option, Some, None, ⊎_elim, refl, sym, ap, subst, arith}
use Rattle.std.specs.Prelude.{nat_eq, nat_lt, if◌then◌else◌}
use Rattle.std.specs.List.{flat_map, range_with_len}
use Rattle.std.proofs.lemmas.Bool.{cases_Bool, cond-true, cond-false, or_cases, or_left, or_right, eq-eqb, eqb-true, false≢true}
use Rattle.std.proofs.lemmas.Grind.{flat_map-append}
use Rattle.mv_acyclic.proofs.Commands.{among-nets_named}
use Rattle.mv_acyclic.proofs.Soundness.{in_either}
use Rattle.mv_base.specs.Names.{among, same_word}
use Rattle.mv_base.specs.declared.number.NetId.{NetId}
use Rattle.mv_base.proofs.NameLemmas.{same_word_is, same_word_refl}
use Rattle.mv_cover.specs.declared.cover.Cover.{Cover}
use Rattle.mv_cover.specs.Covers.{cover_reads}
use Rattle.mv_design.specs.declared.design.FileLatch.{FileLatch}
use Rattle.mv_design.specs.declared.design.FileModel.{FileModel}
use Rattle.mv_design.specs.declared.table.FileTable.{FileTable}
use Rattle.mv_design.specs.Nets.{columns_of, latch_inputs, latch_outputs, nets_named}
use Rattle.mv_graph.specs.Nets.{has_id}
use Rattle.mv_latch.specs.declared.latch.BlifLatch.{BlifLatch}
use Rattle.mv_net.specs.declared.parts.Kind.{Kind}
use Rattle.mv_net.specs.declared.parts.Kind.TheVariants.{Input, Latch, Table, Reset}
use Rattle.mv_net.specs.declared.parts.FlatLatch.{FlatLatch}
use Rattle.mv_net.specs.declared.parts.FlatNet.{FlatNet}
use Rattle.mv_net.specs.declared.parts.NetParts.{NetParts}
use Rattle.mv_net.specs.Nets.{slot, name_in}
use Rattle.mv_net.specs.Index.{is_reset}
use Rattle.mv_net.specs.Formed.{IsReadable, AllLatches, WellFormed, latch_outputs as outputs_at}
use Rattle.mv_net.proofs.Known.{lines_readable}
use Rattle.mv_text.specs.Text.{fanins_of, names_of}
use Rattle.mv_blif_line.specs.Latches.{constant_reset}
use Rattle.mv_blif_text.specs.BlifText.{net_words}
use Rattle.mv_blif_back.specs.Model.{gate_said, cover_said, net_said, tables_said, latches_said, reset_said, resets_said, model_said}
use Rattle.mv_blif_back.proofs.Acyclic.{picked}
use Rattle.mv_blif_back.proofs.Agreeing.{AreHeld, held_all}
use Rattle.mv_blif_back.proofs.Written.{input-readable, latch-readable}

-- ---- names of lists of nets

-- the word is the name of a net of which this holds
pub record IsNameOf (nets : List (Option FlatNet)) (Has : ℕ → Type 0) (w : List ℕ) : Type 0 where
  pub number : ℕ
  pub has : Has number
  pub named : name_in (slot nets number) ≡ w

pub one_word : (w u : List ℕ) → among w (u ∷ []) ≡ true → w ≡ u
one_word w u h =
    ⊎_elim (λ (y : same_word w u ≡ true). same_word_is w u y) (λ (none : false ≡ true). absurd (false≢true none)) (or_cases (same_word w u) false h)

-- a name of a list of nets is that of one of them
pub listed-name : (nets : List (Option FlatNet)) (Has : ℕ → Type 0) (ns : List NetId) (w : List ℕ) → ((n : NetId) → has_id ns n.0 ≡ true → Has n.0) → among w (names_of nets ns) ≡ true → IsNameOf nets Has w
listed-name nets Has [] w each h = absurd (false≢true h)
listed-name nets Has (n ∷ ns) w each h =
    let own = name_in (slot nets n.0) in
    ⊎_elim
    (λ (y : same_word w own ≡ true). record { number = n.0; has = each n (or_left _ _ (eq-eqb n.0 n.0 refl)); named = sym (same_word_is w own y) })
    (λ (later : among w (names_of nets ns) ≡ true). listed-name nets Has ns w (λ m s. each m (or_right _ _ s)) later)
    (or_cases (same_word w own) (among w (names_of nets ns)) h)

-- and the name of one of them stands there
pub name-listed : (nets : List (Option FlatNet)) (ns : List NetId) (k : ℕ) → has_id ns k ≡ true → among (name_in (slot nets k)) (names_of nets ns) ≡ true
name-listed nets [] k h = absurd (false≢true h)
name-listed nets (n ∷ ns) k h =
    let own = name_in (slot nets k) in
    ⊎_elim
    (λ (y : nat_eq n.0 k ≡ true). or_left _ _ (ap (λ i. same_word own (name_in (slot nets i))) (eqb-true n.0 k y) ∙ same_word_refl own))
    (λ (later : has_id ns k ≡ true). or_right _ _ (name-listed nets ns k later))
    (or_cases (nat_eq n.0 k) (has_id ns k) h)

-- ---- latches

pub outputs-said : (nets : List (Option FlatNet)) (line : ℕ) (ls : List FlatLatch) → map (λ (h : FileLatch). h.output) (latches_said nets line ls) ≡ names_of nets (outputs_at ls)
outputs-said nets line [] = refl
outputs-said nets line (l ∷ ls) = ap (λ ws. name_in (slot nets l.output.0) ∷ ws) (outputs-said nets (line + 1) ls)

abbrev inputs_at : List FlatLatch → List NetId
inputs_at ls = map (λ (l : FlatLatch). l.input) ls

inputs_said : (nets : List (Option FlatNet)) (line : ℕ) (ls : List FlatLatch) → map (λ (h : FileLatch). h.input) (latches_said nets line ls) ≡ names_of nets (inputs_at ls)
inputs_said nets line [] = refl
inputs_said nets line (l ∷ ls) = ap (λ ws. name_in (slot nets l.input.0) ∷ ws) (inputs_said nets (line + 1) ls)

inputs_readable : (nets : List (Option FlatNet)) (ls : List FlatLatch) → AllLatches nets ls → (n : NetId) → has_id (inputs_at ls) n.0 ≡ true → IsReadable nets n.0
inputs_readable nets [] all n h = absurd (false≢true h)
inputs_readable nets (l ∷ ls) all n h =
    ⊎_elim
    (λ (y : nat_eq l.input.0 n.0 ≡ true). subst (IsReadable nets) (eqb-true l.input.0 n.0 y) all.0.input)
    (λ (later : has_id (inputs_at ls) n.0 ≡ true). inputs_readable nets ls all.1 n later)
    (or_cases (nat_eq l.input.0 n.0) (has_id (inputs_at ls) n.0) h)

-- ---- nets that can be read

kind_other : (k : Kind) → (k ≡ Reset → ⊥) → is_reset (Some k) ≡ false
kind_other Input plain = refl
kind_other Latch plain = refl
kind_other Table plain = refl
kind_other Reset plain = absurd (plain refl)

-- what can be read is no reset net
pub readable-other : (nets : List (Option FlatNet)) (n : ℕ) (r : IsReadable nets n) → is_reset (Some r.net.kind) ≡ false
readable-other nets n r = kind_other r.net.kind r.plain

-- what is no reset net can be read
pub other-readable : (nets : List (Option FlatNet)) (n : ℕ) (f : FlatNet) → slot nets n ≡ Some f → is_reset (Some f.kind) ≡ false → IsReadable nets n
other-readable nets n f held other =
    record { net = f; held = held; plain = λ e. let same : is_reset (Some f.kind) ≡ true = ap (λ k. is_reset (Some k)) e in false≢true (sym other ∙ same) }

-- ---- columns

module _ (net : NetParts) (formed : WellFormed net) where
  abbrev name : ℕ → List ℕ
  name n = name_in (slot net.nets n)

  abbrev IsName : List ℕ → Type 0
  IsName w = IsNameOf net.nets (IsReadable net.nets) w

  abbrev columns : List FileTable → List (List ℕ)
  columns ts = flat_map columns_of ts

  gate_named : (line n : ℕ) (f : FlatNet) (c : Cover) (w : List ℕ) → slot net.nets n ≡ Some f → f.table ≡ Some c → is_reset (Some f.kind) ≡ false
      → among w (columns_of (gate_said net.nets line f.name (fanins_of (length net.nets) c) c)) ≡ true → IsName w
  gate_named line n f c w held table other h =
      let ins = map name (fanins_of (length net.nets) c) in
      ⊎_elim
      (λ (y : among w ins ≡ true).
      let is = picked name (λ m. cover_reads c m) (range_with_len 0 (length net.nets)) w y in
      record { number = is.number; has = lines_readable net.nets f.values c.lines is.number ((formed.nets n f held).cover c table).lines is.passes; named = is.named })
      (λ (y : among w (f.name ∷ []) ≡ true). record { number = n; has = other-readable net.nets n f held other; named = ap name_in held ∙ sym (one_word w f.name y) })
      (in_either w ins (f.name ∷ []) h)

  cover_named : (line n : ℕ) (f : FlatNet) (t : Option Cover) (w : List ℕ) → slot net.nets n ≡ Some f → f.table ≡ t → is_reset (Some f.kind) ≡ false → among w (columns (cover_said net.nets line f.name t)) ≡ true → IsName w
  cover_named line n f None w held table other h = absurd (false≢true h)
  cover_named line n f (Some c) w held table other h =
      let gate = columns_of (gate_said net.nets line f.name (fanins_of (length net.nets) c) c) in
      gate_named line n f c w held table other (⊎_elim (λ (y : among w gate ≡ true). y) (λ (none : among w [] ≡ true). absurd (false≢true none)) (in_either w gate [] h))

  net_named : (line n : ℕ) (o : Option FlatNet) (w : List ℕ) → slot net.nets n ≡ o → among w (columns (net_said net.nets line o)) ≡ true → IsName w
  net_named line n None w held h = absurd (false≢true h)
  net_named line n (Some f) w held h =
      let t = is_reset (Some f.kind) in
      let tables = cover_said net.nets line f.name f.table in
      ⊎_elim
      (λ (y : t ≡ true). absurd (false≢true (ap (λ ts. among w (columns ts)) (sym (cond-true t [] tables y)) ∙ h)))
      (λ (other : t ≡ false). cover_named line n f f.table w held refl other (ap (λ ts. among w (columns ts)) (sym (cond-false t [] tables other)) ∙ h))
      (cases_Bool t)

  tables_named : (line : ℕ) (fs : List (Option FlatNet)) (w : List ℕ) → AreHeld net.nets fs → among w (columns (tables_said net.nets line fs)) ≡ true → IsName w
  tables_named line [] w held h = absurd (false≢true h)
  tables_named line (o ∷ fs) w held h =
      let here = held zero o refl in
      let front = net_said net.nets line o in
      let next = line + length (net_words net.nets o) in
      let rest = tables_said net.nets next fs in
      ⊎_elim
      (λ (y : among w (columns front) ≡ true). net_named line here.0 o w here.1 y)
      (λ (y : among w (columns rest) ≡ true). tables_named next fs w (λ k x e. held (suc k) x e) y)
      (in_either w (columns front) (columns rest) (ap (among w) (sym (flat_map-append columns_of front rest)) ∙ h))

  reset_named : (line : ℕ) (l : FlatLatch) (init : ℕ) (w : List ℕ) → among w (columns (reset_said net.nets line l init)) ≡ true → w ≡ name l.output.0
  reset_named line l init w = by (nat_lt init 2)
    where
      by : (t : Bool) → among w (columns (if t then constant_reset line (name l.output.0) init ∷ [] else [])) ≡ true → w ≡ name l.output.0
      by true h = one_word w (name l.output.0) h
      by false h = absurd (false≢true h)

  resets_named : (line : ℕ) (ls : List FlatLatch) (cs : List BlifLatch) (w : List ℕ) → AllLatches net.nets ls → among w (columns (resets_said net.nets line ls cs)) ≡ true → IsName w
  resets_named line [] cs w all h = absurd (false≢true h)
  resets_named line (l ∷ ls) [] w all h = absurd (false≢true h)
  resets_named line (l ∷ ls) (c ∷ cs) w all h =
      let front = reset_said net.nets line l c.init in
      let rest = resets_said net.nets (line + 1) ls cs in
      ⊎_elim
      (λ (y : among w (columns front) ≡ true). record { number = l.output.0; has = latch-readable net formed l.output.0 all.0.output; named = sym (reset_named line l c.init w y) })
      (λ (y : among w (columns rest) ≡ true). resets_named (line + 1) ls cs w all.1 y)
      (in_either w (columns front) (columns rest) (ap (among w) (sym (flat_map-append columns_of front rest)) ∙ h))

  -- ---- the whole

  module _ (bs : List BlifLatch) (w : List ℕ) where
    abbrev model : FileModel
    model = model_said net bs

    abbrev of_latch : Bool
    of_latch = among w (latch_inputs model) || among w (latch_outputs model)

    abbrev of_table : Bool
    of_table = among w (columns model.resets) || among w (columns model.tables)

    input_named : among w model.inputs ≡ true → IsName w
    unfolding model_said
    input_named h = listed-name net.nets (IsReadable net.nets) net.inputs w (λ n s. input-readable net formed n.0 (formed.inputs.only n s)) h

    output_named : among w model.outputs ≡ true → IsName w
    unfolding model_said
    output_named h = listed-name net.nets (IsReadable net.nets) net.outputs w formed.outputs h

    read_named : among w (latch_inputs model) ≡ true → IsName w
    unfolding model_said
    read_named h =
        listed-name net.nets (IsReadable net.nets) (inputs_at net.latches) w (inputs_readable net.nets net.latches formed.latches) (ap (among w) (sym (inputs_said net.nets 4 net.latches)) ∙ h)

    state_named : among w (latch_outputs model) ≡ true → IsName w
    unfolding model_said
    state_named h =
        listed-name net.nets (IsReadable net.nets) (outputs_at net.latches) w (λ n s. latch-readable net formed n.0 (formed.states.only n s)) (ap (among w) (sym (outputs-said net.nets 4 net.latches)) ∙ h)

    columns_named : of_table ≡ true → IsName w
    unfolding model_said
    columns_named h =
        ⊎_elim
        (λ (y : among w (columns (resets_said net.nets 4 net.latches bs)) ≡ true). resets_named 4 net.latches bs w formed.latches y)
        (λ (y : among w (columns (tables_said net.nets (4 + length net.latches) net.nets)) ≡ true). tables_named (4 + length net.latches) net.nets w (held_all net.nets) y)
        (or_cases _ _ h)

    -- each net that the model names can be read
    pub named-readable : among w (nets_named model) ≡ true → IsName w
    named-readable h =
        ⊎_elim input_named
        (λ (y : (among w model.outputs || (of_latch || of_table)) ≡ true).
        ⊎_elim output_named
        (λ (z : (of_latch || of_table) ≡ true). ⊎_elim (λ (x : of_latch ≡ true). ⊎_elim read_named state_named (or_cases _ _ x)) columns_named (or_cases of_latch of_table z))
        (or_cases _ _ y))
        (or_cases _ _ (sym (among-nets_named w model) ∙ h))

-- ---- the number of a name

abbrev has_name : List ℕ → Option FlatNet → Bool
has_name w None = false
has_name w (Some f) = same_word w f.name

-- the number of the first net with this name
abbrev pub number_of : List ℕ → List (Option FlatNet) → ℕ
number_of w [] = 0
number_of w (o ∷ os) = if has_name w o then 0 else suc (number_of w os)

-- a name that a net has
named_some : (w : List ℕ) (o : Option FlatNet) → has_name w o ≡ true → (f : FlatNet) × (o ≡ Some f) × (w ≡ f.name)
named_some w None h = absurd (false≢true h)
named_some w (Some f) h = (f, refl, same_word_is w f.name h)

number_found : (w : List ℕ) (os : List (Option FlatNet)) (k : ℕ) (f : FlatNet) → slot os k ≡ Some f → w ≡ f.name → ((m : ℕ) (g : FlatNet) → slot os m ≡ Some g → w ≡ g.name → m ≡ k) → number_of w os ≡ k
number_found w [] k f held same only = cc
number_found w (o ∷ os) zero f held same only =
    cond-true (has_name w o) 0 (suc (number_of w os)) (ap (has_name w) held ∙ (ap (λ u. same_word u f.name) same ∙ same_word_refl f.name))
number_found w (o ∷ os) (suc k) f held same only =
    cond-false (has_name w o) 0 (suc (number_of w os)) (later (has_name w o) refl)
    ∙ ap suc (number_found w os k f held same (λ m g s t. let e = only (suc m) g s t in omega (arith, e)))
  where
    later : (b : Bool) → has_name w o ≡ b → has_name w o ≡ false
    later false e = e
    later true e =
        let found = named_some w o e in
        let first = only 0 found.0 found.1 found.2 in
        absurd (omega (arith, first))

-- that of a net that can be read, by its name
pub number-of : (net : NetParts) → WellFormed net → (k : ℕ) → IsReadable net.nets k → number_of (name_in (slot net.nets k)) net.nets ≡ k
number-of net formed k r =
    number_found (name_in (slot net.nets k)) net.nets k r.net r.held (ap name_in r.held) (λ m g held same. formed.names m k g r.net held r.held (sym same ∙ ap name_in r.held))
