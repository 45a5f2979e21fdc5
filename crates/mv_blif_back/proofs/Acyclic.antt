-- No net of the model is above itself, and nothing is above a reset value.
use Rattle.std.proofs.Common.{◌≡◌, ◌∙◌, ℕ, ◌+◌, zero, suc, Bool, true, false, List, [], ◌∷◌, length, map, Option, Some, None, All, ⊎_elim, refl, sym, ap, subst}
use Rattle.std.specs.Prelude.{filter, nat_lt}
use Rattle.std.specs.List.{list_any, range_with_len}
use Rattle.std.proofs.lemmas.Bool.{cond_both, cases_Bool, cond-true, cond-false, and_parts, or_cases, false≢true}
use Rattle.std.proofs.lemmas.List.Elements.{All-nil, All-cons, All-append}
use Rattle.std.proofs.lemmas.List.Folds.{list_any-append}
use Rattle.mv_acyclic.specs.Sound.{reads_through, reads, StandsAlone}
use Rattle.mv_base.specs.Names.{among, same_word}
use Rattle.mv_base.proofs.NameLemmas.{same_word_is}
use Rattle.mv_cover.specs.declared.cover.Cover.{Cover}
use Rattle.mv_cover.specs.Covers.{cover_reads}
use Rattle.mv_design.specs.declared.design.FileModel.{FileModel}
use Rattle.mv_graph.specs.Above.{GoesOn, IsAbove, IsAcyclic}
use Rattle.mv_latch.specs.declared.latch.BlifLatch.{BlifLatch}
use Rattle.mv_net.specs.declared.parts.FlatLatch.{FlatLatch}
use Rattle.mv_net.specs.declared.parts.FlatNet.{FlatNet}
use Rattle.mv_net.specs.declared.parts.NetParts.{NetParts}
use Rattle.mv_net.specs.Nets.{slot, name_in, net_reads, table_reads, reads_in}
use Rattle.mv_net.specs.Index.{is_reset}
use Rattle.mv_net.specs.Formed.{IsReadable, WellFormed}
use Rattle.mv_net.proofs.Known.{reads_readable}
use Rattle.mv_text.specs.Text.{fanins_of}
use Rattle.mv_blif_line.specs.Latches.{constant_reset}
use Rattle.mv_blif_text.specs.BlifText.{net_words}
use Rattle.mv_blif_back.specs.Model.{gate_said, cover_said, net_said, tables_said, reset_said, resets_said, model_said}
use Rattle.mv_blif_back.proofs.Agreeing.{AreHeld, held_all}

-- a name among those of picked numbers is the name of one of them
pub record IsPicked (name : ℕ → List ℕ) (p : ℕ → Bool) (w : List ℕ) : Type 0 where
  pub number : ℕ
  pub passes : p number ≡ true
  pub named : name number ≡ w

pub picked : (name : ℕ → List ℕ) (p : ℕ → Bool) (ms : List ℕ) (w : List ℕ) → among w (map name (filter p ms)) ≡ true → IsPicked name p w
picked name p [] w a = absurd (false≢true a)
picked name p (m ∷ ms) w a =
    ⊎_elim
    (λ (y : p m ≡ true).
    let here : among w (name m ∷ map name (filter p ms)) ≡ true = ap (λ ks. among w (map name ks)) (sym (cond-true (p m) (m ∷ filter p ms) (filter p ms) y)) ∙ a in
    ⊎_elim
    (λ (e : same_word w (name m) ≡ true). record { number = m; passes = y; named = sym (same_word_is w (name m) e) })
    (λ (later : among w (map name (filter p ms)) ≡ true). picked name p ms w later)
    (or_cases (same_word w (name m)) (among w (map name (filter p ms))) here))
    (λ (n : p m ≡ false). picked name p ms w (ap (λ ks. among w (map name ks)) (sym (cond-false (p m) (m ∷ filter p ms) (filter p ms) n)) ∙ a))
    (cases_Bool (p m))

module _ (net : NetParts) (formed : WellFormed net) where
  abbrev name : ℕ → List ℕ
  name n = name_in (slot net.nets n)

  -- two nets that can be read, by name, the first of which reads the second
  record IsStep (w v : List ℕ) : Type 0 where
    reader : ℕ
    read : ℕ
    readable : IsReadable net.nets reader
    below : IsReadable net.nets read
    named : name reader ≡ w
    called : name read ≡ v
    reading : reads_in net.nets reader read ≡ true

  gate_step : (line n : ℕ) (f : FlatNet) (c : Cover) (w v : List ℕ) → slot net.nets n ≡ Some f → f.table ≡ Some c → is_reset (Some f.kind) ≡ false
      → reads_through w v (gate_said net.nets line f.name (fanins_of (length net.nets) c) c) ≡ true → IsStep w v
  gate_step line n f c w v held table other h =
      let both = and_parts (among w (f.name ∷ [])) (among v (map name (fanins_of (length net.nets) c))) h in
      let own : same_word w f.name ≡ true = ⊎_elim (λ (y : same_word w f.name ≡ true). y) (λ (no : false ≡ true). absurd (false≢true no)) (or_cases (same_word w f.name) false both.0) in
      let is = picked name (λ m. cover_reads c m) (range_with_len 0 (length net.nets)) v both.1 in
      let reading : reads_in net.nets n is.number ≡ true = ap (λ o. net_reads o is.number) held ∙ (ap (λ t. table_reads t is.number) table ∙ is.passes) in
      record {
        reader = n;
        read = is.number;
        readable = record { net = f; held = held; plain = λ e. let same : is_reset (Some f.kind) ≡ true = ap (λ k. is_reset (Some k)) e in false≢true (sym other ∙ same) };
        below = reads_readable net n is.number formed reading;
        named = ap name_in held ∙ sym (same_word_is w f.name own);
        called = is.named;
        reading = reading;
      }

  cover_step : (line n : ℕ) (f : FlatNet) (t : Option Cover) (w v : List ℕ) → slot net.nets n ≡ Some f → f.table ≡ t → is_reset (Some f.kind) ≡ false
      → list_any (reads_through w v) (cover_said net.nets line f.name t) ≡ true → IsStep w v
  cover_step line n f None w v held table other h = absurd (false≢true h)
  cover_step line n f (Some c) w v held table other h =
      let gate = reads_through w v (gate_said net.nets line f.name (fanins_of (length net.nets) c) c) in
      ⊎_elim (λ (y : gate ≡ true). gate_step line n f c w v held table other y) (λ (no : false ≡ true). absurd (false≢true no)) (or_cases gate false h)

  net_step : (line n : ℕ) (o : Option FlatNet) (w v : List ℕ) → slot net.nets n ≡ o → list_any (reads_through w v) (net_said net.nets line o) ≡ true → IsStep w v
  net_step line n None w v held h = absurd (false≢true h)
  net_step line n (Some f) w v held h =
      let t = is_reset (Some f.kind) in
      let tables = cover_said net.nets line f.name f.table in
      ⊎_elim
      (λ (y : t ≡ true). absurd (false≢true (ap (list_any (reads_through w v)) (sym (cond-true t [] tables y)) ∙ h)))
      (λ (other : t ≡ false). cover_step line n f f.table w v held refl other (ap (list_any (reads_through w v)) (sym (cond-false t [] tables other)) ∙ h))
      (cases_Bool t)

  tables_step : (line : ℕ) (fs : List (Option FlatNet)) (w v : List ℕ) → AreHeld net.nets fs → list_any (reads_through w v) (tables_said net.nets line fs) ≡ true → IsStep w v
  tables_step line [] w v held h = absurd (false≢true h)
  tables_step line (o ∷ fs) w v held h =
      let here = held zero o refl in
      let front = net_said net.nets line o in
      let next = line + length (net_words net.nets o) in
      let rest = tables_said net.nets next fs in
      ⊎_elim
      (λ (y : list_any (reads_through w v) front ≡ true). net_step line here.0 o w v here.1 y)
      (λ (y : list_any (reads_through w v) rest ≡ true). tables_step next fs w v (λ k x e. held (suc k) x e) y)
      (or_cases (list_any (reads_through w v) front) (list_any (reads_through w v) rest) (sym (list_any-append (reads_through w v) front rest) ∙ h))

  one_number : (n m : ℕ) → IsReadable net.nets n → IsReadable net.nets m → name n ≡ name m → n ≡ m
  one_number n m r s e = formed.names n m r.net s.net r.held s.held (sym (ap name_in r.held) ∙ (e ∙ ap name_in s.held))

  module _ (bs : List BlifLatch) where
    abbrev model : FileModel
    model = model_said net bs

    model_step : (w v : List ℕ) → reads model w v ≡ true → IsStep w v
    unfolding reads model_said
    model_step w v h = tables_step (4 + length net.latches) net.nets w v (held_all net.nets) h

    -- a net that can be read has this name, and is above n
    record IsOver (w : List ℕ) (n : ℕ) : Type 0 where
      number : ℕ
      readable : IsReadable net.nets number
      named : name number ≡ w
      above : IsAbove (reads_in net.nets) number n

    climb : (w v : List ℕ) (path : List (List ℕ)) (n : ℕ) → IsReadable net.nets n → name n ≡ v → GoesOn (reads model) w v path → IsOver w n
    climb w v [] n r e goes =
        let s = model_step v w goes in
        let same : s.reader ≡ n = one_number s.reader n s.readable r (s.named ∙ sym e) in
        record { number = s.read; readable = s.below; named = s.called; above = record { path = []; goes = ap (λ k. reads_in net.nets k s.read) (sym same) ∙ s.reading } }
    climb w v (u ∷ path) n r e goes =
        let s = model_step v u goes.0 in
        let same : s.reader ≡ n = one_number s.reader n s.readable r (s.named ∙ sym e) in
        let over = climb w u path s.read s.below s.called goes.1 in
        record {
          number = over.number;
          readable = over.readable;
          named = over.named;
          above = record { path = s.read ∷ over.above.path; goes = (ap (λ k. reads_in net.nets k s.read) (sym same) ∙ s.reading, over.above.goes) };
        }

    first_step : (w v : List ℕ) (path : List (List ℕ)) → GoesOn (reads model) w v path → (n : ℕ) × IsReadable net.nets n × (name n ≡ v)
    first_step w v [] goes = let s = model_step v w goes in (s.reader, s.readable, s.named)
    first_step w v (u ∷ path) goes = let s = model_step v u goes.0 in (s.reader, s.readable, s.named)

    pub model-acyclic : IsAcyclic (reads model)
    model-acyclic = record {
      none =
          λ w above.
          let start = first_step w w above.path above.goes in
          let over = climb w w above.path start.0 start.1 start.2 above.goes in
          let same : over.number ≡ start.0 = one_number over.number start.0 over.readable start.1 (over.named ∙ sym start.2) in
          formed.acyclic.none start.0 (subst (λ (k : ℕ). IsAbove (reads_in net.nets) k start.0) same over.above);
    }

    -- ---- reset values

    stands_alone : (n : ℕ) (w : List ℕ) (v : ℕ) → StandsAlone model (constant_reset n w v)
    stands_alone n w v latch listed above = false≢true above.listed

    reset_alone : (n : ℕ) (l : FlatLatch) (init : ℕ) → All (StandsAlone model) (reset_said net.nets n l init)
    reset_alone n l init =
        let reset = constant_reset n (name l.output.0) init in
        cond_both (nat_lt init 2) (reset ∷ []) [] (All (StandsAlone model))
        (λ y. All-cons (StandsAlone model) reset [] (stands_alone n (name l.output.0) init) (All-nil (StandsAlone model)))
        (λ no. All-nil (StandsAlone model))

    resets_alone : (n : ℕ) (ls : List FlatLatch) (cs : List BlifLatch) → All (StandsAlone model) (resets_said net.nets n ls cs)
    resets_alone n [] cs = All-nil (StandsAlone model)
    resets_alone n (l ∷ ls) [] = All-nil (StandsAlone model)
    resets_alone n (l ∷ ls) (c ∷ cs) =
        All-append (StandsAlone model) (reset_said net.nets n l c.init) (resets_said net.nets (n + 1) ls cs) (reset_alone n l c.init) (resets_alone (n + 1) ls cs)

    model_resets : model.resets ≡ resets_said net.nets 4 net.latches bs
    unfolding model_said
    model_resets = refl

    pub model-alone : All (StandsAlone model) model.resets
    model-alone = subst (All (StandsAlone model)) (sym model_resets) (resets_alone 4 net.latches bs)
