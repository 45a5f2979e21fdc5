-- Each net of the model is driven once, and each of its reset tables has its own latch.
use Rattle.std.proofs.Common.{◌≡◌, ◌∙◌, ℕ, ◌+◌, ◌≤◌, zero, suc, Bool, true, false, not, cond, List, [], ◌∷◌, ◌++◌, length, map, Option, Some, None, is_some, ⊎_elim, refl, sym, ap, arith}
use Rattle.std.specs.Prelude.{count_by, nat_lt, if◌then◌else◌}
use Rattle.std.specs.List.{flat_map}
use Rattle.std.proofs.lemmas.Bool.{cases_Bool, cond_both, cond-true, cond-false, and_parts, and_from, or_from, or_left, or_right, or_cases, not-true, not_from_false, false≢true, false_from_ne_true}
use Rattle.std.proofs.lemmas.Bool.Decides.{nat_tests}
use Rattle.std.proofs.lemmas.Grind.{flat_map-append}
use Rattle.std.proofs.lemmas.List.{map-append}
use Rattle.std.proofs.lemmas.Option.{same_Some}
use Rattle.mv_acyclic.specs.Sound.{IsDrivenOnce, HasResetsOfLatches, resets_named}
use Rattle.mv_acyclic.proofs.Named.{among-nets_of}
use Rattle.mv_acyclic.proofs.Names.{all_from_among, among_counted, count_of_cons}
use Rattle.mv_acyclic.proofs.Soundness.{in_either, in_left, in_right}
use Rattle.mv_base.specs.Names.{among, names_differ, same_word}
use Rattle.mv_base.specs.declared.number.NetId.{NetId}
use Rattle.mv_base.proofs.NameLemmas.{among-append, same_word_is, same_word_refl}
use Rattle.mv_cover.specs.declared.cover.Cover.{Cover}
use Rattle.mv_design.specs.declared.design.FileModel.{FileModel}
use Rattle.mv_design.specs.declared.table.FileTable.{FileTable}
use Rattle.mv_design.specs.Nets.{drivers, latch_outputs, nets_driven, output_of}
use Rattle.mv_latch.specs.declared.latch.BlifLatch.{BlifLatch}
use Rattle.mv_net.specs.declared.parts.Kind.{Kind}
use Rattle.mv_net.specs.declared.parts.Kind.TheVariants.{Input, Latch, Table, Reset}
use Rattle.mv_net.specs.declared.parts.FlatLatch.{FlatLatch}
use Rattle.mv_net.specs.declared.parts.FlatNet.{FlatNet}
use Rattle.mv_net.specs.declared.parts.NetParts.{NetParts}
use Rattle.mv_net.specs.Nets.{slot, name_in}
use Rattle.mv_net.specs.Index.{is_reset}
use Rattle.mv_net.specs.Formed.{IsKind, IsReadable, WellFormed, has_table, latch_outputs as outputs_at}
use Rattle.mv_text.specs.Text.{fanins_of, names_of}
use Rattle.mv_blif_line.specs.Latches.{constant_reset}
use Rattle.mv_blif_text.specs.BlifText.{net_words}
use Rattle.mv_blif_back.specs.Model.{gate_said, cover_said, net_said, tables_said, reset_said, resets_said, model_said}
use Rattle.mv_blif_back.proofs.Named.{IsNameOf, one_word, listed-name, name-listed, outputs-said, named-readable}
use Rattle.mv_blif_back.proofs.Ports.{names-differ}
use Rattle.mv_blif_back.proofs.Written.{input-readable, latch-readable}

-- ---- names that differ

differ_append : (us ws : List (List ℕ)) → names_differ us ≡ true → names_differ ws ≡ true → ((w : List ℕ) → among w us ≡ true → among w ws ≡ true → ⊥) → names_differ (us ++ ws) ≡ true
differ_append [] ws d e apart = e
differ_append (u ∷ us) ws d e apart =
    let p = and_parts (not (among u us)) (names_differ us) d in
    let new : among u ws ≡ false = false_from_ne_true _ (apart u (or_left _ _ (same_word_refl u))) in
    and_from _ _ (not_from_false _ (among-append u us ws ∙ or_from _ _ (not-true _ p.0) new)) (differ_append us ws p.1 e (λ w a b. apart w (or_right _ _ a) b))

none_counted : (n : ℕ) → nat_lt 0 n ≡ false → n ≡ 0
none_counted n h = grind (arith, nat_tests)

-- one of them stands there once
counted_once : (w : List ℕ) (ws : List (List ℕ)) → names_differ ws ≡ true → among w ws ≡ true → count_by (same_word w) ws ≡ 1
counted_once w [] d h = absurd (false≢true h)
counted_once w (u ∷ us) d h =
    let p = and_parts (not (among u us)) (names_differ us) d in
    let none : same_word w u ≡ true → among w us ≡ false = λ y. ap (λ v. among v us) (same_word_is w u y) ∙ not-true _ p.0 in
    count_of_cons w u us
    ∙ once (same_word w u) (count_by (same_word w) us) (λ y. none_counted _ (sym (among_counted w us) ∙ none y))
    (λ n. counted_once w us p.1 (⊎_elim (λ (y : same_word w u ≡ true). absurd (false≢true (sym n ∙ y))) (λ (later : among w us ≡ true). later) (or_cases (same_word w u) (among w us) h)))
  where
    once : (b : Bool) (n : ℕ) → (b ≡ true → n ≡ 0) → (b ≡ false → n ≡ 1) → cond b 1 0 + n ≡ 1
    once true n none one = ap (λ k. 1 + k) (none refl)
    once false n none one = ap (λ k. 0 + k) (one refl)

table_kind : (k : Kind) → has_table k ≡ true → is_reset (Some k) ≡ false → k ≡ Table
table_kind Input e f = cc
table_kind Latch e f = cc
table_kind Table e f = refl
table_kind Reset e f = cc

module _ (net : NetParts) (formed : WellFormed net) where
  abbrev name : ℕ → List ℕ
  name n = name_in (slot net.nets n)

  abbrev Named : Kind → List ℕ → Type 0
  Named kind w = IsNameOf net.nets (λ n. IsKind net.nets n kind) w

  -- nets with one name are one
  one_net : (n m : ℕ) (a b : Kind) → IsKind net.nets n a → IsKind net.nets m b → name n ≡ name m → n ≡ m
  one_net n m a b x y e = formed.names n m x.net y.net x.held y.held (sym (ap name_in x.held) ∙ (e ∙ ap name_in y.held))

  one_kind : (a b : Kind) (w : List ℕ) → Named a w → Named b w → a ≡ b
  one_kind a b w x y =
      let same : x.number ≡ y.number = one_net x.number y.number a b x.has y.has (x.named ∙ sym y.named) in
      let one : x.has.net ≡ y.has.net = same_Some x.has.net y.has.net (sym x.has.held ∙ (ap (slot net.nets) same ∙ y.has.held)) in
      sym x.has.is ∙ (ap (λ (f : FlatNet). f.kind) one ∙ y.has.is)

  -- ---- what tables drive

  abbrev driven : List FileTable → List (List ℕ)
  driven ts = flat_map nets_driven ts

  -- these nets stand at the number a and behind it
  abbrev StandFrom : ℕ → List (Option FlatNet) → Type 0
  StandFrom a fs = (k : ℕ) → slot net.nets (a + k) ≡ slot fs k

  first_stands : (a : ℕ) (o : Option FlatNet) (fs : List (Option FlatNet)) → StandFrom a (o ∷ fs) → slot net.nets a ≡ o
  first_stands a o fs stand = let e : a ≡ a + zero = omega arith in ap (slot net.nets) e ∙ stand zero

  rest_stand : (a : ℕ) (o : Option FlatNet) (fs : List (Option FlatNet)) → StandFrom a (o ∷ fs) → StandFrom (a + 1) fs
  rest_stand a o fs stand k = let e : (a + 1) + k ≡ a + suc k = omega arith in ap (slot net.nets) e ∙ stand (suc k)

  cover_drives : (n line : ℕ) (f : FlatNet) (t : Option Cover) (w : List ℕ) → slot net.nets n ≡ Some f → f.table ≡ t → is_reset (Some f.kind) ≡ false
      → among w (driven (cover_said net.nets line f.name t)) ≡ true → IsKind net.nets n Table × (name n ≡ w)
  cover_drives n line f None w held table other h = absurd (false≢true h)
  cover_drives n line f (Some c) w held table other h =
      let tabled : has_table f.kind ≡ true = sym (formed.nets n f held).table ∙ ap (λ (o : Option Cover). is_some o) table in
      (record { net = f; held = held; is = table_kind f.kind tabled other }, ap name_in held ∙ sym (one_word w f.name h))

  net_drives : (n line : ℕ) (o : Option FlatNet) (w : List ℕ) → slot net.nets n ≡ o → among w (driven (net_said net.nets line o)) ≡ true → IsKind net.nets n Table × (name n ≡ w)
  net_drives n line None w held h = absurd (false≢true h)
  net_drives n line (Some f) w held h =
      let t = is_reset (Some f.kind) in
      let tables = cover_said net.nets line f.name f.table in
      ⊎_elim
      (λ (y : t ≡ true). absurd (false≢true (ap (λ ts. among w (driven ts)) (sym (cond-true t [] tables y)) ∙ h)))
      (λ (other : t ≡ false). cover_drives n line f f.table w held refl other (ap (λ ts. among w (driven ts)) (sym (cond-false t [] tables other)) ∙ h))
      (cases_Bool t)

  -- the word is the name of a net with a table, at the number a or behind it
  record IsTabled (a : ℕ) (w : List ℕ) : Type 0 where
    number : ℕ
    from : a ≤ number
    is : IsKind net.nets number Table
    named : name number ≡ w

  tables_drive : (a line : ℕ) (fs : List (Option FlatNet)) (w : List ℕ) → StandFrom a fs → among w (driven (tables_said net.nets line fs)) ≡ true → IsTabled a w
  tables_drive a line [] w stand h = absurd (false≢true h)
  tables_drive a line (o ∷ fs) w stand h =
      let next = line + length (net_words net.nets o) in
      let front = net_said net.nets line o in
      let rest = tables_said net.nets next fs in
      ⊎_elim
      (λ (y : among w (driven front) ≡ true).
      let here = net_drives a line o w (first_stands a o fs stand) y in
      record { number = a; from = omega arith; is = here.0; named = here.1 })
      (λ (y : among w (driven rest) ≡ true).
      let t = tables_drive (a + 1) next fs w (rest_stand a o fs stand) y in
      record { number = t.number; from = omega (arith, t.from); is = t.is; named = t.named })
      (in_either w (driven front) (driven rest) (ap (among w) (sym (flat_map-append nets_driven front rest)) ∙ h))

  cover_differs : (line : ℕ) (w : List ℕ) (t : Option Cover) → names_differ (driven (cover_said net.nets line w t)) ≡ true
  cover_differs line w None = refl
  cover_differs line w (Some c) = refl

  net_differs : (line : ℕ) (o : Option FlatNet) → names_differ (driven (net_said net.nets line o)) ≡ true
  net_differs line None = refl
  net_differs line (Some f) =
      cond_both (is_reset (Some f.kind)) [] (cover_said net.nets line f.name f.table) (λ ts. names_differ (driven ts) ≡ true) (λ y. refl) (λ other. cover_differs line f.name f.table)

  tables_differ : (a line : ℕ) (fs : List (Option FlatNet)) → StandFrom a fs → names_differ (driven (tables_said net.nets line fs)) ≡ true
  tables_differ a line [] stand = refl
  tables_differ a line (o ∷ fs) stand =
      let next = line + length (net_words net.nets o) in
      let front = net_said net.nets line o in
      let rest = tables_said net.nets next fs in
      ap names_differ (flat_map-append nets_driven front rest)
      ∙ differ_append (driven front) (driven rest) (net_differs line o) (tables_differ (a + 1) next fs (rest_stand a o fs stand))
      (λ w x y.
      let here = net_drives a line o w (first_stands a o fs stand) x in
      let later = tables_drive (a + 1) next fs w (rest_stand a o fs stand) y in
      let from : a + 1 ≤ later.number = later.from in
      let same : a ≡ later.number = one_net a later.number Table Table here.0 later.is (here.1 ∙ sym later.named) in
      omega (arith, from, same))

  -- and each net with a table is driven by it
  table_drives : (line k : ℕ) (fs : List (Option FlatNet)) (f : FlatNet) (c : Cover) → slot fs k ≡ Some f → f.table ≡ Some c → is_reset (Some f.kind) ≡ false
      → among f.name (driven (tables_said net.nets line fs)) ≡ true
  table_drives line k [] f c held table other = cc
  table_drives line zero (o ∷ fs) f c held table other =
      let front = net_said net.nets line o in
      let rest = tables_said net.nets (line + length (net_words net.nets o)) fs in
      let gate = gate_said net.nets line f.name (fanins_of (length net.nets) c) c in
      let own : front ≡ gate ∷ [] = ap (net_said net.nets line) held ∙ (cond-false (is_reset (Some f.kind)) [] (cover_said net.nets line f.name f.table) other ∙ ap (cover_said net.nets line f.name) table) in
      ap (among f.name) (flat_map-append nets_driven front rest)
      ∙ in_left f.name (driven front) (driven rest) (ap (λ ts. among f.name (driven ts)) own ∙ or_left _ _ (same_word_refl f.name))
  table_drives line (suc k) (o ∷ fs) f c held table other =
      let front = net_said net.nets line o in
      let next = line + length (net_words net.nets o) in
      let rest = tables_said net.nets next fs in
      ap (among f.name) (flat_map-append nets_driven front rest) ∙ in_right f.name (driven front) (driven rest) (table_drives next k fs f c held table other)

  -- ---- reset tables

  abbrev latch_names : List FlatLatch → List (List ℕ)
  latch_names ls = names_of net.nets (outputs_at ls)

  abbrev reset_names : List FileTable → List (List ℕ)
  reset_names ts = map output_of ts

  reset_output : (line : ℕ) (l : FlatLatch) (init : ℕ) (w : List ℕ) → among w (reset_names (reset_said net.nets line l init)) ≡ true → w ≡ name l.output.0
  reset_output line l init w = by (nat_lt init 2)
    where
      by : (t : Bool) → among w (reset_names (if t then constant_reset line (name l.output.0) init ∷ [] else [])) ≡ true → w ≡ name l.output.0
      by true h = one_word w (name l.output.0) h
      by false h = absurd (false≢true h)

  reset_differs : (line : ℕ) (l : FlatLatch) (init : ℕ) → names_differ (reset_names (reset_said net.nets line l init)) ≡ true
  reset_differs line l init = by (nat_lt init 2)
    where
      by : (t : Bool) → names_differ (reset_names (if t then constant_reset line (name l.output.0) init ∷ [] else [])) ≡ true
      by true = refl
      by false = refl

  resets_among : (line : ℕ) (ls : List FlatLatch) (cs : List BlifLatch) (w : List ℕ) → among w (reset_names (resets_said net.nets line ls cs)) ≡ true → among w (latch_names ls) ≡ true
  resets_among line [] cs w h = absurd (false≢true h)
  resets_among line (l ∷ ls) [] w h = absurd (false≢true h)
  resets_among line (l ∷ ls) (c ∷ cs) w h =
      let front = reset_said net.nets line l c.init in
      let rest = resets_said net.nets (line + 1) ls cs in
      ⊎_elim
      (λ (y : among w (reset_names front) ≡ true). or_left _ _ (ap (λ u. same_word u (name l.output.0)) (reset_output line l c.init w y) ∙ same_word_refl (name l.output.0)))
      (λ (y : among w (reset_names rest) ≡ true). or_right _ _ (resets_among (line + 1) ls cs w y))
      (in_either w (reset_names front) (reset_names rest) (ap (among w) (sym (map-append output_of front rest)) ∙ h))

  resets_differ : (line : ℕ) (ls : List FlatLatch) (cs : List BlifLatch) → names_differ (latch_names ls) ≡ true → names_differ (reset_names (resets_said net.nets line ls cs)) ≡ true
  resets_differ line [] cs once = refl
  resets_differ line (l ∷ ls) [] once = refl
  resets_differ line (l ∷ ls) (c ∷ cs) once =
      let p = and_parts (not (among (name l.output.0) (latch_names ls))) (names_differ (latch_names ls)) once in
      let front = reset_said net.nets line l c.init in
      let rest = resets_said net.nets (line + 1) ls cs in
      ap names_differ (map-append output_of front rest)
      ∙ differ_append (reset_names front) (reset_names rest) (reset_differs line l c.init) (resets_differ (line + 1) ls cs p.1)
      (λ w x y. false≢true (sym (not-true _ p.0) ∙ (ap (λ u. among u (latch_names ls)) (sym (reset_output line l c.init w x)) ∙ resets_among (line + 1) ls cs w y)))

  -- ---- the model

  latches_differ : names_differ (latch_names net.latches) ≡ true
  latches_differ = names-differ net formed (outputs_at net.latches) formed.states.once (λ n s. latch-readable net formed n.0 (formed.states.only n s))

  module _ (bs : List BlifLatch) where
    abbrev model : FileModel
    model = model_said net bs

    abbrev ins : List (List ℕ)
    ins = names_of net.nets net.inputs

    abbrev gates : List (List ℕ)
    gates = driven (tables_said net.nets (4 + length net.latches) net.nets)

    drivers_are : drivers model ≡ ins ++ (latch_names net.latches ++ gates)
    unfolding drivers model_said
    drivers_are = ap (λ ws. ins ++ (ws ++ gates)) (outputs-said net.nets 4 net.latches)

    stand : StandFrom 0 net.nets
    stand k = let e : 0 + k ≡ k = omega arith in ap (slot net.nets) e

    input_named : (w : List ℕ) → among w ins ≡ true → Named Input w
    input_named w h = listed-name net.nets (λ n. IsKind net.nets n Input) net.inputs w formed.inputs.only h

    state_named : (w : List ℕ) → among w (latch_names net.latches) ≡ true → Named Latch w
    state_named w h = listed-name net.nets (λ n. IsKind net.nets n Latch) (outputs_at net.latches) w formed.states.only h

    gate_named : (w : List ℕ) → among w gates ≡ true → Named Table w
    gate_named w h =
        let t = tables_drive 0 (4 + length net.latches) net.nets w stand h in
        record { number = t.number; has = t.is; named = t.named }

    drivers_differ : names_differ (drivers model) ≡ true
    drivers_differ =
        let inputs = names-differ net formed net.inputs formed.inputs.once (λ n s. input-readable net formed n.0 (formed.inputs.only n s)) in
        let inner : names_differ (latch_names net.latches ++ gates) ≡ true = differ_append (latch_names net.latches) gates latches_differ (tables_differ 0 (4 + length net.latches) net.nets stand)
        (λ w x y. (let e = one_kind Latch Table w (state_named w x) (gate_named w y) in cc)) in
        ap names_differ drivers_are
        ∙ differ_append ins (latch_names net.latches ++ gates) inputs inner
        (λ w x y.
        ⊎_elim
        (λ (z : among w (latch_names net.latches) ≡ true). (let e = one_kind Input Latch w (input_named w x) (state_named w z) in cc))
        (λ (z : among w gates ≡ true). (let e = one_kind Input Table w (input_named w x) (gate_named w z) in cc))
        (in_either w (latch_names net.latches) gates y))

    -- a net that can be read is driven
    with_table : (k : ℕ) (r : IsReadable net.nets k) (t : Option Cover) → r.net.table ≡ t → is_some t ≡ true → is_reset (Some r.net.kind) ≡ false → among (name k) gates ≡ true
    with_table k r None e some other = absurd (false≢true some)
    with_table k r (Some c) e some other = ap (λ o. among (name_in o) gates) r.held ∙ table_drives (4 + length net.latches) k net.nets r.net c r.held e other

    with_kind : (k : ℕ) (r : IsReadable net.nets k) (kind : Kind) → r.net.kind ≡ kind → among (name k) (drivers model) ≡ true
    with_kind k r Input e =
        let n : NetId = record { 0 = k } in
        let here = name-listed net.nets net.inputs k (formed.inputs.all n (record { net = r.net; held = r.held; is = e })) in
        ap (among (name k)) drivers_are ∙ in_left (name k) ins (latch_names net.latches ++ gates) here
    with_kind k r Latch e =
        let n : NetId = record { 0 = k } in
        let here = name-listed net.nets (outputs_at net.latches) k (formed.states.all n (record { net = r.net; held = r.held; is = e })) in
        ap (among (name k)) drivers_are ∙ in_right (name k) ins (latch_names net.latches ++ gates) (in_left (name k) (latch_names net.latches) gates here)
    with_kind k r Table e =
        let tabled : is_some r.net.table ≡ true = (formed.nets k r.net r.held).table ∙ ap has_table e in
        let here = with_table k r r.net.table refl tabled (ap (λ x. is_reset (Some x)) e) in
        ap (among (name k)) drivers_are ∙ in_right (name k) ins (latch_names net.latches ++ gates) (in_right (name k) (latch_names net.latches) gates here)
    with_kind k r Reset e = absurd (r.plain e)

    pub readable-driven : (k : ℕ) → IsReadable net.nets k → among (name k) (drivers model) ≡ true
    readable-driven k r = with_kind k r r.net.kind refl

    pub driven-once : IsDrivenOnce model
    driven-once = record {
      once =
          λ w h.
          let is = named-readable net formed bs w (sym (among-nets_of w model) ∙ h) in
          counted_once w (drivers model) drivers_differ (ap (λ u. among u (drivers model)) (sym is.named) ∙ readable-driven is.number is.has);
    }

    states_are : latch_outputs model ≡ latch_names net.latches
    unfolding model_said
    states_are = outputs-said net.nets 4 net.latches

    resets_are : resets_named model ≡ reset_names (resets_said net.nets 4 net.latches bs)
    unfolding model_said
    resets_are = refl

    pub own-latches : HasResetsOfLatches model
    own-latches = record {
      latches =
          all_from_among (λ w. among w (latch_outputs model)) (resets_named model)
          (λ w h. ap (among w) states_are ∙ resets_among 4 net.latches bs w (ap (among w) (sym resets_are) ∙ h));
      differ = ap names_differ resets_are ∙ resets_differ 4 net.latches bs latches_differ;
    }
