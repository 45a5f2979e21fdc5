-- A lawful sound model means the same with a net for each reset value: a valuation of its nets is one of the model and of its
-- reset nets, whose values are the reset values of the latches.
use Rattle.std.proofs.Common.{◌≡◌, ℕ, Bool, true, false, not, ◌||◌, List, [], ◌∷◌, get_or, map, refl, sym, ◌∙◌, ap, subst, ⊎_elim, All}
use Rattle.std.specs.Prelude.{◌==◌, nat_eq, nat_lt, if◌then◌else◌}
use Rattle.std.specs.List.{list_all}
use Rattle.std.proofs.Math.Bool.{or-false}
use Rattle.std.proofs.lemmas.Bool.{false≢true, false_from_ne_true, and_from, and_parts, cases_Bool, cond-true, cond-false, cond_both, eq-eqb, eqb-true}
use Rattle.std.proofs.lemmas.Bool.{not-true, not_from_false, or_cases, or_left, or_right}
use Rattle.std.proofs.lemmas.List.Folds.{list_all-map, list_any_at}
use Rattle.std.proofs.lemmas.List.Sums.{AllPass-from_list_all, list_all-from_AllPass}
use Rattle.mv_base.specs.Meaning.{SameMeaning, Interface, LatchPort, Port}
use Rattle.mv_base.specs.Names.{same_word, among, is_net_name, names_differ}
use Rattle.mv_base.proofs.NameLemmas.{same_word_is, same_word_refl}
use Rattle.mv_design.specs.declared.design.FileLatch.{FileLatch}
use Rattle.mv_design.specs.declared.design.FileModel.{FileModel}
use Rattle.mv_design.specs.declared.table.FileTable.{FileTable}
use Rattle.mv_design.specs.Meaning.{in_values, is_reset_of, has_reset_table, lets_begin, may_begin, may_begin_all, table_holds}
use Rattle.mv_design.specs.Meaning.{port, latch_port, of_model, AllowsModel}
use Rattle.mv_design.specs.Nets.{latch_inputs, latch_outputs, nets_named, output_of}
use Rattle.mv_design.specs.Proper.{IsFileTable, IsFileReset, IsLawful}
use Rattle.mv_design.specs.Tables.{table_allows}
use Rattle.mv_design.specs.Values.{count_of, values_of}
use Rattle.mv_acyclic.specs.Sound.{resets_named, HasResetsOfLatches, IsSoundModel}
use Rattle.mv_acyclic.proofs.Commands.{driver_is_net, named_is_net}
use Rattle.mv_acyclic.proofs.Named.{among-nets_of}
use Rattle.mv_acyclic.proofs.Names.{all_among, all_from_among}
use Rattle.mv_resets.specs.Resets.{reset_name, reset_table, with_reset_nets}
use Rattle.mv_resets.specs.Valued.{has_reset_net, reset_is, resets_are, AllowsNets, latch_seen, of_nets}
use Rattle.mv_resets.proofs.Words.{map_alike, named, not_lawful, reset_among}
use Rattle.mv_resets.proofs.Nets.{all-tables, among-drivers, named_lawful, nets_either, nets_kept, nexts_lawful, not_driver}
use Rattle.mv_resets.proofs.Nets.{output_is, reset_is_state, resets_single, some_output, states_lawful}
use Rattle.mv_resets.proofs.Values.{count_kept, count_of_reset, values_kept}
use Rattle.mv_resets.proofs.NetModels.{output_listed}
use Rattle.mv_resets.proofs.SoundNets.{latches_differ}

-- ---- which latches have reset nets

-- those that are named by reset tables
net_listed : (m : FileModel) (v : List ℕ) → IsLawful m → has_reset_net (with_reset_nets m) v ≡ among v (resets_named m)
net_listed m v p =
    among-drivers (reset_name v) m (resets_single m p) ∙ rw (not_driver v m p) (or-false _ ∙ reset_among v (resets_named m))

table_listed : (m : FileModel) (l : FileLatch) → IsLawful m → has_reset_table m.resets l ≡ among l.output (resets_named m)
table_listed m l p = some_output l.output m.resets (resets_single m p)

-- ---- what is seen from outside

same_ports : (m : FileModel) (nets : List (List ℕ)) → list_all is_net_name nets ≡ true → map (port (with_reset_nets m)) nets ≡ map (port m) nets
same_ports m nets h = map_alike (port (with_reset_nets m)) (port m) is_net_name (λ w l. ap (λ vs. record { name = w; values = vs }) (values_kept m w l)) nets h

seen_alike : (m : FileModel) (l : FileLatch) → IsLawful m → is_net_name l.output ≡ true → latch_seen (with_reset_nets m) l ≡ latch_port m l
seen_alike m l p h =
    ap (λ vs. record { name = l.output; values = vs; has_reset = has_reset_net (with_reset_nets m) l.output }) (values_kept m l.output h)
    ∙ ap (λ b. record { name = l.output; values = values_of m.decls l.output; has_reset = b }) (net_listed m l.output p ∙ sym (table_listed m l p))

same_interface : (m : FileModel) → IsLawful m → (of_nets (with_reset_nets m)).interface ≡ (of_model m).interface
unfolding of_nets of_model with_reset_nets
same_interface m p =
    let all = with_reset_nets m in
    let one : List Port → Interface = λ ps. record { inputs = ps; outputs = map (port all) m.outputs; latches = map (latch_seen all) m.latches } in
    let two : List Port → Interface = λ ps. record { inputs = map (port m) m.inputs; outputs = ps; latches = map (latch_seen all) m.latches } in
    let three : List LatchPort → Interface = λ ls. record { inputs = map (port m) m.inputs; outputs = map (port m) m.outputs; latches = ls } in
    ap one (same_ports m m.inputs p.inputs) ∙ (ap two (same_ports m m.outputs p.outputs)
    ∙ ap three
    (map_alike (latch_seen all) (latch_port m) (λ (l : FileLatch). is_net_name l.output) (λ l lawful. seen_alike m l p lawful) m.latches (states_lawful m p)))

-- ---- from the nets to the model

-- a reset value of a latch is one of its reset net
begins_net : (m : FileModel) (value : List ℕ → ℕ) (l : FileLatch) (r : ℕ) (t : FileTable) → IsFileReset m.decls t → table_holds value (reset_table t) ≡ true
    → r ≡ value (reset_name l.output) → lets_begin value l r t ≡ true
begins_net m value l r t h holds e =
    ⊎_elim
    (λ (y : is_reset_of l t ≡ true).
    let o = output_is t h.single in
    let named_so : l.output ≡ output_of t = only l.output (output_of t) (sym (ap (among l.output) o) ∙ y) in
    let outs : map value (map reset_name t.outputs) ≡ r ∷ [] =
    ap (λ ws. map value (map reset_name ws)) o ∙ ap (λ n. n ∷ []) (ap (λ w. value (reset_name w)) (sym named_so) ∙ sym e) in
    or_right (not (is_reset_of l t)) _ (ap (table_allows t.rows t.default (map value t.inputs)) (sym outs) ∙ holds))
    (λ (n : is_reset_of l t ≡ false). or_left _ _ (not_from_false _ n))
    (cases_Bool (is_reset_of l t))
  where
    only : (w o : List ℕ) → among w (o ∷ []) ≡ true → w ≡ o
    only w o y = ⊎_elim (λ (s : same_word w o ≡ true). same_word_is w o s) (λ (s : false ≡ true). absurd (false≢true s)) (or_cases (same_word w o) false y)

-- a latch without a reset table may begin with any value
begins_free : (m : FileModel) (value : List ℕ → ℕ) (l : FileLatch) (r : ℕ) → IsLawful m → has_reset_net (with_reset_nets m) l.output ≡ false
    → list_all (lets_begin value l r) m.resets ≡ true
begins_free m value l r p n = list_all-from_AllPass (lets_begin value l r) m.resets (λ k d lt. or_left _ _ (not_from_false _ (none k d lt)))
  where
    none : All (λ t. is_reset_of l t ≡ false) m.resets
    none = λ k d lt.
        false_from_ne_true _ (λ y. false≢true (sym n ∙ (net_listed m l.output p ∙ (sym (table_listed m l p) ∙ list_any_at (is_reset_of l) m.resets k d lt y))))

-- a reset net has one of its latch's values
net_range : (m : FileModel) (value : List ℕ → ℕ) (v : List ℕ) → IsLawful m
    → in_values (with_reset_nets m).decls value (nets_named (with_reset_nets m)) ≡ true → has_reset_net (with_reset_nets m) v ≡ true
    → nat_lt (value (reset_name v)) (count_of m.decls v) ≡ true
net_range m value v p range h =
    ap (nat_lt (value (reset_name v))) (count_of_reset m v p.decls (sym (net_listed m v p) ∙ h))
    ∙ all_among (λ net. nat_lt (value net) (count_of (with_reset_nets m).decls net)) (nets_named (with_reset_nets m)) (reset_name v) range
    (sym (among-nets_of (reset_name v) (with_reset_nets m)) ∙ driver_is_net (with_reset_nets m) (reset_name v) h)

begins : (m : FileModel) (value : List ℕ → ℕ) (l : FileLatch) (r : ℕ) → IsLawful m → is_net_name l.output ≡ true
    → in_values (with_reset_nets m).decls value (nets_named (with_reset_nets m)) ≡ true
    → list_all (λ t. table_holds value (reset_table t)) m.resets ≡ true → reset_is (with_reset_nets m) value l.output r ≡ true → may_begin m value l r ≡ true
begins m value l r p lawful range tables h =
    ⊎_elim
    (λ (y : has_reset_net (with_reset_nets m) l.output ≡ true).
    let e : r ≡ value (reset_name l.output) = eqb-true r _ (sym (cond-true _ _ _ y) ∙ h) in
    and_from _ _ (ap (λ n. nat_lt n (count_of m.decls l.output)) e ∙ net_range m value l.output p range y)
    (list_all-from_AllPass (lets_begin value l r) m.resets
    (λ k d lt. begins_net m value l r (get_or m.resets k d) (p.resets k d lt)
    (AllPass-from_list_all (λ (t : FileTable). table_holds value (reset_table t)) m.resets tables k d lt) e)))
    (λ (n : has_reset_net (with_reset_nets m) l.output ≡ false).
    and_from _ _ (ap (nat_lt r) (count_kept m l.output lawful) ∙ (sym (cond-false _ _ _ n) ∙ h)) (begins_free m value l r p n))
    (cases_Bool (has_reset_net (with_reset_nets m) l.output))

-- the outputs of latches
abbrev outputs_of : List FileLatch → List (List ℕ)
outputs_of ls = map (λ l. l.output) ls

begin_all : (m : FileModel) (value : List ℕ → ℕ) (ls : List FileLatch) (rs : List ℕ) → IsLawful m → list_all (λ l. is_net_name l.output) ls ≡ true
    → in_values (with_reset_nets m).decls value (nets_named (with_reset_nets m)) ≡ true
    → list_all (λ t. table_holds value (reset_table t)) m.resets ≡ true → resets_are (with_reset_nets m) value (outputs_of ls) rs ≡ true
    → may_begin_all m value ls rs ≡ true
begin_all m value [] [] p lawful range tables h = h
begin_all m value [] (r ∷ rs) p lawful range tables h = h
begin_all m value (l ∷ ls) [] p lawful range tables h = h
begin_all m value (l ∷ ls) (r ∷ rs) p lawful range tables h =
    let names = and_parts (is_net_name l.output) _ lawful in
    let q = and_parts (reset_is (with_reset_nets m) value l.output r) _ h in
    and_from _ _ (begins m value l r p names.0 range tables q.0) (begin_all m value ls rs p names.1 range tables q.1)

model_allows : (m : FileModel) → IsLawful m → IsSoundModel m → (i s o n r : List ℕ) → AllowsNets (with_reset_nets m) i s o n r → AllowsModel m i s o n r
unfolding with_reset_nets
model_allows m p sound i s o n r a =
    let all = with_reset_nets m in
    let both = and_parts _ _ (sym (all-tables (table_holds a.value) m) ∙ a.tables) in
    record {
      value = a.value;
      range = all_from_among (λ net. nat_lt (a.value net) (count_of m.decls net)) (nets_named m)
          (λ w h.
          let net = named_is_net m w h in
          ap (nat_lt (a.value w)) (count_kept m w (named_lawful w m p net))
          ∙ all_among (λ net. nat_lt (a.value net) (count_of all.decls net)) (nets_named all) w a.range
          (sym (among-nets_of w all) ∙ nets_kept w m (resets_single m p) sound.driven net));
      tables = both.1;
      inputs = a.inputs;
      states = a.states;
      outputs = a.outputs;
      next = a.next;
      resets = begin_all m a.value m.latches r p (states_lawful m p) a.range both.0 a.resets;
    }

-- ---- from the model to the nets

-- the value of the first of these latches that has this name
abbrev value_in : List (List ℕ) → List ℕ → List ℕ → ℕ
value_in [] rs v = 0
value_in (w ∷ ws) [] v = 0
value_in (w ∷ ws) (r ∷ rs) v = if same_word v w then r else value_in ws rs v

-- a valuation of lawful names, and of reset nets by their latches
abbrev valued : (List ℕ → ℕ) → (List ℕ → ℕ) → List ℕ → ℕ
valued value resets [] = value []
valued value resets (b ∷ bs) = if b == 46 then resets bs else value (b ∷ bs)

lawful_valued : (value resets : List ℕ → ℕ) (w : List ℕ) → is_net_name w ≡ true → valued value resets w ≡ value w
lawful_valued value resets [] h = refl
lawful_valued value resets (b ∷ bs) h =
    cond-false _ _ _ (false_from_ne_true (b == 46) (λ e. not_lawful bs (ap (λ x. is_net_name (x ∷ bs)) (sym (eqb-true b 46 e)) ∙ h)))

-- a latch of this name may begin with the value
record Begins (m : FileModel) (value : List ℕ → ℕ) (v : List ℕ) (r : ℕ) : Type 0 where
  latch : FileLatch
  is : latch.output ≡ v
  begins : may_begin m value latch r ≡ true

first_begins : (m : FileModel) (value : List ℕ → ℕ) (ls : List FileLatch) (rs : List ℕ) (v : List ℕ) → may_begin_all m value ls rs ≡ true
    → among v (outputs_of ls) ≡ true → Begins m value v (value_in (outputs_of ls) rs v)
first_begins m value [] rs v h listed = absurd (false≢true listed)
first_begins m value (l ∷ ls) [] v h listed = absurd (false≢true h)
first_begins m value (l ∷ ls) (r ∷ rs) v h listed =
    let q = and_parts (may_begin m value l r) _ h in
    let P : ℕ → Type 0 = Begins m value v in
    ⊎_elim (λ (y : same_word v l.output ≡ true). subst P (sym (cond-true _ _ _ y)) (record { latch = l; is = sym (same_word_is v l.output y); begins = q.0 }))
    (λ (n : same_word v l.output ≡ false).
    subst P (sym (cond-false _ _ _ n))
    (first_begins m value ls rs v q.1 (ap (λ b. b || among v (outputs_of ls)) (sym n) ∙ listed)))
    (cases_Bool (same_word v l.output))

-- the reset values are those of the reset nets, where each latch has its own name
resets_by_name : (m : FileModel) (value given : List ℕ → ℕ) (ls : List FileLatch) (rs : List ℕ) → list_all (λ l. is_net_name l.output) ls ≡ true
    → names_differ (outputs_of ls) ≡ true → may_begin_all m value ls rs ≡ true
    → ((v : List ℕ) → among v (outputs_of ls) ≡ true → given (reset_name v) ≡ value_in (outputs_of ls) rs v)
    → resets_are (with_reset_nets m) given (outputs_of ls) rs ≡ true
resets_by_name m value given [] [] lawful differ h by = h
resets_by_name m value given [] (r ∷ rs) lawful differ h by = h
resets_by_name m value given (l ∷ ls) [] lawful differ h by = h
resets_by_name m value given (l ∷ ls) (r ∷ rs) lawful differ h by =
    let names = and_parts (is_net_name l.output) _ lawful in
    let apart = and_parts (not (among l.output (outputs_of ls))) _ differ in
    let q = and_parts (may_begin m value l r) _ h in
    let here : given (reset_name l.output) ≡ r = by l.output (or_left _ _ (same_word_refl l.output)) ∙ cond-true _ _ _ (same_word_refl l.output) in
    let first : reset_is (with_reset_nets m) given l.output r ≡ true =
    cond_both (has_reset_net (with_reset_nets m) l.output) (nat_eq r (given (reset_name l.output)))
    (nat_lt r (count_of (with_reset_nets m).decls l.output)) (λ b. b ≡ true)
    (λ _. eq-eqb r _ (sym here)) (λ _. ap (nat_lt r) (sym (count_kept m l.output names.0)) ∙ (and_parts (nat_lt r (count_of m.decls l.output)) _ q.0).0) in
    let other : (v : List ℕ) → among v (outputs_of ls) ≡ true → same_word v l.output ≡ false =
    λ v listed.
    false_from_ne_true _ (λ y. false≢true (sym (not-true _ apart.0) ∙ (ap (λ u. among u (outputs_of ls)) (sym (same_word_is v l.output y)) ∙ listed))) in
    and_from _ _ first
    (resets_by_name m value given ls rs names.1 apart.1 q.1 (λ v listed. by v (or_right (same_word v l.output) _ listed) ∙ cond-false _ _ _ (other v listed)))

-- the valuation of the nets
abbrev nets_valued : FileModel → (List ℕ → ℕ) → List ℕ → List ℕ → ℕ
nets_valued m value r = valued value (value_in (latch_outputs m) r)

same_values : (m : FileModel) (value : List ℕ → ℕ) (r : List ℕ) (ws : List (List ℕ)) → list_all is_net_name ws ≡ true
    → map (nets_valued m value r) ws ≡ map value ws
same_values m value r ws h = map_alike (nets_valued m value r) value is_net_name (λ w l. lawful_valued value (value_in (latch_outputs m) r) w l) ws h

-- tables whose names are lawful hold as before
table_kept : (m : FileModel) (value : List ℕ → ℕ) (r : List ℕ) (t : FileTable) → IsFileTable m.decls t → table_holds value t ≡ true
    → table_holds (nets_valued m value r) t ≡ true
table_kept m value r t h holds =
    ap (λ vs. table_allows t.rows t.default vs (map (nets_valued m value r) t.outputs)) (same_values m value r t.inputs h.inputs)
    ∙ (ap (table_allows t.rows t.default (map value t.inputs)) (same_values m value r t.outputs h.outputs) ∙ holds)

-- the table of a reset net allows the reset value of the latch
reset_holds : (m : FileModel) (value : List ℕ → ℕ) (r : List ℕ) (t : FileTable)
    (b : Begins m value (output_of t) (value_in (latch_outputs m) r (output_of t))) → IsFileReset m.decls t
    → lets_begin value b.latch (value_in (latch_outputs m) r (output_of t)) t ≡ true → table_holds (nets_valued m value r) (reset_table t) ≡ true
reset_holds m value r t b h lets =
    let o = output_is t h.single in
    let v = output_of t in
    let is_its : is_reset_of b.latch t ≡ true = ap (λ w. among w t.outputs) b.is ∙ (ap (among v) o ∙ or_left _ _ (same_word_refl v)) in
    let allowed : table_allows t.rows t.default (map value t.inputs) (value_in (latch_outputs m) r v ∷ []) ≡ true =
    ⊎_elim (λ (y : not (is_reset_of b.latch t) ≡ true). absurd (false≢true (sym (not-true _ y) ∙ is_its))) (λ y. y)
    (or_cases (not (is_reset_of b.latch t)) _ lets) in
    ap (λ vs. table_allows t.rows t.default vs (map (nets_valued m value r) (map reset_name t.outputs))) (same_values m value r t.inputs h.table.inputs)
    ∙ (ap (λ ws. table_allows t.rows t.default (map value t.inputs) (map (nets_valued m value r) (map reset_name ws))) o ∙ allowed)

-- each latch of a reset table begins with its reset value
reset_begins : (m : FileModel) (value : List ℕ → ℕ) (r : List ℕ) (v : List ℕ) → HasResetsOfLatches m → may_begin_all m value m.latches r ≡ true
    → among v (resets_named m) ≡ true → Begins m value v (value_in (latch_outputs m) r v)
reset_begins m value r v resets h listed = first_begins m value m.latches r v h (reset_is_state v m resets listed)

resets_hold : (m : FileModel) (value : List ℕ → ℕ) (r : List ℕ) → IsLawful m → HasResetsOfLatches m → may_begin_all m value m.latches r ≡ true
    → list_all (λ t. table_holds (nets_valued m value r) (reset_table t)) m.resets ≡ true
resets_hold m value r p resets h =
    list_all-from_AllPass (λ (t : FileTable). table_holds (nets_valued m value r) (reset_table t)) m.resets
    (λ k d lt.
    let t = get_or m.resets k d in
    let b = reset_begins m value r (output_of t) resets h (output_listed m.resets k d lt) in
    reset_holds m value r t b (p.resets k d lt) (AllPass-from_list_all (lets_begin value b.latch _) m.resets (and_parts _ _ b.begins).1 k d lt))

tables_hold : (m : FileModel) (value : List ℕ → ℕ) (r : List ℕ) → IsLawful m → list_all (table_holds value) m.tables ≡ true
    → list_all (table_holds (nets_valued m value r)) m.tables ≡ true
tables_hold m value r p h =
    list_all-from_AllPass (table_holds (nets_valued m value r)) m.tables
    (λ k d lt. table_kept m value r (get_or m.tables k d) (p.tables k d lt) (AllPass-from_list_all (table_holds value) m.tables h k d lt))

-- each net has one of its values
net_value : (m : FileModel) (value : List ℕ → ℕ) (r : List ℕ) (w : List ℕ) → IsLawful m → HasResetsOfLatches m
    → in_values m.decls value (nets_named m) ≡ true → may_begin_all m value m.latches r ≡ true
    → among w (nets_named (with_reset_nets m)) ≡ true → nat_lt (nets_valued m value r w) (count_of (with_reset_nets m).decls w) ≡ true
net_value m value r w p resets range h listed =
    let within : List ℕ → Bool = λ u. nat_lt (nets_valued m value r u) (count_of (with_reset_nets m).decls u) in
    ⊎_elim
    (λ y.
    let lawful = named_lawful w m p y in
    ap (λ c. nat_lt (nets_valued m value r w) c) (sym (count_kept m w lawful))
    ∙ (ap (λ c. nat_lt c (count_of m.decls w)) (lawful_valued value (value_in (latch_outputs m) r) w lawful)
    ∙ all_among (λ net. nat_lt (value net) (count_of m.decls net)) (nets_named m) w range (sym (among-nets_of w m) ∙ y)))
    (λ y.
    let n = named w (resets_named m) y in
    let v = n.latch in
    let b = reset_begins m value r v resets h n.listed in
    let few : nat_lt (value_in (latch_outputs m) r v) (count_of m.decls v) ≡ true =
    ap (λ u. nat_lt (value_in (latch_outputs m) r v) (count_of m.decls u)) (sym b.is) ∙ (and_parts _ _ b.begins).0 in
    ap within n.is ∙ (ap (nat_lt (value_in (latch_outputs m) r v)) (sym (count_of_reset m v p.decls n.listed)) ∙ few))
    (nets_either w m (resets_single m p) (named_is_net (with_reset_nets m) w listed))

nets_allow : (m : FileModel) → IsLawful m → IsSoundModel m → (i s o n r : List ℕ) → AllowsModel m i s o n r → AllowsNets (with_reset_nets m) i s o n r
unfolding with_reset_nets
nets_allow m p sound i s o n r a =
    let all = with_reset_nets m in
    let value = nets_valued m a.value r in
    record {
      value = value;
      range = all_from_among (λ net. nat_lt (value net) (count_of all.decls net)) (nets_named all)
          (λ w h. net_value m a.value r w p sound.resets a.range a.resets h);
      tables = all-tables (table_holds value) m ∙ and_from _ _ (resets_hold m a.value r p sound.resets a.resets) (tables_hold m a.value r p a.tables);
      inputs = same_values m a.value r m.inputs p.inputs ∙ a.inputs;
      states = same_values m a.value r (latch_outputs m) (list_all-map is_net_name (λ (l : FileLatch). l.output) m.latches ∙ states_lawful m p) ∙ a.states;
      outputs = same_values m a.value r m.outputs p.outputs ∙ a.outputs;
      next = same_values m a.value r (latch_inputs m) (list_all-map is_net_name (λ (l : FileLatch). l.input) m.latches ∙ nexts_lawful m p) ∙ a.next;
      resets = resets_by_name m a.value value m.latches r (states_lawful m p) (latches_differ m sound.driven) a.resets (λ v listed. refl);
    }

pub same_meaning : (m : FileModel) → IsLawful m → IsSoundModel m → SameMeaning (of_nets (with_reset_nets m)) (of_model m)
unfolding of_nets of_model
same_meaning m p s = record {
  same = same_interface m p;
  only = λ i t o n r a. model_allows m p s i t o n r a;
  all = λ i t o n r a. nets_allow m p s i t o n r a;
}
