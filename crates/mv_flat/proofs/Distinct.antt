-- Each name is that of one net: the numbers of a model whose nets are driven once.
use Rattle.std.proofs.Common.{◌≡◌, ℕ, ◌+◌, ◌*◌, ◌<◌, ◌≤◌, Bool, true, false, cond, List, [], ◌∷◌, ◌++◌, length, refl, sym, ◌∙◌, ap, subst, arith, ⊎_elim, All}
use Rattle.std.specs.Prelude.{nat_eq, nat_lt, count_by, slice_index_or, if◌then◌else◌}
use Rattle.std.specs.List.{list_all, flat_map}
use Rattle.std.proofs.lemmas.Bool.{false≢true, and_parts, and_left, or_left, cases_Bool, cond-false, eqb-true}
use Rattle.std.proofs.lemmas.Bool.Decides.{nat_tests}
use Rattle.std.proofs.lemmas.List.{append_assoc, length-append}
use Rattle.std.proofs.lemmas.List.Elements.{All-head, All-tail}
use Rattle.std.proofs.lemmas.List.Folds.{list_all-append}
use Rattle.mv_base.specs.Names.{same_word, among, names_differ}
use Rattle.mv_base.proofs.NameLemmas.{same_word_is}
use Rattle.mv_design.specs.declared.design.Decl.{Decl}
use Rattle.mv_design.specs.declared.table.FileTable.{FileTable}
use Rattle.mv_design.specs.declared.design.FileModel.{FileModel}
use Rattle.mv_design.specs.Nets.{nets_driven, drivers, latch_outputs, output_of}
use Rattle.mv_resets.specs.NetModels.{IsNetModel, IsNetTable, is_flat_name}
use Rattle.mv_acyclic.specs.Sound.{IsDrivenOnce}
use Rattle.mv_acyclic.proofs.Names.{among_counted, all_from_among, count_of_cons, count_of_append}
use Rattle.mv_acyclic.proofs.Distinct.{differ_counted, drivers_counted}
use Rattle.mv_flat.specs.Numbers.{mark_name, choice_name}
use Rattle.mv_flat.specs.Places.{has_mark, is_joint, marks_of, choices_of, made_places, table_places, net_places}
use Rattle.mv_flat.proofs.Lawful.{is_spaced, flat_unspaced, open_names, open_lawful, drivers_split, driver_flat}

abbrev times : List ℕ → List (List ℕ) → ℕ
times w ws = count_by (same_word w) ws

-- ---- made nets beside nets

unlike_mark : (w o : List ℕ) → is_spaced w ≡ false → same_word w (mark_name o) ≡ false
unlike_mark [] o h = refl
unlike_mark (b ∷ bs) o h = and_left _ _ h

unlike_net : (u o : List ℕ) → is_spaced o ≡ false → same_word (mark_name u) o ≡ false
unlike_net u o h =
    ⊎_elim (λ (y : same_word (mark_name u) o ≡ true). absurd (false≢true (sym h ∙ ap is_spaced (sym (same_word_is (mark_name u) o y)))))
    (λ (n : same_word (mark_name u) o ≡ false). n) (cases_Bool (same_word (mark_name u) o))

flat_counted : (u : List ℕ) (os : List (List ℕ)) → list_all is_flat_name os ≡ true → times (mark_name u) os ≡ 0
flat_counted u [] h = refl
flat_counted u (o ∷ os) h =
    let p = and_parts (is_flat_name o) (list_all is_flat_name os) h in
    count_of_cons (mark_name u) o os
    ∙ (ap (λ b. cond b 1 0 + times (mark_name u) os) (unlike_net u o (flat_unspaced o p.0)) ∙ (let e = flat_counted u os p.1 in omega arith))

-- how often a name stands among the nets of a table
table_times : (ds : List Decl) (w : List ℕ) (t : FileTable) → times w (table_places ds t) ≡ times w (marks_of ds t) + times w (choices_of t) + times w t.outputs
table_times ds w t =
    let a = count_of_append w (made_places ds t) t.outputs in
    let b = count_of_append w (marks_of ds t) (choices_of t) in
    omega arith

made_times : (w u : List ℕ) (b : Bool) → times w (if b then u ∷ [] else []) ≤ cond (same_word w u) 1 0
made_times w u true = let e = count_of_cons w u [] in omega arith
made_times w u false = omega arith

-- where the name that is made isn't it, it doesn't stand there
none_made : (w u : List ℕ) (b : Bool) → same_word w u ≡ false → times w (if b then u ∷ [] else []) ≡ 0
none_made w u b other =
    let most = made_times w u b in
    let none = cond-false {A = ℕ} (same_word w u) 1 0 other in
    omega (arith, most, none)

first_times : (u : List ℕ) (os : List (List ℕ)) → 0 < length os → cond (same_word u (slice_index_or os 0 [])) 1 0 ≤ times u os
first_times u [] some = absurd (omega arith)
first_times u (o ∷ os) some = let c = count_of_cons u o os in omega arith

pub first_unspaced : (os : List (List ℕ)) → list_all is_flat_name os ≡ true → is_spaced (slice_index_or os 0 []) ≡ false
first_unspaced [] h = refl
first_unspaced (o ∷ os) h = flat_unspaced o (and_parts (is_flat_name o) (list_all is_flat_name os) h).0

-- a net stands there as often as among the outputs
table_nets : (ds : List Decl) (w : List ℕ) (t : FileTable) → is_spaced w ≡ false → times w (table_places ds t) ≡ times w t.outputs
table_nets ds w t h =
    let a = table_times ds w t in
    let m : times w (marks_of ds t) ≡ 0 = none_made w (mark_name (output_of t)) (has_mark ds t) (unlike_mark w (output_of t) h) in
    let c : times w (choices_of t) ≡ 0 = none_made w (choice_name (output_of t)) (is_joint t) (unlike_mark w (mark_name (output_of t)) h) in
    omega (arith, a, m, c)

-- a table whose outputs have names of nets
record HasFlatOutputs (t : FileTable) : Type 0 where
  some : 0 < length t.outputs
  flat : list_all is_flat_name t.outputs ≡ true

-- the mark of a net stands there as often as the net among the outputs, at most
table_marks : (ds : List Decl) (u : List ℕ) → is_spaced u ≡ false → (t : FileTable) → HasFlatOutputs t
    → times (mark_name u) (table_places ds t) ≤ times u t.outputs
table_marks ds u h t is =
    let a = table_times ds (mark_name u) t in
    let m : times (mark_name u) (marks_of ds t) ≤ cond (same_word u (output_of t)) 1 0 = made_times (mark_name u) (mark_name (output_of t)) (has_mark ds t) in
    let c : times (mark_name u) (choices_of t) ≡ 0 = none_made (mark_name u) (choice_name (output_of t)) (is_joint t) (unlike_mark u (output_of t) h) in
    let z = flat_counted u t.outputs is.flat in
    let f = first_times u t.outputs is.some in
    omega (arith, a, m, c, z, f)

-- and so does its choice net
table_choices : (ds : List Decl) (u : List ℕ) (t : FileTable) → HasFlatOutputs t → times (choice_name u) (table_places ds t) ≤ times u t.outputs
table_choices ds u t is =
    let a = table_times ds (choice_name u) t in
    let m : times (choice_name u) (marks_of ds t) ≡ 0 =
    none_made (choice_name u) (mark_name (output_of t)) (has_mark ds t) (unlike_net u (output_of t) (first_unspaced t.outputs is.flat)) in
    let c : times (choice_name u) (choices_of t) ≤ cond (same_word u (output_of t)) 1 0 = made_times (choice_name u) (choice_name (output_of t)) (is_joint t) in
    let z = flat_counted (mark_name u) t.outputs is.flat in
    let f = first_times u t.outputs is.some in
    omega (arith, a, m, c, z, f)

tables_times : (ds : List Decl) (w u : List ℕ)
    → ((t : FileTable) → HasFlatOutputs t → times w (table_places ds t) ≤ times u t.outputs) → (ts : List FileTable) → All (IsNetTable ds) ts
    → list_all is_flat_name (flat_map nets_driven ts) ≡ true → times w (flat_map (table_places ds) ts) ≤ times u (flat_map nets_driven ts)
tables_times ds w u each [] h flat = omega arith
tables_times ds w u each (t ∷ ts) h flat =
    let q = and_parts _ _ (sym (list_all-append is_flat_name t.outputs (flat_map nets_driven ts)) ∙ flat) in
    let a = count_of_append w (table_places ds t) (flat_map (table_places ds) ts) in
    let b = count_of_append u t.outputs (flat_map nets_driven ts) in
    let e = each t (record { some = (All-head (IsNetTable ds) t ts h).some; flat = q.0 }) in
    let r = tables_times ds w u each ts (All-tail (IsNetTable ds) t ts h) q.1 in
    omega arith

tables_nets : (ds : List Decl) (w : List ℕ) (ts : List FileTable) → is_spaced w ≡ false → times w (flat_map (table_places ds) ts) ≡ times w (flat_map nets_driven ts)
tables_nets ds w [] h = refl
tables_nets ds w (t ∷ ts) h =
    count_of_append w (table_places ds t) (flat_map (table_places ds) ts)
    ∙ (ap (λ n. n + times w (flat_map (table_places ds) ts)) (table_nets ds w t h)
    ∙ (ap (λ n. times w t.outputs + n) (tables_nets ds w ts h) ∙ sym (count_of_append w t.outputs (flat_map nets_driven ts))))

pub places_split : (m : FileModel) → net_places m ≡ open_names m ++ flat_map (table_places m.decls) m.tables
unfolding net_places
places_split m = sym (append_assoc m.inputs (latch_outputs m) (flat_map (table_places m.decls) m.tables))

-- a made net's name stands among the places as often as the net's among the drivers, at most
places_made : (m : FileModel) (v u : List ℕ) → IsNetModel m
    → ((t : FileTable) → HasFlatOutputs t → times (mark_name v) (table_places m.decls t) ≤ times u t.outputs)
    → times (mark_name v) (net_places m) ≤ times u (drivers m)
places_made m v u p each =
    let a = ap (times (mark_name v)) (places_split m) ∙ count_of_append (mark_name v) (open_names m) (flat_map (table_places m.decls) m.tables) in
    let b = ap (times u) (drivers_split m) ∙ count_of_append u (open_names m) (flat_map nets_driven m.tables) in
    let z = flat_counted v (open_names m) (all_from_among is_flat_name (open_names m) (λ w h. or_left _ _ (open_lawful m p w h))) in
    let r = tables_times m.decls (mark_name v) u each m.tables p.tables p.driven in
    omega arith

places_nets : (m : FileModel) (w : List ℕ) → is_spaced w ≡ false → times w (net_places m) ≡ times w (drivers m)
places_nets m w h =
    ap (times w) (places_split m)
    ∙ (count_of_append w (open_names m) (flat_map (table_places m.decls) m.tables)
    ∙ (ap (λ n. times w (open_names m) + n) (tables_nets m.decls w m.tables h)
    ∙ sym (ap (times w) (drivers_split m) ∙ count_of_append w (open_names m) (flat_map nets_driven m.tables))))

spaced : (b : ℕ) (bs : List ℕ) → nat_eq b 32 ≡ true → b ∷ bs ≡ mark_name bs
spaced b bs h = ap (λ c. c ∷ bs) (eqb-true b 32 h)

marks_counted : (m : FileModel) → IsNetModel m → IsDrivenOnce m → (u : List ℕ) → is_spaced u ≡ false → times (mark_name u) (net_places m) ≤ 1
marks_counted m p d u h =
    let r = places_made m u u p (table_marks m.decls u h) in
    let l = drivers_counted m d u in
    omega arith

made_counted : (m : FileModel) → IsNetModel m → IsDrivenOnce m → (u : List ℕ) → times (mark_name u) (net_places m) ≤ 1
made_counted m p d [] = marks_counted m p d [] refl
made_counted m p d (b ∷ bs) =
    ⊎_elim
    (λ (y : nat_eq b 32 ≡ true).
    let P : List ℕ → Type 0 = λ w. times (mark_name w) (net_places m) ≤ 1 in
    let r = places_made m (mark_name bs) bs p (table_choices m.decls bs) in
    let l = drivers_counted m d bs in
    subst P (sym (spaced b bs y)) (omega arith))
    (λ (n : nat_eq b 32 ≡ false). marks_counted m p d (b ∷ bs) n) (cases_Bool (nat_eq b 32))

places_counted : (m : FileModel) → IsNetModel m → IsDrivenOnce m → (w : List ℕ) → times w (net_places m) ≤ 1
places_counted m p d [] = let e = places_nets m [] refl in let l = drivers_counted m d [] in omega arith
places_counted m p d (b ∷ bs) =
    ⊎_elim (λ (y : nat_eq b 32 ≡ true). let P : List ℕ → Type 0 = λ w. times w (net_places m) ≤ 1 in subst P (sym (spaced b bs y)) (made_counted m p d bs))
    (λ (n : nat_eq b 32 ≡ false). let e = places_nets m (b ∷ bs) n in let l = drivers_counted m d (b ∷ bs) in let g : times (b ∷ bs) (net_places m) ≤ 1 = omega arith in g)
    (cases_Bool (nat_eq b 32))

-- the places of a model differ
pub places_differ : (m : FileModel) → IsNetModel m → IsDrivenOnce m → names_differ (net_places m) ≡ true
places_differ m p d = differ_counted (net_places m) (places_counted m p d)

-- ---- which names are places

-- a name that begins as no made net's does is a place where it is driven
pub places_driven : (m : FileModel) (w : List ℕ) → is_spaced w ≡ false → among w (net_places m) ≡ among w (drivers m)
places_driven m w h = among_counted w (net_places m) ∙ (ap (nat_lt 0) (places_nets m w h) ∙ sym (among_counted w (drivers m)))

pub driver_is_place : (m : FileModel) → IsNetModel m → (w : List ℕ) → among w (drivers m) ≡ true → among w (net_places m) ≡ true
driver_is_place m p w h = places_driven m w (flat_unspaced w (driver_flat m p w h)) ∙ h

-- ---- how many places there are

made_length : (u : List ℕ) (b : Bool) → length (if b then u ∷ [] else []) ≡ cond b 1 0
made_length u true = refl
made_length u false = refl

table_length : (ds : List Decl) (t : FileTable) → 0 < length t.outputs → length (table_places ds t) ≤ 2 * length t.outputs
table_length ds t some =
    let a = length-append (made_places ds t) t.outputs in
    let b = length-append (marks_of ds t) (choices_of t) in
    let m = made_length (mark_name (output_of t)) (has_mark ds t) in
    let most = at_most_one (has_mark ds t) in
    let c = made_length (choice_name (output_of t)) (is_joint t) in
    let few = below (length t.outputs) some in
    omega (arith, a, b, m, most, c, few)
  where
    at_most_one : (b : Bool) → cond b 1 0 ≤ 1
    at_most_one true = omega arith
    at_most_one false = omega arith

    below : (n : ℕ) → 0 < n → cond (nat_lt 1 n) 1 0 < n
    below n some = grind (arith, nat_tests)

tables_length : (ds : List Decl) (ts : List FileTable) → All (IsNetTable ds) ts → length (flat_map (table_places ds) ts) ≤ 2 * length (flat_map nets_driven ts)
tables_length ds [] h = omega arith
tables_length ds (t ∷ ts) h =
    let a = length-append (table_places ds t) (flat_map (table_places ds) ts) in
    let b = length-append t.outputs (flat_map nets_driven ts) in
    let e = table_length ds t (All-head (IsNetTable ds) t ts h).some in
    let r = tables_length ds ts (All-tail (IsNetTable ds) t ts h) in
    omega arith

-- there are at most two places for each driven net
pub few_places : (m : FileModel) → IsNetModel m → length (net_places m) ≤ 2 * length (drivers m)
few_places m p =
    let a = ap length (places_split m) ∙ length-append (open_names m) (flat_map (table_places m.decls) m.tables) in
    let b = ap length (drivers_split m) ∙ length-append (open_names m) (flat_map nets_driven m.tables) in
    let r = tables_length m.decls m.tables p.tables in
    omega arith
