-- The labels of entries given to their nets anew, first to those above and then to those below: how they move then.
use Rattle.std.proofs.Common.{◌≡◌, ℕ, zero, suc, ◌+◌, ◌-◌, ◌<◌, ◌≤◌, Bool, true, false, not, List, [], ◌∷◌, ◌++◌, length, get_or, refl, sym, ap, ◌∙◌, ⊎_elim, arith, All, Contains}
use Rattle.std.specs.Prelude.{filter}
use Rattle.std.proofs.lemmas.Bool.{cases_Bool, cases_lt, or_cases, or_left, or_right, false≢true, cond_both, not-true}
use Rattle.std.proofs.lemmas.List.{length-append, get_or_append_left, get_or-append_right, get_or-append-add, get_or_default}
use Rattle.std.proofs.lemmas.List.Elements.{All-append, All-filter, All-weaker, All-contains_itself, filter_passes}
use Rattle.std.proofs.lemmas.List.Filters.{length-filter_both}
use Rattle.std.proofs.lemmas.List.Kept.{IsStrictlySortedBy-filter}
use Rattle.mv_base.specs.declared.number.NetId.{NetId}
use Rattle.mv_graph.specs.Nets.{has_id}
use Rattle.mv_dag.specs.declared.moves.Entry.{Entry}
use Rattle.mv_dag.specs.Ordered.{at}
use Rattle.mv_dag.specs.Moves.{IsEntry, WasAt, written, turned_by, is_among, is_other, entry_cmp, entry_of, in_either, AreEntries}
use Rattle.mv_dag.proofs.Places.{Rises, StandsIn, lower_first, same_place, no_lower, no_higher}
use Rattle.mv_dag.proofs.Written.{no_entry, net_at, label_at, IsNotOf, IsSmall, AreApart, all_not, length-written, at-written_other, at-written}
use Rattle.mv_dag.proofs.Sorted.{IsOneOf, AreDistinct, labels_rise}
use Rattle.mv_dag.proofs.Moved.{AreMoved, WasOf}

-- ---- lists

-- what passes a filter stays in the list
contains_filter : {X : Type 0} (p : X → Bool) (xs : List X) (x : X) (k : ℕ) → p x ≡ true → k < length xs → get_or xs k x ≡ x → Contains (filter p xs) x
contains_filter p [] x k passes l e = absurd (omega arith)
contains_filter p (y ∷ xs) x zero passes l e = let first : p y ≡ true = ap p e ∙ passes in rw first (0, omega arith, e)
contains_filter p (y ∷ xs) x (suc k) passes l e =
    let c = contains_filter p xs x k passes (omega arith) e in
    cond_both (p y) (y ∷ filter p xs) (filter p xs) (λ ys. Contains ys x) (λ _. (suc c.0, (let i = c.1 in omega arith), c.2)) (λ _. c)

-- entries of two lists of different nets
apart-append : (xs ys : List Entry) → AreApart xs → AreApart ys → ((i j : ℕ) → i < length xs → j < length ys → net_at xs i ≡ net_at ys j → ⊥) → AreApart (xs ++ ys)
apart-append xs ys ax ay cross i j h l e =
    let n = length-append xs ys in
    ⊎_elim
    (λ (low : j < length xs).
    ax i j h low (sym (left i (omega arith)) ∙ (e ∙ left j low)))
    (λ (high : length xs ≤ j).
    ⊎_elim
    (λ (low : i < length xs). cross i (j - length xs) low (omega arith) (sym (left i low) ∙ (e ∙ right j high)))
    (λ (up : length xs ≤ i). ay (i - length xs) (j - length xs) (omega arith) (omega arith) (sym (right i up) ∙ (e ∙ right j high)))
    (cases_lt i (length xs)))
    (cases_lt j (length xs))
  where
    left : (k : ℕ) → k < length xs → net_at (xs ++ ys) k ≡ net_at xs k
    left k l = ap (λ (x : Entry). x.net.0) (get_or_append_left xs ys no_entry k l)

    right : (k : ℕ) → length xs ≤ k → net_at (xs ++ ys) k ≡ net_at ys (k - length xs)
    right k l = ap (λ (x : Entry). x.net.0) (get_or-append_right xs ys (length xs) k no_entry refl l)

-- ---- the entries turned

pub length-turned_by : (nets : List NetId) (entries : List Entry) → length (turned_by nets entries) ≡ length entries
length-turned_by nets entries =
    length-append (filter (is_among nets) entries) (filter (is_other nets) entries)
    ∙ length-filter_both (is_among nets) (is_other nets) (λ x. refl) entries

pub All-turned_by : (P : Entry → Type 0) (nets : List NetId) (entries : List Entry) → All P entries → All P (turned_by nets entries)
All-turned_by P nets entries each =
    All-append P (filter (is_among nets) entries) (filter (is_other nets) entries) (All-filter (is_among nets) P entries each) (All-filter (is_other nets) P entries each)

-- entries of small nets
pub entries_small : (labels : List ℕ) (above below : List NetId) (entries : List Entry) → ((x : ℕ) → in_either above below x ≡ true → x < length labels) → AreEntries labels above below entries → All (IsSmall labels) entries
entries_small labels above below entries small a =
    All-weaker (IsOneOf labels above below) (IsSmall labels) (λ e h. small e.net.0 h.0) entries a.each

module _ (labels : List ℕ) (above below : List NetId) (entries : List Entry)
    (distinct : AreDistinct labels above below) (small : (x : ℕ) → in_either above below x ≡ true → x < length labels)
    (none : (x : ℕ) → has_id above x ≡ true → has_id below x ≡ true → ⊥) (a : AreEntries labels above below entries) where
  abbrev ups : List Entry
  ups = filter (is_among above) entries

  abbrev others : List Entry
  others = filter (is_other above) entries

  each_up : All (IsOneOf labels above below) ups
  each_up = All-filter (is_among above) (IsOneOf labels above below) entries a.each

  each_other : All (IsOneOf labels above below) others
  each_other = All-filter (is_other above) (IsOneOf labels above below) entries a.each

  rises : Rises (label_at entries) (length entries)
  rises = labels_rise labels above below entries distinct a.sorted a.each

  rises_up : Rises (label_at ups) (length ups)
  rises_up = labels_rise labels above below ups distinct (IsStrictlySortedBy-filter entry_cmp (is_among above) entries a.sorted) each_up

  rises_other : Rises (label_at others) (length others)
  rises_other = labels_rise labels above below others distinct (IsStrictlySortedBy-filter entry_cmp (is_other above) entries a.sorted) each_other

  fits : length ups + length others ≡ length entries
  fits = length-filter_both (is_among above) (is_other above) (λ x. refl) entries

  -- each net of both lists stands in the turned list once

  apart_of : (es : List Entry) → Rises (label_at es) (length es) → All (IsOneOf labels above below) es → AreApart es
  apart_of es rise each i j h l e =
      let r = rise i j h l in
      let p = (each i no_entry (omega arith)).1 in
      let q = (each j no_entry l).1 in
      let s = ap (at labels) e in
      absurd (omega arith)

  cross : (i j : ℕ) → i < length ups → j < length others → net_at ups i ≡ net_at others j → ⊥
  cross i j h l e =
      let passes : has_id above (net_at ups i) ≡ true = filter_passes (is_among above) entries i no_entry h in
      let out : has_id above (net_at others j) ≡ false = not-true _ (filter_passes (is_other above) entries j no_entry l) in
      false≢true (sym out ∙ (ap (has_id above) (sym e) ∙ passes))

  turned_apart : AreApart (turned_by above entries)
  turned_apart = apart-append ups others (apart_of ups rises_up each_up) (apart_of others rises_other each_other) cross

  abbrev after : List ℕ
  after = written labels (turned_by above entries) entries

  after_at : (k : ℕ) → k < length entries → at after (net_at (turned_by above entries) k) ≡ label_at entries k
  after_at k l =
      let e = length-turned_by above entries in
      at-written labels (turned_by above entries) entries k (omega arith)
      (All-turned_by (IsSmall labels) above entries (entries_small labels above below entries small a)) turned_apart (omega arith)

  -- where a net stands in its part of the turned list and in the whole of it
  record Slot (x : ℕ) (part : List Entry) (front : ℕ) : Type 0 where
    place : ℕ
    within : place < length part
    had : label_at part place ≡ at labels x
    slot : ℕ
    is : slot ≡ front + place
    inside : slot < length entries
    net : net_at (turned_by above entries) slot ≡ x
    now : at after x ≡ label_at entries slot

  slot_up : (x : ℕ) → has_id above x ≡ true → Slot x ups 0
  slot_up x h =
      let n : NetId = record { 0 = x } in
      let e : Entry = entry_of labels n in
      let all = a.all n (or_left _ _ h) in
      let c = contains_filter (is_among above) entries e all.0 h all.1 all.2 in
      let here : get_or ups c.0 no_entry ≡ e = get_or_default ups c.0 no_entry e c.1 ∙ c.2 in
      let net : net_at (turned_by above entries) c.0 ≡ x = ap (λ (f : Entry). f.net.0) (get_or_append_left ups others no_entry c.0 c.1 ∙ here) in
      let inside : c.0 < length entries = (let f = fits in let l = c.1 in omega arith) in
      record { place = c.0; within = c.1; had = ap (λ (f : Entry). f.label) here; slot = c.0; is = omega arith; inside = inside; net = net; now = ap (at after) (sym net) ∙ after_at c.0 inside }

  slot_other : (x : ℕ) → has_id below x ≡ true → Slot x others (length ups)
  slot_other x h =
      let n : NetId = record { 0 = x } in
      let e : Entry = entry_of labels n in
      let not_above : is_other above e ≡ true = ⊎_elim (λ (y : has_id above x ≡ true). absurd (none x y h)) (λ (f : has_id above x ≡ false). ap not f) (cases_Bool (has_id above x)) in
      let all = a.all n (or_right _ _ h) in
      let c = contains_filter (is_other above) entries e all.0 not_above all.1 all.2 in
      let here : get_or others c.0 no_entry ≡ e = get_or_default others c.0 no_entry e c.1 ∙ c.2 in
      let net : net_at (turned_by above entries) (length ups + c.0) ≡ x = ap (λ (f : Entry). f.net.0) (get_or-append-add ups others c.0 no_entry ∙ here) in
      let inside : length ups + c.0 < length entries = (let f = fits in let l = c.1 in omega arith) in
      record { place = c.0; within = c.1; had = ap (λ (f : Entry). f.label) here; slot = length ups + c.0; is = refl; inside = inside; net = net; now = ap (at after) (sym net) ∙ after_at (length ups + c.0) inside }

  -- a slot of the turned list
  record Stands (x : ℕ) : Type 0 where
    slot : ℕ
    inside : slot < length entries
    net : net_at (turned_by above entries) slot ≡ x
    now : at after x ≡ label_at entries slot

  stands : (x : ℕ) → in_either above below x ≡ true → Stands x
  stands x h =
      ⊎_elim
      (λ (y : has_id above x ≡ true). let s = slot_up x y in record { slot = s.slot; inside = s.inside; net = s.net; now = s.now })
      (λ (y : has_id below x ≡ true). let s = slot_other x y in record { slot = s.slot; inside = s.inside; net = s.net; now = s.now })
      (or_cases (has_id above x) (has_id below x) h)

  -- the same place, counted among all entries, is no lower for those above

  in_entries : (p : Entry → Bool) (k : ℕ) → k < length (filter p entries) → StandsIn (label_at entries) (length entries) (label_at (filter p entries) k)
  in_entries p k l =
      let c = All-filter p (Contains entries) entries (All-contains_itself entries) k no_entry l in
      record { place = c.0; within = c.1; is = ap (λ (e : Entry). e.label) (get_or_default entries c.0 no_entry (get_or (filter p entries) k no_entry) c.1 ∙ c.2) }

  goes_down : (x : ℕ) → has_id above x ≡ true → at after x ≤ at labels x
  goes_down x h =
      let s = slot_up x h in
      let l = no_lower (label_at ups) (label_at entries) (length ups) (length entries) rises_up rises (in_entries (is_among above)) s.place s.within in
      let same : s.slot ≡ s.place = (let i = s.is in omega arith) in
      let e = ap (label_at entries) same in
      let b = s.had in
      let n = s.now in
      omega arith

  goes_up : (x : ℕ) → has_id below x ≡ true → at labels x ≤ at after x
  goes_up x h =
      let s = slot_other x h in
      let l = no_higher (label_at others) (label_at entries) (length others) (length entries) rises_other rises (in_entries (is_other above)) s.place (length ups) s.within fits in
      let e = ap (label_at entries) s.is in
      let b = s.had in
      let n = s.now in
      omega arith

  keeps_order : (part : List Entry) (front x y : ℕ) → Rises (label_at part) (length part) → Slot x part front → Slot y part front → at labels x < at labels y → at after x < at after y
  keeps_order part front x y rise s t lt =
      let b = s.had in
      let c = t.had in
      let l = lower_first (label_at part) (length part) rise s.place t.place s.within (omega arith) in
      let i = s.is in
      let j = t.is in
      let r = rises s.slot t.slot (omega arith) t.inside in
      let m = s.now in
      let n = t.now in
      omega arith

  parts_apart : (x y : ℕ) → has_id above x ≡ true → has_id below y ≡ true → at after x < at after y
  parts_apart x y h k =
      let s = slot_up x h in
      let t = slot_other y k in
      let i = s.is in
      let j = t.is in
      let w = s.within in
      let r = rises s.slot t.slot (omega arith) t.inside in
      let m = s.now in
      let n = t.now in
      omega arith

  not_turned : (x : ℕ) → in_either above below x ≡ false → All (IsNotOf x) (turned_by above entries)
  not_turned x out =
      All-turned_by (IsNotOf x) above entries
      (All-weaker (IsOneOf labels above below) (IsNotOf x) (λ e h y. false≢true (sym out ∙ (ap (in_either above below) (sym y) ∙ h.0))) entries a.each)

  was_of : (x : ℕ) → in_either above below x ≡ true → WasOf labels above below (at after x)
  was_of x h =
      let s = stands x h in
      let e = a.each s.slot no_entry s.inside in
      record { net = net_at entries s.slot; moved = e.0; had = s.now ∙ e.1 }

  one_each : (x y : ℕ) → in_either above below x ≡ true → in_either above below y ≡ true → at after x ≡ at after y → x ≡ y
  one_each x y h k e =
      let s = stands x h in
      let t = stands y k in
      let same : s.slot ≡ t.slot = same_place (label_at entries) (length entries) rises s.slot t.slot s.inside t.inside (sym s.now ∙ (e ∙ t.now)) in
      sym s.net ∙ (ap (net_at (turned_by above entries)) same ∙ t.net)

  pub are_moved : AreMoved labels after above below
  are_moved = record {
    long = length-written labels (turned_by above entries) entries;
    stays = λ x out. at-written_other labels (turned_by above entries) entries x (not_turned x out);
    above_order = λ x y h k. keeps_order ups 0 x y rises_up (slot_up x h) (slot_up y k);
    below_order = λ x y h k. keeps_order others (length ups) x y rises_other (slot_other x h) (slot_other y k);
    apart = parts_apart;
    down = goes_down;
    up = goes_up;
    was = was_of;
    one = one_each;
  }

  -- and the entries tell how to put the labels back
  pub were_at : WasAt labels after entries
  were_at = record {
    long = length-written labels (turned_by above entries) entries;
    had = All-weaker (IsOneOf labels above below) (IsEntry labels) (λ e h. (small e.net.0 h.0, h.1)) entries a.each;
    others = λ x f. at-written_other labels (turned_by above entries) entries x (All-turned_by (IsNotOf x) above entries (all_not entries x f));
  }
