-- Nets that are found by steps: one net more, the steps from each net found, and where no step finds more.
use Rattle.std.proofs.Common.{◌≡◌, ◌⊎◌, ◌∙◌, ℕ, zero, suc, ◌+◌, ◌<◌, ◌≤◌, Bool, true, false, ◌||◌, if◌then◌else◌, List, [], ◌∷◌, ◌++◌, length, Option, Some, None, is_some, refl, sym, ap, subst, ⊎_elim, inl, inr, eq-eqb, eqb-true, arith, append_assoc}
use Rattle.std.specs.Prelude.{nat_eq, slice_get}
use Rattle.std.specs.List.{list_any}
use Rattle.std.proofs.lemmas.Bool.{false≢true, cases_lt, or_cases, or_left, or_right}
use Rattle.std.proofs.lemmas.Bool.Decides.{same_from_decides, Decides-like, Decides-eqb}
use Rattle.std.proofs.lemmas.List.{append-nil, length-append}
use Rattle.std.proofs.lemmas.Option.{same_Some, slice_get_within}
use Rattle.std.proofs.lemmas.Map.Keys.{any_passes_from_place}
use Rattle.indexmap.specs.IndexSet.{insert_key, insert_all}
use Rattle.mv_base.proofs.Lists.{found, get_front}
use Rattle.mv_base.specs.declared.number.NetId.{NetId}
use Rattle.mv_graph.specs.Nets.{has_id, IsAscending}
use Rattle.mv_graph.proofs.Nets.{has_id-append}
use Rattle.mv_net.specs.declared.parts.FlatNet.{FlatNet}
use Rattle.mv_net.specs.declared.parts.NetParts.{NetParts}
use Rattle.mv_net.specs.declared.search.Way.{Way}
use Rattle.mv_net.specs.declared.search.Way.TheVariants.{Down, Up}
use Rattle.mv_net.specs.Nets.{slot, net_reads}
use Rattle.mv_net.specs.Formed.{WellFormed}
use Rattle.mv_net.specs.Index.{is_held}
use Rattle.mv_net.specs.Searching.{same_id, leads, Reached, AreHeld, HasAdded, IsLed, HasSpread, IsSearch, HasAll}
use Rattle.mv_net.proofs.Known.{reads_readable}

-- ---- a number in a list

eqb_sym : (a b : ℕ) → nat_eq a b ≡ nat_eq b a
eqb_sym a b = same_from_decides _ _ (Decides-eqb a b) (Decides-like _ sym sym (Decides-eqb b a))

-- a set finds a number where the list has it
pub set-has_id : (n : NetId) (ns : List NetId) → list_any (same_id n) ns ≡ has_id ns n.0
set-has_id n [] = refl
set-has_id n (m ∷ ns) = λ i. eqb_sym n.0 m.0 i || set-has_id n ns i

pub in_front : (old added new : List NetId) (m : ℕ) → new ≡ old ++ added → has_id old m ≡ true → has_id new m ≡ true
in_front old added new m e h = ap (λ l. has_id l m) e ∙ (has_id-append old added m ∙ or_left (has_id old m) (has_id added m) h)

in_either : (old added new : List NetId) (m : ℕ) → new ≡ old ++ added → has_id new m ≡ true → (has_id old m ≡ true) ⊎ (has_id added m ≡ true)
in_either old added new m e h = or_cases (has_id old m) (has_id added m) (sym (has_id-append old added m) ∙ (ap (λ l. has_id l m) (sym e) ∙ h))

-- ---- nets that are put behind others

added_more : (x : NetId) (xs ks new : List NetId) (b : Bool) → list_any (same_id x) ks ≡ b → HasAdded (if b then ks else ks ++ x ∷ []) xs new → HasAdded ks (x ∷ xs) new
added_more x xs ks new true e r = record {
  added = r.added;
  listed = r.listed;
  only = λ m h. or_right (nat_eq x.0 m) (has_id xs m) (r.only m h);
  all = λ m h. ⊎_elim
      (λ (y : nat_eq x.0 m ≡ true). in_front ks r.added new m r.listed (ap (has_id ks) (sym (eqb-true x.0 m y)) ∙ (sym (set-has_id x ks) ∙ e)))
      (λ (rest : has_id xs m ≡ true). r.all m rest)
      (or_cases (nat_eq x.0 m) (has_id xs m) h);
}
added_more x xs ks new false e r = record {
  added = x ∷ r.added;
  listed = r.listed ∙ append_assoc ks (x ∷ []) r.added;
  only = λ m h. ⊎_elim
      (λ (y : nat_eq x.0 m ≡ true). or_left (nat_eq x.0 m) (has_id xs m) y)
      (λ (rest : has_id r.added m ≡ true). or_right (nat_eq x.0 m) (has_id xs m) (r.only m rest))
      (or_cases (nat_eq x.0 m) (has_id r.added m) h);
  all = λ m h. ⊎_elim
      (λ (y : nat_eq x.0 m ≡ true).
      in_front (ks ++ x ∷ []) r.added new m r.listed (has_id-append ks (x ∷ []) m ∙ or_right (has_id ks m) (nat_eq x.0 m || false) (or_left (nat_eq x.0 m) false y)))
      (λ (rest : has_id xs m ≡ true). r.all m rest)
      (or_cases (nat_eq x.0 m) (has_id xs m) h);
}

pub added_all : (xs ks : List NetId) → HasAdded ks xs (insert_all same_id ks xs)
added_all [] ks = record { added = []; listed = sym (append-nil ks); only = λ m h. h; all = λ m h. absurd (false≢true h) }
added_all (x ∷ xs) ks = added_more x xs ks _ (list_any (same_id x) ks) refl (added_all xs (insert_key same_id ks x))

-- ---- the steps from one net

-- only a net that is held reads something
pub reader_held : (f : Option FlatNet) (n : ℕ) → net_reads f n ≡ true → is_some f ≡ true
reader_held None n h = absurd (false≢true h)
reader_held (Some f) n h = refl

-- a step leads to a held net
pub leads_held : (net : NetParts) (way : Way) (n m : ℕ) → WellFormed net → leads net.nets way n m ≡ true → is_held net.nets m ≡ true
leads_held net Down n m formed h = reader_held (slot net.nets m) n h
leads_held net Up n m formed h = ap is_some (reads_readable net n m formed h).held

-- the nets to which a step leads are held
pub first_held : (net : NetParts) (way : Way) (n : ℕ) (nets old new : List NetId) → WellFormed net → IsAscending (leads net.nets way n) nets → old ≡ [] → HasAdded old nets new → AreHeld net.nets new
first_held net way n nets old new formed is none a = record {
  each = λ m h. ⊎_elim
      (λ (y : has_id old m ≡ true). absurd (false≢true (ap (λ l. has_id l m) (sym none) ∙ y)))
      (λ (y : has_id a.added m ≡ true). leads_held net way n m formed (sym (is.members m) ∙ a.only m y))
      (in_either old a.added new m a.listed h);
}

pub step_spreads : (net : NetParts) (way : Way) (place : ℕ) (c : NetId) (old nets new : List NetId) → WellFormed net → AreHeld net.nets old → slice_get old place ≡ Some c
    → IsAscending (leads net.nets way c.0) nets → HasAdded old nets new → HasSpread net.nets way place (place + 1) old new
step_spreads net way place c old nets new formed held at is a = record {
  added = a.added;
  listed = a.listed;
  held = record {
    each = λ n h. ⊎_elim
        (λ (y : has_id old n ≡ true). held.each n y)
        (λ (y : has_id a.added n ≡ true). leads_held net way c.0 n formed (sym (is.members n) ∙ a.only n y))
        (in_either old a.added new n a.listed h);
  };
  only = λ m h. record { place = place; net = c; from = omega arith; to = omega arith; at = at; led = sym (is.members m) ∙ a.only m h };
  all = λ m l.
      let here : l.place ≡ place = omega (arith, l.from, l.to) in
      let same : l.net ≡ c = same_Some l.net c (sym l.at ∙ (ap (slice_get old) here ∙ at)) in
      a.all m (is.members m ∙ (ap (λ (x : NetId). leads net.nets way x.0 m) (sym same) ∙ l.led));
}

-- ---- the steps from some nets

pub spread_none : (nets : List (Option FlatNet)) (way : Way) (low : ℕ) (list : List NetId) → AreHeld nets list → HasSpread nets way low low list list
spread_none nets way low list held = record {
  added = [];
  listed = sym (append-nil list);
  held = held;
  only = λ m h. absurd (false≢true h);
  all = λ m l. absurd (omega (arith, l.from, l.to));
}

led_wider : (nets : List (Option FlatNet)) (way : Way) (old added new : List NetId) (low high lower higher m : ℕ) → new ≡ old ++ added → lower ≤ low → high ≤ higher → high ≤ length old → IsLed nets way old low high m → IsLed nets way new lower higher m
led_wider nets way old added new low high lower higher m e down up inside l = record {
  place = l.place;
  net = l.net;
  from = omega (arith, l.from);
  to = omega (arith, l.to);
  at = ap (λ ns. slice_get ns l.place) e ∙ (get_front old added l.place (omega (arith, l.to)) ∙ l.at);
  led = l.led;
}

led_before : (nets : List (Option FlatNet)) (way : Way) (old added new : List NetId) (low high m : ℕ) → new ≡ old ++ added → high ≤ length old → IsLed nets way new low high m → IsLed nets way old low high m
led_before nets way old added new low high m e inside l = record {
  place = l.place;
  net = l.net;
  from = l.from;
  to = l.to;
  at = sym (get_front old added l.place (omega (arith, l.to))) ∙ (ap (λ ns. slice_get ns l.place) (sym e) ∙ l.at);
  led = l.led;
}

led_part : (nets : List (Option FlatNet)) (way : Way) (list : List NetId) (low high m : ℕ) (l : IsLed nets way list low high m) (from to : ℕ) → from ≤ l.place → l.place < to → IsLed nets way list from to m
led_part nets way list low high m l from to f t = record { place = l.place; net = l.net; from = f; to = t; at = l.at; led = l.led }

pub spread_more : (nets : List (Option FlatNet)) (way : Way) (low place : ℕ) (old cur new : List NetId) → low ≤ place → place < length old
    → HasSpread nets way low place old cur → HasSpread nets way place (place + 1) cur new → HasSpread nets way low (place + 1) old new
spread_more nets way low place old cur new down inside f g =
    let listed : new ≡ old ++ (f.added ++ g.added) = g.listed ∙ (ap (λ l. l ++ g.added) f.listed ∙ append_assoc old f.added g.added) in
    record {
      added = f.added ++ g.added;
      listed = listed;
      held = g.held;
      only = λ m h. ⊎_elim
          (λ (y : has_id f.added m ≡ true). let l = f.only m y in led_part nets way old low place m l low (place + 1) l.from (omega (arith, l.to)))
          (λ (y : has_id g.added m ≡ true).
          let l = led_before nets way old f.added cur place (place + 1) m f.listed (omega arith) (g.only m y) in
          led_part nets way old place (place + 1) m l low (place + 1) (omega (arith, l.from)) l.to)
          (or_cases (has_id f.added m) (has_id g.added m) (sym (has_id-append f.added g.added m) ∙ h));
      all = λ m l. ⊎_elim
          (λ (y : l.place < place). in_front cur g.added new m g.listed (f.all m (led_part nets way old low (place + 1) m l low place l.from y)))
          (λ (y : place ≤ l.place).
          g.all m (led_wider nets way old f.added cur place (place + 1) place (place + 1) m f.listed (omega arith) (omega arith) (omega arith) (led_part nets way old low (place + 1) m l place (place + 1) y l.to)))
          (cases_lt l.place place);
    }

-- past the last place there is no net
pub spread_end : (nets : List (Option FlatNet)) (way : Way) (low high : ℕ) (old new : List NetId) → length old ≤ high → HasSpread nets way low high old new → HasSpread nets way low (length old) old new
spread_end nets way low high old new far f = record {
  added = f.added;
  listed = f.listed;
  held = f.held;
  only = λ m h. let l = f.only m h in led_part nets way old low high m l low (length old) l.from (slice_get_within old l.place l.net l.at);
  all = λ m l. f.all m (led_part nets way old low (length old) m l low high l.from (omega (arith, l.to)));
}

-- a place of those found at first is one of those found later
pub spread_inside : (nets : List (Option FlatNet)) (way : Way) (low high : ℕ) (old new : List NetId) (place : ℕ) → HasSpread nets way low high old new → place < length old → place < length new
spread_inside nets way low high old new place f inside =
    let l : length new ≡ length old + length f.added = ap length f.listed ∙ length-append old f.added in
    omega arith

-- ---- a search, step by step

pub search_first : (nets : List (Option FlatNet)) (way : Way) (first : List NetId) → AreHeld nets first → IsSearch nets way first 0 0 first
unfolding Reached
search_first nets way first held = record {
  held = held;
  members = record { members = λ m. (λ h. h, λ h. h) };
  taken = λ m l. absurd (omega (arith, l.to));
}

led_found : (nets : List (Option FlatNet)) (way : Way) (first : List NetId) (steps start : ℕ) (old new : List NetId) → IsSearch nets way first steps start old → HasSpread nets way start (length old) old new
    → (m : ℕ) → IsLed nets way old 0 (length old) m → has_id new m ≡ true
led_found nets way first steps start old new s f m l =
    ⊎_elim
    (λ (y : l.place < start). in_front old f.added new m f.listed (s.taken m (led_part nets way old 0 (length old) m l 0 start l.from y)))
    (λ (y : start ≤ l.place). f.all m (led_part nets way old 0 (length old) m l start (length old) y l.to))
    (cases_lt l.place start)

-- from a net of the list a step leads
led_from : (nets : List (Option FlatNet)) (way : Way) (list : List NetId) (n m : ℕ) → has_id list n ≡ true → leads nets way n m ≡ true → IsLed nets way list 0 (length list) m
led_from nets way list n m h l =
    let f = found (λ (c : NetId). nat_eq c.0 n) list h in
    record {
      place = f.place;
      net = f.item;
      from = omega arith;
      to = slice_get_within list f.place f.item f.at;
      at = f.at;
      led = ap (λ k. leads nets way k m) (eqb-true f.item.0 n f.passes) ∙ l;
    }

has_at : (list : List NetId) (place : ℕ) (c : NetId) → slice_get list place ≡ Some c → has_id list c.0 ≡ true
has_at list place c at = any_passes_from_place (λ (x : NetId). nat_eq x.0 c.0) list place c at (eq-eqb c.0 c.0 refl)

pub search_next : (nets : List (Option FlatNet)) (way : Way) (first : List NetId) (steps start : ℕ) (old new : List NetId) → IsSearch nets way first steps start old → HasSpread nets way start (length old) old new
    → IsSearch nets way first (suc steps) (length old) new
unfolding Reached
search_next nets way first steps start old new s f = record {
  held = f.held;
  members = record {
    members = λ m. (
      λ h. ⊎_elim
          (λ (y : has_id old m ≡ true). inl ((s.members.members m).0 y))
          (λ (y : has_id f.added m ≡ true).
          let l = f.only m y in
          inr (l.net.0, (s.members.members l.net.0).0 (has_at old l.place l.net l.at), l.led))
          (in_either old f.added new m f.listed h),
      λ r. ⊎_elim
          (λ y. in_front old f.added new m f.listed ((s.members.members m).1 y))
          (λ w. led_found nets way first steps start old new s f m (led_from nets way old w.0 m ((s.members.members w.0).1 w.1) w.2))
          r,
    );
  };
  taken = λ m l. led_found nets way first steps start old new s f m (led_before nets way old f.added new 0 (length old) m f.listed (omega arith) l);
}

-- ---- more steps

pub reached_up : (nets : List (Option FlatNet)) (way : Way) (first : List NetId) (k l m : ℕ) → k ≤ l → Reached nets way first k m → Reached nets way first l m
unfolding Reached
reached_up nets way first k zero m h r = let e : k ≡ 0 = omega arith in subst (λ j. Reached nets way first j m) e r
reached_up nets way first k (suc l) m h r =
    ⊎_elim
    (λ (y : k < suc l). inl (reached_up nets way first k l m (omega arith) r))
    (λ (y : suc l ≤ k). let e : k ≡ suc l = omega arith in subst (λ j. Reached nets way first j m) e r)
    (cases_lt k (suc l))

-- ---- the end of a search that finds no more

ends_all : (nets : List (Option FlatNet)) (way : Way) (first : List NetId) (k start : ℕ) (list : List NetId) → IsSearch nets way first k start list → length list ≤ start
    → (steps m : ℕ) → Reached nets way first steps m → has_id list m ≡ true
unfolding Reached
ends_all nets way first k start list s high zero m r = (s.members.members m).1 (reached_up nets way first 0 k m (omega arith) r)
ends_all nets way first k start list s high (suc steps) m r =
    ⊎_elim
    (λ y. ends_all nets way first k start list s high steps m y)
    (λ w.
    let l = led_from nets way list w.0 m (ends_all nets way first k start list s high steps w.0 w.1) w.2 in
    s.taken m (led_part nets way list 0 (length list) m l 0 start l.from (omega (arith, l.to))))
    r

pub search_ends : (nets : List (Option FlatNet)) (way : Way) (first : List NetId) (k start : ℕ) (list : List NetId) → IsSearch nets way first k start list → length list ≤ start → HasAll nets way first list
search_ends nets way first k start list s high = record {
  only = λ m h. (k, (s.members.members m).0 h);
  all = ends_all nets way first k start list s high;
}
