-- Nets that look alike from outside.
use Rattle.std.proofs.Common.{◌≡◌, ◌∙◌, ℕ, suc, ◌<◌, Bool, true, false, Option, Some, None, List, [], ◌∷◌, length, map, get_or, decimal, refl, sym, ap, subst, arith}
use Rattle.std.specs.Bool.{Decides, MatchBool}
use Rattle.std.proofs.lemmas.Bool.{false≢true}
use Rattle.std.proofs.lemmas.List.{length-map, get_or-map}
use Rattle.std.proofs.lemmas.List.FromFn.{length-map-range_with_len}
use Rattle.mv_net.specs.declared.parts.FlatNet.{FlatNet}
use Rattle.mv_net.specs.declared.parts.NetParts.{NetParts}
use Rattle.mv_net.specs.Nets.{slot, values_in, spelled_values, spelled_in}
use Rattle.mv_net.specs.Index.{is_held, value_names_in}
use Rattle.mv_net.specs.Formed.{IsNamed, WellFormed}

-- a test that decides a claim answers it
pub answered : (r : Bool) (P : Type 0) → Decides r P → MatchBool r P (P → ⊥)
answered true P d = d.0 refl
answered false P d = λ p. false≢true (d.1 p)

-- an answer to one claim is one to another that is as true
pub answers : (r : Bool) (P Q : Type 0) → (P → Q) → (Q → P) → MatchBool r P (P → ⊥) → MatchBool r Q (Q → ⊥)
answers true P Q on back is = on is
answers false P Q on back is = λ q. is (back q)

-- ---- lists

-- lists whose elements are alike, place by place
pub same_lists : {X Y Z : Type 0} (f : X → Z) (g : Y → Z) (d : X) (e : Y) (xs : List X) (ys : List Y) → length xs ≡ length ys → ((k : ℕ) → k < length xs → f (get_or xs k d) ≡ g (get_or ys k e)) → map f xs ≡ map g ys
same_lists f g d e [] [] long same = refl
same_lists f g d e [] (y ∷ ys) long same = absurd (omega arith)
same_lists f g d e (x ∷ xs) [] long same = absurd (omega arith)
same_lists f g d e (x ∷ xs) (y ∷ ys) long same =
    let rest = same_lists f g d e xs ys (omega arith) (λ k less. same (suc k) (omega arith)) in
    let first = same 0 (omega arith) in
    λ i. first i ∷ rest i

pub same_long : {X Y Z : Type 0} (f : X → Z) (g : Y → Z) (xs : List X) (ys : List Y) → map f xs ≡ map g ys → length xs ≡ length ys
same_long f g xs ys same = sym (length-map xs f) ∙ (ap length same ∙ length-map ys g)

pub same_elements : {X Y Z : Type 0} (f : X → Z) (g : Y → Z) (d : X) (e : Y) (xs : List X) (ys : List Y) → map f xs ≡ map g ys → (k : ℕ) → k < length xs → f (get_or xs k d) ≡ g (get_or ys k e)
same_elements f g d e xs ys same k less =
    let long = same_long f g xs ys same in
    sym (get_or-map f xs k d (f d) less) ∙ (ap (λ l. get_or l k (f d)) same ∙ get_or-map g ys k e (f d) (omega arith))

-- ---- values, as a file spells them

spelled_size : (values : ℕ) (names : List (List ℕ)) → (0 < length names → length names ≡ values) → length (spelled_values values names) ≡ values
spelled_size values [] each = length-map-range_with_len decimal 0 values
spelled_size values (w ∷ ws) each = each (omega arith)

pub spelled_long : (net : NetParts) (n : ℕ) → WellFormed net → length (spelled_in (slot net.nets n)) ≡ values_in (slot net.nets n)
spelled_long net n formed = by_slot (slot net.nets n) refl
  where
    by_slot : (f : Option FlatNet) → slot net.nets n ≡ f → length (spelled_in f) ≡ values_in f
    by_slot None e = refl
    by_slot (Some f) e = spelled_size f.values f.value_names (formed.nets n f e).named.each

-- nets with the same values have as many
pub values_alike : (b a : NetParts) (n m : ℕ) → WellFormed b → WellFormed a → spelled_in (slot b.nets n) ≡ spelled_in (slot a.nets m) → values_in (slot b.nets n) ≡ values_in (slot a.nets m)
values_alike b a n m formed_b formed_a same = sym (spelled_long b n formed_b) ∙ (ap length same ∙ spelled_long a m formed_a)

names_alike : (count : ℕ) (ns ms : List (List ℕ)) → IsNamed count ns → IsNamed count ms → spelled_values count ns ≡ spelled_values count ms → ns ≡ ms
names_alike count [] [] is_n is_m same = refl
names_alike count [] (w ∷ ws) is_n is_m same = absurd (cc (is_m.spelled (sym same)))
names_alike count (w ∷ ws) [] is_n is_m same = absurd (cc (is_n.spelled same))
names_alike count (w ∷ ws) (u ∷ us) is_n is_m same = same

-- two nets, each with lawful value names
record AreNamed (b a : Option FlatNet) : Type 0 where
  of_b : FlatNet
  of_a : FlatNet
  is_b : b ≡ Some of_b
  is_a : a ≡ Some of_a
  named_b : IsNamed of_b.values of_b.value_names
  named_a : IsNamed of_a.values of_a.value_names

held_net : (o : Option FlatNet) → is_held (o ∷ []) 0 ≡ true → (f : FlatNet) × (o ≡ Some f)
held_net None h = absurd (false≢true h)
held_net (Some f) h = (f, refl)

are_named : (b a : NetParts) (n m : ℕ) → WellFormed b → WellFormed a → is_held b.nets n ≡ true → is_held a.nets m ≡ true → AreNamed (slot b.nets n) (slot a.nets m)
are_named b a n m formed_b formed_a held_b held_a =
    let f = held_net (slot b.nets n) held_b in
    let g = held_net (slot a.nets m) held_a in
    record {
      of_b = f.0;
      of_a = g.0;
      is_b = f.1;
      is_a = g.1;
      named_b = (formed_b.nets n f.0 f.1).named;
      named_a = (formed_a.nets m g.0 g.1).named;
    }

-- as many values and the same names are the same values
pub spelled_from : (b a : NetParts) (n m : ℕ) → WellFormed b → WellFormed a → is_held b.nets n ≡ true → is_held a.nets m ≡ true → values_in (slot b.nets n) ≡ values_in (slot a.nets m) → value_names_in (slot b.nets n) ≡ value_names_in (slot a.nets m) → spelled_in (slot b.nets n) ≡ spelled_in (slot a.nets m)
spelled_from b a n m formed_b formed_a held_b held_a count names =
    let is = are_named b a n m formed_b formed_a held_b held_a in
    let c : is.of_b.values ≡ is.of_a.values = sym (ap values_in is.is_b) ∙ (count ∙ ap values_in is.is_a) in
    let w : is.of_b.value_names ≡ is.of_a.value_names = sym (ap value_names_in is.is_b) ∙ (names ∙ ap value_names_in is.is_a) in
    let both : spelled_values is.of_b.values is.of_b.value_names ≡ spelled_values is.of_a.values is.of_a.value_names = λ i. spelled_values (c i) (w i) in
    ap spelled_in is.is_b ∙ (both ∙ sym (ap spelled_in is.is_a))

-- and the other way round
pub names_from : (b a : NetParts) (n m : ℕ) → WellFormed b → WellFormed a → is_held b.nets n ≡ true → is_held a.nets m ≡ true → spelled_in (slot b.nets n) ≡ spelled_in (slot a.nets m) → value_names_in (slot b.nets n) ≡ value_names_in (slot a.nets m)
names_from b a n m formed_b formed_a held_b held_a same =
    let is = are_named b a n m formed_b formed_a held_b held_a in
    let count = values_alike b a n m formed_b formed_a same in
    let c : is.of_b.values ≡ is.of_a.values = sym (ap values_in is.is_b) ∙ (count ∙ ap values_in is.is_a) in
    let both : spelled_values is.of_b.values is.of_b.value_names ≡ spelled_values is.of_a.values is.of_a.value_names = sym (ap spelled_in is.is_b) ∙ (same ∙ ap spelled_in is.is_a) in
    let P : ℕ → Type 0 = λ k. IsNamed k is.of_a.value_names in
    let Q : ℕ → Type 0 = λ k. spelled_values is.of_b.values is.of_b.value_names ≡ spelled_values k is.of_a.value_names in
    ap value_names_in is.is_b ∙ (names_alike is.of_b.values is.of_b.value_names is.of_a.value_names is.named_b (subst P (sym c) is.named_a) (subst Q (sym c) both) ∙ sym (ap value_names_in is.is_a))
