-- From a valuation to an assignment: each net has its value at its number, each mark the value that tells whether some row of its table
-- matches, and each choice net one with which the covers of its table allow the outputs' values.
use Rattle.std.proofs.Common.{◌≡◌, ◌⊎◌, ℕ, zero, suc, ◌<◌, ◌≤◌, Bool, true, false, List, [], ◌∷◌, length, map, Some, refl, sym, ◌∙◌, ap, subst, ⊎_elim}
use Rattle.std.specs.Prelude.{if◌then◌else◌, nat_lt}
use Rattle.std.specs.List.{flat_map, list_all, slice_get}
use Rattle.std.proofs.lemmas.Bool.{and_from, and_parts, cases_lt, cond-false, cond-true}
use Rattle.std.proofs.lemmas.Option.{none-some, same_Some}
use Rattle.mv_base.specs.Names.{among, AreApart}
use Rattle.mv_design.specs.declared.design.FileModel.{FileModel}
use Rattle.mv_design.specs.declared.table.FileTable.{FileTable}
use Rattle.mv_rows.specs.Covers.{mark_value}
use Rattle.mv_net.specs.declared.parts.NetParts.{NetParts}
use Rattle.mv_net.specs.Allowed.{net_allows, Agrees}
use Rattle.mv_design.specs.Values.{count_of}
use Rattle.mv_design.specs.Nets.{nets_named, nets_driven, output_of}
use Rattle.mv_flat.specs.Places.{net_places, has_mark}
use Rattle.mv_acyclic.specs.Numbers.{number_in}
use Rattle.mv_design.specs.Meaning.{in_values, table_holds}
use Rattle.mv_flat.specs.Numbers.{mark_at}
use Rattle.mv_acyclic.proofs.Names.{all_among}
use Rattle.mv_flat.proofs.Places.{IsModelNet, open_slot, OpenPlace, OutputPlace, MarkPlace, ChoicePlace, place_at, no_slot}
use Rattle.mv_flat.proofs.Naming.{in_tables, open_named}
use Rattle.mv_flat.proofs.Drivers.{apart_behind, behind_only, tables_apart, first_output}
use Rattle.mv_flat.proofs.ByNumber.{of_number, at_net, at_mark, at_choice}
use Rattle.mv_flat.proofs.Valuations.{Follows, FollowsTable, Suits, HasValue, AllowsAt, values_follow, range_follows, mark_up, table_up}

-- ---- values of tables, by the names of their outputs

-- the value of the table with this output
abbrev value_in : (P : FileTable → ℕ → Type 0) (ts : List FileTable) → ((k : ℕ) (t : FileTable) → slice_get ts k ≡ Some t → HasValue P t) → List ℕ → ℕ
value_in P [] has w = 0
value_in P (t ∷ ts) has w = if among w t.outputs then (has 0 t refl).number else value_in P ts (λ k u e. has (suc k) u e) w

value_found : (P : FileTable → ℕ → Type 0) (ts : List FileTable) (has : (k : ℕ) (t : FileTable) → slice_get ts k ≡ Some t → HasValue P t) (k : ℕ)
    (t : FileTable)
    (w : List ℕ) → AreApart (flat_map nets_driven ts) → slice_get ts k ≡ Some t → among w t.outputs ≡ true → P t (value_in P ts has w)
value_found P [] has k t w a e h = absurd (none-some t e)
value_found P (u ∷ us) has zero t w a e h =
    let same : u ≡ t = same_Some u t e in
    let first : (has 0 u refl).number ≡ value_in P (u ∷ us) has w =
    sym (cond-true (among w u.outputs) (has 0 u refl).number (value_in P us (λ k s d. has (suc k) s d) w)
    (ap (λ (x : FileTable). among w x.outputs) same ∙ h)) in
    let Q : FileTable → Type 0 = λ (x : FileTable). P x (value_in P (u ∷ us) has w) in
    subst Q same (subst (P u) first (has 0 u refl).is)
value_found P (u ∷ us) has (suc k) t w a e h =
    let out : among w u.outputs ≡ false = behind_only u.outputs (flat_map nets_driven us) w a (in_tables nets_driven us k t w e h) in
    let later : value_in P us (λ j s d. has (suc j) s d) w ≡ value_in P (u ∷ us) has w =
    sym (cond-false (among w u.outputs) (has 0 u refl).number (value_in P us (λ j s d. has (suc j) s d) w) out) in
    subst (P t) later (value_found P us (λ j s d. has (suc j) s d) k t w (apart_behind u.outputs (flat_map nets_driven us) a) e h)

all_at : {X : Type 0} (p : X → Bool) (xs : List X) (k : ℕ) (x : X) → list_all p xs ≡ true → slice_get xs k ≡ Some x → p x ≡ true
all_at p [] k x h e = absurd (none-some x e)
all_at p (y ∷ xs) zero x h e = ap p (sym (same_Some y x e)) ∙ (and_parts (p y) (list_all p xs) h).0
all_at p (y ∷ xs) (suc k) x h e = all_at p xs k x (and_parts (p y) (list_all p xs) h).1 e

-- ---- an assignment with any values of choice nets

-- the number is the value of a table's mark
abbrev pub IsMarkValue : (List ℕ → ℕ) → FileTable → ℕ → Type 0
IsMarkValue value t v = v ≡ mark_value t.rows (map value t.inputs)

pub has_mark_value : (value : List ℕ → ℕ) (ts : List FileTable) (k : ℕ) (t : FileTable) → slice_get ts k ≡ Some t → HasValue (IsMarkValue value) t
has_mark_value value ts k t e = record { number = mark_value t.rows (map value t.inputs); is = refl }

-- the value of the mark of the table with this output
abbrev marked_in : (List ℕ → ℕ) → List FileTable → List ℕ → ℕ
marked_in value ts w = value_in (IsMarkValue value) ts (has_mark_value value ts) w

-- nets and marks have their values by number, and choice nets those of their tables' outputs
abbrev with_choices : FileModel → (List ℕ → ℕ) → (List ℕ → ℕ) → ℕ → ℕ
with_choices m value choices = of_number m value (marked_in value m.tables) choices

module _ (m : FileModel) (net : NetParts) (is : IsModelNet m net) (value : List ℕ → ℕ) (range : in_values m.decls value (nets_named m) ≡ true) where
  net_value : (choices : List ℕ → ℕ) (w : List ℕ) → among w (nets_named m) ≡ true → value w ≡ with_choices m value choices (number_in (net_places m) w)
  net_value choices w h = sym (at_net m net is value (marked_in value m.tables) choices w h)

  choices_follow : (choices : List ℕ → ℕ) → Follows m (with_choices m value choices) value
  choices_follow choices = record {
    each = λ w h. net_value choices w h;
    range = λ w h.
        ap (λ v. nat_lt v (count_of m.decls w)) (sym (net_value choices w h))
        ∙ all_among (λ u. nat_lt (value u) (count_of m.decls u)) (nets_named m) w range h;
  }

  mark_is : (choices : List ℕ → ℕ) (k : ℕ) (t : FileTable) → slice_get m.tables k ≡ Some t → has_mark m.decls t ≡ true
      → with_choices m value choices (mark_at (net_places m) t).0 ≡ mark_value t.rows (map value t.inputs)
  mark_is choices k t e may =
      at_mark m net is value (marked_in value m.tables) choices k t e may
      ∙ value_found (IsMarkValue value) m.tables (has_mark_value value m.tables) k t (output_of t) (tables_apart m net is) e (first_output m net is k t e)

  -- ---- with values that suit

  module _ (holds : list_all (table_holds value) m.tables ≡ true) where
    pub suited : (k : ℕ) (t : FileTable) → slice_get m.tables k ≡ Some t → HasValue (Suits m net value) t
    suited k t e =
        let none : List ℕ → ℕ = λ _. 0 in
        table_up m net is (with_choices m value none) value k t e (choices_follow none) (mark_is none k t e) (all_at (table_holds value) m.tables k t holds e)

    -- the value of the choice net of the table with this output
    abbrev chosen_in : List ℕ → ℕ
    chosen_in w = value_in (Suits m net value) m.tables suited w

    abbrev pub by_number : ℕ → ℕ
    by_number n = with_choices m value chosen_in n

    pub number_follows : Follows m by_number value
    number_follows = choices_follow chosen_in

    table_follows : (k : ℕ) (t : FileTable) → slice_get m.tables k ≡ Some t → FollowsTable m by_number value t (chosen_in (output_of t))
    table_follows k t e = record {
      follows = number_follows;
      mark = mark_is chosen_in k t e;
      choice = λ several. at_choice m net is value (marked_in value m.tables) chosen_in k t e several;
    }

    suits : (k : ℕ) (t : FileTable) → slice_get m.tables k ≡ Some t → Suits m net value t (chosen_in (output_of t))
    suits k t e = value_found (Suits m net value) m.tables suited k t (output_of t) (tables_apart m net is) e (first_output m net is k t e)

    -- ---- it agrees with each net

    allows_open : (n : ℕ) → OpenPlace m n → AllowsAt net by_number n
    allows_open n p =
        let k : ℕ = number_in (net_places m) p.name in
        subst (AllowsAt net by_number) (sym p.number)
        (ap (λ s. net_allows s by_number (by_number k)) (open_slot m net is p.kind p.name p.listed)
        ∙ and_from (nat_lt (by_number k) (count_of m.decls p.name)) true (number_follows.range p.name (open_named m p.kind p.name p.listed)) refl)

    allows_output : (n : ℕ) → OutputPlace m n → AllowsAt net by_number n
    allows_output n p =
        subst (AllowsAt net by_number) (sym p.number)
        ((suits p.place p.table p.listed).outputs by_number (table_follows p.place p.table p.listed) p.index p.name p.output)

    allows_mark : (n : ℕ) → MarkPlace m n → AllowsAt net by_number n
    allows_mark n p =
        let values = values_follow m by_number value p.place p.table number_follows p.listed in
        subst (AllowsAt net by_number) (sym p.number)
        (mark_up m net is p.place p.table p.listed by_number (range_follows m by_number value p.place p.table number_follows p.listed) p.may
        (mark_is chosen_in p.place p.table p.listed p.may ∙ ap (mark_value p.table.rows) (sym values)))

    allows_choice : (n : ℕ) → ChoicePlace m n → AllowsAt net by_number n
    allows_choice n p =
        subst (AllowsAt net by_number) (sym p.number)
        ((suits p.place p.table p.listed).choice by_number (table_follows p.place p.table p.listed) p.joint)

    pub number_agrees : Agrees net.nets by_number
    number_agrees = record {
      each = λ n.
          ⊎_elim
          (λ (low : n < length (net_places m)).
          ⊎_elim (allows_open n)
          (λ (q : OutputPlace m n ⊎ (MarkPlace m n ⊎ ChoicePlace m n)).
          ⊎_elim (allows_output n) (λ (r : MarkPlace m n ⊎ ChoicePlace m n). ⊎_elim (allows_mark n) (allows_choice n) r) q)
          (place_at m net is n low))
          (λ (high : length (net_places m) ≤ n). ap (λ s. net_allows s by_number (by_number n)) (no_slot m net is n high))
          (cases_lt n (length (net_places m)));
    }
