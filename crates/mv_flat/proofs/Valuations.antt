-- A valuation by name beside an assignment by number: where the assignment agrees with the nets of a table, the table allows the values of
-- its columns; and where it does, the assignment agrees with these nets, with some value of the choice net.
use Rattle.std.proofs.Common.{◌≡◌, ℕ, zero, suc, ◌<◌, Bool, true, false, ◌&&◌, List, [], ◌∷◌, length, map, Option, Some, None, refl, sym, ◌∙◌, ap, arith, cond}
use Rattle.std.specs.Prelude.{nat_eq, nat_lt}
use Rattle.std.specs.List.{slice_get}
use Rattle.std.proofs.lemmas.Bool.{false≢true, and_from, and_parts, eq-eqb, eqb-true, lt-ltb}
use Rattle.std.proofs.lemmas.List.{length-map}
use Rattle.std.proofs.lemmas.Option.{none-some, same_Some}
use Rattle.mv_base.specs.Names.{among}
use Rattle.mv_base.proofs.NameLemmas.{among-at}
use Rattle.mv_cover.specs.declared.cover.Cover.{Cover}
use Rattle.mv_cover.specs.Covers.{allowed}
use Rattle.mv_design.specs.declared.design.FileModel.{FileModel}
use Rattle.mv_design.specs.declared.table.FileTable.{FileTable}
use Rattle.mv_rows.specs.declared.column.Column.{Column}
use Rattle.mv_rows.specs.Cubes.{column_values, in_range}
use Rattle.mv_rows.specs.Covers.{mark_value, MarkHas}
use Rattle.mv_joint.specs.Meaning.{outputs_allow}
use Rattle.mv_design.specs.Tables.{some_row_matches, table_allows}
use Rattle.mv_net.specs.declared.parts.FlatNet.{FlatNet}
use Rattle.mv_net.specs.declared.parts.NetParts.{NetParts}
use Rattle.mv_net.specs.Nets.{slot}
use Rattle.mv_net.specs.Allowed.{net_allows, Agrees}
use Rattle.mv_design.specs.Values.{count_of}
use Rattle.mv_design.specs.Nets.{nets_named}
use Rattle.mv_flat.specs.declared.covers.TableCovers.{TableCovers}
use Rattle.mv_flat.specs.declared.covers.TableCovers.TheVariants.{Single, Joint}
use Rattle.mv_flat.specs.Covers.{MadeNet, IsMadeTable, mark_of, choices_in, outputs_of}
use Rattle.mv_flat.specs.Places.{net_places, has_mark, is_joint}
use Rattle.mv_acyclic.specs.Numbers.{number_in}
use Rattle.mv_design.specs.Meaning.{table_holds}
use Rattle.mv_flat.specs.Numbers.{column_of, columns_at, mark_at, choice_at}
use Rattle.mv_flat.proofs.Slots.{IsTableAt, StandsMade}
use Rattle.mv_flat.proofs.FormedMade.{marked_has, mark_net}
use Rattle.mv_flat.proofs.Places.{IsModelNet, table_of}
use Rattle.mv_flat.proofs.Naming.{all_map, map_same, table_input_named, table_output_named}
use Rattle.mv_flat.proofs.Together.{choice_holds, AllowOutputs, HasChoice, IsMeant, meant}

-- each named net has its value at its number, and that is one of its values
pub record Follows (m : FileModel) (at : ℕ → ℕ) (value : List ℕ → ℕ) : Type 0 where
  pub each : (w : List ℕ) → among w (nets_named m) ≡ true → value w ≡ at (number_in (net_places m) w)
  pub range : (w : List ℕ) → among w (nets_named m) ≡ true → nat_lt (at (number_in (net_places m) w)) (count_of m.decls w) ≡ true

pub values_follow : (m : FileModel) (at : ℕ → ℕ) (value : List ℕ → ℕ) (k : ℕ) (t : FileTable) → Follows m at value → slice_get m.tables k ≡ Some t
    → column_values at (columns_at m.decls (net_places m) t) ≡ map value t.inputs
values_follow m at value k t f e =
    map_same (column_of m.decls (net_places m)) (λ (c : Column). at c.net.0) value t.inputs (λ w h. sym (f.each w (table_input_named m k t w e h)))

pub range_follows : (m : FileModel) (at : ℕ → ℕ) (value : List ℕ → ℕ) (k : ℕ) (t : FileTable) → Follows m at value → slice_get m.tables k ≡ Some t
    → in_range at (columns_at m.decls (net_places m) t) ≡ true
range_follows m at value k t f e =
    all_map (λ (c : Column). nat_lt (at c.net.0) c.count) (column_of m.decls (net_places m)) t.inputs (λ w h. f.range w (table_input_named m k t w e h))

-- the assignment agrees with the net at a number
abbrev pub AllowsAt : NetParts → (ℕ → ℕ) → ℕ → Type 0
AllowsAt net at n = net_allows (slot net.nets n) at (at n) ≡ true

-- ---- the nets of a table's outputs

true_and : (a b : Bool) → a ≡ true → (a && b) ≡ b
true_and a b e = ap (λ x. x && b) e

-- such a net takes its value exactly where its cover allows it
output_allows : (m : FileModel) (net : NetParts) (is : IsModelNet m net) (at : ℕ → ℕ) (value : List ℕ → ℕ) (k : ℕ) (t : FileTable)
    (e : slice_get m.tables k ≡ Some t) → Follows m at value → (j : ℕ) (w : List ℕ) (c : Cover) → slice_get t.outputs j ≡ Some w
    → slice_get (outputs_of (table_of m net is k t e).covers) j ≡ Some c
    → net_allows (slot net.nets (number_in (net_places m) w)) at (at (number_in (net_places m) w)) ≡ allowed c at (value w)
output_allows m net is at value k t e f j w c o d =
    let named = table_output_named m k t w e (among-at t.outputs j w o) in
    let n : ℕ = number_in (net_places m) w in
    ap (λ s. net_allows s at (at n)) ((table_of m net is k t e).output j w c o d)
    ∙ (true_and (nat_lt (at n) (count_of m.decls w)) (allowed c at (at n)) (f.range w named) ∙ ap (allowed c at) (sym (f.each w named)))

-- covers allow values together where each allows its own
outputs_from : (at : ℕ → ℕ) (value : List ℕ → ℕ) (ws : List (List ℕ)) (cs : List Cover) → length cs ≡ length ws
    → ((j : ℕ) (w : List ℕ) (c : Cover) → slice_get ws j ≡ Some w → slice_get cs j ≡ Some c → allowed c at (value w) ≡ true)
    → outputs_allow cs at (map value ws) ≡ true
outputs_from at value [] [] long h = refl
outputs_from at value [] (c ∷ cs) long h = absurd (omega (arith, long))
outputs_from at value (w ∷ ws) [] long h = absurd (omega (arith, long))
outputs_from at value (w ∷ ws) (c ∷ cs) long h =
    and_from (allowed c at (value w)) (outputs_allow cs at (map value ws)) (h 0 w c refl refl)
    (outputs_from at value ws cs (omega (arith, long)) (λ j u d y z. h (suc j) u d y z))

-- a cover that allows a value
record HasCover (cs : List Cover) (j : ℕ) (at : ℕ → ℕ) (v : ℕ) : Type 0 where
  cover : Cover
  listed : slice_get cs j ≡ Some cover
  allows : allowed cover at v ≡ true

outputs_each : (at : ℕ → ℕ) (value : List ℕ → ℕ) (ws : List (List ℕ)) (cs : List Cover) (j : ℕ) (w : List ℕ) → outputs_allow cs at (map value ws) ≡ true
    → slice_get ws j ≡ Some w → HasCover cs j at (value w)
outputs_each at value [] cs j w h e = absurd (none-some w e)
outputs_each at value (u ∷ us) [] j w h e = absurd (false≢true h)
outputs_each at value (u ∷ us) (c ∷ cs) zero w h e =
    let p = and_parts (allowed c at (value u)) (outputs_allow cs at (map value us)) h in
    record { cover = c; listed = refl; allows = ap (λ x. allowed c at (value x)) (sym (same_Some u w e)) ∙ p.0 }
outputs_each at value (u ∷ us) (c ∷ cs) (suc j) w h e =
    let p = and_parts (allowed c at (value u)) (outputs_allow cs at (map value us)) h in
    let r = outputs_each at value us cs j w p.1 e in
    record { cover = r.cover; listed = r.listed; allows = r.allows }

-- ---- the nets that are made for a table

made_allows : (nets : List (Option FlatNet)) (n : ℕ) (made : MadeNet) (at : ℕ → ℕ) → StandsMade nets n made
    → net_allows (slot nets n) at (at n) ≡ (nat_lt (at n) made.values && allowed made.cover at (at n))
made_allows nets n made at s = ap (λ f. net_allows f at (at n)) s.slot_is

module _ (m : FileModel) (net : NetParts) (is : IsModelNet m net) (k : ℕ) (t : FileTable) (e : slice_get m.tables k ≡ Some t) where
  abbrev columns : List Column
  columns = columns_at m.decls (net_places m) t

  abbrev here : IsTableAt m.decls (net_places m) net.nets t
  here = table_of m net is k t e

  means : IsMeant columns t (mark_at (net_places m) t) (choice_at (net_places m) t) here.covers
  means = meant m.decls (net_places m) net.nets t is.proper.decls here

  -- a mark's net takes its value where it tells whether some row matches
  mark_allows : (c : Cover) → mark_of here.covers ≡ Some c → (at : ℕ → ℕ) → in_range at columns ≡ true
      → net_allows (slot net.nets (mark_at (net_places m) t).0) at (at (mark_at (net_places m) t).0)
      ≡ (nat_lt (at (mark_at (net_places m) t).0) 2 && nat_eq (at (mark_at (net_places m) t).0) (mark_value t.rows (column_values at columns)))
  mark_allows c x at range =
      let n : ℕ = (mark_at (net_places m) t).0 in
      made_allows net.nets n (record { values = 2; cover = c }) at (here.mark c x) ∙ ap (λ b. nat_lt (at n) 2 && b) (means.marks c x at range (at n))

  -- where the assignment agrees with the nets, the mark has its value
  mark_down : (at : ℕ → ℕ) → Agrees net.nets at → in_range at columns ≡ true
      → MarkHas (mark_of here.covers) (mark_at (net_places m) t) at (mark_value t.rows (column_values at columns))
  mark_down at agrees range = by_mark (mark_of here.covers) refl
    where
      by_mark : (o : Option Cover) → mark_of here.covers ≡ o → MarkHas o (mark_at (net_places m) t) at (mark_value t.rows (column_values at columns))
      by_mark None x = tt
      by_mark (Some c) x = eqb-true _ _ (and_parts _ _ (sym (mark_allows c x at range) ∙ agrees.each (mark_at (net_places m) t).0)).1

  -- a mark with a value has it, if there is a mark
  mark_has : (at : ℕ → ℕ) (v : ℕ) → (has_mark m.decls t ≡ true → at (mark_at (net_places m) t).0 ≡ v) → MarkHas (mark_of here.covers) (mark_at (net_places m) t) at v
  mark_has at v h = by_mark (mark_of here.covers) refl
    where
      by_mark : (o : Option Cover) → mark_of here.covers ≡ o → MarkHas o (mark_at (net_places m) t) at v
      by_mark None x = tt
      by_mark (Some c) x = h (marked_has m.decls (net_places m) net.nets t here c x)

  -- where the mark has its value, the assignment agrees with its net
  pub mark_up : (at : ℕ → ℕ) → in_range at columns ≡ true → has_mark m.decls t ≡ true
      → at (mark_at (net_places m) t).0 ≡ mark_value t.rows (column_values at columns)
      → AllowsAt net at (mark_at (net_places m) t).0
  mark_up at range may v =
      let mark = mark_net m.decls (net_places m) net.nets t here may in
      let low = below (some_row_matches t.rows (column_values at columns)) in
      mark_allows mark.cover mark.is at range ∙ and_from _ _ (lt-ltb _ 2 (omega (arith, v, low))) (eq-eqb _ _ v)
    where
      below : (b : Bool) → cond b 0 1 < 2
      below true = omega arith
      below false = omega arith

  -- the choice net's cover allows its value where the assignment agrees with the nets
  choice_down : (at : ℕ → ℕ) → Agrees net.nets at → choice_holds here.covers (choice_at (net_places m) t) at ≡ true
  choice_down at agrees = by_covers here.covers here.choice
    where
      by_covers : (covers : TableCovers) → ((c : MadeNet) → choices_in covers ≡ c ∷ [] → StandsMade net.nets (choice_at (net_places m) t).0 c)
          → choice_holds covers (choice_at (net_places m) t) at ≡ true
      by_covers (Single flat) stands = refl
      by_covers (Joint joint) stands =
          let made : MadeNet = record { values = joint.values; cover = joint.choice } in
          sym (made_allows net.nets (choice_at (net_places m) t).0 made at (stands made refl)) ∙ agrees.each (choice_at (net_places m) t).0

  choice_up : (at : ℕ → ℕ) → is_joint t ≡ true → choice_holds here.covers (choice_at (net_places m) t) at ≡ true → AllowsAt net at (choice_at (net_places m) t).0
  choice_up at several = by_covers here.covers here.are here.choice
    where
      by_covers : (covers : TableCovers) → IsMadeTable columns t (mark_at (net_places m) t) (choice_at (net_places m) t) covers
          → ((c : MadeNet) → choices_in covers ≡ c ∷ [] → StandsMade net.nets (choice_at (net_places m) t).0 c)
          → choice_holds covers (choice_at (net_places m) t) at ≡ true → AllowsAt net at (choice_at (net_places m) t).0
      by_covers (Single flat) are stands h = absurd (false≢true (sym are.0 ∙ several))
      by_covers (Joint joint) are stands h =
          let made : MadeNet = record { values = joint.values; cover = joint.choice } in
          made_allows net.nets (choice_at (net_places m) t).0 made at (stands made refl) ∙ h

  -- ---- the table

  -- where the assignment agrees with the nets, the table allows the values of its columns
  pub table_down : (at : ℕ → ℕ) (value : List ℕ → ℕ) → Follows m at value → Agrees net.nets at → table_holds value t ≡ true
  table_down at value f agrees =
      let range = range_follows m at value k t f e in
      let outputs = outputs_from at value t.outputs (outputs_of here.covers) here.many
      (λ j w c o d. sym (output_allows m net is at value k t e f j w c o d) ∙ agrees.each (number_in (net_places m) w)) in
      ap (λ (x : List ℕ). table_allows t.rows t.default x (map value t.outputs)) (sym (values_follow m at value k t f e))
      ∙ means.down at range (mark_down at agrees range) (map value t.outputs) (record { chosen = choice_down at agrees; outputs = outputs })

-- an assignment follows the valuation, the mark of a table has its value, and its choice net this one
pub record FollowsTable (m : FileModel) (at : ℕ → ℕ) (value : List ℕ → ℕ) (t : FileTable) (v : ℕ) : Type 0 where
  pub follows : Follows m at value
  pub mark : has_mark m.decls t ≡ true → at (mark_at (net_places m) t).0 ≡ mark_value t.rows (map value t.inputs)
  pub choice : is_joint t ≡ true → at (choice_at (net_places m) t).0 ≡ v

-- with this value of the table's choice net an assignment agrees with its nets
pub record Suits (m : FileModel) (net : NetParts) (value : List ℕ → ℕ) (t : FileTable) (v : ℕ) : Type 0 where
  pub outputs : (at : ℕ → ℕ) → FollowsTable m at value t v → (j : ℕ) (w : List ℕ) → slice_get t.outputs j ≡ Some w → AllowsAt net at (number_in (net_places m) w)
  pub choice : (at : ℕ → ℕ) → FollowsTable m at value t v → is_joint t ≡ true → AllowsAt net at (choice_at (net_places m) t).0

-- some value stands so to a table
pub record HasValue (P : FileTable → ℕ → Type 0) (t : FileTable) : Type 0 where
  pub number : ℕ
  pub is : P t number

-- where the table allows the values of its columns, some value of the choice net suits
pub table_up : (m : FileModel) (net : NetParts) → IsModelNet m net → (at : ℕ → ℕ) (value : List ℕ → ℕ) (k : ℕ) (t : FileTable) → slice_get m.tables k ≡ Some t
    → Follows m at value → (has_mark m.decls t ≡ true → at (mark_at (net_places m) t).0 ≡ mark_value t.rows (map value t.inputs)) → table_holds value t ≡ true
    → HasValue (Suits m net value) t
table_up m net is at value k t e f marked holds = record {
  number = given.value;
  is = record {
    outputs = λ to s j w o.
        let r = outputs_each to value t.outputs (outputs_of covers) j w (allow to s).outputs o in
        output_allows m net is to value k t e s.follows j w r.cover o r.listed ∙ r.allows;
    choice = λ to s several. choice_up m net is k t e to several (allow to s).chosen;
  };
}
  where
    covers : TableCovers
    covers = (table_of m net is k t e).covers

    values : column_values at (columns_at m.decls (net_places m) t) ≡ map value t.inputs
    values = values_follow m at value k t f e

    given : HasChoice (columns_at m.decls (net_places m) t) t (mark_at (net_places m) t)
        (choice_at (net_places m) t) covers (column_values at (columns_at m.decls (net_places m) t)) (map value t.outputs)
    given =
        (means m net is k t e).up at (range_follows m at value k t f e)
        (mark_has m net is k t e at (mark_value t.rows (column_values at (columns_at m.decls (net_places m) t)))
        (λ may. marked may ∙ ap (mark_value t.rows) (sym values)))
        (map value t.outputs) (length-map t.outputs value) (ap (λ (x : List ℕ). table_allows t.rows t.default x (map value t.outputs)) values ∙ holds)

    allow : (to : ℕ → ℕ) → FollowsTable m to value t given.value → AllowOutputs covers (choice_at (net_places m) t) to (map value t.outputs)
    allow to s =
        given.allow to (range_follows m to value k t s.follows e) (values_follow m to value k t s.follows e ∙ sym values)
        (mark_has m net is k t e to (mark_value t.rows (column_values at (columns_at m.decls (net_places m) t)))
        (λ may. s.mark may ∙ ap (mark_value t.rows) (sym values)))
        s.choice
