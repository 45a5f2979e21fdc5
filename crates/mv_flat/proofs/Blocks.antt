-- Where the nets of each table stand: the names by number and the nets by number run side by side.
use Rattle.std.proofs.Common.{◌≡◌, ℕ, zero, suc, ◌+◌, ◌<◌, Bool, true, false, List, [], ◌∷◌, ◌++◌, length, Option, Some, None, refl, sym, ◌∙◌, ap, subst, arith, All}
use Rattle.std.specs.Prelude.{if◌then◌else◌, is_some}
use Rattle.std.specs.List.{flat_map, slice_get}
use Rattle.std.proofs.lemmas.Bool.{false≢true}
use Rattle.std.proofs.lemmas.List.{append_assoc, length-append}
use Rattle.std.proofs.lemmas.List.Elements.{All-head, All-tail}
use Rattle.std.proofs.lemmas.Option.{none-some, same_Some}
use Rattle.mv_base.specs.declared.number.NetId.{NetId}
use Rattle.mv_cover.specs.declared.cover.Cover.{Cover}
use Rattle.mv_design.specs.declared.design.Decl.{Decl}
use Rattle.mv_design.specs.declared.table.FileTable.{FileTable}
use Rattle.mv_resets.specs.NetModels.{HasLawfulValues}
use Rattle.mv_rows.specs.declared.column.Column.{Column}
use Rattle.mv_net.specs.declared.parts.FlatNet.{FlatNet}
use Rattle.mv_design.specs.Nets.{output_of}
use Rattle.mv_flat.specs.declared.covers.TableCovers.{TableCovers}
use Rattle.mv_flat.specs.declared.covers.TableCovers.TheVariants.{Single, Joint}
use Rattle.mv_flat.specs.Covers.{MadeNet, made_mark, mark_of, choices_in, made_of, outputs_of, IsMadeTable}
use Rattle.mv_flat.specs.Numbers.{columns_at, mark_name, mark_at, choice_name, choice_at}
use Rattle.mv_flat.specs.Places.{has_mark, marks_of, choices_of, made_places, table_places}
use Rattle.mv_flat.specs.Built.{output_nets, AreMade, AreTableNets, AreTables}
use Rattle.mv_flat.specs.Placed.{IsPlacedTable}
use Rattle.mv_flat.proofs.HasMark.{covers_marked}
use Rattle.mv_flat.proofs.Singles.{single_output}

-- ---- as many nets as places

-- nets that are made, one after the other, are as many as what they are made of
pub made_size : (ms : List MadeNet) (held : List (List ℕ)) (nets : List (Option FlatNet)) (after : List (List ℕ)) → AreMade ms held nets after
    → length nets ≡ length ms
made_size [] held nets after h = ap length h.nets_are
made_size (m ∷ ms) held nets after h = ap length h.nets_are ∙ ap suc (made_size ms (held ++ h.name ∷ []) h.rest after h.are_rest)

mark_size : (o : Option Cover) (b : Bool) (u : List ℕ) → is_some o ≡ b → length (made_mark o) ≡ length (if b then u ∷ [] else [])
mark_size (Some c) true u e = refl
mark_size None true u e = absurd (false≢true e)
mark_size (Some c) false u e = absurd (false≢true (sym e))
mark_size None false u e = refl

-- a table's covers have a choice net where the table is joint
pub choices_size : (columns : List Column) (t : FileTable) (mark choice : NetId) (covers : TableCovers) → IsMadeTable columns t mark choice covers
    → length (choices_in covers) ≡ length (choices_of t)
choices_size columns t mark choice (Single flat) made = sym (ap (λ b. length (if b then choice_name (output_of t) ∷ [] else [])) made.0)
choices_size columns t mark choice (Joint joint) made = sym (ap (λ b. length (if b then choice_name (output_of t) ∷ [] else [])) made.0)

-- and a cover for each output
pub outputs_size : (columns : List Column) (t : FileTable) (mark choice : NetId) (covers : TableCovers) → 0 < length t.outputs
    → IsMadeTable columns t mark choice covers → length (outputs_of covers) ≡ length t.outputs
outputs_size columns t mark choice (Single flat) some made = sym (single_output t made.0 some)
outputs_size columns t mark choice (Joint joint) some made = made.1.many

output_nets_size : (ds : List Decl) (ws : List (List ℕ)) (cs : List Cover) → length cs ≡ length ws → length (output_nets ds ws cs) ≡ length ws
output_nets_size ds [] cs e = refl
output_nets_size ds (w ∷ ws) [] e = absurd (omega arith)
output_nets_size ds (w ∷ ws) (c ∷ cs) e = ap suc (output_nets_size ds ws cs (omega arith))

-- the nets of a table, with what stands before and behind its names and its nets
pub record IsBlock (ds : List Decl) (names : List (List ℕ)) (nets : List (Option FlatNet)) (t : FileTable) : Type 0 where
  pub placed : IsPlacedTable ds names t
  pub front : List (List ℕ)
  pub rest : List (List ℕ)
  pub before : List (Option FlatNet)
  pub behind : List (Option FlatNet)
  pub held : List (List ℕ)
  pub after : List (List ℕ)
  pub here : List (Option FlatNet)
  pub are : AreTableNets ds names held t here after
  pub names_are : names ≡ front ++ (table_places ds t ++ rest)
  pub nets_are : nets ≡ before ++ (here ++ behind)
  pub level : length before ≡ length front

module _ (ds : List Decl) (names : List (List ℕ)) (proper : All HasLawfulValues ds) where
  -- a table has a mark's net where its names have a mark
  pub marks_size : (t : FileTable) (covers : TableCovers) → IsPlacedTable ds names t
      → IsMadeTable (columns_at ds names t) t (mark_at names t) (choice_at names t) covers → length (made_mark (mark_of covers)) ≡ length (marks_of ds t)
  marks_size t covers p made = mark_size (mark_of covers) (has_mark ds t) (mark_name (output_of t)) (covers_marked ds names t covers proper p made)

  -- as many nets are made as have places
  pub places_size : (t : FileTable) (covers : TableCovers) → IsPlacedTable ds names t
      → IsMadeTable (columns_at ds names t) t (mark_at names t) (choice_at names t) covers → length (made_of covers) ≡ length (made_places ds t)
  places_size t covers p made =
      length-append (made_mark (mark_of covers)) (choices_in covers)
      ∙ ((λ i. marks_size t covers p made i + choices_size (columns_at ds names t) t (mark_at names t) (choice_at names t) covers made i)
      ∙ sym (length-append (marks_of ds t) (choices_of t)))

  block_size : (held : List (List ℕ)) (t : FileTable) (here : List (Option FlatNet)) (after : List (List ℕ)) → IsPlacedTable ds names t
      → AreTableNets ds names held t here after → length here ≡ length (table_places ds t)
  block_size held t here after p a =
      let outputs : List (Option FlatNet) = output_nets ds t.outputs (outputs_of a.covers) in
      let many = outputs_size (columns_at ds names t) t (mark_at names t) (choice_at names t) a.covers p.fits.some a.are in
      let made = made_size (made_of a.covers) held a.made after a.are_made ∙ places_size t a.covers p a.are in
      let each = output_nets_size ds t.outputs (outputs_of a.covers) many in
      ap length a.nets_are ∙ (length-append a.made outputs ∙ ((λ i. made i + each i) ∙ sym (length-append (made_places ds t) t.outputs)))

  -- tables' nets have as many elements as their names
  pub blocks_size : (held : List (List ℕ)) (ts : List FileTable) (nets : List (Option FlatNet)) → All (IsPlacedTable ds names) ts → AreTables ds names ts held nets → length nets ≡ length (flat_map (table_places ds) ts)
  blocks_size held [] nets known a = ap length a
  blocks_size held (t ∷ ts) nets known a =
      ap length a.joined
      ∙ (length-append a.here a.rest
      ∙ ((λ i. block_size held t a.here a.after (All-head (IsPlacedTable ds names) t ts known) a.are_here i + blocks_size a.after ts a.rest (All-tail (IsPlacedTable ds names) t ts known) a.are_rest i)
      ∙ sym (length-append (table_places ds t) (flat_map (table_places ds) ts))))

  -- the block of each table
  pub block_at : (nets : List (Option FlatNet)) (front : List (List ℕ)) (before : List (Option FlatNet)) (ts : List FileTable) (held : List (List ℕ)) (here : List (Option FlatNet)) → All (IsPlacedTable ds names) ts → AreTables ds names ts held here → names ≡ front ++ flat_map (table_places ds) ts → nets ≡ before ++ here → length before ≡ length front → (k : ℕ) (t : FileTable) → slice_get ts k ≡ Some t → IsBlock ds names nets t
  block_at nets front before [] held here known a n f l k t e = absurd (none-some t e)
  block_at nets front before (u ∷ us) held here known a n f l zero t e =
      let P : FileTable → Type 0 = IsBlock ds names nets in
      subst P (same_Some u t e)
      (record {
        placed = All-head (IsPlacedTable ds names) u us known;
        front = front;
        rest = flat_map (table_places ds) us;
        before = before;
        behind = a.rest;
        held = held;
        after = a.after;
        here = a.here;
        are = a.are_here;
        names_are = n;
        nets_are = f ∙ ap (λ x. before ++ x) a.joined;
        level = l;
      })
  block_at nets front before (u ∷ us) held here known a n f l (suc k) t e =
      let longer : length (before ++ a.here) ≡ length (front ++ table_places ds u) =
      length-append before a.here
      ∙ ((λ i. l i + block_size held u a.here a.after (All-head (IsPlacedTable ds names) u us known) a.are_here i) ∙ sym (length-append front (table_places ds u))) in
      block_at nets (front ++ table_places ds u) (before ++ a.here) us a.after a.rest (All-tail (IsPlacedTable ds names) u us known) a.are_rest
      (n ∙ sym (append_assoc front (table_places ds u) (flat_map (table_places ds) us)))
      (f ∙ (ap (λ x. before ++ x) a.joined ∙ sym (append_assoc before a.here a.rest)))
      longer k t e
