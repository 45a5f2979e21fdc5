-- What stands at the numbers of a table: the nets of its outputs, and before them those that are made for it.
use Rattle.std.proofs.Common.{◌≡◌, ℕ, zero, suc, ◌+◌, Bool, true, false, List, [], ◌∷◌, ◌++◌, length, get_or, Option, Some, None, refl, sym, ◌∙◌, ap, arith, All}
use Rattle.std.specs.Prelude.{if◌then◌else◌}
use Rattle.std.specs.Option.{is_some}
use Rattle.std.specs.List.{slice_get}
use Rattle.std.proofs.lemmas.Bool.{false≢true}
use Rattle.std.proofs.lemmas.Option.{none-some, same_Some, slice_get_within, slice_get-get_or, get_or_from_slice_get}
use Rattle.mv_base.specs.Names.{among, IsDistinct}
use Rattle.mv_base.specs.declared.number.NetId.{NetId}
use Rattle.mv_base.proofs.Lists.{get_front}
use Rattle.mv_base.proofs.NameLemmas.{among-at, IsPlace-from_among}
use Rattle.mv_cover.specs.declared.cover.Cover.{Cover}
use Rattle.mv_design.specs.declared.design.Decl.{Decl}
use Rattle.mv_design.specs.declared.table.FileTable.{FileTable}
use Rattle.mv_design.specs.Nets.{output_of}
use Rattle.mv_net.specs.declared.parts.FlatNet.{FlatNet}
use Rattle.mv_net.specs.Nets.{slot}
use Rattle.mv_resets.specs.NetModels.{HasLawfulValues}
use Rattle.mv_rows.specs.declared.column.Column.{Column}
use Rattle.mv_acyclic.specs.Numbers.{number_in}
use Rattle.mv_acyclic.proofs.Listed.{number_at}
use Rattle.mv_flat.specs.declared.covers.TableCovers.{TableCovers}
use Rattle.mv_flat.specs.declared.covers.TableCovers.TheVariants.{Single, Joint}
use Rattle.mv_flat.specs.Covers.{MadeNet, IsMadeTable, made_mark, mark_of, choices_in, made_of, outputs_of}
use Rattle.mv_flat.specs.Places.{has_mark, is_joint, marks_of, choices_of, made_places, table_places}
use Rattle.mv_flat.specs.Numbers.{columns_at, mark_name, mark_at, choice_name, choice_at}
use Rattle.mv_flat.specs.Built.{file_net, fresh_net, kind_of, output_nets, AreMade, IsFreshName}
use Rattle.mv_flat.specs.Placed.{IsPlacedTable}
use Rattle.mv_flat.proofs.Blocks.{IsBlock, made_size, marks_size, places_size, outputs_size}
use Rattle.mv_flat.proofs.HasMark.{covers_marked}
use Rattle.mv_flat.proofs.Numbered.{mark_number, choice_number}

-- ---- elements of lists in parts

pub get_behind : {X : Type 0} (xs ys : List X) (n k : ℕ) → n ≡ length xs + k → slice_get (xs ++ ys) n ≡ slice_get ys k
get_behind [] ys n k e = ap (slice_get ys) (omega arith)
get_behind (x ∷ xs) ys zero k e = absurd (omega arith)
get_behind (x ∷ xs) ys (suc n) k e = get_behind xs ys n k (omega arith)

-- an element at the front
at_front : {X : Type 0} (xs ys : List X) (k : ℕ) (x : X) → slice_get xs k ≡ Some x → slice_get (xs ++ ys) k ≡ Some x
at_front xs ys k x e = get_front xs ys k (slice_get_within xs k x e) ∙ e

-- an element of a list that stands between others
in_middle : {X : Type 0} (xs ys zs : List X) (k : ℕ) (y : X) → slice_get ys k ≡ Some y → slice_get (xs ++ (ys ++ zs)) (length xs + k) ≡ Some y
in_middle xs ys zs k y e = get_behind xs (ys ++ zs) (length xs + k) k refl ∙ at_front ys zs k y e

at_same : {X : Type 0} (xs : List X) (m n : ℕ) (x : X) → m ≡ n → slice_get xs m ≡ Some x → slice_get xs n ≡ Some x
at_same xs m n x e h = sym (ap (slice_get xs) e) ∙ h

-- ---- nets that are made

-- a net among those that are made, with a name that was fresh
record IsMadeAt (nets : List (Option FlatNet)) (k : ℕ) (made : MadeNet) : Type 0 where
  held : List (List ℕ)
  name : List ℕ
  fresh : IsFreshName held name
  at : slice_get nets k ≡ Some (fresh_net name made)

made_at : (ms : List MadeNet) (held : List (List ℕ)) (nets : List (Option FlatNet)) (after : List (List ℕ)) (k : ℕ) (made : MadeNet)
    → AreMade ms held nets after → slice_get ms k ≡ Some made → IsMadeAt nets k made
made_at [] held nets after k made h e = absurd (none-some made e)
made_at (m ∷ ms) held nets after zero made h e = record {
  held = held;
  name = h.name;
  fresh = h.fresh;
  at = ap (λ ns. slice_get ns 0) h.nets_are ∙ ap (λ x. Some (fresh_net h.name x)) (same_Some m made e);
}
made_at (m ∷ ms) held nets after (suc k) made h e =
    let r = made_at ms (held ++ h.name ∷ []) h.rest after k made h.are_rest e in
    record { held = r.held; name = r.name; fresh = r.fresh; at = ap (λ ns. slice_get ns (suc k)) h.nets_are ∙ r.at }

-- the mark is the first of those that are made
mark_first : (o : Option Cover) (more : List MadeNet) (c : Cover) → o ≡ Some c → slice_get (made_mark o ++ more) 0 ≡ Some (record { values = 2; cover = c })
mark_first None more c e = absurd (none-some c e)
mark_first (Some d) more c e = ap (λ (x : Cover). Some (record { values = 2; cover = x })) (same_Some d c e)

marks_first : (b : Bool) (u : List ℕ) (more : List (List ℕ)) → b ≡ true → slice_get ((if b then u ∷ [] else []) ++ more) 0 ≡ Some u
marks_first true u more e = refl
marks_first false u more e = absurd (false≢true e)

some_mark : (o : Option Cover) (c : Cover) → o ≡ Some c → is_some o ≡ true
some_mark o c e = ap is_some e

-- and the choice net stands behind it
choices_last : (b : Bool) (u : List ℕ) → b ≡ true → slice_get (if b then u ∷ [] else []) 0 ≡ Some u
choices_last true u e = refl
choices_last false u e = absurd (false≢true e)

choice_joint : (columns : List Column) (t : FileTable) (mark choice : NetId) (covers : TableCovers) (c : MadeNet) → IsMadeTable columns t mark choice covers
    → choices_in covers ≡ c ∷ [] → is_joint t ≡ true
choice_joint columns t mark choice (Single flat) c made e = absurd (let l = ap length e in omega (arith, l))
choice_joint columns t mark choice (Joint joint) c made e = made.0

-- ---- the nets of outputs

output_at : (ds : List Decl) (ws : List (List ℕ)) (cs : List Cover) (k : ℕ) (w : List ℕ) (c : Cover) → slice_get ws k ≡ Some w → slice_get cs k ≡ Some c
    → slice_get (output_nets ds ws cs) k ≡ Some (file_net ds (kind_of w) (Some c) w)
output_at ds [] cs k w c e f = absurd (none-some w e)
output_at ds (u ∷ us) [] k w c e f = absurd (none-some c f)
output_at ds (u ∷ us) (d ∷ cs) zero w c e f = λ i. Some (file_net ds (kind_of (same_Some u w e i)) (Some (same_Some d c f i)) (same_Some u w e i))
output_at ds (u ∷ us) (d ∷ cs) (suc k) w c e f = output_at ds us cs k w c e f

-- ---- a table

-- a made net stands at a number, with a name that was fresh
pub record StandsMade (nets : List (Option FlatNet)) (n : ℕ) (made : MadeNet) : Type 0 where
  pub held : List (List ℕ)
  pub name : List ℕ
  pub fresh : IsFreshName held name
  pub slot_is : slot nets n ≡ fresh_net name made

-- what stands at the numbers of a table
pub record IsTableAt (ds : List Decl) (names : List (List ℕ)) (nets : List (Option FlatNet)) (t : FileTable) : Type 0 where
  pub placed : IsPlacedTable ds names t
  pub covers : TableCovers
  pub are : IsMadeTable (columns_at ds names t) t (mark_at names t) (choice_at names t) covers
  pub many : length (outputs_of covers) ≡ length t.outputs
  pub listed : (w : List ℕ) → among w t.outputs ≡ true → among w names ≡ true
  pub output : (j : ℕ) (w : List ℕ) (c : Cover) → slice_get t.outputs j ≡ Some w → slice_get (outputs_of covers) j ≡ Some c
      → slot nets (number_in names w) ≡ file_net ds (kind_of w) (Some c) w
  pub has : is_some (mark_of covers) ≡ has_mark ds t
  pub marked : has_mark ds t ≡ true → among (mark_name (output_of t)) names ≡ true
  pub mark : (c : Cover) → mark_of covers ≡ Some c → StandsMade nets (mark_at names t).0 (record { values = 2; cover = c })
  pub chosen : is_joint t ≡ true → among (choice_name (output_of t)) names ≡ true
  pub choice : (c : MadeNet) → choices_in covers ≡ c ∷ [] → StandsMade nets (choice_at names t).0 c

module _ (ds : List Decl) (names : List (List ℕ)) (nets : List (Option FlatNet)) (t : FileTable) (proper : All HasLawfulValues ds) (distinct : IsDistinct names)
    (b : IsBlock ds names nets t) where
  made_level : length b.are.made ≡ length (made_places ds t)
  made_level = made_size (made_of b.are.covers) b.held b.are.made b.after b.are.are_made ∙ places_size ds names proper t b.are.covers b.placed b.are.are

  -- a name of the table, and its net
  name_here : (k : ℕ) (w : List ℕ) → slice_get (table_places ds t) k ≡ Some w → slice_get names (length b.front + k) ≡ Some w
  name_here k w e = ap (λ ns. slice_get ns (length b.front + k)) b.names_are ∙ in_middle b.front (table_places ds t) b.rest k w e

  net_here : (k : ℕ) (o : Option FlatNet) → slice_get (b.are.made ++ output_nets ds t.outputs (outputs_of b.are.covers)) k ≡ Some o
      → slice_get nets (length b.front + k) ≡ Some o
  net_here k o e =
      let here : slice_get b.here k ≡ Some o = ap (λ ns. slice_get ns k) b.are.nets_are ∙ e in
      let at : slice_get nets (length b.before + k) ≡ Some o =
      ap (λ ns. slice_get ns (length b.before + k)) b.nets_are ∙ in_middle b.before b.here b.behind k o here in
      at_same nets (length b.before + k) (length b.front + k) o (ap (λ n. n + k) b.level) at

  stands_here : (k : ℕ) (w : List ℕ) (o : Option FlatNet) → slice_get names (length b.front + k) ≡ Some w → slice_get nets (length b.front + k) ≡ Some o
      → slot nets (number_in names w) ≡ o
  stands_here k w o named held =
      ap (slot nets) (number_at names (length b.front + k) w distinct named) ∙ get_or_from_slice_get nets (length b.front + k) o None held

  output_here : (j : ℕ) (w : List ℕ) → slice_get t.outputs j ≡ Some w → slice_get names (length b.front + (length (made_places ds t) + j)) ≡ Some w
  output_here j w e =
      name_here (length (made_places ds t) + j) w (get_behind (made_places ds t) t.outputs (length (made_places ds t) + j) j refl ∙ e)

  output_stands : (j : ℕ) (w : List ℕ) (c : Cover) → slice_get t.outputs j ≡ Some w → slice_get (outputs_of b.are.covers) j ≡ Some c
      → slot nets (number_in names w) ≡ file_net ds (kind_of w) (Some c) w
  output_stands j w c e f =
      let o : Option FlatNet = file_net ds (kind_of w) (Some c) w in
      let outputs : List (Option FlatNet) = output_nets ds t.outputs (outputs_of b.are.covers) in
      stands_here (length (made_places ds t) + j) w o (output_here j w e)
      (net_here (length (made_places ds t) + j) o
      (get_behind b.are.made outputs (length (made_places ds t) + j) j (ap (λ n. n + j) (sym made_level))
      ∙ output_at ds t.outputs (outputs_of b.are.covers) j w c e f))

  made_here : (k : ℕ) (w : List ℕ) → slice_get (made_places ds t) k ≡ Some w → slice_get names (length b.front + k) ≡ Some w
  made_here k w e = name_here k w (at_front (made_places ds t) t.outputs k w e)

  -- a net that is made stands at the number of its name
  made_stands : (k n : ℕ) (w : List ℕ) (made : MadeNet) → slice_get (made_places ds t) k ≡ Some w → slice_get (made_of b.are.covers) k ≡ Some made
      → n ≡ number_in names w → StandsMade nets n made
  made_stands k n w made e f number =
      let m = made_at (made_of b.are.covers) b.held b.are.made b.after k made b.are.are_made f in
      let o : Option FlatNet = fresh_net m.name made in
      let held = net_here k o (at_front b.are.made (output_nets ds t.outputs (outputs_of b.are.covers)) k o m.at) in
      record { held = m.held; name = m.name; fresh = m.fresh; slot_is = ap (slot nets) number ∙ stands_here k w o (made_here k w e) held }

  mark_place : has_mark ds t ≡ true → slice_get (made_places ds t) 0 ≡ Some (mark_name (output_of t))
  mark_place may = marks_first (has_mark ds t) (mark_name (output_of t)) (choices_of t) may

  choice_place : is_joint t ≡ true → slice_get (made_places ds t) (length (marks_of ds t)) ≡ Some (choice_name (output_of t))
  choice_place joint =
      let end : length (marks_of ds t) ≡ length (marks_of ds t) + 0 = omega arith in
      get_behind (marks_of ds t) (choices_of t) (length (marks_of ds t)) 0 end ∙ choices_last (is_joint t) (choice_name (output_of t)) joint

  mark_named : has_mark ds t ≡ true → among (mark_name (output_of t)) names ≡ true
  mark_named may = among-at names (length b.front + 0) (mark_name (output_of t)) (made_here 0 (mark_name (output_of t)) (mark_place may))

  choice_named : is_joint t ≡ true → among (choice_name (output_of t)) names ≡ true
  choice_named joint =
      let k = length (marks_of ds t) in
      among-at names (length b.front + k) (choice_name (output_of t)) (made_here k (choice_name (output_of t)) (choice_place joint))

  mark_stands : (c : Cover) → mark_of b.are.covers ≡ Some c → StandsMade nets (mark_at names t).0 (record { values = 2; cover = c })
  mark_stands c e =
      let may : has_mark ds t ≡ true = sym (covers_marked ds names t b.are.covers proper b.placed b.are.are) ∙ some_mark (mark_of b.are.covers) c e in
      made_stands 0 (mark_at names t).0 (mark_name (output_of t)) (record { values = 2; cover = c }) (mark_place may)
      (mark_first (mark_of b.are.covers) (choices_in b.are.covers) c e) (mark_number names t (mark_named may))

  choice_stands : (c : MadeNet) → choices_in b.are.covers ≡ c ∷ [] → StandsMade nets (choice_at names t).0 c
  choice_stands c e =
      let joint = choice_joint (columns_at ds names t) t (mark_at names t) (choice_at names t) b.are.covers c b.are.are e in
      let marks : List MadeNet = made_mark (mark_of b.are.covers) in
      let end : length (marks_of ds t) ≡ length marks + 0 = let l = marks_size ds names proper t b.are.covers b.placed b.are.are in omega (arith, l) in
      made_stands (length (marks_of ds t)) (choice_at names t).0 (choice_name (output_of t)) c (choice_place joint)
      (get_behind marks (choices_in b.are.covers) (length (marks_of ds t)) 0 end ∙ ap (λ cs. slice_get cs 0) e) (choice_number names t (choice_named joint))

  output_listed : (w : List ℕ) → among w t.outputs ≡ true → among w names ≡ true
  output_listed w h =
      let p = IsPlace-from_among w t.outputs h in
      among-at names (length b.front + (length (made_places ds t) + p.0)) w (output_here p.0 w p.1.found)

pub table_at : (ds : List Decl) (names : List (List ℕ)) (nets : List (Option FlatNet)) (t : FileTable) → All HasLawfulValues ds → IsDistinct names
    → IsBlock ds names nets t → IsTableAt ds names nets t
table_at ds names nets t proper distinct b = record {
  placed = b.placed;
  covers = b.are.covers;
  are = b.are.are;
  many = outputs_size (columns_at ds names t) t (mark_at names t) (choice_at names t) b.are.covers b.placed.fits.some b.are.are;
  listed = output_listed ds names nets t proper distinct b;
  output = output_stands ds names nets t proper distinct b;
  has = covers_marked ds names t b.are.covers proper b.placed b.are.are;
  marked = mark_named ds names nets t proper distinct b;
  mark = mark_stands ds names nets t proper distinct b;
  chosen = choice_named ds names nets t proper distinct b;
  choice = choice_stands ds names nets t proper distinct b;
}

-- the cover of an output by its place
pub record HasCover (cs : List Cover) (j : ℕ) : Type 0 where
  pub cover : Cover
  pub at : slice_get cs j ≡ Some cover

-- each output has a cover
pub cover_at : (ds : List Decl) (names : List (List ℕ)) (nets : List (Option FlatNet)) (t : FileTable) → (a : IsTableAt ds names nets t) → (j : ℕ) (w : List ℕ)
    → slice_get t.outputs j ≡ Some w → HasCover (outputs_of a.covers) j
cover_at ds names nets t a j w e =
    let l = slice_get_within t.outputs j w e in
    let many = a.many in
    record {
      cover = get_or (outputs_of a.covers) j no_cover;
      at = slice_get-get_or (outputs_of a.covers) j no_cover (omega (arith, l, many));
    }
  where
    no_cover : Cover
    no_cover = record { lines = []; default = None }
