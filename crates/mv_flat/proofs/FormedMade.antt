-- The nets that stand at the places of a table: each output's, its mark's and its choice net's.
use Rattle.std.proofs.Common.{◌≡◌, ℕ, true, List, [], ◌∷◌, Option, Some, None, refl, sym, ◌∙◌, ap}
use Rattle.std.specs.Option.{is_some}
use Rattle.std.specs.List.{slice_get}
use Rattle.std.proofs.lemmas.Bool.{false≢true}
use Rattle.mv_cover.specs.declared.cover.Cover.{Cover}
use Rattle.mv_design.specs.declared.design.Decl.{Decl}
use Rattle.mv_design.specs.declared.table.FileTable.{FileTable}
use Rattle.mv_net.specs.declared.parts.FlatNet.{FlatNet}
use Rattle.mv_net.specs.Nets.{slot}
use Rattle.mv_rows.specs.declared.column.Column.{Column}
use Rattle.mv_base.specs.declared.number.NetId.{NetId}
use Rattle.mv_acyclic.specs.Numbers.{number_in}
use Rattle.mv_flat.specs.declared.covers.TableCovers.{TableCovers}
use Rattle.mv_flat.specs.declared.covers.TableCovers.TheVariants.{Single, Joint}
use Rattle.mv_flat.specs.Built.{file_net, kind_of}
use Rattle.mv_flat.specs.Covers.{MadeNet, IsMadeTable, mark_of, choices_in, outputs_of}
use Rattle.mv_flat.specs.Numbers.{columns_at, mark_at, choice_at}
use Rattle.mv_flat.specs.Places.{has_mark, is_joint}
use Rattle.mv_flat.proofs.Slots.{IsTableAt, StandsMade, cover_at}

-- ---- outputs

-- an output's net with its cover
pub record IsOutputNet (ds : List Decl) (names : List (List ℕ)) (nets : List (Option FlatNet)) (covers : TableCovers) (j : ℕ) (w : List ℕ) : Type 0 where
  pub cover : Cover
  pub listed : slice_get (outputs_of covers) j ≡ Some cover
  pub slot_is : slot nets (number_in names w) ≡ file_net ds (kind_of w) (Some cover) w

pub output_net : (ds : List Decl) (names : List (List ℕ)) (nets : List (Option FlatNet)) (t : FileTable) (here : IsTableAt ds names nets t) (j : ℕ)
    (w : List ℕ) → slice_get t.outputs j ≡ Some w → IsOutputNet ds names nets here.covers j w
output_net ds names nets t here j w e =
    let r = cover_at ds names nets t here j w e in
    record { cover = r.cover; listed = r.at; slot_is = here.output j w r.cover e r.at }

-- ---- the mark

-- a mark's net with its cover
pub record IsMarkNet (names : List (List ℕ)) (nets : List (Option FlatNet)) (t : FileTable) (covers : TableCovers) : Type 0 where
  pub cover : Cover
  pub is : mark_of covers ≡ Some cover
  pub stands : StandsMade nets (mark_at names t).0 (record { values = 2; cover = cover })

pub mark_net : (ds : List Decl) (names : List (List ℕ)) (nets : List (Option FlatNet)) (t : FileTable) (here : IsTableAt ds names nets t)
    → has_mark ds t ≡ true → IsMarkNet names nets t here.covers
mark_net ds names nets t here may = by_mark (mark_of here.covers) refl
  where
    by_mark : (o : Option Cover) → mark_of here.covers ≡ o → IsMarkNet names nets t here.covers
    by_mark None e = absurd (false≢true (sym (ap is_some e) ∙ (here.has ∙ may)))
    by_mark (Some c) e = record { cover = c; is = e; stands = here.mark c e }

-- a table whose covers have a mark gets one
pub marked_has : (ds : List Decl) (names : List (List ℕ)) (nets : List (Option FlatNet)) (t : FileTable) (here : IsTableAt ds names nets t) (c : Cover)
    → mark_of here.covers ≡ Some c → has_mark ds t ≡ true
marked_has ds names nets t here c e = sym here.has ∙ ap is_some e

-- ---- the choice net

-- a choice net with its cover
pub record IsChoiceNet (names : List (List ℕ)) (nets : List (Option FlatNet)) (t : FileTable) (covers : TableCovers) : Type 0 where
  pub made : MadeNet
  pub is : choices_in covers ≡ made ∷ []
  pub stands : StandsMade nets (choice_at names t).0 made

pub choice_net : (ds : List Decl) (names : List (List ℕ)) (nets : List (Option FlatNet)) (t : FileTable) (here : IsTableAt ds names nets t)
    → is_joint t ≡ true → IsChoiceNet names nets t here.covers
choice_net ds names nets t here joint = by_covers here.covers here.are here.choice
  where
    by_covers : (covers : TableCovers) → IsMadeTable (columns_at ds names t) t (mark_at names t) (choice_at names t) covers
        → ((c : MadeNet) → choices_in covers ≡ c ∷ [] → StandsMade nets (choice_at names t).0 c) → IsChoiceNet names nets t covers
    by_covers (Single flat) are stands = absurd (false≢true (sym are.0 ∙ joint))
    by_covers (Joint table) are stands = record { made = _; is = refl; stands = stands _ refl }

-- a table whose covers have a choice net has several outputs
pub chosen_joint : (columns : List Column) (t : FileTable) (mark choice : NetId) (covers : TableCovers) (made : MadeNet)
    → IsMadeTable columns t mark choice covers → choices_in covers ≡ made ∷ [] → is_joint t ≡ true
chosen_joint columns t mark choice (Single flat) made are e = absurd (cc)
chosen_joint columns t mark choice (Joint table) made are e = are.0
