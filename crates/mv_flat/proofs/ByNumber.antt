-- What is said of the nets of a model by name, and of the marks and the choice nets by the names of their tables' first outputs, said by
-- number.
use Rattle.std.proofs.Common.{◌≡◌, ℕ, ◌<◌, true, false, List, [], ◌∷◌, length, get_or, Some, refl, ◌∙◌, ap}
use Rattle.std.specs.Prelude.{if◌then◌else◌, ◌==◌}
use Rattle.std.specs.List.{slice_get}
use Rattle.std.proofs.lemmas.Bool.{cond-false}
use Rattle.mv_base.specs.Names.{among}
use Rattle.mv_design.specs.declared.design.FileModel.{FileModel}
use Rattle.mv_design.specs.declared.table.FileTable.{FileTable}
use Rattle.mv_design.specs.Nets.{nets_named, output_of}
use Rattle.mv_net.specs.declared.parts.NetParts.{NetParts}
use Rattle.mv_acyclic.specs.Numbers.{number_in}
use Rattle.mv_acyclic.proofs.Listed.{name_at}
use Rattle.mv_flat.specs.Numbers.{mark_name, mark_at, choice_name, choice_at}
use Rattle.mv_flat.specs.Places.{net_places, has_mark, is_joint}
use Rattle.mv_flat.proofs.Lawful.{is_spaced, flat_unspaced}
use Rattle.mv_flat.proofs.Numbered.{mark_number, choice_number}
use Rattle.mv_flat.proofs.Places.{IsModelNet, table_of, named_file}
use Rattle.mv_flat.proofs.Naming.{named_flat, output_of_among, table_output_named}

-- of a name among the names by number, behind its first space: that of a choice net has another
abbrev pub of_made : {X : Type 0} → (List ℕ → X) → (List ℕ → X) → List ℕ → X
of_made of_mark of_choice [] = of_mark []
of_made of_mark of_choice (b ∷ bs) = if b == 32 then of_choice bs else of_mark (b ∷ bs)

-- of a name among the names by number
abbrev pub of_name : {X : Type 0} → (List ℕ → X) → (List ℕ → X) → (List ℕ → X) → List ℕ → X
of_name of_net of_mark of_choice [] = of_net []
of_name of_net of_mark of_choice (b ∷ bs) = if b == 32 then of_made of_mark of_choice bs else of_net (b ∷ bs)

-- and of a number
abbrev pub of_number : {X : Type 0} → FileModel → (List ℕ → X) → (List ℕ → X) → (List ℕ → X) → ℕ → X
of_number m of_net of_mark of_choice n = of_name of_net of_mark of_choice (get_or (net_places m) n [])

unspaced_made : {X : Type 0} (of_mark of_choice : List ℕ → X) (w : List ℕ) → is_spaced w ≡ false → of_made of_mark of_choice w ≡ of_mark w
unspaced_made of_mark of_choice [] h = refl
unspaced_made of_mark of_choice (b ∷ bs) h = cond-false (b == 32) _ _ h

unspaced : {X : Type 0} (of_net of_mark of_choice : List ℕ → X) (w : List ℕ) → is_spaced w ≡ false → of_name of_net of_mark of_choice w ≡ of_net w
unspaced of_net of_mark of_choice [] h = refl
unspaced of_net of_mark of_choice (b ∷ bs) h = cond-false (b == 32) _ _ h

pub at_net : {X : Type 0} (m : FileModel) (net : NetParts) → IsModelNet m net → (of_net of_mark of_choice : List ℕ → X) (w : List ℕ)
    → among w (nets_named m) ≡ true → of_number m of_net of_mark of_choice (number_in (net_places m) w) ≡ of_net w
at_net m net is of_net of_mark of_choice w h =
    ap (of_name of_net of_mark of_choice) (name_at (net_places m) w (named_file m net is w h).listed)
    ∙ unspaced of_net of_mark of_choice w (flat_unspaced w (named_flat m net is w h))

-- the name of a table's first output has no space
output_unspaced : (m : FileModel) (net : NetParts) → IsModelNet m net → (k : ℕ) (t : FileTable) → slice_get m.tables k ≡ Some t
    → is_spaced (output_of t) ≡ false
output_unspaced m net is k t e =
    let some : 0 < length t.outputs = (table_of m net is k t e).placed.fits.some in
    flat_unspaced (output_of t) (named_flat m net is (output_of t) (table_output_named m k t (output_of t) e (output_of_among t some)))

pub at_mark : {X : Type 0} (m : FileModel) (net : NetParts) → IsModelNet m net → (of_net of_mark of_choice : List ℕ → X) (k : ℕ) (t : FileTable)
    → slice_get m.tables k ≡ Some t → has_mark m.decls t ≡ true → of_number m of_net of_mark of_choice (mark_at (net_places m) t).0 ≡ of_mark (output_of t)
at_mark m net is of_net of_mark of_choice k t e may =
    let listed = (table_of m net is k t e).marked may in
    ap (of_number m of_net of_mark of_choice) (mark_number (net_places m) t listed)
    ∙ (ap (of_name of_net of_mark of_choice) (name_at (net_places m) (mark_name (output_of t)) listed)
    ∙ unspaced_made of_mark of_choice (output_of t) (output_unspaced m net is k t e))

pub at_choice : {X : Type 0} (m : FileModel) (net : NetParts) → IsModelNet m net → (of_net of_mark of_choice : List ℕ → X) (k : ℕ) (t : FileTable)
    → slice_get m.tables k ≡ Some t → is_joint t ≡ true → of_number m of_net of_mark of_choice (choice_at (net_places m) t).0 ≡ of_choice (output_of t)
at_choice m net is of_net of_mark of_choice k t e joint =
    let listed = (table_of m net is k t e).chosen joint in
    ap (of_number m of_net of_mark of_choice) (choice_number (net_places m) t listed)
    ∙ ap (of_name of_net of_mark of_choice) (name_at (net_places m) (choice_name (output_of t)) listed)
