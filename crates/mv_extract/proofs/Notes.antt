-- The notes of nets of whose tables a cover has too many kernels.
use Rattle.std.proofs.Common.{◌≡◌, ◌∙◌, ℕ, true, [], ◌∷◌, List, Option, Some, None, is_some, refl, sym, ap}
use Rattle.std.specs.Prelude.{Contains}
use Rattle.mv_divide.specs.declared.part.Part.{Part}
use Rattle.mv_divide.specs.Tables.{parts_of}
use Rattle.mv_entry.specs.declared.note.Note.TheVariants.{Dropped}
use Rattle.mv_entry.specs.declared.note.Why.TheVariants.{Kernels}
use Rattle.mv_entry.specs.Entries.{Noted, HasVisibleNames}
use Rattle.mv_entry.proofs.Visible.{visible-one}
use Rattle.mv_kernels.proofs.Lists.{Contains-none}
use Rattle.mv_gains.specs.Candidates.{HasManyKernels}
use Rattle.mv_gains.specs.Gains.{lines_at}
use Rattle.mv_net.specs.declared.parts.FlatNet.{FlatNet}
use Rattle.mv_net.specs.declared.parts.NetParts.{NetParts}
use Rattle.mv_net.specs.Formed.{WellFormed}
use Rattle.mv_net.specs.Index.{is_held, HasName}
use Rattle.mv_net.specs.Nets.{slot, name_in}
use Rattle.mv_rules.proofs.Spoken.{held_visible}
use Rattle.mv_extract.specs.Extracts.{NotesKernels, Tells}

-- a net of whose table there is a cover is held
part_held : (f : Option FlatNet) (part : Part) → Contains (parts_of (lines_at f)) part → (g : FlatNet) × (f ≡ Some g)
part_held None part there = absurd (Contains-none part there)
part_held (Some g) part there = (g, refl)

pub many_held : (net : NetParts) (n : ℕ) → HasManyKernels net.nets n → is_held net.nets n ≡ true
many_held net n many = ap (λ (f : Option FlatNet). is_some f) (part_held (slot net.nets n) many.there.part many.there.there).1

-- the name of its note can be seen
pub note_visible : (net : NetParts) (n : ℕ) (name : List ℕ) → WellFormed net → HasManyKernels net.nets n → name ≡ name_in (slot net.nets n) → HasVisibleNames (Noted (Dropped Kernels name))
note_visible net n name formed many named =
    let held = part_held (slot net.nets n) many.there.part many.there.there in
    let has : HasName net.nets n name = record { net = held.0; held = held.1; is = sym (named ∙ ap name_in held.1) } in
    visible-one (Noted (Dropped Kernels name)) name refl (held_visible net n name formed has)

pub tells : (net : NetParts) (n : ℕ) (name : List ℕ) → HasManyKernels net.nets n → name ≡ name_in (slot net.nets n) → NotesKernels n net (Noted (Dropped Kernels name) ∷ []) net
tells net n name many named = Tells many (ap (λ w. Noted (Dropped Kernels w) ∷ []) named) refl
