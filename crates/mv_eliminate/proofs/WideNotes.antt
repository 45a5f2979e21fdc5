-- The notes of nets that are too wide.
use Rattle.std.proofs.Common.{◌≡◌, ◌∙◌, ℕ, true, [], ◌∷◌, List, Option, Some, None, is_some, refl, sym, ap}
use Rattle.std.proofs.lemmas.Bool.{false≢true}
use Rattle.mv_entry.specs.declared.note.Note.TheVariants.{Dropped}
use Rattle.mv_entry.specs.declared.note.Why.TheVariants.{Lines}
use Rattle.mv_entry.specs.Entries.{Noted, HasVisibleNames}
use Rattle.mv_entry.proofs.Visible.{visible-one}
use Rattle.mv_net.specs.declared.parts.FlatNet.{FlatNet}
use Rattle.mv_net.specs.declared.parts.NetParts.{NetParts}
use Rattle.mv_net.specs.Formed.{WellFormed}
use Rattle.mv_net.specs.Index.{is_held, HasName}
use Rattle.mv_net.specs.Nets.{slot, name_in, table_in}
use Rattle.mv_rules.proofs.Spoken.{held_visible}
use Rattle.mv_gain.specs.Savings.{IsWideNet}
use Rattle.mv_eliminate.specs.Eliminates.{NotesWide, Tells}

table_held : (f : Option FlatNet) → is_some (table_in f) ≡ true → (g : FlatNet) × (f ≡ Some g)
table_held None e = absurd (false≢true e)
table_held (Some g) e = (g, refl)

pub wide_held : (net : NetParts) (n : ℕ) → IsWideNet net n → is_held net.nets n ≡ true
wide_held net n wide = ap (λ (f : Option FlatNet). is_some f) (table_held (slot net.nets n) wide.tabled).1

-- the name of its note can be seen
pub note_visible : (net : NetParts) (n : ℕ) (name : List ℕ) → WellFormed net → IsWideNet net n → name ≡ name_in (slot net.nets n) → HasVisibleNames (Noted (Dropped Lines name))
note_visible net n name formed wide named =
    let held = table_held (slot net.nets n) wide.tabled in
    let has : HasName net.nets n name = record { net = held.0; held = held.1; is = sym (named ∙ ap name_in held.1) } in
    visible-one (Noted (Dropped Lines name)) name refl (held_visible net n name formed has)

pub tells : (net : NetParts) (n : ℕ) (name : List ℕ) → IsWideNet net n → name ≡ name_in (slot net.nets n) → NotesWide n net (Noted (Dropped Lines name) ∷ []) net
tells net n name wide named = Tells wide (ap (λ w. Noted (Dropped Lines w) ∷ []) named) refl
