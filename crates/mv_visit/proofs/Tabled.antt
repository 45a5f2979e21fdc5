-- Nets that have a table, and the notes that they stay.
use Rattle.std.proofs.Common.{◌≡◌, ◌∙◌, ℕ, true, false, List, [], ◌∷◌, Option, Some, None, is_some, refl, sym, ap, subst}
use Rattle.std.proofs.lemmas.Bool.{false≢true}
use Rattle.mv_cover.specs.declared.cover.Cover.{Cover}
use Rattle.mv_entry.specs.declared.note.Note.TheVariants.{Dropped}
use Rattle.mv_entry.specs.declared.note.Why.{Why}
use Rattle.mv_entry.specs.Entries.{Noted, HasVisibleNames}
use Rattle.mv_entry.proofs.Visible.{visible-one}
use Rattle.mv_net.specs.declared.parts.FlatNet.{FlatNet}
use Rattle.mv_net.specs.declared.parts.NetParts.{NetParts}
use Rattle.mv_net.specs.Formed.{IsCover, WellFormed}
use Rattle.mv_net.specs.Index.{is_held, HasName}
use Rattle.mv_net.specs.Nets.{slot, values_in, name_in, table_in}
use Rattle.mv_plans.specs.Checks.{IsTabled}
use Rattle.mv_rules.proofs.Spoken.{held_visible}
use Rattle.mv_visit.specs.Visits.{IsNoted}

-- the net with a table
pub record HasNet (nets : List (Option FlatNet)) (n : ℕ) : Type 0 where
  pub net : FlatNet
  pub held : slot nets n ≡ Some net

pub has_net : (nets : List (Option FlatNet)) (n : ℕ) → is_some (table_in (slot nets n)) ≡ true → HasNet nets n
has_net nets n tabled = by (slot nets n) refl tabled
  where
    by : (f : Option FlatNet) → slot nets n ≡ f → is_some (table_in f) ≡ true → HasNet nets n
    by None held t = absurd (false≢true t)
    by (Some f) held t = record { net = f; held = held }

pub tabled_held : (nets : List (Option FlatNet)) (n : ℕ) → is_some (table_in (slot nets n)) ≡ true → is_held nets n ≡ true
tabled_held nets n tabled = ap (λ f. is_some f) (has_net nets n tabled).held

-- a number without a net has no table
pub unheld_bare : (nets : List (Option FlatNet)) (n : ℕ) → is_held nets n ≡ false → is_some (table_in (slot nets n)) ≡ false
unheld_bare nets n none = by (slot nets n) none
  where
    by : (f : Option FlatNet) → is_some f ≡ false → is_some (table_in f) ≡ false
    by None h = refl
    by (Some f) h = absurd (false≢true (sym h))

-- it has its name
pub its_name : (nets : List (Option FlatNet)) (n : ℕ) → is_some (table_in (slot nets n)) ≡ true → HasName nets n (name_in (slot nets n))
its_name nets n tabled = let t = has_net nets n tabled in record { net = t.net; held = t.held; is = sym (ap name_in t.held) }

pub its_table : (nets : List (Option FlatNet)) (n : ℕ) → is_some (table_in (slot nets n)) ≡ true → IsTabled nets (name_in (slot nets n)) n
its_table nets n tabled = record { named = its_name nets n tabled; table = tabled }

-- the table
pub record HasCover (nets : List (Option FlatNet)) (n : ℕ) : Type 0 where
  pub cover : Cover
  pub is : table_in (slot nets n) ≡ Some cover

pub has_cover : (nets : List (Option FlatNet)) (n : ℕ) → is_some (table_in (slot nets n)) ≡ true → HasCover nets n
has_cover nets n tabled = by (table_in (slot nets n)) refl tabled
  where
    by : (t : Option Cover) → table_in (slot nets n) ≡ t → is_some t ≡ true → HasCover nets n
    by None is h = absurd (false≢true h)
    by (Some c) is h = record { cover = c; is = is }

-- a table of a well-formed network is a cover of its net's values
pub its_cover : (net : NetParts) (n : ℕ) (c : Cover) → WellFormed net → table_in (slot net.nets n) ≡ Some c → IsCover net.nets (values_in (slot net.nets n)) c
its_cover net n c formed is = by (slot net.nets n) refl is
  where
    by : (f : Option FlatNet) → slot net.nets n ≡ f → table_in f ≡ Some c → IsCover net.nets (values_in f) c
    by None held t = absurd cc
    by (Some f) held t = (formed.nets n f held).cover c t

-- ---- the notes

pub note_visible : (net : NetParts) (n : ℕ) (why : Why) (name : List ℕ) → WellFormed net → is_some (table_in (slot net.nets n)) ≡ true → name ≡ name_in (slot net.nets n) → HasVisibleNames (Noted (Dropped why name))
note_visible net n why name formed tabled named =
    visible-one (Noted (Dropped why name)) name refl (held_visible net n name formed (subst (HasName net.nets n) (sym named) (its_name net.nets n tabled)))

pub noted_so : (net : NetParts) (n : ℕ) (why : Why) (name : List ℕ) → name ≡ name_in (slot net.nets n) → IsNoted n why net (Noted (Dropped why name) ∷ []) net
noted_so net n why name named = record { entries_are = ap (λ w. Noted (Dropped why w) ∷ []) named; same = refl }
