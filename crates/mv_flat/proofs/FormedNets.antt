-- Each net of a model's network is well formed by itself.
use Rattle.std.proofs.Common.{◌≡◌, ℕ, ◌<◌, ◌≤◌, true, false, List, length, Option, Some, None, is_some, refl, sym, ◌∙◌, ap, subst, arith, ⊎_elim}
use Rattle.std.proofs.lemmas.Bool.{false≢true, cases_lt}
use Rattle.std.proofs.lemmas.Option.{none-some, same_Some}
use Rattle.mv_base.specs.Names.{among, is_net_name}
use Rattle.mv_base.specs.declared.limits.TheConstants.{MAX_VALUES}
use Rattle.mv_base.proofs.NameLemmas.{among-at}
use Rattle.mv_cover.specs.declared.cover.Cover.{Cover}
use Rattle.mv_design.specs.Values.{values_of, count_of}
use Rattle.mv_design.specs.declared.design.FileModel.{FileModel}
use Rattle.mv_net.specs.declared.parts.FlatNet.{FlatNet}
use Rattle.mv_net.specs.declared.parts.NetParts.{NetParts}
use Rattle.mv_net.specs.declared.parts.Kind.{Kind}
use Rattle.mv_net.specs.declared.parts.Kind.TheVariants.{Input, Latch, Table, Reset}
use Rattle.mv_net.specs.Nets.{slot}
use Rattle.mv_net.specs.Formed.{has_table, IsCover, IsNet}
use Rattle.mv_flat.specs.Places.{net_places}
use Rattle.mv_flat.specs.Numbers.{mark_at, choice_at}
use Rattle.mv_flat.specs.Built.{file_net, kind_of}
use Rattle.mv_flat.specs.Covers.{MadeNet}
use Rattle.mv_net.proofs.LawfulMade.{made_lawful}
use Rattle.mv_flat.proofs.Lawful.{open_of, kind_open, open_lawful, plain_lawful, kind_has_table}
use Rattle.mv_flat.proofs.Slots.{StandsMade}
use Rattle.mv_flat.proofs.Places.{IsModelNet, table_of, open_slot, OpenPlace, OutputPlace, MarkPlace, ChoicePlace, TablePlace, place_at, no_slot}
use Rattle.mv_flat.proofs.Naming.{named_flat, table_output_named}
use Rattle.mv_flat.proofs.FormedValues.{values_are, named_kept}
use Rattle.mv_flat.proofs.FormedMade.{output_net, mark_net, choice_net}
use Rattle.mv_flat.proofs.FormedTables.{output_cover, mark_cover, choice_cover, choice_size}

-- what stands there, if a net does, is well formed
abbrev IsFormed : List (Option FlatNet) → Option FlatNet → Type 0
IsFormed nets s = (f : FlatNet) → s ≡ Some f → IsNet nets f

formed_some : (nets : List (Option FlatNet)) (f : FlatNet) → IsNet nets f → IsFormed nets (Some f)
formed_some nets f is g e = let P : FlatNet → Type 0 = IsNet nets in subst P (same_Some f g e) is

formed_none : (nets : List (Option FlatNet)) → IsFormed nets None
formed_none nets f e = absurd (none-some f e)

-- ---- nets of the model

file_formed : (m : FileModel) (net : NetParts) → IsModelNet m net → (kind : Kind) (table : Option Cover) (w : List ℕ)
    → ((kind ≡ Reset → ⊥) → is_net_name w ≡ true) → is_some table ≡ has_table kind → ((c : Cover) → table ≡ Some c → IsCover net.nets (count_of m.decls w) c)
    → IsFormed net.nets (file_net m.decls kind table w)
file_formed m net is kind table w lawful some cover =
    let values = values_are m.decls w is.proper.decls in
    formed_some net.nets _
    (record {
      some = values.some;
      few = values.few;
      named = named_kept (values_of m.decls w) values;
      name = lawful;
      table = some;
      cover = cover;
    })

open_tableless : (m : FileModel) (kind : Kind) (w : List ℕ) → among w (open_of m kind) ≡ true → false ≡ has_table kind
open_tableless m Input w h = refl
open_tableless m Latch w h = refl
open_tableless m Table w h = absurd (false≢true h)
open_tableless m Reset w h = absurd (false≢true h)

open_formed : (m : FileModel) (net : NetParts) → IsModelNet m net → (n : ℕ) → OpenPlace m n → IsFormed net.nets (slot net.nets n)
open_formed m net is n p =
    let P : Option FlatNet → Type 0 = IsFormed net.nets in
    subst P (sym (ap (slot net.nets) p.number ∙ open_slot m net is p.kind p.name p.listed))
    (file_formed m net is p.kind None p.name (λ plain. open_lawful m is.proper p.name (kind_open m p.kind p.name p.listed))
    (open_tableless m p.kind p.name p.listed) (λ c e. absurd (none-some c e)))

output_formed : (m : FileModel) (net : NetParts) → IsModelNet m net → (n : ℕ) → OutputPlace m n → IsFormed net.nets (slot net.nets n)
output_formed m net is n p =
    let P : Option FlatNet → Type 0 = IsFormed net.nets in
    let o = output_net m.decls (net_places m) net.nets p.table (table_of m net is p.place p.table p.listed) p.index p.name p.output in
    let named = table_output_named m p.place p.table p.name p.listed (among-at p.table.outputs p.index p.name p.output) in
    let Q : Cover → Type 0 = IsCover net.nets (count_of m.decls p.name) in
    subst P (sym (ap (slot net.nets) p.number ∙ o.slot_is))
    (file_formed m net is (kind_of p.name) (Some o.cover) p.name (plain_lawful p.name (named_flat m net is p.name named)) (sym (kind_has_table p.name))
    (λ c e. subst Q (same_Some o.cover c e) (output_cover m net is p.place p.table p.listed p.index p.name o.cover p.output o.listed)))

-- ---- nets that are made

-- a net that is made is well formed where it has some values, but not too many, and a cover for these
made_formed : (nets : List (Option FlatNet)) (n : ℕ) (made : MadeNet) → StandsMade nets n made → 0 < made.values → made.values ≤ MAX_VALUES
    → IsCover nets made.values made.cover → IsFormed nets (slot nets n)
made_formed nets n made stands some few cover =
    let P : Option FlatNet → Type 0 = IsFormed nets in
    let Q : Cover → Type 0 = IsCover nets made.values in
    subst P (sym stands.slot_is)
    (formed_some nets _
    (record {
      some = some;
      few = few;
      named = record { lawful = refl; differ = refl; each = λ some. absurd (let none : 0 < 0 = some in omega arith); spelled = λ h. refl };
      name = λ plain. ap is_net_name stands.fresh.is ∙ made_lawful stands.fresh.number (let small = stands.fresh.small in omega arith);
      table = refl;
      cover = λ d e. subst Q (same_Some made.cover d e) cover;
    }))

mark_formed : (m : FileModel) (net : NetParts) → IsModelNet m net → (n : ℕ) → MarkPlace m n → IsFormed net.nets (slot net.nets n)
mark_formed m net is n p =
    let P : Option FlatNet → Type 0 = IsFormed net.nets in
    let o = mark_net m.decls (net_places m) net.nets p.table (table_of m net is p.place p.table p.listed) p.may in
    subst P (sym (ap (slot net.nets) p.number))
    (made_formed net.nets (mark_at (net_places m) p.table).0 (record { values = 2; cover = o.cover }) o.stands (omega arith) (omega arith)
    (mark_cover m net is p.place p.table p.listed o.cover o.is))

choice_formed : (m : FileModel) (net : NetParts) → IsModelNet m net → (n : ℕ) → ChoicePlace m n → IsFormed net.nets (slot net.nets n)
choice_formed m net is n p =
    let P : Option FlatNet → Type 0 = IsFormed net.nets in
    let o = choice_net m.decls (net_places m) net.nets p.table (table_of m net is p.place p.table p.listed) p.joint in
    let size = choice_size m net is p.place p.table p.listed o.made o.is in
    subst P (sym (ap (slot net.nets) p.number))
    (made_formed net.nets (choice_at (net_places m) p.table).0 o.made o.stands size.some size.few (choice_cover m net is p.place p.table p.listed o.made o.is))

table_formed : (m : FileModel) (net : NetParts) → IsModelNet m net → (n : ℕ) → TablePlace m n → IsFormed net.nets (slot net.nets n)
table_formed m net is n p =
    ⊎_elim (λ (o : OutputPlace m n). output_formed m net is n o)
    (λ q. ⊎_elim (λ (o : MarkPlace m n). mark_formed m net is n o) (λ (o : ChoicePlace m n). choice_formed m net is n o) q)
    p

-- each net is well formed
pub nets_formed : (m : FileModel) (net : NetParts) → IsModelNet m net → (n : ℕ) (f : FlatNet) → slot net.nets n ≡ Some f → IsNet net.nets f
nets_formed m net is n =
    ⊎_elim
    (λ (low : n < length (net_places m)).
    ⊎_elim (λ (p : OpenPlace m n). open_formed m net is n p) (λ (p : TablePlace m n). table_formed m net is n p) (place_at m net is n low))
    (λ (high : length (net_places m) ≤ n). let P : Option FlatNet → Type 0 = IsFormed net.nets in subst P (sym (no_slot m net is n high)) (formed_none net.nets))
    (cases_lt n (length (net_places m)))
