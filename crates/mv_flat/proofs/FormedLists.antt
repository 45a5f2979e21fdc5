-- The inputs, outputs and latches of a model's network: each net of their kinds once, and outputs that can be read.
use Rattle.std.proofs.Common.{◌≡◌, ◌⊎◌, ℕ, ◌<◌, ◌≤◌, true, false, not, List, [], ◌∷◌, length, map, Option, Some, None, refl, sym, ◌∙◌, ap, subst, ⊎_elim, inl, inr}
use Rattle.std.proofs.lemmas.Bool.{false≢true, and_from, and_parts, cases_lt, false_from_ne_true, not-true, not_from_false}
use Rattle.mv_base.specs.Names.{among, is_net_name, names_differ}
use Rattle.mv_base.specs.declared.number.NetId.{NetId}
use Rattle.mv_base.proofs.NameLemmas.{among-at}
use Rattle.mv_design.specs.declared.design.FileModel.{FileModel}
use Rattle.mv_net.specs.declared.parts.FlatNet.{FlatNet}
use Rattle.mv_net.specs.declared.parts.NetParts.{NetParts}
use Rattle.mv_net.specs.declared.parts.Kind.{Kind}
use Rattle.mv_net.specs.declared.parts.Kind.TheVariants.{Table, Reset}
use Rattle.mv_net.specs.Nets.{slot}
use Rattle.mv_graph.specs.Nets.{all_differ, has_id}
use Rattle.mv_net.specs.Formed.{has_table, IsKind, IsReadable, AreKind}
use Rattle.mv_design.specs.Nets.{drivers, nets_named}
use Rattle.mv_flat.specs.Built.{kind_of}
use Rattle.mv_flat.specs.Places.{net_places}
use Rattle.mv_acyclic.specs.Numbers.{net_in, number_in}
use Rattle.mv_acyclic.proofs.Names.{all_among}
use Rattle.mv_flat.proofs.Lawful.{open_of, kind_has_table}
use Rattle.mv_flat.proofs.Numbered.{same_number}
use Rattle.mv_flat.proofs.Places.{IsModelNet, table_of, open_slot, OpenPlace, OutputPlace, MarkPlace, ChoicePlace, TablePlace, place_at, no_slot, named_file}
use Rattle.mv_acyclic.proofs.Commands.{output_named}
use Rattle.mv_flat.proofs.Naming.{IsNumberOf, number_listed, listed_number, among_first, among_later, open_named, table_output_named}
use Rattle.mv_flat.proofs.FormedMade.{output_net, mark_net, choice_net}
use Rattle.mv_flat.proofs.FormedTables.{file_readable}

-- ---- the kinds of nets

-- a net stands there, and is of this kind
abbrev HasKind : Option FlatNet → Kind → Type 0
HasKind None kind = ⊥
HasKind (Some f) kind = f.kind ≡ kind

kind_there : (nets : List (Option FlatNet)) (n : ℕ) (kind : Kind) (s : Option FlatNet) → slot nets n ≡ s → IsKind nets n kind → HasKind s kind
kind_there nets n kind s e is = let P : Option FlatNet → Type 0 = λ o. HasKind o kind in subst P (sym is.held ∙ e) is.is

-- the net of a table is of this kind by its name
pub record IsOutputOf (m : FileModel) (kind : Kind) (n : ℕ) : Type 0 where
  pub name : List ℕ
  pub driven : among name (drivers m) ≡ true
  pub is : kind_of name ≡ kind
  pub number : number_in (net_places m) name ≡ n

open_there : (m : FileModel) (net : NetParts) → IsModelNet m net → (n : ℕ) (kind : Kind) → IsKind net.nets n kind → OpenPlace m n
    → IsNumberOf (net_places m) (open_of m kind) n
open_there m net is n kind k p =
    let there : p.kind ≡ kind = kind_there net.nets n kind _ (ap (slot net.nets) p.number ∙ open_slot m net is p.kind p.name p.listed) k in
    record { name = p.name; listed = ap (λ x. among p.name (open_of m x)) (sym there) ∙ p.listed; number = sym p.number }

output_there : (m : FileModel) (net : NetParts) → IsModelNet m net → (n : ℕ) (kind : Kind) → IsKind net.nets n kind → OutputPlace m n → IsOutputOf m kind n
output_there m net is n kind k p =
    let o = output_net m.decls (net_places m) net.nets p.table (table_of m net is p.place p.table p.listed) p.index p.name p.output in
    record {
      name = p.name;
      driven = is.driven p.name (table_output_named m p.place p.table p.name p.listed (among-at p.table.outputs p.index p.name p.output));
      is = kind_there net.nets n kind _ (ap (slot net.nets) p.number ∙ o.slot_is) k;
      number = sym p.number;
    }

mark_there : (m : FileModel) (net : NetParts) → IsModelNet m net → (n : ℕ) (kind : Kind) → IsKind net.nets n kind → MarkPlace m n → Table ≡ kind
mark_there m net is n kind k p =
    let o = mark_net m.decls (net_places m) net.nets p.table (table_of m net is p.place p.table p.listed) p.may in
    kind_there net.nets n kind _ (ap (slot net.nets) p.number ∙ o.stands.slot_is) k

choice_there : (m : FileModel) (net : NetParts) → IsModelNet m net → (n : ℕ) (kind : Kind) → IsKind net.nets n kind → ChoicePlace m n → Table ≡ kind
choice_there m net is n kind k p =
    let o = choice_net m.decls (net_places m) net.nets p.table (table_of m net is p.place p.table p.listed) p.joint in
    kind_there net.nets n kind _ (ap (slot net.nets) p.number ∙ o.stands.slot_is) k

table_there : (m : FileModel) (net : NetParts) → IsModelNet m net → (n : ℕ) (kind : Kind) → IsKind net.nets n kind → TablePlace m n
    → IsOutputOf m kind n ⊎ (Table ≡ kind)
table_there m net is n kind k p =
    ⊎_elim (λ (o : OutputPlace m n). inl (output_there m net is n kind k o))
    (λ q. inr (⊎_elim (λ (o : MarkPlace m n). mark_there m net is n kind k o) (λ (o : ChoicePlace m n). choice_there m net is n kind k o) q))
    p

-- a net of a kind is one without a table, the output of a table, or one that is made
kinds : (m : FileModel) (net : NetParts) → IsModelNet m net → (n : ℕ) (kind : Kind) → IsKind net.nets n kind
    → IsNumberOf (net_places m) (open_of m kind) n ⊎ (IsOutputOf m kind n ⊎ (Table ≡ kind))
kinds m net is n kind k =
    ⊎_elim
    (λ (low : n < length (net_places m)).
    ⊎_elim (λ (p : OpenPlace m n). inl (open_there m net is n kind k p)) (λ (p : TablePlace m n). inr (table_there m net is n kind k p))
    (place_at m net is n low))
    (λ (high : length (net_places m) ≤ n). absurd (kind_there net.nets n kind None (no_slot m net is n high) k))
    (cases_lt n (length (net_places m)))

-- ---- lists of numbers

numbers_differ : (m : FileModel) (net : NetParts) → IsModelNet m net → (ws : List (List ℕ))
    → ((w : List ℕ) → among w ws ≡ true → among w (nets_named m) ≡ true) → names_differ ws ≡ true → all_differ (map (net_in (net_places m)) ws) ≡ true
numbers_differ m net is [] named h = refl
numbers_differ m net is (w ∷ ws) named h =
    let p = and_parts (not (among w ws)) (names_differ ws) h in
    let listed : (u : List ℕ) → among u (w ∷ ws) ≡ true → among u (net_places m) ≡ true = λ u y. (named_file m net is u (named u y)).listed in
    and_from _ _
    (not_from_false _
    (false_from_ne_true (has_id (map (net_in (net_places m)) ws) (number_in (net_places m) w)) (λ y.
    let c = number_listed (λ (n : NetId). n.0) (net_in (net_places m)) (net_places m) ws (number_in (net_places m) w) (λ u. refl) y in
    let same : c.name ≡ w = same_number (net_places m) c.name w (listed c.name (among_later c.name w ws c.listed)) (listed w (among_first w ws)) c.number in
    false≢true (sym (not-true (among w ws) p.0) ∙ (ap (λ u. among u ws) (sym same) ∙ c.listed)))))
    (numbers_differ m net is ws (λ u y. named u (among_later u w ws y)) p.1)

-- a reset net is the output of a table
pub reset_output : (m : FileModel) (net : NetParts) → IsModelNet m net → (n : ℕ) → IsKind net.nets n Reset → IsOutputOf m Reset n
reset_output m net is n k =
    ⊎_elim (λ (c : IsNumberOf (net_places m) [] n). absurd (false≢true c.listed))
    (λ q. ⊎_elim (λ (o : IsOutputOf m Reset n). o) (λ (e : Table ≡ Reset). absurd (cc)) q)
    (kinds m net is n Reset k)

-- nets that are of a kind, and all nets of it
pub names_formed : (m : FileModel) (net : NetParts) → IsModelNet m net → (kind : Kind) (ws : List (List ℕ))
    → ((w : List ℕ) → among w ws ≡ true → among w (nets_named m) ≡ true) → names_differ ws ≡ true
    → ((n : ℕ) → IsKind net.nets n kind → IsNumberOf (net_places m) ws n) → ((w : List ℕ) → among w ws ≡ true → IsKind net.nets (number_in (net_places m) w) kind)
    → (list : List NetId) → list ≡ map (net_in (net_places m)) ws → AreKind net.nets kind list
names_formed m net is kind ws named differ all only list e =
    let P : List NetId → Type 0 = AreKind net.nets kind in
    subst P (sym e)
    (record {
      all = λ n k.
          let c = all n.0 k in
          listed_number (λ (i : NetId). i.0) (net_in (net_places m)) (net_places m) ws c.name n.0 (λ u. refl) c.listed c.number;
      only = λ n h.
          let c = number_listed (λ (i : NetId). i.0) (net_in (net_places m)) (net_places m) ws n.0 (λ u. refl) h in
          let Q : ℕ → Type 0 = λ j. IsKind net.nets j kind in
          subst Q c.number (only c.name c.listed);
      once = numbers_differ m net is ws named differ;
    })

-- ---- inputs, outputs and latches

pub open_only : (m : FileModel) (net : NetParts) → IsModelNet m net → (kind : Kind) → has_table kind ≡ false → (n : ℕ) → IsKind net.nets n kind
    → IsNumberOf (net_places m) (open_of m kind) n
open_only m net is kind tableless n k =
    ⊎_elim (λ (c : IsNumberOf (net_places m) (open_of m kind) n). c)
    (λ q.
    ⊎_elim (λ (o : IsOutputOf m kind n). absurd (false≢true (sym tableless ∙ (ap has_table (sym o.is) ∙ kind_has_table o.name))))
    (λ (e : Table ≡ kind). absurd (false≢true (sym tableless ∙ ap has_table (sym e))))
    q)
    (kinds m net is n kind k)

-- the nets of a kind without tables
pub open_formed : (m : FileModel) (net : NetParts) → IsModelNet m net → (kind : Kind) → has_table kind ≡ false → names_differ (open_of m kind) ≡ true
    → (list : List NetId) → list ≡ map (net_in (net_places m)) (open_of m kind) → AreKind net.nets kind list
open_formed m net is kind tableless differ list e =
    names_formed m net is kind (open_of m kind) (open_named m kind) differ (open_only m net is kind tableless)
    (λ w h. record { net = _; held = open_slot m net is kind w h; is = refl }) list e

pub outputs_formed : (m : FileModel) (net : NetParts) → IsModelNet m net → (n : NetId) → has_id net.outputs n.0 ≡ true → IsReadable net.nets n.0
outputs_formed m net is n h =
    let c = number_listed (λ (i : NetId). i.0) (net_in (net_places m)) (net_places m) m.outputs n.0 (λ u. refl) (ap (λ ns. has_id ns n.0) (sym is.built.outputs) ∙ h) in
    let Q : ℕ → Type 0 = IsReadable net.nets in
    subst Q c.number
    (file_readable m net.nets c.name (all_among is_net_name m.outputs c.name is.proper.outputs c.listed)
    (named_file m net is c.name (output_named m c.name c.listed)))

pub outputs_once : (m : FileModel) (net : NetParts) → IsModelNet m net → all_differ net.outputs ≡ true
outputs_once m net is = ap all_differ is.built.outputs ∙ numbers_differ m net is m.outputs (output_named m) is.proper.outputs_differ
