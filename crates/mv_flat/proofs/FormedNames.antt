-- No two nets of a model's network have one name: the drivers are apart, and the name of each net that is made is new.
use Rattle.std.proofs.Common.{◌≡◌, ◌⊎◌, ℕ, zero, suc, true, false, List, [], ◌∷◌, ◌++◌, length, map, Option, Some, None, refl, sym, ◌∙◌, ap, subst, arith, ⊎_elim, inl, inr, All}
use Rattle.std.specs.List.{flat_map}
use Rattle.std.proofs.lemmas.Bool.{false≢true, or_parts}
use Rattle.std.proofs.lemmas.List.{append_assoc}
use Rattle.std.proofs.lemmas.List.Elements.{All-head, All-tail}
use Rattle.std.proofs.lemmas.Option.{none-some, same_Some}
use Rattle.mv_base.specs.Names.{among, AreApart}
use Rattle.mv_base.proofs.NameLemmas.{among-append}
use Rattle.mv_cover.specs.declared.cover.Cover.{Cover}
use Rattle.mv_design.specs.declared.design.Decl.{Decl}
use Rattle.mv_design.specs.declared.design.FileModel.{FileModel}
use Rattle.mv_design.specs.declared.table.FileTable.{FileTable}
use Rattle.mv_net.specs.declared.parts.FlatNet.{FlatNet}
use Rattle.mv_net.specs.declared.parts.NetParts.{NetParts}
use Rattle.mv_net.specs.declared.parts.Kind.{Kind}
use Rattle.mv_net.specs.declared.parts.Kind.TheVariants.{Input, Latch}
use Rattle.mv_net.specs.Nets.{slot}
use Rattle.mv_design.specs.Nets.{drivers, latch_outputs, nets_driven}
use Rattle.mv_flat.specs.Places.{net_places}
use Rattle.mv_flat.specs.Built.{file_net, output_nets, AreMade, AreTables}
use Rattle.mv_flat.specs.Covers.{MadeNet, made_of, outputs_of}
use Rattle.mv_flat.specs.Numbers.{columns_at, mark_at, choice_at}
use Rattle.mv_flat.proofs.Blocks.{outputs_size}
use Rattle.mv_flat.proofs.Places.{IsModelNet}
use Rattle.mv_resets.specs.NetModels.{IsNetTable}
use Rattle.mv_acyclic.proofs.Soundness.{in_left, in_right}
use Rattle.mv_flat.proofs.Naming.{among_first, among_later}

-- ---- nets whose names are those of drivers in order, or new

-- the name is that of the next driver
record IsNext (Rest : List (List ℕ) → Type 0) (left : List (List ℕ)) (w : List ℕ) : Type 0 where
  rest : List (List ℕ)
  is : left ≡ w ∷ rest
  are : Rest rest

-- each net has the name of the next driver, or one that isn't held and then is
abbrev AreNamed : List (List ℕ) → List (List ℕ) → List (Option FlatNet) → Type 0
AreNamed left held [] = Unit {0}
AreNamed left held (None ∷ fs) = AreNamed left held fs
AreNamed left held (Some f ∷ fs) = IsNext (λ rest. AreNamed rest held fs) left f.name ⊎ ((among f.name held ≡ false) × AreNamed left (held ++ f.name ∷ []) fs)

abbrev Lies : List (List ℕ) → List (List ℕ) → Type 0
Lies us ws = (w : List ℕ) → among w us ≡ true → among w ws ≡ true

rest_lies : (left held rest : List (List ℕ)) (w : List ℕ) → left ≡ w ∷ rest → Lies left held → Lies rest held
rest_lies left held rest w e lies u h = lies u (ap (among u) e ∙ among_later u w rest h)

next_held : (left held rest : List (List ℕ)) (w : List ℕ) → left ≡ w ∷ rest → Lies left held → among w held ≡ true
next_held left held rest w e lies = lies w (ap (among w) e ∙ among_first w rest)

longer_lies : (left held : List (List ℕ)) (w : List ℕ) → Lies left held → Lies left (held ++ w ∷ [])
longer_lies left held w lies u h = in_left u held (w ∷ []) (lies u h)

not_before : (held : List (List ℕ)) (w u : List ℕ) → among u (held ++ w ∷ []) ≡ false → among u held ≡ false
not_before held w u h = (or_parts (among u held) (among u (w ∷ [])) (sym (among-append u held (w ∷ [])) ∙ h)).0

-- ---- the names of such nets

left_or_new : (left held : List (List ℕ)) (fs : List (Option FlatNet)) (n : ℕ) (f : FlatNet) → AreNamed left held fs → Lies left held
    → slot fs n ≡ Some f → (among f.name left ≡ true) ⊎ (among f.name held ≡ false)
left_or_new left held [] n f named lies e = absurd (none-some f e)
left_or_new left held (None ∷ fs) zero f named lies e = absurd (none-some f e)
left_or_new left held (None ∷ fs) (suc n) f named lies e = left_or_new left held fs n f named lies e
left_or_new left held (Some g ∷ fs) zero f named lies e =
    let same : g ≡ f = same_Some g f e in
    ⊎_elim
    (λ (i : IsNext (λ rest. AreNamed rest held fs) left g.name).
    inl (ap (λ (h : FlatNet). among h.name left) (sym same) ∙ (ap (among g.name) i.is ∙ among_first g.name i.rest)))
    (λ (i : (among g.name held ≡ false) × AreNamed left (held ++ g.name ∷ []) fs). inr (ap (λ (h : FlatNet). among h.name held) (sym same) ∙ i.0))
    named
left_or_new left held (Some g ∷ fs) (suc n) f named lies e =
    ⊎_elim
    (λ (i : IsNext (λ rest. AreNamed rest held fs) left g.name).
    ⊎_elim (λ (y : among f.name i.rest ≡ true). inl (ap (among f.name) i.is ∙ among_later f.name g.name i.rest y)) (λ (y : among f.name held ≡ false). inr y)
    (left_or_new i.rest held fs n f i.are (rest_lies left held i.rest g.name i.is lies) e))
    (λ (i : (among g.name held ≡ false) × AreNamed left (held ++ g.name ∷ []) fs).
    ⊎_elim (λ (y : among f.name left ≡ true). inl y) (λ (y : among f.name (held ++ g.name ∷ []) ≡ false). inr (not_before held g.name f.name y))
    (left_or_new left (held ++ g.name ∷ []) fs n f i.1 (longer_lies left held g.name lies) e))
    named

-- a net behind the first has another name
others_differ : (left held : List (List ℕ)) (g : FlatNet) (fs : List (Option FlatNet)) (n : ℕ) (f : FlatNet) → AreNamed left held (Some g ∷ fs)
    → Lies left held → AreApart left → slot fs n ≡ Some f → g.name ≡ f.name → ⊥
others_differ left held g fs n f named lies apart e same =
    ⊎_elim
    (λ (i : IsNext (λ rest. AreNamed rest held fs) left g.name).
    let a : AreApart (g.name ∷ i.rest) = subst AreApart i.is apart in
    ⊎_elim (λ (y : among f.name i.rest ≡ true). false≢true (sym a.0 ∙ (ap (λ w. among w i.rest) same ∙ y)))
    (λ (y : among f.name held ≡ false). false≢true (sym y ∙ (ap (λ w. among w held) (sym same) ∙ next_held left held i.rest g.name i.is lies)))
    (left_or_new i.rest held fs n f i.are (rest_lies left held i.rest g.name i.is lies) e))
    (λ (i : (among g.name held ≡ false) × AreNamed left (held ++ g.name ∷ []) fs).
    ⊎_elim (λ (y : among f.name left ≡ true). false≢true (sym i.0 ∙ (ap (λ w. among w held) same ∙ lies f.name y)))
    (λ (y : among f.name (held ++ g.name ∷ []) ≡ false).
    false≢true (sym y ∙ (ap (λ w. among w (held ++ g.name ∷ [])) (sym same) ∙ in_right g.name held (g.name ∷ []) (among_first g.name []))))
    (left_or_new left (held ++ g.name ∷ []) fs n f i.1 (longer_lies left held g.name lies) e))
    named

differ : (left held : List (List ℕ)) (fs : List (Option FlatNet)) (n k : ℕ) (f g : FlatNet) → AreNamed left held fs → Lies left held → AreApart left
    → slot fs n ≡ Some f → slot fs k ≡ Some g → f.name ≡ g.name → n ≡ k
differ left held [] n k f g named lies apart e h same = absurd (none-some f e)
differ left held (None ∷ fs) zero k f g named lies apart e h same = absurd (none-some f e)
differ left held (None ∷ fs) (suc n) zero f g named lies apart e h same = absurd (none-some g h)
differ left held (None ∷ fs) (suc n) (suc k) f g named lies apart e h same = ap suc (differ left held fs n k f g named lies apart e h same)
differ left held (Some x ∷ fs) zero zero f g named lies apart e h same = refl
differ left held (Some x ∷ fs) zero (suc k) f g named lies apart e h same =
    absurd (others_differ left held x fs k g named lies apart h (ap (λ (y : FlatNet). y.name) (same_Some x f e) ∙ same))
differ left held (Some x ∷ fs) (suc n) zero f g named lies apart e h same =
    absurd (others_differ left held x fs n f named lies apart e (ap (λ (y : FlatNet). y.name) (same_Some x g h) ∙ sym same))
differ left held (Some x ∷ fs) (suc n) (suc k) f g named lies apart e h same =
    ap suc
    (⊎_elim
    (λ (i : IsNext (λ rest. AreNamed rest held fs) left x.name).
    let a : AreApart (x.name ∷ i.rest) = subst AreApart i.is apart in
    differ i.rest held fs n k f g i.are (rest_lies left held i.rest x.name i.is lies) a.1 e h same)
    (λ (i : (among x.name held ≡ false) × AreNamed left (held ++ x.name ∷ []) fs).
    differ left (held ++ x.name ∷ []) fs n k f g i.1 (longer_lies left held x.name lies) apart e h same)
    named)

-- ---- the nets of a model are such

-- nets that are made have new names, one after the other
made_named : (left held : List (List ℕ)) (ms : List MadeNet) (made : List (Option FlatNet)) (after : List (List ℕ)) (fs : List (Option FlatNet))
    → AreMade ms held made after → AreNamed left after fs → AreNamed left held (made ++ fs)
made_named left held [] made after fs are named =
    let P : List (Option FlatNet) → Type 0 = λ ns. AreNamed left held (ns ++ fs) in
    let Q : List (List ℕ) → Type 0 = λ ws. AreNamed left ws fs in
    subst P (sym are.nets_are) (subst Q are.after_is named)
made_named left held (m ∷ ms) made after fs are named =
    let P : List (Option FlatNet) → Type 0 = λ ns. AreNamed left held (ns ++ fs) in
    subst P (sym are.nets_are) (inr (are.fresh.fresh, made_named left (held ++ are.name ∷ []) ms are.rest after fs are.are_rest named))

-- and those of outputs have the names of these
outputs_named : (ds : List Decl) (ws : List (List ℕ)) (cs : List Cover) (left held : List (List ℕ)) (fs : List (Option FlatNet)) → length cs ≡ length ws
    → AreNamed left held fs → AreNamed (ws ++ left) held (output_nets ds ws cs ++ fs)
outputs_named ds [] cs left held fs many named = named
outputs_named ds (w ∷ ws) [] left held fs many named = absurd (omega (arith, many))
outputs_named ds (w ∷ ws) (c ∷ cs) left held fs many named =
    inl (record { rest = ws ++ left; is = refl; are = outputs_named ds ws cs left held fs (omega (arith, many)) named })

tables_named : (ds : List Decl) (names : List (List ℕ)) (ts : List FileTable) (held : List (List ℕ)) (fs : List (Option FlatNet)) → All (IsNetTable ds) ts
    → AreTables ds names ts held fs → AreNamed (flat_map nets_driven ts) held fs
tables_named ds names [] held fs proper a =
    let P : List (Option FlatNet) → Type 0 = AreNamed [] held in
    subst P (sym a) tt
tables_named ds names (t ∷ ts) held fs proper a =
    let P : List (Option FlatNet) → Type 0 = AreNamed (flat_map nets_driven (t ∷ ts)) held in
    let here = a.are_here in
    let some = (All-head (IsNetTable ds) t ts proper).some in
    let many = outputs_size (columns_at ds names t) t (mark_at names t) (choice_at names t) here.covers some here.are in
    subst P (sym (a.joined ∙ (ap (λ x. x ++ a.rest) here.nets_are ∙ append_assoc here.made (output_nets ds t.outputs (outputs_of here.covers)) a.rest)))
    (made_named (flat_map nets_driven (t ∷ ts)) held (made_of here.covers) here.made a.after
    (output_nets ds t.outputs (outputs_of here.covers) ++ a.rest) here.are_made
    (outputs_named ds t.outputs (outputs_of here.covers) (flat_map nets_driven ts) a.after a.rest many
    (tables_named ds names ts a.after a.rest (All-tail (IsNetTable ds) t ts proper) a.are_rest)))

open_nets_named : (ds : List Decl) (kind : Kind) (ws left held : List (List ℕ)) (fs : List (Option FlatNet)) → AreNamed left held fs
    → AreNamed (ws ++ left) held (map (file_net ds kind None) ws ++ fs)
open_nets_named ds kind [] left held fs named = named
open_nets_named ds kind (w ∷ ws) left held fs named = inl (record { rest = ws ++ left; is = refl; are = open_nets_named ds kind ws left held fs named })

all_named : (m : FileModel) (net : NetParts) → IsModelNet m net → AreNamed (drivers m) (drivers m) net.nets
unfolding drivers
all_named m net is =
    let P : List (Option FlatNet) → Type 0 = AreNamed (drivers m) (drivers m) in
    let states : List (Option FlatNet) = map (file_net m.decls Latch None) (latch_outputs m) in
    let outputs : List (List ℕ) = flat_map nets_driven m.tables in
    subst P (sym (is.built.nets_are ∙ append_assoc (map (file_net m.decls Input None) m.inputs) states is.built.of_tables))
    (open_nets_named m.decls Input m.inputs (latch_outputs m ++ outputs) (drivers m) (states ++ is.built.of_tables)
    (open_nets_named m.decls Latch (latch_outputs m) outputs (drivers m) is.built.of_tables
    (tables_named m.decls (net_places m) m.tables (drivers m) is.built.of_tables is.proper.tables is.built.are_tables)))

-- no two nets have one name
pub nets_differ : (m : FileModel) (net : NetParts) → IsModelNet m net → (n k : ℕ) (f g : FlatNet) → slot net.nets n ≡ Some f → slot net.nets k ≡ Some g
    → f.name ≡ g.name → n ≡ k
nets_differ m net is n k f g e h same = differ (drivers m) (drivers m) net.nets n k f g (all_named m net is) (λ w y. y) is.once.apart e h same
