-- The places of a walk's list are those of the tree of instances, in the same order.
use Rattle.std.proofs.Common.{◌≡◌, ℕ, zero, suc, ◌+◌, ◌<◌, Bool, true, false, List, [], ◌∷◌, ◌++◌, length, get_or, map, drop, Some, refl, sym, ◌∙◌, ap, subst, arith, add-one}
use Rattle.std.specs.Prelude.{if◌then◌else◌, unwrap_or}
use Rattle.std.specs.List.{slice_get}
use Rattle.std.specs.Option.{option_map}
use Rattle.std.proofs.lemmas.List.{append-nil, append_assoc, length-append, get_or_append_left}
use Rattle.std.proofs.Math.Seq.{get_or-append_seam}
use Rattle.std.proofs.lemmas.Option.{get_or_from_slice_get, slice_get_within, none-some, same_Some}
use Rattle.mv_base.specs.Names.{same_word, place_of}
use Rattle.mv_base.proofs.NameLemmas.{place_of-cons}
use Rattle.mv_design.specs.declared.design.Design.{Design}
use Rattle.mv_design.specs.declared.design.FileModel.{FileModel}
use Rattle.mv_design.specs.declared.design.Instance.{Instance}
use Rattle.mv_design.specs.Nets.{no_model, root_of}
use Rattle.mv_tree.specs.Tree.{Instances, NoMore, More, Unfolds, model_named, size_of}
use Rattle.mv_tree.specs.Places.{Place, root_place, place_in, places_in, places}
use Rattle.mv_walk.specs.declared.opened.Opened.{Opened}
use Rattle.mv_walk.specs.Walk.{HasTree}
use Rattle.mv_walk.specs.Openings.{openings, AreOpened}
use Rattle.mv_unfold.specs.Placed.{model_place, model_at, no_instance, instance_at, place_at, instance_in, opened_place, with_places, places_by, IsPlaced, ArePlaced}

-- ---- the model with a name

abbrev model_names : List FileModel → List (List ℕ)
model_names ms = map (λ m. m.name) ms

-- the model stands at the place of its name
pub record IsNamed (ms : List FileModel) (name : List ℕ) (m : FileModel) : Type 0 where
  pub number : ℕ
  pub place : place_of name (map (λ x. x.name) ms) ≡ Some number
  pub at : slice_get ms number ≡ Some m

pub named_place : (ms : List FileModel) (name : List ℕ) (m : FileModel) → model_named ms name ≡ Some m → IsNamed ms name m
named_place [] name m e = absurd (none-some m e)
named_place (x ∷ xs) name m e = split (same_word name x.name) refl e (λ h. named_place xs name m h)
  where
    split : (b : Bool) → same_word name x.name ≡ b → (if b then Some x else model_named xs name) ≡ Some m
        → (model_named xs name ≡ Some m → IsNamed xs name m) → IsNamed (x ∷ xs) name m
    split true s h others = record {
      number = 0;
      place = place_of-cons name x.name (model_names xs) ∙ ap (λ b. if b then Some 0 else option_map suc (place_of name (model_names xs))) s;
      at = h;
    }
    split false s h others =
        let r = others h in
        record {
          number = suc r.number;
          place =
              place_of-cons name x.name (model_names xs)
              ∙ (ap (λ b. if b then Some 0 else option_map suc (place_of name (model_names xs))) s ∙ ap (option_map suc) r.place);
          at = r.at;
        }

-- it is the model with that number
pub record IsModel (d : Design) (name : List ℕ) (m : FileModel) : Type 0 where
  pub below : model_place d.models name < length d.models
  pub is : model_at d (model_place d.models name) ≡ m

pub named_model : (d : Design) (name : List ℕ) (m : FileModel) → model_named d.models name ≡ Some m → IsModel d name m
named_model d name m e =
    let r = named_place d.models name m e in
    let n : model_place d.models name ≡ r.number = ap (λ o. unwrap_or o 0) r.place in
    let w = slice_get_within d.models r.number m r.at in
    record { below = omega (arith, n, w); is = ap (λ k. model_at d k) n ∙ get_or_from_slice_get d.models r.number m no_model r.at }

-- ---- the places of a tree

-- each of these instances has a place behind those
abbrev HavePlaces : Design → List Place → List Opened → Type 0
HavePlaces d ps [] = Unit {0}
HavePlaces d ps (o ∷ os) =
    (o.round < length ps) × (o.model < length d.models) × (o.instance < length (place_at ps o.round).model.instances)
    × (o.model ≡ model_place d.models (instance_in ps o).model) × HavePlaces d (ps ++ opened_place d ps o ∷ []) os

pub length-places_in : (p : Place) (tree : Instances) → length (places_in p tree) ≡ size_of tree
length-places_in p NoMore = refl
length-places_in p (More instance model inside rest) =
    let q = place_in p instance model in
    let a = length-append (places_in q inside) (places_in p rest) in
    let i = length-places_in q inside in
    let r = length-places_in p rest in
    omega arith

-- a list of instances behind places leads to more places
record Leads (d : Design) (ps : List Place) (list : List Opened) (qs : List Place) (os : List Opened) : Type 0 where
  placed : with_places d ps list ≡ with_places d qs os
  fit : HavePlaces d qs os → HavePlaces d ps list

-- the first of the commands from a number on
commands_at : (xs : List Instance) (at : ℕ) (z c : Instance) (cs : List Instance) → drop at xs ≡ c ∷ cs → (at < length xs) × (get_or xs at z ≡ c) × (drop (suc at) xs ≡ cs)
commands_at [] zero z c cs e = cc
commands_at [] (suc at) z c cs e = cc
commands_at (x ∷ xs) zero z c cs e = (omega arith, cc, cc)
commands_at (x ∷ xs) (suc at) z c cs e = let r = commands_at xs at z c cs e in (omega (arith, r.0), r.1, r.2)

tree_leads : (d : Design) (ps : List Place) (round next at : ℕ) (p : Place) (cs : List Instance) (tree : Instances) (os : List Opened) → round < length ps
    → place_at ps round ≡ p → length ps ≡ next → drop at p.model.instances ≡ cs → Unfolds d cs tree
    → Leads d ps (openings d round next at tree ++ os) (ps ++ places_in p tree) os
tree_leads d ps round next at p [] NoMore os low is long rest u =
    let e = append-nil ps in
    record {
      placed = ap (λ qs. with_places d qs os) (sym e);
      fit = λ h. subst (λ (qs : List Place). HavePlaces d qs os) e h;
    }
tree_leads d ps round next at p [] (More _ _ _ _) os low is long rest u = absurd u
tree_leads d ps round next at p (_ ∷ _) NoMore os low is long rest u = absurd u
tree_leads d ps round next at p (c ∷ cs) (More instance model inside others) os low is long rest u =
    let k = commands_at p.model.instances at no_instance c cs rest in
    let behind_at : drop (at + 1) p.model.instances ≡ cs = ap (λ n. drop n p.model.instances) (add-one at) ∙ k.2 in
    let m = named_model d instance.model model (ap (λ (x : Instance). model_named d.models x.model) u.0.is ∙ u.0.named) in
    let o : Opened = record { model = model_place d.models instance.model; round = round; instance = at } in
    let q = place_in p instance model in
    let here : opened_place d ps o ≡ q =
    ap (λ (r : Place). place_in r (instance_at r.model at) (model_at d o.model)) is
    ∙ (ap (λ (x : Instance). place_in p x (model_at d o.model)) (k.1 ∙ sym u.0.is) ∙ ap (place_in p instance) m.is) in
    let one = ps ++ q ∷ [] in
    let two = one ++ places_in q inside in
    let first = openings d next (next + 1) 0 inside in
    let second = openings d round (next + 1 + size_of inside) (at + 1) others in
    let one_long : length one ≡ length ps + 1 = length-append ps (q ∷ []) in
    let two_long : length two ≡ length one + size_of inside =
    length-append one (places_in q inside) ∙ ap (λ n. length one + n) (length-places_in q inside) in
    let one_low : round < length one = omega arith in
    let in_one : place_at one round ≡ p = get_or_append_left ps (q ∷ []) (root_place no_model) round low ∙ is in
    let in_two : place_at two round ≡ p = get_or_append_left one (places_in q inside) (root_place no_model) round one_low ∙ in_one in
    let at_next : place_at one next ≡ q = ap (place_at one) (sym long) ∙ get_or-append_seam ps q [] (root_place no_model) in
    let within = tree_leads d one next (next + 1) 0 q model.instances inside (second ++ os) (omega arith) at_next (omega arith) refl u.1 in
    let behind =
    tree_leads d two round (next + 1 + size_of inside) (at + 1) p cs others os (omega arith) in_two (omega arith) behind_at u.2 in
    let joined : two ++ places_in p others ≡ ps ++ (q ∷ (places_in q inside ++ places_in p others)) =
    append_assoc one (places_in q inside) (places_in p others) ∙ append_assoc ps (q ∷ []) (places_in q inside ++ places_in p others) in
    record {
      placed =
          ap (λ (x : Place). with_places d (ps ++ x ∷ []) ((first ++ second) ++ os)) here
          ∙ (ap (with_places d one) (append_assoc first second os) ∙ (within.placed ∙ (behind.placed ∙ ap (λ qs. with_places d qs os) joined)));
      fit = λ h. (
        low,
        m.below,
        subst (λ (r : Place). at < length r.model.instances) (sym is) k.0,
        ap (λ (x : Instance). model_place d.models x.model) (sym (ap (λ (r : Place). instance_at r.model at) is ∙ (k.1 ∙ sym u.0.is))),
        subst (λ (x : Place). HavePlaces d (ps ++ x ∷ []) ((first ++ second) ++ os)) (sym here)
            (subst (HavePlaces d one) (sym (append_assoc first second os))
            (within.fit (behind.fit (subst (λ (qs : List Place). HavePlaces d qs os) (sym joined) h)))),
      );
    }

-- ---- by number

-- places stay where others come behind them
with_places_kept : (d : Design) (ps : List Place) (os : List Opened) (k : ℕ) → k < length ps → place_at (with_places d ps os) k ≡ place_at ps k
with_places_kept d ps [] k low = refl
with_places_kept d ps (o ∷ os) k low =
    let more = ps ++ opened_place d ps o ∷ [] in
    let long : length more ≡ length ps + 1 = length-append ps (opened_place d ps o ∷ []) in
    with_places_kept d more os k (omega arith) ∙ get_or_append_left ps (opened_place d ps o ∷ []) (root_place no_model) k low

with_places_long : (d : Design) (ps : List Place) (os : List Opened) → length (with_places d ps os) ≡ length ps + length os
with_places_long d ps [] = omega arith
with_places_long d ps (o ∷ os) =
    let l = with_places_long d (ps ++ opened_place d ps o ∷ []) os in
    let long : length (ps ++ opened_place d ps o ∷ []) ≡ length ps + 1 = length-append ps (opened_place d ps o ∷ []) in
    omega arith

placed_at : (d : Design) (ps : List Place) (os : List Opened) (k : ℕ) (o : Opened) → HavePlaces d ps os → slice_get os k ≡ Some o
    → IsPlaced d (with_places d ps os) (length ps + k) o
placed_at d ps [] k o h e = absurd (none-some o e)
placed_at d ps (x ∷ xs) zero o h e =
    let all = with_places d ps (x ∷ xs) in
    let q = opened_place d ps x in
    let more = ps ++ q ∷ [] in
    let same : x ≡ o = same_Some x o e in
    let long : length more ≡ length ps + 1 = length-append ps (q ∷ []) in
    let old : place_at all x.round ≡ place_at ps x.round = with_places_kept d ps (x ∷ xs) x.round h.0 in
    let placed : IsPlaced d all (length ps + 0) x = record {
      round = let l = h.0 in omega arith;
      model = h.1;
      instance = subst (λ (r : Place). x.instance < length r.model.instances) (sym old) h.2;
      named = h.3 ∙ ap (λ (r : Place). model_place d.models (instance_at r.model x.instance).model) (sym old);
      is =
          ap (place_at all) (omega arith)
          ∙ (with_places_kept d more xs (length ps) (omega arith)
          ∙ (get_or-append_seam ps q [] (root_place no_model)
          ∙ ap (λ (r : Place). place_in r (instance_at r.model x.instance) (model_at d x.model)) (sym old)));
    } in
    subst (IsPlaced d all (length ps + 0)) same placed
placed_at d ps (x ∷ xs) (suc k) o h e =
    let more = ps ++ opened_place d ps x ∷ [] in
    let long : length more ≡ length ps + 1 = length-append ps (opened_place d ps x ∷ []) in
    subst (λ n. IsPlaced d (with_places d more xs) n o) (omega arith) (placed_at d more xs k o h.4 e)

-- ---- the whole list

abbrev root_only : Design → List Place
root_only d = root_place (root_of d) ∷ []

list_leads : (d : Design) (tree : Instances) (list : List Opened) → HasTree d tree → list ≡ openings d 0 1 0 tree
    → (with_places d (root_only d) list ≡ places (root_of d) tree) × HavePlaces d (root_only d) list
list_leads d tree list h is =
    let r = tree_leads d (root_only d) 0 1 0 (root_place (root_of d)) (root_of d).instances tree [] (omega arith) refl refl refl h.unfolds in
    let e : list ≡ openings d 0 1 0 tree ++ [] = is ∙ sym (append-nil (openings d 0 1 0 tree)) in
    (ap (with_places d (root_only d)) e ∙ r.placed, subst (HavePlaces d (root_only d)) (sym e) (r.fit tt))

-- the places of a list are those of its tree
pub places_of_tree : (d : Design) (list : List Opened) (h : AreOpened d list) → places_by d list ≡ places (root_of d) h.tree
unfolding places_by
places_of_tree d list h = (list_leads d h.tree list h.has h.is).0

-- each instance of a list is placed
pub are_placed : (d : Design) (list : List Opened) → AreOpened d list → ArePlaced d list
unfolding places_by
are_placed d list h =
    let r = list_leads d h.tree list h.has h.is in
    record {
      long = with_places_long d (root_only d) list;
      root = with_places_kept d (root_only d) list 0 (omega arith);
      each = λ k o e. placed_at d (root_only d) list k o r.1 e;
    }
