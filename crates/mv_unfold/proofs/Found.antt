-- What is found of a list by the name of its elements.
use Rattle.std.proofs.Common.{◌≡◌, ℕ, suc, ◌<◌, Bool, true, false, Option, Some, None, List, [], ◌∷◌, length, get_or, map, refl, sym, ◌∙◌, ap, arith}
use Rattle.std.specs.Prelude.{if◌then◌else◌, unwrap_or}
use Rattle.std.specs.Option.{option_map}
use Rattle.std.proofs.lemmas.List.{get_or_read, length-map}
use Rattle.mv_base.specs.Names.{same_word, place_of}
use Rattle.mv_base.proofs.NameLemmas.{place_of-cons, place_of-none, IsPlace-from_place}
use Rattle.mv_design.specs.declared.design.Bind.{Bind}
use Rattle.mv_design.specs.declared.design.Decl.{Decl}
use Rattle.mv_design.specs.declared.design.FileModel.{FileModel}
use Rattle.mv_design.specs.Values.{two_values, values_of, declared_of}
use Rattle.mv_tree.specs.Places.{actual_of}
use Rattle.mv_walk.specs.Commands.{names_of}
use Rattle.mv_unfold.specs.declared.by_name.FirstPlaces.{FirstPlaces}
use Rattle.mv_unfold.specs.ByName.{FindsFirst, found_of, formals_bound}

no_bind : Bind
no_bind = record { formal = []; actual = [] }

no_decl : Decl
no_decl = record { net = []; values = [] }

-- what is found behind the first of a list
behind : {X Y : Type 0} (f : X → Y) (x : X) (xs : List X) (z : X) (o : Option ℕ)
    → option_map (λ k. f (get_or (x ∷ xs) k z)) (option_map suc o) ≡ option_map (λ k. f (get_or xs k z)) o
behind f x xs z None = refl
behind f x xs z (Some k) = refl

-- the place is one of the list
found_below : {X : Type 0} (name_of : X → List ℕ) (n : FirstPlaces) (xs : List X) (w : List ℕ) (k : ℕ) → FindsFirst n (map name_of xs) → found_of n w ≡ Some k → k < length xs
found_below name_of n xs w k h e =
    let p = IsPlace-from_place w (map name_of xs) k (sym (h.each w) ∙ e) in
    let low = p.within in
    let long : length (map name_of xs) ≡ length xs = length-map xs name_of in
    omega arith

pub numbered_below : (n : FirstPlaces) (ms : List FileModel) (w : List ℕ) → 0 < length ms → FindsFirst n (names_of ms) → unwrap_or (found_of n w) 0 < length ms
numbered_below n ms w some h = split (found_of n w) refl
  where
    split : (o : Option ℕ) → found_of n w ≡ o → unwrap_or o 0 < length ms
    split None e = some
    split (Some k) e = found_below (λ (m : FileModel). m.name) n ms w k h e

-- ---- the net to which a formal is bound

bound_at : (binds : List Bind) (w : List ℕ) → actual_of binds w ≡ option_map (λ k. (get_or binds k no_bind).actual) (place_of w (formals_bound binds))
bound_at [] w = ap (option_map (λ k. (get_or [] k no_bind).actual)) (sym (place_of-none w [] refl))
bound_at (b ∷ bs) w =
    split (bound_at bs w) (same_word w b.formal) ∙ ap (option_map (λ k. (get_or (b ∷ bs) k no_bind).actual)) (sym (place_of-cons w b.formal (formals_bound bs)))
  where
    split : actual_of bs w ≡ option_map (λ k. (get_or bs k no_bind).actual) (place_of w (formals_bound bs)) → (t : Bool)
        → (if t then Some b.actual else actual_of bs w)
        ≡ option_map (λ k. (get_or (b ∷ bs) k no_bind).actual) (if t then Some 0 else option_map suc (place_of w (formals_bound bs)))
    split h true = refl
    split h false = h ∙ sym (behind (λ (x : Bind). x.actual) b bs no_bind (place_of w (formals_bound bs)))

pub bound_below : (n : FirstPlaces) (binds : List Bind) (w : List ℕ) (k : ℕ) → FindsFirst n (formals_bound binds) → found_of n w ≡ Some k → k < length binds
bound_below n binds w k h e = found_below (λ (b : Bind). b.formal) n binds w k h e

pub actual_found : (n : FirstPlaces) (binds : List Bind) (w : List ℕ) (k : ℕ) (b : Bind) → FindsFirst n (formals_bound binds) → found_of n w ≡ Some k → b ≡ get_or binds k b
    → Some b.actual ≡ actual_of binds w
actual_found n binds w k b h e is =
    let read = get_or_read binds k b (bound_below n binds w k h e) is no_bind in
    ap (λ (x : Bind). Some x.actual) read
    ∙ sym (bound_at binds w ∙ ap (option_map (λ i. (get_or binds i no_bind).actual)) (sym (h.each w) ∙ e))

pub actual_none : (n : FirstPlaces) (binds : List Bind) (w : List ℕ) → FindsFirst n (formals_bound binds) → found_of n w ≡ None → None ≡ actual_of binds w
actual_none n binds w h e = sym (bound_at binds w ∙ ap (option_map (λ i. (get_or binds i no_bind).actual)) (sym (h.each w) ∙ e))

-- ---- the values of a net

values_at : (ds : List Decl) (w : List ℕ) → values_of ds w ≡ unwrap_or (option_map (λ k. (get_or ds k no_decl).values) (place_of w (declared_of ds))) two_values
values_at [] w = ap (λ o. unwrap_or (option_map (λ k. (get_or [] k no_decl).values) o) two_values) (sym (place_of-none w [] refl))
values_at (d ∷ ds) w =
    split (values_at ds w) (same_word w d.net) ∙ ap (λ o. unwrap_or (option_map (λ k. (get_or (d ∷ ds) k no_decl).values) o) two_values) (sym (place_of-cons w d.net (declared_of ds)))
  where
    split : values_of ds w ≡ unwrap_or (option_map (λ k. (get_or ds k no_decl).values) (place_of w (declared_of ds))) two_values → (t : Bool)
        → (if t then d.values else values_of ds w)
        ≡ unwrap_or (option_map (λ k. (get_or (d ∷ ds) k no_decl).values) (if t then Some 0 else option_map suc (place_of w (declared_of ds)))) two_values
    split h true = refl
    split h false = h ∙ sym (ap (λ o. unwrap_or o two_values) (behind (λ (x : Decl). x.values) d ds no_decl (place_of w (declared_of ds))))

pub declared_below : (n : FirstPlaces) (ds : List Decl) (w : List ℕ) (k : ℕ) → FindsFirst n (declared_of ds) → found_of n w ≡ Some k → k < length ds
declared_below n ds w k h e = found_below (λ (d : Decl). d.net) n ds w k h e

pub values_found : (n : FirstPlaces) (ds : List Decl) (w : List ℕ) (k : ℕ) (d : Decl) → FindsFirst n (declared_of ds) → found_of n w ≡ Some k → d ≡ get_or ds k d
    → d.values ≡ values_of ds w
values_found n ds w k d h e is =
    let read = get_or_read ds k d (declared_below n ds w k h e) is no_decl in
    ap (λ (x : Decl). x.values) read
    ∙ sym (values_at ds w ∙ ap (λ o. unwrap_or (option_map (λ i. (get_or ds i no_decl).values) o) two_values) (sym (h.each w) ∙ e))

pub values_none : (n : FirstPlaces) (ds : List Decl) (w : List ℕ) → FindsFirst n (declared_of ds) → found_of n w ≡ None → two_values ≡ values_of ds w
values_none n ds w h e =
    sym (values_at ds w ∙ ap (λ o. unwrap_or (option_map (λ i. (get_or ds i no_decl).values) o) two_values) (sym (h.each w) ∙ e))
