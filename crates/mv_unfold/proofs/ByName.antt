-- The names of a list, name by name.
use Rattle.std.proofs.Common.{◌≡◌, ℕ, zero, suc, ◌+◌, ◌<◌, Bool, true, false, not, Option, Some, None, is_some, List, [], ◌∷◌, ◌++◌, length, get_or, map, take, refl, sym, ◌∙◌, ap, subst, arith}
use Rattle.std.specs.Prelude.{if◌then◌else◌}
use Rattle.std.specs.Option.{option_map}
use Rattle.std.specs.List.{slice_get}
use Rattle.std.proofs.lemmas.List.{length-append, map-append, length-map, get_or_append_left, take_more, length-take}
use Rattle.std.proofs.Math.Seq.{get_or-append_seam}
use Rattle.std.proofs.lemmas.Bool.{false≢true}
use Rattle.mv_base.specs.Names.{same_word, among, place_of}
use Rattle.mv_base.proofs.NameLemmas.{place_of-cons, place_of-append, place_of-none, is_some-place_of, IsPlace-from_place, same_word_is}
use Rattle.mv_unfold.specs.declared.by_name.FirstPlaces.{FirstPlaces}
use Rattle.mv_unfold.specs.ByName.{found_of, FindsFirst}

abbrev number_at : List ℕ → ℕ → ℕ
number_at numbers k = get_or numbers k 0

some-map : (f : ℕ → ℕ) (o : Option ℕ) → is_some (option_map f o) ≡ is_some o
some-map f None = refl
some-map f (Some k) = refl

-- a name is known where it is in the list
known : (n : FirstPlaces) (ws : List (List ℕ)) (w : List ℕ) → FindsFirst n ws → among w n.names ≡ among w ws
known n ws w h =
    sym (is_some-place_of w n.names)
    ∙ (sym (some-map (number_at n.numbers) (place_of w n.names)) ∙ (ap is_some (h.each w) ∙ is_some-place_of w ws))

pub none_found : (n : FirstPlaces) → n.names ≡ [] → n.numbers ≡ [] → FindsFirst n []
none_found n e f = record {
  long = ap length f ∙ ap length (sym e);
  each = λ w. ap (λ ns. option_map (number_at n.numbers) (place_of w ns)) e;
}

-- a name that is known
found_again : (n : FirstPlaces) (ws : List (List ℕ)) (name : List ℕ) → FindsFirst n ws → among name n.names ≡ true → FindsFirst n (ws ++ name ∷ [])
found_again n ws name h there = record { long = h.long; each = λ w. h.each w ∙ sym (place_of-append w ws (name ∷ []) ∙ by w (among w ws) refl) }
  where
    later : (w : List ℕ) → among w ws ≡ false → (b : Bool) → same_word w name ≡ b → option_map (λ k. length ws + k) (if b then Some 0 else None) ≡ place_of w ws
    later w e true s = absurd (false≢true (sym e ∙ (ap (λ u. among u ws) (same_word_is w name s) ∙ (sym (known n ws name h) ∙ there))))
    later w e false s = sym (place_of-none w ws e)

    by : (w : List ℕ) (b : Bool) → among w ws ≡ b → (if b then place_of w ws else option_map (λ k. length ws + k) (place_of w (name ∷ []))) ≡ place_of w ws
    by w true e = refl
    by w false e = ap (option_map (λ k. length ws + k)) (place_of-cons w name []) ∙ later w e (same_word w name) refl

seam : (n : FirstPlaces) (ws : List (List ℕ)) → FindsFirst n ws → length n.names + 0 ≡ length n.numbers
seam n ws h = let l = h.long in omega arith

more_none : (n : ℕ) → n ≡ n + 0
more_none n = omega arith

-- a number behind others
number_kept : (ks : List ℕ) (k : ℕ) (o : Option ℕ) → ((i : ℕ) → o ≡ Some i → i < length ks) → option_map (number_at (ks ++ k ∷ [])) o ≡ option_map (number_at ks) o
number_kept ks k None low = refl
number_kept ks k (Some i) low = ap Some (get_or_append_left ks (k ∷ []) 0 i (low i refl))

-- a new name
found_new : (n new : FirstPlaces) (ws : List (List ℕ)) (name : List ℕ) → FindsFirst n ws → among name n.names ≡ false
    → new.names ≡ n.names ++ name ∷ [] → new.numbers ≡ n.numbers ++ length ws ∷ [] → FindsFirst new (ws ++ name ∷ [])
found_new n new ws name h lacks names numbers = record {
  long =
      ap length numbers
      ∙ (length-append n.numbers (length ws ∷ []) ∙ (ap (λ k. k + 1) h.long ∙ (sym (length-append n.names (name ∷ [])) ∙ ap length (sym names))));
  each = λ w.
      ap (λ ks. option_map (number_at ks) (place_of w new.names)) numbers
      ∙ (ap (λ ns. option_map (number_at (n.numbers ++ length ws ∷ [])) (place_of w ns)) names
      ∙ (ap (option_map (number_at (n.numbers ++ length ws ∷ []))) (place_of-append w n.names (name ∷ []))
      ∙ (by w (among w n.names) refl ∙ sym (place_of-append w ws (name ∷ [])))));
}
  where
    low : (w : List ℕ) (i : ℕ) → place_of w n.names ≡ Some i → i < length n.numbers
    low w i e = let p = IsPlace-from_place w n.names i e in omega (arith, p.within, h.long)

    last : (b : Bool) → option_map (number_at (n.numbers ++ length ws ∷ [])) (option_map (λ k. length n.names + k) (if b then Some 0 else None))
        ≡ option_map (λ k. length ws + k) (if b then Some 0 else None)
    last true = ap Some (ap (number_at (n.numbers ++ length ws ∷ [])) (seam n ws h) ∙ (get_or-append_seam n.numbers (length ws) [] 0 ∙ more_none (length ws)))
    last false = refl

    by : (w : List ℕ) (b : Bool) → among w n.names ≡ b
        → option_map (number_at (n.numbers ++ length ws ∷ [])) (if b then place_of w n.names else option_map (λ k. length n.names + k) (place_of w (name ∷ [])))
        ≡ (if among w ws then place_of w ws else option_map (λ k. length ws + k) (place_of w (name ∷ [])))
    by w true e =
        number_kept n.numbers (length ws) (place_of w n.names) (low w)
        ∙ (h.each w ∙ ap (λ b. if b then place_of w ws else option_map (λ k. length ws + k) (place_of w (name ∷ []))) (sym (sym (known n ws w h) ∙ e)))
    by w false e =
        ap (λ o. option_map (number_at (n.numbers ++ length ws ∷ [])) (option_map (λ k. length n.names + k) o)) (place_of-cons w name [])
        ∙ (last (same_word w name)
        ∙ (ap (option_map (λ k. length ws + k)) (sym (place_of-cons w name []))
        ∙ ap (λ b. if b then place_of w ws else option_map (λ k. length ws + k) (place_of w (name ∷ []))) (sym (sym (known n ws w h) ∙ e))))

none_at : (ns : List ℕ) (k : ℕ) → slice_get ns k ≡ None → get_or ns k 0 ≡ 0
none_at [] k e = refl
none_at (n ∷ ns) zero e = cc
none_at (n ∷ ns) (suc k) e = none_at ns k e

-- a name without a number
pub not_numbered : (n : FirstPlaces) (w : List ℕ) (k : ℕ) → place_of w n.names ≡ Some k → slice_get n.numbers k ≡ None → Some 0 ≡ found_of n w
not_numbered n w k e f = sym (ap (option_map (number_at n.numbers)) e ∙ ap Some (none_at n.numbers k f))

-- ---- one name more

not_true : (b : Bool) → not b ≡ true → b ≡ false
not_true true e = cc
not_true false e = refl

not_false : (b : Bool) → not b ≡ false → b ≡ true
not_false true e = refl
not_false false e = cc

pub name_new : (n new : FirstPlaces) (ws : List (List ℕ)) (name : List ℕ) (at : ℕ) → not (among name n.names) ≡ true
    → new.names ≡ (if among name n.names then n.names else n.names ++ name ∷ []) → new.numbers ≡ n.numbers ++ at ∷ []
    → FindsFirst n ws → at ≡ length ws → FindsFirst new (ws ++ name ∷ [])
name_new n new ws name at fresh named numbered h is =
    let lacks = not_true (among name n.names) fresh in
    found_new n new ws name h lacks (named ∙ ap (λ b. if b then n.names else n.names ++ name ∷ []) lacks) (numbered ∙ ap (λ k. n.numbers ++ k ∷ []) is)

pub name_known : (n new : FirstPlaces) (ws : List (List ℕ)) (name : List ℕ) → not (among name n.names) ≡ false
    → new.names ≡ (if among name n.names then n.names else n.names ++ name ∷ []) → new.numbers ≡ n.numbers
    → FindsFirst n ws → FindsFirst new (ws ++ name ∷ [])
name_known n new ws name fresh named numbered h =
    let there = not_false (among name n.names) fresh in
    let kept = named ∙ ap (λ b. if b then n.names else n.names ++ name ∷ []) there in
    let all = found_again n ws name h there in
    record {
      long = ap length numbered ∙ (all.long ∙ ap length (sym kept));
      each = λ w.
          ap (λ ks. option_map (number_at ks) (place_of w new.names)) numbered ∙ (ap (λ ns. option_map (number_at n.numbers) (place_of w ns)) kept ∙ all.each w);
    }

-- the next element of a list gives its name
pub next_named : {X : Type 0} (name_of : X → List ℕ) (n new : FirstPlaces) (xs : List X) (i : ℕ) (x : X) (name : List ℕ) → FindsFirst n (map name_of (take i xs))
    → i < length xs → x ≡ get_or xs i x → name ≡ name_of x
    → ((ws : List (List ℕ)) → FindsFirst n ws → i ≡ length ws → FindsFirst new (ws ++ name ∷ [])) → FindsFirst new (map name_of (take (i + 1) xs))
next_named {X} name_of n new xs i x name h lt is same added =
    let long : length (map name_of (take i xs)) ≡ length (take i xs) = length-map (take i xs) name_of in
    let short = length-take i xs in
    let at : i ≡ length (map name_of (take i xs)) = omega arith in
    let more : map name_of (take (i + 1) xs) ≡ map name_of (take i xs) ++ name ∷ [] =
    ap (map name_of) (take_more xs i x lt ∙ ap (λ (y : X). take i xs ++ y ∷ []) (sym is))
    ∙ (map-append name_of (take i xs) (x ∷ []) ∙ ap (λ w. map name_of (take i xs) ++ w ∷ []) (sym same)) in
    subst (FindsFirst new) (sym more) (added (map name_of (take i xs)) h at)
