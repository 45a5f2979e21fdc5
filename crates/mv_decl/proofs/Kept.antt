-- The declaration of a net, found by its place among the names.
use Rattle.std.proofs.Common.{◌≡◌, ℕ, suc, zero, ◌<◌, ◌≤◌, true, false, List, [], ◌∷◌, ◌++◌, length, take, Option, Some, None, Ok, Err, refl, sym, ap, subst, ◌∙◌, ⊎_elim, arith}
use Rattle.std.specs.List.{slice_get, AllByRecursion}
use Rattle.std.specs.Option.{option_map, IfSome}
use Rattle.std.specs.Prelude.{Result, OnOk, OnErr, All, if◌then◌else◌}
use Rattle.std.proofs.lemmas.Bool.{cases_Bool, cond-true, cond-false, cond_both}
use Rattle.std.proofs.lemmas.List.{length-take, map-append, take-map, take-append-le}
use Rattle.std.proofs.lemmas.List.Elements.{All-head, All-tail}
use Rattle.mv_base.specs.Names.{same_word, among, place_of}
use Rattle.mv_base.proofs.NameLemmas.{place_of-cons}
use Rattle.mv_base.specs.declared.limits.TheConstants.{MAX_VALUES}
use Rattle.mv_base.specs.declared.memory.Memory.{Memory}
use Rattle.mv_design.specs.declared.design.Decl.{Decl}
use Rattle.mv_design.specs.Values.{values_of, declared_of, two_values}
use Rattle.mv_decl.specs.Nets.{with_decl, HasValues}

-- the declaration at the place is the net's
pub record IsFound (ds : List Decl) (net : List ℕ) (k : ℕ) : Type 0 where
  pub decl : Decl
  pub get : slice_get ds k ≡ Some decl
  pub values : values_of ds net ≡ decl.values

found_behind : (d : Decl) (ds : List Decl) (net : List ℕ) (k : ℕ) → same_word net d.net ≡ false → IsFound ds net k → IsFound (d ∷ ds) net (suc k)
found_behind d ds net k other f = record { decl = f.decl; get = f.get; values = cond-false _ _ _ other ∙ f.values }

-- the place before
record IsBehind (o : Option ℕ) (k : ℕ) : Type 0 where
  at : ℕ
  next : suc at ≡ k
  place : o ≡ Some at

is_behind : (o : Option ℕ) (k : ℕ) → option_map suc o ≡ Some k → IsBehind o k
is_behind None k e = cc
is_behind (Some j) k e = record { at = j; next = cc; place = refl }

pub found : (ds : List Decl) (net : List ℕ) (k : ℕ) → place_of net (declared_of ds) ≡ Some k → IsFound ds net k
found [] net k e = cc
found (d ∷ ds) net k e =
    ⊎_elim
    (λ (here : same_word net d.net ≡ true). (
    let first : Some 0 ≡ Some k = sym (place_of-cons net d.net (declared_of ds) ∙ cond-true _ _ _ here) ∙ e in
    let at : 0 ≡ k = cc in
    subst (λ n. IsFound (d ∷ ds) net n) at (record { decl = d; get = refl; values = cond-true _ _ _ here })
    ))
    (λ (other : same_word net d.net ≡ false). (
    let next : option_map suc (place_of net (declared_of ds)) ≡ Some k = sym (place_of-cons net d.net (declared_of ds) ∙ cond-false _ _ _ other) ∙ e in
    let b = is_behind (place_of net (declared_of ds)) k next in
    subst (λ n. IsFound (d ∷ ds) net n) b.next (found_behind d ds net b.at other (found ds net b.at b.place))
    ))
    (cases_Bool (same_word net d.net))

-- a net without a place has the two values
pub not_found : (ds : List Decl) (net : List ℕ) → place_of net (declared_of ds) ≡ None → values_of ds net ≡ two_values
not_found [] net e = refl
not_found (d ∷ ds) net e =
    ⊎_elim
    (λ (here : same_word net d.net ≡ true). (
    let some : Some 0 ≡ None = sym (place_of-cons net d.net (declared_of ds) ∙ cond-true _ _ _ here) ∙ e in
    cc
    ))
    (λ (other : same_word net d.net ≡ false). (
    let next : option_map suc (place_of net (declared_of ds)) ≡ None = sym (place_of-cons net d.net (declared_of ds) ∙ cond-false _ _ _ other) ∙ e in
    cond-false _ _ _ other ∙ not_found ds net (none_behind (place_of net (declared_of ds)) next)
    ))
    (cases_Bool (same_word net d.net))
  where
    none_behind : (o : Option ℕ) → option_map suc o ≡ None → o ≡ None
    none_behind None h = refl
    none_behind (Some j) h = cc

-- each declaration has values, and the two values are some as well
pub counts_at : (ds : List Decl) (k : ℕ) (d : Decl) → AllByRecursion HasValues ds → slice_get ds k ≡ Some d → HasValues d
counts_at [] k d all e = cc
counts_at (x ∷ ds) zero d all e =
    let same : x ≡ d = cc in
    subst HasValues same all.0
counts_at (x ∷ ds) (suc k) d all e = counts_at ds k d all.1 e

counts_push : (ds : List Decl) (d : Decl) → AllByRecursion HasValues ds → HasValues d → AllByRecursion HasValues (ds ++ d ∷ [])
counts_push [] d all has = (has, tt)
counts_push (x ∷ ds) d all has = (all.0, counts_push ds d all.1 has)

-- the values of the net, and how many they may be
pub record AreValues (ds : List Decl) (net : List ℕ) (values : List (List ℕ)) : Type 0 where
  pub value : values ≡ values_of ds net
  pub some : 0 < length values
  pub within : length values ≤ MAX_VALUES

pub values_found : (ds : List Decl) (net : List ℕ) (k : ℕ) (values : List (List ℕ)) → AllByRecursion HasValues ds → place_of net (declared_of ds) ≡ Some k → IfSome (slice_get ds k) (λ d. values ≡ d.values) → AreValues ds net values
values_found ds net k values all e h =
    let f = found ds net k e in
    let same : values ≡ f.decl.values = rw f.get at h in
    let has = counts_at ds k f.decl all f.get in
    record {
      value = same ∙ sym f.values;
      some = rw same has.0;
      within = rw same has.1;
    }

pub values_two : (ds : List Decl) (net : List ℕ) (values : List (List ℕ)) → place_of net (declared_of ds) ≡ None → values ≡ two_values → AreValues ds net values
values_two ds net values e h = record {
  value = h ∙ sym (not_found ds net e);
  some = rw h (omega arith);
  within = rw h (omega arith);
}

-- each declaration has a value
pub values_some : (ds : List Decl) (k : ℕ) (d : Decl) (values : List (List ℕ)) → AllByRecursion HasValues ds → slice_get ds k ≡ Some d → values ≡ d.values → 0 < length values
values_some ds k d values all e h = rw h (counts_at ds k d all e).0

-- and no more than a net may have
pub values_few : (ds : List Decl) (k : ℕ) (d : Decl) (values : List (List ℕ)) → AllByRecursion HasValues ds → slice_get ds k ≡ Some d → values ≡ d.values → length values ≤ MAX_VALUES
values_few ds k d values all e h = rw h (counts_at ds k d all e).1

-- a place of a net is one of a declaration
pub place_taken : (ds : List Decl) (net : List ℕ) (k : ℕ) → place_of net (declared_of ds) ≡ Some k → slice_get ds k ≡ None → ⊥
place_taken ds net k e none = let f = found ds net k e in let both : Some f.decl ≡ None = sym f.get ∙ none in cc

-- a call that puts one more declaration behind the others, or fails and leaves them, keeps it so
pub counts_after : (result : Result (Unit {0}) Memory) (old new : List Decl) (d : Decl) → OnOk result (new ≡ old ++ d ∷ []) → OnErr result (new ≡ old) → AllByRecursion HasValues old → HasValues d → AllByRecursion HasValues new
counts_after (Ok u) old new d ok err all has = subst (λ ds. AllByRecursion HasValues ds) (sym ok) (counts_push old d all has)
counts_after (Err e) old new d ok err all has = subst (λ ds. AllByRecursion HasValues ds) (sym err) all

-- each of a list has values
pub counts_all : (ds : List Decl) → All HasValues ds → AllByRecursion HasValues ds
counts_all [] all = tt
counts_all (d ∷ ds) all = (All-head HasValues d ds all, counts_all ds (All-tail HasValues d ds all))

-- one more declaration of a new net, and the first of them
pub listed_push : (nets new : List (List ℕ)) (list : List Decl) (d : Decl) → nets ≡ declared_of list → among d.net (declared_of list) ≡ false → new ≡ (if among d.net nets then nets else nets ++ d.net ∷ []) → new ≡ declared_of (list ++ d ∷ [])
listed_push nets new list d e absent is =
    is ∙ (cond-false _ _ _ (ap (among d.net) e ∙ absent) ∙ (ap (λ ws. ws ++ d.net ∷ []) e ∙ sym (map-append (λ (x : Decl). x.net) list (d ∷ []))))

pub listed_take : (n : ℕ) (nets : List (List ℕ)) (list : List Decl) → nets ≡ declared_of list → take n nets ≡ declared_of (take n list)
listed_take n nets list e = ap (take n) e ∙ take-map (λ (d : Decl). d.net) n list

pub counts_take : (n : ℕ) (ds : List Decl) → AllByRecursion HasValues ds → AllByRecursion HasValues (take n ds)
counts_take zero ds all = tt
counts_take (suc n) [] all = tt
counts_take (suc n) (d ∷ ds) all = (all.0, counts_take n ds all.1)

pub ruleset listed = (listed_push, listed_take, counts_take)

-- the declarations that were there stay in front
pub front_stays : (n : ℕ) (old ds : List Decl) (d : Decl) → n ≡ length old → take n ds ≡ old → take n (with_decl ds d) ≡ old
unfolding with_decl
front_stays n old ds d size front =
    let many : n ≤ length ds = let taken = length-take n ds in let same = ap length front in omega arith in
    cond_both (among d.net (declared_of ds)) ds (ds ++ d ∷ []) (λ (x : List Decl). take n x ≡ old) (λ y. front) (λ new. take-append-le n ds (d ∷ []) many ∙ front)
