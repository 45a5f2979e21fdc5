-- Numbers found by name, and what is found with one name more.
use Rattle.std.proofs.Common.{◌≡◌, ℕ, ◌+◌, ◌<◌, take, get_or, subst, Bool, true, false, ◌||◌, List, [], ◌∷◌, ◌++◌, length, Option, Some, None, is_some, refl, sym, ◌∙◌, ap, ⊎_elim, arith}
use Rattle.std.specs.Prelude.{if◌then◌else◌}
use Rattle.std.specs.Option.{option_map, option_or}
use Rattle.std.proofs.lemmas.Bool.{cases_Bool, cond-true, cond-false}
use Rattle.std.proofs.lemmas.List.{map-append, length-map, take_more, length-take-le}
use Rattle.std.proofs.Math.Bool.{or-false}
use Rattle.indexmap.specs.IndexMap.{IndexMap}
use Rattle.mv_base.specs.Names.{same_word, among, place_of}
use Rattle.mv_base.proofs.NameLemmas.{among-append, same_word_is, is_some-place_of, place_of-append, place_of-cons}
use Rattle.mv_design.specs.declared.design.Bind.{Bind}
use Rattle.mv_design.specs.declared.design.Decl.{Decl}
use Rattle.mv_design.specs.declared.design.FileModel.{FileModel}
use Rattle.mv_design.specs.Values.{count_of}
use Rattle.mv_tree.specs.Places.{actual_of, is_bound}
use Rattle.mv_walk.specs.Commands.{Finds, FindsFirst, HasAdded, HasBound, HasNames, also, declared_count, names_of, place_named}

-- ---- maps

pub finds-same : {S : Type 0} (numbers : IndexMap (List ℕ) ℕ S) (f g : List ℕ → Option ℕ) → Finds numbers f → ((name : List ℕ) → f name ≡ g name) → Finds numbers g
finds-same numbers f g h e = record { each = λ name. h.each name ∙ e name }

-- ---- places of models

place_last : (b : Bool) (n : ℕ) → option_map (λ k. n + k) (if b then Some 0 else None) ≡ (if b then Some n else None)
place_last true n = ap Some (omega arith)
place_last false n = refl

or_among : (b : Bool) (o p : Option ℕ) → is_some o ≡ b → (if b then o else p) ≡ option_or o p
or_among true None p e = absurd (let bad : false ≡ true = e in cc)
or_among true (Some k) p e = refl
or_among false None p e = refl
or_among false (Some k) p e = absurd (let bad : true ≡ false = e in cc)

-- the place of a model with one more behind the others
pub place-push : (ms : List FileModel) (m : FileModel) (name : List ℕ) → also (place_named ms) m.name (length ms) name ≡ place_named (ms ++ m ∷ []) name
place-push ms m name =
    sym (ap (place_of name) (map-append (λ (x : FileModel). x.name) ms (m ∷ []))
    ∙ (place_of-append name (names_of ms) (m.name ∷ [])
    ∙ (ap (λ o. if among name (names_of ms) then place_named ms name else option_map (λ k. length (names_of ms) + k) o) (place_of-cons name m.name [])
    ∙ (ap (λ o. if among name (names_of ms) then place_named ms name else o) (place_last (same_word name m.name) (length (names_of ms)))
    ∙ (or_among (among name (names_of ms)) (place_named ms name) _ (is_some-place_of name (names_of ms))
    ∙ ap (λ n. option_or (place_named ms name) (if same_word name m.name then Some n else None)) (length-map ms (λ (x : FileModel). x.name)))))))

-- ---- how many values a net has

-- the same with one more declaration behind the others
pub count-push : (ds : List Decl) (d : Decl) (net : List ℕ) → also (declared_count ds) d.net (length d.values) net ≡ declared_count (ds ++ d ∷ []) net
count-push [] d net = refl
count-push (x ∷ ds) d net = by (same_word net x.net) (count-push ds d net)
  where
    by : (b : Bool) → also (declared_count ds) d.net (length d.values) net ≡ declared_count (ds ++ d ∷ []) net
        → option_or (if b then Some (length x.values) else declared_count ds net) (if same_word net d.net then Some (length d.values) else None) ≡ (if b then Some (length x.values) else declared_count (ds ++ d ∷ []) net)
    by true rest = refl
    by false rest = rest

-- a declared net has as many values as are declared, and another has two
pub count-declared : (ds : List Decl) (net : List ℕ) (n : ℕ) → declared_count ds net ≡ Some n → n ≡ count_of ds net
count-declared [] net n e = cc
count-declared (d ∷ ds) net n e = ⊎_elim
    (λ (y : same_word net d.net ≡ true). let f = rw y at e in rw y cc)
    (λ (o : same_word net d.net ≡ false). rw o (count-declared ds net n (rw o at e)))
    (cases_Bool (same_word net d.net))

pub count-undeclared : (ds : List Decl) (net : List ℕ) → declared_count ds net ≡ None → 2 ≡ count_of ds net
count-undeclared [] net e = refl
count-undeclared (d ∷ ds) net e = ⊎_elim
    (λ (y : same_word net d.net ≡ true). let f = rw y at e in cc)
    (λ (o : same_word net d.net ≡ false). rw o (count-undeclared ds net (rw o at e)))
    (cases_Bool (same_word net d.net))

pub ruleset counting = (count-declared, count-undeclared)

-- ---- names among others

-- a name more among others
pub among-added : (net name : List ℕ) (set : List (List ℕ)) → among net (if among name set then set else set ++ name ∷ []) ≡ (among net set || same_word net name)
among-added net name set = ⊎_elim
    (λ (y : among name set ≡ true). ap (among net) (cond-true _ _ _ y) ∙ known y)
    (λ (n : among name set ≡ false). ap (among net) (cond-false _ _ _ n) ∙ (among-append net set (name ∷ []) ∙ ap (λ b. among net set || b) (or-false (same_word net name))))
    (cases_Bool (among name set))
  where
    or_same : (a b : Bool) → (b ≡ true → a ≡ true) → a ≡ (a || b)
    or_same true b h = refl
    or_same false true h = h refl
    or_same false false h = refl

    known : among name set ≡ true → among net set ≡ (among net set || same_word net name)
    known y = or_same (among net set) (same_word net name) (λ e. ap (λ w. among w set) (same_word_is net name e) ∙ y)

or_assoc : (a b c : Bool) → ((a || b) || c) ≡ (a || (b || c))
or_assoc true b c = refl
or_assoc false b c = refl

pub added-none : (set : List (List ℕ)) → HasAdded set [] set
added-none set = record { each = λ net. sym (or-false (among net set)) }

pub added-more : (old names now : List (List ℕ)) (name : List ℕ) → HasAdded old names now → HasAdded old (names ++ name ∷ []) (if among name now then now else now ++ name ∷ [])
added-more old names now name h = record {
  each = λ net. among-added net name now ∙ (ap (λ b. b || same_word net name) (h.each net) ∙ (or_assoc (among net old) (among net names) (same_word net name)
      ∙ ap (λ b. among net old || b) (ap (λ b. among net names || b) (sym (or-false (same_word net name))) ∙ sym (among-append net names (name ∷ [])))));
}

-- names that were added to none, and then others
pub added-both : (a b one both : List (List ℕ)) → HasAdded [] a one → HasAdded one b both → HasNames both (a ++ b)
added-both a b one both h k = record { each = λ net. k.each net ∙ (ap (λ t. t || among net b) (h.each net) ∙ sym (among-append net a b)) }

pub ruleset adding = (added-none, added-both)

-- ---- bound formals

pub bound-push : (binds : List Bind) (b : Bind) (net : List ℕ) → is_bound (binds ++ b ∷ []) net ≡ (is_bound binds net || same_word net b.formal)
bound-push [] b net = by (same_word net b.formal)
  where
    by : (t : Bool) → is_some (if t then Some b.actual else None) ≡ t
    by true = refl
    by false = refl
bound-push (x ∷ binds) b net = by (same_word net x.formal) (bound-push binds b net)
  where
    by : (t : Bool) → is_bound (binds ++ b ∷ []) net ≡ (is_bound binds net || same_word net b.formal)
        → is_some (if t then Some x.actual else actual_of (binds ++ b ∷ []) net) ≡ (is_some (if t then Some x.actual else actual_of binds net) || same_word net b.formal)
    by true rest = refl
    by false rest = rest

pub bound-more : (binds : List Bind) (b : Bind) (set : List (List ℕ)) → HasBound binds set → HasBound (binds ++ b ∷ []) (if among b.formal set then set else set ++ b.formal ∷ [])
bound-more binds b set h = record { each = λ net. among-added net b.formal set ∙ (ap (λ t. t || same_word net b.formal) (h.each net) ∙ sym (bound-push binds b net)) }

-- ---- one element more of a list

at_next : {X : Type 0} (F : List X → Type 0) (xs : List X) (i : ℕ) (x : X) → i < length xs → x ≡ get_or xs i x → F (take i xs ++ x ∷ []) → F (take (i + 1) xs)
at_next F xs i x h e f = subst F (sym (take_more xs i x h ∙ ap (λ y. take i xs ++ y ∷ []) (sym e))) f

pub added_next : (old names now new : List (List ℕ)) (i : ℕ) (name : List ℕ) → HasAdded old (take i names) now → i < length names → name ≡ get_or names i name
    → new ≡ (if among name now then now else now ++ name ∷ []) → HasAdded old (take (i + 1) names) new
added_next old names now new i name h within is e =
    at_next (λ ns. HasAdded old ns new) names i name within is (subst (HasAdded old (take i names ++ name ∷ [])) (sym e) (added-more old (take i names) now name h))

pub bound_next : (binds : List Bind) (now new : List (List ℕ)) (i : ℕ) (b : Bind) → HasBound (take i binds) now → i < length binds → b ≡ get_or binds i b
    → new ≡ (if among b.formal now then now else now ++ b.formal ∷ []) → HasBound (take (i + 1) binds) new
bound_next binds now new i b h within is e =
    at_next (λ bs. HasBound bs new) binds i b within is (subst (HasBound (take i binds ++ b ∷ [])) (sym e) (bound-more (take i binds) b now h))

pub place_next : {S : Type 0} (ms : List FileModel) (old new : IndexMap (List ℕ) ℕ S) (i : ℕ) (m : FileModel) → Finds old (place_named (take i ms)) → i < length ms → m ≡ get_or ms i m
    → FindsFirst old new m.name i → Finds new (place_named (take (i + 1) ms))
place_next ms old new i m h within is f =
    let many : length (take i ms) ≡ i = length-take-le i ms (omega arith) in
    at_next (λ xs. Finds new (place_named xs)) ms i m within is
    (finds-same new _ (place_named (take i ms ++ m ∷ [])) (f.finds (place_named (take i ms)) h)
    (λ name. ap (λ k. also (place_named (take i ms)) m.name k name) (sym many) ∙ place-push (take i ms) m name))

pub count_next : {S : Type 0} (ds : List Decl) (old new : IndexMap (List ℕ) ℕ S) (i : ℕ) (d : Decl) → Finds old (declared_count (take i ds)) → i < length ds → d ≡ get_or ds i d
    → FindsFirst old new d.net (length d.values) → Finds new (declared_count (take (i + 1) ds))
count_next ds old new i d h within is f =
    at_next (λ xs. Finds new (declared_count xs)) ds i d within is
    (finds-same new _ (declared_count (take i ds ++ d ∷ [])) (f.finds (declared_count (take i ds)) h) (count-push (take i ds) d))
