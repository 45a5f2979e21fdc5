-- Names, each once, in the order in which they come; how often a name stands in a list; and what holds of each name of one.
use Rattle.std.proofs.Common.{◌≡◌, ℕ, ◌+◌, Bool, true, false, ◌||◌, cond, List, [], ◌∷◌, ◌++◌, length, get_or, drop, ◌<◌, refl, sym, ◌∙◌, ap, arith, ⊎_elim}
use Rattle.std.specs.Prelude.{nat_lt, count_by, if◌then◌else◌}
use Rattle.std.specs.List.{flat_map, list_all}
use Rattle.std.proofs.lemmas.Bool.{false≢true, and_from, and_parts, or_cases, or_left, or_right}
use Rattle.std.proofs.lemmas.Bool.Decides.{nat_tests}
use Rattle.std.proofs.lemmas.List.{append-nil, append_assoc, drop_more}
use Rattle.std.proofs.lemmas.List.Sums.{sum_by-cons, sum_by-append}
use Rattle.mv_base.specs.Names.{same_word, among, names_differ}
use Rattle.mv_base.proofs.NameLemmas.{same_word_is, same_word_refl, among-append, differ-repeated}
use Rattle.mv_design.specs.Nets.{Naming}
use Rattle.mv_acyclic.specs.Driving.{with_name, with_names, with_named}

pub with_names_append : (names us ws : List (List ℕ)) → with_names names (us ++ ws) ≡ with_names (with_names names us) ws
with_names_append names [] ws = refl
with_names_append names (u ∷ us) ws = with_names_append (with_name names u) us ws

-- what commands name, one command behind the other
with_named_are : (names : List (List ℕ)) (ns : List Naming) → with_named names ns ≡ with_names names (flat_map (λ x. x.nets) ns)
with_named_are names [] = refl
with_named_are names (n ∷ ns) = with_named_are (with_names names n.nets) ns ∙ sym (with_names_append names n.nets (flat_map (λ x. x.nets) ns))

-- one more command, whose nets are given in two parts
pub with_named_more : (names : List (List ℕ)) (ns : List Naming) (i : ℕ) (n : Naming) (us ws : List (List ℕ)) → i < length ns → n ≡ get_or ns i n
    → n.nets ≡ us ++ ws
    → with_named names (drop i ns) ≡ with_named (with_names (with_names names us) ws) (drop (i + 1) ns)
with_named_more names ns i n us ws lt is parts =
    let rest = drop (i + 1) ns in
    ap (with_named names) (drop_more ns i n lt ∙ ap (λ (x : Naming). x ∷ rest) (sym is))
    ∙ ap (λ xs. with_named xs rest) (ap (with_names names) parts ∙ with_names_append names us ws)

-- inputs, outputs and what commands name
pub with_names_of : (is os : List (List ℕ)) (ns : List Naming)
    → with_named (with_names (with_names [] is) os) ns ≡ with_names [] (is ++ (os ++ flat_map (λ x. x.nets) ns))
with_names_of is os ns =
    with_named_are (with_names (with_names [] is) os) ns
    ∙ sym (with_names_append [] is (os ++ flat_map (λ x. x.nets) ns) ∙ with_names_append (with_names [] is) os (flat_map (λ x. x.nets) ns))

new_head : (names ws : List (List ℕ)) (w : List ℕ) (known : Bool) → among w names ≡ known → names_differ (names ++ w ∷ ws) ≡ true
    → (if known then names else names ++ w ∷ []) ≡ names ++ w ∷ []
new_head names ws w false e d = refl
new_head names ws w true e d = absurd (false≢true (sym (differ-repeated names ws w e) ∙ d))

-- names that differ stand as they come
pub with_names_new : (names ws : List (List ℕ)) → names_differ (names ++ ws) ≡ true → with_names names ws ≡ names ++ ws
with_names_new names [] d = sym (append-nil names)
with_names_new names (w ∷ ws) d =
    ap (λ ns. with_names ns ws) (new_head names ws w (among w names) refl d)
    ∙ (with_names_new (names ++ w ∷ []) ws (ap names_differ (append_assoc names (w ∷ []) ws) ∙ d) ∙ append_assoc names (w ∷ []) ws)

or_same : (b c : Bool) → (b ≡ true → c ≡ true) → c ≡ (c || (b || false))
or_same false false h = refl
or_same false true h = refl
or_same true false h = h refl
or_same true true h = refl

among_if : (w u : List ℕ) (names : List (List ℕ)) (known : Bool) → among u names ≡ known
    → among w (if known then names else names ++ u ∷ []) ≡ (among w names || (same_word w u || false))
among_if w u names true e = or_same (same_word w u) (among w names) (λ s. ap (λ x. among x names) (same_word_is w u s) ∙ e)
among_if w u names false e = among-append w names (u ∷ [])

pub among-with_name : (w : List ℕ) (names : List (List ℕ)) (u : List ℕ) → among w (with_name names u) ≡ (among w names || (same_word w u || false))
among-with_name w names u = among_if w u names (among u names) refl

or_moved : (a b c : Bool) → ((a || (b || false)) || c) ≡ (a || (b || c))
or_moved true b c = refl
or_moved false true c = refl
or_moved false false c = refl

-- a name is among them where it was there, or was added
pub among-with_names : (w : List ℕ) (names ws : List (List ℕ)) → among w (with_names names ws) ≡ (among w names || among w ws)
among-with_names w names [] = or_end (among w names)
  where
    or_end : (b : Bool) → b ≡ (b || false)
    or_end true = refl
    or_end false = refl
among-with_names w names (u ∷ us) =
    among-with_names w (with_name names u) us
    ∙ (ap (λ b. b || among w us) (among-with_name w names u) ∙ or_moved (among w names) (same_word w u) (among w us))

-- ---- how often a name stands in a list

pub count_of_cons : (w u : List ℕ) (us : List (List ℕ)) → count_by (same_word w) (u ∷ us) ≡ cond (same_word w u) 1 0 + count_by (same_word w) us
count_of_cons w u us = sum_by-cons (λ x. cond (same_word w x) 1 0) u us

pub count_of_append : (w : List ℕ) (us ws : List (List ℕ)) → count_by (same_word w) (us ++ ws) ≡ count_by (same_word w) us + count_by (same_word w) ws
count_of_append w us ws = sum_by-append (λ x. cond (same_word w x) 1 0) us ws

some_counted : (b : Bool) (n : ℕ) → (b || nat_lt 0 n) ≡ nat_lt 0 (cond b 1 0 + n)
some_counted true n = grind (arith, nat_tests)
some_counted false n = ap (nat_lt 0) (omega arith)

-- a name is among them where it stands there at least once
pub among_counted : (w : List ℕ) (us : List (List ℕ)) → among w us ≡ nat_lt 0 (count_by (same_word w) us)
among_counted w [] = refl
among_counted w (u ∷ us) =
    ap (λ b. same_word w u || b) (among_counted w us)
    ∙ (some_counted (same_word w u) (count_by (same_word w) us) ∙ ap (nat_lt 0) (sym (count_of_cons w u us)))

-- ---- what holds of each name

-- what holds of each holds of those among them
pub all_among : (p : List ℕ → Bool) (ws : List (List ℕ)) (w : List ℕ) → list_all p ws ≡ true → among w ws ≡ true → p w ≡ true
all_among p [] w all h = absurd (false≢true h)
all_among p (u ∷ us) w all h =
    let q = and_parts (p u) (list_all p us) all in
    ⊎_elim (λ (y : same_word w u ≡ true). ap p (same_word_is w u y) ∙ q.0) (λ (y : among w us ≡ true). all_among p us w q.1 y) (or_cases (same_word w u) (among w us) h)

-- and the other way round
pub all_from_among : (p : List ℕ → Bool) (ws : List (List ℕ)) → ((w : List ℕ) → among w ws ≡ true → p w ≡ true) → list_all p ws ≡ true
all_from_among p [] h = refl
all_from_among p (w ∷ ws) h =
    and_from (p w) (list_all p ws) (h w (or_left (same_word w w) _ (same_word_refl w))) (all_from_among p ws (λ u y. h u (or_right (same_word u w) _ y)))
