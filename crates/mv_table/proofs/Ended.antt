-- Two lists side by side: their entries at a place, and behind the end of the shorter one nothing.
use Rattle.std.proofs.Common.{◌≡◌, ℕ, ◌≤◌, ◌<◌, min, List, [], ◌∷◌, ◌++◌, ◌+◌, length, drop, get_or, Option, Some, Ok, Err, refl, sym, ap, ◌∙◌, ⊎_elim, arith}
use Rattle.std.proofs.lemmas.List.{drop_all, get_or-map, get_or_default}
use Rattle.std.proofs.lemmas.Bool.{cases_lt, eq-eqb, ne_eqb}
use Rattle.std.proofs.lemmas.List.Quantifiers.{position-Some}
use Rattle.mv_base.specs.Names.{same_word, place_of}
use Rattle.mv_base.proofs.NameLemmas.{same_word_is}
use Rattle.mv_base.specs.Set.{empty}
use Rattle.mv_word.specs.declared.fault.EntryFault.TheVariants.{Equal}
use Rattle.mv_word.specs.Entries.{word_set}
use Rattle.mv_design.specs.declared.design.Decl.{Decl}
use Rattle.mv_design.specs.declared.table.Entry.TheVariants.{Set, Same}
use Rattle.mv_design.specs.Values.{values_of, declared_of}
use Rattle.mv_table.specs.Entries.{places_of, in_said, same_at, out_word, out_said, entry_faults, said_or, ins_faults, ins_said, outs_faults, outs_said}
use Rattle.mv_table.proofs.Places.{drop_one}

-- the end of either list is the end of what goes by both
ended : {R : Type 0} (f : List (List ℕ) → List (List ℕ) → List R) → ((b : List (List ℕ)) → f [] b ≡ []) → ((a : List (List ℕ)) → f a [] ≡ []) → (a b : List (List ℕ)) (k : ℕ) → k ≡ min (length a) (length b) → f (drop k a) (drop k b) ≡ []
ended f left right a b k e =
    ⊎_elim
    (λ (h : length a < length b). rw (drop_all k a (omega arith)) (left (drop k b)))
    (λ (h : length b ≤ length a). rw (drop_all k b (omega arith)) (right (drop k a)))
    (cases_lt (length a) (length b))

ins_faults-none : (n : ℕ) (ds : List Decl) (nets : List (List ℕ)) → ins_faults n ds nets [] ≡ []
ins_faults-none n ds [] = refl
ins_faults-none n ds (net ∷ nets) = refl

ins_said-none : (ds : List Decl) (nets : List (List ℕ)) → ins_said ds nets [] ≡ []
ins_said-none ds [] = refl
ins_said-none ds (net ∷ nets) = refl

outs_faults-none : (n : ℕ) (ds : List Decl) (ins nets : List (List ℕ)) → outs_faults n ds ins nets [] ≡ []
outs_faults-none n ds ins [] = refl
outs_faults-none n ds ins (net ∷ nets) = refl

outs_said-none : (ds : List Decl) (ins nets : List (List ℕ)) → outs_said ds ins nets [] ≡ []
outs_said-none ds ins [] = refl
outs_said-none ds ins (net ∷ nets) = refl

pub ins_faults-ended : (n : ℕ) (ds : List Decl) (nets words : List (List ℕ)) (k : ℕ) → k ≡ min (length nets) (length words) → ins_faults n ds (drop k nets) (drop k words) ≡ []
ins_faults-ended n ds nets words k e = ended (ins_faults n ds) (λ b. refl) (ins_faults-none n ds) nets words k e

pub ins_said-ended : (ds : List Decl) (nets words : List (List ℕ)) (k : ℕ) → k ≡ min (length nets) (length words) → ins_said ds (drop k nets) (drop k words) ≡ []
ins_said-ended ds nets words k e = ended (ins_said ds) (λ b. refl) (ins_said-none ds) nets words k e

pub outs_faults-ended : (n : ℕ) (ds : List Decl) (ins nets words : List (List ℕ)) (k : ℕ) → k ≡ min (length nets) (length words) → outs_faults n ds ins (drop k nets) (drop k words) ≡ []
outs_faults-ended n ds ins nets words k e = ended (outs_faults n ds ins) (λ b. refl) (outs_faults-none n ds ins) nets words k e

pub outs_said-ended : (ds : List Decl) (ins nets words : List (List ℕ)) (k : ℕ) → k ≡ min (length nets) (length words) → outs_said ds ins (drop k nets) (drop k words) ≡ []
outs_said-ended ds ins nets words k e = ended (outs_said ds ins) (λ b. refl) (outs_said-none ds ins) nets words k e

pub ruleset ends = (ins_faults-ended, ins_said-ended, outs_faults-ended, outs_said-ended)

-- a column whose place is known has the values of the net that is declared there
pub values_at-place : (ds : List Decl) (nets values : List (List ℕ)) (places : List (Option ℕ)) (k : ℕ) (other : Option ℕ) → places ≡ places_of ds nets → k < length nets → ((net : List ℕ) → get_or places k other ≡ place_of net (declared_of ds) → values ≡ values_of ds net) → values ≡ values_of ds (get_or nets k [])
values_at-place ds nets values places k other e h found =
    found (get_or nets k []) (rw e (get_or-map (λ net. place_of net (declared_of ds)) nets k [] other h))

-- the faults and the sets of input columns from a place on, by the values of the column there
pub ins_faults-split : (n : ℕ) (ds : List Decl) (nets words : List (List ℕ)) (k : ℕ) (values : List (List ℕ)) (w : List ℕ) → k < length nets → k < length words → values ≡ values_of ds (get_or nets k []) → w ≡ get_or words k w → ins_faults n ds (drop k nets) (drop k words) ≡ entry_faults n (word_set values w) ++ ins_faults n ds (drop (k + 1) nets) (drop (k + 1) words)
unfolding in_said
ins_faults-split n ds nets words k values w h i e f =
    rw (drop_one nets k (get_or nets k []) h (get_or_default nets k [] (get_or nets k []) h), drop_one words k w i f, e) refl

pub ins_said-split : (ds : List Decl) (nets words : List (List ℕ)) (k : ℕ) (values : List (List ℕ)) (w : List ℕ) → k < length nets → k < length words → values ≡ values_of ds (get_or nets k []) → w ≡ get_or words k w → ins_said ds (drop k nets) (drop k words) ≡ said_or empty (word_set values w) ∷ ins_said ds (drop (k + 1) nets) (drop (k + 1) words)
unfolding in_said
ins_said-split ds nets words k values w h i e f =
    rw (drop_one nets k (get_or nets k []) h (get_or_default nets k [] (get_or nets k []) h), drop_one words k w i f, e) refl

-- and the faults and the entries of output columns
pub outs_faults-split : (n : ℕ) (ds : List Decl) (ins nets words : List (List ℕ)) (k : ℕ) (values : List (List ℕ)) (w : List ℕ) → k < length nets → k < length words → values ≡ values_of ds (get_or nets k []) → w ≡ get_or words k w → outs_faults n ds ins (drop k nets) (drop k words) ≡ entry_faults n (out_word ds ins values w) ++ outs_faults n ds ins (drop (k + 1) nets) (drop (k + 1) words)
unfolding out_said
outs_faults-split n ds ins nets words k values w h i e f =
    rw (drop_one nets k (get_or nets k []) h (get_or_default nets k [] (get_or nets k []) h), drop_one words k w i f, e) refl

pub outs_said-split : (ds : List Decl) (ins nets words : List (List ℕ)) (k : ℕ) (values : List (List ℕ)) (w : List ℕ) → k < length nets → k < length words → values ≡ values_of ds (get_or nets k []) → w ≡ get_or words k w → outs_said ds ins (drop k nets) (drop k words) ≡ said_or (Set empty) (out_word ds ins values w) ∷ outs_said ds ins (drop (k + 1) nets) (drop (k + 1) words)
unfolding out_said
outs_said-split ds ins nets words k values w h i e f =
    rw (drop_one nets k (get_or nets k []) h (get_or_default nets k [] (get_or nets k []) h), drop_one words k w i f, e) refl

-- a name that stands at a place has the values of the net that is declared where that place says
pub values_at-named : (ds : List Decl) (nets values : List (List ℕ)) (name : List ℕ) (places : List (Option ℕ)) (k : ℕ) (other : Option ℕ) → places ≡ places_of ds nets → place_of name nets ≡ Some k → ((net : List ℕ) → get_or places k other ≡ place_of net (declared_of ds) → values ≡ values_of ds net) → values ≡ values_of ds name
values_at-named ds nets values name places k other e at found =
    let p = position-Some (same_word name) nets k [] at in
    values_at-place ds nets values places k other e p.0 found ∙ ap (values_of ds) (sym (same_word_is name (get_or nets k []) p.1))

-- a column that is named in an output entry has as many values, or it hasn't
pub same_at-equal : (ds : List Decl) (values : List (List ℕ)) (name : List ℕ) (o : Option ℕ) (k : ℕ) → o ≡ Some k → length (values_of ds name) ≡ length values → same_at ds values name o ≡ Ok (Same k)
same_at-equal ds values name o k e h = rw (e, eq-eqb _ _ h) refl

pub same_at-other : (ds : List Decl) (values : List (List ℕ)) (name : List ℕ) (o : Option ℕ) (k : ℕ) → o ≡ Some k → (length (values_of ds name) ≡ length values → ⊥) → same_at ds values name o ≡ Err (Equal name)
same_at-other ds values name o k e h = rw (e, ne_eqb _ _ h) refl
