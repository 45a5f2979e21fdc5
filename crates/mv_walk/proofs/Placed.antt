-- Models found by name and by place.
use Rattle.std.proofs.Common.{◌≡◌, ℕ, suc, ◌<◌, Bool, true, false, List, [], ◌∷◌, length, Option, Some, None, refl, sym, ◌∙◌, arith}
use Rattle.std.specs.Prelude.{if◌then◌else◌}
use Rattle.std.specs.Option.{option_map}
use Rattle.std.proofs.lemmas.List.{length-map}
use Rattle.mv_base.specs.Names.{same_word}
use Rattle.mv_base.proofs.NameLemmas.{place_of-cons, IsPlace-from_place}
use Rattle.mv_design.specs.declared.design.FileModel.{FileModel}
use Rattle.mv_tree.specs.Tree.{model_named}
use Rattle.mv_walk.specs.Commands.{names_of, model_at, place_named}

some_suc : (o : Option ℕ) (k : ℕ) → option_map suc o ≡ Some k → (j : ℕ) × (o ≡ Some j) × (k ≡ suc j)
some_suc None k e = cc
some_suc (Some j) k e = (j, refl, cc)

none_suc : (o : Option ℕ) → option_map suc o ≡ None → o ≡ None
none_suc None e = refl
none_suc (Some j) e = cc

-- the model at the place of a name is the one with the name
pub named_at : (ms : List FileModel) (name : List ℕ) (k : ℕ) → place_named ms name ≡ Some k → model_named ms name ≡ Some (model_at ms k)
named_at [] name k e = cc
named_at (m ∷ ms) name k e = by (same_word name m.name) (λ j f. named_at ms name j f) (sym (place_of-cons name m.name (names_of ms)) ∙ e)
  where
    zero_place : (j : ℕ) → Some 0 ≡ Some j → j ≡ 0
    zero_place j e = cc

    by : (b : Bool) → ((j : ℕ) → place_named ms name ≡ Some j → model_named ms name ≡ Some (model_at ms j))
        → (if b then Some 0 else option_map suc (place_named ms name)) ≡ Some k → (if b then Some m else model_named ms name) ≡ Some (model_at (m ∷ ms) k)
    by true rest f = rw (zero_place k f) refl
    by false rest f = let s = some_suc (place_named ms name) k f in rw s.2 (rest s.0 s.1)

-- where a name has no place, no model has it
pub unnamed_at : (ms : List FileModel) (name : List ℕ) → place_named ms name ≡ None → model_named ms name ≡ None
unnamed_at [] name e = refl
unnamed_at (m ∷ ms) name e = by (same_word name m.name) (λ f. unnamed_at ms name f) (sym (place_of-cons name m.name (names_of ms)) ∙ e)
  where
    by : (b : Bool) → (place_named ms name ≡ None → model_named ms name ≡ None) → (if b then Some 0 else option_map suc (place_named ms name)) ≡ None → (if b then Some m else model_named ms name) ≡ None
    by true rest f = cc
    by false rest f = rest (none_suc (place_named ms name) f)

-- a place is one of the models'
pub place_within : (ms : List FileModel) (name : List ℕ) (k : ℕ) → place_named ms name ≡ Some k → k < length ms
place_within ms name k e =
    let p = IsPlace-from_place name (names_of ms) k e in
    let size : length (names_of ms) ≡ length ms = length-map ms (λ (m : FileModel). m.name) in
    let within : k < length (names_of ms) = p.within in
    omega arith

-- two names with one place are one
pub one_name : (ms : List FileModel) (a b : List ℕ) (k : ℕ) → place_named ms a ≡ Some k → place_named ms b ≡ Some k → a ≡ b
one_name ms a b k e f =
    let p = IsPlace-from_place a (names_of ms) k e in
    let q = IsPlace-from_place b (names_of ms) k f in
    cc (p.found, q.found)
