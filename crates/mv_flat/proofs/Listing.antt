-- Lists of numbers of tables, one item after the other.
use Rattle.std.proofs.Common.{◌≡◌, ℕ, suc, ◌+◌, ◌<◌, ◌≤◌, List, [], ◌∷◌, ◌++◌, length, get_or, map, take, drop, sym, ◌∙◌, ap, arith, append_assoc, append-nil, drop-cons}
use Rattle.std.specs.List.{flat_map, range_with_len}
use Rattle.std.proofs.lemmas.List.{drop_all, flat_map_more, map-append, take_more}
use Rattle.mv_design.specs.declared.design.Design.{Design}
use Rattle.mv_design.specs.declared.design.FileModel.{FileModel}
use Rattle.mv_walk.specs.declared.opened.Opened.{Opened}
use Rattle.mv_unfold.specs.Laid.{model_numbers}
use Rattle.mv_flat.specs.Shared.{firsts_from, origins_of}
use Rattle.mv_flat.proofs.Origins.{range_more}

abbrev number_of : Opened → ℕ
number_of o = o.model

-- the models of one instance more
numbers_more : (d : Design) (os : List Opened) (i : ℕ) (o : Opened) → i < length os → o ≡ get_or os i o → model_numbers d (take i os) ++ o.model ∷ [] ≡ model_numbers d (take (i + 1) os)
numbers_more d os i o low is =
    ap (λ ks. d.root ∷ ks)
    (sym (map-append number_of (take i os) (o ∷ [])) ∙ ap (map number_of) (ap (λ x. take i os ++ x ∷ []) is ∙ sym (take_more os i o low)))

-- and the numbers of its tables
pub origins_more : (d : Design) (os : List Opened) (i : ℕ) (o : Opened) (ns : List ℕ) → i < length os → o ≡ get_or os i o → ns ≡ flat_map (origins_of d.models) (model_numbers d (take i os))
    → ns ++ origins_of d.models o.model ≡ flat_map (origins_of d.models) (model_numbers d (take (i + 1) os))
origins_more d os i o ns low is all =
    let f : ℕ → List ℕ = origins_of d.models in
    ap (λ ms. ms ++ f o.model) all ∙ (flat_map_more f [] (model_numbers d (take i os)) o.model ∙ ap (flat_map f) (numbers_more d os i o low is))

-- one number more from a first one on
pub counted_more : (old new had : List ℕ) (first k n : ℕ) → had ≡ old ++ range_with_len first k → n ≡ first + k → new ≡ had ++ n ∷ [] → new ≡ old ++ range_with_len first (k + 1)
counted_more old new had first k n all is more =
    more ∙ (ap (λ ns. ns ++ n ∷ []) all ∙ (append_assoc old (range_with_len first k) (n ∷ []) ∙
    ap (λ ns. old ++ ns) (ap (λ j. range_with_len first k ++ j ∷ []) is ∙ sym (range_more first k))))

-- the first numbers so far, and those of the models that are left, with one model more
pub firsts_more : (fs : List ℕ) (n : ℕ) (ms : List FileModel) (i : ℕ) (m : FileModel) → i < length ms → m ≡ get_or ms i m → fs ++ firsts_from n (drop i ms) ≡ firsts_from 0 ms
    → (fs ++ n ∷ []) ++ firsts_from (n + length m.tables) (drop (i + 1) ms) ≡ firsts_from 0 ms
firsts_more fs n ms i m low is all =
    let j : suc i ≡ i + 1 = omega arith in
    let left : drop i ms ≡ m ∷ drop (i + 1) ms =
    drop-cons ms i m low ∙ (ap (λ x. x ∷ drop (suc i) ms) (sym is) ∙ ap (λ k. m ∷ drop k ms) j) in
    append_assoc fs (n ∷ []) (firsts_from (n + length m.tables) (drop (i + 1) ms)) ∙ (ap (λ xs. fs ++ firsts_from n xs) (sym left) ∙ all)

-- and at the end of the models
pub firsts_all : (fs : List ℕ) (n : ℕ) (ms : List FileModel) (i : ℕ) → length ms ≤ i → fs ++ firsts_from n (drop i ms) ≡ firsts_from 0 ms → fs ≡ firsts_from 0 ms
firsts_all fs n ms i end all = sym (append-nil fs) ∙ (ap (λ xs. fs ++ firsts_from n xs) (sym (drop_all i ms end)) ∙ all)
