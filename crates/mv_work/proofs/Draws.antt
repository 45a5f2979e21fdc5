-- One more draw, at the end of several or at the front of those that are left.
use Rattle.std.proofs.Common.{◌≡◌, ℕ, ◌+◌, ◌<◌, ◌≤◌, List, [], ◌∷◌, ◌++◌, length, get_or, drop, refl, add-one}
use Rattle.std.proofs.lemmas.List.{drop_more, drop_all}
use Rattle.rand_pcg.specs.Lcg.{Lcg}
use Rattle.mv_work.specs.Drawing.{Drawn, several, each}

pub several-value : {A : Type 0} (law : Lcg → Drawn A) (n : ℕ) (g : Lcg) → (several law (n + 1) g).value ≡ (several law n g).value ++ (law (several law n g).rest).value ∷ []
unfolding several
several-value law n g = rw add-one refl

pub several-rest : {A : Type 0} (law : Lcg → Drawn A) (n : ℕ) (g : Lcg) → (several law (n + 1) g).rest ≡ (law (several law n g).rest).rest
unfolding several
several-rest law n g = rw add-one refl

pub each-value : {A B : Type 0} (law : A → Lcg → Drawn B) (xs : List A) (i : ℕ) (x d : A) (g : Lcg) → i < length xs → x ≡ get_or xs i d → (each law (drop i xs) g).value ≡ (law x g).value ∷ (each law (drop (i + 1) xs) (law x g).rest).value
unfolding each
each-value law xs i x d g h e = rw (drop_more xs i d h, ← e) refl

pub each-rest : {A B : Type 0} (law : A → Lcg → Drawn B) (xs : List A) (i : ℕ) (x d : A) (g : Lcg) → i < length xs → x ≡ get_or xs i d → (each law (drop i xs) g).rest ≡ (each law (drop (i + 1) xs) (law x g).rest).rest
unfolding each
each-rest law xs i x d g h e = rw (drop_more xs i d h, ← e) refl

pub each-none : {A B : Type 0} (law : A → Lcg → Drawn B) (xs : List A) (i : ℕ) (g : Lcg) → length xs ≤ i → (each law (drop i xs) g).value ≡ []
unfolding each
each-none law xs i g h = rw (drop_all i xs h) refl

pub each-end : {A B : Type 0} (law : A → Lcg → Drawn B) (xs : List A) (i : ℕ) (g : Lcg) → length xs ≤ i → (each law (drop i xs) g).rest ≡ g
unfolding each
each-end law xs i g h = rw (drop_all i xs h) refl
