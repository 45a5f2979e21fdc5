-- What is drawn from a generator of random words, one draw after the other.
use Rattle.std.specs.Prelude.{ℕ, zero, suc, ◌%◌, List, [], ◌∷◌, ◌++◌}
use Rattle.rand_pcg.specs.Lcg.{Lcg, started, increment_of}
use Rattle.rand_pcg.specs.Pcg.{multiplier_64, pcg32}

-- what was drawn, and the generator that is left
pub record Drawn (A : Type 0) : Type 0 where
  pub value : A
  pub rest : Lcg

-- nothing was drawn: this value stands without it
abbrev pub given : {A : Type 0} → A → Lcg → Drawn A
given x g = record { value = x; rest = g }

-- the generator of a seed, on stream 1
unfoldable pub generator : ℕ → Lcg
generator seed = started 64 multiplier_64 seed (increment_of 64 1)

-- a draw: the generator's next word modulo m
unfoldable pub draw : ℕ → Lcg → Drawn ℕ
draw m g = record { value = (pcg32 g).0 % m; rest = (pcg32 g).1 }

-- so many draws by the same law: all but the last, and then the last
unfoldable pub several : {A : Type 0} → (Lcg → Drawn A) → ℕ → Lcg → Drawn (List A)
several law zero g = given [] g
several law (suc n) g =
    let before = several law n g in
    let last = law before.rest in
    record { value = before.value ++ last.value ∷ []; rest = last.rest }

-- a draw for each item of a list, in order
unfoldable pub each : {A B : Type 0} → (A → Lcg → Drawn B) → List A → Lcg → Drawn (List B)
each law [] g = given [] g
each law (x ∷ xs) g =
    let first = law x g in
    let others = each law xs first.rest in
    record { value = first.value ∷ others.value; rest = others.rest }
