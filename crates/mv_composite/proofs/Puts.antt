-- Lines put one by one: what is known of lines that were taken holds along lists of what gives them.
use Rattle.std.proofs.Common.{Option, is_none, ◌&&◌, if◌then◌else◌, ◌≡◌, ◌∙◌, ℕ, ◌+◌, ◌<◌, ◌≤◌, Bool, true, false, List, [], ◌∷◌, ◌++◌, length, filter, get_or, take, refl, sym, ap, subst, inl, inr, append-nil}
use Rattle.std.specs.List.{flat_map}
use Rattle.std.proofs.lemmas.Bool.{cases_Bool}
use Rattle.std.proofs.lemmas.Grind.{flat_map-append}
use Rattle.std.proofs.lemmas.List.{take_more, take_all, map-append}
use Rattle.std.proofs.lemmas.List.Elements.{All-nil}
use Rattle.mv_cover.specs.Literal.{Lit}
use Rattle.mv_cover.specs.declared.line.Line.{Line}
use Rattle.mv_cover.specs.Cubes.{IsCube}
use Rattle.mv_cover.specs.Meets.{literal_at, met}
use Rattle.mv_cover.specs.declared.cover.Cover.{Cover}
use Rattle.mv_cover.specs.Cofactors.{cubes_of, cube_without}
use Rattle.mv_cover.specs.Complement.{lines_for}
use Rattle.mv_cover.specs.Absorb.{left_of, IsLeftOf}
use Rattle.mv_composite.specs.declared.inner.Inner.{Inner}
use Rattle.mv_composite.specs.Composite.{set_meets, default_meets, cubes_giving, line_given}
use Rattle.mv_composite.specs.Puts.{Puts}

-- of no lines none are left
pub left_none : (left : List Line) → left ≡ [] → IsLeftOf [] left
unfolding left_of
left_none left e = record { formed = All-nil (λ (l : Line). IsCube l.cube); lines = e }

-- ---- along a list

-- what each of the elements gives, with one element more
pub given_more : {X : Type 0} (g : X → List Line) (xs : List X) (i : ℕ) (x : X) → i < length xs → x ≡ get_or xs i x → flat_map g (take (i + 1) xs) ≡ flat_map g (take i xs) ++ g x
given_more g xs i x low e =
    ap (flat_map g) (take_more xs i x low)
    ∙ (flat_map-append g (take i xs) (get_or xs i x ∷ []) ∙ ap (λ zs. flat_map g (take i xs) ++ zs) (append-nil (g (get_or xs i x)) ∙ ap g (sym e)))

-- the lines of cubes one after the other
pub lines_for-flat : {X : Type 0} (out : ℕ) (g : X → List (List Lit)) (xs : List X) → lines_for out (flat_map g xs) ≡ flat_map (λ x. lines_for out (g x)) xs
lines_for-flat out g [] = refl
lines_for-flat out g (x ∷ xs) =
    map-append (λ (c : List Lit). record { cube = c; out = out }) (g x) (flat_map g xs) ∙ ap (λ (zs : List Line). lines_for out (g x) ++ zs) (lines_for-flat out g xs)

-- one element more has been put, where R is known of lines one after the other
pub puts_next : {S X : Type 0} (R : S → S → List Line → Type 0) → ((a b c : S) (ls ms : List Line) → R a b ls → R b c ms → R a c (ls ++ ms)) → (g : X → List Line) (xs : List X) (i : ℕ) (x : X) (a b c : S) → i < length xs → x ≡ get_or xs i x → R a b (flat_map g (take i xs)) → R b c (g x) → R a c (flat_map g (take (i + 1) xs))
puts_next R more g xs i x a b c low e p q = subst (R a c) (sym (given_more g xs i x low e)) (more a b c (flat_map g (take i xs)) (g x) p q)

-- all have
pub puts_all : {X : Type 0} (P : List Line → Type 0) (g : X → List Line) (xs : List X) (i : ℕ) → length xs ≤ i → P (flat_map g (take i xs)) → P (flat_map g xs)
puts_all P g xs i end p = subst (λ zs. P (flat_map g zs)) (take_all i xs end) p

-- the same of the lines that are left of all of them
pub left_next : {X : Type 0} (g : X → List Line) (xs : List X) (i : ℕ) (x : X) (b c : List Line) → i < length xs → x ≡ get_or xs i x → IsLeftOf (flat_map g (take i xs)) b → Puts b c (g x) → IsLeftOf (flat_map g (take (i + 1) xs)) c
left_next g xs i x b c low e is q = subst (λ (ls : List Line). IsLeftOf ls c) (sym (given_more g xs i x low e)) (q.left (flat_map g (take i xs)) is)

pub left_all : {X : Type 0} (g : X → List Line) (xs : List X) (i : ℕ) (b : List Line) → length xs ≤ i → IsLeftOf (flat_map g (take i xs)) b → IsLeftOf (flat_map g xs) b
left_all g xs i b end is = subst (λ zs. IsLeftOf (flat_map g zs) b) (take_all i xs end) is

-- ---- the meets of a cube with those of lines that are asked for

-- what one line gives there
abbrev pub meets_given : List Lit → (asked : Bool) → ℕ → List Lit → List Line
meets_given rest true out cube = lines_for out (met rest cube)
meets_given rest false out cube = []

pub meets_flat : (rest : List Lit) (p : Line → Bool) (out : ℕ) (lines : List Line) → lines_for out (flat_map (met rest) (cubes_of (filter p lines))) ≡ flat_map (λ (l : Line). meets_given rest (p l) out l.cube) lines
meets_flat rest p out [] = refl
meets_flat rest p out (l ∷ ls) =
    let ih = meets_flat rest p out ls in
    elim (cases_Bool (p l)) [
      | inl t ↦
          rw t
          (map-append (λ (c : List Lit). record { cube = c; out = out }) (met rest l.cube) (flat_map (met rest) (cubes_of (filter p ls)))
          ∙ ap (λ (zs : List Line). lines_for out (met rest l.cube) ++ zs) ih)
      | inr f ↦ rw f ih
    ]

-- ---- a line of the reader

-- with the cubes outside all lines of the net where its default has a value that is asked for
pub meets_giving : (outside : List (List Lit)) (c : Cover) (asked : Option ℕ) (rest : List Lit) (out : ℕ) → lines_for out (flat_map (met rest) (cubes_giving outside c asked)) ≡ lines_for out (flat_map (met rest) (cubes_of (filter (λ (l : Line). set_meets asked l.out) c.lines))) ++ lines_for out (flat_map (met rest) (if default_meets c.default asked then outside else []))
meets_giving outside c asked rest out =
    let own = cubes_of (filter (λ (l : Line). set_meets asked l.out) c.lines) in
    let more = if default_meets c.default asked then outside else [] in
    ap (lines_for out) (flat_map-append (met rest) own more) ∙ map-append (λ (x : List Lit). record { cube = x; out = out }) (flat_map (met rest) own) (flat_map (met rest) more)

pub puts_giving : (P : List Line → Type 0) (outside : List (List Lit)) (c : Cover) (asked : Option ℕ) (rest : List Lit) (out : ℕ) → default_meets c.default asked ≡ false → P (lines_for out (flat_map (met rest) (cubes_of (filter (λ (l : Line). set_meets asked l.out) c.lines)))) → P (lines_for out (flat_map (met rest) (cubes_giving outside c asked)))
puts_giving P outside c asked rest out f p =
    let own = lines_for out (flat_map (met rest) (cubes_of (filter (λ (l : Line). set_meets asked l.out) c.lines))) in
    subst P (sym (meets_giving outside c asked rest out ∙ (ap (λ t. own ++ lines_for out (flat_map (met rest) (if t then outside else []))) f ∙ append-nil own))) p

pub puts_where : (P : List Line → Type 0) (outside : List (List Lit)) (c : Cover) (asked : Option ℕ) (rest : List Lit) (out : ℕ) → default_meets c.default asked ≡ true → P (lines_for out (flat_map (met rest) (cubes_of (filter (λ (l : Line). set_meets asked l.out) c.lines))) ++ lines_for out (flat_map (met rest) outside)) → P (lines_for out (flat_map (met rest) (cubes_giving outside c asked)))
puts_where P outside c asked rest out t p =
    let own = lines_for out (flat_map (met rest) (cubes_of (filter (λ (l : Line). set_meets asked l.out) c.lines))) in
    subst P (sym (meets_giving outside c asked rest out ∙ ap (λ t. own ++ lines_for out (flat_map (met rest) (if t then outside else []))) t)) p

-- the line itself, where it asks nothing of a total net
pub puts_whole : (P : List Line → Type 0) (outside : List (List Lit)) (inner : Inner) (l copy : Line) (asked : Option ℕ) → asked ≡ literal_at l.cube inner.net.0 → (inner.total && is_none asked) ≡ true → copy ≡ l → P (copy ∷ []) → P (line_given outside inner l)
unfolding line_given
puts_whole P outside inner l copy asked e t c p =
    let whole : (inner.total && is_none (literal_at l.cube inner.net.0)) ≡ true = ap (λ o. inner.total && is_none o) (sym e) ∙ t in
    rw whole (subst (λ (x : Line). P (x ∷ [])) c p)

pub puts_split : (P : List Line → Type 0) (outside : List (List Lit)) (inner : Inner) (l : Line) (asked : Option ℕ) (rest : List Lit) → asked ≡ literal_at l.cube inner.net.0 → (inner.total && is_none asked) ≡ false → rest ≡ cube_without inner.net.0 l.cube → P (lines_for l.out (flat_map (met rest) (cubes_giving outside inner.cover asked))) → P (line_given outside inner l)
unfolding line_given
puts_split P outside inner l asked rest e f r p =
    let split : (inner.total && is_none (literal_at l.cube inner.net.0)) ≡ false = ap (λ o. inner.total && is_none o) (sym e) ∙ f in
    rw split (subst P (λ i. lines_for l.out (flat_map (met (r i)) (cubes_giving outside inner.cover (e i)))) p)
