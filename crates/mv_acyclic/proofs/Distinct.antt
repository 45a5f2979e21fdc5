-- Each name is that of one net: the nets of a model that are driven once.
use Rattle.std.proofs.Common.{◌≡◌, ℕ, ◌+◌, ◌≤◌, Bool, true, false, not, ◌||◌, cond, List, [], ◌∷◌, filter, length, refl, sym, ◌∙◌, ap, arith, ⊎_elim}
use Rattle.std.specs.Prelude.{nat_lt, count_by, if◌then◌else◌}
use Rattle.std.proofs.lemmas.Bool.{false≢true, and_from, and_parts, and_right, not-true, or_left, or_right, or_cases, cases_Bool, not_from_false}
use Rattle.std.proofs.lemmas.Bool.Decides.{nat_tests}
use Rattle.std.proofs.lemmas.Map.Views.{any-filter_same}
use Rattle.mv_base.specs.Firsts.{firsts_by}
use Rattle.mv_base.specs.Names.{same_word, among, names_differ, AreApart}
use Rattle.mv_base.proofs.NameLemmas.{same_word_is, same_word_refl, IsDistinct-from_differ}
use Rattle.mv_design.specs.declared.design.FileModel.{FileModel}
use Rattle.mv_design.specs.Nets.{nets_of, nets_named, drivers}
use Rattle.mv_acyclic.specs.Sound.{AreNetsOf, IsDrivenOnce}
use Rattle.mv_acyclic.proofs.Names.{count_of_cons, among_counted}
use Rattle.mv_acyclic.proofs.Commands.{driver_is_net}

abbrev pub times : List ℕ → List (List ℕ) → ℕ
times w ws = count_by (same_word w) ws

-- ---- names that stand once

none_counted : (n : ℕ) → 1 + n ≤ 1 → nat_lt 0 n ≡ false
none_counted n h = grind (arith, nat_tests)

pub differ_counted : (ws : List (List ℕ)) → ((w : List ℕ) → times w ws ≤ 1) → names_differ ws ≡ true
differ_counted [] h = refl
differ_counted (w ∷ ws) h =
    let here : 1 + times w ws ≤ 1 = rw (sym (count_of_cons w w ws ∙ ap (λ b. cond b 1 0 + times w ws) (same_word_refl w))) (h w) in
    and_from _ _ (not_from_false _ (among_counted w ws ∙ none_counted (times w ws) here))
    (differ_counted ws (λ u. let e = count_of_cons u w ws in let l = h u in omega arith))

not_among : (n : ℕ) → nat_lt 0 n ≡ false → n ≤ 1
not_among n h = grind (arith, nat_tests)

-- a net has one driver at most
pub drivers_counted : (m : FileModel) → IsDrivenOnce m → (w : List ℕ) → times w (drivers m) ≤ 1
drivers_counted m d w =
    ⊎_elim
    (λ (y : among w (drivers m) ≡ true). let e = d.once w (driver_is_net m w y) in let g : times w (drivers m) ≤ 1 = omega arith in g)
    (λ (n : among w (drivers m) ≡ false). not_among (times w (drivers m)) (sym (among_counted w (drivers m)) ∙ n))
    (cases_Bool (among w (drivers m)))

-- the drivers of a model differ
pub drivers_differ : (m : FileModel) → IsDrivenOnce m → names_differ (drivers m) ≡ true
drivers_differ m d = differ_counted (drivers m) (drivers_counted m d)

-- each net is driven
pub net_is_driven : (m : FileModel) (w : List ℕ) → IsDrivenOnce m → among w (nets_of m) ≡ true → among w (drivers m) ≡ true
net_is_driven m w d h = among_counted w (drivers m) ∙ ap (nat_lt 0) (d.once w h)

-- ---- how many there are

-- a list without the first place of a word
abbrev names_without : List ℕ → List (List ℕ) → List (List ℕ)
names_without u [] = []
names_without u (w ∷ ws) = if same_word u w then ws else w ∷ names_without u ws

names_without-length : (u : List ℕ) (ws : List (List ℕ)) → among u ws ≡ true → length ws ≡ 1 + length (names_without u ws)
names_without-length u [] h = absurd (false≢true h)
names_without-length u (w ∷ ws) h = split (same_word u w) h (names_without-length u ws)
  where
    split : (b : Bool) → (b || among u ws) ≡ true → (among u ws ≡ true → length ws ≡ 1 + length (names_without u ws))
        → length (w ∷ ws) ≡ 1 + length (if b then ws else w ∷ names_without u ws)
    split true e r = omega arith
    split false e r = let l = r e in omega arith

still_there : (u v : List ℕ) (ws : List (List ℕ)) → same_word v u ≡ false → among v ws ≡ true → among v (names_without u ws) ≡ true
still_there u v [] n h = h
still_there u v (w ∷ ws) n h = split (same_word u w) refl (still_there u v ws n)
  where
    split : (b : Bool) → same_word u w ≡ b → (among v ws ≡ true → among v (names_without u ws) ≡ true)
        → among v (if b then ws else w ∷ names_without u ws) ≡ true
    split true e r =
        ⊎_elim (λ (y : same_word v w ≡ true). absurd (false≢true (sym n ∙ (ap (same_word v) (same_word_is u w e) ∙ y)))) (λ (y : among v ws ≡ true). y)
        (or_cases (same_word v w) (among v ws) h)
    split false e r =
        ⊎_elim (λ (y : same_word v w ≡ true). or_left _ _ y) (λ (y : among v ws ≡ true). or_right (same_word v w) _ (r y))
        (or_cases (same_word v w) (among v ws) h)

-- different words of a list are no more than the list has
pub apart_length : (us ws : List (List ℕ)) → AreApart us → ((v : List ℕ) → among v us ≡ true → among v ws ≡ true) → length us ≤ length ws
apart_length [] ws a h = omega arith
apart_length (u ∷ us) ws a h =
    let e = names_without-length u ws (h u (or_left _ _ (same_word_refl u))) in
    let r = apart_length us (names_without u ws) a.1 (λ v y. still_there u v ws (other v y (same_word v u) refl) (h v (or_right (same_word v u) _ y))) in
    omega arith
  where
    other : (v : List ℕ) → among v us ≡ true → (b : Bool) → same_word v u ≡ b → same_word v u ≡ false
    other v y false n = n
    other v y true s = absurd (false≢true (sym a.0 ∙ (ap (λ x. among x us) (sym (same_word_is v u s)) ∙ y)))

-- there are no more drivers than nets, in whatever order these stand
pub drivers_within : (m : FileModel) (nets : List (List ℕ)) → IsDrivenOnce m → AreNetsOf m nets → length (drivers m) ≤ length nets
drivers_within m nets d all =
    apart_length (drivers m) nets (IsDistinct-from_differ (drivers m) (drivers_differ m d)).apart (λ w h. all.named w ∙ driver_is_net m w h)

pub few_drivers : (m : FileModel) → IsDrivenOnce m → length (drivers m) ≤ length (nets_of m)
few_drivers m d = drivers_within m (nets_of m) d (record { named = λ w. refl })

-- ---- the nets of a model

-- names that pass a test differ where all do
kept_differ : (p : List ℕ → Bool) (ws : List (List ℕ)) → names_differ ws ≡ true → names_differ (filter p ws) ≡ true
kept_differ p [] d = refl
kept_differ p (w ∷ ws) d =
    let q = and_parts (not (among w ws)) (names_differ ws) d in
    split (p w)
    (any-filter_same (same_word w) p (p w) (λ k e. ap p (sym (same_word_is w k e))) ws ∙ and_right (p w) (among w ws) (not-true _ q.0))
    (kept_differ p ws q.1)
  where
    split : (b : Bool) → among w (filter p ws) ≡ false → names_differ (filter p ws) ≡ true → names_differ (if b then w ∷ filter p ws else filter p ws) ≡ true
    split true n r = and_from _ _ (not_from_false _ n) r
    split false n r = r

-- the first of each differ
firsts_differ : (ws : List (List ℕ)) → names_differ (firsts_by same_word ws) ≡ true
firsts_differ [] = refl
firsts_differ (w ∷ ws) =
    let p : List ℕ → Bool = λ y. not (same_word y w) in
    let none = any-filter_same (same_word w) p false (λ k e. ap (λ x. not (same_word x w)) (sym (same_word_is w k e)) ∙ ap not (same_word_refl w)) (firsts_by same_word ws) in
    and_from _ _ (not_from_false _ none) (kept_differ p (firsts_by same_word ws) (firsts_differ ws))

-- the nets of a model differ
pub nets_differ : (m : FileModel) → names_differ (nets_of m) ≡ true
unfolding nets_of
nets_differ m = firsts_differ (nets_named m)

-- names that differ are no more than those that they are among
pub no_more : (us ws : List (List ℕ)) → names_differ us ≡ true → ((w : List ℕ) → among w us ≡ true → among w ws ≡ true) → length us ≤ length ws
no_more us ws d h = apart_length us ws (IsDistinct-from_differ us d).apart h
