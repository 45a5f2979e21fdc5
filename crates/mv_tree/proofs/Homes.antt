-- A name of the whole is at home at one place only, where no two nets of the whole have one name: `one_home` says so of places by
-- number, and `own_told` finds for each own net of each place what is told of it by its name in the whole.
use Rattle.std.proofs.Common.{◌≡◌, ℕ, suc, zero, ◌+◌, true, ◌||◌, List, [], ◌∷◌, ◌++◌, map, Some, refl, sym, ◌∙◌, ap, subst, arith, ⊎_elim}
use Rattle.std.specs.List.{AllByRecursion, flat_map, slice_get}
use Rattle.std.proofs.lemmas.Bool.{false≢true, or_cases, or_left, or_right}
use Rattle.std.proofs.lemmas.List.{map-append}
use Rattle.std.proofs.lemmas.Option.{none-some, same_Some}
use Rattle.std.proofs.lemmas.Simd.{map-map}
use Rattle.mv_base.specs.Names.{same_word, among, names_differ}
use Rattle.mv_base.proofs.NameLemmas.{same_word_is, same_word_refl, among-append}
use Rattle.mv_tree.specs.Places.{Place, own_nets, homes_at, homes}
use Rattle.mv_tree.proofs.Each.{each-weaker, each-flat, each-mapped, each-named}
use Rattle.mv_tree.proofs.Told.{value_told, names_in, all_told}

-- ---- what is told of own nets

-- a place, and something that is told of its nets
pub record Seat (X : Type 0) : Type 0 where
  pub place : Place
  pub tells : List ℕ → X

abbrev pub places_of : {X : Type 0} → List (Seat X) → List Place
places_of ss = map (λ s. s.place) ss

abbrev pub entries_at : {X : Type 0} → Seat X → List (List ℕ × X)
entries_at s = map (λ net. (s.place.home net, s.tells net)) (own_nets s.place)

-- what is told of all nets by their names in the whole, each at its home
abbrev pub entries : {X : Type 0} → List (Seat X) → List (List ℕ × X)
entries ss = flat_map entries_at ss

entry_names : {X : Type 0} (ss : List (Seat X)) → names_in (entries ss) ≡ homes (places_of ss)
unfolding homes
entry_names [] = refl
entry_names (s ∷ ss) =
    map-append (λ e. e.0) (entries_at s) (entries ss)
    ∙ (ap (λ ws. ws ++ names_in (entries ss)) (map-map (λ e. e.0) (λ net. (s.place.home net, s.tells net)) (own_nets s.place))
    ∙ ap (λ ws. homes_at s.place ++ ws) (entry_names ss))

-- f tells of the own nets of a place what the seat does
pub record TellsOwn {X : Type 0} (f : List ℕ → X) (s : Seat X) : Type 0 where
  pub own : (net : List ℕ) → among net (own_nets s.place) ≡ true → f (s.place.home net) ≡ s.tells net

-- of each own net of each place is told what the seat tells of it
pub own_told : {X : Type 0} (d : X) (ss : List (Seat X)) → names_differ (homes (places_of ss)) ≡ true → AllByRecursion (TellsOwn (value_told d (entries ss))) ss
own_told {X} d ss h =
    let f = value_told d (entries ss) in
    let all = all_told d (entries ss) (ap names_differ (entry_names ss) ∙ h) in
    let Entry : List ℕ × X → Type 0 = λ e. f e.0 ≡ e.1 in
    each-weaker (λ s. AllByRecursion Entry (entries_at s)) (TellsOwn f)
    (λ s k.
    let ns = own_nets s.place in
    record {
      own = λ net there.
          each-named (λ n. f (s.place.home n) ≡ s.tells n) ns net (each-mapped Entry (λ n. (s.place.home n, s.tells n)) ns k) there;
    })
    ss (each-flat (λ e. f e.0 ≡ e.1) entries_at ss all)

-- ---- one home

-- a net that is at home in a place, with its name in the whole
pub record AtHome (ps : List Place) (name : List ℕ) : Type 0 where
  pub number : ℕ
  pub place : Place
  pub net : List ℕ
  pub at : slice_get ps number ≡ Some place
  pub own : among net (own_nets place) ≡ true
  pub is : place.home net ≡ name

-- places that tell of each net their number and its name there
abbrev seats_from : ℕ → List Place → List (Seat (ℕ × List ℕ))
seats_from k [] = []
seats_from k (p ∷ ps) = record { place = p; tells = λ net. (k, net) } ∷ seats_from (suc k) ps

seats_places : (k : ℕ) (ps : List Place) → places_of (seats_from k ps) ≡ ps
seats_places k [] = refl
seats_places k (p ∷ ps) = ap (λ qs. p ∷ qs) (seats_places (suc k) ps)

told_at : (f : List ℕ → ℕ × List ℕ) (k i : ℕ) (ps : List Place) (p : Place) (net : List ℕ) → AllByRecursion (TellsOwn f) (seats_from k ps)
    → slice_get ps i ≡ Some p → among net (own_nets p) ≡ true → f (p.home net) ≡ (k + i, net)
told_at f k i [] p net h e own = absurd (none-some p e)
told_at f k zero (q ∷ ps) p net h e own =
    let same : q ≡ p = same_Some q p e in
    let first : k ≡ k + 0 = omega arith in
    let P : Place → Type 0 = λ r. among net (own_nets r) ≡ true → f (r.home net) ≡ (k, net) in
    subst P same ((h.0).own net) own ∙ ap (λ n. (n, net)) first
told_at f k (suc i) (q ∷ ps) p net h e own =
    let next : suc k + i ≡ k + suc i = omega arith in
    told_at f (suc k) i ps p net h.1 e own ∙ ap (λ n. (n, net)) next

-- two nets of the whole with one name are one net of one place
pub record IsOneHome {ps : List Place} {name : List ℕ} (a b : AtHome ps name) : Type 0 where
  pub number : a.number ≡ b.number
  pub place : a.place ≡ b.place
  pub net : a.net ≡ b.net

behind_none : (m n : ℕ) → 0 + m ≡ 0 + n → m ≡ n
behind_none m n e = omega arith

pub one_home : (ps : List Place) (name : List ℕ) → names_differ (homes ps) ≡ true → (a b : AtHome ps name) → IsOneHome a b
one_home ps name h a b =
    let ss = seats_from 0 ps in
    let f = value_told (0, []) (entries ss) in
    let all = own_told (0, []) ss (ap (λ qs. names_differ (homes qs)) (seats_places 0 ps) ∙ h) in
    let told_of : (c : AtHome ps name) → f name ≡ (0 + c.number, c.net) = λ c. ap f (sym c.is) ∙ told_at f 0 c.number ps c.place c.net all c.at c.own in
    let same : (0 + a.number, a.net) ≡ (0 + b.number, b.net) = sym (told_of a) ∙ told_of b in
    let number : a.number ≡ b.number = behind_none a.number b.number (ap (λ x. x.0) same) in
    record { number = number; place = same_Some a.place b.place (sym a.at ∙ (ap (slice_get ps) number ∙ b.at)); net = ap (λ x. x.1) same }

-- ---- each name of the whole has a home

-- a net with a name among some of a place
record NamedNet (p : Place) (ns : List (List ℕ)) (name : List ℕ) : Type 0 where
  net : List ℕ
  own : among net ns ≡ true
  is : p.home net ≡ name

named_net : (p : Place) (ns : List (List ℕ)) (name : List ℕ) → among name (map p.home ns) ≡ true → NamedNet p ns name
named_net p [] name e = absurd (false≢true e)
named_net p (n ∷ ns) name e =
    ⊎_elim (λ (s : same_word name (p.home n) ≡ true). record { net = n; own = or_left _ _ (same_word_refl n); is = sym (same_word_is name (p.home n) s) })
    (λ (r : among name (map p.home ns) ≡ true). let f = named_net p ns name r in record { net = f.net; own = or_right (same_word f.net n) _ f.own; is = f.is })
    (or_cases _ _ e)

pub home_of : (ps : List Place) (name : List ℕ) → among name (homes ps) ≡ true → AtHome ps name
unfolding homes
home_of [] name e = absurd (false≢true e)
home_of (p ∷ ps) name e =
    ⊎_elim
    (λ (here : among name (homes_at p) ≡ true).
    let f = named_net p (own_nets p) name here in
    record { number = 0; place = p; net = f.net; at = refl; own = f.own; is = f.is })
    (λ (r : among name (flat_map homes_at ps) ≡ true).
    let f = home_of ps name r in
    record { number = suc f.number; place = f.place; net = f.net; at = f.at; own = f.own; is = f.is })
    (or_cases _ _ (sym (among-append name (homes_at p) (flat_map homes_at ps)) ∙ e))

pub named_home : (home : List ℕ → List ℕ) (ns : List (List ℕ)) (net : List ℕ) → among net ns ≡ true → among (home net) (map home ns) ≡ true
named_home home [] net e = absurd (false≢true e)
named_home home (n ∷ ns) net e =
    ⊎_elim (λ (s : same_word net n ≡ true). or_left _ _ (ap (λ w. same_word (home w) (home n)) (same_word_is net n s) ∙ same_word_refl (home n)))
    (λ (r : among net ns ≡ true). or_right (same_word (home net) (home n)) _ (named_home home ns net r))
    (or_cases _ _ e)

own_among : (names : List (List ℕ)) (ps : List Place) → ((w : List ℕ) → among w (homes ps) ≡ true → among w names ≡ true)
    → AllByRecursion (λ p. TellsOwn (λ w. among w names) (record { place = p; tells = λ net. true })) ps
unfolding homes
own_among names [] f = tt
own_among names (p ∷ ps) f =
    let either : (w : List ℕ) → among w (homes (p ∷ ps)) ≡ (among w (homes_at p) || among w (homes ps)) = λ w. among-append w (homes_at p) (homes ps) in (
      record { own = λ net own. f (p.home net) (either (p.home net) ∙ or_left _ _ (named_home p.home (own_nets p) net own)) },
      own_among names ps (λ w e. f w (either w ∙ or_right (among w (homes_at p)) _ e)),
    )

-- the own nets of places are among the nets of the whole
pub own_listed : (ps : List Place) → AllByRecursion (λ p. TellsOwn (λ w. among w (homes ps)) (record { place = p; tells = λ net. true })) ps
own_listed ps = own_among (homes ps) ps (λ w e. e)

-- what holds of the names of own nets holds of each name of the whole
pub each_home : (P : List ℕ → Type 0) (ps : List Place) → AllByRecursion (λ p. (net : List ℕ) → among net (own_nets p) ≡ true → P (p.home net)) ps
    → (name : List ℕ) → among name (homes ps) ≡ true → P name
unfolding homes
each_home P [] h name e = absurd (false≢true e)
each_home P (p ∷ ps) h name e =
    ⊎_elim
    (λ (here : among name (homes_at p) ≡ true). let f = named_net p (own_nets p) name here in subst P f.is (h.0 f.net f.own))
    (λ (r : among name (flat_map homes_at ps) ≡ true). each_home P ps h.1 name r)
    (or_cases _ _ (sym (among-append name (homes_at p) (flat_map homes_at ps)) ∙ e))
