-- The drivers of the one model over all nets, each at its home.
use Rattle.std.proofs.Common.{◌≡◌, ℕ, suc, ◌+◌, Bool, true, false, not, Option, Some, None, is_some, List, [], ◌∷◌, ◌++◌, length, map, filter, refl, sym, ◌∙◌, ap, subst, arith}
use Rattle.std.specs.Prelude.{count_by, if◌then◌else◌, nat_lt, cond}
use Rattle.std.specs.List.{AllByRecursion, flat_map}
use Rattle.std.proofs.lemmas.Bool.{false≢true, or_left, or_right}
use Rattle.std.proofs.lemmas.Bool.Decides.{nat_tests}
use Rattle.std.proofs.lemmas.Grind.{flat_map-append}
use Rattle.std.proofs.lemmas.List.{map-append, append-nil}
use Rattle.std.proofs.lemmas.Option.{none-some}
use Rattle.mv_base.specs.Names.{same_word, among, names_differ}
use Rattle.mv_base.proofs.NameLemmas.{among-append, same_word_is, same_word_refl}
use Rattle.mv_design.specs.declared.design.Bind.{Bind}
use Rattle.mv_design.specs.declared.design.Design.{Design}
use Rattle.mv_design.specs.declared.design.Instance.{Instance}
use Rattle.mv_design.specs.declared.design.FileLatch.{FileLatch}
use Rattle.mv_design.specs.declared.design.FileModel.{FileModel}
use Rattle.mv_design.specs.declared.table.FileTable.{FileTable}
use Rattle.mv_design.specs.Nets.{latch_outputs, nets_driven, drivers, drivers_of}
use Rattle.mv_tree.specs.Tree.{Instances, NoMore, More, Unfolds}
use Rattle.mv_tree.specs.Places.{Place, root_place, place_in, places_in, places, actual_of, is_bound, through, all_nets, own_nets, homes_at, homes}
use Rattle.mv_tree.specs.Unfolded.{placed_latch, numbered, tables_in, latches_in, unfolded}
use Rattle.mv_tree.proofs.Each.{each-weaker, each-append}
use Rattle.mv_tree.proofs.Named.{AreAmong, among_both, among_single, nets_among}
use Rattle.mv_tree.proofs.Homes.{named_home}
use Rattle.mv_tree.proofs.Inside.{through-bound, own_is_unbound, own-from_unbound}
use Rattle.mv_tree.proofs.Kept.{apart, same_name}
use Rattle.mv_acyclic.proofs.Names.{count_of_cons, count_of_append, among_counted}
use Rattle.mv_unfold.specs.Driven.{own_driven, net_in, passed, passed_up, driven_in}
use Rattle.mv_unfold.proofs.Filled.{driven_named}
use Rattle.mv_unfold.specs.Driving.{Driving, drivings_in, drivings}

abbrev times : List ℕ → List (List ℕ) → ℕ
times w ws = count_by (same_word w) ws

-- ---- what passes through bindings, and what is at home

abbrev pub own : Place → List (List ℕ) → List (List ℕ)
own p ws = filter (λ net. not (is_bound p.binds net)) ws

abbrev at_home : Driving → List (List ℕ)
at_home g = map g.place.home (own g.place g.driven)

abbrev all_at_home : List Driving → List (List ℕ)
all_at_home gs = flat_map at_home gs

-- a driven net of an instance is one that it passes to the net round it, or one at home in it
passed_or_own : (w : List ℕ) (round own_name : List ℕ → List ℕ) (binds : List Bind) (ws : List (List ℕ))
    → times w (map round (passed binds ws)) + times w (map (through round own_name binds) (filter (λ net. not (is_bound binds net)) ws))
    ≡ times w (map (through round own_name binds) ws)
passed_or_own w round own_name binds [] = refl
passed_or_own w round own_name binds (x ∷ ws) = split (actual_of binds x) refl (passed_or_own w round own_name binds ws)
  where
    h : List ℕ → List ℕ
    h = through round own_name binds

    rest : List (List ℕ)
    rest = filter (λ net. not (is_bound binds net)) ws

    arrange_own : (a p r m n c : ℕ) → p + r ≡ c → m ≡ a + r → n ≡ a + c → p + m ≡ n
    arrange_own a p r m n c e f g = omega arith

    arrange_passed : (a p r m n c : ℕ) → p + r ≡ c → m ≡ a + p → n ≡ a + c → m + r ≡ n
    arrange_passed a p r m n c e f g = omega arith

    split : (o : Option (List ℕ)) → actual_of binds x ≡ o → times w (map round (passed binds ws)) + times w (map h rest) ≡ times w (map h ws)
        → times w (map round (net_in o ++ passed binds ws)) + times w (map h (if not (is_some o) then x ∷ rest else rest)) ≡ times w (map h (x ∷ ws))
    split None e k =
        arrange_own (cond (same_word w (h x)) 1 0) (times w (map round (passed binds ws))) (times w (map h rest)) (times w (map h (x ∷ rest))) (times w (map h (x ∷ ws)))
        (times w (map h ws)) k (count_of_cons w (h x) (map h rest)) (count_of_cons w (h x) (map h ws))
    split (Some a) e k =
        let is : h x ≡ round a = through-bound round own_name binds x a e in
        arrange_passed (cond (same_word w (h x)) 1 0) (times w (map round (passed binds ws))) (times w (map h rest)) (times w (map round (a ∷ passed binds ws)))
        (times w (map h (x ∷ ws))) (times w (map h ws)) k
        (count_of_cons w (round a) (map round (passed binds ws)) ∙ ap (λ u. cond (same_word w u) 1 0 + times w (map round (passed binds ws))) (sym is))
        (count_of_cons w (h x) (map h ws))

-- what places drive themselves, by the names in the whole
abbrev own_homes : Place → List (List ℕ)
own_homes p = map p.home (own_driven p.model)

flat_homes : List Place → List (List ℕ)
flat_homes ps = flat_map own_homes ps

times_map : (w : List ℕ) (f : List ℕ → List ℕ) (us ws : List (List ℕ)) → times w (map f (us ++ ws)) ≡ times w (map f us) + times w (map f ws)
times_map w f us ws = ap (times w) (map-append f us ws) ∙ count_of_append w (map f us) (map f ws)

times_flat : {X : Type 0} (w : List ℕ) (f : X → List (List ℕ)) (us ws : List X) → times w (flat_map f (us ++ ws)) ≡ times w (flat_map f us) + times w (flat_map f ws)
times_flat w f us ws = ap (times w) (flat_map-append f us ws) ∙ count_of_append w (flat_map f us) (flat_map f ws)

-- each driver inside a place is at home there or inside, or passes to the place
settled : (w : List ℕ) (p : Place) (tree : Instances)
    → times w (map p.home (passed_up tree)) + times w (all_at_home (drivings_in p tree)) ≡ times w (flat_map own_homes (places_in p tree))
settled w p NoMore = refl
settled w p (More instance model inside rest) =
    let q = place_in p instance model in
    let ws = driven_in model inside in
    let g : Driving = record { place = q; driven = ws } in
    let a1 = times_map w p.home (passed instance.binds ws) (passed_up rest) in
    let a2 = count_of_append w (at_home g) (all_at_home (drivings_in q inside ++ drivings_in p rest)) in
    let a3 = times_flat w at_home (drivings_in q inside) (drivings_in p rest) in
    let k = passed_or_own w p.home (λ net. q.path ++ net) instance.binds ws in
    let a4 = times_map w q.home (own_driven model) (passed_up inside) in
    let i = settled w q inside in
    let r = settled w p rest in
    let b1 = count_of_append w (own_homes q) (flat_map own_homes (places_in q inside ++ places_in p rest)) in
    let b2 = times_flat w own_homes (places_in q inside) (places_in p rest) in
    add_up (times w (map p.home (passed instance.binds ws))) (times w (map p.home (passed_up rest))) (times w (at_home g)) (times w (all_at_home (drivings_in q inside)))
    (times w (all_at_home (drivings_in p rest))) (times w (map q.home ws)) (times w (own_homes q)) (times w (map q.home (passed_up inside)))
    (times w (flat_map own_homes (places_in q inside))) (times w (flat_map own_homes (places_in p rest)))
    (times w (map p.home (passed instance.binds ws ++ passed_up rest))) (times w (all_at_home (g ∷ (drivings_in q inside ++ drivings_in p rest))))
    (times w (all_at_home (drivings_in q inside ++ drivings_in p rest))) (times w (flat_map own_homes (q ∷ (places_in q inside ++ places_in p rest))))
    (times w (flat_map own_homes (places_in q inside ++ places_in p rest)))
    a1 a2 a3 k a4 i r b1 b2
  where
    add_up : (pp pr hg hi hr qd qo qi fi fr l1 l2 l3 r1 r2 : ℕ) → l1 ≡ pp + pr → l2 ≡ hg + l3 → l3 ≡ hi + hr → pp + hg ≡ qd → qd ≡ qo + qi → qi + hi ≡ fi
        → pr + hr ≡ fr → r1 ≡ qo + r2 → r2 ≡ fi + fr → l1 + l2 ≡ r1
    add_up pp pr hg hi hr qd qo qi fi fr l1 l2 l3 r1 r2 a b c d e f g h i = omega arith

-- ---- the drivers of the one model

pub latch_homes : (p : Place) (ls : List FileLatch) → map (λ l. l.output) (map (placed_latch p) ls) ≡ map p.home (map (λ l. l.output) ls)
latch_homes p [] = refl
latch_homes p (l ∷ ls) = ap (λ ws. p.home l.output ∷ ws) (latch_homes p ls)

table_homes : (home : List ℕ → List ℕ) (at : ℕ) (ts : List FileTable) → flat_map nets_driven (numbered home at ts) ≡ map home (flat_map nets_driven ts)
table_homes home at [] = refl
table_homes home at (t ∷ ts) =
    ap (λ ws. map home t.outputs ++ ws) (table_homes home (suc at) ts) ∙ sym (map-append home t.outputs (flat_map nets_driven ts))

placed_drivers : (w : List ℕ) (at : ℕ) (ps : List Place)
    → times w (map (λ l. l.output) (latches_in ps)) + times w (flat_map nets_driven (tables_in at ps)) ≡ times w (flat_map own_homes ps)
placed_drivers w at [] = refl
placed_drivers w at (p ∷ ps) =
    let ls = p.model.latches in
    let ts = p.model.tables in
    let here_ls = map p.home (map (λ l. l.output) ls) in
    let here_ts = map p.home (flat_map nets_driven ts) in
    let a : times w (map (λ l. l.output) (map (placed_latch p) ls ++ latches_in ps)) ≡ times w here_ls + times w (map (λ l. l.output) (latches_in ps)) =
    times_map_latches w (map (placed_latch p) ls) (latches_in ps) ∙ ap (λ ws. times w ws + times w (map (λ (l : FileLatch). l.output) (latches_in ps))) (latch_homes p ls) in
    let b : times w (flat_map nets_driven (numbered p.home at ts ++ tables_in (at + length ts) ps)) ≡ times w here_ts + times w (flat_map nets_driven (tables_in (at + length ts) ps)) =
    times_flat w nets_driven (numbered p.home at ts) (tables_in (at + length ts) ps)
    ∙ ap (λ ws. times w ws + times w (flat_map nets_driven (tables_in (at + length ts) ps))) (table_homes p.home at ts) in
    let c : times w (own_homes p) ≡ times w here_ls + times w here_ts = times_map w p.home (latch_outputs p.model) (flat_map nets_driven ts) in
    let d = count_of_append w (own_homes p) (flat_map own_homes ps) in
    let e = placed_drivers w (at + length ts) ps in
    add_up (times w here_ls) (times w here_ts) (times w (map (λ l. l.output) (latches_in ps))) (times w (flat_map nets_driven (tables_in (at + length ts) ps)))
    (times w (flat_map own_homes ps)) (times w (own_homes p)) (times w (map (λ l. l.output) (map (placed_latch p) ls ++ latches_in ps)))
    (times w (flat_map nets_driven (numbered p.home at ts ++ tables_in (at + length ts) ps))) (times w (own_homes p ++ flat_map own_homes ps)) a b c d e
  where
    times_map_latches : (w : List ℕ) (us ws : List FileLatch)
        → times w (map (λ l. l.output) (us ++ ws)) ≡ times w (map (λ l. l.output) us) + times w (map (λ l. l.output) ws)
    times_map_latches w us ws =
        ap (times w) (map-append (λ (l : FileLatch). l.output) us ws) ∙ count_of_append w (map (λ (l : FileLatch). l.output) us) (map (λ (l : FileLatch). l.output) ws)

    add_up : (hl ht rl rt f o l t r : ℕ) → l ≡ hl + rl → t ≡ ht + rt → o ≡ hl + ht → r ≡ o + f → rl + rt ≡ f → l + t ≡ r
    add_up hl ht rl rt f o l t r a b c d e = omega arith

pub same_names : (ws : List (List ℕ)) → map (λ net. net) ws ≡ ws
same_names [] = refl
same_names (w ∷ ws) = ap (λ us. w ∷ us) (same_names ws)

pub all_own : (root : FileModel) (ws : List (List ℕ)) → own (root_place root) ws ≡ ws
all_own root [] = refl
all_own root (w ∷ ws) = ap (λ us. w ∷ us) (all_own root ws)

-- each driver of the whole is one of an own net of some place
drivers_settled : (w : List ℕ) (root : FileModel) (tree : Instances) → times w (drivers (unfolded root tree)) ≡ times w (all_at_home (drivings root tree))
unfolding drivers unfolded
drivers_settled w root NoMore =
    let a = count_of_append w root.inputs (own_driven root) in
    let e : at_home (record { place = root_place root; driven = root.inputs ++ (own_driven root ++ []) }) ≡ root.inputs ++ (own_driven root ++ []) =
    same_names (own (root_place root) (root.inputs ++ (own_driven root ++ []))) ∙ all_own root (root.inputs ++ (own_driven root ++ [])) in
    ap (λ ws. times w (root.inputs ++ ws)) (sym (append-nil (own_driven root)))
    ∙ (ap (times w) (sym e) ∙ ap (times w) (sym (append-nil (at_home (record { place = root_place root; driven = root.inputs ++ (own_driven root ++ []) })))))
drivers_settled w root (More instance model inside rest) =
    let tree = More instance model inside rest in
    let r = root_place root in
    let ps = places root tree in
    let ws = root.inputs ++ driven_in root tree in
    let g : Driving = record { place = r; driven = ws } in
    let a = count_of_append w root.inputs (map (λ (l : FileLatch). l.output) (latches_in ps) ++ flat_map nets_driven (tables_in 0 ps)) in
    let b = count_of_append w (map (λ (l : FileLatch). l.output) (latches_in ps)) (flat_map nets_driven (tables_in 0 ps)) in
    let c = placed_drivers w 0 ps in
    let d = count_of_append w (own_homes r) (flat_map own_homes (places_in r tree)) in
    let e : times w (own_homes r) ≡ times w (own_driven root) = ap (times w) (same_names (own_driven root)) in
    let s = settled w r tree in
    let f : times w (map r.home (passed_up tree)) ≡ times w (passed_up tree) = ap (times w) (same_names (passed_up tree)) in
    let h : times w (at_home g) ≡ times w ws = ap (times w) (same_names (own r ws) ∙ all_own root ws) in
    let i = count_of_append w root.inputs (driven_in root tree) in
    let j = count_of_append w (own_driven root) (passed_up tree) in
    let k = count_of_append w (at_home g) (all_at_home (drivings_in r tree)) in
    omega arith

-- ---- each net at one home

-- driven nets are nets of the model
pub record IsNamed (g : Driving) : Type 0 where
  pub named : AreAmong g.driven (all_nets g.place.model)

abbrev pub places_of_drivings : List Driving → List Place
places_of_drivings gs = map (λ g. g.place) gs

own_there : (p : Place) (ws : List (List ℕ)) → AreAmong ws (all_nets p.model) → AreAmong (map p.home (own p ws)) (homes_at p)
own_there p [] h = record { each = λ w e. absurd (false≢true e) }
own_there p (x ∷ ws) h = split (actual_of p.binds x) refl (own_there p ws (record { each = λ w e. h.each w (or_right (same_word w x) (among w ws) e) }))
  where
    split : (o : Option (List ℕ)) → actual_of p.binds x ≡ o → AreAmong (map p.home (own p ws)) (homes_at p)
        → AreAmong (map p.home (if not (is_some o) then x ∷ own p ws else own p ws)) (homes_at p)
    split (Some a) e k = k
    split None e k =
        let there : among (p.home x) (homes_at p) ≡ true = named_home p.home (own_nets p) x (own-from_unbound p x e (h.each x (or_left (same_word x x) (among x ws) (same_word_refl x)))) in
        among_both (p.home x ∷ []) (map p.home (own p ws)) (homes_at p) (among_single (p.home x) (homes_at p) there) k

all_there : (gs : List Driving) → AllByRecursion IsNamed gs → AreAmong (all_at_home gs) (homes (places_of_drivings gs))
unfolding homes
all_there [] h = record { each = λ w e. absurd (false≢true e) }
all_there (g ∷ gs) h =
    let here = own_there g.place g.driven (h.0).named in
    let rest = all_there gs h.1 in
    among_both (at_home g) (all_at_home gs) (homes (places_of_drivings (g ∷ gs)))
    (record { each = λ w e. among-append w (homes_at g.place) (homes (places_of_drivings gs)) ∙ or_left (among w (homes_at g.place)) _ (here.each w e) })
    (record { each = λ w e. among-append w (homes_at g.place) (homes (places_of_drivings gs)) ∙ or_right (among w (homes_at g.place)) _ (rest.each w e) })

none_times : (w : List ℕ) (ws names : List (List ℕ)) → AreAmong ws names → among w names ≡ false → times w ws ≡ 0
none_times w ws names h e = by (nat_lt 0 (times w ws)) refl (among w ws) refl
  where
    by : (b : Bool) → nat_lt 0 (times w ws) ≡ b → (c : Bool) → among w ws ≡ c → times w ws ≡ 0
    by b p true q = absurd (false≢true (sym e ∙ h.each w q))
    by true p false q = absurd (false≢true (sym q ∙ (among_counted w ws ∙ p)))
    by false p false q = grind (arith, nat_tests)

-- an own net is driven as often as the drivers that are at home say
own_times : (p : Place) (net : List ℕ) (ws : List (List ℕ)) → names_differ (homes_at p) ≡ true → among net (own_nets p) ≡ true → AreAmong ws (all_nets p.model)
    → times (p.home net) (map p.home (own p ws)) ≡ times net ws
own_times p net [] differ there h = refl
own_times p net (x ∷ ws) differ there h =
    split (actual_of p.binds x) refl (own_times p net ws differ there (record { each = λ w e. h.each w (or_right (same_word w x) (among w ws) e) }))
  where
    split : (o : Option (List ℕ)) → actual_of p.binds x ≡ o → times (p.home net) (map p.home (own p ws)) ≡ times net ws
        → times (p.home net) (map p.home (if not (is_some o) then x ∷ own p ws else own p ws)) ≡ times net (x ∷ ws)
    split (Some a) e k =
        k
        ∙ (plus (times net ws)
        ∙ (ap (λ b. cond b 1 0 + times net ws) (sym (other (same_word net x) refl)) ∙ sym (count_of_cons net x ws)))
      where
        plus : (n : ℕ) → n ≡ 0 + n
        plus n = omega arith

        other : (b : Bool) → same_word net x ≡ b → same_word net x ≡ false
        other true q = absurd (none-some a (sym (own_is_unbound p net there) ∙ (ap (actual_of p.binds) (same_word_is net x q) ∙ e)))
        other false q = q
    split None e k =
        let listed = own-from_unbound p x e (h.each x (or_left (same_word x x) (among x ws) (same_word_refl x))) in
        count_of_cons (p.home net) (p.home x) (map p.home (own p ws))
        ∙ (ap (λ b. cond b 1 0 + times (p.home net) (map p.home (own p ws))) (same_name p.home (own_nets p) net x differ there listed)
        ∙ (ap (λ n. cond (same_word net x) 1 0 + n) k ∙ sym (count_of_cons net x ws)))

-- each own net of a place is driven as often as is said there
pub record IsDriven (gs : List Driving) (g : Driving) : Type 0 where
  pub there : (net : List ℕ) → among net (own_nets g.place) ≡ true → among (g.place.home net) (homes (places_of_drivings gs)) ≡ true
  pub is : (net : List ℕ) → among net (own_nets g.place) ≡ true → times (g.place.home net) (all_at_home gs) ≡ times net g.driven

all_driven : (gs : List Driving) → names_differ (homes (places_of_drivings gs)) ≡ true → AllByRecursion IsNamed gs → AllByRecursion (IsDriven gs) gs
unfolding homes
all_driven [] differ h = tt
all_driven (g ∷ gs) differ h =
    let a = apart (homes_at g.place) (homes (places_of_drivings gs)) differ in
    let here = own_there g.place g.driven (h.0).named in
    let rest = all_there gs h.1 in (
      record {
        there = λ net e. among-append (g.place.home net) (homes_at g.place) (homes (places_of_drivings gs)) ∙ or_left _ _ (named_home g.place.home (own_nets g.place) net e);
        is = λ net e.
            let w = g.place.home net in
            let none = none_times w (all_at_home gs) (homes (places_of_drivings gs)) rest (a.none w (named_home g.place.home (own_nets g.place) net e)) in
            let own_is = own_times g.place net g.driven a.first e (h.0).named in
            let all = count_of_append w (at_home g) (all_at_home gs) in
            omega arith;
      },
      each-weaker (IsDriven gs) (IsDriven (g ∷ gs))
          (λ q k.
          record {
            there = λ net e. among-append (q.place.home net) (homes_at g.place) (homes (places_of_drivings gs)) ∙ or_right (among (q.place.home net) (homes_at g.place)) _ (k.there net e);
            is = λ net e.
                let w = q.place.home net in
                let none = none_times w (at_home g) (homes_at g.place) here (not_here w (among w (homes_at g.place)) refl (k.there net e) a.none) in
                let own_is = k.is net e in
                let all = count_of_append w (at_home g) (all_at_home gs) in
                omega arith;
          })
          gs (all_driven gs a.second h.1),
    )
  where
    not_here : (w : List ℕ) (b : Bool) → among w (homes_at g.place) ≡ b → among w (homes (places_of_drivings gs)) ≡ true
        → ((u : List ℕ) → among u (homes_at g.place) ≡ true → among u (homes (places_of_drivings gs)) ≡ false) → among w (homes_at g.place) ≡ false
    not_here w true e there none = absurd (false≢true (sym (none w e) ∙ there))
    not_here w false e there none = e

-- ---- the whole

places_driven : (p : Place) (tree : Instances) → places_of_drivings (drivings_in p tree) ≡ places_in p tree
places_driven p NoMore = refl
places_driven p (More instance model inside rest) =
    let q = place_in p instance model in
    ap (λ ps. q ∷ ps)
    (map-append (λ (g : Driving). g.place) (drivings_in q inside) (drivings_in p rest)
    ∙ (ap (λ ps. ps ++ places_of_drivings (drivings_in p rest)) (places_driven q inside) ∙ ap (λ ps. places_in q inside ++ ps) (places_driven p rest)))

pub all_places : (root : FileModel) (tree : Instances) → places_of_drivings (drivings root tree) ≡ places root tree
all_places root tree = ap (λ ps. root_place root ∷ ps) (places_driven (root_place root) tree)

-- what is driven of a place is what a tree of its commands drives
pub record HasSubtree (d : Design) (g : Driving) : Type 0 where
  pub tree : Instances
  pub unfolds : Unfolds d g.place.model.instances tree
  pub is : g.driven ≡ driven_in g.place.model tree

subtrees_in : (d : Design) (p : Place) (ps : List Instance) (tree : Instances) → Unfolds d ps tree → AllByRecursion (HasSubtree d) (drivings_in p tree)
subtrees_in d p [] NoMore u = tt
subtrees_in d p [] (More _ _ _ _) u = absurd u
subtrees_in d p (_ ∷ _) NoMore u = absurd u
subtrees_in d p (c ∷ cs) (More instance model inside rest) u =
    let q = place_in p instance model in
    (record { tree = inside; unfolds = u.1; is = refl }, each-append (HasSubtree d) (drivings_in q inside) (drivings_in p rest) (subtrees_in d q model.instances inside u.1) (subtrees_in d p cs rest u.2))

pub subtrees : (d : Design) (root : FileModel) (tree : Instances) → Unfolds d root.instances tree → AllByRecursion (HasSubtree d) (drivings_in (root_place root) tree)
subtrees d root tree u = subtrees_in d (root_place root) root.instances tree u

named_drivings : (d : Design) (root : FileModel) (tree : Instances) → Unfolds d root.instances tree → AllByRecursion IsNamed (drivings root tree)
named_drivings d root tree u = (
  record { named = among_both root.inputs (driven_in root tree) (all_nets root) (nets_among root).inputs (driven_named d root tree u) },
  each-weaker (HasSubtree d) IsNamed
      (λ g s.
      record { named = subst (λ ws. AreAmong ws (all_nets g.place.model)) (sym s.is) (driven_named d g.place.model s.tree s.unfolds) })
      (drivings_in (root_place root) tree) (subtrees d root tree u),
)

-- each own net of a place has as many drivers in the whole as are said to drive it there
pub record HasDrivers (root : FileModel) (tree : Instances) (g : Driving) : Type 0 where
  pub is : (net : List ℕ) → among net (own_nets g.place) ≡ true → drivers_of (unfolded root tree) (g.place.home net) ≡ count_by (same_word net) g.driven

pub have_drivers : (d : Design) (root : FileModel) (tree : Instances) → Unfolds d root.instances tree → names_differ (homes (places root tree)) ≡ true
    → AllByRecursion (HasDrivers root tree) (drivings root tree)
have_drivers d root tree u differ =
    let gs = drivings root tree in
    each-weaker (IsDriven gs) (HasDrivers root tree) (λ g h. record { is = λ net e. drivers_settled (g.place.home net) root tree ∙ h.is net e }) gs
    (all_driven gs (ap (λ ps. names_differ (homes ps)) (all_places root tree) ∙ differ) (named_drivings d root tree u))
