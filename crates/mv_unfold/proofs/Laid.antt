-- What is known of a design's places, by number.
use Rattle.std.proofs.Common.{◌≡◌, ℕ, zero, suc, ◌+◌, ◌-◌, ◌<◌, ◌≤◌, not, Option, Some, None, is_some, List, [], ◌∷◌, ◌++◌, length, get_or, map, filter, take, drop, refl, sym, ◌∙◌, ap, subst, arith}
use Rattle.std.specs.Prelude.{if◌then◌else◌}
use Rattle.std.specs.List.{flat_map}
use Rattle.std.proofs.lemmas.List.{append_assoc, get_or-map, get_or_read, drop_more, drop_all, length-map, take_more, append-nil}
use Rattle.std.proofs.lemmas.Grind.{flat_map-append}
use Rattle.std.proofs.lemmas.Option.{slice_get-get_or}
use Rattle.mv_design.specs.declared.design.Design.{Design}
use Rattle.mv_design.specs.declared.design.FileModel.{FileModel}
use Rattle.mv_design.specs.declared.design.Instance.{Instance}
use Rattle.mv_design.specs.Nets.{no_model, root_of}
use Rattle.mv_design.specs.declared.design.Bind.{Bind}
use Rattle.mv_tree.specs.Places.{Place, root_place, all_nets, actual_of, is_bound, through, path_in, own_nets, homes_at, homes}
use Rattle.mv_tree.proofs.Inside.{through-own}
use Rattle.mv_walk.specs.declared.opened.Opened.{Opened}
use Rattle.mv_unfold.specs.declared.layout.Layout.{Layout}
use Rattle.mv_unfold.specs.declared.spans.Span.{Span}
use Rattle.mv_unfold.specs.ByName.{FindsFirst, formals_bound}
use Rattle.mv_unfold.specs.Commands.{no_command}
use Rattle.mv_unfold.specs.Locals.{AreOwn, cut}
use Rattle.mv_unfold.specs.Named.{under}
use Rattle.mv_unfold.specs.Placed.{model_place, model_at, instance_at, place_at, IsPlaced}
use Rattle.mv_unfold.specs.Laid.{model_numbers, IsLaid, places_of, no_opened, opened_at, laid_instance}

-- an instance stands in its place
pub instance_placed : (l : Layout) (n : ℕ) → IsLaid l → 0 < n → n ≤ length l.opened.now → IsPlaced l.design.now (places_of l) n (opened_at l n)
instance_placed l n h some low =
    let list = l.opened.now in
    let one : 1 + (n - 1) ≡ n = omega arith in
    subst (λ k. IsPlaced l.design.now (places_of l) k (opened_at l n)) one
    (h.placed.each (n - 1) (opened_at l n) (slice_get-get_or list (n - 1) no_opened (omega arith)))

-- the model of a place has this number
pub record IsModelOf (l : Layout) (n k : ℕ) : Type 0 where
  pub below : k < length l.design.now.models
  pub is : (place_at (places_of l) n).model ≡ model_at l.design.now k

pub root_model : (d : Design) → root_of d ≡ model_at d d.root
unfolding root_of
root_model d = refl

pub laid_model : (l : Layout) (n : ℕ) → IsLaid l → n ≤ length l.opened.now → IsModelOf l n (get_or l.models n 0)
laid_model l zero h low =
    let k : get_or l.models 0 0 ≡ l.design.now.root = ap (λ ks. get_or ks 0 0) h.models in
    record {
      below = subst (λ i. i < length l.design.now.models) (sym k) h.rooted;
      is = ap (λ (p : Place). p.model) h.placed.root ∙ (root_model l.design.now ∙ ap (model_at l.design.now) (sym k));
    }
laid_model l (suc n) h low =
    let list = l.opened.now in
    let o : Opened = get_or list n no_opened in
    let lt : n < length list = omega arith in
    let k : get_or l.models (suc n) 0 ≡ o.model = ap (λ ks. get_or ks (suc n) 0) h.models ∙ get_or-map (λ (x : Opened). x.model) list n no_opened 0 lt in
    let next : 1 + n ≡ suc n = omega arith in
    let p = subst (λ i. IsPlaced l.design.now (places_of l) i o) next (h.placed.each n o (slice_get-get_or list n no_opened lt)) in
    record {
      below = subst (λ i. i < length l.design.now.models) (sym k) p.model;
      is = ap (λ (q : Place). q.model) p.is ∙ ap (model_at l.design.now) (sym k);
    }

-- what the command of an instance makes
pub record IsOfPlace (l : Layout) (n r : ℕ) : Type 0 where
  pub row : r < length l.commands
  pub instance : (opened_at l n).instance < length (get_or l.commands r [])
  pub listed : (opened_at l n).instance < length (model_at l.design.now r).instances
  pub command : instance_at (model_at l.design.now r) (opened_at l n).instance ≡ laid_instance l n
  pub number : (get_or (get_or l.commands r []) (opened_at l n).instance no_command).model ≡ (opened_at l n).model
  pub made : (place_at (places_of l) n).model ≡ model_at l.design.now (get_or (get_or l.commands r []) (opened_at l n).instance no_command).model
  pub binds : (place_at (places_of l) n).binds ≡ (laid_instance l n).binds
  pub own : AreOwn (all_nets (place_at (places_of l) n).model) (place_at (places_of l) n).binds (get_or (get_or l.commands r []) (opened_at l n).instance no_command).own
  pub formals : FindsFirst (get_or (get_or l.commands r []) (opened_at l n).instance no_command).formals (formals_bound (laid_instance l n).binds)

pub of_place : (l : Layout) (n r : ℕ) → IsLaid l → 0 < n → n ≤ length l.opened.now → IsModelOf l (opened_at l n).round r → IsOfPlace l n r
of_place l n r h some low m =
    let d = l.design.now in
    let o = opened_at l n in
    let ps = places_of l in
    let p = instance_placed l n h some low in
    let row = get_or l.commands r [] in
    let long : length l.commands ≡ length d.models = h.commands.long in
    let below : r < length d.models = m.below in
    let in_row : r < length l.commands = omega arith in
    let known = h.commands.each r in_row in
    let listed : o.instance < length (model_at d r).instances = subst (λ (x : FileModel). o.instance < length x.instances) m.is p.instance in
    let same : length row ≡ length (model_at d r).instances = known.long in
    let in_instances : o.instance < length row = omega arith in
    let cmd = known.each o.instance in_instances in
    let made = get_or row o.instance no_command in
    let command : instance_at (model_at d r) o.instance ≡ laid_instance l n = ap (λ (x : FileModel). instance_at x o.instance) (sym m.is) in
    let number : made.model ≡ o.model = cmd.model ∙ (ap (λ (x : Instance). model_place d.models x.model) command ∙ sym p.named) in
    let model : (place_at ps n).model ≡ model_at d made.model = ap (λ (q : Place). q.model) p.is ∙ ap (model_at d) (sym number) in
    let binds : (place_at ps n).binds ≡ (laid_instance l n).binds = ap (λ (q : Place). q.binds) p.is in
    record {
      row = in_row;
      instance = in_instances;
      listed = listed;
      command = command;
      number = number;
      made = model;
      binds = binds;
      own =
          subst (λ (x : FileModel). AreOwn (all_nets x) (place_at ps n).binds made.own) (sym model)
          (subst (λ bs. AreOwn (all_nets (model_at d made.model)) bs made.own) (ap (λ (x : Instance). x.binds) command ∙ sym binds) cmd.own);
      formals = subst (λ (x : Instance). FindsFirst made.formals (formals_bound x.binds)) command cmd.formals;
    }

-- what is read of a list that is another
pub read_as : {X : Type 0} (xs ys : List X) (i : ℕ) (x d : X) → xs ≡ ys → i < length ys → x ≡ get_or xs i x → x ≡ get_or ys i d
read_as {X} xs ys i x d e lt is = get_or_read ys i x lt (is ∙ ap (λ zs. get_or zs i x) e) d

-- a path behind another
pub path_more : (l : Layout) (n : ℕ) (start round grown pushed instance : List ℕ) → IsPlaced l.design.now (places_of l) n (opened_at l n)
    → round ≡ start ++ (place_at (places_of l) (opened_at l n).round).path → instance ≡ (laid_instance l n).name → grown ≡ round ++ instance
    → pushed ≡ grown ++ 46 ∷ [] → pushed ≡ start ++ (place_at (places_of l) n).path
path_more l n start round grown pushed instance p r i g e =
    let outer = (place_at (places_of l) (opened_at l n).round).path in
    e
    ∙ (ap (λ w. w ++ 46 ∷ []) (g ∙ (ap (λ w. w ++ instance) r ∙ ap (λ w. (start ++ outer) ++ w) i))
    ∙ (append_assoc (start ++ outer) (laid_instance l n).name (46 ∷ [])
    ∙ (append_assoc start outer ((laid_instance l n).name ++ 46 ∷ []) ∙ ap (λ (q : Place). start ++ q.path) (sym p.is))))

-- the nets of a model, read from a list of those of all
pub nets_read : (ms : List FileModel) (nets : List (List (List ℕ))) (k : ℕ) (ns : List (List ℕ)) → nets ≡ map all_nets ms → k < length ms → ns ≡ get_or nets k ns
    → ns ≡ all_nets (get_or ms k no_model)
nets_read ms nets k ns e lt is = is ∙ (ap (λ xs. get_or xs k ns) e ∙ get_or-map all_nets ms k no_model ns lt)

-- ---- nets that are at home

-- nets that aren't bound have the path before their names
own_under : (round : List ℕ → List ℕ) (path : List ℕ) (binds : List Bind) (nets : List (List ℕ))
    → map (through round (λ net. path ++ net) binds) (filter (λ net. not (is_bound binds net)) nets) ≡ under path (filter (λ net. not (is_bound binds net)) nets)
own_under round path binds [] = refl
own_under round path binds (net ∷ nets) = split (actual_of binds net) refl (own_under round path binds nets)
  where
    rest : List (List ℕ)
    rest = filter (λ n. not (is_bound binds n)) nets

    split : (o : Option (List ℕ)) → actual_of binds net ≡ o → map (through round (λ n. path ++ n) binds) rest ≡ under path rest
        → map (through round (λ n. path ++ n) binds) (if not (is_some o) then net ∷ rest else rest) ≡ under path (if not (is_some o) then net ∷ rest else rest)
    split (Some a) e h = h
    split None e h = ap (λ w. w ∷ map (through round (λ n. path ++ n) binds) rest) (through-own round (λ n. path ++ n) binds net e) ∙ ap (λ ws. (path ++ net) ∷ ws) h

pub homes_under : (l : Layout) (n : ℕ) → IsLaid l → n ≤ length l.opened.now
    → homes_at (place_at (places_of l) n) ≡ under (place_at (places_of l) n).path (own_nets (place_at (places_of l) n))
homes_under l zero h low = subst (λ (p : Place). homes_at p ≡ under p.path (own_nets p)) (sym h.placed.root) refl
homes_under l (suc n) h low =
    let p = instance_placed l (suc n) h (omega arith) low in
    let o = opened_at l (suc n) in
    let round = place_at (places_of l) o.round in
    let instance = laid_instance l (suc n) in
    subst (λ (q : Place). homes_at q ≡ under q.path (own_nets q)) (sym p.is)
    (own_under round.home (path_in round.path instance.name) instance.binds (all_nets (model_at l.design.now o.model)))

-- the names of the nets of these spans are those of a place
pub span_homes : (l : Layout) (n : ℕ) (own : List Span) → IsLaid l → n ≤ length l.opened.now
    → AreOwn (all_nets (place_at (places_of l) n).model) (place_at (places_of l) n).binds own
    → under (place_at (places_of l) n).path (flat_map (cut (all_nets (place_at (places_of l) n).model)) own) ≡ homes_at (place_at (places_of l) n)
span_homes l n own h low are =
    ap (under (place_at (places_of l) n).path) are.are ∙ sym (homes_under l n h low)

-- the names of the places from one on
pub homes_more : (ps : List Place) (n : ℕ) → n < length ps → homes (drop n ps) ≡ homes_at (place_at ps n) ++ homes (drop (n + 1) ps)
unfolding homes
homes_more ps n lt = ap (flat_map homes_at) (drop_more ps n (root_place no_model) lt)

pub homes_none : (ps : List Place) (n : ℕ) → length ps ≤ n → homes (drop n ps) ≡ []
unfolding homes
homes_none ps n low = ap (flat_map homes_at) (drop_all n ps low)

pub places_long : (l : Layout) → IsLaid l → length (places_of l) ≡ length l.models
places_long l h =
    let a = h.placed.long in
    let b : length l.models ≡ length (model_numbers l.design.now l.opened.now) = ap length h.models in
    let c : length (map (λ (o : Opened). o.model) l.opened.now) ≡ length l.opened.now = length-map l.opened.now (λ o. o.model) in
    omega arith

-- the names of the places up to one
pub homes_taken : (ps : List Place) (n : ℕ) → n < length ps → homes (take (n + 1) ps) ≡ homes (take n ps) ++ homes_at (place_at ps n)
unfolding homes
homes_taken ps n lt =
    ap (flat_map homes_at) (take_more ps n (root_place no_model) lt)
    ∙ (flat_map-append homes_at (take n ps) (place_at ps n ∷ []) ∙ ap (λ ws. flat_map homes_at (take n ps) ++ ws) (append-nil (homes_at (place_at ps n))))

pub homes_of_none : homes [] ≡ []
unfolding homes
homes_of_none = refl
