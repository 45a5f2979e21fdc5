-- The counts of a model follow from those of the models that stand in it.
use Rattle.std.proofs.Common.{◌≡◌, ◌≢◌, ℕ, zero, suc, ◌+◌, ◌-◌, ◌<◌, Bool, true, false, Option, Some, None, is_some, List, [], ◌∷◌, length, get_or, map, replicate, refl, sym, ◌∙◌, ap, subst, arith}
use Rattle.std.specs.Prelude.{count_by, nat_eq, slice_set, unwrap_or}
use Rattle.std.specs.List.{AllByRecursion, flat_map}
use Rattle.std.proofs.lemmas.Bool.{false≢true, or_left, or_right}
use Rattle.std.proofs.lemmas.Bool.Decides.{nat_tests}
use Rattle.std.proofs.lemmas.Option.{none-some, same_Some}
use Rattle.std.proofs.lemmas.List.{get_or-map, get_or-set_same, get_or-set_other, length-set, length-replicate, length-map, get_or_default}
use Rattle.mv_base.specs.Names.{same_word, AreApart, IsDistinct}
use Rattle.mv_base.proofs.NameLemmas.{same_word_refl}
use Rattle.mv_design.specs.declared.design.Bind.{Bind}
use Rattle.mv_design.specs.declared.design.Design.{Design}
use Rattle.mv_design.specs.declared.design.FileLatch.{FileLatch}
use Rattle.mv_design.specs.declared.design.FileModel.{FileModel}
use Rattle.mv_design.specs.declared.design.Instance.{Instance}
use Rattle.mv_design.specs.declared.table.FileTable.{FileTable}
use Rattle.mv_design.specs.Nets.{no_model, latch_outputs, nets_driven, columns_of}
use Rattle.mv_tree.specs.Tree.{Instances, NoMore, More, Unfolds, IsWithinDepth, model_named}
use Rattle.mv_tree.specs.Places.{actual_of, all_nets}
use Rattle.mv_tree.proofs.Each.{each-weaker}
use Rattle.mv_tree.proofs.Named.{AreAmong, among_both, among_single, among_all, among_right, latch_nets, nets_among}
use Rattle.mv_tree.proofs.Inside.{actual_listed, AreNamed, are_named}
use Rattle.mv_acyclic.proofs.Names.{count_of_append}
use Rattle.mv_unfold.specs.declared.commands.Command.{Command}
use Rattle.mv_unfold.specs.declared.layout.Layout.{Layout}
use Rattle.mv_unfold.specs.Placed.{model_at, no_instance}
use Rattle.mv_unfold.specs.Commands.{no_command, IsCommand}
use Rattle.mv_unfold.specs.Laid.{IsLaid}
use Rattle.mv_unfold.specs.Driven.{own_driven, net_in, passed, passed_up, driven_in, tally, counts_at, with_instances, counted, HasInside, IsTally, IsKnown, AreTallies}
use Rattle.mv_unfold.proofs.Kept.{none_there}
use Rattle.mv_unfold.proofs.Placed.{named_model}
use Rattle.mv_unfold.proofs.Laid.{nets_read}
use Rattle.mv_unfold.proofs.Counting.{tally_by, tally_alike, own_counted, AreCounts, are_counts, binds_passed}

-- ---- what is driven is named

none_among : (names : List (List ℕ)) → AreAmong [] names
none_among names = record { each = λ w e. absurd (false≢true e) }

passed_named : (binds : List Bind) (ws : List (List ℕ)) → AreAmong (passed binds ws) (map (λ b. b.actual) binds)
passed_named binds [] = none_among (map (λ b. b.actual) binds)
passed_named binds (x ∷ ws) =
    among_both (net_in (actual_of binds x)) (passed binds ws) (map (λ b. b.actual) binds) (one (actual_of binds x) refl) (passed_named binds ws)
  where
    one : (o : Option (List ℕ)) → actual_of binds x ≡ o → AreAmong (net_in o) (map (λ b. b.actual) binds)
    one None e = none_among (map (λ b. b.actual) binds)
    one (Some a) e = among_single a (map (λ b. b.actual) binds) (actual_listed binds x a e)

passed_up_named : (round : FileModel) (tree : Instances) → AreNamed round tree → AreAmong (passed_up tree) (all_nets round)
passed_up_named round NoMore h = none_among (all_nets round)
passed_up_named round (More instance model inside rest) h =
    let here = passed_named instance.binds (driven_in model inside) in
    among_both (passed instance.binds (driven_in model inside)) (passed_up rest) (all_nets round) (record { each = λ w e. (h.0).each w (here.each w e) })
    (passed_up_named round rest h.2)

outputs_named : (names : List (List ℕ)) (ls : List FileLatch) → AllByRecursion (λ l. AreAmong (latch_nets l) names) ls → AreAmong (map (λ l. l.output) ls) names
outputs_named names [] h = none_among names
outputs_named names (l ∷ ls) h =
    among_both (l.output ∷ []) (map (λ x. x.output) ls) names
    (among_single l.output names ((h.0).each l.output (or_right (same_word l.output l.input) _ (or_left _ _ (same_word_refl l.output)))))
    (outputs_named names ls h.1)

pub driven_named : (d : Design) (m : FileModel) (tree : Instances) → Unfolds d m.instances tree → AreAmong (driven_in m tree) (all_nets m)
driven_named d m tree u =
    let names = all_nets m in
    let a = nets_among m in
    among_both (own_driven m) (passed_up tree) names
    (among_both (latch_outputs m) (flat_map nets_driven m.tables) names (outputs_named names m.latches a.latches)
    (among_all nets_driven m.tables names
    (each-weaker (λ (t : FileTable). AreAmong (columns_of t) names) (λ (t : FileTable). AreAmong t.outputs names) (λ t h. among_right t.inputs t.outputs names h) m.tables a.tables)))
    (passed_up_named m tree (are_named d m tree u))

-- ---- the counts of a model

pub known_counts : (o : Option (List ℕ)) → is_some o ≡ true → o ≡ Some (unwrap_or o [])
known_counts None e = absurd (false≢true e)
known_counts (Some c) e = refl

-- what is known of the commands from some on
pub record AreReady (d : Design) (slots : List (Option (List ℕ))) (ps : List Instance) (cs : List Command) : Type 0 where
  pub long : length cs ≡ length ps
  pub each : (j : ℕ) → j < length cs → IsCommand d.models (get_or ps j no_instance) (get_or cs j no_command)
  pub known : (j : ℕ) → j < length cs → IsKnown slots (get_or cs j no_command).model

-- the counts of models that are known
pub record AreRight (d : Design) (slots : List (Option (List ℕ))) : Type 0 where
  pub each : (k : ℕ) (counts : List ℕ) → get_or slots k None ≡ Some counts → IsTally d k counts

ready_rest : (d : Design) (slots : List (Option (List ℕ))) (p : Instance) (ps : List Instance) (c : Command) (cs : List Command) → AreReady d slots (p ∷ ps) (c ∷ cs)
    → AreReady d slots ps cs
ready_rest d slots p ps c cs h = record {
  long = let l = h.long in omega arith;
  each = λ j lt. h.each (suc j) (omega arith);
  known = λ j lt. h.known (suc j) (omega arith);
}

three : (i j k : ℕ) → (i + j) + k ≡ i + (j + k)
three i j k = omega arith

-- what is read of the model of an instance
inner_counts : (d : Design) (all : List (List (List ℕ))) (slots : List (Option (List ℕ))) (p instance : Instance) (c : Command) (model : FileModel) (inside : Instances)
    → all ≡ map all_nets d.models → AreRight d slots → IsCommand d.models p c → IsKnown slots c.model → instance ≡ p → model_named d.models p.model ≡ Some model
    → Unfolds d model.instances inside → AreCounts (get_or all c.model []) (counts_at slots c.model) (driven_in model inside)
inner_counts d all slots p instance c model inside nets right h known is named u =
    let m = named_model d p.model model named in
    let at : model_at d c.model ≡ model = ap (model_at d) h.model ∙ m.is in
    let read : get_or all c.model [] ≡ all_nets model =
    ap (λ (xs : List (List (List ℕ))). get_or xs c.model []) nets ∙ (get_or-map all_nets d.models c.model no_model [] h.below ∙ ap all_nets at) in
    let slot = known_counts (get_or slots c.model None) known in
    let counts : counts_at slots c.model ≡ tally (all_nets model) (driven_in model inside) =
    (right.each c.model (counts_at slots c.model) slot).is inside (subst (λ (x : FileModel). Unfolds d x.instances inside) (sym at) u)
    ∙ ap (λ (x : FileModel). tally (all_nets x) (driven_in x inside)) at in
    subst (λ ns. AreCounts ns (counts_at slots c.model) (driven_in model inside)) (sym read)
    (subst (λ ks. AreCounts (all_nets model) ks (driven_in model inside)) (sym counts) (are_counts (all_nets model) (driven_in model inside) (driven_named d model inside u)))

instances_grown : (d : Design) (all : List (List (List ℕ))) (slots : List (Option (List ℕ))) (nets : List (List ℕ)) (f : List ℕ → ℕ) (ps : List Instance) (cs : List Command)
    (tree : Instances) → AreApart nets → all ≡ map all_nets d.models → AreRight d slots → AreReady d slots ps cs → Unfolds d ps tree
    → with_instances nets all slots (tally_by nets f) ps cs ≡ tally_by nets (λ v. f v + count_by (same_word v) (passed_up tree))
instances_grown d all slots nets f [] cs NoMore apart is right h u = tally_alike nets f (λ v. f v + 0) (λ v. omega arith)
instances_grown d all slots nets f [] cs (More _ _ _ _) apart is right h u = absurd u
instances_grown d all slots nets f (p ∷ ps) cs NoMore apart is right h u = absurd u
instances_grown d all slots nets f (p ∷ ps) [] (More instance model inside rest) apart is right h u = absurd (let l = h.long in omega arith)
instances_grown d all slots nets f (p ∷ ps) (c ∷ cs) (More instance model inside rest) apart is right h u =
    let ws = driven_in model inside in
    let inner = get_or all c.model [] in
    let ic = counts_at slots c.model in
    let counts = inner_counts d all slots p instance c model inside is right (h.each 0 (omega arith)) (h.known 0 (omega arith)) u.0.is u.0.named u.1 in
    let g : List ℕ → ℕ = λ v. f v + count_by (same_word v) (passed p.binds ws) in
    ap (λ ks. with_instances nets all slots ks ps cs) (binds_passed nets inner ic ws f p.binds apart counts)
    ∙ (instances_grown d all slots nets g ps cs rest apart is right (ready_rest d slots p ps c cs h) u.2
    ∙ tally_alike nets (λ v. g v + count_by (same_word v) (passed_up rest)) (λ v. f v + count_by (same_word v) (passed_up (More instance model inside rest)))
    (λ v.
    three (f v) (count_by (same_word v) (passed p.binds ws)) (count_by (same_word v) (passed_up rest))
    ∙ (ap (λ (x : Instance). f v + (count_by (same_word v) (passed x.binds ws) + count_by (same_word v) (passed_up rest))) (sym u.0.is)
    ∙ ap (λ n. f v + n) (sym (count_of_append v (passed instance.binds ws) (passed_up rest))))))

-- the counts of a model are right where those are of what stands in it
pub counted_right : (d : Design) (all : List (List (List ℕ))) (slots : List (Option (List ℕ))) (k : ℕ) (row : List Command) (counts : List ℕ)
    → IsDistinct (all_nets (model_at d k)) → all ≡ map all_nets d.models → AreRight d slots → AreReady d slots (model_at d k).instances row
    → counts ≡ counted (all_nets (model_at d k)) all slots (model_at d k) row → IsTally d k counts
counted_right d all slots k row counts distinct is right ready e = record {
  is = λ tree u.
      let m = model_at d k in
      let nets = all_nets m in
      e
      ∙ (ap (λ ks. with_instances nets all slots ks m.instances row) (own_counted nets m distinct.apart)
      ∙ (instances_grown d all slots nets (λ v. count_by (same_word v) (own_driven m)) m.instances row tree distinct.apart is right ready u
      ∙ tally_alike nets (λ v. count_by (same_word v) (own_driven m) + count_by (same_word v) (passed_up tree)) (λ v. count_by (same_word v) (driven_in m tree))
      (λ v. sym (count_of_append v (own_driven m) (passed_up tree)))));
}

-- ---- one model more

known_set : (slots : List (Option (List ℕ))) (k j : ℕ) (counts : List ℕ) → k < length slots → IsKnown slots j → IsKnown (slice_set slots k (Some counts)) j
known_set slots k j counts lt h = by (nat_eq j k) refl
  where
    by : (b : Bool) → nat_eq j k ≡ b → IsKnown (slice_set slots k (Some counts)) j
    by true e =
        let is : j ≡ k = grind (arith, nat_tests) in
        ap is_some (ap (λ i. get_or (slice_set slots k (Some counts)) i None) is ∙ get_or-set_same slots k (Some counts) None lt)
    by false e =
        let ne : j ≢ k = grind (arith, nat_tests) in
        ap is_some (get_or-set_other slots k j (Some counts) None ne) ∙ h

pub filled : (l : Layout) (slots new : List (Option (List ℕ))) (k : ℕ) (counts : List ℕ) → IsLaid l → k < length l.design.now.models → AreTallies l slots
    → ((j : ℕ) → j < length (get_or l.commands k []) → IsKnown slots (get_or (get_or l.commands k []) j no_command).model)
    → IsTally l.design.now k counts → new ≡ slice_set slots k (Some counts) → AreTallies l new
filled l slots new k counts laid lt h inner right is =
    let long : length slots ≡ length l.design.now.models = h.long in
    let below : k < length slots = omega arith in
    subst (AreTallies l) (sym is)
    (record {
      long = length-set slots k (Some counts) ∙ long;
      right = λ j c e. right_at j c below e (nat_eq j k) refl;
      closed = λ j i known low. known_set slots k _ counts below (closed_at j i below known low (nat_eq j k) refl);
    })
  where
    right_at : (j : ℕ) (c : List ℕ) → k < length slots → get_or (slice_set slots k (Some counts)) j None ≡ Some c → (b : Bool) → nat_eq j k ≡ b
        → IsTally l.design.now j c
    right_at j c below e true q =
        let same : j ≡ k = grind (arith, nat_tests) in
        let c_is : counts ≡ c =
        same_Some counts c (sym (get_or-set_same slots k (Some counts) None below) ∙ (ap (λ i. get_or (slice_set slots k (Some counts)) i None) (sym same) ∙ e)) in
        subst (λ i. IsTally l.design.now i c) (sym same) (subst (IsTally l.design.now k) c_is right)
    right_at j c below e false q =
        let ne : j ≢ k = grind (arith, nat_tests) in
        h.right j c (sym (get_or-set_other slots k j (Some counts) None ne) ∙ e)

    closed_at : (j i : ℕ) → k < length slots → IsKnown (slice_set slots k (Some counts)) j → i < length (get_or l.commands j []) → (b : Bool) → nat_eq j k ≡ b
        → IsKnown slots (get_or (get_or l.commands j []) i no_command).model
    closed_at j i below known low true q =
        let same : j ≡ k = grind (arith, nat_tests) in
        subst (λ r. IsKnown slots (get_or (get_or l.commands r []) i no_command).model) (sym same)
        (inner i (subst (λ r. i < length (get_or l.commands r [])) same low))
    closed_at j i below known low false q =
        let ne : j ≢ k = grind (arith, nat_tests) in
        h.closed j i (sym (ap is_some (get_or-set_other slots k j (Some counts) None ne)) ∙ known) low

-- ---- where the recursion goes

-- a command makes an instance of a model, inside which there are fewer levels
record HasInstance (d : Design) (levels : ℕ) (p : Instance) : Type 0 where
  model : FileModel
  inside : Instances
  named : model_named d.models p.model ≡ Some model
  some : 0 < levels
  unfolds : Unfolds d model.instances inside
  shallow : IsWithinDepth (levels - 1) inside

instance_inside : (d : Design) (levels : ℕ) (ps : List Instance) (tree : Instances) → Unfolds d ps tree → IsWithinDepth levels tree → (j : ℕ) → j < length ps
    → HasInstance d levels (get_or ps j no_instance)
instance_inside d levels [] tree u s j lt = absurd (omega arith)
instance_inside d levels (p ∷ ps) NoMore u s j lt = absurd u
instance_inside d zero (p ∷ ps) (More instance model inside rest) u s j lt = absurd s
instance_inside d (suc levels) (p ∷ ps) (More instance model inside rest) u s zero lt = record {
  model = model;
  inside = inside;
  named = u.0.named;
  some = omega arith;
  unfolds = u.1;
  shallow = let e : levels ≡ suc levels - 1 = omega arith in subst (λ n. IsWithinDepth n inside) e s.0;
}
instance_inside d (suc levels) (p ∷ ps) (More instance model inside rest) u s (suc j) lt = instance_inside d (suc levels) ps rest u.2 s.1 j (omega arith)

pub record IsInside (l : Layout) (levels : ℕ) (c : Command) : Type 0 where
  pub some : 0 < levels
  pub inside : HasInside l.design.now (levels - 1) c.model
  pub below : c.model < length l.design.now.models

pub command_inside : (l : Layout) (levels k j : ℕ) → IsLaid l → HasInside l.design.now levels k → k < length l.design.now.models
    → j < length (get_or l.commands k []) → IsInside l levels (get_or (get_or l.commands k []) j no_command)
command_inside l levels k j laid h lt low =
    let d = l.design.now in
    let row = get_or l.commands k [] in
    let c = get_or row j no_command in
    let long : length l.commands ≡ length d.models = laid.commands.long in
    let of = laid.commands.each k (omega arith) in
    let same : length row ≡ length (model_at d k).instances = of.long in
    let cmd = of.each j low in
    let p = instance_inside d levels (model_at d k).instances h.tree h.unfolds h.shallow j (omega arith) in
    let m = named_model d (get_or (model_at d k).instances j no_instance).model p.model p.named in
    let at : model_at d c.model ≡ p.model = ap (model_at d) cmd.model ∙ m.is in
    record {
      some = p.some;
      inside = record { tree = p.inside; unfolds = subst (λ (x : FileModel). Unfolds d x.instances p.inside) (sym at) p.unfolds; shallow = p.shallow };
      below = cmd.below;
    }

-- nothing is known at first
pub nothing_known : (l : Layout) (slots : List (Option (List ℕ))) (n : ℕ) → slots ≡ replicate n None → n ≡ length l.design.now.models → AreTallies l slots
nothing_known l slots n e long =
    let none : (k : ℕ) → get_or slots k None ≡ None = λ k. ap (λ (xs : List (Option (List ℕ))). get_or xs k None) e ∙ none_there n k in
    record {
      long = ap length e ∙ (length-replicate n None ∙ long);
      right = λ k c f. absurd (none-some c (sym (none k) ∙ f));
      closed = λ k j known low. absurd (false≢true (sym (ap is_some (none k)) ∙ known));
    }

-- each command of a model makes an instance of some model
pub commands_below : (l : Layout) (k : ℕ) (row : List Command) (nets : List (List (List ℕ))) → IsLaid l → k < length l.design.now.models
    → row ≡ get_or l.commands k [] → nets ≡ l.nets → (j : ℕ) (z : Command) → j < length row → (get_or row j z).model < length nets
commands_below l k row nets laid lt is same j z low =
    let long : length l.commands ≡ length l.design.now.models = laid.commands.long in
    let all : length nets ≡ length l.design.now.models = ap length same ∙ (ap length laid.nets ∙ length-map l.design.now.models all_nets) in
    let of = laid.commands.each k (omega arith) in
    let below = (of.each j (subst (λ (xs : List Command). j < length xs) is low)).below in
    let read : get_or row j z ≡ get_or (get_or l.commands k []) j no_command =
    get_or_default row j z no_command low ∙ ap (λ (xs : List Command). get_or xs j no_command) is in
    let e : (get_or row j z).model ≡ (get_or (get_or l.commands k []) j no_command).model = ap (λ (x : Command). x.model) read in
    omega arith

-- the counts that were made are those of the model
pub filled_now : (l : Layout) (slots held new : List (Option (List ℕ))) (k : ℕ) (row : List Command) (nets : List (List (List ℕ))) (local : List (List ℕ)) (file : FileModel)
    (counts : List ℕ) → IsLaid l → k < length l.design.now.models → AreTallies l slots → row ≡ get_or l.commands k []
    → ((j : ℕ) → j < length row → IsKnown slots (get_or row j no_command).model) → nets ≡ l.nets → local ≡ get_or nets k local → file ≡ model_at l.design.now k
    → IsDistinct local → held ≡ slots → counts ≡ counted local nets held file row → new ≡ slice_set slots k (Some counts) → AreTallies l new
filled_now l slots held new k row nets local file counts laid lt h is known same read at distinct holds e new_is =
    let d = l.design.now in
    let long : length l.commands ≡ length d.models = laid.commands.long in
    let own : local ≡ all_nets (model_at d k) = nets_read d.models nets k local (same ∙ laid.nets) lt read in
    let of = laid.commands.each k (omega arith) in
    let inner : (j : ℕ) → j < length (get_or l.commands k []) → IsKnown slots (get_or (get_or l.commands k []) j no_command).model =
    subst (λ (xs : List Command). (j : ℕ) → j < length xs → IsKnown slots (get_or xs j no_command).model) is known in
    let ready : AreReady d slots (model_at d k).instances (get_or l.commands k []) = record { long = of.long; each = of.each; known = inner } in
    let counted_is : counts ≡ counted (all_nets (model_at d k)) nets slots (model_at d k) (get_or l.commands k []) =
    e
    ∙ (ap (λ (ns : List (List ℕ)). counted ns nets held file row) own
    ∙ (ap (λ (s : List (Option (List ℕ))). counted (all_nets (model_at d k)) nets s file row) holds
    ∙ (ap (λ (m : FileModel). counted (all_nets (model_at d k)) nets slots m row) at
    ∙ ap (λ (r : List Command). counted (all_nets (model_at d k)) nets slots (model_at d k) r) is))) in
    filled l slots new k counts laid lt h inner
    (counted_right d nets slots k (get_or l.commands k []) counts (subst IsDistinct own distinct) (same ∙ laid.nets) (record { each = h.right }) ready counted_is) new_is
