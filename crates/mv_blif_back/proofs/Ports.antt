-- The lines of the inputs and the outputs of a well-formed network have no fault.
use Rattle.std.proofs.Common.{◌≡◌, ◌∙◌, ℕ, Bool, true, false, not, List, [], ◌∷◌, ◌++◌, ⊎_elim, refl, sym, ap, append_assoc}
use Rattle.std.specs.Prelude.{nat_eq}
use Rattle.std.specs.List.{list_all}
use Rattle.std.proofs.lemmas.Bool.{and_parts, and_from, or_cases, or_left, or_right, eq-eqb, false≢true, false_from_ne_true, not-true, not_from_false}
use Rattle.mv_base.specs.Names.{among, same_word, is_net_name, names_differ}
use Rattle.mv_base.specs.declared.number.NetId.{NetId}
use Rattle.mv_base.proofs.NameLemmas.{differ-repeated, same_word_is}
use Rattle.mv_fault.specs.declared.fault.ParseFault.TheVariants.{Repeated, BadName}
use Rattle.mv_fault.specs.Tells.{when}
use Rattle.mv_graph.specs.Nets.{has_id, all_differ}
use Rattle.mv_line.specs.Ports.{port_faults}
use Rattle.mv_net.specs.declared.parts.NetParts.{NetParts}
use Rattle.mv_net.specs.Nets.{slot, name_in}
use Rattle.mv_net.specs.Formed.{IsReadable, WellFormed}
use Rattle.mv_text.specs.Text.{names_of}

-- a lawful name that stands for the first time
new_name : (lawful stands_before : Bool) (n : ℕ) (w : List ℕ) → lawful ≡ true → stands_before ≡ false → when (not lawful) (BadName n w) ++ when stands_before (Repeated n w) ≡ []
new_name true false n w e f = refl
new_name true true n w e f = cc
new_name false b n w e f = cc

pub ports-fine : (n : ℕ) (earlier words : List (List ℕ)) → list_all is_net_name words ≡ true → names_differ (earlier ++ words) ≡ true → port_faults n earlier words ≡ []
ports-fine n earlier [] lawful differ = refl
ports-fine n earlier (w ∷ words) lawful differ =
    let both = and_parts (is_net_name w) (list_all is_net_name words) lawful in
    let fresh : among w earlier ≡ false = false_from_ne_true _ (λ y. false≢true (sym (differ-repeated earlier words w y) ∙ differ)) in
    let rest = ports-fine n (earlier ++ w ∷ []) words both.1 (ap names_differ (append_assoc earlier (w ∷ []) words) ∙ differ) in
    ap (λ fs. fs ++ port_faults n (earlier ++ w ∷ []) words) (new_name (is_net_name w) (among w earlier) n w both.0 fresh) ∙ rest

-- nets that can be read have different names, where they are different nets
module _ (net : NetParts) (formed : WellFormed net) where
  one_net : (n m : NetId) → IsReadable net.nets n.0 → IsReadable net.nets m.0 → name_in (slot net.nets n.0) ≡ name_in (slot net.nets m.0) → n.0 ≡ m.0
  one_net n m r s e = formed.names n.0 m.0 r.net s.net r.held s.held (sym (ap name_in r.held) ∙ (e ∙ ap name_in s.held))

  named_among : (n : NetId) (ns : List NetId) → IsReadable net.nets n.0 → ((m : NetId) → has_id ns m.0 ≡ true → IsReadable net.nets m.0) → among (name_in (slot net.nets n.0)) (names_of net.nets ns) ≡ true → has_id ns n.0 ≡ true
  named_among n [] r readable a = cc
  named_among n (m ∷ ns) r readable a =
      let here : IsReadable net.nets m.0 = readable m (or_left _ _ (eq-eqb m.0 m.0 refl)) in
      ⊎_elim
      (λ (y : same_word (name_in (slot net.nets n.0)) (name_in (slot net.nets m.0)) ≡ true). or_left (nat_eq m.0 n.0) _ (eq-eqb m.0 n.0 (sym (one_net n m r here (same_word_is _ _ y)))))
      (λ (later : among (name_in (slot net.nets n.0)) (names_of net.nets ns) ≡ true). or_right (nat_eq m.0 n.0) _ (named_among n ns r (λ k s. readable k (or_right _ _ s)) later))
      (or_cases (same_word (name_in (slot net.nets n.0)) (name_in (slot net.nets m.0))) (among (name_in (slot net.nets n.0)) (names_of net.nets ns)) a)

  pub names-differ : (ns : List NetId) → all_differ ns ≡ true → ((m : NetId) → has_id ns m.0 ≡ true → IsReadable net.nets m.0) → names_differ (names_of net.nets ns) ≡ true
  names-differ [] once readable = refl
  names-differ (n ∷ ns) once readable =
      let both = and_parts (not (has_id ns n.0)) (all_differ ns) once in
      let r : IsReadable net.nets n.0 = readable n (or_left _ _ (eq-eqb n.0 n.0 refl)) in
      let later : (m : NetId) → has_id ns m.0 ≡ true → IsReadable net.nets m.0 = λ m s. readable m (or_right _ _ s) in
      let fresh : among (name_in (slot net.nets n.0)) (names_of net.nets ns) ≡ false = false_from_ne_true _ (λ a. false≢true (sym (not-true _ both.0) ∙ named_among n ns r later a)) in
      and_from _ _ (not_from_false _ fresh) (names-differ ns both.1 later)
