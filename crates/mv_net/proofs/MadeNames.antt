-- Up to which number nets have all made names: as names are looked up, as nets come, change and go.
use Rattle.std.proofs.Common.{◌≡◌, ◌∙◌, ℕ, ◌+◌, ◌<◌, ◌≤◌, ◌^◌, true, false, List, Option, Some, None, is_some, length, set, take, refl, sym, ap, subst, ⊎_elim, arith}
use Rattle.std.specs.List.{list_any}
use Rattle.std.specs.Option.{option_map}
use Rattle.std.proofs.lemmas.Bool.{cases_lt, false≢true, false_from_ne_true}
use Rattle.std.proofs.lemmas.List.{get_or-take, length-take, get_or-set_other}
use Rattle.mv_base.specs.Names.{same_word}
use Rattle.mv_base.proofs.NameLemmas.{same_word_is, same_word_refl}
use Rattle.mv_net.specs.declared.change.NewTable.{NewTable}
use Rattle.mv_net.specs.declared.change.NewCount.{NewCount}
use Rattle.mv_net.specs.declared.parts.FlatNet.{FlatNet}
use Rattle.mv_net.specs.Nets.{slot}
use Rattle.mv_net.specs.Index.{HasName}
use Rattle.mv_net.specs.Names.{number_of, AreNames}
use Rattle.mv_net.specs.Changes.{table_for, count_for, with_table, with_count}
use Rattle.mv_net.specs.Fresh.{made_name, is_named, is_taken, AreMade}
use Rattle.mv_net.proofs.Named.{name_at, has_name, name_of, HasName-moved, held_below}
use Rattle.mv_net.proofs.Changed.{tabled_name, counted_name}
use Rattle.mv_net.proofs.FreshNames.{named_found, named_any, made_injective}

-- ---- a look-up

-- the name leads to a number where a net has it
pub leads_taken : (nets : List (Option FlatNet)) (names : List (List ℕ × ℕ)) (w : List ℕ) (number : ℕ) → AreNames nets names → w ≡ made_name number → is_some (number_of names w) ≡ is_taken nets number
leads_taken nets names w number are e = by (number_of names w) refl ∙ ap (λ v. list_any (is_named v) nets) e
  where
    by : (o : Option ℕ) → number_of names w ≡ o → is_some (number_of names w) ≡ list_any (is_named w) nets
    by (Some n) at = ap is_some at ∙ sym (named_any nets n w (are.some w n at))
    by None at =
        ap is_some at
        ∙ sym (false_from_ne_true (list_any (is_named w) nets) (λ y. let f = named_found nets w y in let bad : None ≡ Some f.at = sym at ∙ are.found w f.at f.has in absurd cc))

-- ---- one number more

pub made_next : (nets : List (Option FlatNet)) (made : ℕ) → AreMade nets made → is_taken nets (made + 1) ≡ true → AreMade nets (made + 1)
made_next nets made are next = record {
  taken = λ k some low.
      ⊎_elim
      (λ (l : k < made + 1). are.taken k some (omega arith))
      (λ (g : made + 1 ≤ k). let e : k ≡ made + 1 = omega arith in ap (is_taken nets) e ∙ next)
      (cases_lt k (made + 1));
}

-- ---- nets with the names that they had

made_kept : (old new : List (Option FlatNet)) (made : ℕ) → ((n : ℕ) → name_at new n ≡ name_at old n) → AreMade old made → AreMade new made
made_kept old new made same are = record {
  taken = λ k some low.
      let w = made_name k in
      let f = named_found old w (are.taken k some low) in
      named_any new f.at w (has_name new f.at w (same f.at ∙ name_of old f.at w f.has));
}

pub made_set : (set : List NewTable) (old new : List (Option FlatNet)) (made : ℕ) → ((n : ℕ) → slot new n ≡ option_map (with_table (table_for n set)) (slot old n)) → AreMade old made → AreMade new made
made_set set old new made each are = made_kept old new made (λ n. ap (option_map (λ (g : FlatNet). g.name)) (each n) ∙ tabled_name (table_for n set) (slot old n)) are

pub made_counted : (values : List NewCount) (old new : List (Option FlatNet)) (made : ℕ) → ((n : ℕ) → slot new n ≡ option_map (with_count (count_for n values)) (slot old n)) → AreMade old made → AreMade new made
made_counted values old new made each are = made_kept old new made (λ n. ap (option_map (λ (g : FlatNet). g.name)) (each n) ∙ counted_name (count_for n values) (slot old n)) are

-- ---- more nets, and fewer

pub made_more : (nets : List (Option FlatNet)) (long made : ℕ) → AreMade (take long nets) made → AreMade nets made
made_more nets long made are = record {
  taken = λ k some low.
      let w = made_name k in
      let front = take long nets in
      let f = named_found front w (are.taken k some low) in
      let under : f.at < length front = held_below front f.at f.has.net f.has.held in
      let before : f.at < long = omega (arith, length-take long nets) in
      named_any nets f.at w (HasName-moved front nets f.at w (sym (get_or-take long nets f.at None before)) f.has);
}

pub made_fewer : (old new : List (Option FlatNet)) (n made left : ℕ) (net : Option FlatNet) → net ≡ slot old n → new ≡ set old n None → left ≤ made → ((k : ℕ) → 0 < k → k ≤ left → is_named (made_name k) net ≡ false) → AreMade old made → AreMade new left
made_fewer old new n made left net is out low other are =
    subst (λ l. AreMade l left) (sym out) (record {
      taken = λ k some most.
          let w = made_name k in
          let f = named_found old w (are.taken k some (omega arith)) in
          named_any (set old n None) f.at w (HasName-moved old (set old n None) f.at w (get_or-set_other old n f.at None None (apart k f.at some most f.has)) f.has);
    })
  where
    apart : (k m : ℕ) → 0 < k → k ≤ left → HasName old m (made_name k) → m ≡ n → ⊥
    apart k m some most h y =
        let held : net ≡ Some h.net = is ∙ (ap (slot old) (sym y) ∙ h.held) in
        let hit : same_word h.net.name (made_name k) ≡ true = ap (λ v. same_word v (made_name k)) h.is ∙ same_word_refl (made_name k) in
        false≢true (sym (other k some most) ∙ (ap (is_named (made_name k)) held ∙ hit))

-- ---- the number of a name

-- a net with a made name has none with another number
pub other_number : (net : Option FlatNet) (f : FlatNet) (w : List ℕ) (number k : ℕ) → net ≡ Some f → w ≡ f.name → w ≡ made_name number → number < 2 ^ 32 → k < 2 ^ 32 → (number ≡ k → ⊥) → is_named (made_name k) net ≡ false
other_number net f w number k is name made small low ne =
    ap (is_named (made_name k)) is
    ∙ false_from_ne_true (same_word f.name (made_name k)) (λ y. ne (made_injective number k (omega arith) (omega arith) (sym made ∙ (name ∙ same_word_is f.name (made_name k) y))))
