-- The values of a model's nets: some, and not too many, with names that are lawful as a network keeps them.
use Rattle.std.proofs.Common.{◌≡◌, ℕ, ◌<◌, ◌≤◌, Bool, true, false, List, [], ◌∷◌, length, map, decimal, refl, sym, ◌∙◌, subst, arith, ⊎_elim, All}
use Rattle.std.specs.Prelude.{if◌then◌else◌, nat_eq}
use Rattle.std.specs.List.{list_all, range_with_len}
use Rattle.std.specs.Cmp.Lexicographic.{pointwise}
use Rattle.std.proofs.lemmas.Bool.{false≢true, cases_Bool, cond-false, cond-true}
use Rattle.std.proofs.lemmas.List.Elements.{All-head, All-tail}
use Rattle.std.proofs.lemmas.Slice.Eq.{bytes_eq-Decides, slice_eq-Decides}
use Rattle.mv_base.specs.Names.{same_word, is_net_name, is_value_name, is_word, names_differ}
use Rattle.mv_base.specs.declared.limits.TheConstants.{MAX_VALUES}
use Rattle.mv_design.specs.Values.{two_values, values_of}
use Rattle.mv_design.specs.declared.design.Decl.{Decl}
use Rattle.mv_net.specs.Formed.{IsNamed}
use Rattle.mv_resets.specs.NetModels.{HasLawfulValues}
use Rattle.mv_flat.specs.Numbers.{are_numbers, kept_names}

-- some values, and no more than a net may have, with lawful names, all different
pub record AreValues (values : List (List ℕ)) : Type 0 where
  pub some : 0 < length values
  pub few : length values ≤ MAX_VALUES
  pub lawful : list_all is_value_name values ≡ true
  pub differ : names_differ values ≡ true

two_lawful : list_all is_value_name two_values ≡ true
unfolding is_value_name is_net_name is_word
two_lawful = refl

two_are : AreValues two_values
two_are = record { some = omega arith; few = omega arith; lawful = two_lawful; differ = refl }

-- so are the values of each net
pub values_are : (ds : List Decl) (w : List ℕ) → All HasLawfulValues ds → AreValues (values_of ds w)
values_are [] w all = two_are
values_are (d ∷ ds) w all =
    let here = All-head HasLawfulValues d ds all in
    let P : List (List ℕ) → Type 0 = AreValues in
    ⊎_elim
    (λ (y : same_word w d.net ≡ true).
    subst P (sym (cond-true (same_word w d.net) d.values (values_of ds w) y))
    (record { some = here.some; few = here.few; lawful = here.lawful; differ = here.differ }))
    (λ (n : same_word w d.net ≡ false).
    subst P (sym (cond-false (same_word w d.net) d.values (values_of ds w) n)) (values_are ds w (All-tail HasLawfulValues d ds all)))
    (cases_Bool (same_word w d.net))

alike : (us ws : List (List ℕ)) → us ≡ ws → pointwise (pointwise nat_eq) us ws ≡ true
alike us ws e = (slice_eq-Decides bytes_eq-Decides us ws (pointwise (pointwise nat_eq) us ws) refl).1 e

-- what a network keeps of their names
pub named_kept : (values : List (List ℕ)) → AreValues values → IsNamed (length values) (kept_names values)
named_kept values are = kept (are_numbers values) refl
  where
    kept : (b : Bool) → are_numbers values ≡ b → IsNamed (length values) (if b then [] else values)
    kept true e = record { lawful = refl; differ = refl; each = λ some. absurd (let none : 0 < 0 = some in omega arith); spelled = λ h. refl }
    kept false e = record {
      lawful = are.lawful;
      differ = are.differ;
      each = λ some. refl;
      spelled = λ h. absurd (false≢true (sym e ∙ alike values (map decimal (range_with_len 0 (length values))) h));
    }
