-- A line has no fault where its words are enough, and what they say is lawful and new.
use Rattle.std.proofs.Common.{◌≡◌, ℕ, ◌≤◌, true, false, List, [], ◌∷◌, ◌++◌, length, append_assoc, refl, sym, ◌∙◌, subst, inl, inr, arith}
use Rattle.std.specs.Prelude.{◌==◌, map}
use Rattle.std.proofs.lemmas.Bool.{cases_Bool, ne_eqb}
use Rattle.std.proofs.lemmas.List.Elements.{All-head, All-tail}
use Rattle.mv_base.specs.Names.{among, is_word, is_net_name, is_model_name, names_differ}
use Rattle.mv_base.proofs.NameLemmas.{differ-repeated}
use Rattle.mv_design.specs.declared.design.Bind.{Bind}
use Rattle.mv_fault.proofs.Firsts.{append-nothing}
use Rattle.mv_instances.specs.Binding.{before_equal, binding_of, binding_faults, bindings_faults}
use Rattle.mv_instances.specs.Line.{own_name_faults, instance_name_faults, instance_faults, instance_name, instance_said}
use Rattle.mv_design.specs.Proper.{IsFileBind, IsFileInstance}
use Rattle.mv_instances.proofs.Lawful.{formals, AreNewBinds}

-- a lawful name has a byte
some_bytes : (w : List ℕ) → is_net_name w ≡ true → (length w == 0) ≡ false
unfolding is_net_name is_word
some_bytes [] e = cc
some_bytes (b ∷ bs) e = ne_eqb (length (b ∷ bs)) 0 (λ (h : length (b ∷ bs) ≡ 0). omega arith)

bind-accepted : (n : ℕ) (word : List ℕ) (bound : List (List ℕ)) (b : Bind) → IsFileBind b → among b.formal bound ≡ false → binding_faults n word bound b ≡ []
unfolding binding_faults
bind-accepted n word bound b lawful new =
    rw (some_bytes b.formal lawful.formal, some_bytes b.actual lawful.actual, lawful.formal, lawful.actual, new) refl

-- where names differ, none of them stands before its place
not_repeated : (us ws : List (List ℕ)) (w : List ℕ) → names_differ (us ++ w ∷ ws) ≡ true → among w us ≡ false
not_repeated us ws w d =
    elim (cases_Bool (among w us)) [
      | inl y ↦ let both : true ≡ false = sym d ∙ differ-repeated us ws w y in cc
      | inr n ↦ n
    ]

binds-accepted : (n : ℕ) (word : List ℕ) (bound words : List (List ℕ)) → AreNewBinds bound words → bindings_faults n word bound words ≡ []
binds-accepted n word bound [] h = refl
binds-accepted n word bound (w ∷ words) h =
    let others = formals (map binding_of words) in
    let lawful = All-head IsFileBind (binding_of w) (map binding_of words) h.lawful in
    let rest : AreNewBinds (bound ++ before_equal w ∷ []) words = record {
      lawful = All-tail IsFileBind (binding_of w) (map binding_of words) h.lawful;
      differ = subst (λ ws. names_differ ws ≡ true) (sym (append_assoc bound (before_equal w ∷ []) others)) h.differ;
    } in
    append-nothing (binding_faults n word bound (binding_of w)) _
    (bind-accepted n word bound (binding_of w) lawful (not_repeated bound others (before_equal w) h.differ))
    (binds-accepted n word (bound ++ before_equal w ∷ []) words rest)

own_name-accepted : (n : ℕ) (w : List ℕ) → is_model_name w ≡ true → own_name_faults n w ≡ []
unfolding own_name_faults
own_name-accepted n w y = rw y refl

instance_name-accepted : (n : ℕ) (known : List (List ℕ)) (w : List ℕ) → is_model_name w ≡ true → among w known ≡ false → instance_name_faults n known w ≡ []
unfolding instance_name_faults
instance_name-accepted n known w y new = append-nothing (own_name_faults n w) _ (own_name-accepted n w y) (rw new refl)

pub instance-accepted : (n : ℕ) (word : List ℕ) (known words : List (List ℕ)) → 2 ≤ length words → IsFileInstance (instance_said n words)
    → among (instance_name words) known ≡ false → instance_faults n word known words ≡ []
unfolding instance_faults instance_said
instance-accepted n word known [] enough h new = absurd (omega arith)
instance-accepted n word known (model ∷ []) enough h new = absurd (omega arith)
instance-accepted n word known (model ∷ instance ∷ words) enough h new =
    append-nothing (own_name_faults n model ++ instance_name_faults n known instance) _
    (append-nothing (own_name_faults n model) _ (own_name-accepted n model h.model) (instance_name-accepted n known instance h.name new))
    (binds-accepted n word [] words (record { lawful = h.binds; differ = h.differ }))
