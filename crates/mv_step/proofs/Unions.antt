-- The set of the values that words say, one after the other.
use Rattle.std.proofs.Common.{◌≡◌, ◌∙◌, ℕ, suc, zero, ◌<◌, Bool, false, ◌||◌, ◌==◌, Option, Some, None, List, [], ◌∷◌, ◌++◌, length, get_or, map, refl, sym, ap, arith}
use denote.Param.Members.{Mut}
use denote.Ref.{Bor}
use Rattle.std.specs.Fn.{CalledAt}
use Rattle.std.specs.Iterator.{Yields}
use Rattle.std.specs.List.{slice_split}
use Rattle.std.specs.Slice.Iter.{split_rest, split_done, split_callee, split_steps}
use Rattle.std.proofs.Math.Bool.{or-false, or_assoc}
use Rattle.std.proofs.lemmas.Iterator.{YieldsList}
use Rattle.std.proofs.lemmas.Iterator.Consumers.{YieldsList-turn, YieldsList-end}
use Rattle.std.proofs.lemmas.Iterator.Splits.{YieldsList-from_slice_split}
use Rattle.std.proofs.lemmas.List.{map-append}
use Rattle.mv_base.specs.Set.{has, empty, one, join}
use Rattle.mv_base.proofs.Sets.{has-join, has-empty, same_set, join_empty}
use Rattle.mv_step.specs.Sets.{is_comma, value_said, with_value, values_said}

join-assoc : (a b c : ℕ) → join a (join b c) ≡ join (join a b) c
join-assoc a b c =
    same_set _ _
    (λ v. has-join a (join b c) v ∙ ap (λ t. has a v || t) (has-join b c v) ∙ sym (or_assoc (has a v) (has b v) (has c v))
    ∙ ap (λ t. t || has c v) (sym (has-join a b v)) ∙ sym (has-join (join a b) c v))

pub join-empty : (a : ℕ) → join a empty ≡ a
join-empty a = same_set _ _ (λ v. has-join a empty v ∙ ap (λ t. has a v || t) (has-empty v) ∙ or-false (has a v))

-- the union of two sets, if there are both
abbrev both : Option ℕ → Option ℕ → Option ℕ
both None t = None
both (Some a) None = None
both (Some a) (Some b) = Some (join a b)

with_value-both : (v s t : Option ℕ) → with_value v (both s t) ≡ both (with_value v s) t
with_value-both None s t = refl
with_value-both (Some v) None t = refl
with_value-both (Some v) (Some a) None = refl
with_value-both (Some v) (Some a) (Some b) = ap Some (join-assoc (one v) a b)

both-empty : (t : Option ℕ) → t ≡ both (Some empty) t
both-empty None = refl
both-empty (Some b) = ap Some (sym (join_empty b))

values-append : (xs ys : List (List ℕ)) → values_said (xs ++ ys) ≡ both (values_said xs) (values_said ys)
values-append [] ys = both-empty (values_said ys)
values-append (x ∷ xs) ys =
    ap (with_value (value_said x)) (values-append xs ys) ∙ with_value-both (value_said x) (values_said xs) (values_said ys)

-- one value more
pub values-push : (ws : List (List ℕ)) (w : List ℕ) (set v : ℕ) → values_said ws ≡ Some set → value_said w ≡ Some v → values_said (ws ++ w ∷ []) ≡ Some (join set (one v))
values-push ws w set v h e =
    values-append ws (w ∷ []) ∙ ap (λ s. both s (with_value (value_said w) (Some empty))) h
    ∙ ap (λ t. both (Some set) (with_value t (Some empty))) e ∙ ap (λ s. Some (join set s)) (join-empty (one v))

-- a word alone
pub values-alone : (w : List ℕ) (v : ℕ) → value_said w ≡ Some v → values_said (w ∷ []) ≡ Some (one v)
values-alone w v e = ap (λ t. with_value t (Some empty)) e ∙ ap Some (join-empty (one v))

pub values-none : (w : List ℕ) → value_said w ≡ None → values_said (w ∷ []) ≡ None
values-none w e = ap (λ t. with_value t (Some empty)) e

with_value-none : (v : Option ℕ) → with_value v None ≡ None
with_value-none None = refl
with_value-none (Some v) = refl

-- a word that says no value
pub values-refused : (ws : List (List ℕ)) (n : ℕ) (d : List ℕ) → n < length ws → value_said (get_or ws n d) ≡ None → values_said ws ≡ None
values-refused [] n d low e = absurd (omega arith)
values-refused (w ∷ ws) zero d low e = ap (λ t. with_value t (values_said ws)) e
values-refused (w ∷ ws) (suc n) d low e =
    ap (with_value (value_said w)) (values-refused ws n d (omega arith) e) ∙ with_value-none (value_said w)

-- ---- words read in turn

-- the words that `split` gives
pub words_between : {F : Type 0} {s i : _} (g : Mut F (Bor ℕ × Unit {0}) Bool) {f : F} (bytes : List ℕ) → i ≡ s → split_rest s ≡ bytes → split_done s ≡ false → split_callee s ≡ f → ((x : ℕ) (b : Bool) (q : F) → CalledAt g f x b q → (q ≡ f) × (b ≡ (x == 44))) → YieldsList (split_steps g) (λ w. w.now) i (slice_split is_comma bytes)
words_between g bytes same rest done callee closure =
    YieldsList-from_slice_split g is_comma bytes (ap split_rest same ∙ rest) (ap split_done same ∙ done) (ap split_callee same ∙ callee) closure

-- the next word says a value
pub values-next : {W : Type 0} (now : W → List ℕ) (read : List W) (w : W) (set v more : ℕ) → values_said (map now read) ≡ Some set → Some v ≡ value_said (now w) → more ≡ join set (one v) → values_said (map now (read ++ w ∷ [])) ≡ Some more
values-next now read w set v more h e m =
    ap values_said (map-append now read (w ∷ [])) ∙ values-push (map now read) (now w) set v h (sym e) ∙ ap Some (sym m)

-- the next one says none
pub values-stop : {S W : Type 0} {steps : S → Option W → S → Type 0} {now : W → List ℕ} {s : S} {all : List (List ℕ)} (read : List W) (t : S) (r : Option W) (u : S) (w : W) → Yields steps s read t → steps t r u → r ≡ Some w → None ≡ value_said (now w) → YieldsList steps now s all → values_said all ≡ None
values-stop {all = all} read t r u w y next is e road =
    let turn = YieldsList-turn road read t y r u w is next in
    values-refused all (length read) _ turn.0 (ap value_said (sym turn.1) ∙ sym e)

-- there is no next one
pub values-whole : {S W : Type 0} {steps : S → Option W → S → Type 0} {now : W → List ℕ} {s : S} {all : List (List ℕ)} (read : List W) (t : S) (r : Option W) (u : S) (set : ℕ) → values_said (map now read) ≡ Some set → Yields steps s read t → steps t r u → r ≡ None → YieldsList steps now s all → values_said all ≡ Some set
values-whole read t r u set h y next is road =
    sym (ap values_said (YieldsList-end road read t y r u is next).0) ∙ h
