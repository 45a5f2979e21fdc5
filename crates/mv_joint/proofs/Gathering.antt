-- Rows that are gathered one after the other: their distinct rows of outputs only grow.
use Rattle.std.proofs.Common.{◌≡◌, ℕ, ◌<◌, ◌≤◌, true, false, not, List, [], ◌∷◌, ◌++◌, length, map, refl, sym, ◌∙◌, ap, subst, arith, append_assoc, append-nil, length-append, inl, inr, ◌+◌, take}
use Rattle.std.specs.List.{list_any}
use Rattle.std.proofs.lemmas.Bool.{cases_Bool, cond_both, cond-false, cond-true}
use Rattle.std.proofs.Math.Seq.{take-append_seam, take-length}
use Rattle.std.proofs.lemmas.List.{map-append}
use Rattle.std.proofs.lemmas.List.Elements.{filter-append}
use Rattle.indexmap.specs.IndexSet.{insert_key, insert_all}
use Rattle.mv_base.specs.declared.limits.TheConstants.{MAX_JOINT_ROWS}
use Rattle.mv_joint.specs.declared.split.PlainRow.{PlainRow}
use Rattle.mv_joint.specs.declared.gather.Gathered.{Gathered}
use Rattle.mv_joint.specs.declared.joint.JointStop.{JointStop}
use Rattle.mv_joint.specs.declared.joint.JointStop.TheVariants.{Wide, Memory}
use Rattle.mv_joint.specs.OutRows.{same_outs}
use Rattle.mv_joint.specs.Plain.{is_silent, said}
use Rattle.mv_joint.specs.Gather.{joined, IsGathered, Gathers, StopsOver, StopsRows}
use Rattle.mv_joint.proofs.Lists.{inserted_append}

-- the rows of outputs of the rows that say some values of each output
abbrev pub said_outs : List PlainRow → List (List ℕ)
said_outs rows = map (λ (r : PlainRow). r.outs) (said rows)

said_outs-append : (a b : List PlainRow) → said_outs (a ++ b) ≡ said_outs a ++ said_outs b
said_outs-append a b =
    ap (map (λ (r : PlainRow). r.outs)) (filter-append (λ (r : PlainRow). not (is_silent r)) a b) ∙ map-append (λ (r : PlainRow). r.outs) (said a) (said b)

joined-append : (keys : List (List ℕ)) (a b : List PlainRow) → joined keys (a ++ b) ≡ joined (joined keys a) b
joined-append keys a b = ap (insert_all same_outs keys) (said_outs-append a b) ∙ inserted_append keys (said_outs a) (said_outs b)

pub said-said : (rows : List PlainRow) → said (said rows) ≡ said rows
said-said [] = refl
said-said (r ∷ rows) =
    elim (cases_Bool (is_silent r)) [
      | inl silent ↦ rw silent (said-said rows)
      | inr says ↦ rw says (rw says (ap (λ (rs : List PlainRow). r ∷ rs) (said-said rows)))
    ]

pub joined-said : (keys : List (List ℕ)) (rows : List PlainRow) → joined keys (said rows) ≡ joined keys rows
joined-said keys rows = ap (λ (rs : List PlainRow). insert_all same_outs keys (map (λ (r : PlainRow). r.outs) rs)) (said-said rows)

key_grows : (keys : List (List ℕ)) (x : List ℕ) → length keys ≤ length (insert_key same_outs keys x)
key_grows keys x =
    cond_both (list_any (same_outs x) keys) keys (keys ++ x ∷ []) (λ (ks : List (List ℕ)). length keys ≤ length ks)
    (λ _. omega arith)
    (λ _. omega (arith, length-append keys (x ∷ [])))

pub keys_grow : (keys xs : List (List ℕ)) → length keys ≤ length (insert_all same_outs keys xs)
keys_grow keys [] = omega arith
keys_grow keys (x ∷ xs) = omega (arith, key_grows keys x, keys_grow (insert_key same_outs keys x) xs)

-- ---- one row

pub joined_silent : (keys : List (List ℕ)) (r : PlainRow) → is_silent r ≡ true → joined keys (r ∷ []) ≡ keys
joined_silent keys r h = rw h refl

pub joined_said : (keys : List (List ℕ)) (r : PlainRow) → is_silent r ≡ false → joined keys (r ∷ []) ≡ insert_key same_outs keys r.outs
joined_said keys r h = rw h refl

pub count_silent : (keys : List (List ℕ)) (r : PlainRow) → is_silent r ≡ true → length keys ≡ length (joined keys (r ∷ []))
count_silent keys r h = ap length (sym (joined_silent keys r h))

pub count_old : (keys : List (List ℕ)) (r : PlainRow) → is_silent r ≡ false → list_any (same_outs r.outs) keys ≡ true → length keys ≡ length (joined keys (r ∷ []))
count_old keys r h old = ap length (sym (joined_said keys r h ∙ cond-true (list_any (same_outs r.outs) keys) keys (keys ++ r.outs ∷ []) old))

pub count_new : (keys : List (List ℕ)) (r : PlainRow) → is_silent r ≡ false → list_any (same_outs r.outs) keys ≡ false → length keys + 1 ≡ length (joined keys (r ∷ []))
count_new keys r h new =
    sym (ap length (joined_said keys r h ∙ cond-false (list_any (same_outs r.outs) keys) keys (keys ++ r.outs ∷ []) new) ∙ length-append keys (r.outs ∷ []))

-- the distinct rows of outputs from before stand in front
front_said : (keys : List (List ℕ)) (x : List ℕ) → take (length keys) (insert_key same_outs keys x) ≡ keys
front_said keys x =
    cond_both (list_any (same_outs x) keys) keys (keys ++ x ∷ []) (λ (ks : List (List ℕ)). take (length keys) ks ≡ keys)
    (λ _. take-length keys)
    (λ _. take-append_seam keys (x ∷ []))

pub front_joined : (keys : List (List ℕ)) (r : PlainRow) → take (length keys) (joined keys (r ∷ [])) ≡ keys
front_joined keys r =
    elim (cases_Bool (is_silent r)) [
      | inl silent ↦ ap (take (length keys)) (joined_silent keys r silent) ∙ take-length keys
      | inr says ↦ ap (take (length keys)) (joined_said keys r says) ∙ front_said keys r.outs
    ]

-- ---- some rows and some more

pub gathers_none : (g : Gathered) → Gathers [] g g
gathers_none g = record { rows = sym (append-nil g.rows); outs = refl }

pub gathers_kept : (x y : Gathered) → y.rows ≡ x.rows → y.outs.keys ≡ x.outs.keys → Gathers [] x y
gathers_kept x y rows keys = record { rows = rows ∙ sym (append-nil x.rows); outs = keys }

-- where a row's outputs are taken back
pub taken_back : (x y : Gathered) (r : PlainRow) (count : ℕ) (after : List (List ℕ)) → y.rows ≡ x.rows → after ≡ joined x.outs.keys (r ∷ [])
    → count ≡ length x.outs.keys → y.outs.keys ≡ take count after → Gathers [] x y
taken_back x y r count after rows joins counts back =
    gathers_kept x y rows (back ∙ ((λ i. take (counts i) (joins i)) ∙ front_joined x.outs.keys r))

pub gathers_more : (a b : List PlainRow) (x y z : Gathered) → Gathers a x y → Gathers b y z → Gathers (a ++ b) x z
gathers_more a b x y z p q = record {
  rows = q.rows ∙ (ap (λ (rs : List PlainRow). rs ++ b) p.rows ∙ append_assoc x.rows a b);
  outs = q.outs ∙ (ap (λ (ks : List (List ℕ)). joined ks b) p.outs ∙ sym (joined-append x.outs.keys a b));
}

pub wide_by : (a b : List (List ℕ)) → a ≡ b → MAX_JOINT_ROWS < length a → MAX_JOINT_ROWS < length b
wide_by a b e h = subst (λ (ks : List (List ℕ)). MAX_JOINT_ROWS < length ks) e h

pub wide_grows : (keys xs : List (List ℕ)) → MAX_JOINT_ROWS < length keys → MAX_JOINT_ROWS < length (insert_all same_outs keys xs)
wide_grows keys xs h = omega (arith, h, keys_grow keys xs)

pub stops_more : (a b : List PlainRow) (x y : Gathered) (stop : JointStop) → Gathers a x y → StopsOver b y stop → StopsOver (a ++ b) x stop
stops_more a b x y Wide p h = wide_by _ _ (ap (λ (ks : List (List ℕ)). joined ks b) p.outs ∙ sym (joined-append x.outs.keys a b)) h
stops_more a b x y Memory p h = tt

pub stops_early : (a b : List PlainRow) (x : Gathered) (stop : JointStop) → StopsOver a x stop → StopsOver (a ++ b) x stop
stops_early a b x Wide h = wide_by _ _ (sym (joined-append x.outs.keys a b)) (wide_grows (joined x.outs.keys a) (said_outs b) h)
stops_early a b x Memory h = tt

-- ---- from the first row on

pub gathered_more : (a b : List PlainRow) (x y : Gathered) → IsGathered a x → Gathers b x y → IsGathered (a ++ b) y
gathered_more a b x y p q = record {
  rows = q.rows ∙ ap (λ (rs : List PlainRow). rs ++ b) p.rows;
  outs = q.outs ∙ (ap (λ (ks : List (List ℕ)). joined ks b) p.outs ∙ sym (joined-append [] a b));
}

pub stops_at : (a b c : List PlainRow) (x : Gathered) (stop : JointStop) → IsGathered a x → StopsOver b x stop → StopsRows ((a ++ b) ++ c) stop
stops_at a b c x Wide p h =
    wide_by _ _ (sym (joined-append [] (a ++ b) c))
    (wide_grows (joined [] (a ++ b)) (said_outs c) (wide_by _ _ (ap (λ (ks : List (List ℕ)). joined ks b) p.outs ∙ sym (joined-append [] a b)) h))
stops_at a b c x Memory p h = tt
