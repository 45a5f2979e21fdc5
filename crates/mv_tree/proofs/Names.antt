-- Names of the whole are lawful: a lawful name with the names of instances before it, each with a full stop behind.
use Rattle.std.proofs.Common.{◌≡◌, ℕ, suc, ◌-◌, ◌<◌, Bool, true, false, not, ◌&&◌, ◌||◌, List, [], ◌∷◌, ◌++◌, length, codes, refl, sym, ◌∙◌, ap, arith, append_assoc}
use Rattle.std.specs.Prelude.{nat_lt, ◌==◌, slice_index}
use Rattle.std.specs.List.{list_all, list_any}
use Rattle.std.proofs.lemmas.Bool.{false≢true, false_from_ne_true, and_from, and_parts, not-true, not_from_false, or_from, or_parts, or_right, and_right}
use Rattle.std.proofs.lemmas.Bool.Decides.{nat_tests}
use Rattle.std.proofs.lemmas.List.{get_or-append_right, length-append}
use Rattle.std.proofs.lemmas.List.Folds.{list_all-append, list_any-append}
use Rattle.mv_base.specs.Names.{same_word, is_visible, is_bracketed, begins_with, ends_with, is_word, is_net_name, is_model_name}
use Rattle.mv_base.proofs.NameLemmas.{same_word_is}
use Rattle.mv_tree.specs.Places.{path_in}

-- the tests of a lawful name, one by one
record IsName (w : List ℕ) : Type 0 where
  some : nat_lt 0 (length w) ≡ true
  visible : list_all (λ b. is_visible b && not (b == 35)) w ≡ true
  unbracketed : is_bracketed w ≡ false
  arrow : same_word w (codes "->") ≡ false
  begin : begins_with 46 w ≡ false
  comma : list_any (λ b. b == 44) w ≡ false
  end : ends_with 92 w ≡ false

abbrev bytes_ok : List ℕ → Bool
bytes_ok w = list_all (λ b. is_visible b && not (b == 35)) w

abbrev has_comma : List ℕ → Bool
has_comma w = list_any (λ b. b == 44) w

is_name : (w : List ℕ) → is_net_name w ≡ true → IsName w
unfolding is_net_name is_word
is_name w e =
    let e1 = and_parts (is_word w && not (same_word w (codes "->")) && not (begins_with 46 w) && not (has_comma w)) (not (ends_with 92 w)) e in
    let e2 = and_parts (is_word w && not (same_word w (codes "->")) && not (begins_with 46 w)) (not (has_comma w)) e1.0 in
    let e3 = and_parts (is_word w && not (same_word w (codes "->"))) (not (begins_with 46 w)) e2.0 in
    let e4 = and_parts (is_word w) (not (same_word w (codes "->"))) e3.0 in
    let e5 = and_parts (nat_lt 0 (length w) && bytes_ok w) (not (is_bracketed w)) e4.0 in
    let e6 = and_parts (nat_lt 0 (length w)) (bytes_ok w) e5.0 in
    record {
      some = e6.0;
      visible = e6.1;
      unbracketed = not-true _ e5.1;
      arrow = not-true _ e4.1;
      begin = not-true _ e3.1;
      comma = not-true _ e2.1;
      end = not-true _ e1.1;
    }

name-from : (w : List ℕ) → IsName w → is_net_name w ≡ true
unfolding is_net_name is_word
name-from w n =
    and_from _ _
    (and_from _ _
    (and_from _ _
    (and_from _ _ (and_from _ _ (and_from _ _ n.some n.visible) (not_from_false _ n.unbracketed)) (not_from_false _ n.arrow))
    (not_from_false _ n.begin))
    (not_from_false _ n.comma))
    (not_from_false _ n.end)

-- ---- two names with a full stop between them

some_more : (xs ys : List ℕ) → nat_lt 0 (length xs) ≡ true → nat_lt 0 (length (xs ++ ys)) ≡ true
some_more xs ys e = let l = length-append xs ys in grind (arith, nat_tests)

-- the last byte is that of what stands behind
last_behind : (xs ys : List ℕ) → nat_lt 0 (length ys) ≡ true → slice_index (xs ++ ys) (length (xs ++ ys) - 1) ≡ slice_index ys (length ys - 1)
last_behind xs ys e =
    let l = length-append xs ys in
    let some : 0 < length ys = lt_of (length ys) e in
    let same : length (xs ++ ys) - 1 - length xs ≡ length ys - 1 = omega (arith, l, some) in
    get_or-append_right xs ys (length xs) (length (xs ++ ys) - 1) 0 refl (omega (arith, l, some)) ∙ ap (slice_index ys) same
  where
    lt_of : (n : ℕ) → nat_lt 0 n ≡ true → 0 < n
    lt_of n h = grind (arith, nat_tests)

still_false : (c p q : Bool) → (p ≡ false → q ≡ false) → (c && p) ≡ false → (c && q) ≡ false
still_false true p q h f = h f
still_false false p q h f = refl

and_behind : (p q : Bool) → p ≡ true → (p && q) ≡ false → q ≡ false
and_behind true q e f = f
and_behind false q e f = absurd (false≢true e)

-- what stands behind a full stop leaves a word without brackets
unbracketed_more : (i n : List ℕ) → is_bracketed i ≡ false → is_bracketed (i ++ 46 ∷ n) ≡ false
unbracketed_more [] n e = refl
unbracketed_more (b ∷ bs) n e =
    let p = or_parts ((b == 40) || (b == 123)) ((b == 33) && is_bracketed bs) e in
    or_from _ _ p.0 (still_false (b == 33) _ _ (unbracketed_more bs n) p.1)

has_stop : (i n : List ℕ) → list_any (λ b. b == 46) (i ++ 46 ∷ n) ≡ true
has_stop i n = list_any-append (λ b. b == 46) i (46 ∷ n) ∙ or_right (list_any (λ b. b == 46) i) true refl

some_byte : (k : ℕ) → nat_lt 0 (suc k) ≡ true
some_byte k = grind (arith, nat_tests)

begin_kept : (i n : List ℕ) → nat_lt 0 (length i) ≡ true → begins_with 46 i ≡ false → begins_with 46 (i ++ n) ≡ false
begin_kept [] n e f = absurd (false≢true e)
begin_kept (b ∷ bs) n e f = and_right _ _ (and_behind (nat_lt 0 (length (b ∷ bs))) (b == 46) (some_byte (length bs)) f)

end_kept : (i n : List ℕ) → nat_lt 0 (length n) ≡ true → ends_with 92 n ≡ false → ends_with 92 (i ++ n) ≡ false
end_kept i n e f = and_right _ _ (ap (λ b. b == 92) (last_behind i n e) ∙ and_behind (nat_lt 0 (length n)) (slice_index n (length n - 1) == 92) e f)

dotted : (i n : List ℕ) → IsName i → IsName n → IsName (i ++ 46 ∷ n)
dotted i n a b = record {
  some = some_more i (46 ∷ n) a.some;
  visible = list_all-append (λ c. is_visible c && not (c == 35)) i (46 ∷ n) ∙ and_from (bytes_ok i) (bytes_ok (46 ∷ n)) a.visible b.visible;
  unbracketed = unbracketed_more i n a.unbracketed;
  arrow = false_from_ne_true _ (λ e. false≢true (ap (list_any (λ c. c == 46)) (sym (same_word_is (i ++ 46 ∷ n) (codes "->") e)) ∙ has_stop i n));
  begin = begin_kept i (46 ∷ n) a.some a.begin;
  comma = list_any-append (λ c. c == 44) i (46 ∷ n) ∙ or_from (has_comma i) (has_comma (46 ∷ n)) a.comma b.comma;
  end = ap (ends_with 92) (sym (append_assoc i (46 ∷ []) n)) ∙ end_kept (i ++ 46 ∷ []) n b.some b.end;
}

pub name_dotted : (i n : List ℕ) → is_model_name i ≡ true → is_net_name n ≡ true → is_net_name (i ++ 46 ∷ n) ≡ true
unfolding is_model_name
name_dotted i n e f = name-from (i ++ 46 ∷ n) (dotted i n (is_name i (and_parts (is_net_name i) _ e).0) (is_name n f))

-- what may stand before a lawful name
pub record IsPath (path : List ℕ) : Type 0 where
  pub before : (net : List ℕ) → is_net_name net ≡ true → is_net_name (path ++ net) ≡ true

pub no_path : IsPath []
no_path = record { before = λ net e. e }

pub path_inside : (path instance : List ℕ) → IsPath path → is_model_name instance ≡ true → IsPath (path_in path instance)
path_inside path instance h e =
    record {
      before = λ net lawful.
          ap is_net_name (append_assoc path (instance ++ 46 ∷ []) net ∙ ap (λ ns. path ++ ns) (append_assoc instance (46 ∷ []) net))
          ∙ h.before (instance ++ 46 ∷ net) (name_dotted instance net e lawful);
    }
