-- The names of a network's nets: what a map of them says, and what it says where a net comes, goes or keeps its name.
use Rattle.std.proofs.Common.{◌≡◌, ◌∙◌, ℕ, ◌+◌, ◌<◌, ◌≤◌, true, false, Bool, cond, if◌then◌else◌, List, [], ◌∷◌, ◌++◌, length, get_or, take, Option, Some, None, refl, sym, ap, subst, ⊎_elim, arith, nat_eq}
use Rattle.std.specs.Cmp.Lexicographic.{pointwise}
use Rattle.std.specs.Map.{lookup}
use Rattle.std.specs.Option.{option_map, option_or}
use Rattle.std.specs.declared.vec.Vec.{Vec}
use Rattle.std.specs.declared.alloc.Global.{Global}
use Rattle.std.proofs.lemmas.Bool.{cases_Bool, cases_lt, cases_eq, false≢true}
use Rattle.std.proofs.lemmas.List.{append-nil, get_or_default, get_or_past, get_or-take, length-take}
use Rattle.indexmap.specs.IndexMap.{insert_entry}
use Rattle.mv_base.specs.Names.{same_word}
use Rattle.mv_base.proofs.NameLemmas.{same_word_is, same_word_refl}
use Rattle.mv_net.specs.declared.parts.FlatNet.{FlatNet}
use Rattle.mv_net.specs.Nets.{slot}
use Rattle.mv_net.specs.Index.{HasName}
use Rattle.mv_net.specs.Names.{number_of, named_at, is_named, IsFresh, AreNamed, AreNames, pair_of, pairs_of}
use Rattle.mv_net.proofs.Patches.{IsWritten}

-- ---- the map

pub lookup-number : (es : List (Vec ℕ Global × ℕ)) (w : List ℕ) → lookup (λ (k : Vec ℕ Global). pointwise nat_eq w k.items) es ≡ number_of (pairs_of es) w
lookup-number [] w = refl
lookup-number (e ∷ es) w = ap (λ o. cond (same_word w e.0.items) (Some e.1) o) (lookup-number es w)

pub entries-insert : (es : List (Vec ℕ Global × ℕ)) (k : Vec ℕ Global) (v : ℕ) → number_of (pairs_of es) k.items ≡ None → pairs_of (insert_entry (λ (a b : Vec ℕ Global). pointwise nat_eq a.items b.items) es k v) ≡ pairs_of es ++ (k.items, v) ∷ []
entries-insert [] k v new = refl
entries-insert (e ∷ es) k v new =
    ⊎_elim
    (λ (y : same_word k.items e.0.items ≡ true). let bad : Some e.1 ≡ None = rw y at new in cc)
    (λ (f : same_word k.items e.0.items ≡ false). rw f (ap (λ l. pair_of e ∷ l) (entries-insert es k v (rw f at new))))
    (cases_Bool (same_word k.items e.0.items))

-- a name that leads to a number is that of a key
record HasKey (w : List ℕ) : Type 0 where
  key : Vec ℕ Global
  is : key.items ≡ w

key_of : (es : List (Vec ℕ Global × ℕ)) (w : List ℕ) (n : ℕ) → number_of (pairs_of es) w ≡ Some n → HasKey w
key_of [] w n h = absurd (let bad : None ≡ Some n = h in cc)
key_of (e ∷ es) w n h =
    ⊎_elim
    (λ (y : same_word w e.0.items ≡ true). record { key = e.0; is = sym (same_word_is w e.0.items y) })
    (λ (f : same_word w e.0.items ≡ false). key_of es w n (rw f at h))
    (cases_Bool (same_word w e.0.items))

none_either : (b : Bool) (o : Option ℕ) → o ≡ None → cond b None o ≡ None
none_either true o e = refl
none_either false o e = e

-- a map of which one key was taken out says nothing of it, and of other names what it said
pub number_of-removed : (old new : List (Vec ℕ Global × ℕ)) (name : List ℕ) → ((q : Vec ℕ Global) → lookup (λ (k : Vec ℕ Global). pointwise nat_eq q.items k.items) new ≡ cond (same_word name q.items) None (lookup (λ (k : Vec ℕ Global). pointwise nat_eq q.items k.items) old))
    → (w : List ℕ) → number_of (pairs_of new) w ≡ cond (same_word name w) None (number_of (pairs_of old) w)
number_of-removed old new name at w = by (number_of (pairs_of new) w) (number_of (pairs_of old) w) refl refl
  where
    at_key : HasKey w → number_of (pairs_of new) w ≡ cond (same_word name w) None (number_of (pairs_of old) w)
    at_key k =
        let P : List ℕ → Type 0 = λ v. number_of (pairs_of new) v ≡ cond (same_word name v) None (number_of (pairs_of old) v) in
        let q = k.key in
        subst P k.is (sym (lookup-number new q.items) ∙ (at q ∙ ap (cond (same_word name q.items) None) (lookup-number old q.items)))

    by : (a b : Option ℕ) → number_of (pairs_of new) w ≡ a → number_of (pairs_of old) w ≡ b → number_of (pairs_of new) w ≡ cond (same_word name w) None (number_of (pairs_of old) w)
    by (Some n) b e h = at_key (key_of new w n e)
    by None (Some n) e h = at_key (key_of old w n h)
    by None None e h = e ∙ sym (none_either (same_word name w) (number_of (pairs_of old) w) h)

-- ---- a held number is used

pub held_below : (nets : List (Option FlatNet)) (n : ℕ) (f : FlatNet) → slot nets n ≡ Some f → n < length nets
held_below nets n f e =
    ⊎_elim
    (λ (l : n < length nets). l)
    (λ (g : length nets ≤ n). let none : slot nets n ≡ None = get_or_past nets n None g in absurd cc)
    (cases_lt n (length nets))

-- ---- a net's name stays with it

pub HasName-moved : (old new : List (Option FlatNet)) (n : ℕ) (w : List ℕ) → slot new n ≡ slot old n → HasName old n w → HasName new n w
HasName-moved old new n w same h = record { net = h.net; held = same ∙ h.held; is = h.is }

-- the name of a net, if it is held
abbrev pub name_at : List (Option FlatNet) → ℕ → Option (List ℕ)
name_at nets n = option_map (λ (f : FlatNet). f.name) (slot nets n)

pub has_name : (nets : List (Option FlatNet)) (n : ℕ) (w : List ℕ) → name_at nets n ≡ Some w → HasName nets n w
has_name nets n w e = by (slot nets n) refl e
  where
    by : (f : Option FlatNet) → slot nets n ≡ f → option_map (λ (g : FlatNet). g.name) f ≡ Some w → HasName nets n w
    by None held is = absurd (let bad : None ≡ Some w = is in cc)
    by (Some f) held is = record { net = f; held = held; is = (let one : Some f.name ≡ Some w = is in cc) }

pub name_of : (nets : List (Option FlatNet)) (n : ℕ) (w : List ℕ) → HasName nets n w → name_at nets n ≡ Some w
name_of nets n w h = ap (option_map (λ (g : FlatNet). g.name)) h.held ∙ ap Some h.is

pub AreNames-kept : (old new : List (Option FlatNet)) (names : List (List ℕ × ℕ)) → ((n : ℕ) → name_at new n ≡ name_at old n) → AreNames old names → AreNames new names
AreNames-kept old new names same are = record {
  some = λ w n e. has_name new n w (same n ∙ name_of old n w (are.some w n e));
  found = λ w n h. are.found w n (has_name old n w (sym (same n) ∙ name_of new n w h));
}

-- ---- a net comes

-- another value stands behind both
pub or_behind : {V : Type 0} (b : Bool) (v : V) (all rest last : Option V) → all ≡ option_or rest last → (if b then Some v else all) ≡ option_or (if b then Some v else rest) last
or_behind true v all rest last e = refl
or_behind false v all rest last e = e

number_of-push : (es : List (List ℕ × ℕ)) (name : List ℕ) (n : ℕ) (w : List ℕ) → number_of (es ++ (name, n) ∷ []) w ≡ option_or (number_of es w) (cond (same_word w name) (Some n) None)
number_of-push [] name n w = refl
number_of-push (e ∷ es) name n w = or_behind (same_word w e.0) e.1 _ _ _ (number_of-push es name n w)

pub AreNames-none : AreNames [] []
AreNames-none = record {
  some = λ w n e. let bad : None ≡ Some n = e in absurd cc;
  found = λ w n h. let bad : None ≡ Some h.net = h.held in absurd cc;
}

module _ (nets new : List (Option FlatNet)) (n : ℕ) (names : List (List ℕ × ℕ)) where
  came : (g : FlatNet) → slot nets n ≡ None → IsWritten nets n (Some g) new → number_of names g.name ≡ None → AreNames nets names → AreNames new (names ++ (g.name, n) ∷ [])
  came g none put fresh are = record {
    some = λ w m e. led w m (number_of names w) refl (sym (number_of-push names g.name n w) ∙ e);
    found = λ w m h.
        number_of-push names g.name n w
        ∙ ⊎_elim
        (λ (y : m ≡ n). there w m y h)
        (λ (ne : m ≡ n → ⊥). ap (λ o. option_or o (cond (same_word w g.name) (Some n) None)) (are.found w m (HasName-moved new nets m w (sym (put.others m ne)) h)))
        (cases_eq m n);
  }
    where
      other : (m : ℕ) (w : List ℕ) → HasName nets m w → m ≡ n → ⊥
      other m w h y = let bad : None ≡ Some h.net = sym none ∙ (ap (slot nets) (sym y) ∙ h.held) in absurd cc

      led : (w : List ℕ) (m : ℕ) (o : Option ℕ) → number_of names w ≡ o → option_or (number_of names w) (cond (same_word w g.name) (Some n) None) ≡ Some m → HasName new m w
      led w m (Some k) at e =
          let one : Some k ≡ Some m = ap (λ o. option_or o (cond (same_word w g.name) (Some n) None)) (sym at) ∙ e in
          let same : k ≡ m = cc in
          let h = are.some w m (at ∙ ap Some same) in
          HasName-moved nets new m w (put.others m (other m w h)) h
      led w m None at e =
          ⊎_elim
          (λ (y : same_word w g.name ≡ true).
          let one : Some n ≡ Some m = ap (λ b. cond b (Some n) None) (sym y) ∙ (ap (λ o. option_or o (cond (same_word w g.name) (Some n) None)) (sym at) ∙ e) in
          let same : n ≡ m = cc in
          record { net = g; held = ap (slot new) (sym same) ∙ put.here; is = sym (same_word_is w g.name y) })
          (λ (f : same_word w g.name ≡ false).
          let bad : None ≡ Some m = ap (λ b. cond b (Some n) None) (sym f) ∙ (ap (λ o. option_or o (cond (same_word w g.name) (Some n) None)) (sym at) ∙ e) in
          absurd cc)
          (cases_Bool (same_word w g.name))

      there : (w : List ℕ) (m : ℕ) → m ≡ n → HasName new m w → option_or (number_of names w) (cond (same_word w g.name) (Some n) None) ≡ Some m
      there w m y h =
          let one : Some g ≡ Some h.net = sym put.here ∙ (ap (slot new) (sym y) ∙ h.held) in
          let same : g ≡ h.net = cc in
          let is : g.name ≡ w = ap (λ (f : FlatNet). f.name) same ∙ h.is in
          let hit : same_word w g.name ≡ true = ap (same_word w) is ∙ same_word_refl w in
          let no : number_of names w ≡ None = ap (number_of names) (sym is) ∙ fresh in
          ap (λ o. option_or o (cond (same_word w g.name) (Some n) None)) no ∙ (ap (λ b. cond b (Some n) None) hit ∙ ap Some (sym y))

  pub AreNames-with : (f : Option FlatNet) → slot nets n ≡ None → IsWritten nets n f new → IsFresh names f → AreNames nets names → AreNames new (names ++ named_at n f)
  AreNames-with None none put fresh are = subst (AreNames new) (sym (append-nil names)) (AreNames-kept nets new names same are)
    where
      same : (m : ℕ) → name_at new m ≡ name_at nets m
      same m =
          ⊎_elim
          (λ (y : m ≡ n). ap (name_at new) y ∙ (ap (option_map (λ (g : FlatNet). g.name)) (put.here ∙ sym none) ∙ ap (name_at nets) (sym y)))
          (λ (ne : m ≡ n → ⊥). ap (option_map (λ (g : FlatNet). g.name)) (put.others m ne))
          (cases_eq m n)
  AreNames-with (Some g) none put fresh are = came g none put fresh are

  -- ---- a net goes

  pub AreNames-without : (left : List (List ℕ × ℕ)) → IsWritten nets n None new → ((w : List ℕ) → number_of left w ≡ cond (is_named (slot nets n) w) None (number_of names w)) → AreNames nets names → AreNames new left
  AreNames-without left gone at are = record {
    some = λ w m e. ⊎_elim
        (λ (y : is_named (slot nets n) w ≡ true).
        let bad : None ≡ Some m = ap (λ b. cond b None (number_of names w)) (sym y) ∙ (sym (at w) ∙ e) in absurd cc)
        (λ (f : is_named (slot nets n) w ≡ false).
        let h = are.some w m (ap (λ b. cond b None (number_of names w)) (sym f) ∙ (sym (at w) ∙ e)) in
        HasName-moved nets new m w (gone.others m (λ y. unnamed w m f h y)) h)
        (cases_Bool (is_named (slot nets n) w));
    found = λ w m h.
        let ne : m ≡ n → ⊥ = λ y. let bad : None ≡ Some h.net = sym gone.here ∙ (ap (slot new) (sym y) ∙ h.held) in absurd cc in
        let was = HasName-moved new nets m w (sym (gone.others m ne)) h in
        let led = are.found w m was in
        at w ∙ ⊎_elim
        (λ (y : is_named (slot nets n) w ≡ true).
        let one : Some m ≡ Some n = sym led ∙ are.found w n (named w (slot nets n) refl y) in
        let same : m ≡ n = cc in
        absurd (ne same))
        (λ (f : is_named (slot nets n) w ≡ false). ap (λ b. cond b None (number_of names w)) f ∙ led)
        (cases_Bool (is_named (slot nets n) w));
  }
    where
      unnamed : (w : List ℕ) (m : ℕ) → is_named (slot nets n) w ≡ false → HasName nets m w → m ≡ n → ⊥
      unnamed w m f h y =
          let held : slot nets n ≡ Some h.net = ap (slot nets) (sym y) ∙ h.held in
          let hit : same_word h.net.name w ≡ true = ap (same_word h.net.name) (sym h.is) ∙ same_word_refl h.net.name in
          false≢true (sym f ∙ (ap (λ o. is_named o w) held ∙ hit))

      named : (w : List ℕ) (f : Option FlatNet) → slot nets n ≡ f → is_named f w ≡ true → HasName nets n w
      named w None held y = absurd (false≢true y)
      named w (Some f) held y = record { net = f; held = held; is = same_word_is f.name w y }

-- ---- the first nets of a list

-- as one more stands at the end of those, it is the one at its number
pub take-written : (nets : List (Option FlatNet)) (k : ℕ) → k < length nets → IsWritten (take k nets) k (slot nets k) (take (k + 1) nets)
take-written nets k low = record {
  here = get_or-take (k + 1) nets k None (omega arith);
  others = λ m ne.
      ⊎_elim
      (λ (l : m < k). get_or-take (k + 1) nets m None (omega arith) ∙ sym (get_or-take k nets m None l))
      (λ (g : k ≤ m). let far : k + 1 ≤ m = omega arith in
      get_or_past (take (k + 1) nets) m None (omega (arith, length-take (k + 1) nets)) ∙ sym (get_or_past (take k nets) m None (omega (arith, length-take k nets))))
      (cases_lt m k);
}

pub take-gone : (nets : List (Option FlatNet)) (k : ℕ) → k < length nets → IsWritten (take (k + 1) nets) k None (take k nets)
take-gone nets k low = record {
  here = get_or_past (take k nets) k None (omega (arith, length-take k nets));
  others = λ m ne. sym ((take-written nets k low).others m ne);
}

-- the next net's name is none of those before it
pub fresh_next : (nets : List (Option FlatNet)) (k : ℕ) (x : Option FlatNet) (names : List (List ℕ × ℕ)) → AreNamed nets → k < length nets → x ≡ get_or nets k x → AreNames (take k nets) names → IsFresh names x
fresh_next nets k None names named low is are = tt
fresh_next nets k (Some f) names named low is are = none (number_of names f.name) refl
  where
    here : slot nets k ≡ Some f
    here = get_or_default nets k None (Some f) low ∙ sym is

    none : (o : Option ℕ) → number_of names f.name ≡ o → o ≡ None
    none None e = refl
    none (Some n) e =
        let h = are.some f.name n e in
        let under : n < length (take k nets) = held_below (take k nets) n h.net h.held in
        let before : n < k = omega (arith, length-take k nets) in
        let held : slot nets n ≡ Some h.net = sym (get_or-take k nets n None before) ∙ h.held in
        let same : n ≡ k = named.apart n k h.net f held here h.is in
        absurd (omega arith)

-- names of one net more, and of one less
pub names_more : (nets : List (Option FlatNet)) (k : ℕ) (x : Option FlatNet) (names new : List (List ℕ × ℕ)) → AreNamed nets → k < length nets → x ≡ get_or nets k x → AreNames (take k nets) names → new ≡ names ++ named_at k x → AreNames (take (k + 1) nets) new
names_more nets k x names new named low is are e =
    let here : slot nets k ≡ x = get_or_default nets k None x low ∙ sym is in
    let P : Option FlatNet → Type 0 = λ f. IsWritten (take k nets) k f (take (k + 1) nets) in
    subst (AreNames (take (k + 1) nets)) (sym e)
    (AreNames-with (take k nets) (take (k + 1) nets) k names x (get_or_past (take k nets) k None (omega (arith, length-take k nets))) (subst P here (take-written nets k low)) (fresh_next nets k x names named low is are) are)

pub names_fewer : (nets : List (Option FlatNet)) (k : ℕ) (x : Option FlatNet) (names left : List (List ℕ × ℕ)) → k < length nets → x ≡ get_or nets k x → AreNames (take (k + 1) nets) names → ((w : List ℕ) → number_of left w ≡ cond (is_named x w) None (number_of names w)) → AreNames (take k nets) left
names_fewer nets k x names left low is are at =
    let here : slot (take (k + 1) nets) k ≡ x = get_or-take (k + 1) nets k None (omega arith) ∙ (get_or_default nets k None x low ∙ sym is) in
    AreNames-without (take (k + 1) nets) (take k nets) k names left (take-gone nets k low) (λ w. at w ∙ ap (λ f. cond (is_named f w) None (number_of names w)) (sym here)) are
