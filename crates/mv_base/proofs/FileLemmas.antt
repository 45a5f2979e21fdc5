-- Files that tell what they hold: what each way out of a call says of them.
use Rattle.std.proofs.Common.{◌≡◌, ℕ, ◌+◌, ◌-◌, ◌<◌, ◌≤◌, Bool, true, false, ◌&&◌, List, [], ◌∷◌, ◌++◌, length, take, drop, get_or, map, Option, Some, None, Ok, Err, min, refl, sym, ◌∙◌, ap, arith, IsTrue, drop-cons, add-one}
use Rattle.std.proofs.lemmas.Bool.{false≢true}
use Rattle.std.proofs.lemmas.Bool.Decides.{nat_tests}
use Rattle.std.proofs.lemmas.List.{drop-drop, drop_all, take-append-le, take-append-drop, take_all, length-take-le, length-drop, get_or-map}
use Rattle.std.specs.Prelude.{nat_lt, ◌==◌}
use Rattle.std.specs.List.{list_any, list_all}
use Rattle.std.specs.declared.string.String.{String}
use Rattle.std.specs.declared.vec.Vec.{Vec}
use Rattle.std.specs.declared.alloc.Global.{Global}
use Rattle.mv_base.specs.declared.outside.Failed.{Failed}
use Rattle.mv_base.specs.Names.{same_word}
use Rattle.mv_base.specs.Outside.{Held, Begins, Continues, file_named}
use Rattle.mv_base.specs.Entries.{entry_of, file_at, IsFirstNamed}
use Rattle.mv_base.proofs.NameLemmas.{same_word_is}

-- ---- a start

-- it failed, which sound files do only where none has the name
pub begins_failed : (h : Held) (sound : Bool) (name : List ℕ) (e : Failed) → (IsTrue h.sound → file_named name h.files ≡ None) → (IsTrue h.sound → IsTrue sound) → Begins h (record h { sound = sound }) name (Err e)
begins_failed h sound name e missing still = record { files = refl; begun = tt; only = missing; sound = still }

-- the file with this content is begun
pub begins_file : (h : Held) (sound : Bool) (current : Option (List ℕ)) (name content : List ℕ) → current ≡ Some name → file_named name h.files ≡ Some content → (IsTrue h.sound → IsTrue sound) → Begins h (record h { current = current; rest = content; sound = sound }) name (Ok tt)
begins_file h sound current name content named found still = record { files = refl; begun = (named, found); only = λ _. tt; sound = still }

-- ---- the next bytes

-- the call failed, which sound files do not do
pub continues_failed : (h : Held) (sound : Bool) (room : List ℕ) (e : Failed) → (IsTrue h.sound → ⊥) → Continues h (record h { sound = sound }) room (Err e)
continues_failed h sound room e unsound =
    record { files = refl; current = refl; given = tt; ended = tt; only = λ s. absurd (unsound s); sound = λ s. absurd (unsound s) }

-- n bytes went into the room
pub continues_with : (h : Held) (sound : Bool) (room rest : List ℕ) (n : ℕ) → h.rest ≡ take n room ++ rest → (n ≡ 0 → 0 < length room → h.rest ≡ []) → (IsTrue h.sound → IsTrue sound) → Continues h (record h { rest = rest; sound = sound }) room (Ok n)
continues_with h sound room rest n given ended still =
    record { files = refl; current = refl; given = given; ended = ended; only = λ _. refl; sound = still }

-- ---- listed calls

both_true : (p q : Bool) → (p && q) ≡ true → (p ≡ true) × (q ≡ true)
both_true true q e = (refl, e)
both_true false q e = absurd (false≢true e)

and_true : (p q : Bool) → p ≡ true → q ≡ true → (p && q) ≡ true
and_true p q e f = rw (e, f) refl

later : (n c d : ℕ) → c ≤ d → nat_lt n c ≡ true → nat_lt n d ≡ true
later n c d le e = grind (arith, nat_tests)

-- what was behind a call stays behind the later ones
pub still_sound : (fails : List ℕ) (c d : ℕ) → c ≤ d → list_all (λ n. nat_lt n c) fails ≡ true → list_all (λ n. nat_lt n d) fails ≡ true
still_sound [] c d le e = refl
still_sound (n ∷ fails) c d le e =
    let p = both_true (nat_lt n c) (list_all (λ n. nat_lt n c) fails) e in
    and_true _ _ (later n c d le p.0) (still_sound fails c d le p.1)

not_here : (n c : ℕ) → nat_lt n c ≡ true → (n == c) ≡ false
not_here n c e = grind (arith, nat_tests)

behind_us : (fails : List ℕ) (c : ℕ) → list_all (λ n. nat_lt n c) fails ≡ true → list_any (λ n. n == c) fails ≡ false
behind_us [] c e = refl
behind_us (n ∷ fails) c e =
    let p = both_true (nat_lt n c) (list_all (λ n. nat_lt n c) fails) e in
    rw (not_here n c p.0) (behind_us fails c p.1)

-- a call isn't listed where every listed one is behind it
pub not_listed : (fails : List ℕ) (c : ℕ) → list_any (λ n. n == c) fails ≡ true → list_all (λ n. nat_lt n c) fails ≡ true → ⊥
not_listed fails c listed sound = false≢true (sym (behind_us fails c sound) ∙ listed)

-- ---- files by place

-- what is read at a place is the file there
pub entry_read : (files : List (String Global × Vec ℕ Global)) (place : ℕ) (file : String Global × Vec ℕ Global) → place < length files → file ≡ get_or files place file → file_at (map entry_of files) place ≡ entry_of file
entry_read files place file within e = get_or-map entry_of files place file ([], []) within ∙ ap entry_of (sym e)

pub named_behind : (name : List ℕ) (files : List (List ℕ × List ℕ)) (place : ℕ) → place < length files → same_word name (file_at files place).0 ≡ false → file_named name (drop (place + 1) files) ≡ file_named name (drop place files)
named_behind name files place within other =
    rw (add-one, drop-cons files place ([], []) within, other) refl

pub IsFirstNamed-here : (name : List ℕ) (files : List (List ℕ × List ℕ)) (place : ℕ) → place < length files → same_word name (file_at files place).0 ≡ true → file_named name (drop place files) ≡ file_named name files → IsFirstNamed name files place
IsFirstNamed-here name files place within same none_before =
    record { within = within; name_is = sym (same_word_is name _ same); content = sym none_before ∙ rw (drop-cons files place ([], []) within, same) refl }

-- ---- a piece of a content

-- what was read and what is left are what was left before
pub piece_read : (content room got : List ℕ) (at n : ℕ) → n ≤ length content - at → got ≡ take n (drop at content) ++ room → drop at content ≡ take n got ++ drop (at + n) content
piece_read content room got at n fits e =
    let left = drop at content in
    let enough : n ≤ length left = simp length-drop fits in
    let long : n ≤ length (take n left) = rw (length-take-le n left enough) (omega arith) in
    let whole : take n left ++ drop n left ≡ left = take-append-drop n left in
    rw (e, take-append-le n (take n left) room long, take_all n (take n left) (rw (length-take-le n left enough) (omega arith)), ← drop-drop n at content) (sym whole)

-- nothing is left where nothing was read into some room
pub piece_ended : (content room : List ℕ) (at n : ℕ) → n ≡ min (length room) (length content - at) → n ≡ 0 → 0 < length room → drop at content ≡ []
piece_ended content room at n e none some = drop_all at content (omega arith)
