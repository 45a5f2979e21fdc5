-- The values of nets in a model with a net for each reset value: a lawful name has those that it had, and a reset net those of its
-- latch.
use Rattle.std.proofs.Common.{◌≡◌, ℕ, ◌<◌, true, false, ◌||◌, List, [], ◌∷◌, ◌++◌, length, get_or, map, refl, sym, ◌∙◌, ap, subst, arith, ⊎_elim, All}
use Rattle.std.specs.Prelude.{if◌then◌else◌}
use Rattle.std.proofs.lemmas.Bool.{false≢true, cases_Bool, cond-true, cond-false}
use Rattle.std.proofs.lemmas.List.{get_or-map, length-map}
use Rattle.std.proofs.lemmas.List.Elements.{All-head, All-tail, All-append, All-map}
use Rattle.mv_base.specs.Set.{full, Within}
use Rattle.mv_base.specs.Names.{same_word, among, is_word, is_net_name, is_value_name}
use Rattle.mv_base.proofs.NameLemmas.{same_word_is, same_word_sym}
use Rattle.mv_design.specs.declared.design.Decl.{Decl}
use Rattle.mv_design.specs.declared.design.FileModel.{FileModel}
use Rattle.mv_design.specs.declared.table.Entry.{Entry}
use Rattle.mv_design.specs.declared.table.Entry.TheVariants.{Set, Same}
use Rattle.mv_design.specs.declared.table.FileTable.{FileTable}
use Rattle.mv_design.specs.Nets.{output_of}
use Rattle.mv_design.specs.Proper.{FitSets, FitOutput, FitOutputs, IsSame, IsFileDecl}
use Rattle.mv_design.specs.Values.{two_values, values_of, count_of}
use Rattle.mv_acyclic.specs.Sound.{resets_named}
use Rattle.mv_resets.specs.NetModels.{HasLawfulValues}
use Rattle.mv_resets.specs.Resets.{reset_decl, reset_name, with_reset_nets}
use Rattle.mv_resets.proofs.Words.{other_name}

-- ---- the values of nets

-- no reset net has a lawful name
others_values : (w : List ℕ) (all : List Decl) (ts : List FileTable) → is_net_name w ≡ true → values_of (map (reset_decl all) ts) w ≡ two_values
others_values w all [] h = refl
others_values w all (t ∷ ts) h = cond-false _ _ _ (other_name w (output_of t) h) ∙ others_values w all ts h

lawful_values : (w : List ℕ) (ds all : List Decl) (ts : List FileTable) → is_net_name w ≡ true → values_of (ds ++ map (reset_decl all) ts) w ≡ values_of ds w
lawful_values w [] all ts h = others_values w all ts h
lawful_values w (d ∷ ds) all ts h = ap (λ vs. if same_word w d.net then d.values else vs) (lawful_values w ds all ts h)

-- a reset net has the values of its latch
latch_values : (v : List ℕ) (all : List Decl) (ts : List FileTable) → among v (map output_of ts) ≡ true
    → values_of (map (reset_decl all) ts) (reset_name v) ≡ values_of all v
latch_values v all [] h = absurd (false≢true h)
latch_values v all (t ∷ ts) h =
    ⊎_elim (λ (y : same_word v (output_of t) ≡ true). cond-true _ _ _ y ∙ ap (values_of all) (sym (same_word_is v (output_of t) y)))
    (λ (n : same_word v (output_of t) ≡ false). cond-false _ _ _ n ∙ latch_values v all ts (ap (λ b. b || among v (map output_of ts)) (sym n) ∙ h))
    (cases_Bool (same_word v (output_of t)))

reset_values : (v : List ℕ) (ds all : List Decl) (ts : List FileTable) → All IsFileDecl ds → among v (map output_of ts) ≡ true
    → values_of (ds ++ map (reset_decl all) ts) (reset_name v) ≡ values_of all v
reset_values v [] all ts lawful h = latch_values v all ts h
reset_values v (d ∷ ds) all ts lawful h =
    cond-false _ _ _ (same_word_sym (reset_name v) d.net ∙ other_name d.net v (All-head IsFileDecl d ds lawful).net)
    ∙ reset_values v ds all ts (All-tail IsFileDecl d ds lawful) h

pub values_kept : (m : FileModel) (w : List ℕ) → is_net_name w ≡ true → values_of (with_reset_nets m).decls w ≡ values_of m.decls w
unfolding with_reset_nets
values_kept m w h = lawful_values w m.decls m.decls m.resets h

pub values_of_reset : (m : FileModel) (v : List ℕ) → All IsFileDecl m.decls → among v (resets_named m) ≡ true
    → values_of (with_reset_nets m).decls (reset_name v) ≡ values_of m.decls v
unfolding with_reset_nets
values_of_reset m v lawful h = reset_values v m.decls m.decls m.resets lawful h

pub count_kept : (m : FileModel) (w : List ℕ) → is_net_name w ≡ true → count_of m.decls w ≡ count_of (with_reset_nets m).decls w
count_kept m w h = ap length (sym (values_kept m w h))

pub count_of_reset : (m : FileModel) (v : List ℕ) → All IsFileDecl m.decls → among v (resets_named m) ≡ true
    → count_of m.decls v ≡ count_of (with_reset_nets m).decls (reset_name v)
count_of_reset m v lawful h = ap length (sym (values_of_reset m v lawful h))

-- ---- declarations have lawful values

two_lawful : (net : List ℕ) → HasLawfulValues (record { net = net; values = two_values })
unfolding is_value_name is_net_name is_word
two_lawful net = record { some = omega arith; few = omega arith; lawful = refl; differ = refl }

file_lawful : (net : List ℕ) (d : Decl) → IsFileDecl d → HasLawfulValues (record { net = net; values = d.values })
file_lawful net d h = record { some = h.some; few = h.few; lawful = h.lawful; differ = h.differ }

net_lawful : (net w : List ℕ) (ds : List Decl) → All IsFileDecl ds → HasLawfulValues (record { net = net; values = values_of ds w })
net_lawful net w [] all = two_lawful net
net_lawful net w (d ∷ ds) all =
    let P : List (List ℕ) → Type 0 = λ vs. HasLawfulValues (record { net = net; values = vs }) in
    ⊎_elim (λ (y : same_word w d.net ≡ true). subst P (sym (cond-true _ _ _ y)) (file_lawful net d (All-head IsFileDecl d ds all)))
    (λ (n : same_word w d.net ≡ false). subst P (sym (cond-false _ _ _ n)) (net_lawful net w ds (All-tail IsFileDecl d ds all)))
    (cases_Bool (same_word w d.net))

pub decls_lawful : (m : FileModel) → All IsFileDecl m.decls → All HasLawfulValues (with_reset_nets m).decls
unfolding with_reset_nets
decls_lawful m all =
    All-append HasLawfulValues m.decls (map (reset_decl m.decls) m.resets) (λ k d l. file_lawful (get_or m.decls k d).net (get_or m.decls k d) (all k d l))
    (All-map HasLawfulValues (reset_decl m.decls) m.resets
    (λ k t l. net_lawful (reset_name (output_of (get_or m.resets k t))) (output_of (get_or m.resets k t)) m.decls all))

-- ---- what fits nets fits others with as many values

pub FitSets-alike : (ds es : List Decl) (us ws : List (List ℕ)) (sets : List ℕ) → map (count_of ds) us ≡ map (count_of es) ws → FitSets ds us sets
    → FitSets es ws sets
FitSets-alike ds es [] [] [] e f = tt
FitSets-alike ds es [] [] (s ∷ sets) e f = f
FitSets-alike ds es [] (w ∷ ws) sets e f = cc
FitSets-alike ds es (u ∷ us) [] sets e f = cc
FitSets-alike ds es (u ∷ us) (w ∷ ws) [] e f = f
FitSets-alike ds es (u ∷ us) (w ∷ ws) (s ∷ sets) e f =
    let here : count_of ds u ≡ count_of es w = cc in
    let rest : map (count_of ds) us ≡ map (count_of es) ws = cc in
    let P : ℕ → Type 0 = λ n. Within s (full n) in
    (subst P here f.0, FitSets-alike ds es us ws sets rest f.1)

same_counts : (ds es : List Decl) (us ws : List (List ℕ)) (net new : List ℕ) (k : ℕ) → map (count_of ds) us ≡ map (count_of es) ws
    → count_of ds net ≡ count_of es new → IsSame ds us net k → IsSame es ws new k
same_counts ds es us ws net new k e n h =
    let long : length us ≡ length ws = sym (length-map us (count_of ds)) ∙ (ap length e ∙ length-map ws (count_of es)) in
    let low : k < length us = h.within in
    let less : k < length ws = omega arith in
    record {
      within = less;
      counts = sym (get_or-map (count_of es) ws k [] 0 less) ∙ (sym (ap (λ ns. get_or ns k 0) e) ∙ (get_or-map (count_of ds) us k [] 0 low ∙ (h.counts ∙ n)));
    }

FitOutput-alike : (ds es : List Decl) (us ws : List (List ℕ)) (net new : List ℕ) (entry : Entry) → map (count_of ds) us ≡ map (count_of es) ws
    → count_of ds net ≡ count_of es new → FitOutput ds us net entry → FitOutput es ws new entry
FitOutput-alike ds es us ws net new (Set s) e n f = let P : ℕ → Type 0 = λ c. Within s (full c) in subst P n f
FitOutput-alike ds es us ws net new (Same k) e n f = same_counts ds es us ws net new k e n f

pub FitOutputs-alike : (ds es : List Decl) (us ws nets news : List (List ℕ)) (entries : List Entry) → map (count_of ds) us ≡ map (count_of es) ws
    → map (count_of ds) nets ≡ map (count_of es) news → FitOutputs ds us nets entries → FitOutputs es ws news entries
FitOutputs-alike ds es us ws [] [] [] e n f = tt
FitOutputs-alike ds es us ws [] [] (x ∷ xs) e n f = f
FitOutputs-alike ds es us ws [] (new ∷ news) entries e n f = cc
FitOutputs-alike ds es us ws (net ∷ nets) [] entries e n f = cc
FitOutputs-alike ds es us ws (net ∷ nets) (new ∷ news) [] e n f = f
FitOutputs-alike ds es us ws (net ∷ nets) (new ∷ news) (x ∷ xs) e n f =
    let here : count_of ds net ≡ count_of es new = cc in
    let rest : map (count_of ds) nets ≡ map (count_of es) news = cc in
    (FitOutput-alike ds es us ws net new x e here f.0, FitOutputs-alike ds es us ws nets news xs e rest f.1)
