-- Grouping sets as marks, column by column.
use Rattle.std.proofs.Common.{◌≡◌, ℕ, ◌+◌, ◌-◌, ◌<◌, ◌≤◌, Bool, true, false, ◌||◌, append-nil, append_assoc, drop, get_or, length, take, List, [], ◌∷◌, ◌++◌, map, ◌⊎◌, if◌then◌else◌, inl, inr, refl, sym, ap, ap₂, ◌∙◌}
use Rattle.std.proofs.lemmas.List.{at_drop_more, map-append, take_all, take_more}
use Rattle.std.proofs.lemmas.Grind.{flat_map-append}
use Rattle.std.proofs.lemmas.List.Folds.{list_any-append}
use Rattle.std.specs.List.{flat_map}
use Rattle.std.specs.Prelude.{bytes_eq}
use Rattle.cells.specs.declared.schema.Column.{Column}
use Rattle.query.specs.Trees.{ElementTree, elements_of}
use Rattle.query.specs.Marks.{joined, marked_from, marks}
use Rattle.query.specs.Sets.{Names, cube, grouping_sets, indexes, indexes_from, names_column, rollup, sets_of, sets_of_each}
use Rattle.query.proofs.CountsLemmas.{drop_back}

pub joined_end : (aes bs : List Bool) → (aes ≡ []) ⊎ (bs ≡ []) → joined aes bs ≡ []
joined_end [] bs h = refl
joined_end (a ∷ aes) [] h = refl
joined_end (a ∷ aes) (b ∷ bs) (inl e) = absurd cc
joined_end (a ∷ aes) (b ∷ bs) (inr e) = absurd cc

-- the marks of a union are joined marks
pub marks_joined : (cs : List Column) (g h : Names) → marks cs (g ++ h) ≡ joined (marks cs g) (marks cs h)
marks_joined [] g h = refl
marks_joined (c ∷ cs) g h =
    ap (λ b. b ∷ marks cs (g ++ h)) (list_any-append (λ n. bytes_eq c.name n) g h)
    ∙ ap (λ m. (names_column g c || names_column h c) ∷ m) (marks_joined cs g h)

pub each_joined : (cs : List Column) (g : Names) (hs : List Names) → map (marks cs) (map (λ h. g ++ h) hs) ≡ map (joined (marks cs g)) (map (marks cs) hs)
each_joined cs g [] = refl
each_joined cs g (h ∷ hs) = ap (λ m. m ∷ map (marks cs) (map (λ x. g ++ x) hs)) (marks_joined cs g h) ∙ ap (λ l. joined (marks cs g) (marks cs h) ∷ l) (each_joined cs g hs)

pub marks_rollup : (cs : List Column) (u : Names) (us : List Names) → map (marks cs) (rollup (u ∷ us)) ≡ map (joined (marks cs u)) (map (marks cs) (rollup us)) ++ marks cs [] ∷ []
marks_rollup cs u us = map-append (marks cs) (map (λ g. u ++ g) (rollup us)) ([] ∷ []) ∙ ap (λ l. l ++ marks cs [] ∷ []) (each_joined cs u (rollup us))

pub marks_cube : (cs : List Column) (u : Names) (us : List Names) → map (marks cs) (cube (u ∷ us)) ≡ map (joined (marks cs u)) (map (marks cs) (cube us)) ++ map (marks cs) (cube us)
marks_cube cs u us = map-append (marks cs) (map (λ g. u ++ g) (cube us)) (cube us) ∙ ap (λ l. l ++ map (marks cs) (cube us)) (each_joined cs u (cube us))

marks_choices : (cs : List Column) (gs hs : List Names) → map (marks cs) (flat_map (λ g. map (λ h. g ++ h) hs) gs) ≡ flat_map (λ f. map (joined f) (map (marks cs) hs)) (map (marks cs) gs)
marks_choices cs [] hs = refl
marks_choices cs (g ∷ gs) hs =
    map-append (marks cs) (map (λ h. g ++ h) hs) (flat_map (λ x. map (λ h. x ++ h) hs) gs)
    ∙ ap (λ l. l ++ map (marks cs) (flat_map (λ x. map (λ h. x ++ h) hs) gs)) (each_joined cs g hs)
    ∙ ap (λ l. map (joined (marks cs g)) (map (marks cs) hs) ++ l) (marks_choices cs gs hs)

pub marks_sets : (cs : List Column) (e : ElementTree) (es : List ElementTree) → map (marks cs) (grouping_sets (e ∷ es)) ≡ flat_map (λ f. map (joined f) (map (marks cs) (grouping_sets es))) (map (marks cs) (sets_of e))
marks_sets cs e es = marks_choices cs (sets_of e) (grouping_sets es)

module _ (cs : List Column) (us : List Names) (left : ℕ) (u : Names) (some : 0 < left) (within : left ≤ length us) (is : u ≡ get_or us (left - 1) u) (sets new : List (List Bool)) where
  module _ (first : List Bool) (marked : first ≡ marks cs u) (slice longer : List (List Bool)) (lent : slice ≡ sets) (each : longer ≡ map (joined first) slice) where
    longer_is : longer ≡ map (joined (marks cs u)) sets
    longer_is = each ∙ ap₂ (λ f s. map (joined f) s) marked lent

    pub rollup_step : sets ≡ map (marks cs) (rollup (drop left us)) → (none : List Bool) → none ≡ marks cs [] → new ≡ longer ++ none ∷ [] → new ≡ map (marks cs) (rollup (drop (left - 1) us))
    rollup_step made none blank e = e ∙ ap₂ (λ l m. l ++ m ∷ []) longer_is blank ∙ ap (λ s. map (joined (marks cs u)) s ++ marks cs [] ∷ []) made ∙ sym (marks_rollup cs u (drop left us)) ∙ ap (λ v. map (marks cs) (rollup v)) (sym (drop_back us left u some within is))

    pub cube_step : sets ≡ map (marks cs) (cube (drop left us)) → new ≡ longer ++ sets → new ≡ map (marks cs) (cube (drop (left - 1) us))
    cube_step made e = e ∙ ap (λ l. l ++ sets) longer_is ∙ ap (λ s. map (joined (marks cs u)) s ++ s) made ∙ sym (marks_cube cs u (drop left us)) ∙ ap (λ v. map (marks cs) (cube v)) (sym (drop_back us left u some within is))

pub sets_step : (cs : List Column) (es : List ElementTree) (left : ℕ) (e : ElementTree) → 0 < left → left ≤ length es → e ≡ get_or es (left - 1) e → (sets new : List (List Bool))
    → sets ≡ map (marks cs) (grouping_sets (drop left es)) → new ≡ flat_map (λ f. map (joined f) sets) (map (marks cs) (sets_of e)) → new ≡ map (marks cs) (grouping_sets (drop (left - 1) es))
sets_step cs es left e some within is sets new made n =
    n ∙ ap (λ s. flat_map (λ f. map (joined f) s) (map (marks cs) (sets_of e))) made ∙ sym (marks_sets cs e (drop left es))
    ∙ ap (λ v. map (marks cs) (grouping_sets v)) (sym (drop_back es left e some within is))

-- the indexes that are marked are those of the columns that the set names
marked_indexes : (cs : List Column) (k : ℕ) (g : Names) → marked_from k (marks cs g) ≡ indexes_from k cs g
marked_indexes [] k g = refl
marked_indexes (c ∷ cs) k g = ap (λ l. if names_column g c then k ∷ l else l) (marked_indexes cs (k + 1) g)

indexes_of_marks : (cs : List Column) (gs : List Names) → map (marked_from 0) (map (marks cs) gs) ≡ map (indexes cs) gs
indexes_of_marks cs [] = refl
indexes_of_marks cs (g ∷ gs) = ap₂ (λ p l. p ∷ l) (marked_indexes cs 0 g) (indexes_of_marks cs gs)

pub each_step : (cs : List Column) (es : List ElementTree) (i : ℕ) (e : ElementTree) (whole found more new : List (List Bool)) → i < length es → e ≡ get_or es i e
    → whole ≡ found ++ map (marks cs) (sets_of_each (elements_of (drop i es))) → more ≡ map (marks cs) (sets_of e) → new ≡ found ++ more
    → whole ≡ new ++ map (marks cs) (sets_of_each (elements_of (drop (i + 1) es)))
each_step cs es i e whole found more new within is kept m n =
    kept ∙ ap (λ l. found ++ l)
    (at_drop_more (λ xs. map (marks cs) (sets_of_each (elements_of xs))) es i e within
    ∙ ap (λ x. map (marks cs) (sets_of_each (elements_of (x ∷ drop (i + 1) es)))) (sym is)
    ∙ map-append (marks cs) (sets_of e) (sets_of_each (elements_of (drop (i + 1) es)))
    ∙ ap (λ l. l ++ map (marks cs) (sets_of_each (elements_of (drop (i + 1) es)))) (sym m))
    ∙ sym (append_assoc found more (map (marks cs) (sets_of_each (elements_of (drop (i + 1) es)))))
    ∙ ap (λ l. l ++ map (marks cs) (sets_of_each (elements_of (drop (i + 1) es)))) (sym n)

-- one more of the first sets with each of the second
pub choices_step : (firsts seconds : List (List Bool)) (i : ℕ) (first : List Bool) (sets more new : List (List Bool)) → i < length firsts → first ≡ get_or firsts i first
    → sets ≡ flat_map (λ f. map (joined f) seconds) (take i firsts) → more ≡ map (joined first) seconds → new ≡ sets ++ more → new ≡ flat_map (λ f. map (joined f) seconds) (take (i + 1) firsts)
choices_step firsts seconds i first sets more new within is made m n =
    n ∙ ap₂ (λ a b. a ++ b) made (m ∙ sym (append-nil (map (joined first) seconds)))
    ∙ sym (flat_map-append (λ f. map (joined f) seconds) (take i firsts) (first ∷ []))
    ∙ ap (flat_map (λ f. map (joined f) seconds)) (ap (λ f. take i firsts ++ f ∷ []) is ∙ sym (take_more firsts i first within))

pub grouping_step : (cs : List Column) (es : List ElementTree) (left : ℕ) (e : ElementTree) → 0 < left → left ≤ length es → e ≡ get_or es (left - 1) e → (sets new firsts lent_firsts lent_sets : List (List Bool))
    → sets ≡ map (marks cs) (grouping_sets (drop left es)) → firsts ≡ map (marks cs) (sets_of e) → lent_firsts ≡ firsts → lent_sets ≡ sets
    → new ≡ flat_map (λ f. map (joined f) lent_sets) lent_firsts → new ≡ map (marks cs) (grouping_sets (drop (left - 1) es))
grouping_step cs es left e some within is sets new firsts lf ls made f a b n =
    sets_step cs es left e some within is sets new made (n ∙ ap₂ (λ x y. flat_map (λ g. map (joined g) x) y) b (a ∙ f))

pub indexes_all : (cs : List Column) (gs : List Names) (made lent : List (List Bool)) (i : ℕ) (found : List (List ℕ)) → made ≡ map (marks cs) gs → lent ≡ made → length lent ≤ i
    → found ≡ map (marked_from 0) (take i lent) → found ≡ map (indexes cs) gs
indexes_all cs gs made lent i found m l all e = e ∙ ap (map (marked_from 0)) (take_all i lent all ∙ l ∙ m) ∙ indexes_of_marks cs gs

-- one index more
module _ (bs : List Bool) (k : ℕ) (found : List ℕ) (kept : marked_from 0 bs ≡ found ++ marked_from k (drop k bs)) (within : k < length bs) where
  pub index_marked : get_or bs k false ≡ true → (new : List ℕ) → new ≡ found ++ k ∷ [] → marked_from 0 bs ≡ new ++ marked_from (k + 1) (drop (k + 1) bs)
  index_marked e new n =
      let rest = marked_from (k + 1) (drop (k + 1) bs) in
      kept ∙ ap (λ l. found ++ l) (at_drop_more (marked_from k) bs k false within ∙ ap (λ b. if b then k ∷ rest else rest) e)
      ∙ sym (append_assoc found (k ∷ []) rest) ∙ ap (λ l. l ++ rest) (sym n)

  pub index_passed : get_or bs k false ≡ false → marked_from 0 bs ≡ found ++ marked_from (k + 1) (drop (k + 1) bs)
  index_passed e =
      let rest = marked_from (k + 1) (drop (k + 1) bs) in
      kept ∙ ap (λ l. found ++ l) (at_drop_more (marked_from k) bs k false within ∙ ap (λ b. if b then k ∷ rest else rest) e)
