-- Rows dealt out to lists, a row after another.
use Rattle.std.specs.Prelude.{◌≡◌, ℕ, zero, suc, ◌+◌, ◌<◌, List, [], ◌∷◌, ◌++◌, Vec, IsPermutation, length, replicate, set, refl}
use Rattle.std.specs.declared.alloc.Global.{Global}
use Rattle.std.specs.List.{concat, range_with_len}
use Rattle.std.proofs.Common.{get_or, ap, ap₂, sym, ◌∙◌, subst, arith}
use Rattle.std.proofs.lemmas.List.{append_assoc, get_or-map, length-map, map-id, map-set}
use Rattle.std.proofs.lemmas.List.FromFn.{map-range_with_len_more}
use Rattle.std.proofs.lemmas.List.Sorted.{IsPermutation-append_comm, IsPermutation-append_left, IsPermutation-append_right, IsPermutation-refl, IsPermutation-trans}
use Rattle.groups.specs.Dealing.{indexes_of}

range_next : (first count n : ℕ) (indexes added : List ℕ) → n ≡ first + count → indexes ≡ range_with_len first count → added ≡ indexes ++ n ∷ [] → added ≡ range_with_len first (count + 1)
range_next first count n indexes added is are e =
    e ∙ ap₂ (λ (l : List ℕ) (k : ℕ). l ++ k ∷ []) are is ∙ ap (λ l. l ++ (first + count) ∷ []) (sym (map-id (range_with_len first count))) ∙
    sym (map-range_with_len_more (λ k. k) first count (first + count) refl) ∙ map-id (range_with_len first (count + 1))

none_dealt : (count : ℕ) → concat (replicate count []) ≡ []
none_dealt zero = refl
none_dealt (suc count) = none_dealt count

pub dealt_none : (count : ℕ) (lists : List (List ℕ)) → lists ≡ replicate count [] → IsPermutation (concat lists) []
dealt_none count lists e = subst (λ l. IsPermutation l []) (sym (ap concat e ∙ none_dealt count)) (IsPermutation-refl [])

-- one more is behind all, in some order
one_more : (lists : List (List ℕ)) (k x : ℕ) → k < length lists → IsPermutation (concat (set lists k (get_or lists k [] ++ x ∷ []))) (concat lists ++ x ∷ [])
one_more [] k x h = absurd (omega (arith, h))
one_more (l ∷ lists) zero x h =
    subst (λ a. IsPermutation a ((l ++ concat lists) ++ x ∷ [])) (sym (append_assoc l (x ∷ []) (concat lists)))
    (subst (IsPermutation (l ++ x ∷ concat lists)) (sym (append_assoc l (concat lists) (x ∷ [])))
    (IsPermutation-append_right l (x ∷ concat lists) (concat lists ++ x ∷ []) (IsPermutation-append_comm (x ∷ []) (concat lists))))
one_more (l ∷ lists) (suc k) x h =
    subst (IsPermutation (l ++ concat (set lists k (get_or lists k [] ++ x ∷ [])))) (sym (append_assoc l (concat lists) (x ∷ [])))
    (IsPermutation-append_right l (concat (set lists k (get_or lists k [] ++ x ∷ []))) (concat lists ++ x ∷ []) (one_more lists k x (omega (arith, h))))

-- the row goes to a list
pub dealt_next : (lists : List (Vec ℕ Global)) (k row : ℕ) (old new : Vec ℕ Global) → k < length lists → old ≡ get_or lists k old → new.items ≡ old.items ++ row ∷ [] →
    IsPermutation (concat (indexes_of lists)) (range_with_len 0 row) → IsPermutation (concat (indexes_of (set lists k new))) (range_with_len 0 (row + 1))
dealt_next lists k row old new h at is now =
    let all : List (List ℕ) = indexes_of lists in
    let there : get_or all k [] ≡ old.items = get_or-map (λ (list : Vec ℕ Global). list.items) lists k old [] h ∙ ap (λ (list : Vec ℕ Global). list.items) (sym at) in
    let put : indexes_of (set lists k new) ≡ set all k (get_or all k [] ++ row ∷ []) =
    map-set (λ (list : Vec ℕ Global). list.items) lists k new ∙ ap (set all k) (is ∙ ap (λ l. l ++ row ∷ []) (sym there)) in
    let here : row ≡ 0 + row = omega arith in
    subst (λ l. IsPermutation (concat l) (range_with_len 0 (row + 1))) (sym put)
    (subst (IsPermutation (concat (set all k (get_or all k [] ++ row ∷ [])))) (range_next 0 row row (range_with_len 0 row) (range_with_len 0 row ++ row ∷ []) here refl refl)
    (IsPermutation-trans _ _ _ (one_more all k row (omega (arith, h, length-map lists (λ (list : Vec ℕ Global). list.items))))
    (IsPermutation-append_left (row ∷ []) (concat all) (range_with_len 0 row) now)))
