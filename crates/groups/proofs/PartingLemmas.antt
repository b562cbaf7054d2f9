-- Parts, and the rows that are of them.
use Rattle.std.specs.Prelude.{◌≡◌, ◌≢◌, ◌==◌, ℕ, ◌+◌, ◌<◌, ◌⊎◌, true, false, List, [], ◌∷◌, ◌++◌, length, map, take, refl}
use Rattle.std.specs.List.{AllByRecursion, Contains}
use Rattle.std.proofs.Common.{get_or, ap, ap₂, sym, ◌∙◌, subst, arith, inl, inr}
use Rattle.std.proofs.lemmas.List.{get_or_append_left, get_or-map, length-append, length-map, map-append}
use Rattle.std.proofs.lemmas.Bool.Decides.{eqb_tells}
use Rattle.std.proofs.lemmas.List.Elements.{Contains-append_left, Contains-push}
use Rattle.std.proofs.Math.Seq.{get_or-append_seam}
use Rattle.groups.specs.Parting.{AreParted, IsNumbered, codes_at, no_part}
use Rattle.groups.specs.declared.parting.Part.{Part}
use Rattle.groups.specs.declared.parting.Parts.{Parts}
use Rattle.groups.proofs.TuplesLemmas.{all_push, all_through, take_next}

still_given : {X : Type 0} (f : Part → X) (parts more : List Part) (numbers : List ℕ) → AllByRecursion (λ n. n < length parts) numbers →
    map (λ n. f (get_or (parts ++ more) n no_part)) numbers ≡ map (λ n. f (get_or parts n no_part)) numbers
still_given f parts more [] all = refl
still_given {X} f parts more (n ∷ numbers) all = ap₂ (λ (x : X) (xs : List X). x ∷ xs) (ap f (get_or_append_left parts more no_part n all.0)) (still_given f parts more numbers all.1)

-- ---- a row more
module _ (groups codes numbers : List ℕ) (parts : List Part) (part : Part) (now : AreParted groups codes numbers parts) where
  parted_found : (n : ℕ) → n < length parts → get_or parts n no_part ≡ part → AreParted (groups ++ part.group ∷ []) (codes ++ part.code ∷ []) (numbers ++ n ∷ []) parts
  parted_found n h is = record {
    within = all_push (λ k. k < length parts) numbers n now.within h;
    of_groups = map-append (λ k. (get_or parts k no_part).group) numbers (n ∷ []) ∙ ap₂ (λ (l : List ℕ) (p : Part). l ++ p.group ∷ []) now.of_groups is;
    of_codes = map-append (λ k. (get_or parts k no_part).code) numbers (n ∷ []) ∙ ap₂ (λ (l : List ℕ) (p : Part). l ++ p.code ∷ []) now.of_codes is;
    met = λ k below. Contains-append_left numbers (n ∷ []) k (now.met k below);
    few = omega (arith, now.few, length-append numbers (n ∷ []));
  }

  parted_added : AreParted (groups ++ part.group ∷ []) (codes ++ part.code ∷ []) (numbers ++ length parts ∷ []) (parts ++ part ∷ [])
  parted_added = record {
    within = all_push (λ k. k < length (parts ++ part ∷ [])) numbers (length parts) (all_through _ _ (λ k h. omega (arith, h, length-append parts (part ∷ []))) numbers now.within)
        (omega (arith, length-append parts (part ∷ [])));
    of_groups = map-append (λ k. (get_or (parts ++ part ∷ []) k no_part).group) numbers (length parts ∷ []) ∙
        ap₂ (λ (l : List ℕ) (p : Part). l ++ p.group ∷ []) (still_given (λ p. p.group) parts (part ∷ []) numbers now.within ∙ now.of_groups) (get_or-append_seam parts part [] no_part);
    of_codes = map-append (λ k. (get_or (parts ++ part ∷ []) k no_part).code) numbers (length parts ∷ []) ∙
        ap₂ (λ (l : List ℕ) (p : Part). l ++ p.code ∷ []) (still_given (λ p. p.code) parts (part ∷ []) numbers now.within ∙ now.of_codes) (get_or-append_seam parts part [] no_part);
    met = met;
    few = omega (arith, now.few, length-append numbers (length parts ∷ []), length-append parts (part ∷ []));
  }
    where
      met : (k : ℕ) → k < length (parts ++ part ∷ []) → Contains (numbers ++ length parts ∷ []) k
      met k below = cases (eqb_tells k (length parts))
        where
          cases : (((k == length parts) ≡ true) × (k ≡ length parts)) ⊎ (((k == length parts) ≡ false) × (k ≢ length parts)) → Contains (numbers ++ length parts ∷ []) k
          cases (inl e) = subst (Contains (numbers ++ length parts ∷ [])) (sym e.1) (Contains-push numbers (length parts))
          cases (inr other) = Contains-append_left numbers (length parts ∷ []) k (now.met k (omega (arith, below, other.1, length-append parts (part ∷ []))))

  pub parted_more : (new : List Part) (n : ℕ) → IsNumbered part parts new n → AreParted (groups ++ part.group ∷ []) (codes ++ part.code ∷ []) (numbers ++ n ∷ []) new
  parted_more new n (inl found) = rw (found.0) (parted_found n found.1 found.2)
  parted_more new n (inr added) = rw (added.0, added.1) parted_added

-- the row at i goes behind those before it
pub parted_next : (groups rows codes numbers added : List ℕ) (parts new : List Part) (i group row code n : ℕ) → i < length groups → i < length rows → group ≡ get_or groups i 0 → row ≡ get_or rows i 0 →
    code ≡ get_or codes row 0 → AreParted (take i groups) (take i (codes_at codes rows)) numbers parts → IsNumbered (record { group = group; code = code }) parts new n → added ≡ numbers ++ n ∷ [] →
    AreParted (take (i + 1) groups) (take (i + 1) (codes_at codes rows)) added new
parted_next groups rows codes numbers added parts new i group row code n h k at of is now numbered e =
    let first : take (i + 1) groups ≡ take i groups ++ group ∷ [] = take_next groups i 0 group h at in
    let second : take (i + 1) (codes_at codes rows) ≡ take i (codes_at codes rows) ++ code ∷ [] =
    take_next (codes_at codes rows) i 0 code (omega (arith, k, length-map rows (λ row. get_or codes row 0)))
    (is ∙ ap (λ r. get_or codes r 0) of ∙ sym (get_or-map (λ row. get_or codes row 0) rows i 0 0 k)) in
    subst (λ l. AreParted (take (i + 1) groups) (take (i + 1) (codes_at codes rows)) l new) (sym e)
    (subst (λ l. AreParted l (take (i + 1) (codes_at codes rows)) (numbers ++ n ∷ []) new) (sym first)
    (subst (λ l. AreParted (take i groups ++ group ∷ []) l (numbers ++ n ∷ []) new) (sym second)
    (parted_more (take i groups) (take i (codes_at codes rows)) numbers parts (record { group = group; code = code }) now new n numbered)))

-- the parts that were made, of what was lent
pub parted_by : (p : Parts) (lent groups codes by_row rows : List ℕ) → lent ≡ groups → codes ≡ by_row → AreParted lent (codes_at codes rows) p.numbers.items p.parts.items →
    AreParted groups (codes_at by_row rows) p.numbers.items p.parts.items
parted_by p lent groups codes by_row rows one two are =
    subst (λ l. AreParted l (codes_at by_row rows) p.numbers.items p.parts.items) one (subst (λ l. AreParted lent (codes_at l rows) p.numbers.items p.parts.items) two are)
