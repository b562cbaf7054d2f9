-- Parts with other numbers.
use Rattle.std.specs.Prelude.{◌≡◌, ℕ, suc, ◌<◌, List, [], ◌∷◌, length, map}
use Rattle.std.specs.List.{AllByRecursion, Contains}
use Rattle.std.proofs.Common.{get_or, ap, ap₂, ◌∙◌, arith, refl}
use Rattle.std.proofs.lemmas.List.{get_or-map, length-map}
use Rattle.groups.specs.Parting.{AreParted, AreTurned, codes_at, no_part}
use Rattle.groups.specs.declared.parting.Part.{Part}

-- what holds at each place holds of all
pub all_places : (P : ℕ → Type 0) (xs : List ℕ) → ((n : ℕ) → n < length xs → P (get_or xs n 0)) → AllByRecursion P xs
all_places P [] each = tt
all_places P (x ∷ xs) each = (each 0 (omega arith), all_places P xs (λ n h. each (suc n) (omega (arith, h))))

module _ (parts : List Part) (order ranks : List ℕ) (turned : AreTurned (length parts) order ranks) where
  abbrev part_of : ℕ → Part
  part_of n = get_or parts n no_part

  abbrev rank : ℕ → ℕ
  rank n = get_or ranks n 0

  same_part : (n : ℕ) → n < length parts → get_or (map part_of order) (rank n) no_part ≡ part_of n
  same_part n h =
      let back = turned.back n h in
      get_or-map part_of order (rank n) 0 no_part back.0 ∙ ap part_of back.1

  same_parts : {X : Type 0} (f : Part → X) (numbers : List ℕ) → AllByRecursion (λ n. n < length parts) numbers →
      map (λ n. f (get_or (map part_of order) n no_part)) (map rank numbers) ≡ map (λ n. f (part_of n)) numbers
  same_parts f [] all = refl
  same_parts {X} f (n ∷ numbers) all = ap₂ (λ (x : X) (xs : List X). x ∷ xs) (ap f (same_part n all.0)) (same_parts f numbers all.1)

  ranks_within : (numbers : List ℕ) → AllByRecursion (λ n. n < length parts) numbers → AllByRecursion (λ n. n < length (map part_of order)) (map rank numbers)
  ranks_within [] all = tt
  ranks_within (n ∷ numbers) all = (omega (arith, (turned.back n all.0).0, length-map order part_of), ranks_within numbers all.1)

  pub renumbered : (groups codes numbers new_numbers : List ℕ) (new_parts : List Part) → new_numbers ≡ codes_at ranks numbers → new_parts ≡ map (λ n. get_or parts n no_part) order →
      AreParted groups codes numbers parts → AreParted groups codes new_numbers new_parts
  renumbered groups codes numbers new_numbers new_parts is are now = rw (is, are) (record {
    within = ranks_within numbers now.within;
    of_groups = same_parts (λ p. p.group) numbers now.within ∙ now.of_groups;
    of_codes = same_parts (λ p. p.code) numbers now.within ∙ now.of_codes;
    met = met;
    few = omega (arith, now.few, length-map order part_of, length-map numbers rank, turned.ordered);
  })
    where
      met : (m : ℕ) → m < length (map part_of order) → Contains (map rank numbers) m
      met m h =
          let turns = turned.there m (omega (arith, h, length-map order part_of, turned.ordered)) in
          let k : ℕ = get_or order m 0 in
          let found : Contains numbers k = now.met k (omega (arith, turns.0, turned.ranked)) in
          (found.0, omega (arith, found.1, length-map numbers rank), get_or-map rank numbers found.0 k m found.1 ∙ ap rank found.2 ∙ turns.1)
