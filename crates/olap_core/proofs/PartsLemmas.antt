-- Parts that are cut off one after another.
use Rattle.std.proofs.Common.{◌≡◌, ◌∙◌, ℕ, Option, Some, None, List, [], ◌++◌, drop, refl, ap, option_map}
use Rattle.olap_core.specs.Outputs.{cut_by}

abbrev Parts : Type 0
Parts = List (List ℕ)

-- the parts so far, and then those of what is left
abbrev and_then : Parts → Option Parts → Option Parts
and_then parts more = option_map (λ ps. parts ++ ps) more

-- parts have been cut off, of bytes that were cut by all lengths
pub record CutSoFar (lengths bytes : List ℕ) (parts : Parts) (left : List ℕ) (i : ℕ) : Type 0 where
  pub is : and_then parts (cut_by (drop i lengths) left) ≡ cut_by lengths bytes

and_none : (o : Option Parts) → and_then [] o ≡ o
and_none None = refl
and_none (Some ps) = refl

pub cut_start : (lengths bytes : List ℕ) (parts : Parts) → parts ≡ [] → CutSoFar lengths bytes parts bytes 0
cut_start lengths bytes parts none = record { is = ap (λ ps. and_then ps (cut_by lengths bytes)) none ∙ and_none (cut_by lengths bytes) }
