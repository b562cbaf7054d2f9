-- What a run is given beside its script and its hash.
use Rattle.std.specs.Prelude.{ℕ, List, map, Vec}
use Rattle.std.specs.declared.alloc.Global.{Global}
use Rattle.forms.specs.declared.form.Form.TheVariants.{Classic}
use Rattle.script.specs.Manners.{in_form}
use Rattle.script.specs.declared.manner.Manner.{Manner}
use Rattle.script.specs.declared.setup.SpeltSetup.{SpeltSetup}

-- the way in which answers are told, the most rows of the draft, and the bytes of the parts in their order
pub record Givens : Type 0 where
  pub manner : Manner
  pub limit : ℕ
  pub parts : List (List ℕ)

-- the givens of a run that tells its answers so and may hold so many rows, with these parts
abbrev pub givens_in : Manner → ℕ → List (Vec ℕ Global) → Givens
givens_in manner rows parts = record { manner = manner; limit = rows; parts = map (λ p. p.items) parts }

-- those of a run that is made with this
abbrev pub givens_of : {R G : Type 0} → SpeltSetup R G → Givens
givens_of setup = givens_in setup.manner.now setup.how.now.rows setup.parts.now

-- those of a run in the classic form
abbrev pub givens : ℕ → List (Vec ℕ Global) → Givens
givens rows parts = givens_in (in_form Classic) rows parts
