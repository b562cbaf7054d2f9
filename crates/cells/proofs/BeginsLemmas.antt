-- What a text begins with.
use Rattle.std.proofs.Common.{◌≡◌, ℕ, List, Option, Some, subst, ◌∙◌}
use Rattle.std.proofs.lemmas.Option.{some_pair_parts}
use Rattle.cells.specs.declared.token.Token.{Token}
use Rattle.cells.specs.Spelling.{Begins}

-- a token and a rest that stand there, where they are the ones that were found
pub begins_found : (text : List ℕ) (s t : Token) (behind rest : List ℕ) → ◌≡◌ {A = Option (Token × List ℕ)} (Some (s, behind)) (Some (t, rest)) → Begins text s behind → Begins text t rest
begins_found text s t behind rest e x =
    let same = some_pair_parts s t behind rest e in
    subst (λ v. Begins text v rest) same.0 (subst (Begins text s) same.1 x)

-- the same of an equal text
pub begins_along : (text other : List ℕ) (t : Token) (rest : List ℕ) → other ≡ text → Begins text t rest → Begins other t rest
begins_along text other t rest e x = (x.0, x.1, x.2, e ∙ x.3)
