-- The heading of GROUPING.
use Rattle.std.proofs.Common.{◌≡◌, ℕ, ◌+◌, ◌<◌, List, [], ◌∷◌, ◌++◌, drop, get_or, length, refl, sym, ap, ◌∙◌, append-nil, append_assoc}
use Rattle.std.proofs.lemmas.List.{drop_more}
use Rattle.std.specs.Prelude.{codes}
use Rattle.query.specs.Headings.{call, listed}

-- names with something before the first, and a comma and a blank before each other
abbrev pub names_behind : List ℕ → List (List ℕ) → List ℕ
names_behind before [] = []
names_behind before (n ∷ ns) = before ++ n ++ names_behind (codes ", ") ns

pub listed_behind : (ns : List (List ℕ)) → listed ns ≡ names_behind [] ns
listed_behind [] = refl
listed_behind (n ∷ []) = sym (append-nil n)
listed_behind (n ∷ m ∷ ns) =
    let e : listed (m ∷ ns) ≡ m ++ names_behind (codes ", ") ns = listed_behind (m ∷ ns) in
    ap (λ l. (n ++ codes ", ") ++ l) e ∙ append_assoc n (codes ", ") (m ++ names_behind (codes ", ") ns)

-- where no name is written yet
pub heading_begins : (ns : List (List ℕ)) → codes "GROUPING(" ++ names_behind [] ns ++ codes ")" ≡ call (codes "GROUPING") (listed ns)
heading_begins ns = ap (λ l. codes "GROUPING(" ++ l ++ codes ")") (sym (listed_behind ns))

behind_four : (a b c d : List ℕ) → ((a ++ b) ++ c) ++ d ≡ a ++ ((b ++ c) ++ d)
behind_four a b c d = append_assoc (a ++ b) c d ∙ append_assoc a b (c ++ d) ∙ ap (λ l. a ++ l) (sym (append_assoc b c d))

-- one name more is written
pub heading_step : (names : List (List ℕ)) (i : ℕ) (name text before first second lent all : List ℕ) → i < length names → name ≡ get_or names i name → first ≡ text ++ before → second ≡ first ++ lent → lent ≡ name
    → text ++ names_behind before (drop i names) ++ codes ")" ≡ all → second ++ names_behind (codes ", ") (drop (i + 1) names) ++ codes ")" ≡ all
heading_step names i name text before first second lent all within is a b l now =
    let split : drop i names ≡ name ∷ drop (i + 1) names = drop_more names i name within ∙ ap (λ n. n ∷ drop (i + 1) names) (sym is) in
    let rest = names_behind (codes ", ") (drop (i + 1) names) in
    let made : second ≡ (text ++ before) ++ name = b ∙ ap (λ t. t ++ lent) a ∙ ap (λ t. (text ++ before) ++ t) l in
    ap (λ t. t ++ rest ++ codes ")") made ∙ ap (λ t. t ++ codes ")") (behind_four text before name rest) ∙ ap (λ d. text ++ names_behind before d ++ codes ")") (sym split) ∙ now
