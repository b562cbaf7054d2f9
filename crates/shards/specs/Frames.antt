-- The text of a partial answer: a line that tells what it is, with a check sum, and its body.
use Rattle.std.specs.Prelude.{ℕ, List, [], ◌∷◌, ◌++◌, codes}
use Rattle.hex.specs.Hex.{encode_lower}
use Rattle.sha2.specs.Sha256.{sha256}

-- what it is and its version, the SHA-256 of the body (FIPS 180-4) in hexadecimal digits, and a line feed
abbrev pub head_of : List ℕ → List ℕ
head_of body = codes "olap partial answers 2 " ++ (encode_lower (sha256 body) ++ 10 ∷ [])

abbrev pub framed : List ℕ → List ℕ
framed body = head_of body ++ body
