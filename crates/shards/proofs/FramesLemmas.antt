-- The first line of a text, and what follows it.
use Rattle.std.proofs.Common.{◌≡◌, ◌+◌, ◌*◌, ℕ, zero, suc, List, [], ◌∷◌, ◌++◌, ◌∙◌, ap, arith, drop, length, refl, take}
use Rattle.std.proofs.lemmas.List.{length-append}
use Rattle.hex.specs.Hex.{encode_lower}
use Rattle.hex.proofs.HexLemmas.{length-encode_with}
use Rattle.sha2.specs.Sha256.{sha256}
use Rattle.sha2.proofs.Facts256.{length-sha256}
use Rattle.shards.specs.Frames.{framed, head_of}

pub head_long : (body : List ℕ) → length (head_of body) ≡ 88
head_long body =
    let digits : length (encode_lower (sha256 body)) ≡ 64 = length-encode_with _ (sha256 body) ∙ ap (λ n. 2 * n) (length-sha256 body) in
    omega (arith, length-append (encode_lower (sha256 body)) (10 ∷ []), digits)

pub front_is : (n : ℕ) (xs ys : List ℕ) → length xs ≡ n → take n (xs ++ ys) ≡ xs
front_is zero [] ys long = refl
front_is zero (x ∷ xs) ys long = absurd (omega (arith, long))
front_is (suc n) [] ys long = absurd (omega (arith, long))
front_is (suc n) (x ∷ xs) ys long = ap (λ l. x ∷ l) (front_is n xs ys (omega (arith, long)))

pub rest_is : (n : ℕ) (xs ys : List ℕ) → length xs ≡ n → drop n (xs ++ ys) ≡ ys
rest_is zero [] ys long = refl
rest_is zero (x ∷ xs) ys long = absurd (omega (arith, long))
rest_is (suc n) [] ys long = absurd (omega (arith, long))
rest_is (suc n) (x ∷ xs) ys long = rest_is n xs ys (omega (arith, long))

-- the head and the body of a text
pub head_is : (text body : List ℕ) → text ≡ framed body → take 88 text ≡ head_of body
head_is text body is = ap (take 88) is ∙ front_is 88 (head_of body) body (head_long body)

pub body_is : (text body : List ℕ) → text ≡ framed body → drop 88 text ≡ body
body_is text body is = ap (drop 88) is ∙ rest_is 88 (head_of body) body (head_long body)

pub text_long : (text body : List ℕ) → text ≡ framed body → length text ≡ 88 + length body
text_long text body is = ap length is ∙ length-append (head_of body) body ∙ ap (λ n. n + length body) (head_long body)
