-- The word at the front of a text.
use Rattle.std.proofs.Common.{◌≡◌, ℕ, true, false, List, [], ◌∷◌, ◌++◌, map, Some, refl, arith, slice_index}
use Rattle.std.specs.List.{list_all}
use Rattle.std.specs.Char.{to_ascii_uppercase}
use Rattle.std.proofs.lemmas.Bool.Decides.{nat_tests}
use Rattle.cells.specs.declared.token.Token.{Token}
use Rattle.cells.specs.declared.token.Token.TheVariants.{Word}
use Rattle.cells.specs.Spelling.{Begins, IsWord, is_in_word, is_letter, past, run}
use Rattle.cells.specs.Scanning.{word_at}
use Rattle.cells.proofs.BeginsLemmas.{begins_found}
use Rattle.cells.proofs.RunsLemmas.{past_stops, run_of, run_past, run_passes}

letter_in_word : (b : ℕ) → is_letter b ≡ true → is_in_word b ≡ true
letter_in_word b h = grind (arith, nat_tests)

word_run : (text : List ℕ) → is_letter (slice_index text 0) ≡ true → IsWord (run is_in_word text)
word_run [] h = absurd (cc)
word_run (b ∷ bs) h = rw (letter_in_word b h) (h, run_passes is_in_word bs)

-- a word that is read stands at the front
pub word_begins : (text : List ℕ) (t : Token) (rest : List ℕ) → is_letter (slice_index text 0) ≡ true → word_at text ≡ Some (t, rest) → Begins text t rest
unfolding word_at
word_begins text t rest h e =
    begins_found text (Word (map to_ascii_uppercase (run is_in_word text))) t (past is_in_word text) rest e
    (run is_in_word text, (word_run text h, refl), past_stops is_in_word text refl, run_past is_in_word text)

word_bytes : (form : List ℕ) → IsWord form → list_all is_in_word form ≡ true
word_bytes [] w = absurd w
word_bytes (b ∷ bs) w = rw (letter_in_word b w.0) w.1

-- a word that stands at the front, with no byte of a word behind it, is read
pub word_read : (form rest : List ℕ) → IsWord form → is_in_word (slice_index rest 0) ≡ false → word_at (form ++ rest) ≡ Some (Word (map to_ascii_uppercase form), rest)
unfolding word_at
word_read form rest w apart = let parts = run_of is_in_word form rest (word_bytes form w) apart in rw (parts.0, parts.1) refl
