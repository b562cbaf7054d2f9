-- Controls as JSON escapes them (RFC 8259, section 7), and what else is escaped on a line for people.
use Rattle.std.specs.Prelude.{ℕ, ◌/◌, ◌%◌, ◌==◌, ◌||◌, ◌&&◌, Bool, List, [], ◌∷◌, ◌++◌, codes, if◌then◌else◌, nat_le, nat_lt}
use Rattle.std.specs.Char.{digit_char, encode_utf8}

-- `\n`, `\r` and `\t`, and `\u00` before two hexadecimal digits for each other one
abbrev pub escaped : ℕ → List ℕ
escaped b =
    if b == 10 then codes "\\n"
    else if b == 13 then codes "\\r"
    else if b == 9 then codes "\\t"
    else codes "\\u00" ++ digit_char (b / 16) ∷ digit_char (b % 16) ∷ []

-- a byte as it is, where it is no control
abbrev pub shown_byte : ℕ → List ℕ
shown_byte b = if nat_lt b 32 then escaped b else b ∷ []

-- a character with four hexadecimal digits
abbrev pub hexadecimal : ℕ → List ℕ
hexadecimal c = codes "\\u" ++ digit_char (c / 4096 % 16) ∷ digit_char (c / 256 % 16) ∷ digit_char (c / 16 % 16) ∷ digit_char (c % 16) ∷ []

abbrev pub escaped_char : ℕ → List ℕ
escaped_char c =
    if c == 10 then codes "\\n"
    else if c == 13 then codes "\\r"
    else if c == 9 then codes "\\t"
    else hexadecimal c

-- a control character (C0, DELETE and C1), or a mark that turns the text beside it round (Unicode, UAX #9, section 2)
abbrev pub is_unseen : ℕ → Bool
is_unseen c =
    nat_lt c 32 || ((nat_le 127 c && nat_le c 159) || (c == 1564 || ((nat_le 8206 c && nat_le c 8207) || ((nat_le 8234 c && nat_le c 8238) || (nat_le 8294 c && nat_le c 8297)))))

-- a character on a line for people; a backslash is doubled, so that it is told from an escape
abbrev pub plain_char : ℕ → List ℕ
plain_char c = if c == 92 then codes "\\\\" else if is_unseen c then escaped_char c else encode_utf8 c
