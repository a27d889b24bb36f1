-- Text as the codes of its bytes, all of them ASCII: what is quoted, and numbers in digits.
use Rattle.std.specs.Prelude.{ℕ, zero, suc, ◌+◌, ◌/◌, ◌%◌, List, [], ◌∷◌, ◌++◌, ltb, if◌then◌else◌}
use Prim.Native.Char.{code}
use Prim.Native.String.{String, [] as []ˢ, ◌∷◌ as ◌∷ˢ◌}

-- a quoted text
unfoldable pub bytes : String → List ℕ
bytes []ˢ = []
bytes (c ∷ˢ cs) = code c ∷ bytes cs

-- a digit below 16: 0 to 9, then a to f in lower case
unfoldable pub glyph : ℕ → ℕ
glyph d = if ltb d 10 then 48 + d else 87 + d

-- the last k digits of n, the most significant first
unfoldable pub digits : ℕ → ℕ → ℕ → List ℕ
digits base zero n = []
digits base (suc k) n = digits base k (n / base) ++ (glyph (n % base) ∷ [])

-- how many decimal digits n has: one below ten, and one more than a tenth of it from ten on; k is the most that are added
unfoldable pub places_up_to : ℕ → ℕ → ℕ
places_up_to zero n = 1
places_up_to (suc k) n = if ltb n 10 then 1 else suc (places_up_to k (n / 10))

-- those of a u32: it has ten at the most
abbrev pub places : ℕ → ℕ
places n = places_up_to 9 n

-- a u32 in decimal, no zero in front
abbrev pub decimal : ℕ → List ℕ
decimal n = digits 10 (places n) n

-- a u32 in 8 hexadecimal digits
abbrev pub hex8 : ℕ → List ℕ
hex8 w = digits 16 8 w

-- a line of four fields, a space between them: a number in decimal, a word in digits, a letter's code, and a word in digits
unfoldable pub line : ℕ → ℕ → ℕ → ℕ → List ℕ
line number word letter last =
    decimal number ++ bytes " " ++ hex8 word ++ bytes " " ++ (letter ∷ []) ++ bytes " " ++ hex8 last ++ bytes "\n"
