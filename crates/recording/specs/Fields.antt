-- Numbers as a recording has them: four bytes each, the lowest first.
use Rattle.std.specs.Prelude.{ℕ, ◌/◌, ◌%◌, List, [], ◌∷◌, ◌++◌}

abbrev pub field_bytes : ℕ → List ℕ
field_bytes w = w % 256 ∷ w / 256 % 256 ∷ w / 65536 % 256 ∷ w / 16777216 % 256 ∷ []

unfoldable pub fields_of : List ℕ → List ℕ
fields_of [] = []
fields_of (w ∷ ws) = field_bytes w ++ fields_of ws
