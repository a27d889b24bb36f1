-- T-09 of document 02, sentence by sentence: what the byte says of a sample whose words are a and b, the last agreed word being `word`;
-- which word that is in a run; and that "neither" cannot occur for single signals.
use Rattle.std.specs.Prelude.{ℕ, ◌≡◌, ◌↔◌, List, [], ◌∷◌, eqb, if◌then◌else◌}

-- "a byte 0 agreed, 1 first, 2 second, 3 neither", each exactly when
pub record Says (word a b byte : ℕ) : Type 0 where
  pub agreed : (byte ≡ 0) ↔ (a ≡ b)
  pub first : (byte ≡ 1) ↔ ((a ≡ b → ⊥) × (a ≡ word))
  pub second : (byte ≡ 2) ↔ ((a ≡ b → ⊥) × (b ≡ word))
  pub neither : (byte ≡ 3) ↔ ((a ≡ b → ⊥) × (a ≡ word → ⊥) × (b ≡ word → ⊥))

-- "for single signals 'neither' cannot occur", of a vote of width n
abbrev pub NotNeither : ℕ → ℕ → Type 0
NotNeither n byte = n ≡ 1 → byte ≡ 3 → ⊥

-- the last agreed word, once these samples have passed: that of the last one at which the two were equal, and the initial word if there
-- was none
unfoldable pub last_agreed : ℕ → List (ℕ × ℕ) → ℕ
last_agreed word [] = word
last_agreed word (x ∷ xs) = last_agreed (if eqb x.0 x.1 then x.0 else word) xs
