-- Serves proofs only, but for `slow` and `reserved`: the examples of demand 3, one that reaches the age bound, one that starts from
-- all ones, and for each premise one that breaks it alone. A statement says that there is an example, and not which.
use Rattle.std.specs.Prelude.{ℕ, List, [], ◌∷◌}
use Rattle.plant.specs.Film.{Film}
use Rattle.plant.specs.Premises.{Premise, enough, fits, gap_least, gap_most, formed, late, forward, rests, quiet}

-- Films by the plant's words, the samples, their instants, and the readings of each signal.
-- n 2, N 3, Tm and TM 1, D 2: the age bound is 8, the quiet gap 9
abbrev pub two : List ℕ → List ℕ → List ℕ → List (List ℕ) → Film
two shown samples taken read =
    record { n = 2; need = 3; tm = 1; tM = 1; d = 2; initial = 0; shown = shown; samples = samples; taken = taken; read = read }

-- n 1, N 1, Tm and TM 1, D 0: the age bound is 1
abbrev pub one : ℕ → List ℕ → List ℕ → List ℕ → List ℕ → Film
one initial shown samples taken read =
    record { n = 1; need = 1; tm = 1; tM = 1; d = 0; initial = initial; shown = shown; samples = samples; taken = taken; read = read ∷ [] }

-- Every reading is 2 late; signal 0 moves at 3 and signal 1 at 6. The age bound is 2·3·1 + 2 = 8, and D > TM.
abbrev pub slow : Film
slow = two
    (0 ∷ 0 ∷ 0 ∷ 1 ∷ 1 ∷ 1 ∷ 3 ∷ [])
    (0 ∷ 0 ∷ 0 ∷ 1 ∷ 1 ∷ 1 ∷ 3 ∷ 3 ∷ 3 ∷ 3 ∷ [])
    (2 ∷ 3 ∷ 4 ∷ 5 ∷ 6 ∷ 7 ∷ 8 ∷ 9 ∷ 10 ∷ 11 ∷ [])
    ((0 ∷ 1 ∷ 2 ∷ 3 ∷ 4 ∷ 5 ∷ 6 ∷ 7 ∷ 8 ∷ 9 ∷ []) ∷ (0 ∷ 1 ∷ 2 ∷ 3 ∷ 4 ∷ 5 ∷ 6 ∷ 7 ∷ 8 ∷ 9 ∷ []) ∷ [])

-- A start from all ones, the default word of n 2, at which the plant rests; signal 0 falls at 2 and signal 1 at 4.
abbrev pub reserved : Film
reserved =
    record {
      n = 2;
      need = 1;
      tm = 1;
      tM = 1;
      d = 0;
      initial = 3;
      shown = 3 ∷ 3 ∷ 2 ∷ 2 ∷ 0 ∷ [];
      samples = 3 ∷ 3 ∷ 2 ∷ 2 ∷ 0 ∷ 0 ∷ [];
      taken = 0 ∷ 1 ∷ 2 ∷ 3 ∷ 4 ∷ 5 ∷ [];
      read = (0 ∷ 1 ∷ 2 ∷ 3 ∷ 4 ∷ 5 ∷ []) ∷ (0 ∷ 1 ∷ 2 ∷ 3 ∷ 4 ∷ 5 ∷ []) ∷ [];
    }

-- For each premise, a film in which all others hold, and which shows a word that was never there, or was there too long ago.
abbrev pub breaks : Premise → Film
-- N·Tm is 2 and D is 3, one more: both signals move at 4, but signal 1 is read from before that twice. 1 is confirmed.
breaks enough =
    record {
      n = 2;
      need = 1;
      tm = 2;
      tM = 2;
      d = 3;
      initial = 0;
      shown = 0 ∷ 0 ∷ 0 ∷ 0 ∷ 3 ∷ [];
      samples = 0 ∷ 1 ∷ 1 ∷ [];
      taken = 2 ∷ 4 ∷ 6 ∷ [];
      read = (2 ∷ 4 ∷ 6 ∷ []) ∷ (2 ∷ 3 ∷ 3 ∷ []) ∷ [];
    }
-- The plant has a bit that is no signal. 0 is confirmed.
breaks fits = one 2 (2 ∷ []) (0 ∷ 0 ∷ []) (0 ∷ 1 ∷ []) (0 ∷ 1 ∷ [])
-- Both signals move at 2, and three samples come at once. 1 is confirmed.
breaks gap_least =
    record {
      n = 2;
      need = 2;
      tm = 1;
      tM = 1;
      d = 1;
      initial = 0;
      shown = 0 ∷ 0 ∷ 3 ∷ [];
      samples = 0 ∷ 1 ∷ 1 ∷ 1 ∷ [];
      taken = 1 ∷ 2 ∷ 2 ∷ 2 ∷ [];
      read = (1 ∷ 2 ∷ 2 ∷ 2 ∷ []) ∷ (1 ∷ 1 ∷ 1 ∷ 1 ∷ []) ∷ [];
    }
-- The second sample comes after 2, one more than TM; the age bound is 1. 0 is held.
breaks gap_most = one 0 (0 ∷ 1 ∷ []) (0 ∷ 1 ∷ []) (0 ∷ 2 ∷ []) (0 ∷ 2 ∷ [])
-- The samples show another word than the plant. 1 is confirmed.
breaks formed = one 0 (0 ∷ []) (1 ∷ 1 ∷ []) (0 ∷ 1 ∷ []) (0 ∷ 1 ∷ [])
-- As `slow`, but every reading is 3 late, one more than D. 0 is held for 9, and the age bound is 8.
breaks late = two
    (0 ∷ 0 ∷ 0 ∷ 0 ∷ 1 ∷ 1 ∷ 1 ∷ 3 ∷ [])
    (0 ∷ 0 ∷ 0 ∷ 0 ∷ 1 ∷ 1 ∷ 1 ∷ 3 ∷ 3 ∷ 3 ∷ [])
    (3 ∷ 4 ∷ 5 ∷ 6 ∷ 7 ∷ 8 ∷ 9 ∷ 10 ∷ 11 ∷ 12 ∷ [])
    ((0 ∷ 1 ∷ 2 ∷ 3 ∷ 4 ∷ 5 ∷ 6 ∷ 7 ∷ 8 ∷ 9 ∷ []) ∷ (0 ∷ 1 ∷ 2 ∷ 3 ∷ 4 ∷ 5 ∷ 6 ∷ 7 ∷ 8 ∷ 9 ∷ []) ∷ [])
-- Signal 0 moves at 3 and signal 1 at 8; both are read from before that once more. 0 is held for 9, and the age bound is 8.
breaks forward = two
    (0 ∷ 0 ∷ 0 ∷ 1 ∷ 1 ∷ 1 ∷ 1 ∷ 1 ∷ 3 ∷ [])
    (0 ∷ 1 ∷ 0 ∷ 1 ∷ 1 ∷ 1 ∷ 3 ∷ 1 ∷ 3 ∷ 3 ∷ [])
    (2 ∷ 3 ∷ 4 ∷ 5 ∷ 6 ∷ 7 ∷ 8 ∷ 9 ∷ 10 ∷ 11 ∷ [])
    ((2 ∷ 3 ∷ 2 ∷ 5 ∷ 6 ∷ 7 ∷ 8 ∷ 9 ∷ 10 ∷ 11 ∷ []) ∷ (2 ∷ 3 ∷ 4 ∷ 5 ∷ 6 ∷ 7 ∷ 8 ∷ 7 ∷ 10 ∷ 11 ∷ []) ∷ [])
-- The plant has moved at the first sample's instant, before which there is none. 0 is held.
breaks rests = one 0 (1 ∷ []) (1 ∷ []) (0 ∷ []) (0 ∷ [])
-- As in `slow`, but signal 0 moves again at 11, 8 after it moved; the quiet gap is 9. 0 is held for 9, and the age bound is 8.
breaks quiet = two
    (0 ∷ 0 ∷ 0 ∷ 1 ∷ 1 ∷ 1 ∷ 3 ∷ 3 ∷ 3 ∷ 3 ∷ 3 ∷ 2 ∷ [])
    (0 ∷ 0 ∷ 0 ∷ 1 ∷ 1 ∷ 1 ∷ 3 ∷ 3 ∷ 3 ∷ 2 ∷ [])
    (2 ∷ 3 ∷ 4 ∷ 5 ∷ 6 ∷ 7 ∷ 8 ∷ 9 ∷ 10 ∷ 11 ∷ [])
    ((0 ∷ 1 ∷ 2 ∷ 3 ∷ 4 ∷ 5 ∷ 6 ∷ 7 ∷ 8 ∷ 11 ∷ []) ∷ (0 ∷ 1 ∷ 2 ∷ 3 ∷ 4 ∷ 5 ∷ 6 ∷ 7 ∷ 8 ∷ 9 ∷ []) ∷ [])

-- Signal 0 is read ahead, at 5, where it moves. 1 is confirmed at 2.
abbrev pub ahead : Film
ahead = one 0 (0 ∷ 0 ∷ 0 ∷ 0 ∷ 0 ∷ 1 ∷ []) (0 ∷ 1 ∷ 1 ∷ []) (0 ∷ 1 ∷ 2 ∷ []) (0 ∷ 5 ∷ 5 ∷ [])

-- The weaker premises have two edges more. The plant showed the initial word last 3 before the first sample, TM + D and one more: 0
-- is held for 4, and the age bound is 3.
abbrev pub late_start : Film
late_start =
    record {
      n = 1;
      need = 2;
      tm = 1;
      tM = 1;
      d = 1;
      initial = 0;
      shown = 0 ∷ 1 ∷ [];
      samples = 1 ∷ 1 ∷ [];
      taken = 3 ∷ 4 ∷ [];
      read = (3 ∷ 4 ∷ []) ∷ [];
    }

-- N is 0, and D is no more than N·Tm: 0 is held for 1, and the age bound is 0.
abbrev pub uncounted : Film
uncounted =
    record {
      n = 1;
      need = 0;
      tm = 1;
      tM = 1;
      d = 0;
      initial = 0;
      shown = 0 ∷ 1 ∷ [];
      samples = 0 ∷ 1 ∷ [];
      taken = 0 ∷ 1 ∷ [];
      read = (0 ∷ 1 ∷ []) ∷ [];
    }
