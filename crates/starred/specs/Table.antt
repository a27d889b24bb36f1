-- The starred examples of document 01, in its order; the one claim, `Every table`, is `starred` in proofs/. Where an example names
-- no n, initial word or words, they are chosen: n 1 for the sizings, n 3, 0, and 5 and 7 for the votes.
use Prim.Native.String.{String}
use Rattle.std.specs.Prelude.{List, [], ◌∷◌, ◌++◌, ℕ}
use Rattle.recording.specs.Fields.{fields_of}
use Rattle.recording.specs.Recording.{tag}
use Rattle.starred.specs.Floats.{−0, 0·0, 0·5, 1·0, 2·0, 3·0}
use Rattle.reserve.specs.Run.{Sample}
use Rattle.starred.specs.Rows.{Row, VoteLine}
use Rattle.starred.specs.Rows.{◌agreed◌, ◌held◌, ◌alarm◌}
use Rattle.starred.specs.Rows.{sizing-n◌Tm◌TM◌D◌gives-N◌age:◌gap:◌, count-n◌Tm◌TM◌D◌is◌, sizing-n◌Tm◌TM◌D◌refused◌, recording◌lists◌, vote-n◌N◌from◌lists◌, reserve-n◌N◌from◌lists◌}
use Rattle.starred.specs.Rows.{readings◌and◌and◌tolerance◌agreed◌, readings◌and◌and◌tolerance◌alarm}

-- "One unit, n 2, N 2, initial word 0, samples 0 1 1 3 3 3": the recording, with times from 10 to 60
abbrev pub recorded : List ℕ
recorded =
    tag
    -- units, samples, n, N, initial word; the offsets of the times and of units 1 to 4
    ++ fields_of (1 ∷ 6 ∷ 2 ∷ 2 ∷ 0 ∷ 44 ∷ 68 ∷ 0 ∷ 0 ∷ 0 ∷ [])
    ++ fields_of (10 ∷ 20 ∷ 30 ∷ 40 ∷ 50 ∷ 60 ∷ [])
    ++ fields_of (0 ∷ 1 ∷ 1 ∷ 3 ∷ 3 ∷ 3 ∷ [])

-- and the listing
abbrev pub listed : List String
listed =
    "confirm 6 2 2" ∷
    "0 00000000 H 00000001" ∷
    "1 00000000 H 00000000" ∷
    "2 00000000 H 00000001" ∷
    "3 00000000 H 00000000" ∷
    "4 00000000 H 00000001" ∷
    "5 00000003 C 00000001" ∷
    []

-- "Plain vote, N 1: the first disagreement alarms. N 3: held, held, alarm; a following agreement is agreed"
abbrev pub at_once : List (VoteLine (ℕ × ℕ))
at_once = (5, 7) alarm 0 ∷ []

abbrev pub third_time : List (VoteLine (ℕ × ℕ))
third_time = (5, 7) held 0 ∷ (5, 7) held 0 ∷ (5, 7) alarm 0 ∷ (5, 5) agreed 5 ∷ []

-- "Reserve vote, N 2, n 3, initial 0, units 1 to 4"
abbrev pub hand_over : List (VoteLine Sample)
hand_over =
    ((5, 5), (5, 5)) agreed 5 ∷
    ((5, 7), (5, 4)) held 5 ∷
    ((5, 7), (5, 4)) alarm 5 ∷
    ((5, 7), (5, 4)) held 5 ∷
    ((5, 7), (5, 4)) held 5 ∷
    ((5, 7), (4, 4)) agreed 4 ∷
    []

abbrev pub table : List Row
table =
    sizing-n 1 Tm 10 TM 12 D 0 gives-N 1 age: 12 gap: 24 ∷
    count-n 1 Tm 10 TM 12 D 10 is 2 ∷
    sizing-n 3 Tm 10 TM 12 D 25 gives-N 3 age: 133 gap: 145 ∷
    count-n 1 Tm 1 TM 1 D 999 is 1_000 ∷
    sizing-n 1 Tm 1 TM 1 D 1_000 refused 10 ∷
    recording recorded lists listed ∷
    vote-n 3 N 1 from 0 lists at_once ∷
    vote-n 3 N 3 from 0 lists third_time ∷
    reserve-n 3 N 2 from 0 lists hand_over ∷
    readings 0·0 and 0·5 and 1·0 tolerance 0·5 agreed 0·5 ∷
    readings 1·0 and 2·0 and 3·0 tolerance 0·5 alarm ∷
    readings −0 and 0·0 and 1·0 tolerance 0·0 agreed −0 ∷
    []
