-- The recording: document 01, "The recording". Its bytes, field by field, and what the reader makes of them.
use Rattle.std.specs.Prelude.{ℕ, ◌+◌, ◌*◌, ◌≤◌, ◌≡◌, List, [], ◌∷◌, ◌++◌, Bool, not, ◌&&◌, ◌||◌, ltb, length, get_or, drop, Option, Some, None, if◌then◌else◌, Result, Ok, Err}
use Rattle.rules.specs.Limits.{bad_count, bad_width, too_long, differ, outside}
use Rattle.rules.specs.Signals.{as_list, some_below}
use Rattle.rules.specs.Table.{Row, ◌when◌, first, answer}
use Rattle.trace.specs.Answers.{not_run, done}
use Rattle.trace.specs.Samples.{first_where, somewhere}
use Rattle.trace.specs.declared.Refused.{Refused}
use Rattle.rules.specs.declared.refusal.Refusal.{Refusal}
use Rattle.recording.specs.declared.Header.{Header}
use Rattle.recording.specs.declared.RecordingRead.{RecordingRead}

-- offset 0: the bytes 51 53 52 31, "QSR1"
abbrev pub tag : List ℕ
tag = 0x51 ∷ 0x53 ∷ 0x52 ∷ 0x31 ∷ []

-- a little-endian u32 field; what lies past the end counts as zero
abbrev pub field : List ℕ → ℕ → ℕ
field s at = get_or s at 0 + 256 * get_or s (at + 1) 0 + 65536 * get_or s (at + 2) 0 + 16777216 * get_or s (at + 3) 0

-- 4: units; 8: samples; 12: n; 16: N; 20: initial word
abbrev pub header_of : List ℕ → Header
header_of s = record { units = field s 4; samples = field s 8; n = field s 12; need = field s 16; word = field s 20 }

-- the times are column 0 and unit k is column k. Each follows directly on what stands before; the header has 44 bytes
abbrev pub column_at : ℕ → ℕ → ℕ
column_at samples k = 44 + 4 * (samples * k)

abbrev pub present : ℕ → ℕ → Bool
present units k = not (ltb units k)

-- 24: offset of the times, always 44; 28, 32, 36, 40: offsets of the unit columns; absent units have 0
abbrev pub offset_of : ℕ → ℕ → ℕ → ℕ
offset_of units samples k = if present units k then column_at samples k else 0

-- a column has one field per sample
abbrev pub sample_at : List ℕ → ℕ → ℕ → ℕ → ℕ
sample_at s samples k i = field s (column_at samples k + 4 * i)

-- 4: a slice lent to the reader has not 2,048 places
abbrev pub not_full : List ℕ → Bool
not_full lent = differ (length lent) 2048

abbrev pub mislent : List ℕ → List ℕ → List ℕ → List ℕ → List ℕ → Bool
mislent times one two three four = not_full times || not_full one || not_full two || not_full three || not_full four

-- 12: shorter than 44 bytes, the tag, or the number of units
abbrev pub bad_tag : List ℕ → Bool
bad_tag s = some_below 4 (λ i. differ (get_or s i 0) (get_or tag i 0))

abbrev pub bad_units : ℕ → Bool
bad_units units = differ units 1 && differ units 2 && differ units 4

abbrev pub bad_head : List ℕ → Bool
bad_head s = ltb (length s) 44 || bad_tag s || bad_units (header_of s).units

-- 12: an offset; or the length, as the file ends after the last column
abbrev pub bad_offset : List ℕ → Header → ℕ → Bool
bad_offset s h k = differ (field s (24 + 4 * k)) (offset_of h.units h.samples k)

abbrev pub bad_layout : List ℕ → Header → Bool
bad_layout s h = some_below 5 (bad_offset s h) || differ (length s) (column_at h.samples (h.units + 1))

-- 6, of sample i: a unit that is present shows a word outside the width. Times are not judged
abbrev pub outside_at : List ℕ → Header → ℕ → Bool
outside_at s h i = some_below h.units (λ k. outside h.n (sample_at s h.samples (k + 1) i))

abbrev pub numbers : Header → List ℕ
numbers h = as_list h.samples (λ i. i)

-- of column k: some sample of it is outside the width
abbrev pub column_outside : List ℕ → Header → ℕ → Bool
column_outside s h k = somewhere (λ i. outside h.n (sample_at s h.samples k i)) (numbers h)

-- the number of the first sample that shows a word outside the width, if one does
abbrev pub first_outside : List ℕ → Header → Option ℕ
first_outside s h = if somewhere (outside_at s h) (numbers h) then Some (first_where (outside_at s h) (numbers h)) else None

-- the recording's own order: lent slices (4); shorter than 44 bytes, tag, units (12); samples (3); offsets and length (12); then 1, 2, 5, 6
abbrev pub head_rows : Bool → List ℕ → List Row
head_rows lent s =
    4 when lent ∷
    12 when bad_head s ∷
    3 when too_long (header_of s).samples ∷
    []

abbrev pub layout_rows : List ℕ → Header → List Row
layout_rows s h =
    12 when bad_layout s h ∷
    1 when bad_count h.need ∷
    2 when bad_width h.n ∷
    5 when outside h.n h.word ∷
    []

abbrev pub shape_rows : Bool → List ℕ → List Row
shape_rows lent s = head_rows lent s ++ layout_rows s (header_of s)

abbrev pub rows_of : Bool → List ℕ → List Row
rows_of lent s = shape_rows lent s ++ (6 when somewhere (outside_at s (header_of s)) (numbers (header_of s)) ∷ [])

-- refused: zeros for the header's values; the smallest sample number comes with 6, and 0 with any other
abbrev pub zeros : Header
zeros = record { units = 0; samples = 0; n = 0; need = 0; word = 0 }

abbrev pub refused_at : Refused → RecordingRead
refused_at refused = record { header = zeros; answer = Err refused }

-- what a header, or what refuses it, is as the reader's answer
abbrev pub read_as : Result Header Refused → RecordingRead
read_as (Ok h) = record { header = h; answer = done }
read_as (Err refused) = refused_at refused

-- the header, where a table gives no number
abbrev pub header_or : ℕ → List ℕ → Result Header Refusal
header_or number s = answer number (λ refusal. Err refusal) (Ok (header_of s))

unfoldable pub read_of : Bool → List ℕ → RecordingRead
read_of lent s =
    record {
      header = answer (first (rows_of lent s)) (λ refusal. zeros) (header_of s);
      answer = answer (first (rows_of lent s)) (not_run (first_where (outside_at s (header_of s)) (numbers (header_of s)))) done;
    }

-- how many places of a column's slice are filled: none if the unit is absent; none if refused, since the header is zeros then
abbrev pub places : Header → ℕ → ℕ
places h k = if present h.units k then h.samples else 0

-- a lent slice afterwards: the column on its first places, and the other places as they came
abbrev pub slice_after : List ℕ → Header → ℕ → List ℕ → List ℕ
slice_after s h k lent = as_list (places h k) (sample_at s h.samples k) ++ drop (places h k) lent

-- a recording whose layout is accepted: what its columns lie in
pub record Laid (s : List ℕ) (h : Header) : Type 0 where
  pub few : h.samples ≤ 2048
  pub units_few : h.units ≤ 4
  pub ends : length s ≡ column_at h.samples (h.units + 1)

-- what the reader promises of its answer and of each lent slice
pub record Read (s times one two three four : List ℕ) (r : RecordingRead) (times' one' two' three' four' : List ℕ) : Type 0 where
  pub answered : r ≡ read_of (mislent times one two three four) s
  pub times_after : times' ≡ slice_after s r.header 0 times
  pub one_after : one' ≡ slice_after s r.header 1 one
  pub two_after : two' ≡ slice_after s r.header 2 two
  pub three_after : three' ≡ slice_after s r.header 3 three
  pub four_after : four' ≡ slice_after s r.header 4 four
