-- The text of a listing: document 01, "The recording". Bytes of a recording in, text out, line by line.
use Rattle.std.specs.Prelude.{ℕ, zero, suc, ◌≤◌, ◌≡◌, Bool, false, ltb, eqb, length, get_or, drop, if◌then◌else◌, Ok, Err}
use Prim.Native.Char.{code}
use Prim.Native.String.{String}
use mathlib.Core.List.{List, [], ◌++◌, map, zip}
use Rattle.rules.specs.Signals.{as_list}
use Rattle.trace.specs.Answers.{RunResult}
use Rattle.rules.specs.Refusal.{number}
use Rattle.confirm.specs.Confirm as confirm
use Rattle.confirm.specs.Run as confirm_run
use Rattle.tuple.specs.Tuple as tuple
use Rattle.tuple.specs.Run as tuple_run
use Rattle.tuple.specs.declared.TupleStep.{TupleStep}
use Rattle.reserve.specs.Reserve as reserve
use Rattle.reserve.specs.Run as reserve_run
use Rattle.recording.specs.Recording.{sample_at, read_of}
use Rattle.recording.specs.declared.Header.{Header}
use Rattle.text.specs.Text.{bytes, decimal, line}
use Rattle.listing.specs.declared.Kind.{Kind}
use Rattle.listing.specs.declared.Kind.TheVariants.{Confirm, Pair, Reserve}
use Rattle.listing.specs.declared.ListAnswer.{ListAnswer}
use Rattle.listing.specs.declared.ListAnswer.TheVariants.{Listed, Refused, TooShort}

-- first line: `confirm`, `pair` or `reserve`, then samples, n, N in decimal
abbrev pub name : Kind → String
name Confirm = "confirm"
name Pair = "pair"
name Reserve = "reserve"

unfoldable pub heading : Kind → ℕ → ℕ → ℕ → List ℕ
heading kind samples n need =
    bytes (name kind) ++ bytes " " ++ decimal samples ++ bytes " " ++ decimal n ++ bytes " " ++ decimal need ++ bytes "\n"

-- the mark is C confirmed, A agreed, H held, ! alarm (`pair` uses C, H, !)
abbrev pub passed : Kind → ℕ
passed Confirm = code "C"
passed Pair = code "C"
passed Reserve = code "A"

abbrev pub letter : Kind → ℕ → ℕ
letter kind mark =
    if eqb mark 0 then passed kind else
    if eqb mark 1 then code "H" else
    code "!"

-- texts one after the other: f 0, f 1, … below n
unfoldable pub joined : ℕ → (ℕ → List ℕ) → List ℕ
joined zero f = []
joined (suc n) f = joined n f ++ f n

-- a line per sample: number, output word in 8 lowercase hex digits, a mark, and 8 hex digits more
abbrev pub line_at : Kind → List ℕ → List ℕ → List ℕ → ℕ → List ℕ
line_at kind words marks lasts i = line i (get_or words i 0) (letter kind (get_or marks i 0)) (get_or lasts i 0)

-- a whole listing, of what a run showed: words, marks, and last fields
unfoldable pub listing_of : Kind → ℕ → ℕ → List ℕ → List ℕ → List ℕ → List ℕ
listing_of kind n need words marks lasts = heading kind (length words) n need ++ joined (length words) (line_at kind words marks lasts)

-- the last field is the count after the step for `confirm`, the alarm mask for `pair`, and for `reserve` the pair that was voted on, 1 or 2
abbrev pub confirm_text : ℕ → ℕ → ℕ → List ℕ → List ℕ
confirm_text n need word samples =
    let steps = confirm_run.steps (confirm.fresh n need word) samples in
    listing_of Confirm n need (map confirm_run.shown_word steps) (map confirm_run.shown_mark steps) (map confirm_run.shown_count steps)

-- the recording's N serves the voters and the confirmation
abbrev pub pair_steps : ℕ → ℕ → ℕ → List ℕ → List ℕ → List TupleStep
pair_steps n need word one two = tuple_run.steps (tuple.fresh n need need word) (zip one two)

abbrev pub pair_text : ℕ → ℕ → ℕ → List ℕ → List ℕ → List ℕ
pair_text n need word one two =
    let steps = pair_steps n need word one two in
    listing_of Pair n need (map tuple_run.shown_word steps) (map tuple_run.shown_mark steps) (map tuple_run.shown_mask steps)

abbrev pub reserve_text : ℕ → ℕ → ℕ → List ℕ → List ℕ → List ℕ → List ℕ → List ℕ
reserve_text n need word one two three four =
    let steps = reserve_run.steps (reserve.fresh n need word) (reserve_run.samples_of one two three four) in
    listing_of Reserve n need (map reserve_run.shown_word steps) (map reserve_run.shown_mark steps) (map reserve_run.shown_pair steps)

-- one unit is confirmed, two take the tuple vote, four the reserve vote
abbrev pub units_text : Header → List ℕ → List ℕ → List ℕ → List ℕ → List ℕ
units_text h one two three four =
    if eqb h.units 1 then confirm_text h.n h.need h.word one else
    if eqb h.units 2 then pair_text h.n h.need h.word one two else
    reserve_text h.n h.need h.word one two three four

-- unit k's column of a recording
abbrev pub unit : List ℕ → Header → ℕ → List ℕ
unit s h k = as_list h.samples (sample_at s h.samples k)

-- a refused recording gives one line, as `refused 6 at 3`
unfoldable pub refused_text : ℕ → ℕ → List ℕ
refused_text number sample = bytes "refused " ++ decimal number ++ bytes " at " ++ decimal sample ++ bytes "\n"

-- the text of a recording's bytes; the reader is lent slices of 2,048 places
abbrev pub text_for : RunResult → List ℕ → Header → List ℕ
text_for (Ok x) s h = units_text h (unit s h 1) (unit s h 2) (unit s h 3) (unit s h 4)
text_for (Err r) s h = refused_text (number r.refusal) r.sample

unfoldable pub text_of : List ℕ → List ℕ
text_of s = text_for (read_of false s).answer s (read_of false s).header

-- a buffer that could not take the longest text is too short, whatever the recording: 21 bytes for the first line, and 50,090 for 2,048 lines
abbrev pub longest : ℕ
longest = 50111

abbrev pub too_short : ℕ → Bool
too_short room = ltb room longest

-- the answer: what was written, and how long it is
abbrev pub answer_for : RunResult → ℕ → ListAnswer
answer_for (Ok x) written = Listed written
answer_for (Err r) written = Refused written

abbrev pub answer_of : ℕ → List ℕ → ListAnswer
answer_of room s = if too_short room then TooShort else answer_for (read_of false s).answer (length (text_of s))

-- how many bytes of the buffer the answer speaks of
abbrev pub written_of : ListAnswer → ℕ
written_of (Listed written) = written
written_of (Refused written) = written
written_of TooShort = 0

-- what the listing promises of its answer and of the buffer: the text at its start, and all after it as it came; nothing where it is too short
pub record Lists (s out : List ℕ) (r : ListAnswer) (out' : List ℕ) : Type 0 where
  pub answered : r ≡ answer_of (length out) s
  pub within : written_of r ≤ length out'
  pub out_after : out' ≡ (if too_short (length out) then out else text_of s ++ drop (length (text_of s)) out)
