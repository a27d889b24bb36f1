-- What the sizing, the threshold vote, the reader and the listing promise for C.
use Rattle.std.specs.Prelude.{ℕ, ◌≡◌, List, [], ◌∷◌, Float, length, get_or}
use Rattle.rules.specs.Refusal.{number_in}
use Rattle.std.specs.Float.{nan}
use Rattle.sizing.specs.declared.Sizing.{Sizing}
use Rattle.threshold.specs.Threshold.{number_of}
use Rattle.threshold.specs.declared.Readings.{Readings}
use Rattle.threshold.specs.declared.Threshold.{Threshold}
use Rattle.threshold.specs.declared.Threshold.TheVariants.{Agreed, Alarm, Refused}
use Rattle.trace.specs.Answers.{run_number}
use Rattle.recording.specs.Recording.{mislent, read_of, Read}
use Rattle.recording.specs.declared.Header.{Header}
use Rattle.recording.specs.declared.RecordingRead.{RecordingRead}
use Rattle.listing.specs.Listing.{answer_of, Lists}
use Rattle.listing.specs.declared.ListAnswer.{ListAnswer}
use Rattle.listing.specs.declared.ListAnswer.TheVariants.{Listed, Refused as LineOnly, TooShort}
use Rattle.scorvemaglio.specs.Lent.{Makes, Tells, unless_refused}

-- the sizing writes the confirmation's count, the votes', the age bound and the quiet gap
abbrev pub MakesSizing : Sizing → List ℕ → ℕ → List ℕ → Type 0
MakesSizing x = Makes (number_in x.refusal) (x.need ∷ x.votes ∷ x.age ∷ x.quiet ∷ [])

-- the readings as C has them: four floats
abbrev pub readings_of : List Float → Readings
readings_of s = record { x1 = get_or s 0 nan; x2 = get_or s 1 nan; x3 = get_or s 2 nan; tolerance = get_or s 3 nan }

-- the threshold vote writes a mark, 0 agreed or 2 alarm, and the reading that was agreed on; with an alarm there is none
abbrev pub reading_after : Threshold → Float → Float
reading_after (Agreed m) lent = m
reading_after Alarm lent = lent
reading_after (Refused refusal) lent = lent

abbrev pub mark_after : Threshold → ℕ → ℕ
mark_after (Agreed m) lent = 0
mark_after Alarm lent = 2
mark_after (Refused refusal) lent = lent

pub record Votes (x : Threshold) (agreed : Float) (mark : ℕ) (r : ℕ) (agreed' : Float) (mark' : ℕ) : Type 0 where
  pub answered : r ≡ number_of x
  pub agreed_after : agreed' ≡ reading_after x agreed
  pub mark_after_is : mark' ≡ mark_after x mark

-- the reader writes the header's values; its slices are what `Read` says of them
abbrev pub header_numbers : Header → List ℕ
header_numbers h = h.units ∷ h.samples ∷ h.n ∷ h.need ∷ h.word ∷ []

abbrev pub header_after : RecordingRead → List ℕ → List ℕ
header_after x lent = unless_refused (run_number x.answer) lent (header_numbers x.header)

-- what it makes of the bytes, given the lengths of the five slices
abbrev pub read_from : List ℕ → List ℕ → List ℕ → List ℕ → List ℕ → List ℕ → RecordingRead
read_from s times one two three four = read_of (mislent times one two three four) s

pub record ReadsRecording (s times one two three four header : List ℕ) (r sample' : ℕ) (times' one' two' three' four' header' : List ℕ) : Type 0 where
  pub told : Tells (read_from s times one two three four).answer r sample'
  pub header_after_is : header' ≡ header_after (read_from s times one two three four) header
  pub was_read : Read s times one two three four (read_from s times one two three four) times' one' two' three' four'

-- the listing: 100 for a buffer that is too short; otherwise the text's length, and whether it is a refused recording's line
abbrev pub list_number : ListAnswer → ℕ
list_number (Listed k) = 0
list_number (LineOnly k) = 0
list_number TooShort = 100

abbrev pub written_after : ListAnswer → ℕ → ℕ
written_after (Listed k) lent = k
written_after (LineOnly k) lent = k
written_after TooShort lent = lent

abbrev pub refused_after : ListAnswer → ℕ → ℕ
refused_after (Listed k) lent = 0
refused_after (LineOnly k) lent = 1
refused_after TooShort lent = lent

pub record TellsListing (x : ListAnswer) (written refused r written' refused' : ℕ) : Type 0 where
  pub answered : r ≡ list_number x
  pub written_after_is : written' ≡ written_after x written
  pub refused_after_is : refused' ≡ refused_after x refused

pub record ListsRecording (s out : List ℕ) (written refused r : ℕ) (out' : List ℕ) (written' refused' : ℕ) : Type 0 where
  pub told : TellsListing (answer_of (length out) s) written refused r written' refused'
  pub listed : Lists s out (answer_of (length out) s) out'
