-- What the reader leaves, where it has accepted: columns that a run takes, whose text is the recording's.
use mathlib.Core.Path.{◌≡◌, sym, ap, ◌∙◌}
use mathlib.Core.Bool.{false}
use mathlib.Core.List.{List}
use Prim.Native.Nat.{ℕ}
use lib.ListN.{take}
use Rattle.trace.specs.Answers.{RunResult}
use Rattle.trace.specs.Answers.{done}
use Rattle.recording.specs.declared.RecordingRead.{RecordingRead}
use Rattle.recording.specs.Recording.{header_of, read_of, Read}
use Rattle.recording.proofs.Taken.{Accepted, taken}
use Rattle.listing.specs.Listing.{units_text, text_of}
use Rattle.listing.specs.Runnable.{Runnable, Units}
use Rattle.listing.proofs.Columns.{runnable, fit, same_text}
use Rattle.listing.proofs.Texts.{accepted_text}

abbrev pub answer_of_lem : RecordingRead → RunResult
answer_of_lem r = r.answer

module _
    (s times one two three four : List ℕ) (r : RecordingRead) (times' one' two' three' four' : List ℕ)
    (read : Read s times one two three four r times' one' two' three' four') (e : r ≡ read_of false s) (done : r.answer ≡ done) where
  ok : Accepted false s
  ok = taken false s (ap answer_of_lem (sym e) ∙ done)

  shown : r.header ≡ header_of s
  shown = ap (λ (r : RecordingRead). r.header) e ∙ ok.shown

  abbrev cut : List ℕ → List ℕ
  cut lent = take r.header.samples lent

  pub ready : Runnable r.header
  ready = rw shown (runnable s ok)

  pub columns : Units r.header (cut one') (cut two') (cut three') (cut four')
  columns = rw (read.one_after, read.two_after, read.three_after, read.four_after, shown) (fit s ok one two three four)

  pub text : text_of s ≡ units_text r.header (cut one') (cut two') (cut three') (cut four')
  text = rw (read.one_after, read.two_after, read.three_after, read.four_after, shown) (accepted_text s ok (ap answer_of_lem (sym e) ∙ done) ∙ sym (same_text s ok one two three four))
