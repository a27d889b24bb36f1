-- The same for the sizing, the threshold vote, the reader, the listing and the version.
use Prim.Native.Nat.{ℕ}
use mathlib.Core.List.{List, [], ◌∷◌, ◌++◌}
use contract.Lifetimes.{Lfts}
use lib.Ieee.{Float}
use lib.ListN.{length, drop}
use Rattle.rules.specs.Refusal.{number_in}
use Rattle.std.specs.Prelude.{if◌then◌else◌}
use Rattle.rules.specs.Promise.{Fixes}
use Rattle.rules.proofs.Promise.{fixes}
use Rattle.trace.specs.Answers.{run_number, run_sample}
use Rattle.sizing.specs.Sizing.{sizing_of}
use Rattle.threshold.specs.Threshold.{number_of, threshold_of}
use Rattle.recording.specs.Recording.{slice_after}
use Rattle.listing.specs.Listing.{answer_of, text_of, too_short}
use Rattle.scorvemaglio.specs.Others.{readings_of, reading_after, mark_after, read_from, header_after, list_number, written_after, refused_after}
use Rattle.scorvemaglio.specs.Version.{version}
use Rattle.scorvemaglio.proofs.Unique.{Made, made, makes_says}
use Rattle.scorvemaglio.proofs.others.scorve_sizing_of.Reads as sizing-of
use Rattle.scorvemaglio.proofs.others.scorve_threshold_vote.Reads as threshold-vote
use Rattle.scorvemaglio.proofs.others.scorve_recording_read.Reads as recording-read
use Rattle.scorvemaglio.proofs.others.scorve_listing_list.Reads as listing-list
use Rattle.scorvemaglio.proofs.version.scorve_version.Reads as told

pub sizing_of_unique :
    (κs : Lfts 1)
    → Fixes {O = Made} (sizing-of.Learnt κs) (λ z e. (z, e.1.1.1.1.0.now))
    (λ a.
    let x = sizing_of a.0 a.1.0 a.1.1.0 a.1.1.1.0 in
    made (number_in x.refusal) (x.need ∷ x.votes ∷ x.age ∷ x.quiet ∷ []) a.1.1.1.1.0.now)
sizing_of_unique κs = fixes (λ a z e p. makes_says p)

-- the number, the reading and the mark
abbrev Voted : Type 0
Voted = ℕ × Float × ℕ

pub threshold_vote_unique :
    (κs : Lfts 3)
    → Fixes {O = Voted} (threshold-vote.Learnt κs) (λ z e. (z, e.1.0.now, e.1.1.0.now))
    (λ a. let x = threshold_of (readings_of a.0.now) in (number_of x, reading_after x a.1.0.now, mark_after x a.1.1.0.now))
threshold_vote_unique κs = fixes (λ a z e p. cc)

-- the number, the sample's number, the header's values and the five slices
abbrev Read : Type 0
Read = ℕ × ℕ × List ℕ × List ℕ × List ℕ × List ℕ × List ℕ × List ℕ

abbrev was_read : List ℕ → List ℕ → List ℕ → List ℕ → List ℕ → List ℕ → List ℕ → Read
was_read s times one two three four header =
    let x = read_from s times one two three four in
    let h = x.header in
    (run_number x.answer, run_sample x.answer, header_after x header, slice_after s h 0 times, slice_after s h 1 one, slice_after s h 2 two, slice_after s h 3 three, slice_after s h 4 four)

pub recording_read_unique :
    (κs : Lfts 8)
    → Fixes {O = Read} (recording-read.Learnt κs)
    (λ z e.
    let lent = e.1 in
    let last = lent.1.1.1.1.1 in
    (z, last.1.0.now, last.0.now, lent.0.now, lent.1.0.now, lent.1.1.0.now, lent.1.1.1.0.now, lent.1.1.1.1.0.now))
    (λ a.
    let lent = a.1 in
    was_read a.0.now lent.0.now lent.1.0.now lent.1.1.0.now lent.1.1.1.0.now lent.1.1.1.1.0.now lent.1.1.1.1.1.0.now)
recording_read_unique κs = fixes (λ a z e p. let r = p.was_read in let t = p.told in cc)

-- the number, the buffer, the text's length and whether it is a refused recording's line
abbrev Listed : Type 0
Listed = ℕ × List ℕ × ℕ × ℕ

pub listing_list_unique :
    (κs : Lfts 4)
    → Fixes {O = Listed} (listing-list.Learnt κs) (λ z e. (z, e.1.0.now, e.1.1.0.now, e.1.1.1.0.now))
    (λ a.
    let s = a.0.now in
    let out = a.1.0.now in
    let x = answer_of (length out) s in
    (list_number x, if too_short (length out) then out else text_of s ++ drop (length (text_of s)) out, written_after x a.1.1.0.now, refused_after x a.1.1.1.0.now))
listing_list_unique κs = fixes (λ a z e p. let l = p.listed in let t = p.told in cc)

pub version_unique : Fixes (told.Learnt tt) (λ z e. z) (λ a. version)
version_unique = fixes (λ a z e p. p)
