-- A row is an example as document 01 writes it; `Holds` says what it claims of the definitions that the contracts cite.
use Rattle.std.specs.Prelude.{ℕ, ◌≡◌, List, [], ◌∷◌, ◌++◌, map, Float, None}
use Prim.Native.String.{String}
use Rattle.rules.specs.Refusal.{refusal_of}
use Rattle.trace.specs.Answers.{done}
use Rattle.sizing.specs.Sizing.{sizing_of, not_sized}
use Rattle.threshold.specs.Threshold.{threshold_of}
use Rattle.vote.specs.Vote as vote
use Rattle.vote.specs.Run as vote_run
use Rattle.reserve.specs.Reserve as reserve
use Rattle.reserve.specs.Run as reserve_run
use Rattle.text.specs.Text.{bytes}
use Rattle.listing.specs.Listing.{text_of}
use Rattle.threshold.specs.declared.Threshold.TheVariants.{Agreed, Alarm}

-- the lines of a listing, each ended by a newline
abbrev pub as_text : List String → List ℕ
as_text [] = []
as_text (line ∷ lines) = bytes line ++ bytes "\n" ++ as_text lines

-- a line of a listing of a vote: what the units show, the mark, the word
infix 70 ◌agreed◌ ◌held◌ ◌alarm◌
pub data VoteLine (X : Type 0) : Type 0 where
  ◌agreed◌ ◌held◌ ◌alarm◌ : X → ℕ → VoteLine X

abbrev pub seen_in : {X : Type 0} → VoteLine X → X
seen_in (x agreed w) = x
seen_in (x held w) = x
seen_in (x alarm w) = x

abbrev pub word_in : {X : Type 0} → VoteLine X → ℕ
word_in (x agreed w) = w
word_in (x held w) = w
word_in (x alarm w) = w

abbrev pub mark_in : {X : Type 0} → VoteLine X → ℕ
mark_in (x agreed w) = 0
mark_in (x held w) = 1
mark_in (x alarm w) = 2

-- what one unit shows
abbrev pub column : {X : Type 0} → (X → ℕ) → List (VoteLine X) → List ℕ
column {X} unit = map (λ (l : VoteLine X). unit (seen_in l))

infix 70 sizing-n◌Tm◌TM◌D◌gives-N◌age:◌gap:◌ count-n◌Tm◌TM◌D◌is◌ sizing-n◌Tm◌TM◌D◌refused◌
infix 70 recording◌lists◌ vote-n◌N◌from◌lists◌ reserve-n◌N◌from◌lists◌
infix 70 readings◌and◌and◌tolerance◌agreed◌ readings◌and◌and◌tolerance◌alarm
pub data Row : Type 0 where
  sizing-n◌Tm◌TM◌D◌gives-N◌age:◌gap:◌ : ℕ → ℕ → ℕ → ℕ → ℕ → ℕ → ℕ → Row
  count-n◌Tm◌TM◌D◌is◌ : ℕ → ℕ → ℕ → ℕ → ℕ → Row
  sizing-n◌Tm◌TM◌D◌refused◌ : ℕ → ℕ → ℕ → ℕ → ℕ → Row
  recording◌lists◌ : List ℕ → List String → Row
  vote-n◌N◌from◌lists◌ : ℕ → ℕ → ℕ → List (VoteLine (ℕ × ℕ)) → Row
  reserve-n◌N◌from◌lists◌ : ℕ → ℕ → ℕ → List (VoteLine reserve_run.Sample) → Row
  readings◌and◌and◌tolerance◌agreed◌ : Float → Float → Float → Float → Float → Row
  readings◌and◌and◌tolerance◌alarm : Float → Float → Float → Float → Row

-- a sizing is claimed field by field; a run is lent slices of the right lengths, and what they hold before does not matter: the
-- marks stand for the slice of T-09, too
abbrev pub Holds : Row → Type 0
Holds (sizing-n n Tm tm TM tM D d gives-N need age: old gap: quiet) = let z = sizing_of n tm tM d in (z.refusal ≡ None) × (z.need ≡ need) × (z.age ≡ old) × (z.quiet ≡ quiet)
Holds (count-n n Tm tm TM tM D d is need) = (sizing_of n tm tM d).need ≡ need
Holds (sizing-n n Tm tm TM tM D d refused number) = sizing_of n tm tM d ≡ not_sized (refusal_of number)
Holds (recording s lists lines) = text_of s ≡ as_text lines
Holds (vote-n n N need from word lists lines) =
    (vote_run.answer_of n need word (column (λ x. x.0) lines) (column (λ x. x.1) lines) (map word_in lines) (map mark_in lines) (map mark_in lines) ≡ done)
    × (map vote_run.shown_word (vote_run.steps (vote.fresh n need word) (map seen_in lines)) ≡ map word_in lines)
    × (map vote_run.shown_mark (vote_run.steps (vote.fresh n need word) (map seen_in lines)) ≡ map mark_in lines)
Holds (reserve-n n N need from word lists lines) =
    (reserve_run.answer_of n need word (column (λ x. x.0.0) lines) (column (λ x. x.0.1) lines) (column (λ x. x.1.0) lines) (column (λ x. x.1.1) lines) (map word_in lines) (map mark_in lines) (map mark_in lines) ≡ done)
    × (map reserve_run.shown_word (reserve_run.steps (reserve.fresh n need word) (map seen_in lines)) ≡ map word_in lines)
    × (map reserve_run.shown_mark (reserve_run.steps (reserve.fresh n need word) (map seen_in lines)) ≡ map mark_in lines)
Holds (readings x1 and x2 and x3 tolerance t agreed m) = threshold_of (record { x1 = x1; x2 = x2; x3 = x3; tolerance = t }) ≡ Agreed m
Holds (readings x1 and x2 and x3 tolerance t alarm) = threshold_of (record { x1 = x1; x2 = x2; x3 = x3; tolerance = t }) ≡ Alarm

abbrev pub Every : List Row → Type 0
Every [] = Unit
Every (row ∷ rows) = Holds row × Every rows
