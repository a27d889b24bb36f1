-- The refusals of document 01 by name, and their numbers: "given exactly when" is said of the numbers, in tables.
use Rattle.std.specs.Prelude.{ℕ, Bool, eqb, if◌then◌else◌, Option, Some, None, Result, Ok, Err}
use Rattle.rules.specs.declared.refusal.Refusal.{Refusal}
use Rattle.rules.specs.declared.refusal.Refusal.TheVariants.{
  Count,
  Width,
  TooLong,
  Lengths,
  Word,
  Sample,
  State,
  Times,
  TooMany,
  Reading,
  NotRecording,
}

-- 8 is given to nothing: a voted word is never outside the width
abbrev pub number : Refusal → ℕ
number Count = 1
number Width = 2
number TooLong = 3
number Lengths = 4
number Word = 5
number Sample = 6
number State = 7
number Times = 9
number TooMany = 10
number Reading = 11
number NotRecording = 12

-- the refusal that has this number; the numbers that none has go to the last
unfoldable pub refusal_of : ℕ → Refusal
refusal_of k =
    if eqb k 1 then Count else
    if eqb k 2 then Width else
    if eqb k 3 then TooLong else
    if eqb k 4 then Lengths else
    if eqb k 5 then Word else
    if eqb k 6 then Sample else
    if eqb k 7 then State else
    if eqb k 9 then Times else
    if eqb k 10 then TooMany else
    if eqb k 11 then Reading else
    NotRecording

-- a number that a refusal has
abbrev pub is_refusal : ℕ → Bool
is_refusal k = eqb (number (refusal_of k)) k

-- what the number of a table tells: 0 is no refusal
unfoldable pub told : ℕ → Result (Unit {0}) Refusal
told k = if eqb k 0 then Ok tt else Err (refusal_of k)

-- one row: refused where its test is true
abbrev pub row : Refusal → Bool → Result (Unit {0}) Refusal
row refusal bad = if bad then Err refusal else Ok tt

-- a second row below: it is asked where the first refuses nothing, as `?` has it
abbrev pub below : Result (Unit {0}) Refusal → Result (Unit {0}) Refusal → Result (Unit {0}) Refusal
below (Ok x) second = second
below (Err refusal) second = Err refusal

-- the number of a refusal, if there is one; 0 is none
abbrev pub number_in : Option Refusal → ℕ
number_in None = 0
number_in (Some refusal) = number refusal
