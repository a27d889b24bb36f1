-- Serves proofs, and the statement of `one_never`: what the parts of the listing hand to each other, columns that a run accepts,
-- room for what it writes, and a page that is written on.
use Rattle.std.specs.Prelude.{ℕ, ◌≤◌, ◌≡◌, false, List, ◌⊎◌, length}
use Rattle.rules.specs.Limits.{bad_count, bad_width, outside}
use Rattle.trace.specs.Samples.{somewhere}
use Rattle.recording.specs.declared.Header.{Header}
use Rattle.text.specs.Put.{Writes}
use Rattle.listing.specs.declared.sheet.Page.{Page}

-- a column that a run takes: a word for each sample, all inside the width
pub record Column (h : Header) (xs : List ℕ) : Type 0 where
  pub whole : length xs ≡ h.samples
  pub inside : somewhere (outside h.n) xs ≡ false

pub record Runnable (h : Header) : Type 0 where
  pub few : h.samples ≤ 2048
  pub counted : bad_count h.need ≡ false
  pub wide : bad_width h.n ≡ false
  pub word_in : outside h.n h.word ≡ false

-- the columns of the units that are present
pub record Units (h : Header) (one two three four : List ℕ) : Type 0 where
  pub known : (h.units ≡ 1) ⊎ ((h.units ≡ 2) ⊎ (h.units ≡ 4))
  pub first : Column h one
  pub second : 2 ≤ h.units → Column h two
  pub third : 4 ≤ h.units → Column h three
  pub fourth : 4 ≤ h.units → Column h four

-- a place for each sample
pub record Room (h : Header) (words marks lasts : List ℕ) : Type 0 where
  pub for_words : length words ≡ h.samples
  pub for_marks : length marks ≡ h.samples
  pub for_lasts : length lasts ≡ h.samples

-- and in a slice for what a run writes and the listing does not show
pub record Spare (h : Header) (told : List ℕ) : Type 0 where
  pub for_told : length told ≡ h.samples

-- the page is the same buffer, and a text was written from its place on, if there was room
pub record Adds (old new : Page) (text : List ℕ) : Type 0 where
  pub same : new.out.ghost_name ≡ old.out.ghost_name
  pub wrote : Writes old.out.now old.at text new.at new.out.now
