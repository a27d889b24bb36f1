-- A part of a run over two columns: it starts with nothing taken, each turn takes one sample more, and past the last it is over.
use mathlib.Core.Path.{◌≡◌, refl, sym, ap, ◌∙◌}
use mathlib.Core.List.{List, [], ◌∷◌, ◌++◌, map, zip}
use mathlib.Core.Bool.{Bool, true, false, ◌&&◌}
use Prim.Native.Nat.{ℕ, suc, ◌+◌, ◌-◌, ◌<◌, ◌≤◌}
use native.Mathlib.Numerals.{add-one}
use native.Mathlib.Omega.{arith}
use lib.Dec.{eqb}
use lib.ListN.{length, get_or, take, drop, set, length-set, length-append, length-drop, length-map, drop_of_length-le, take-append-drop}
use lib.Seq.{drop-cons, drop-drop, drop-set-lt, drop_at, take_all, take_at, length-take-le}
use borrow.Author.Tests.{eq-eqb}
use Rattle.std.specs.Prelude.{if◌then◌else◌}
use Rattle.rules.proofs.Ranges.{same}
use Rattle.rules.proofs.Tables.{or_each}
use Rattle.trace.specs.Answers.{apart_pair}
use Rattle.trace.specs.Trace.{trace, left}
use Rattle.trace.proofs.Columns.{zip_length, zip_at, rests_alike}
use Rattle.trace.proofs.Parts.{left_turn, shown_turn}
use Rattle.trace.proofs.Steps.{trace_length}
use Rattle.vote.specs.declared.Vote.{Vote}
use Rattle.vote.specs.declared.VotePart.{VotePart}
use Rattle.vote.specs.declared.VoteAnswer.{VoteAnswer}
use Rattle.vote.specs.Answers.{VoteStep, word_of, mark_of, which_of}
use Rattle.vote.specs.Parts.{taken_by, part, Parts, Lent, lent, stored, AsLong, Shown, Written, Taken}
use Rattle.vote.specs.Run.{plain, leaves, steps, shown_word, shown_mark, shown_which, unequal}

pub takes_all : (s : Vote) (xs : List (ℕ × ℕ)) → taken_by false s xs ≡ length xs
unfolding taken_by
takes_all s [] = refl
takes_all s (x ∷ xs) = ap suc (takes_all (leaves (plain s x)) xs)

-- what is stored at i changes nothing behind it
rest_turn : (l l₀ : List ℕ) (i v : ℕ) → drop i l ≡ drop i l₀ → drop (i + 1) (set l i v) ≡ drop (i + 1) l₀
rest_turn l l₀ i v e = drop-set-lt (i + 1) l i v (omega arith) ∙ sym (drop-drop 1 i l) ∙ ap (drop 1) e ∙ drop-drop 1 i l₀

-- where no length differs every slice is as long as the first column
pub slices_long : (a b : List ℕ) (l : Lent) → length a ≡ length b → unequal a l.words l.marks l.which ≡ false → AsLong a b l
slices_long a b l ab e =
    let all = or_each (or_each (same _ _) (same _ _)) (same _ _) e in
    record { second_long = ab; words_long = all.0.0; marks_long = all.0.1; which_long = all.1 }

pub all_long : (a b : List ℕ) (l : Lent) → apart_pair a b (unequal a l.words l.marks l.which) ≡ false → AsLong a b l
all_long a b l e =
    let all = or_each (same _ _) (λ e. e) e in
    slices_long a b l all.0 all.1

-- what code stores of an answer, value by value
pub stored_as : (l : Lent) (i : ℕ) (answer : VoteAnswer) {w m u : ℕ} → w ≡ word_of answer → m ≡ mark_of answer → u ≡ which_of answer
    → lent (set l.words i w) (set l.marks i m) (set l.which i u) ≡ stored l i answer
stored_as l i answer p q r = rw (p, q, r)

-- slices that are stored to stay as long
pub stored_long : {a b : List ℕ} {l' : Lent} (l : Lent) (i : ℕ) (answer : VoteAnswer) → l' ≡ stored l i answer → AsLong a b l → AsLong a b l'
stored_long l i answer e p =
    rw e
    (record {
      second_long = p.second_long;
      words_long = p.words_long ∙ sym (length-set l.words i (word_of answer));
      marks_long = p.marks_long ∙ sym (length-set l.marks i (mark_of answer));
      which_long = p.which_long ∙ sym (length-set l.which i (which_of answer));
    })

-- and so are the rests of all, from a sample on
abbrev rest_of : ℕ → List ℕ → List ℕ
rest_of k l = take (length l - k) (drop k l)

pub rests_long : (k : ℕ) (a b : List ℕ) (l : Lent) → AsLong a b l → AsLong (rest_of k a) (rest_of k b) (lent (rest_of k l.words) (rest_of k l.marks) (rest_of k l.which))
rests_long k a b l p =
    record {
      second_long = rests_alike k a b p.second_long;
      words_long = rests_alike k a l.words p.words_long;
      marks_long = rests_alike k a l.marks p.marks_long;
      which_long = rests_alike k a l.which p.which_long;
    }

-- nothing is written yet
none_shown : (f : VoteStep → ℕ) (s₀ : Vote) (xs : List (ℕ × ℕ)) (l : List ℕ) → length l ≡ length xs → Shown f s₀ xs l 0 l
unfolding trace
none_shown f s₀ xs l h = record { long = h; shown = refl; rest = refl }

none_written : (s₀ : Vote) (a b : List ℕ) (l : Lent) → AsLong a b l → Written s₀ (zip a b) l 0 l
none_written s₀ a b l p =
    let long = zip_length a b p.second_long in
    record {
      in_words = none_shown shown_word s₀ (zip a b) l.words (omega (arith, long, p));
      in_marks = none_shown shown_mark s₀ (zip a b) l.marks (omega (arith, long, p));
      in_which = none_shown shown_which s₀ (zip a b) l.which (omega (arith, long, p));
    }

-- the step t on sample i is taken, and what it shows is stored
module _ (s₀ : Vote) (xs : List (ℕ × ℕ)) (i : ℕ) (t : VoteStep) (q : t ≡ plain (left plain leaves s₀ (take i xs)) (get_or xs i (0, 0))) (h : i < length xs) where
  shown_on : (f : VoteStep → ℕ) {l₀ l : List ℕ} → Shown f s₀ xs l₀ i l → Shown f s₀ xs l₀ (i + 1) (set l i (f t))
  shown_on f {l₀} {l} p =
      record {
        long = length-set l i (f t) ∙ p.long;
        shown = rw add-one (shown_turn plain leaves s₀ xs i (0, 0) h f l t (f t) (omega (arith, p.long, h)) q refl p.shown);
        rest = rest_turn l l₀ i (f t) p.rest;
      }

  written_on : {l₀ l : Lent} → Written s₀ xs l₀ i l → Written s₀ xs l₀ (i + 1) (stored l i t.answer)
  written_on p =
      record { in_words = shown_on shown_word p.in_words; in_marks = shown_on shown_mark p.in_marks; in_which = shown_on shown_which p.in_which }

module _ (once : Bool) (s₀ : Vote) (a b : List ℕ) (ab : length a ≡ length b) (l₀ : Lent) where
  abbrev samples : List (ℕ × ℕ)
  samples = zip a b

  as_long : length samples ≡ length a
  as_long = zip_length a b ab

  pub none_taken : AsLong a b l₀ → Taken once s₀ samples l₀ 0 s₀ false l₀
  unfolding left
  none_taken l = record { counted = omega arith; leaving = refl; written = none_written s₀ a b l₀ l }

  module _ (l : Lent) (i : ℕ) (s : Vote) where
    pub all_taken : length a ≤ i → Taken once s₀ samples l₀ i s false l → Taken once s₀ samples l₀ i s true l
    unfolding taken_by
    all_taken h p =
        let past : length samples ≤ i = omega (arith, as_long) in
        record { counted = rw (drop_of_length-le samples past) at p.counted; leaving = p.leaving; written = p.written }

    pub one_taken :
        (t : VoteStep) (l' : Lent) {alarm over : Bool} → t ≡ plain s (get_or a i 0, get_or b i 0) → l' ≡ stored l i t.answer
        → alarm ≡ eqb (shown_mark t) 2 → once && alarm ≡ over → i < length a
        → Taken once s₀ samples l₀ i s false l → Taken once s₀ samples l₀ (i + 1) (leaves t) over l'
    unfolding taken_by
    one_taken t l' q e u told h p =
        let more : i < length samples = omega (arith, as_long) in
        let here : t ≡ plain s (get_or samples i (0, 0)) = q ∙ ap (plain s) (sym (zip_at a b i 0 0 h ab)) in
        let there = here ∙ ap (λ (s : Vote). plain s (get_or samples i (0, 0))) (sym p.leaving) in
        let rest = rw (drop-cons samples i (0, 0) more) at p.counted in
        record {
          counted = rw (← told, u, here, add-one) (omega (arith, rest));
          leaving = rw (add-one, left_turn plain leaves s₀ samples i (0, 0) more) (ap leaves (sym there));
          written = rw e (written_on s₀ samples i t there more p.written);
        }

-- a part that no alarm ends is the whole run
whole :
    (f : VoteStep → ℕ) (s₀ : Vote) (xs : List (ℕ × ℕ)) (l₀ : List ℕ) (end : ℕ) (l : List ℕ) → length xs ≤ end → Shown f s₀ xs l₀ end l → l ≡ map f (steps s₀ xs)
whole f s₀ xs l₀ end l every p = rw (take_all end xs every, take_all end l (omega (arith, p.long))) at p.shown

-- what every slice shows of the steps
pub record Shows (ts : List VoteStep) (l : Lent) : Type 0 where
  pub words_are : l.words ≡ map shown_word ts
  pub marks_are : l.marks ≡ map shown_mark ts
  pub which_are : l.which ≡ map shown_which ts

pub whole_run : (s₀ : Vote) (xs : List (ℕ × ℕ)) (l₀ : Lent) (end : ℕ) (s : Vote) (l : Lent) → Taken false s₀ xs l₀ end s true l → Shows (steps s₀ xs) l
whole_run s₀ xs l₀ end s l p =
    let every : length xs ≤ end = omega (arith, p.counted, takes_all s₀ xs) in
    let w = p.written in
    record {
      words_are = whole shown_word s₀ xs _ end _ every w.in_words;
      marks_are = whole shown_mark s₀ xs _ end _ every w.in_marks;
      which_are = whole shown_which s₀ xs _ end _ every w.in_which;
    }

-- what is promised is what the loops leave, where columns and slices are of one length
taken_most : (once : Bool) (s : Vote) (xs : List (ℕ × ℕ)) → taken_by once s xs ≤ length xs
unfolding taken_by
taken_most once s [] = omega arith
taken_most once s (x ∷ xs) = go (once && eqb (shown_mark (plain s x)) 2) (taken_most once (leaves (plain s x)) xs) where
  go : (b : Bool) → taken_by once (leaves (plain s x)) xs ≤ length xs → suc (if b then 0 else taken_by once (leaves (plain s x)) xs) ≤ suc (length xs)
  go true h = omega arith
  go false h = omega arith

shown_long : (f : VoteStep → ℕ) (s : Vote) (xs : List (ℕ × ℕ)) (end : ℕ) → end ≤ length xs → length (map f (steps s (take end xs))) ≡ end
shown_long f s xs end h = length-map (steps s (take end xs)) f ∙ trace_length plain leaves s (take end xs) ∙ length-take-le end xs h

pub promised :
    (once : Bool) (s : Vote) (a b : List ℕ) (l l' : Lent) (r : VotePart) → apart_pair a b (unequal a l.words l.marks l.which) ≡ false
    → Taken once s (zip a b) l r.end r.state true l' → Parts once s a b l.words l.marks l.which r l'.words l'.marks l'.which
promised once s a b l l' r alike p =
    let here : taken_by once s (zip a b) ≡ r.end = omega (arith, p.counted) in
    let w = p.written in
    record {
      answered = rw (alike, here, p.leaving);
      words_after = rw (← w.in_words.shown, ← w.in_words.rest) (sym (take-append-drop r.end l'.words));
      marks_after = rw (← w.in_marks.shown, ← w.in_marks.rest) (sym (take-append-drop r.end l'.marks));
      which_after = rw (← w.in_which.shown, ← w.in_which.rest) (sym (take-append-drop r.end l'.which));
    }

as_shown :
    (f : VoteStep → ℕ) (s : Vote) (xs : List (ℕ × ℕ)) (end : ℕ) (l₀ l : List ℕ) → end ≤ length xs → length l₀ ≡ length xs
    → l ≡ map f (steps s (take end xs)) ++ drop end l₀ → Shown f s xs l₀ end l
as_shown f s xs end l₀ l most as_long e =
    let ends = shown_long f s xs end most in
    let size : length l ≡ end + (length l₀ - end) = rw (e, length-append, ends, length-drop) in
    record {
      long = omega (arith, size);
      shown = rw e (take_at _ _ end ends);
      rest = rw e (drop_at (map f (steps s (take end xs))) (drop end l₀) end ends);
    }

module _ (once : Bool) (s : Vote) (a b : List ℕ) (l l' : Lent) (long : AsLong a b l) where
  alike : apart_pair a b (unequal a l.words l.marks l.which) ≡ false
  alike = rw (eq-eqb _ _ long.second_long, eq-eqb _ _ long.words_long, eq-eqb _ _ long.marks_long, eq-eqb _ _ long.which_long)

  pub as_taken :
      (r : VotePart) → Parts once s a b l.words l.marks l.which r l'.words l'.marks l'.which → Taken once s (zip a b) l r.end r.state true l'
  as_taken r p =
      let xs = zip a b in
      let is : r ≡ part once s xs = rw alike at p.answered in
      let ended : r.end ≡ taken_by once s xs = ap (λ (r : VotePart). r.end) is in
      let most : r.end ≤ length xs = omega (arith, ended, taken_most once s xs) in
      let size = zip_length a b long.second_long in
      record {
        counted = omega (arith, ended);
        leaving = rw ended (sym (ap (λ (r : VotePart). r.state) is));
        written = record {
          in_words = as_shown shown_word s xs r.end l.words l'.words most (omega (arith, size, long)) p.words_after;
          in_marks = as_shown shown_mark s xs r.end l.marks l'.marks most (omega (arith, size, long)) p.marks_after;
          in_which = as_shown shown_which s xs r.end l.which l'.which most (omega (arith, size, long)) p.which_after;
        };
      }
